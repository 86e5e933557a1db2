-- In reading order. The grammar: Number, Request, Reply, RequestParts, ReplyParts. Reading and
-- writing it: Counted, Lent, Parsed, RequestReader, RequestFill, RequestStream, ReplyFront,
-- ReplyReader, ReplyFill, ReplyWriter. Inside the code: RequestFront, RequestKept. For programs:
-- Print, Argument.
pub mod Number
pub mod Parsed
pub mod Request
pub mod Reply
pub mod Lent
pub mod RequestParts
pub mod RequestFront
pub mod RequestReader
pub mod RequestKept
pub mod RequestFill
pub mod RequestStream
pub mod ReplyParts
pub mod ReplyFront
pub mod ReplyReader
pub mod ReplyFill
pub mod ReplyWriter
pub mod Counted
pub mod Print
pub mod Argument
