-- The plain values of requests and replies that lend bytes. A plain value is what contracts use for
-- a value that the code has in memory. Public contracts cite it.
use Rattle.std.specs.Prelude.{ℕ, Option, Some, None, Result, Ok, Err}
use Rattle.rmt_wire.specs.Request.{PlainRequest}
use Rattle.rmt_wire.specs.Request.PlainRequest.{Open, Close, Write, WriteDropped, Read, Op}
use Rattle.rmt_wire.specs.Reply.{PlainReply}
use Rattle.rmt_wire.specs.Reply as kinds
use Rattle.rmt_wire.specs.Reply.PlainReply.{Done, Data, Error}
use Rattle.rmt_wire.specs.declared.fault.WireFault.{WireFault}
use Rattle.rmt_wire.specs.declared.request.Request.{Request}
use Rattle.rmt_wire.specs.declared.request.Request.TheVariants as lent
use Rattle.rmt_wire.specs.declared.reply.Reply.{Reply}
use Rattle.rmt_wire.specs.declared.reply.Reply.TheVariants as reply
use Rattle.rmt_wire.specs.declared.reply.wanted.Wanted.{Wanted}
use Rattle.rmt_wire.specs.declared.reply.wanted.Wanted.TheVariants as wanted

-- the plain value of a request
abbrev pub plain_request : Request → PlainRequest
plain_request (lent.Open device mode) = Open device.now mode
plain_request lent.Close = Close
plain_request (lent.Write bytes) = Write bytes.now
plain_request (lent.WriteDropped count) = WriteDropped count
plain_request (lent.Read count) = Read count
plain_request (lent.Op op count) = Op op count

-- the plain value of a reply
abbrev pub plain_reply : Reply → PlainReply
plain_reply (reply.Done number) = Done number
plain_reply (reply.Data bytes) = Data bytes.now
plain_reply (reply.Error number text) = Error number text.now

-- the result of reading a request and its length, with the plain value of the request
abbrev pub lent_front : Result (Option (Request × ℕ)) WireFault → Result (Option (PlainRequest × ℕ)) WireFault
lent_front (Ok None) = Ok None
lent_front (Ok (Some found)) = Ok (Some (plain_request found.0, found.1))
lent_front (Err fault) = Err fault

-- the plain value of what is waited for
abbrev pub plain_wanted : Wanted → kinds.Wanted
plain_wanted wanted.Number = kinds.Wanted.Number
plain_wanted (wanted.Data most) = kinds.Wanted.DataUpTo most

-- the plain value of what is waited for, if anything is
abbrev pub plain_wanted_if_some : Option Wanted → Option kinds.Wanted
plain_wanted_if_some None = None
plain_wanted_if_some (Some wanted) = Some (plain_wanted wanted)

-- the result of reading a reply and its length, with the plain value of the reply
abbrev pub lent_reply : Result (Option (Reply × ℕ)) WireFault → Result (Option (PlainReply × ℕ)) WireFault
lent_reply (Ok None) = Ok None
lent_reply (Ok (Some found)) = Ok (Some (plain_reply found.0, found.1))
lent_reply (Err fault) = Err fault
