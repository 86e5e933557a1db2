-- Printing: text from others in a form that is safe to print. Status: the numbers of the exit
-- statuses.
pub mod Printing
pub mod Status
