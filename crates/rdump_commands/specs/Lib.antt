-- Status: the exit statuses of single commands.
pub mod Status
