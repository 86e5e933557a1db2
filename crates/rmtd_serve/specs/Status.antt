-- How a stream ends, and the exit status of its server. Public contracts cite it.
use Rattle.std.specs.Prelude.{ℕ, Result, Ok, Err}
use Rattle.rmt_server.specs.declared.stream.Served.{Served}
use Rattle.rmt_server.specs.declared.stream.Served.TheVariants.{End, Truncated, Broken}
use Rattle.rmt_server.specs.declared.stream.ServeFault.{ServeFault}
use Rattle.rmtd_serve.specs.declared.session_fault.SessionFault.{SessionFault}
use Rattle.rmtd_serve.specs.declared.session_fault.SessionFault.TheVariants.{Stream}
use Rattle.rmtd_serve.specs.declared.status.ExitStatus.{ExitStatus}
use Rattle.rmtd_serve.specs.declared.status.ExitStatus.TheVariants.{Ended, Failed, CutOff, Malformed}

-- the ending of a stream that a session served with this result
abbrev pub ending_of : Result Served ServeFault → Result Served SessionFault
ending_of (Ok served) = Ok served
ending_of (Err fault) = Err (Stream fault)

-- the exit status for how the stream ended
abbrev pub exit_status : Result Served SessionFault → ExitStatus
exit_status (Ok End) = Ended
exit_status (Err fault) = Failed
exit_status (Ok Truncated) = CutOff
exit_status (Ok (Broken fault)) = Malformed

-- the number of an exit status
abbrev pub exit_code : ExitStatus → ℕ
exit_code Ended = 0
exit_code Failed = 1
exit_code CutOff = 2
exit_code Malformed = 3
