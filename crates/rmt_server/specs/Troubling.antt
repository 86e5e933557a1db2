-- Trouble for the open reel. Public contracts cite it.
use Rattle.std.specs.Prelude.{Option, Some, None}
use Rattle.tape.specs.Trouble.{TroubledTape}
use Rattle.tape.specs.declared.trouble.Trouble.{Trouble}
use Rattle.rmt_server.specs.declared.session.session_state.Opened.{Opened}

-- the reel, if there is one, with this trouble set for its next device call
abbrev pub troubled : Trouble → Option TroubledTape → Option TroubledTape
troubled trouble None = None
troubled trouble (Some reel) = Some (record reel { trouble = trouble })

-- what is open, with this trouble set for the next device call of its reel
abbrev pub with_trouble : Trouble → Option (Opened TroubledTape) → Option (Opened TroubledTape)
with_trouble trouble None = None
with_trouble trouble (Some device) = Some (record device { reel = troubled trouble device.reel })
