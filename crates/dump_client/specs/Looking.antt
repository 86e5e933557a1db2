-- The label that the look finds. The look is the read of the reel's first record, before anything is
-- written. Public contracts cite it.
use Rattle.std.specs.Prelude.{◌≡◌, ℕ, List, [], Option, Some, None, Ok}
use Rattle.rmt_wire.specs.Reply.PlainReply.{Data}
use Rattle.rmt_wire.specs.ReplyParts.{ReplyParsesAs}
use Rattle.dump_run.specs.Label.{PlainLabel, ReadsLabel}
use Rattle.dump_client.specs.Script.{wanted_of}
use Rattle.dump_client.specs.declared.step.Step.{Step}
use Rattle.dump_client.specs.declared.step.Step.TheVariants.{Look}
use Rattle.dump_client.specs.declared.stage.Stage.{Stage}
use Rattle.dump_client.specs.declared.stage.Stage.TheVariants.{Waiting}
use Rattle.dump_client.specs.declared.stage.Progress.{Progress}
use Rattle.dump_client.specs.declared.stage.Progress.TheVariants.{Send}

-- The label that a piece finds, if `bytes` came since the request, this piece included. If the
-- attempt continues after the look, the bytes are the reply with the record, and the label is what
-- the record is read as. In every other case there is none.
abbrev pub FindsLabel : Stage → List ℕ → Progress → Option PlainLabel → Type 0
FindsLabel (Waiting Look) bytes Send label =
    (contents : List ℕ) × ReplyParsesAs (Some (wanted_of Look)) bytes (Ok (Some (Data contents))) [] × ReadsLabel contents label
FindsLabel stage bytes progress label = label ≡ None

-- the label in a reply to a step, if the step is the look and the attempt continues; otherwise none
abbrev pub found_label : Step → Progress → Option PlainLabel → Option PlainLabel
found_label Look Send label = label
found_label step progress label = None
