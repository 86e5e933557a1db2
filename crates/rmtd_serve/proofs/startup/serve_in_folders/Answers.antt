use Rattle.std.proofs.Common.{rules, arith, refl, sym, subst}
use Rattle.reel_files.specs.Folders.{FolderLibrary}
use Rattle.rmt_server.specs.Stream.{streams, streams_kind}
use Rattle.rmtd_serve.specs.Folders.{folder_kinds}
use Rattle.rmtd_serve.specs.Generic.{IsServedAt}
use Rattle.rmtd_serve.specs.Startup.{IsDone}
use Rattle.rmtd_serve.specs.Startup.EndsLine.{in_folders}
use Rattle.rmtd_serve.proofs.startup.serve_in_folders.Goals as goal

pub returns-clause-done : goal.returns-clause-done
returns-clause-done g c =
    subst (IsDone (streams_kind g.I.Read.remaining g.O.Write.contents) c.args.line.now (streams c.args.input.now c.args.output.now)
    (streams c.serve-ending.new.input c.serve-ending.new.output)) (sym c.end.ensures)
    (in_folders c.serve-ending.result c.args.stacks c.serve-ending.new.self (search rules) (omega (arith, c.requires.some)) c.requires.named
    (subst (λ (before : FolderLibrary). IsServedAt folder_kinds (streams_kind g.I.Read.remaining g.O.Write.contents) before c.serve-ending.new.self (streams c.args.input.now c.args.output.now)
    (streams c.serve-ending.new.input c.serve-ending.new.output) c.serve-ending.result) (search rules) c.serve-ending.ensures) refl)
