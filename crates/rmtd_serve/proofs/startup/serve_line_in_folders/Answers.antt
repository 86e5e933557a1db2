use Rattle.std.proofs.Common.{rules}
use Rattle.rmtd_serve.proofs.startup.serve_line_in_folders.Goals as goal

pub serve_in_folders-requires-clause-named : goal.serve_in_folders-requires-clause-named
serve_in_folders-requires-clause-named g c = (c.args.bin.now, c.requires.same, search rules)
