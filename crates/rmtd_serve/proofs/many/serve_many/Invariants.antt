use Rattle.rmtd_serve.proofs.many.serve_many.Given as goal

abbrev pub ghosts-serve_at_table : goal.ghosts-serve_at_table
ghosts-serve_at_table g a = record { table = a.table.now }
