use Rattle.zimgasol_command.proofs.extracting.Extraction.begin_files.Goals as goal

pub returns : goal.returns
returns g c = c.in_ok-copy_all.ensures c.args.table.now (c.in_ok-begin-2.ensures.taken (λ i h none. absurd none))
