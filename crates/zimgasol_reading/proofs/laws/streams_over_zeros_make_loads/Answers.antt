use Rattle.std.proofs.Common.{sym, map}
use Rattle.mig_mem.proofs.Rounds.{onto-zeros}
use Rattle.mig_stream.specs.PageRecord.{page_of}
use Rattle.zimgasol_reading.proofs.laws.streams_over_zeros_make_loads.Goals as goal

pub returns : goal.returns
returns c table rounds = sym (onto-zeros table (map (map (page_of table.page_size)) rounds))
