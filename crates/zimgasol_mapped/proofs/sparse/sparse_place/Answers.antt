use Rattle.std.proofs.Common.{sym}
use Rattle.std.proofs.lemmas.Bool.Decides.{Decides-eqb}
use Rattle.std.proofs.lemmas.Slice.Eq.{slice_eq-Decides}
use Rattle.zimgasol_mapped.proofs.sparse.sparse_place.Goals as goal

pub stream_place-requires-clause-magic : goal.stream_place-requires-clause-magic
stream_place-requires-clause-magic c = sym ((slice_eq-Decides Decides-eqb _ _ _ c.starts_with.ensures.value).0 c.if-not-starts_with.false)
