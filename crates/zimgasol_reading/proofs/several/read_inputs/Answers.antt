use Rattle.std.proofs.Common.{map, sym, subst}
use Rattle.mig_mem.specs.PageSize.{IsPageSize}
use Rattle.zimgasol_reading.specs.Consumed.{Bytes}
use Rattle.zimgasol_reading.specs.Inlets.{inlet_left}
use Rattle.zimgasol_reading.proofs.Surveying.{if_ok}
use Rattle.zimgasol_reading.proofs.several.read_inputs.Goals as goal

pub read-read-requires-clause-page_size : goal.read-read-requires-clause-page_size
read-read-requires-clause-page_size g c = subst IsPageSize (sym c.expect_file.ensures.asked.2) c.in-Ok.ensures.bounds.0

pub returns-in-Ok-read-clause-answered : goal.returns-in-Ok-read-clause-answered
returns-in-Ok-read-clause-answered g c =
    let left = g.R.Read.remaining c.args.input.now in
    let all : Bytes = record { main = left; channels = map (inlet_left g.F.Read.remaining) c.args.inlets.items } in
    if_ok _ _ _ c.in-Ok-read.is c.read-read.ensures.answered all (c.expect_file.ensures.begun all left (c.in-Ok.ensures.begun left))
