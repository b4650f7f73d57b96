use Rattle.std.proofs.Common.{◌≡◌, Option, ap}
use Rattle.std.specs.Prelude.{is_some}
use Rattle.mig_stream.specs.declared.item.StreamState.TheVariants.{Closed}
use Rattle.zimgasol_reading.specs.declared.place.FaultPlace.{FaultPlace}
use Rattle.zimgasol_reading.proofs.Completing.{complete_is}
use Rattle.zimgasol_reading.proofs.place.is_complete.Goals as goal

pub returns-in-None-clause-stream : goal.returns-in-None-clause-stream
returns-in-None-clause-stream c = λ given text s bytes.
    let both = complete_is given text c.args.survey.now s bytes in
    let closed : c.args.survey.now.state ≡ Closed = c.fault_of.ensures.complete.0 (ap (λ (o : Option FaultPlace). is_some o) c.in-None.is) in
    (λ whole. both.0 (closed, c.has_its_pages.ensures.0 whole), λ whole. c.has_its_pages.ensures.1 (both.1 whole).1)
