use Rattle.std.proofs.Common.{◌∙◌, ap, refl, inr, length, not, Some}
use Rattle.mig_mem.specs.Place.{has_place}
use Rattle.mig_mem.specs.PlaceSet.{PlaceSet, places_where}
use Rattle.mig_mem.specs.Image.{Image}
use Rattle.mig_load_types.specs.Settings.{single_of}
use Rattle.mig_single_load.specs.Loader.{loader, put_so_far, sections_loaded}
use Rattle.mig_single_load.proofs.Sections.{answered_there, answered_without_table}
use Rattle.mig_single_load.proofs.settle.answer.Goals as goal

pub returns-in-Some-default : goal.returns-in-Some-default
returns-in-Some-default g c = λ given text ended loads.
    let r = c.args.reader.now in
    let so_far = put_so_far text ended (sections_loaded (loader r c.args.target)) in
    let single = single_of given in
    answered_there given r c.args.target c.in-Some-default.target text ended _ c.lacking-missing.result c.in-Some-default.is-0
    loads (c.verdict-verdict.ensures given text ended loads)
    (ap (λ (m : Image). Some m) c.into_memory.ensures) c.rounds-rounds.ensures refl
    (c.lacking-missing.ensures.value ∙ ap (λ (s : PlaceSet). length (places_where s.table (λ p. not (has_place s.marked p)))) c.named.ensures)
    (c.closed_at.ensures single so_far loads.stands) (c.valid_up_to.ensures single so_far loads.stands)

pub returns-in-None-Some : goal.returns-in-None-Some
returns-in-None-Some g c = λ given text ended loads.
    let l = loader c.args.reader.now c.args.target in
    inr (
      record {
        table = c.in-None-Some.field-0-1.now;
        has_table = c.in-None-Some.ensures (single_of given) (put_so_far text ended (sections_loaded l)) loads.stands;
        has_no_memory = c.in-None-Some.is-0;
      },
      c.without_memory.ensures,
    )

pub returns-in-None-None : goal.returns-in-None-None
returns-in-None-None g c = λ given text ended loads.
    let r = c.args.reader.now in
    let so_far = put_so_far text ended (sections_loaded (loader r c.args.target)) in
    let single = single_of given in
    answered_without_table given r c.args.target text _ c.in-None-None.is-0 loads.is_page_size (c.in-None-None.ensures single so_far loads.stands)
    (c.verdict-verdict.ensures given text ended loads) refl refl refl
    (c.closed_at-in-None-None.ensures single so_far loads.stands) (c.valid_up_to-in-None-None.ensures single so_far loads.stands)
