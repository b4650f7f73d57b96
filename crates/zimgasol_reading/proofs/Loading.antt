-- The streams that a load has taken, step by step.
use Rattle.std.proofs.Common.{◌≡◌, List, [], length, get_or, sym, ap, subst, inl, inr, arith}
use Rattle.std.proofs.lemmas.Bool.{cases_lt}
use Rattle.std.proofs.lemmas.List.{length-map, set_past}
use Rattle.std.proofs.lemmas.Slice.Zip.{AllZip-long}
use Rattle.mig_load_types.specs.Settings.{for_table, channel_of}
use Rattle.mig_answer.specs.Texts.{Text, Texts, no_text, over}
use Rattle.mig_sources.specs.declared.source.Source.{Source}
use Rattle.mig_sources.specs.declared.source.Source.TheVariants as source
use Rattle.mig_sources.specs.Sources.{HasSource, feed_step, end_step}
use Rattle.mig_mem.specs.Image.{Image}
use Rattle.mig_in_place.specs.Sources.{HasGiven, channel_count, counts_of}
use Rattle.mig_in_place.specs.Session.{InPlaceLoad, StandsFor, StepsOn, JudgesOn, Loading, IsJudged, Stands}
use Rattle.mig_in_place.proofs.Feeding.{fed_none}

-- ---- a piece

-- no byte changes nothing
pub none_fed : (from : Source) (memory : Image) (s : InPlaceLoad) → StepsOn (feed_step from []) memory s memory s
none_fed from memory s given uuid first texts stands = subst (λ (t : Texts). StandsFor given uuid first t memory s) (sym (fed_none from texts)) stands

-- a round that was judged lawful, and then counted
pub counted : (step : Texts → Texts) (before judged after : Image) (old s new : InPlaceLoad) → JudgesOn step before old judged s
    → ((f : Loading) → IsJudged f judged s → Stands f after new) → StepsOn step before old after new
counted step before judged after old s new judges goes given uuid first texts stands =
    goes (record { given = given; uuid = uuid; first = first; texts = step texts }) (judges given uuid first texts stands)

-- a source that the load hasn't can't end
pub never_there : (from : Source) (memory : Image) (s : InPlaceLoad) → (HasSource (counts_of s.sources) from → ⊥) → StepsOn (end_step from) memory s memory s
never_there source.Main memory s none given uuid first texts stands = absurd (none tt)
never_there (source.Channel j) memory s none given uuid first texts stands =
    elim (cases_lt j (length texts.channels)) [
      | inl below ↦
          let same : length s.sources.channels ≡ length texts.channels =
          AllZip-long (HasGiven (channel_of (for_table first.table given) uuid (length texts.channels))) texts.channels s.sources.channels
          stands.have_taken.channels in
          absurd (none (let all = length-map s.sources.channels channel_count in omega (arith, below, same, all)))
      | inr past ↦ subst (λ (t : Texts). StandsFor given uuid first t memory s)
          (sym (ap (λ (l : List Text). record texts { channels = l })
          (set_past texts.channels j (over (get_or texts.channels j no_text)) (omega (arith, past))))) stands
    ]
