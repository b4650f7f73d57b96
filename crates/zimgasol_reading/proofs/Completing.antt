-- Whether a stream is complete, as its survey has it.
use Rattle.std.proofs.Common.{ℕ, ◌≡◌, ◌<◌, ◌^◌, Bool, List, ◌++◌, Option, Some, None, inl, inr, sym, ap, ◌∙◌, subst}
use Rattle.std.specs.Prelude.{All, IfSome, IsSomeAnd, ◌↔◌}
use Rattle.std.proofs.lemmas.List.{append-nil}
use Rattle.mig_mem.specs.declared.place.Place.{Place}
use Rattle.mig_mem.specs.RamTable.{RamTable}
use Rattle.mig_mem.specs.Place.{IsPlace, has_place}
use Rattle.mig_mem.specs.PlaceSet.{PlaceSet}
use Rattle.mig_mem.proofs.Sets.{has_place-where}
use Rattle.mig_stream.specs.declared.item.StreamState.TheVariants.{Closed}
use Rattle.mig_stream.specs.PageRecord.{PageRecord}
use Rattle.mig_stream.specs.Reading.{Settings}
use Rattle.zimgasol_reading.specs.declared.blocks.Blocks.{Blocks}
use Rattle.zimgasol_reading.specs.declared.survey.Survey.{Survey}
use Rattle.zimgasol_reading.specs.Coverage.{IsWhole, HasItsPages, IsComplete}
use Rattle.zimgasol_reading.specs.Recorded.{records_of, pages_named, AreNamed, NameEachPage}
use Rattle.zimgasol_reading.specs.Surveyed.{IsSurveyed, IsCompleteStream}

-- a page is marked exactly if it is named
marked_is : (b : Blocks) (records : List PageRecord) (p : Place) → AreNamed b.recorded.table records b → IsPlace b.recorded.table p
    → has_place b.recorded.marked p ≡ has_place (pages_named records) p
marked_is b records p named here =
    ap (λ (s : PlaceSet). has_place s.marked p) named ∙ has_place-where b.recorded.table (has_place (pages_named records)) p here

whole_named : (blocks : Option Blocks) (table : Option RamTable) (records : List PageRecord) → IfSome blocks (λ b. AreNamed b.recorded.table records b)
    → IsSomeAnd blocks (λ b. table ≡ Some b.recorded.table) → IfSome blocks IsWhole ↔ NameEachPage table records
whole_named None table records named is = absurd is
whole_named (Some b) table records named is =
    let to : IsWhole b → NameEachPage (Some b.recorded.table) records = λ whole p here. sym (marked_is b records p named here) ∙ whole p here in
    let from : NameEachPage (Some b.recorded.table) records → IsWhole b = λ each p here. marked_is b records p named here ∙ each p here in (
      λ whole. subst (λ (t : Option RamTable). NameEachPage t records) (sym is) (to whole),
      λ each. from (subst (λ (t : Option RamTable). NameEachPage t records) is each),
    )

has_pages : (is_laid_over is_partial : Bool) (W V : Type 0) → (W → V) → HasItsPages is_laid_over is_partial W → HasItsPages is_laid_over is_partial V
has_pages is_laid_over is_partial W V f (inl laid) = inl laid
has_pages is_laid_over is_partial W V f (inr (inl partial)) = inr (inl partial)
has_pages is_laid_over is_partial W V f (inr (inr whole)) = inr (inr (f whole))

pub complete_is : (given : Settings) (text : List ℕ) (survey : Survey) (s : IsSurveyed given text survey.state survey.sections survey.valid survey.blocks)
    → All (λ byte. byte < 2 ^ 8) text → IsComplete survey ↔ IsCompleteStream s.reading survey.is_laid_over survey.is_partial
complete_is given text survey s bytes = (to, from)
  where
    both : survey.state ≡ Closed → IfSome survey.blocks IsWhole ↔ NameEachPage s.reading.table (records_of s.reading.rounds)
    both closed =
        let all : records_of s.reading.rounds ++ s.is_reading.to.records ≡ records_of s.reading.rounds =
        ap (λ (l : List PageRecord). records_of s.reading.rounds ++ l) (s.has_none_open closed) ∙ append-nil (records_of s.reading.rounds) in
        whole_named survey.blocks s.reading.table (records_of s.reading.rounds)
        (subst (λ (l : List PageRecord). IfSome survey.blocks (λ b. AreNamed b.recorded.table l b)) all s.has_pages) (s.has_table closed bytes)

    to : IsComplete survey → IsCompleteStream s.reading survey.is_laid_over survey.is_partial
    to is = (sym s.has_state ∙ is.0, has_pages survey.is_laid_over survey.is_partial _ _ (both is.0).0 is.1)

    from : IsCompleteStream s.reading survey.is_laid_over survey.is_partial → IsComplete survey
    from is = let closed = s.has_state ∙ is.0 in (closed, has_pages survey.is_laid_over survey.is_partial _ _ (both closed).1 is.1)
