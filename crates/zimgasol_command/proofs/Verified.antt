-- What `verify` calls complete is what it promises, in the bytes that it read.
use Rattle.std.proofs.Common.{ℕ, ◌≡◌, ◌<◌, ◌^◌, Bool, List, drop, refl, sym, ap, ◌∙◌, subst}
use Rattle.std.specs.Prelude.{All, Result, Ok, Err, IfOk, IsNone, IsTrue, ◌↔◌, false}
use Rattle.mig_mem.specs.PageSize.{IsPageSize}
use Rattle.mig_stream.specs.declared.item.Frame.{Frame}
use Rattle.mig_stream.specs.declared.item.Mode.TheVariants.{Single}
use Rattle.mig_stream.specs.declared.item.StreamState.TheVariants.{Closed}
use Rattle.mig_stream.specs.Reading.{Settings, StreamReading, settings, in_frame, IsReading}
use Rattle.mig_stream.proofs.Exists.{one_reading_law}
use Rattle.zimgasol_files.specs.declared.words.StreamWords.{StreamWords}
use Rattle.zimgasol_files.specs.Asked.{page_bytes, most_total, ChecksEnding}
use Rattle.zimgasol_reading.specs.declared.survey.Survey.{Survey}
use Rattle.zimgasol_reading.specs.Coverage.{IsComplete}
use Rattle.zimgasol_reading.specs.Libvirt.{IsBefore}
use Rattle.zimgasol_reading.proofs.Completing.{complete_is}
use Rattle.zimgasol_reading.proofs.Headers.{one_before}
use Rattle.zimgasol_reading.specs.Surveyed.{IsSurveyed, IsCompleteStream, HasWholeEnding, IsEnded, IsWholeSave, asked_of, before_of}

-- the settings that a survey reads with
abbrev given_of : Survey → Settings
given_of s = in_frame s.frame (settings Single s.page_size s.limit)

-- What a survey was asked for, as the words say.
pub record IsSurveyFor (words : StreamWords) (s : Survey) : Type 0 where
  pub has_frame : s.frame ≡ words.frame
  pub has_partial : s.is_partial ≡ words.partial
  pub has_none_below : s.is_laid_over ≡ false
  pub has_page_size : s.page_size ≡ page_bytes words.page_size
  pub has_limit : s.limit ≡ most_total words
  pub is_page_size : IsPageSize s.page_size

given_is : (words : StreamWords) (s : Survey) → IsSurveyFor words s → given_of s ≡ asked_of words
given_is words s a =
    ap (λ (f : Frame). in_frame f (settings Single s.page_size s.limit)) a.has_frame
    ∙ ap (λ p. in_frame words.frame (settings Single p s.limit)) a.has_page_size
    ∙ ap (λ l. in_frame words.frame (settings Single (page_bytes words.page_size) l)) a.has_limit

module _ (words : StreamWords) (s : Survey) (text : List ℕ) (asked : IsSurveyFor words s) (before : IsBefore text (before_of s.libvirt))
    (found : IsSurveyed (given_of s) (drop (before_of s.libvirt) text) s.state s.sections s.valid s.blocks)
    (bytes : All (λ byte. byte < 2 ^ 8) (drop (before_of s.libvirt) text))
    (ended : s.state ≡ Closed → IsEnded (ChecksEnding words) (given_of s) (drop (before_of s.libvirt) text) s.ending.fault) where
  abbrev stream : List ℕ
  stream = drop (before_of s.libvirt) text

  complete : IsComplete s ↔ IsCompleteStream found.reading false words.partial
  complete =
      subst (λ (l : Bool). IsComplete s ↔ IsCompleteStream found.reading l words.partial) asked.has_none_below
      (subst (λ (p : Bool). IsComplete s ↔ IsCompleteStream found.reading s.is_laid_over p) asked.has_partial
      (complete_is (given_of s) stream s found bytes))

  ends : s.state ≡ Closed → IsEnded (ChecksEnding words) (asked_of words) stream s.ending.fault
  ends closed = subst (λ (g : Settings). IsEnded (ChecksEnding words) g stream s.ending.fault) (given_is words s asked) (ended closed)

  reads : IsReading (asked_of words) stream found.reading
  reads = subst (λ (g : Settings). IsReading g stream found.reading) (given_is words s asked) found.is_reading

  to : IsComplete s × IsNone s.ending.fault → IsWholeSave words text
  to is = record {
    before = before_of s.libvirt;
    is_before = before;
    reading = found.reading;
    is_reading = reads;
    is_complete = complete.0 is.0;
    has_ending = (ends is.0.0).0 is.1;
  }

  back : IsWholeSave words text → IsComplete s × IsNone s.ending.fault
  back w =
      let same : w.before ≡ before_of s.libvirt = one_before text w.before (before_of s.libvirt) w.is_before before in
      let there : IsReading (asked_of words) stream w.reading =
      subst (λ k. IsReading (asked_of words) (drop k text) w.reading) same w.is_reading in
      let one = one_reading_law (asked_of words) stream (subst IsPageSize asked.has_page_size asked.is_page_size) in
      let is : w.reading ≡ found.reading = one.2 w.reading there ∙ sym (one.2 found.reading reads) in
      let whole : IsComplete s = complete.1 (subst (λ (r : StreamReading). IsCompleteStream r false words.partial) is w.is_complete) in (
        whole,
        (ends whole.0).1 (λ checked. subst (λ k. HasWholeEnding (asked_of words) (drop k text)) same (w.has_ending checked)),
      )

  pub whole_is : IsComplete s × IsNone s.ending.fault ↔ IsWholeSave words text
  whole_is = (to, back)

-- ---- what holds of a result

pub if_ok : {X E : Type 0} (P : X → Type 0) (r : Result X E) (x : X) → r ≡ Ok x → IfOk r P → P x
if_ok {X = X} {E = E} P r x is held = subst (λ (o : Result X E). IfOk o P) is held

pub exactly : {E A : Type 0} (K F B W : List ℕ → Type 0) (r : Result Bool E) → IfOk r (λ w. IsTrue w ↔ A)
    → ((text : List ℕ) → K text → F text → B text → A ↔ W text) → IfOk r (λ w. (text : List ℕ) → K text → F text → B text → IsTrue w ↔ W text)
exactly K F B W (Ok w) both next = λ text known few bytes.
    let same = next text known few bytes in (λ whole. same.0 (both.0 whole), λ it. both.1 (same.1 it))
exactly K F B W (Err e) both next = tt
