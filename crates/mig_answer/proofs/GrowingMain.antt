-- What is read of a main stream stays read if more bytes follow, or it ends.
use Rattle.std.proofs.Common.{◌≡◌, ◌≢◌, ℕ, Bool, true, false, List, [], ◌++◌, None, refl, sym, ap, subst, ◌∙◌, inl, inr}
use Rattle.std.proofs.lemmas.Bool.{cases_Bool}
use Rattle.mig_mem.specs.PageSize.{IsPageSize}
use Rattle.mig_stream.specs.declared.item.StreamState.{StreamState}
use Rattle.mig_stream.specs.declared.item.StreamState.TheVariants.{Reading, Closed, Bad}
use Rattle.mig_stream.specs.PageRecord.{PageRecord}
use Rattle.mig_stream.specs.Reading.{Settings, StreamReading, IsReading, state_at}
use Rattle.mig_stream.specs.Reader.{HasRound}
use Rattle.mig_stream.specs.Law.{StaysRead}
use Rattle.mig_stream.proofs.Exists.{one_reading_law}
use Rattle.mig_stream.proofs.Limits.{limits_law}
use Rattle.mig_stream.proofs.Longer.{longer_law, stays_over}
use Rattle.mig_load_types.specs.Settings.{main_of}
use Rattle.mig_load_types.specs.declared.settings.LoadSettings.{LoadSettings}
use Rattle.mig_answer.specs.Texts.{Text, IsMainReading}
use Rattle.mig_answer.specs.Growing.{GoesOn}
use Rattle.mig_answer.proofs.OneAnswer.{same_main}
use Rattle.mig_answer.proofs.GrowingChannels.{round_of_more}

-- an end changes nothing if a stream isn't to be read on
state_stays : (ended : Bool) (s : StreamState) → s ≢ Reading → state_at ended s ≡ s
state_stays true Reading other = absurd (other refl)
state_stays true Closed other = refl
state_stays true (Bad f) other = refl
state_stays false s other = refl

-- a stream that may have ended, as it was read
abbrev at_end : Bool → StreamReading → StreamReading
at_end ended found = record found { state = state_at ended found.state }

at_end_same : (ended : Bool) (found : StreamReading) → found.state ≢ Reading → at_end ended found ≡ found
at_end_same ended found other =
    ap (λ (s : StreamState). record { table = found.table; rounds = found.rounds; state = s }) (state_stays ended found.state other)

-- what is read of a main stream stays read
pub main_stays : (given : LoadSettings) (old new : Text) (before now : StreamReading) → IsPageSize given.page_size → GoesOn old new
    → IsMainReading given old before → IsMainReading given new now → StaysRead before now
main_stays given old new before now size goes is_before is_now = elim (cases_Bool old.ended) [
  | inl t ↦
      let again : IsMainReading given old now = subst (λ (text : Text). IsMainReading given text now) (goes.stays_ended t) is_now in
      stays_over before now (same_main given old now before size again is_before)
  | inr f ↦
      let x : StreamReading = is_before.found in
      let y : StreamReading = is_now.found in
      let longer : StaysRead x y = longer_law (main_of given) old.bytes goes.more x y size is_before.is_reading
      (subst (λ (bytes : List ℕ). IsReading (main_of given) bytes y) goes.has_bytes is_now.is_reading) in
      let first : before ≡ x = is_before.has_end ∙ ap (λ (ended : Bool). at_end ended x) f in
      record {
        more_rounds = longer.more_rounds;
        has_rounds = ap (λ (r : StreamReading). r.rounds) is_now.has_end ∙ longer.has_rounds
            ∙ ap (λ (r : StreamReading). r.rounds ++ longer.more_rounds) (sym first);
        same_table = λ table t.
            ap (λ (r : StreamReading). r.table) is_now.has_end ∙ longer.same_table table (sym (ap (λ (r : StreamReading). r.table) first) ∙ t);
        same_once_over = λ other.
            let settled : x.state ≢ Reading = λ e. other (ap (λ (r : StreamReading). r.state) first ∙ e) in
            is_now.has_end ∙ ap (at_end new.ended) (longer.same_once_over settled) ∙ at_end_same new.ended x settled ∙ sym first;
      }
]

-- there is no round before the table is known
pub main_table_first : (given : LoadSettings) (text : Text) (reading : StreamReading) → IsPageSize given.page_size
    → IsMainReading given text reading → reading.table ≡ None
    → reading.rounds ≡ []
main_table_first given text reading size is none =
    let limits = limits_law (main_of given) text.bytes is.found size is.is_reading in
    ap (λ (r : StreamReading). r.rounds) is.has_end ∙ limits.has_table_first (sym (ap (λ (r : StreamReading). r.table) is.has_end) ∙ none)

-- a round of the main stream stays if more bytes follow
pub main_round_stays : (given : Settings) (text more : List ℕ) (k : ℕ) (round : List PageRecord) → IsPageSize given.page_size → HasRound given text k round
    → HasRound given (text ++ more) k round
main_round_stays given text more k round size has =
    let next = one_reading_law given (text ++ more) size in
    let stays = longer_law given text more has.0 next.0 size has.1 next.1 in
    let kept = round_of_more has.0.rounds next.0.rounds stays.more_rounds k stays.has_rounds has.2 in
    (next.0, next.1, kept.0, kept.1 ∙ has.3)
