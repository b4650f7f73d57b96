-- What ends a round, after records and sections: as the mode says, or as the stream shows.
use Rattle.std.proofs.Common.{◌≡◌, ◌⊎◌, Bool, true, false, ◌||◌, List, [], ◌∷◌, ◌++◌, refl, sym, ap, subst, ◌∙◌, inl, inr}
use Rattle.mig_stream.specs.declared.item.Mode.{Mode}
use Rattle.mig_stream.specs.declared.item.Mode.TheVariants.{Single, Main, MainBySection, MainAsShown}
use Rattle.mig_stream.specs.PageRecord.{PageRecord}
use Rattle.mig_stream.specs.Items.{is_single, has_none, flush_mode, flush_ends, flush_rounds, open_records, whole_rounds, eos_mode, eos_records, eos_rounds}
use Rattle.mig_stream.specs.Later.{is_open}
use Rattle.mig_stream.specs.Text.{Record, PageOf, FlushMark, has_flush, begin_with_flush, show_flush}
use Rattle.mig_stream.proofs.After.{records_after, rounds_after, mode_after, records_left, rounds_left, mode_behind, records_behind, rounds_behind}
use Rattle.mig_stream.proofs.Steps.{flush_keeps, eos_keeps}

-- ---- no stream becomes single, or stops being so

single_after : (m : Mode) (in_start : Bool) (before : List PageRecord) (rs : List Record) → is_single (mode_after m in_start before rs) ≡ is_single m
single_after m in_start before [] = refl
single_after m in_start before (PageOf continued r ∷ rs) = single_after m in_start (before ++ r ∷ []) rs
single_after m in_start before (FlushMark ∷ rs) = single_after (flush_mode m in_start (has_none before)) in_start [] rs
    ∙ (flush_keeps m in_start (has_none before)).single

-- after a section
pub single_kept : (m : Mode) (in_start : Bool) (before : List PageRecord) (rs : List Record)
    → is_single (eos_mode (mode_after m in_start before rs) in_start) ≡ is_single m
single_kept m in_start before rs = (eos_keeps (mode_after m in_start before rs) in_start).single ∙ single_after m in_start before rs

-- after sections
pub single_behind : (m : Mode) (in_start : Bool) (before : List PageRecord) (sections : List (List Record))
    → is_single (mode_behind m in_start before sections) ≡ is_single m
single_behind m in_start before [] = refl
single_behind m in_start before (rs ∷ sections) =
    single_behind (eos_mode (mode_after m in_start before rs) in_start) false
    (records_left (mode_after m in_start before rs) in_start (records_after before rs)) sections
    ∙ single_kept m in_start before rs

-- ---- the rounds of a mode that stays

-- after records, if each FLUSH ends a round
abbrev pub flushed_after : List PageRecord → List (List PageRecord) → List Record → List (List PageRecord)
flushed_after before rounds [] = rounds
flushed_after before rounds (PageOf continued r ∷ rs) = flushed_after (before ++ r ∷ []) rounds rs
flushed_after before rounds (FlushMark ∷ rs) = flushed_after [] (rounds ++ before ∷ []) rs

-- after sections
abbrev pub records_fixed : Mode → List PageRecord → List (List Record) → List PageRecord
records_fixed m before [] = before
records_fixed m before (rs ∷ sections) = records_fixed m (open_records m (eos_records m (records_after before rs))) sections

abbrev pub rounds_fixed : Mode → List PageRecord → List (List PageRecord) → List (List Record) → List (List PageRecord)
rounds_fixed m before rounds [] = rounds
rounds_fixed m before rounds (rs ∷ sections) =
    rounds_fixed m (open_records m (eos_records m (records_after before rs)))
    (whole_rounds m (eos_rounds m (flushed_after before rounds rs) (records_after before rs)) (eos_records m (records_after before rs))) sections

-- ---- a mode that was shown stays

flush_same : (m : Mode) (in_start none : Bool) → is_open m ≡ false → flush_mode m in_start none ≡ m
flush_same Single in_start none shown = refl
flush_same Main in_start none shown = refl
flush_same MainBySection in_start none shown = refl
flush_same MainAsShown in_start none shown = absurd cc

ends_same : (m : Mode) (in_start none : Bool) → is_open m ≡ false → flush_ends m in_start none ≡ true
ends_same Single in_start none shown = refl
ends_same Main in_start none shown = refl
ends_same MainBySection in_start none shown = refl
ends_same MainAsShown in_start none shown = absurd cc

eos_same : (m : Mode) (in_start : Bool) → is_open m ≡ false → eos_mode m in_start ≡ m
eos_same Single in_start shown = refl
eos_same Main in_start shown = refl
eos_same MainBySection in_start shown = refl
eos_same MainAsShown in_start shown = absurd cc

mode_same : (m : Mode) (in_start : Bool) (before : List PageRecord) (rs : List Record) → is_open m ≡ false → mode_after m in_start before rs ≡ m
mode_same m in_start before [] shown = refl
mode_same m in_start before (PageOf continued r ∷ rs) shown = mode_same m in_start (before ++ r ∷ []) rs shown
mode_same m in_start before (FlushMark ∷ rs) shown =
    ap (λ (x : Mode). mode_after x in_start [] rs) (flush_same m in_start (has_none before) shown) ∙ mode_same m in_start [] rs shown

after_same : (m : Mode) (in_start : Bool) (before : List PageRecord) (rounds : List (List PageRecord)) (rs : List Record)
    → is_open m ≡ false → rounds_after m in_start before rounds rs ≡ flushed_after before rounds rs
after_same m in_start before rounds [] shown = refl
after_same m in_start before rounds (PageOf continued r ∷ rs) shown = after_same m in_start (before ++ r ∷ []) rounds rs shown
after_same m in_start before rounds (FlushMark ∷ rs) shown =
    let none : Bool = has_none before in
    ap (λ (x : Mode). rounds_after x in_start [] (flush_rounds (flush_ends m in_start none) rounds before) rs) (flush_same m in_start none shown)
    ∙ ap (λ (ends : Bool). rounds_after m in_start [] (flush_rounds ends rounds before) rs) (ends_same m in_start none shown)
    ∙ after_same m in_start [] (rounds ++ before ∷ []) rs shown

-- where FLUSH alone or EOS alone ends rounds, the records since the last end are the same by both
-- definitions
pub records_same : (m : Mode) (in_start : Bool) (before : List PageRecord) (sections : List (List Record)) → is_open m ≡ false
    → records_behind m in_start before sections ≡ records_fixed m before sections
records_same m in_start before [] shown = refl
records_same m in_start before (rs ∷ sections) shown =
    let last : List PageRecord = records_after before rs in
    ap (λ (x : Mode). records_behind (eos_mode x in_start) false (records_left x in_start last) sections) (mode_same m in_start before rs shown)
    ∙ ap (λ (x : Mode). records_behind x false (open_records x (eos_records m last)) sections) (eos_same m in_start shown)
    ∙ records_same m false (open_records m (eos_records m last)) sections shown

-- where FLUSH alone or EOS alone ends rounds, the rounds are the same by both definitions
pub rounds_same : (m : Mode) (in_start : Bool) (before : List PageRecord) (rounds : List (List PageRecord)) (sections : List (List Record)) → is_open m ≡ false
    → rounds_behind m in_start before rounds sections ≡ rounds_fixed m before rounds sections
rounds_same m in_start before rounds [] shown = refl
rounds_same m in_start before rounds (rs ∷ sections) shown =
    let last : List PageRecord = records_after before rs in
    let whole : List (List PageRecord) = rounds_after m in_start before rounds rs in
    ap (λ (x : Mode). rounds_behind (eos_mode x in_start) false (records_left x in_start last)
    (rounds_left x in_start whole last) sections) (mode_same m in_start before rs shown)
    ∙ ap (λ (x : Mode). rounds_behind x false (open_records x (eos_records m last))
    (whole_rounds x (eos_rounds m whole last) (eos_records m last)) sections) (eos_same m in_start shown)
    ∙ ap (λ (x : List (List PageRecord)). rounds_behind m false (open_records m (eos_records m last))
    (whole_rounds m (eos_rounds m x last) (eos_records m last)) sections) (after_same m in_start before rounds rs shown)
    ∙ rounds_same m false (open_records m (eos_records m last))
    (whole_rounds m (eos_rounds m (flushed_after before rounds rs) last) (eos_records m last)) sections shown

-- ---- a mode that the stream shows

-- in START, with a FLUSH
start_shows : (before : List PageRecord) (rounds : List (List PageRecord)) (rs : List Record) → has_flush rs ≡ true
    → (mode_after MainAsShown true before rs ≡ Main) × (rounds_after MainAsShown true before rounds rs ≡ flushed_after before rounds rs)
start_shows before rounds [] has = absurd cc
start_shows before rounds (PageOf continued r ∷ rs) has = start_shows (before ++ r ∷ []) rounds rs has
start_shows before rounds (FlushMark ∷ rs) has = (mode_same Main true [] rs refl, after_same Main true [] (rounds ++ before ∷ []) rs refl)

-- and without one
start_is_open : (before : List PageRecord) (rounds : List (List PageRecord)) (rs : List Record) → has_flush rs ≡ false
    → (mode_after MainAsShown true before rs ≡ MainAsShown) × (rounds_after MainAsShown true before rounds rs ≡ rounds)
    × (flushed_after before rounds rs ≡ rounds)
start_is_open before rounds [] none = (refl, refl, refl)
start_is_open before rounds (PageOf continued r ∷ rs) none = start_is_open (before ++ r ∷ []) rounds rs none
start_is_open before rounds (FlushMark ∷ rs) none = absurd cc

-- behind START, where EOS ends a round in any case
abbrev IsLate : Mode → Type 0
IsLate m = (m ≡ MainAsShown) ⊎ (m ≡ MainBySection)

-- after a page record
late_shows : (b : PageRecord) (before : List PageRecord) (rounds : List (List PageRecord)) (rs : List Record)
    → IsLate (mode_after MainAsShown false (b ∷ before) rs) × (rounds_after MainAsShown false (b ∷ before) rounds rs ≡ flushed_after (b ∷ before) rounds rs)
late_shows b before rounds [] = (inl refl, refl)
late_shows b before rounds (PageOf continued r ∷ rs) = late_shows b (before ++ r ∷ []) rounds rs
late_shows b before rounds (FlushMark ∷ rs) =
    (inr (mode_same MainBySection false [] rs refl), after_same MainBySection false [] (rounds ++ (b ∷ before) ∷ []) rs refl)

-- the records left and the rounds are those of a mode that stays
abbrev AreFixed : Mode → List PageRecord → List (List PageRecord) → List PageRecord → List (List PageRecord) → List (List Record) → Type 0
AreFixed m records rounds before whole sections = (records ≡ records_fixed m before sections) × (rounds ≡ rounds_fixed m before whole sections)

-- an EOS behind START, and the sections after it
late_eos : (m : Mode) (rounds : List (List PageRecord)) (last : List PageRecord) (sections : List (List Record)) → IsLate m
    → AreFixed MainBySection (records_behind (eos_mode m false) false (records_left m false last) sections)
    (rounds_behind (eos_mode m false) false (records_left m false last) (rounds_left m false rounds last) sections) [] (rounds ++ last ∷ []) sections
late_eos m rounds last sections (inl e) =
    subst (λ (x : Mode). AreFixed MainBySection (records_behind (eos_mode x false) false (records_left x false last) sections)
    (rounds_behind (eos_mode x false) false (records_left x false last) (rounds_left x false rounds last) sections) [] (rounds ++ last ∷ []) sections)
    (sym e) (records_same MainBySection false [] sections refl, rounds_same MainBySection false [] (rounds ++ last ∷ []) sections refl)
late_eos m rounds last sections (inr e) =
    subst (λ (x : Mode). AreFixed MainBySection (records_behind (eos_mode x false) false (records_left x false last) sections)
    (rounds_behind (eos_mode x false) false (records_left x false last) (rounds_left x false rounds last) sections) [] (rounds ++ last ∷ []) sections)
    (sym e) (records_same MainBySection false [] sections refl, rounds_same MainBySection false [] (rounds ++ last ∷ []) sections refl)

abbrev pub shown : Bool → Mode
shown true = Main
shown false = MainBySection

-- the sections behind a START that has no FLUSH, whose EOS ended the first round
behind_start : (start : List Record) (others : List (List Record)) → has_flush start ≡ false
    → AreFixed (shown (begin_with_flush others)) (records_behind MainAsShown false [] others)
    (rounds_behind MainAsShown false [] (records_after [] start ∷ []) others) [] [] (start ∷ others)
behind_start start [] none =
    let first : List PageRecord = records_after [] start in
    (refl, ap (λ (x : List (List PageRecord)). x ++ first ∷ []) (sym (start_is_open [] [] start none).2))
behind_start start ([] ∷ sections) none =
    let first : List PageRecord = records_after [] start in
    let late = late_eos MainAsShown (first ∷ []) [] sections (inl refl) in (
      late.0,
      late.1 ∙ ap (λ (x : List (List PageRecord)). rounds_fixed MainBySection [] ((x ++ first ∷ []) ++ [] ∷ []) sections)
          (sym (start_is_open [] [] start none).2),
    )
behind_start start ((PageOf continued r ∷ rs) ∷ sections) none =
    let first : List PageRecord = records_after [] start in
    let last : List PageRecord = records_after (r ∷ []) rs in
    let there = late_shows r [] (first ∷ []) rs in
    let late = late_eos (mode_after MainAsShown false (r ∷ []) rs) (rounds_after MainAsShown false (r ∷ []) (first ∷ []) rs) last sections there.0 in (
      late.0,
      late.1
          ∙ ap (λ (x : List (List PageRecord)). rounds_fixed MainBySection [] (x ++ last ∷ []) sections) there.1
          ∙ ap (λ (x : List (List PageRecord)). rounds_fixed MainBySection []
          (flushed_after (r ∷ []) (x ++ first ∷ []) rs ++ last ∷ []) sections) (sym (start_is_open [] [] start none).2),
    )
behind_start start ((FlushMark ∷ rs) ∷ sections) none =
    let first : List PageRecord = records_after [] start in (
      records_same Main false [] (rs ∷ sections) refl,
      rounds_same Main false [] (first ∷ []) (rs ∷ sections) refl
          ∙ ap (λ (x : List (List PageRecord)). rounds_fixed Main (records_after [] rs)
          (flushed_after [] (x ++ first ∷ []) rs) sections) (sym (start_is_open [] [] start none).2),
    )

from_start : (start : List Record) (others : List (List Record)) (b : Bool) → has_flush start ≡ b
    → AreFixed (shown (b || begin_with_flush others)) (records_behind MainAsShown true [] (start ∷ others))
    (rounds_behind MainAsShown true [] [] (start ∷ others)) [] [] (start ∷ others)
from_start start others true has =
    let first : List PageRecord = records_after [] start in
    let there = start_shows [] [] start has in
    let whole : List (List PageRecord) = rounds_after MainAsShown true [] [] start in (
      ap (λ (x : Mode). records_behind (eos_mode x true) false (records_left x true first) others) there.0 ∙ records_same Main false first others refl,
      ap (λ (x : Mode). rounds_behind (eos_mode x true) false (records_left x true first) (rounds_left x true whole first) others) there.0
          ∙ ap (λ (x : List (List PageRecord)). rounds_behind Main false first x others) there.1
          ∙ rounds_same Main false first (flushed_after [] [] start) others refl,
    )
from_start start others false none =
    let first : List PageRecord = records_after [] start in
    let there = start_is_open [] [] start none in
    let whole : List (List PageRecord) = rounds_after MainAsShown true [] [] start in
    let behind = behind_start start others none in (
      ap (λ (x : Mode). records_behind (eos_mode x true) false (records_left x true first) others) there.0 ∙ behind.0,
      ap (λ (x : Mode). rounds_behind (eos_mode x true) false (records_left x true first) (rounds_left x true whole first) others) there.0
          ∙ ap (λ (x : List (List PageRecord)). rounds_behind MainAsShown false [] (x ++ first ∷ []) others) there.1
          ∙ behind.1,
    )

-- The rounds of a stream that shows what ends them are those of the mode that it shows.
pub as_shown : (sections : List (List Record))
    → AreFixed (shown (show_flush sections)) (records_behind MainAsShown true [] sections) (rounds_behind MainAsShown true [] [] sections) [] [] sections
as_shown [] = (refl, refl)
as_shown (start ∷ others) = from_start start others (has_flush start) refl
