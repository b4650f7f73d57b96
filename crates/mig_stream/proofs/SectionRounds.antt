-- The rounds that the records of sections make, as a stream says it and as they are read one after
-- another.
use Rattle.std.proofs.Common.{◌≡◌, Bool, true, false, cond, List, [], ◌∷◌, ◌++◌, map, flat_map, refl, sym, ap, subst, ◌∙◌, inl, inr, append_assoc, append-nil}
use Rattle.std.specs.List.{AllByRecursion}
use Rattle.std.proofs.lemmas.List.Elements.{All-from_recursion, recursion_from_All}
use Rattle.mig_stream.specs.declared.item.Mode.{Mode}
use Rattle.mig_stream.specs.declared.item.Mode.TheVariants.{Single, Main, MainBySection, MainAsShown}
use Rattle.mig_stream.specs.PageRecord.{PageRecord}
use Rattle.mig_stream.specs.Text.{Record, PageOf, FlushMark, all_records, page_records, HasNoFlush, AreRounds, with_flush, AreFlushed, show_flush}
use Rattle.mig_stream.specs.Items.{is_single}
use Rattle.mig_stream.proofs.After.{records_after, mode_behind, records_behind, rounds_behind, FlushesFit, HasNoTail}
use Rattle.mig_stream.proofs.Modes.{single_behind, flushed_after, records_fixed, rounds_fixed, records_same, rounds_same, shown, as_shown}

-- ---- records one after another

-- after records and then others
pub records_after-append : (before : List PageRecord) (xs ys : List Record) → records_after before (xs ++ ys) ≡ records_after (records_after before xs) ys
records_after-append before [] ys = refl
records_after-append before (PageOf continued r ∷ xs) ys = records_after-append (before ++ r ∷ []) xs ys
records_after-append before (FlushMark ∷ xs) ys = records_after-append [] xs ys

-- the rounds after records are those after their front and then the rest
pub flushed_after-append : (before : List PageRecord) (rounds : List (List PageRecord)) (xs ys : List Record)
    → flushed_after before rounds (xs ++ ys) ≡ flushed_after (records_after before xs) (flushed_after before rounds xs) ys
flushed_after-append before rounds [] ys = refl
flushed_after-append before rounds (PageOf continued r ∷ xs) ys = flushed_after-append (before ++ r ∷ []) rounds xs ys
flushed_after-append before rounds (FlushMark ∷ xs) ys = flushed_after-append [] (rounds ++ before ∷ []) xs ys

-- records without a FLUSH are added to those before them, and end no round
pub records_after-no_flush : (before : List PageRecord) (rs : List Record) → HasNoFlush rs → records_after before rs ≡ before ++ page_records rs
records_after-no_flush before [] none = sym (append-nil before)
records_after-no_flush before (PageOf continued r ∷ rs) none = records_after-no_flush (before ++ r ∷ []) rs none
    ∙ append_assoc before (r ∷ []) (page_records rs)
records_after-no_flush before (FlushMark ∷ rs) none = absurd none

-- records without a FLUSH end no round
pub flushed_after-no_flush : (before : List PageRecord) (rounds : List (List PageRecord)) (rs : List Record) → HasNoFlush rs
    → flushed_after before rounds rs ≡ rounds
flushed_after-no_flush before rounds [] none = refl
flushed_after-no_flush before rounds (PageOf continued r ∷ rs) none = flushed_after-no_flush (before ++ r ∷ []) rounds rs none
flushed_after-no_flush before rounds (FlushMark ∷ rs) none = absurd none

-- ---- a single stream: each section is a round

single_rounds : (rounds : List (List PageRecord)) (sections : List (List Record)) → AllByRecursion HasNoFlush sections
    → rounds_fixed Single [] rounds sections ≡ rounds ++ map page_records sections
single_rounds rounds [] none = sym (append-nil rounds)
single_rounds rounds (rs ∷ sections) none =
    let records : records_after [] rs ≡ page_records rs = records_after-no_flush [] rs none.0 in
    let same : flushed_after [] rounds rs ≡ rounds = flushed_after-no_flush [] rounds rs none.0 in
    let one : flushed_after [] rounds rs ++ records_after [] rs ∷ [] ≡ rounds ++ page_records rs ∷ [] =
    ap (λ (x : List (List PageRecord)). x ++ records_after [] rs ∷ []) same ∙ ap (λ (x : List PageRecord). rounds ++ x ∷ []) records in
    ap (λ (x : List (List PageRecord)). rounds_fixed Single [] x sections) one
    ∙ single_rounds (rounds ++ page_records rs ∷ []) sections none.1
    ∙ append_assoc rounds (page_records rs ∷ []) (map page_records sections)

-- ---- a main stream: the sections don't matter

main_records : (before : List PageRecord) (sections : List (List Record)) → records_fixed Main before sections ≡ records_after before (all_records sections)
main_records before [] = refl
main_records before (rs ∷ sections) = main_records (records_after before rs) sections ∙ sym (records_after-append before rs (all_records sections))

main_rounds : (before : List PageRecord) (rounds : List (List PageRecord)) (sections : List (List Record))
    → rounds_fixed Main before rounds sections ≡ flushed_after before rounds (all_records sections)
main_rounds before rounds [] = refl
main_rounds before rounds (rs ∷ sections) =
    main_rounds (records_after before rs) (flushed_after before rounds rs) sections ∙ sym (flushed_after-append before rounds rs (all_records sections))

-- the records of rounds, each with the FLUSH that ends it
abbrev pub flushed : List (List Record) → List Record
flushed groups = flat_map (λ group. group ++ FlushMark ∷ []) groups

records_after-flushed : (groups : List (List Record)) → records_after [] (flushed groups) ≡ []
records_after-flushed [] = refl
records_after-flushed (group ∷ groups) =
    let one : records_after [] (group ++ FlushMark ∷ []) ≡ [] = records_after-append [] group (FlushMark ∷ []) in
    records_after-append [] (group ++ FlushMark ∷ []) (flushed groups)
    ∙ ap (λ (x : List PageRecord). records_after x (flushed groups)) one ∙ records_after-flushed groups

flushed_after-flushed : (rounds : List (List PageRecord)) (groups : List (List Record)) → AllByRecursion HasNoFlush groups
    → flushed_after [] rounds (flushed groups) ≡ rounds ++ map page_records groups
flushed_after-flushed rounds [] none = sym (append-nil rounds)
flushed_after-flushed rounds (group ∷ groups) none =
    let end : List Record = FlushMark ∷ [] in
    let records : records_after [] (group ++ end) ≡ [] = records_after-append [] group end in
    let round : flushed_after [] rounds (group ++ end) ≡ rounds ++ page_records group ∷ [] =
    flushed_after-append [] rounds group end
    ∙ ap (λ (x : List PageRecord). flushed_after [] rounds group ++ x ∷ []) (records_after-no_flush [] group none.0)
    ∙ ap (λ (x : List (List PageRecord)). x ++ page_records group ∷ []) (flushed_after-no_flush [] rounds group none.0) in
    flushed_after-append [] rounds (group ++ end) (flushed groups)
    ∙ ap (λ (x : List PageRecord). flushed_after x (flushed_after [] rounds (group ++ end)) (flushed groups)) records
    ∙ ap (λ (x : List (List PageRecord)). flushed_after [] x (flushed groups)) round
    ∙ flushed_after-flushed (rounds ++ page_records group ∷ []) groups none.1
    ∙ append_assoc rounds (page_records group ∷ []) (map page_records groups)

-- ---- and back: the rounds of a main stream's records

-- records that end in no open round, grouped by their FLUSHes; those in front are the open round's
-- so far
record AreGrouped (front : List Record) (rounds : List (List PageRecord)) (records : List Record) : Type 0 where
  groups : List (List Record)
  none : AllByRecursion HasNoFlush groups
  spelled : front ++ records ≡ flushed groups
  made : flushed_after (page_records front) rounds records ≡ rounds ++ map page_records groups

page_records-push : (front : List Record) (continued : Bool) (r : PageRecord) → page_records (front ++ PageOf continued r ∷ []) ≡ page_records front ++ r ∷ []
page_records-push [] continued r = refl
page_records-push (PageOf k x ∷ front) continued r = ap (λ (l : List PageRecord). x ∷ l) (page_records-push front continued r)
page_records-push (FlushMark ∷ front) continued r = page_records-push front continued r

HasNoFlush-push : (front : List Record) (continued : Bool) (r : PageRecord) → HasNoFlush front → HasNoFlush (front ++ PageOf continued r ∷ [])
HasNoFlush-push [] continued r none = tt
HasNoFlush-push (PageOf k x ∷ front) continued r none = HasNoFlush-push front continued r none
HasNoFlush-push (FlushMark ∷ front) continued r none = none

no_record : (front : List Record) → HasNoFlush front → page_records front ≡ [] → front ≡ []
no_record [] none e = refl
no_record (PageOf k x ∷ front) none e = absurd cc
no_record (FlushMark ∷ front) none e = absurd none

grouped : (front : List Record) (rounds : List (List PageRecord)) (records : List Record) → HasNoFlush front
    → records_after (page_records front) records ≡ [] → AreGrouped front rounds records
grouped front rounds [] none end = record {
  groups = [];
  none = tt;
  spelled = ap (λ (x : List Record). x ++ []) (no_record front none end);
  made = sym (append-nil rounds);
}
grouped front rounds (PageOf continued r ∷ records) none end =
    let pushed : page_records (front ++ PageOf continued r ∷ []) ≡ page_records front ++ r ∷ [] = page_records-push front continued r in
    let rest = grouped (front ++ PageOf continued r ∷ []) rounds records (HasNoFlush-push front continued r none)
    (ap (λ (x : List PageRecord). records_after x records) pushed ∙ end) in
    record {
      groups = rest.groups;
      none = rest.none;
      spelled = sym (append_assoc front (PageOf continued r ∷ []) records) ∙ rest.spelled;
      made = ap (λ (x : List PageRecord). flushed_after x rounds records) (sym pushed) ∙ rest.made;
    }
grouped front rounds (FlushMark ∷ records) none end =
    let rest = grouped [] (rounds ++ page_records front ∷ []) records tt end in
    record {
      groups = front ∷ rest.groups;
      none = (none, rest.none);
      spelled = sym (append_assoc front (FlushMark ∷ []) records) ∙ ap (λ (x : List Record). (front ++ FlushMark ∷ []) ++ x) rest.spelled;
      made = rest.made ∙ append_assoc rounds (page_records front ∷ []) (map page_records rest.groups);
    }

-- ---- a main stream whose EOS ends a round too: a FLUSH before each EOS makes the same rounds

records_after-with_flush : (before : List PageRecord) (rs : List Record) → records_after before (with_flush rs) ≡ []
records_after-with_flush before rs = records_after-append before rs (FlushMark ∷ [])

flushed_after-with_flush : (before : List PageRecord) (rounds : List (List PageRecord)) (rs : List Record)
    → flushed_after before rounds (with_flush rs) ≡ flushed_after before rounds rs ++ records_after before rs ∷ []
flushed_after-with_flush before rounds rs = flushed_after-append before rounds rs (FlushMark ∷ [])

section_records : (sections : List (List Record)) → records_fixed MainBySection [] sections ≡ []
section_records [] = refl
section_records (rs ∷ sections) = section_records sections

flush_records : (sections : List (List Record)) → records_fixed Main [] (map with_flush sections) ≡ []
flush_records [] = refl
flush_records (rs ∷ sections) = ap (λ (x : List PageRecord). records_fixed Main x (map with_flush sections))
    (records_after-with_flush [] rs) ∙ flush_records sections

section_rounds : (rounds : List (List PageRecord)) (sections : List (List Record))
    → rounds_fixed MainBySection [] rounds sections ≡ rounds_fixed Main [] rounds (map with_flush sections)
section_rounds rounds [] = refl
section_rounds rounds (rs ∷ sections) =
    section_rounds (flushed_after [] rounds rs ++ records_after [] rs ∷ []) sections
    ∙ ap (λ (x : List (List PageRecord)). rounds_fixed Main [] x (map with_flush sections)) (sym (flushed_after-with_flush [] rounds rs))
    ∙ ap (λ (x : List PageRecord). rounds_fixed Main x (flushed_after [] rounds (with_flush rs)) (map with_flush sections))
    (sym (records_after-with_flush [] rs))

-- ---- all modes

-- a main stream's FLUSHes
pub flushed_read : (sections : List (List Record)) (rounds : List (List PageRecord)) → AreFlushed sections rounds
    → (records_fixed Main [] sections ≡ []) × (rounds_fixed Main [] [] sections ≡ rounds)
flushed_read sections rounds are =
    let groups : List (List Record) = are.0 in
    let none : AllByRecursion HasNoFlush groups = recursion_from_All HasNoFlush groups are.1 in
    let all : all_records sections ≡ flushed groups = are.2 in (
      main_records [] sections ∙ ap (records_after []) all ∙ records_after-flushed groups,
      main_rounds [] [] sections ∙ ap (flushed_after [] []) all ∙ flushed_after-flushed [] groups none ∙ sym are.3,
    )

flushed_spelled : (sections : List (List Record)) → records_fixed Main [] sections ≡ [] → AreFlushed sections (rounds_fixed Main [] [] sections)
flushed_spelled sections none =
    let all = grouped [] [] (all_records sections) tt (sym (main_records [] sections) ∙ none) in
    (all.groups, All-from_recursion HasNoFlush all.groups all.none, all.spelled, main_rounds [] [] sections ∙ all.made)

-- by the mode that the stream shows
shown_read : (sections : List (List Record)) (rounds : List (List PageRecord)) (b : Bool) → AreFlushed (cond b sections (map with_flush sections)) rounds
    → (records_fixed (shown b) [] sections ≡ []) × (rounds_fixed (shown b) [] [] sections ≡ rounds)
shown_read sections rounds true are = flushed_read sections rounds are
shown_read sections rounds false are = (section_records sections, section_rounds [] sections ∙ (flushed_read (map with_flush sections) rounds are).1)

-- sections with a FLUSH before each EOS have a round a section
pub section_spelled : (sections : List (List Record)) → AreFlushed (map with_flush sections) (rounds_fixed MainBySection [] [] sections)
section_spelled sections = subst (AreFlushed (map with_flush sections)) (sym (section_rounds [] sections))
    (flushed_spelled (map with_flush sections) (flush_records sections))

shown_spelled : (sections : List (List Record)) (b : Bool) → records_fixed (shown b) [] sections ≡ []
    → AreFlushed (cond b sections (map with_flush sections)) (rounds_fixed (shown b) [] [] sections)
shown_spelled sections true none = flushed_spelled sections none
shown_spelled sections false none = section_spelled sections

-- a main stream's records that no FLUSH follows
none_left : (mode : Mode) (sections : List (List Record)) → is_single mode ≡ false
    → HasNoTail (mode_behind mode true [] sections) (records_behind mode true [] sections) → records_behind mode true [] sections ≡ []
none_left mode sections main (inl e) = absurd (let clash : true ≡ false = sym e ∙ single_behind mode true [] sections ∙ main in cc)
none_left mode sections main (inr none) = none

-- The rounds that a stream says are read after its sections, and no record is left.
pub rounds_read : (mode : Mode) (sections : List (List Record)) (rounds : List (List PageRecord)) → AreRounds mode sections rounds
    → FlushesFit (is_single mode) sections × HasNoTail (mode_behind mode true [] sections) (records_behind mode true [] sections)
    × (rounds_behind mode true [] [] sections ≡ rounds)
rounds_read Single sections rounds are =
    let none : AllByRecursion HasNoFlush sections = recursion_from_All HasNoFlush sections are.0 in
    (inr none, inl (single_behind Single true [] sections), rounds_same Single true [] [] sections refl ∙ single_rounds [] sections none ∙ sym are.1)
rounds_read Main sections rounds are =
    let read = flushed_read sections rounds are in
    (inl refl, inr (records_same Main true [] sections refl ∙ read.0), rounds_same Main true [] [] sections refl ∙ read.1)
rounds_read MainBySection sections rounds are =
    let read = flushed_read (map with_flush sections) rounds are in (
      inl refl,
      inr (records_same MainBySection true [] sections refl ∙ section_records sections),
      rounds_same MainBySection true [] [] sections refl ∙ section_rounds [] sections ∙ read.1,
    )
rounds_read MainAsShown sections rounds are =
    let same = as_shown sections in
    let read = shown_read sections rounds (show_flush sections) are in
    (inl refl, inr (same.0 ∙ read.0), same.1 ∙ read.1)

-- What is read after sections is what a stream says of them, if no record is left.
pub rounds_spelled : (mode : Mode) (sections : List (List Record)) → FlushesFit (is_single mode) sections
    → HasNoTail (mode_behind mode true [] sections) (records_behind mode true [] sections)
    → AreRounds mode sections (rounds_behind mode true [] [] sections)
rounds_spelled Single sections (inl e) tail = absurd cc
rounds_spelled Single sections (inr none) tail =
    (All-from_recursion HasNoFlush sections none, rounds_same Single true [] [] sections refl ∙ single_rounds [] sections none)
rounds_spelled Main sections flushes tail =
    subst (AreFlushed sections) (sym (rounds_same Main true [] [] sections refl))
    (flushed_spelled sections (sym (records_same Main true [] sections refl) ∙ none_left Main sections refl tail))
rounds_spelled MainBySection sections flushes tail =
    subst (AreFlushed (map with_flush sections)) (sym (rounds_same MainBySection true [] [] sections refl)) (section_spelled sections)
rounds_spelled MainAsShown sections flushes tail =
    let same = as_shown sections in
    subst (AreFlushed (cond (show_flush sections) sections (map with_flush sections))) (sym same.1)
    (shown_spelled sections (show_flush sections) (sym same.0 ∙ none_left MainAsShown sections refl tail))
