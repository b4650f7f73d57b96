-- If each EOS ends a round, a closed main stream has a round more for each section.
use Rattle.std.proofs.Common.{◌≡◌, ℕ, ◌+◌, ◌^◌, ◌<◌, ◌≤◌, List, [], ◌∷◌, ◌++◌, length, refl, sym, ap, subst, ◌∙◌, arith}
use Rattle.std.specs.Prelude.{All}
use Rattle.std.proofs.lemmas.List.{length-append}
use Rattle.mig_mem.specs.PageSize.{IsPageSize}
use Rattle.mig_stream.specs.declared.item.Frame.{Frame}
use Rattle.mig_stream.specs.declared.item.Frame.TheVariants.{Ram, Machine}
use Rattle.mig_stream.specs.declared.item.Mode.TheVariants.{Main, MainBySection}
use Rattle.mig_stream.specs.declared.item.StreamState.TheVariants.{Closed}
use Rattle.mig_stream.specs.PageRecord.{PageRecord}
use Rattle.mig_stream.specs.Reading.{Settings, settings, in_frame, StreamReading, IsReading}
use Rattle.mig_stream.specs.Text.{Record, PageOf, FlushMark, IsText}
use Rattle.mig_stream.specs.Machine.{parts_of, IsMachineText}
use Rattle.mig_stream.specs.Law.{closed}
use Rattle.mig_stream.specs.Flushed.{by_flush, by_section, SectionsAreMore}
use Rattle.mig_stream.proofs.After.{records_after}
use Rattle.mig_stream.proofs.Modes.{flushed_after, rounds_fixed}
use Rattle.mig_stream.proofs.SectionRounds.{flushed_read, section_spelled}
use Rattle.mig_stream.proofs.SpelledText.{spelled_law}
use Rattle.mig_stream.proofs.SpelledMachine.{machine_is_read}
use Rattle.mig_stream.proofs.Found.{read_law, machine_read_law, main_text}
use Rattle.mig_stream.proofs.Exists.{one_reading_law}
use Rattle.mig_stream.proofs.Shown.{in_mode, machine_in_mode}

-- ---- how many rounds sections make

-- the FLUSHes of some records, and of some sections
abbrev flushes : List Record → ℕ
flushes [] = 0
flushes (PageOf continued r ∷ rs) = flushes rs
flushes (FlushMark ∷ rs) = 1 + flushes rs

abbrev all_flushes : List (List Record) → ℕ
all_flushes [] = 0
all_flushes (rs ∷ sections) = flushes rs + all_flushes sections

record_count : (before : List PageRecord) (rounds : List (List PageRecord)) (rs : List Record)
    → length (flushed_after before rounds rs) ≡ length rounds + flushes rs
record_count before rounds [] = omega arith
record_count before rounds (PageOf continued r ∷ rs) = record_count (before ++ r ∷ []) rounds rs
record_count before rounds (FlushMark ∷ rs) = omega (arith, record_count [] (rounds ++ before ∷ []) rs, length-append rounds (before ∷ []))

main_count : (before : List PageRecord) (rounds : List (List PageRecord)) (sections : List (List Record))
    → length (rounds_fixed Main before rounds sections) ≡ length rounds + all_flushes sections
main_count before rounds [] = omega arith
main_count before rounds (rs ∷ sections) =
    omega (arith, main_count (records_after before rs) (flushed_after before rounds rs) sections, record_count before rounds rs)

section_count : (before : List PageRecord) (rounds : List (List PageRecord)) (sections : List (List Record))
    → length (rounds_fixed MainBySection before rounds sections) ≡ length rounds + all_flushes sections + length sections
section_count before rounds [] = omega arith
section_count before rounds (rs ∷ sections) =
    let last : List PageRecord = records_after before rs in
    let whole : List (List PageRecord) = flushed_after before rounds rs in
    omega (arith, section_count [] (whole ++ last ∷ []) sections, record_count before rounds rs, length-append whole (last ∷ []))

-- ---- of a closed stream

one_reading : (given : Settings) (text : List ℕ) (a b : StreamReading) → IsPageSize given.page_size → IsReading given text a → IsReading given text b → a ≡ b
one_reading given text a b size is_a is_b =
    let one = one_reading_law given text size in
    one.2 a is_a ∙ sym (one.2 b is_b)

ram_more : (given : Settings) (text : List ℕ) (a b : StreamReading) → given.frame ≡ Ram → IsPageSize given.page_size
    → given.limit ≤ 2 ^ 40 → All (λ byte. byte < 2 ^ 8) text
    → IsReading (by_flush given) text a → a.state ≡ Closed → IsReading (by_section given) text b → b.state ≡ Closed → length a.rounds + 2 ≤ length b.rounds
ram_more given text a b frame size small all is_a closed_a is_b closed_b =
    let f = read_law (by_flush given) text a frame size small all is_a closed_a in
    let g = read_law (by_section given) text b frame size small all is_b closed_b in
    let spelled : IsText Main given.limit f.3.0 f.0 a.rounds = f.3.3 in
    let sections : List (List Record) = spelled.first ∷ spelled.parts ++ spelled.last ∷ [] in
    let whole : List (List PageRecord) = rounds_fixed MainBySection [] [] sections in
    let other : IsText MainBySection given.limit f.3.0 f.0 whole =
    in_mode Main MainBySection given.limit f.3.0 f.0 a.rounds whole spelled (section_spelled sections) in
    let here : IsReading (settings MainBySection f.0.page_size given.limit) text (closed f.0 whole) =
    subst (λ (x : List ℕ). IsReading (settings MainBySection f.0.page_size given.limit) x (closed f.0 whole)) (sym f.3.2)
    (spelled_law MainBySection given.limit f.3.0 f.3.1 f.0 whole other) in
    let there : IsReading (settings MainBySection g.0.page_size given.limit) text (closed g.0 b.rounds) =
    subst (λ (x : List ℕ). IsReading (settings MainBySection g.0.page_size given.limit) x (closed g.0 b.rounds)) (sym g.3.2)
    (spelled_law MainBySection given.limit g.3.0 g.3.1 g.0 b.rounds g.3.3) in
    let one : closed f.0 whole ≡ closed g.0 b.rounds =
    one_reading (settings MainBySection given.page_size given.limit) text (closed f.0 whole) (closed g.0 b.rounds) size
    (subst (λ (n : ℕ). IsReading (settings MainBySection n given.limit) text (closed f.0 whole)) f.1 here)
    (subst (λ (n : ℕ). IsReading (settings MainBySection n given.limit) text (closed g.0 b.rounds)) g.1 there) in
    let all_of_b : length whole ≡ length b.rounds = ap (λ (r : StreamReading). length r.rounds) one in
    let all_of_a : length (rounds_fixed Main [] [] sections) ≡ length a.rounds =
    ap (λ (r : List (List PageRecord)). length r) (flushed_read sections a.rounds spelled.has_rounds).1 in
    let two : 2 ≤ length sections = omega (arith, length-append (spelled.parts) (spelled.last ∷ [])) in
    omega (arith, two, all_of_a, all_of_b, main_count [] [] sections, section_count [] [] sections)

machine_more : (given : Settings) (text : List ℕ) (a b : StreamReading) → given.frame ≡ Machine → IsPageSize given.page_size
    → given.limit ≤ 2 ^ 40 → All (λ byte. byte < 2 ^ 8) text
    → IsReading (by_flush given) text a → a.state ≡ Closed → IsReading (by_section given) text b → b.state ≡ Closed → length a.rounds + 2 ≤ length b.rounds
machine_more given text a b frame size small all is_a closed_a is_b closed_b =
    let f = machine_read_law (by_flush given) text a frame size small all is_a closed_a in
    let g = machine_read_law (by_section given) text b frame size small all is_b closed_b in
    let by_f = main_text Main given.limit text f.0 a.rounds refl f.3 in
    let by_g = main_text MainBySection given.limit text g.0 b.rounds refl g.3 in
    let spelled : IsMachineText Main given.limit by_f.0 f.0 a.rounds = by_f.3 in
    let sections : List (List Record) = spelled.first ∷ parts_of spelled.others ++ spelled.last ∷ [] in
    let whole : List (List PageRecord) = rounds_fixed MainBySection [] [] sections in
    let other : IsMachineText MainBySection given.limit by_f.0 f.0 whole =
    machine_in_mode Main MainBySection given.limit by_f.0 f.0 a.rounds whole spelled (section_spelled sections) in
    let here : IsReading (in_frame Machine (settings MainBySection f.0.page_size given.limit)) text (closed f.0 whole) =
    subst (λ (x : List ℕ). IsReading (in_frame Machine (settings MainBySection f.0.page_size given.limit)) x (closed f.0 whole))
    (sym by_f.2) (machine_is_read MainBySection given.limit by_f.0 by_f.1 f.0 whole other) in
    let there : IsReading (in_frame Machine (settings MainBySection g.0.page_size given.limit)) text (closed g.0 b.rounds) =
    subst (λ (x : List ℕ). IsReading (in_frame Machine (settings MainBySection g.0.page_size given.limit)) x
    (closed g.0 b.rounds)) (sym by_g.2) (machine_is_read MainBySection given.limit by_g.0 by_g.1 g.0 b.rounds by_g.3) in
    let one : closed f.0 whole ≡ closed g.0 b.rounds =
    one_reading (in_frame Machine (settings MainBySection given.page_size given.limit)) text (closed f.0 whole) (closed g.0 b.rounds) size
    (subst (λ (n : ℕ). IsReading (in_frame Machine (settings MainBySection n given.limit)) text (closed f.0 whole)) f.1 here)
    (subst (λ (n : ℕ). IsReading (in_frame Machine (settings MainBySection n given.limit)) text (closed g.0 b.rounds)) g.1 there) in
    let all_of_b : length whole ≡ length b.rounds = ap (λ (r : StreamReading). length r.rounds) one in
    let all_of_a : length (rounds_fixed Main [] [] sections) ≡ length a.rounds =
    ap (λ (r : List (List PageRecord)). length r) (flushed_read sections a.rounds spelled.has_rounds).1 in
    let two : 2 ≤ length sections = omega (arith, length-append (parts_of spelled.others) (spelled.last ∷ [])) in
    omega (arith, two, all_of_a, all_of_b, main_count [] [] sections, section_count [] [] sections)

by_frame : (given : Settings) (text : List ℕ) (a b : StreamReading) (frame : Frame) → given.frame ≡ frame
    → IsPageSize given.page_size → given.limit ≤ 2 ^ 40 → All (λ byte. byte < 2 ^ 8) text
    → IsReading (by_flush given) text a → a.state ≡ Closed → IsReading (by_section given) text b → b.state ≡ Closed → length a.rounds + 2 ≤ length b.rounds
by_frame given text a b Ram is size small all is_a closed_a is_b closed_b = ram_more given text a b is size small all is_a closed_a is_b closed_b
by_frame given text a b Machine is size small all is_a closed_a is_b closed_b = machine_more given text a b is size small all is_a closed_a is_b closed_b

-- the law: a stream closed both ways has two rounds more at least where each EOS ends one
pub sections_are_more : SectionsAreMore
sections_are_more = λ given text a b size small all is_a closed_a is_b closed_b. by_frame given text a b given.frame refl size
    small all is_a closed_a is_b closed_b
