use Rattle.std.proofs.Common.{ℕ, ◌≡◌, ◌+◌, ◌-◌, ◌≤◌, List, [], ◌∷◌, ◌++◌, length, take, drop, refl, sym, ap, append_assoc, ◌∙◌, arith}
use Rattle.std.specs.List.{flat_map}
use Rattle.std.proofs.Math.Seq.{take-length}
use Rattle.std.proofs.lemmas.List.{append-nil, length-append, take_at, drop_all}
use Rattle.std.proofs.lemmas.Slice.{put_mid-paste}
use borrow.Rule.Slice.PartMut.{put_mid}
use Rattle.mig_stream.specs.Fields.{be32, be64}
use Rattle.mig_stream.specs.Format.{flags_of, section_type, footer_type}
use Rattle.mig_stream.specs.declared.item.RecordKind.TheVariants.{EndOfSection}
use Rattle.mig_stream.specs.Text.{record_bytes}
use Rattle.zimgasol_saving.proofs.section.set_section_id.Goals as goal

-- the id 1
abbrev one : List ℕ
one = 0 ∷ 0 ∷ 0 ∷ 1 ∷ []

-- the four bytes after the first one are replaced
put_first : (t : ℕ) (rest id ys : List ℕ) → ys ≡ id → length id ≡ 4 → put_mid 1 4 (t ∷ (one ++ rest)) ys ≡ t ∷ (id ++ rest)
put_first t rest id ys same four =
    let whole : take 4 id ≡ id = ap (λ n. take n id) (sym four) ∙ take-length id in
    put_mid-paste 1 4 (t ∷ (one ++ rest)) ys id 4 same refl (sym four) ∙ ap (λ (l : List ℕ). t ∷ (l ++ rest)) whole

-- the last four bytes are replaced
put_last : (front id ys : List ℕ) (n k : ℕ) → ys ≡ id → length id ≡ 4 → n ≡ length front → k ≡ 4 → put_mid n k (front ++ one) ys ≡ front ++ id
put_last front id ys n k same four at len =
    let whole : take 4 id ≡ id = ap (λ m. take m id) (sym four) ∙ take-length id in
    let past : length (front ++ one) ≤ n + 4 = omega (arith, at, length-append front one) in
    put_mid-paste n k (front ++ one) ys id 4 same (sym len) (sym four)
    ∙ ap (λ (l : List ℕ). take n (front ++ one) ++ l ++ drop (n + 4) (front ++ one)) whole
    ∙ ap (λ (l : List ℕ). l ++ id ++ drop (n + 4) (front ++ one)) (take_at front one n (sym at))
    ∙ ap (λ (l : List ℕ). front ++ id ++ l) (drop_all (n + 4) (front ++ one) past)
    ∙ append-nil (front ++ id)

-- both, in a list of bytes that begins and ends so
put_both : (old : List ℕ) (t : ℕ) (middle id ys zs : List ℕ) → old ≡ t ∷ (one ++ (middle ++ one)) → length id ≡ 4 → ys ≡ id → zs ≡ id
    → put_mid (length old - 4) (length old - (length old - 4)) (put_mid 1 4 old ys) zs ≡ t ∷ (id ++ (middle ++ id))
put_both old t middle id ys zs is four same also =
    let front : List ℕ = t ∷ (id ++ middle) in
    let long : length old ≡ 9 + length middle = ap (λ (l : List ℕ). length l) is ∙ omega (arith, length-append middle one) in
    let front_len : length front ≡ 5 + length middle = omega (arith, four, length-append id middle) in
    let at : length old - 4 ≡ length front = omega (arith, long, front_len) in
    let len : length old - (length old - 4) ≡ 4 = omega (arith, long) in
    let head : put_mid 1 4 old ys ≡ front ++ one =
    ap (λ (l : List ℕ). put_mid 1 4 l ys) is ∙ put_first t (middle ++ one) id ys same four ∙ ap (λ (l : List ℕ). t ∷ l) (sym (append_assoc id middle one)) in
    ap (λ (l : List ℕ). put_mid (length old - 4) (length old - (length old - 4)) l zs) head
    ∙ put_last front id zs (length old - 4) (length old - (length old - 4)) also four at len
    ∙ ap (λ (l : List ℕ). t ∷ l) (append_assoc id middle id)

pub returns-clause-section : goal.returns-clause-section
returns-clause-section c = λ table kind records is.
    let id : List ℕ = be32 c.args.id in
    let all : List ℕ = flat_map (record_bytes table) records in
    let last : List ℕ = be64 (flags_of EndOfSection) ++ footer_type ∷ [] in
    let t : ℕ = section_type kind in
    let begins : c.args.bytes.now ≡ t ∷ (one ++ ((all ++ last) ++ one)) =
    is ∙ ap (λ (l : List ℕ). t ∷ (one ++ l)) (sym (append_assoc all last one)) in
    let same : c.copy_from_slice.new.self ≡ id = c.copy_from_slice.ensures.after ∙ c.to_be_bytes-id.ensures in
    let also : c.copy_from_slice-2.new.self ≡ id = c.copy_from_slice-2.ensures.after ∙ c.to_be_bytes-id.ensures in
    put_both c.args.bytes.now t (all ++ last) id c.copy_from_slice.new.self c.copy_from_slice-2.new.self begins refl same also
    ∙ ap (λ (l : List ℕ). t ∷ (id ++ l)) (append_assoc all last id)
