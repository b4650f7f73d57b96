-- The front of a plain stream, cut out of the front of a file.
use Rattle.std.proofs.Common.{ℕ, ◌≡◌, ◌≢◌, ◌+◌, ◌-◌, ◌<◌, List, [], ◌∷◌, ◌++◌, length, take, drop}
use Rattle.std.proofs.Common.{refl, sym, ap, ap₂, ◌∙◌, append_assoc, append-nil, arith}
use Rattle.std.specs.Prelude.{slice_range}
use Rattle.std.specs.List.{flat_map}
use Rattle.std.proofs.Math.Seq.{take-append_seam, drop-append_seam}
use Rattle.std.proofs.lemmas.List.{length-append}
use Rattle.std.proofs.lemmas.List.Concat.{flat_map-append}
use Rattle.mig_stream.specs.declared.item.Subsection.TheVariants as kind
use Rattle.mig_stream.specs.Fields.{be32, counted}
use Rattle.mig_stream.specs.Format.{subsection_type, subsection_name, mapped_ram}
use Rattle.mig_stream.specs.Machine.{command, SubsectionBody, Capabilities, subsection, subsection_head}
use Rattle.mig_mapped.specs.declared.front.MappedFront.{MappedFront}
use Rattle.mig_mapped.specs.Front.{Front, start_bytes, front_with, mapped_names, mapped_front, subsection_of, plain_front}
use Rattle.mig_mapped.specs.Front.{offsets, BeginsWith, HasFront}
use Rattle.mig_mapped.specs.FrontParts.{machine_bytes, LiesIn}
use Rattle.mig_mapped.proofs.FrontFound.{list_at, front_spelled, with_spelled}
use Rattle.mig_mapped.proofs.FrontFound.{list_offset, count_offset_is, name_offset_is}

-- ---- cuts

-- bytes up to a place, and between two
pub cut_front : (bytes a b : List ℕ) (i : ℕ) → bytes ≡ a ++ b → i ≡ length a → take i bytes ≡ a
cut_front bytes a b i e is = ap₂ (λ (n : ℕ) (l : List ℕ). take n l) is e ∙ take-append_seam a b

pub cut_part : (bytes a b c : List ℕ) (i j : ℕ) → bytes ≡ a ++ (b ++ c) → i ≡ length a → j ≡ length a + length b → slice_range bytes i j ≡ b
cut_part bytes a b c i j e i_is j_is =
    let n : j - i ≡ length b = omega (arith, i_is, j_is) in
    ap (λ (k : ℕ). take k (drop i bytes)) n ∙ ap₂ (λ (k : ℕ) (l : List ℕ). take (length b) (drop k l)) i_is e
    ∙ ap (take (length b)) (drop-append_seam a (b ++ c)) ∙ take-append_seam b c

-- ---- the parts around the name

-- up to the subsection with the capabilities, and from the one after it on
abbrev pub up_to_list : Front → List ℕ
up_to_list f = machine_bytes f.machine ++ flat_map subsection f.before

abbrev pub after_list : Front → List ℕ
after_list f = flat_map subsection f.after ++ (flat_map command f.commands ++ start_bytes f.id f.total)

abbrev pub list_head : List ℕ
list_head = subsection_type ∷ subsection_head kind.Capabilities

pub list_apart : (names : List (List ℕ)) → subsection (Capabilities names) ≡ list_head ++ (be32 (length names) ++ flat_map counted names)
list_apart names = refl

names_apart : (f : Front) → flat_map counted (mapped_names f) ≡ flat_map counted f.names_before ++ (counted mapped_ram ++ flat_map counted f.names_after)
names_apart f = flat_map-append counted f.names_before (mapped_ram ∷ f.names_after)

regroup : (m b h n x c y a s t r : List ℕ) → m ++ (b ++ ((h ++ (n ++ (x ++ (c ++ y)))) ++ (a ++ (s ++ (t ++ r)))))
    ≡ (m ++ b) ++ (h ++ (n ++ (x ++ (c ++ ((y ++ (a ++ (s ++ t))) ++ r)))))
regroup m b h n x c y a s t r = simp append_assoc

-- all of it
pub parts_spelled : (f : Front) (rest : List ℕ) → mapped_front f ++ rest
    ≡ up_to_list f ++ (list_head ++ (be32 (length (mapped_names f)) ++ (flat_map counted f.names_before
    ++ (counted mapped_ram ++ ((flat_map counted f.names_after ++ after_list f) ++ rest)))))
parts_spelled f rest =
    let m : List ℕ = machine_bytes f.machine in
    let b : List ℕ = flat_map subsection f.before in
    let n : List ℕ = be32 (length (mapped_names f)) in
    let x : List ℕ = flat_map counted f.names_before in
    let y : List ℕ = flat_map counted f.names_after in
    let a : List ℕ = flat_map subsection f.after in
    let s : List ℕ = flat_map command f.commands in
    let t : List ℕ = start_bytes f.id f.total in
    front_spelled f rest
    ∙ ap (λ (l : List ℕ). m ++ (b ++ ((list_head ++ (n ++ l)) ++ (a ++ (s ++ (t ++ rest)))))) (names_apart f)
    ∙ regroup m b list_head n x (counted mapped_ram) y a s t rest

-- ---- the offsets of a front that is there

mapped_length : length (counted mapped_ram) ≡ 11
unfolding mapped_ram
mapped_length = refl

head_length : length list_head ≡ 32
unfolding subsection_name
head_length = refl

up_length : (f : Front) → length (up_to_list f) ≡ list_at f
up_length f = length-append (machine_bytes f.machine) (flat_map subsection f.before)

after_length : (f : Front) → length (mapped_front f)
    ≡ list_at f + 47 + length (flat_map counted f.names_before) + length (flat_map counted f.names_after ++ after_list f)
after_length f =
    let p : List ℕ = up_to_list f in
    let n : List ℕ = be32 (length (mapped_names f)) in
    let x : List ℕ = flat_map counted f.names_before in
    let z : List ℕ = flat_map counted f.names_after ++ after_list f in
    let four : length n ≡ 4 = refl in
    omega (
      arith,
      ap length (append-nil (mapped_front f)),
      ap length (parts_spelled f []),
      length-append p (list_head ++ (n ++ (x ++ (counted mapped_ram ++ (z ++ []))))),
      length-append list_head (n ++ (x ++ (counted mapped_ram ++ (z ++ [])))),
      length-append n (x ++ (counted mapped_ram ++ (z ++ []))),
      length-append x (counted mapped_ram ++ (z ++ [])),
      length-append (counted mapped_ram) (z ++ []),
      ap length (append-nil z),
      up_length f,
      head_length,
      mapped_length,
      four,
    )

record HasOffsets (f : Front) (found : MappedFront) : Type 0 where
  list_is : found.subsection ≡ list_at f
  count_is : found.count ≡ list_at f + 32
  name_is : found.name ≡ list_at f + 36 + length (flat_map counted f.names_before)
  place_is : found.place ≡ list_at f + 47 + length (flat_map counted f.names_before) + length (flat_map counted f.names_after ++ after_list f)
  number_is : found.capabilities ≡ length f.names_before + length f.names_after + 1

has_offsets : (f : Front) (found : MappedFront) → found ≡ offsets f → HasOffsets f found
has_offsets f found e = record {
  list_is = ap (λ (x : MappedFront). x.subsection) e ∙ list_offset f;
  count_is = ap (λ (x : MappedFront). x.count) e ∙ count_offset_is f;
  name_is = ap (λ (x : MappedFront). x.name) e ∙ name_offset_is f ∙ omega arith;
  place_is = ap (λ (x : MappedFront). x.place) e ∙ after_length f;
  number_is = ap (λ (x : MappedFront). x.capabilities) e ∙ omega (arith, length-append f.names_before (mapped_ram ∷ f.names_after));
}

pub lies_in : (bytes : List ℕ) (found : MappedFront) → HasFront bytes found → LiesIn bytes found
lies_in bytes found has =
    let f : Front = has.0 in
    let o : HasOffsets f found = has_offsets f found has.1.has_offsets in
    record {
      has_list = omega (arith, o.list_is, o.count_is);
      has_name = omega (arith, o.count_is, o.name_is);
      has_rest = omega (arith, o.name_is, o.place_is);
      has_place = omega (arith, o.place_is, after_length f, ap length has.1.is_spelled, length-append (mapped_front f) has.1.rest);
      has_capability = omega (arith, o.number_is);
    }

-- ---- the cuts of a front

five : (p h n x c z : List ℕ) → p ++ (h ++ (n ++ (x ++ (c ++ z)))) ≡ (p ++ (h ++ (n ++ (x ++ c)))) ++ z
five p h n x c z = simp append_assoc

three : (p h n z : List ℕ) → p ++ (h ++ (n ++ z)) ≡ (p ++ (h ++ n)) ++ z
three p h n z = simp append_assoc

-- what follows the name
rest_cut : (f : Front) (bytes : List ℕ) (found : MappedFront) → BeginsWith f bytes found
    → slice_range bytes (found.name + 11) found.place ≡ flat_map counted f.names_after ++ after_list f
rest_cut f bytes found there =
    let o : HasOffsets f found = has_offsets f found there.has_offsets in
    let p : List ℕ = up_to_list f in
    let n : List ℕ = be32 (length (mapped_names f)) in
    let x : List ℕ = flat_map counted f.names_before in
    let z : List ℕ = flat_map counted f.names_after ++ after_list f in
    let four : length n ≡ 4 = refl in
    let long : length (p ++ (list_head ++ (n ++ (x ++ counted mapped_ram)))) ≡ list_at f + 47 + length x =
    omega (
      arith,
      length-append p (list_head ++ (n ++ (x ++ counted mapped_ram))),
      length-append list_head (n ++ (x ++ counted mapped_ram)),
      length-append n (x ++ counted mapped_ram),
      length-append x (counted mapped_ram),
      up_length f,
      head_length,
      mapped_length,
      four,
    ) in
    cut_part bytes (p ++ (list_head ++ (n ++ (x ++ counted mapped_ram)))) z there.rest (found.name + 11) found.place
    (there.is_spelled ∙ parts_spelled f there.rest ∙ five p list_head n x (counted mapped_ram) (z ++ there.rest))
    (omega (arith, o.name_is, long)) (omega (arith, o.place_is, long))

-- the names before it
names_cut : (f : Front) (bytes : List ℕ) (found : MappedFront) → BeginsWith f bytes found
    → slice_range bytes (found.count + 4) found.name ≡ flat_map counted f.names_before
names_cut f bytes found there =
    let o : HasOffsets f found = has_offsets f found there.has_offsets in
    let p : List ℕ = up_to_list f in
    let n : List ℕ = be32 (length (mapped_names f)) in
    let x : List ℕ = flat_map counted f.names_before in
    let z : List ℕ = counted mapped_ram ++ ((flat_map counted f.names_after ++ after_list f) ++ there.rest) in
    let four : length n ≡ 4 = refl in
    let long : length (p ++ (list_head ++ n)) ≡ list_at f + 36 =
    omega (arith, length-append p (list_head ++ n), length-append list_head n, up_length f, head_length, four) in
    cut_part bytes (p ++ (list_head ++ n)) x z (found.count + 4) found.name
    (there.is_spelled ∙ parts_spelled f there.rest ∙ three p list_head n (x ++ z))
    (omega (arith, o.count_is, long)) (omega (arith, o.name_is, long))

-- up to the number of capabilities
head_cut : (f : Front) (bytes : List ℕ) (found : MappedFront) → BeginsWith f bytes found → take found.count bytes ≡ up_to_list f ++ list_head
head_cut f bytes found there =
    let o : HasOffsets f found = has_offsets f found there.has_offsets in
    let p : List ℕ = up_to_list f in
    let z : List ℕ = be32 (length (mapped_names f)) ++ (flat_map counted f.names_before
    ++ (counted mapped_ram ++ ((flat_map counted f.names_after ++ after_list f) ++ there.rest))) in
    cut_front bytes (p ++ list_head) z found.count
    (there.is_spelled ∙ parts_spelled f there.rest ∙ sym (append_assoc p list_head z))
    (omega (arith, o.count_is, length-append p list_head, up_length f, head_length))

-- ---- the plain stream's front

plain_spelled : (f : Front) (capabilities : List SubsectionBody)
    → front_with f capabilities ≡ up_to_list f ++ (flat_map subsection capabilities ++ after_list f)
plain_spelled f capabilities =
    let m : List ℕ = machine_bytes f.machine in
    let b : List ℕ = flat_map subsection f.before in
    let k : List ℕ = flat_map subsection capabilities in
    let a : List ℕ = flat_map subsection f.after in
    let s : List ℕ = flat_map command f.commands in
    let t : List ℕ = start_bytes f.id f.total in
    sym (append-nil (front_with f capabilities)) ∙ with_spelled f capabilities []
    ∙ ap (λ (l : List ℕ). m ++ (b ++ (k ++ (a ++ (s ++ l))))) (append-nil t) ∙ sym (append_assoc m b (k ++ (a ++ (s ++ t))))

no_names : (names : List (List ℕ)) → length names ≡ 0 → names ≡ []
no_names [] e = refl
no_names (x ∷ names) e = absurd (omega (arith, e))

-- the whole subsection is cut out if it was the only capability
pub list_cut : (f : Front) (bytes : List ℕ) (found : MappedFront) → BeginsWith f bytes found → found.capabilities ≡ 1
    → take found.subsection bytes ++ slice_range bytes (found.name + 11) found.place ≡ plain_front f
list_cut f bytes found there one =
    let o : HasOffsets f found = has_offsets f found there.has_offsets in
    let p : List ℕ = up_to_list f in
    let z : List ℕ = list_head ++ (be32 (length (mapped_names f)) ++ (flat_map counted f.names_before
    ++ (counted mapped_ram ++ ((flat_map counted f.names_after ++ after_list f) ++ there.rest)))) in
    let first : f.names_before ≡ [] = no_names f.names_before (omega (arith, one, o.number_is)) in
    let second : f.names_after ≡ [] = no_names f.names_after (omega (arith, one, o.number_is)) in
    let front : take found.subsection bytes ≡ p =
    cut_front bytes p z found.subsection (there.is_spelled ∙ parts_spelled f there.rest) (omega (arith, o.list_is, up_length f)) in
    let rest : slice_range bytes (found.name + 11) found.place ≡ after_list f =
    rest_cut f bytes found there ∙ ap (λ (l : List (List ℕ)). flat_map counted l ++ after_list f) second in
    ap₂ (λ (a b : List ℕ). a ++ b) front rest ∙ sym (plain_spelled f [])
    ∙ ap₂ (λ (a b : List (List ℕ)). front_with f (subsection_of (a ++ b))) (sym first) (sym second)

-- and else the name
some_named : (names : List (List ℕ)) → 0 < length names → subsection_of names ≡ Capabilities names ∷ []
some_named [] some = absurd (omega (arith, some))
some_named (x ∷ names) some = refl

gather : (p h n x y a : List ℕ) → (((p ++ h) ++ n) ++ x) ++ (y ++ a) ≡ p ++ ((h ++ (n ++ (x ++ y))) ++ a)
gather p h n x y a = simp append_assoc

pub name_cut : (f : Front) (bytes : List ℕ) (found : MappedFront) → BeginsWith f bytes found → found.capabilities ≢ 1
    → take found.count bytes ++ be32 (found.capabilities - 1) ++ slice_range bytes (found.count + 4) found.name
    ++ slice_range bytes (found.name + 11) found.place ≡ plain_front f
name_cut f bytes found there more =
    let o : HasOffsets f found = has_offsets f found there.has_offsets in
    let names : List (List ℕ) = f.names_before ++ f.names_after in
    let count : length names ≡ length f.names_before + length f.names_after = length-append f.names_before f.names_after in
    let number : found.capabilities - 1 ≡ length names = omega (arith, o.number_is, count) in
    let some : 0 < length names = omega (arith, o.number_is, count, more) in
    let p : List ℕ = up_to_list f in
    let x : List ℕ = flat_map counted f.names_before in
    let y : List ℕ = flat_map counted f.names_after in
    let n : List ℕ = be32 (length names) in
    let both : x ++ y ≡ flat_map counted names = sym (flat_map-append counted f.names_before f.names_after) in
    ap (λ (l : List ℕ). l ++ be32 (found.capabilities - 1) ++ slice_range bytes (found.count + 4) found.name
    ++ slice_range bytes (found.name + 11) found.place) (head_cut f bytes found there)
    ∙ ap (λ (k : ℕ). (p ++ list_head) ++ be32 k ++ slice_range bytes (found.count + 4) found.name ++ slice_range bytes (found.name + 11) found.place) number
    ∙ ap₂ (λ (a b : List ℕ). (((p ++ list_head) ++ n) ++ a) ++ b) (names_cut f bytes found there) (rest_cut f bytes found there)
    ∙ gather p list_head n x y (after_list f)
    ∙ ap (λ (l : List ℕ). p ++ ((list_head ++ (n ++ l)) ++ after_list f)) both
    ∙ ap (λ (l : List ℕ). p ++ (l ++ after_list f)) (sym (append-nil (subsection (Capabilities names))))
    ∙ sym (plain_spelled f (Capabilities names ∷ []))
    ∙ ap (front_with f) (sym (some_named names some))
