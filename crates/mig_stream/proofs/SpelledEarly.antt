-- Virtio-mem's early state is read as it is spelled.
use Rattle.std.proofs.Common.{◌≡◌, ℕ, ◌+◌, ◌-◌, ◌^◌, ◌<◌, Bool, true, false, cond, eqb, List, [], ◌∷◌, ◌++◌, length, take, None, refl, sym, ap, subst}
use Rattle.std.proofs.Common.{◌∙◌, append_assoc, arith}
use Rattle.std.specs.Prelude.{not, ◌&&◌, nat_eq}
use Rattle.std.specs.List.{flat_map, ends_with}
use Rattle.std.proofs.lemmas.List.{length-append, take_at}
use Rattle.std.proofs.lemmas.Nat.{from_be_bytes-to_be_bytes_8}
use Rattle.std.proofs.lemmas.Slice.Eq.{ends_is}
use Rattle.std.proofs.lemmas.Bool.{eq-eqb, ne_eqb}
use Rattle.std.proofs.lemmas.Bool.Decides.{Decides-eqb}
use Rattle.mig_stream.specs.declared.item.Before.{Before}
use Rattle.mig_stream.specs.declared.item.EarlyPart.TheVariants as early
use Rattle.mig_stream.specs.declared.item.PassedItem.TheVariants as item
use Rattle.mig_stream.specs.declared.item.Due.{Due}
use Rattle.mig_stream.specs.declared.item.Due.TheVariants.{TypeByte, Passed}
use Rattle.mig_stream.specs.declared.fault.StreamFault.TheVariants as fault
use Rattle.mig_stream.specs.Fields.{be32, be64, counted, be32_at, be64_at}
use Rattle.mig_stream.specs.Format.{early_name, early_version}
use Rattle.mig_stream.specs.Progress.{StreamProgress}
use Rattle.mig_mem.specs.First.{first_of}
use Rattle.mig_stream.specs.Items.{name_of_section, is_early, plugged_words, plugged_due, first_fault, after}
use Rattle.mig_stream.specs.Reading.{Front}
use Rattle.mig_stream.specs.Text.{footer}
use Rattle.mig_stream.specs.Machine.{EarlyState, early_head, early_numbers, early_bytes, IsEarlyState}
use Rattle.mig_stream.proofs.Fronts.{Front-none, Front-append}
use Rattle.mig_stream.proofs.SpelledItems.{item_front, be32_front, be32_footer, be32_behind}

-- ---- the head

-- a name in the head of a section
name_in : (name more : List ℕ) → take (5 + length name - 5) (name ++ more) ≡ name
name_in name more = let cut : 5 + length name - 5 ≡ length name = omega arith in
    ap (λ (k : ℕ). take k (name ++ more)) cut ∙ take_at name more (length name) refl

regroup_head : (a b c : List ℕ) → (a ++ b) ++ c ≡ a ++ (b ++ c)
regroup_head a b c = simp append_assoc

name_told : (e : EarlyState) → name_of_section (early_head e) ≡ e.path ++ early_name
name_told e =
    let name : List ℕ = e.path ++ early_name in
    ap (λ (x : List ℕ). take (5 + length name - 5) x) (regroup_head name (be32 e.instance_id) (be32 early_version))
    ∙ name_in name (be32 e.instance_id ++ be32 early_version)

version_told : (e : EarlyState) → be32_at (9 + length (e.path ++ early_name)) (early_head e) ≡ early_version
version_told e =
    let name : List ℕ = e.path ++ early_name in
    let front : List ℕ = be32 e.id ++ counted name ++ be32 e.instance_id in
    let len : length front ≡ 9 + length name = omega (arith, length-append name (be32 e.instance_id)) in
    be32_behind front (9 + length name) early_version len (omega arith)

is_told : (e : EarlyState) → is_early (early_head e) ≡ true
is_told e =
    let name : List ℕ = e.path ++ early_name in
    let ends : ends_with nat_eq name early_name ≡ true =
    (ends_is Decides-eqb name early_name (ends_with nat_eq name early_name) refl).1 e.path refl in
    ap (λ (x : List ℕ). ends_with nat_eq x early_name && eqb (be32_at (9 + length name) (early_head e)) early_version) (name_told e)
    ∙ ap (λ (x : Bool). x && eqb (be32_at (9 + length name) (early_head e)) early_version) ends
    ∙ eq-eqb _ _ (version_told e)

head_front : (c : StreamProgress) (b : Before) (e : EarlyState) → IsEarlyState e
    → Front (record c { due = Passed (item.Early b early.Head) }) (early_head e) (record c { due = Passed (item.Early b (early.Numbers e.id)) })
head_front c b e is =
    let d : StreamProgress = record c { due = Passed (item.Early b early.Head) } in
    let bytes : List ℕ = early_head e in
    let name : List ℕ = e.path ++ early_name in
    let whole : length bytes ≡ 13 + length name =
    omega (arith, length-append name (be32 e.instance_id), length-append (name ++ be32 e.instance_id) (be32 early_version)) in
    let free : first_fault d bytes ≡ None = ap (λ (x : Bool). first_of ((not x, fault.SectionName) ∷ [])) (is_told e) in
    let id : be32_at 0 bytes ≡ e.id =
    ap (be32_at 0) (regroup_id (be32 e.id) (counted (e.path ++ early_name)) (be32 e.instance_id) (be32 early_version))
    ∙ be32_front e.id (counted (e.path ++ early_name) ++ (be32 e.instance_id ++ be32 early_version)) is.has_id in
    let new : after d bytes ≡ record c { due = Passed (item.Early b (early.Numbers e.id)) } =
    ap (λ (n : ℕ). record c { due = Passed (item.Early b (early.Numbers n)) }) id in
    subst (λ (x : StreamProgress). Front d bytes x) new (item_front d bytes (λ u. absurd cc) whole free)
  where
    regroup_id : (a b c d : List ℕ) → ((a ++ b) ++ c) ++ d ≡ a ++ (b ++ (c ++ d))
    regroup_id a b c d = simp append_assoc

-- ---- the numbers

region_told : (e : EarlyState) → e.region < 2 ^ 64 → be64_at 8 (early_numbers e) ≡ e.region
unfolding be64_at
region_told e small = from_be_bytes-to_be_bytes_8 e.region small

block_size_told : (e : EarlyState) → e.block_size < 2 ^ 64 → be64_at 16 (early_numbers e) ≡ e.block_size
unfolding be64_at
block_size_told e small = from_be_bytes-to_be_bytes_8 e.block_size small

numbers_front : (c : StreamProgress) (b : Before) (e : EarlyState) → IsEarlyState e
    → Front (record c { due = Passed (item.Early b (early.Numbers e.id)) }) (early_numbers e)
    (record c { due = plugged_due b e.id (plugged_words e.region e.block_size) })
numbers_front c b e is =
    let d : StreamProgress = record c { due = Passed (item.Early b (early.Numbers e.id)) } in
    let bytes : List ℕ = early_numbers e in
    let one : be64_at 8 bytes ≡ e.region = region_told e is.has_region in
    let two : be64_at 16 bytes ≡ e.block_size = block_size_told e is.has_block_size in
    let some : eqb (be64_at 16 bytes) 0 ≡ false = ap (λ (n : ℕ). eqb n 0) two ∙ ne_eqb e.block_size 0 (λ u. omega (arith, u, is.has_blocks)) in
    let free : first_fault d bytes ≡ None = ap (λ (x : Bool). first_of ((x, fault.Length) ∷ [])) some in
    let new : after d bytes ≡ record c { due = plugged_due b e.id (plugged_words e.region e.block_size) } =
    ap (λ (n : ℕ). record c { due = plugged_due b e.id (plugged_words n (be64_at 16 bytes)) }) one
    ∙ ap (λ (n : ℕ). record c { due = plugged_due b e.id (plugged_words e.region n) }) two in
    subst (λ (x : StreamProgress). Front d bytes x) new (item_front d bytes (λ u. absurd cc) refl free)

-- ---- the words

words_front : (c : StreamProgress) (b : Before) (id : ℕ) (words : List ℕ)
    → Front (record c { due = plugged_due b id (length words) }) (flat_map be64 words) (record c { due = Passed (item.Early b (early.Footer id)) })
words_front c b id [] = Front-none (record c { due = Passed (item.Early b (early.Footer id)) })
words_front c b id (word ∷ words) =
    let n : ℕ = length words in
    let some : eqb (length (word ∷ words)) 0 ≡ false = ne_eqb _ _ (λ u. omega (arith, u)) in
    let less : length (word ∷ words) - 1 ≡ n = omega arith in
    let same : plugged_due b id (length (word ∷ words)) ≡ Passed (item.Early b (early.Plugged id n)) =
    ap (λ (x : Bool). Passed (item.Early b (cond x (early.Footer id) (early.Plugged id (length (word ∷ words) - 1))))) some
    ∙ ap (λ (k : ℕ). Passed (item.Early b (early.Plugged id k))) less in
    let d : StreamProgress = record c { due = Passed (item.Early b (early.Plugged id n)) } in
    let one : Front d (be64 word) (record c { due = plugged_due b id n }) = item_front d (be64 word) (λ u. absurd cc) refl refl in
    let first : Front (record c { due = plugged_due b id (length (word ∷ words)) }) (be64 word) (record c { due = plugged_due b id n }) =
    subst (λ (x : Due). Front (record c { due = x }) (be64 word) (record c { due = plugged_due b id n })) (sym same) one in
    Front-append _ _ _ _ _ first (words_front c b id words)

-- ---- the footer

footer_front : (c : StreamProgress) (b : Before) (id : ℕ) → id < 2 ^ 32
    → Front (record c { due = Passed (item.Early b (early.Footer id)) }) (footer id) (record c { due = TypeByte b })
footer_front c b id small =
    let same : eqb (be32_at 1 (footer id)) id ≡ true = eq-eqb _ _ (be32_footer id small) in
    item_front (record c { due = Passed (item.Early b (early.Footer id)) }) (footer id) (λ u. absurd cc) refl (rw same refl)

-- ---- the section

-- Virtio-mem's early state, after its type byte.
pub early_front : (c : StreamProgress) (b : Before) (e : EarlyState) → IsEarlyState e
    → Front (record c { due = Passed (item.Early b early.Head) }) (early_bytes e) (record c { due = TypeByte b })
early_front c b e is =
    let words : Front (record c { due = plugged_due b e.id (plugged_words e.region e.block_size) }) (flat_map be64 e.words)
    (record c { due = Passed (item.Early b (early.Footer e.id)) }) =
    subst (λ (n : ℕ). Front (record c { due = plugged_due b e.id n }) (flat_map be64 e.words)
    (record c { due = Passed (item.Early b (early.Footer e.id)) })) is.has_words (words_front c b e.id e.words) in
    Front-append _ _ _ _ _ (Front-append _ _ _ _ _ (Front-append _ _ _ _ _ (head_front c b e is) (numbers_front c b e is)) words)
    (footer_front c b e.id is.has_id)
