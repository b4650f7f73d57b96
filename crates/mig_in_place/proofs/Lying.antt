-- The places that a packet's head names, where its pages lie in a block.
use Rattle.std.proofs.Common.{ℕ, ◌≡◌, ◌≢◌, ◌<◌, ◌+◌, ◌/◌, Bool, true, false, List, [], ◌∷◌, length, map, get_or, Option, Some, None, refl, sym, ap, subst, ◌∙◌}
use Rattle.std.proofs.Common.{arith, zero, suc, ◌||◌, inl, inr}
use Rattle.std.specs.Prelude.{IsTrue, IsFalse, IfSome}
use Rattle.std.specs.List.{All, range_with_len}
use Rattle.std.specs.Option.{unwrap_or}
use Rattle.std.proofs.lemmas.Bool.{cases_Bool}
use Rattle.std.proofs.lemmas.List.{length-map, get_or-map}
use Rattle.std.proofs.lemmas.List.Elements.{All-nil}
use Rattle.std.proofs.lemmas.List.FromFn.{length-map-range_with_len, get_or-map-range_with_len}
use Rattle.mig_mem.specs.declared.place.Place.{Place}
use Rattle.mig_mem.specs.RamTable.{RamTable}
use Rattle.mig_mem.specs.Place.{place_at, place_eq, has_place}
use Rattle.mig_mem.specs.Image.{Page, Image, with_page}
use Rattle.mig_mem.specs.Round.{with_round}
use Rattle.mig_mem.proofs.PlaceOrder.{place_eq-from}
use Rattle.mig_packet.specs.Packet.{Fields, fields_of, normal_count, zero_count, offset_at}
use Rattle.mig_assemble.specs.Judging.{place_fault, places_of, packet_pages}
use Rattle.mig_assemble.specs.PacketPages.{zero_pages}
use Rattle.mig_assemble.proofs.PacketPlaces.{place_of, places-in, packet_places}
use Rattle.mig_assemble.proofs.PacketParts.{zero_page_at, zero_by_number}
use Rattle.mig_packet.specs.PacketHead.{offsets_in, as_zeros}
use Rattle.mig_assemble.specs.HeadPlaces.{LieIn}
use Rattle.mig_in_place.specs.Round.{KeptRound}
use Rattle.mig_packet.specs.Paging.{OpenPacket, with_page as with_page_of}
use Rattle.mig_in_place.specs.Sources.{block_in, zeros_begun, head_places, HoldsRound, came_with, AddsPage}
use Rattle.mig_packet.proofs.Heads.{count, offset_is}
use Rattle.mig_in_place.proofs.Steps.{WroteZeros, WrotePage, page_holds}

-- each place of a list is among it
has_at : (ps : List Place) (i : ℕ) (d : Place) → i < length ps → has_place ps (get_or ps i d) ≡ true
has_at [] i d lt = absurd (omega (arith, lt))
has_at (p ∷ ps) zero d lt = ap (λ (b : Bool). b || has_place ps p) (place_eq-from p p refl)
has_at (p ∷ ps) (suc i) d lt = or_later (place_eq p (get_or ps i d)) (has_place ps (get_or ps i d)) (has_at ps i d (omega (arith, lt)))
  where
    or_later : (a b : Bool) → b ≡ true → (a || b) ≡ true
    or_later true b t = refl
    or_later false b t = t

-- a head whose pages lie in a block names that block
pub block_is : (table : RamTable) (b : ℕ) (head : List ℕ) → LieIn table b head → block_in table head ≡ b
block_is table b head lie = ap (λ (o : Option ℕ). unwrap_or o 0) lie.has_block

-- the places of its offsets
places_are : (table : RamTable) (b : ℕ) (head : List ℕ) → LieIn table b head → head_places table head ≡ map (place_of table b) (offsets_in head)
places_are table b head lie =
    let q : Fields = as_zeros head in
    let none : place_fault table q ≡ None = lie.are_right in
    let all : head_places table head ≡ places_of (packet_pages table q) = rw none refl in
    all ∙ ap places_of (packet_places table q b lie.has_block) ∙ places-in table q b

-- if a packet's pages lie in a block, its head names the place there of each of its offsets
pub offset_named : (table : RamTable) (b : ℕ) (head : List ℕ) (i : ℕ) → LieIn table b head → i < length (offsets_in head)
    → has_place (head_places table head) (place_at b (offset_at head i / table.page_size)) ≡ true
offset_named table b head i lie lt =
    let ps : List Place = map (place_of table b) (offsets_in head) in
    let d : Place = place_at 0 0 in
    let there : i < length ps = (let e = length-map (offsets_in head) (place_of table b) in omega (arith, e, lt)) in
    let here : get_or ps i d ≡ place_at b (offset_at head i / table.page_size) =
    get_or-map (place_of table b) (offsets_in head) i 0 d lt ∙ ap (place_of table b) (sym (offset_is head i lt)) in
    ap (λ (l : List Place). has_place l (place_at b (offset_at head i / table.page_size))) (places_are table b head lie)
    ∙ subst (λ (p : Place). has_place ps p ≡ true) here (has_at ps i d there)

-- if a packet's pages lie in a block, its head names the places of its pages of zeros
pub zeros_named : (table : RamTable) (b : ℕ) (head : List ℕ) → LieIn table b head
    → All (λ page. IsTrue (has_place (head_places table head) page.place)) (zeros_begun table head)
zeros_named table b head lie =
    let n : ℕ = normal_count head in
    let z : ℕ = zero_count head in
    let by_number : map (zero_page_at table b head) (range_with_len n z) ≡ zeros_begun table head =
    zero_by_number table b table.page_size head ∙ ap (λ (k : ℕ). zero_pages table k (fields_of table.page_size head)) (sym (block_is table b head lie)) in
    subst (λ (l : List Page). All (λ page. IsTrue (has_place (head_places table head) page.place)) l) by_number (λ k d lt.
    let within : k < z = (let e = length-map-range_with_len (zero_page_at table b head) n z in omega (arith, e, lt)) in
    let is : get_or (map (zero_page_at table b head) (range_with_len n z)) k d ≡ zero_page_at table b head (n + k) =
    get_or-map-range_with_len (zero_page_at table b head) n z k (n + k) d within refl in
    let low : n + k < length (offsets_in head) = (let e = count head in omega (arith, e, within)) in
    subst (λ (page : Page). has_place (head_places table head) page.place ≡ true) (sym is) (offset_named table b head (n + k) lie low))

-- a packet without pages has no zeros
pub no_zeros : (table : RamTable) (head : List ℕ) → length (offsets_in head) ≡ 0 → zeros_begun table head ≡ []
no_zeros table head none =
    let z : zero_count head ≡ 0 = (let e = count head in omega (arith, e, none)) in
    sym (zero_by_number table (block_in table head) table.page_size head)
    ∙ ap (λ (k : ℕ). map (zero_page_at table (block_in table head) head) (range_with_len (normal_count head) k)) z

-- ---- what was written

-- the zeros of a packet are written to the places that its head names
pub wrote_in : (table : RamTable) (b p : ℕ) (head : List ℕ) (r : KeptRound) (before after : Image) → LieIn table b head
    → p ≡ table.page_size → IsFalse r.has_misplaced
    → after ≡ with_round before (zero_pages table b (fields_of p head)) → WroteZeros table head r before after
wrote_in table b p head r before after lie size right put = record {
  right = λ _. inl (put ∙ ap (λ (n : ℕ). with_round before (zero_pages table b (fields_of n head))) size
      ∙ ap (λ (k : ℕ). with_round before (zero_pages table k (fields_of table.page_size head))) (sym (block_is table b head lie)));
  named = λ _. zeros_named table b head lie;
  wrong = λ wrong. absurd cc;
}

-- for a head without offsets an unchanged memory has its zeros written
pub wrote_nowhere : (table : RamTable) (head : List ℕ) (r : KeptRound) (before after : Image) → length (offsets_in head) ≡ 0
    → after ≡ before → WroteZeros table head r before after
wrote_nowhere table head r before after none same = record {
  right = λ _. inr (same, no_zeros table head none);
  named = λ _. subst (λ (l : List Page). All (λ page. IsTrue (has_place (head_places table head) page.place)) l)
      (sym (no_zeros table head none)) (All-nil (λ page. IsTrue (has_place (head_places table head) page.place)));
  wrong = λ _. same;
}

-- if pages are known to be misplaced, the zeros of a head leave the memory unchanged
pub wrote_wrong : (table : RamTable) (head : List ℕ) (r : KeptRound) (before after : Image) → IsTrue r.has_misplaced
    → after ≡ before → WroteZeros table head r before after
wrote_wrong table head r before after wrong same = record {
  right = λ right. absurd cc;
  named = λ right. absurd cc;
  wrong = λ _. same;
}

-- a normal page of a packet in a block is written at its place there, unless pages are known to be
-- misplaced, and the head names that place
pub wrote_page : (table : RamTable) (b : ℕ) (head : List ℕ) (i offset : ℕ) (content : List ℕ) (r : KeptRound)
    (before after : Image) → LieIn table b head → i < normal_count head → offset ≡ offset_at head i
    → (IsFalse r.has_misplaced → after ≡ with_page before (place_at b (offset / table.page_size)) content)
    → (IsTrue r.has_misplaced → after ≡ before) → WrotePage table head offset content r before after
wrote_page table b head i offset content r before after lie lt is right wrong = record {
  right = λ f. right f ∙ ap (λ (k : ℕ). with_page before (place_at k (offset / table.page_size)) content) (sym (block_is table b head lie));
  named = λ _.
      let low : i < length (offsets_in head) = (let e = count head in omega (arith, e, lt)) in
      subst (λ (k : ℕ). has_place (head_places table head) (place_at k (offset / table.page_size)) ≡ true) (sym (block_is table b head lie))
      (subst (λ (o : ℕ). has_place (head_places table head) (place_at b (o / table.page_size)) ≡ true) (sym is) (offset_named table b head i lie low));
  wrong = wrong;
}

-- ---- a page is added

-- a page is written to its place, unless a page of the round was misplaced
pub adds_page : (offset : ℕ) (content : List ℕ) (block : Option ℕ) (r : KeptRound) (memory then : Image)
    → ((b : ℕ) → block ≡ Some b → IsFalse r.has_misplaced
    → then ≡ with_page memory (place_at b (offset / memory.table.page_size)) content) → (IsTrue r.has_misplaced → then ≡ memory)
    → AddsPage offset content block r memory then
adds_page offset content block r memory then put same = λ f so_far packet is lt is_offset size writes holds.
    let table : RamTable = memory.table in
    let head : List ℕ = packet.head in
    let wrote : WrotePage table head offset content r memory then = (elim (cases_Bool r.has_misplaced) [
      | inl wrong ↦ record { right = λ right. absurd cc; named = λ right. absurd cc; wrong = same }
      | inr right ↦
          let some : length (offsets_in head) ≢ 0 = λ none. (let e = count head in omega (arith, e, lt, none)) in
          let at = is_some_block block (writes.writes right some) in
          let lie : LieIn table at.0 head = subst (λ (o : Option ℕ). IfSome o (λ b. LieIn table b head)) at.1 writes.lies in
          wrote_page table at.0 head (length packet.pages) offset content r memory then lie lt is_offset (put at.0 at.1) same
    ]) in
    subst (λ (o : Option OpenPacket). HoldsRound table f.kept f.k (came_with f (record so_far { packet = with_page_of offset content o })) r then) (sym is)
    (page_holds f table so_far packet offset content r memory then is wrote holds)
  where
    is_some_block : (o : Option ℕ) → o ≢ None → (b : ℕ) × (o ≡ Some b)
    is_some_block None some = absurd (some refl)
    is_some_block (Some b) some = (b, refl)
