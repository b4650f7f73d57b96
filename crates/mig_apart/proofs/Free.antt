-- A load whose memory is free at claimed places.
use Rattle.std.proofs.Common.{ℕ, zero, suc, ◌≡◌, ◌≢◌, ◌+◌, ◌<◌, ◌≤◌, ◌/◌, ◌||◌, ◌&&◌, Bool, true, false, cond, not, List, [], ◌∷◌, ◌++◌, length, map, Option}
use Rattle.std.proofs.Common.{Some, None, refl, sym, ap, subst, ◌∙◌, inl, inr, arith}
use Rattle.std.specs.Prelude.{IsTrue}
use Rattle.std.specs.List.{range_with_len}
use Rattle.std.specs.Option.{option_map_or, option_or}
use Rattle.std.proofs.lemmas.Bool.{cases_Bool, cases_order, cases_lt}
use Rattle.std.proofs.lemmas.List.{map-append}
use Rattle.std.proofs.lemmas.List.Folds.{list_any-append}
use Rattle.mig_mem.specs.declared.place.Place.{Place}
use Rattle.mig_mem.specs.RamTable.{RamTable}
use Rattle.mig_mem.specs.Place.{IsPlace, has_place, place_at, place_eq}
use Rattle.mig_mem.specs.PlaceSet.{PlaceSet}
use Rattle.mig_mem.specs.Image.{Image, Page, IsImage, content_at, image_of}
use Rattle.mig_mem.specs.Round.{with_round, last_at}
use Rattle.mig_mem.proofs.PlaceOrder.{place_eq-true, place_eq-from}
use Rattle.mig_mem.proofs.Images.{image_agree, image_is, content_at-image_of}
use Rattle.mig_mem.proofs.Rounds.{last_at-cons}
use Rattle.mig_packet.specs.Packet.{normal_count, zero_count, offset_at}
use Rattle.mig_assemble.specs.Judging.{places_of}
use Rattle.mig_assemble.proofs.PacketParts.{zero_page_at, zero_by_number}
use Rattle.mig_in_place.specs.Answer.{HoldsElsewhere}
use Rattle.mig_in_place.specs.Session.{StandsFor}
use Rattle.mig_in_place.specs.Sources.{block_in, zeros_begun}
use Rattle.mig_in_place.specs.TakenPackets.{normal_page, pages_taken}
use Rattle.mig_apart.specs.Claims.{IsClaimed, ClaimsMore, ClaimsLess, IsNewClaim, packet_places}
use Rattle.mig_apart.specs.Law.{ClaimedPlacesAreFree, NothingClaimedIsStrict, StrictIsFree}
use Rattle.mig_apart.proofs.ClaimedPlaces.{nth}

elsewhere_trans : (a b c : Image) (IsFree : Place → Type 0) → HoldsElsewhere a IsFree b → HoldsElsewhere b IsFree c → HoldsElsewhere a IsFree c
elsewhere_trans a b c IsFree ab bc = record {
  same_table = bc.same_table ∙ ab.same_table;
  elsewhere = λ p is closed. bc.elsewhere p (subst (λ (t : RamTable). IsPlace t p) (sym ab.same_table) is) closed ∙ ab.elsewhere p is closed;
}

everywhere : (a b : Image) (IsFree : Place → Type 0) → a ≡ image_of a.table (content_at a) → IsImage b
    → ((p : Place) → IsFree p → ⊥) → HoldsElsewhere a IsFree b → b ≡ a
everywhere a b IsFree whole is_b none holds =
    image_is b is_b ∙ ap (λ (t : RamTable). image_of t (content_at b)) holds.same_table
    ∙ image_agree a.table (content_at b) (content_at a) (λ p is. holds.elsewhere p is (none p)) ∙ sym whole

-- a load represents the same streams after any change of the memory at claimed places
pub free_law : ClaimedPlacesAreFree
free_law given uuid first texts memory changed s free change = record {
  judged = free.judged;
  same_table = free.same_table;
  has_contents = free.has_contents;
  stands = free.stands;
  agrees = elsewhere_trans free.judged memory changed (IsClaimed s) free.agrees change;
}

-- with nothing claimed, a load represents its streams with the memory as it is
pub strict_law : NothingClaimedIsStrict
strict_law given uuid first texts memory s is_image none free =
    subst (λ (m : Image). StandsFor given uuid first texts m s.load)
    (sym (everywhere free.judged memory (IsClaimed s) free.has_contents is_image
    (λ p claimed. absurd (let t : has_place [] p ≡ true = subst (λ (l : List Place). has_place l p ≡ true) none claimed in cc)) free.agrees)) free.stands

-- a load that represents its streams with a memory does so whatever places are claimed
pub to_free_law : StrictIsFree
to_free_law given uuid first texts memory s is_image same stands = record {
  judged = memory;
  same_table = same;
  has_contents = image_is memory is_image;
  stands = stands;
  agrees = record { same_table = refl; elsewhere = λ p is closed. refl };
}

-- ---- a packet is taken

-- a page at each place that pages have
named_last : (p : Place) (pages : List Page) → has_place (places_of pages) p ≡ true → last_at p pages ≢ None
named_last p [] t = absurd cc
named_last p (x ∷ pages) t = elim (cases_Bool (place_eq x.place p)) [
  | inl here ↦ λ none. right_some (last_at p pages) x
      (sym (ap (λ (b : Bool). option_or (last_at p pages) (cond b (Some x) None)) here) ∙ sym (last_at-cons p x pages) ∙ none)
  | inr other ↦ λ none. left_some (last_at p pages) (cond (place_eq x.place p) (Some x) None)
      (named_last p pages (sym (ap (λ (b : Bool). b || has_place (places_of pages) p) other) ∙ t)) (sym (last_at-cons p x pages) ∙ none)
]
  where
    right_some : (o : Option Page) (x : Page) → option_or o (Some x) ≡ None → ⊥
    right_some None x e = cc
    right_some (Some y) x e = cc

    left_some : (o q : Option Page) → o ≢ None → option_or o q ≡ None → ⊥
    left_some None q some e = some refl
    left_some (Some y) q some e = cc

-- the pages that a run of numbers gives have their places
has_mapped : (f : ℕ → Page) (n a k : ℕ) → a ≤ k → k < a + n → has_place (places_of (map f (range_with_len a n))) (f k).place ≡ true
has_mapped f zero a k low high = absurd (omega (arith, low, high))
has_mapped f (suc n) a k low high = elim (cases_order a k) [
  | inl same ↦ or_left (place_eq (f a).place (f k).place) (has_place (places_of (map f (range_with_len (a + 1) n))) (f k).place)
      (place_eq-from (f a).place (f k).place (ap (λ (i : ℕ). (f i).place) same))
  | inr apart ↦
      or_right (place_eq (f a).place (f k).place) (has_place (places_of (map f (range_with_len (a + 1) n))) (f k).place)
      (has_mapped f n (a + 1) k (elim apart [ inl lt ↦ omega (arith, lt) | inr gt ↦ omega (arith, low, gt) ]) (omega (arith, high)))
]
  where
    or_right : (a b : Bool) → b ≡ true → (a || b) ≡ true
    or_right true b t = refl
    or_right false b t = t

    or_left : (a b : Bool) → a ≡ true → (a || b) ≡ true
    or_left true b t = refl
    or_left false b t = absurd cc

-- a place of a run of numbers passes what each passes
pub ranged : (f : ℕ → Place) (test : Place → Bool) (n a : ℕ) (p : Place) → ((i : ℕ) → a ≤ i → i < a + n → test (f i) ≡ true)
    → has_place (map f (range_with_len a n)) p ≡ true → test p ≡ true
ranged f test zero a p all t = absurd cc
ranged f test (suc n) a p all t = elim (cases_Bool (place_eq (f a) p)) [
  | inl same ↦ ap test (sym (place_eq-true (f a) p same)) ∙ all a (omega arith) (omega arith)
  | inr other ↦ ranged f test n (a + 1) p (λ i low high. all i (omega (arith, low)) (omega (arith, high)))
      (sym (ap (λ (x : Bool). x || has_place (map f (range_with_len (a + 1) n)) p) other) ∙ t)
]

either : (xs ys : List Page) (p : Place) → has_place (places_of (xs ++ ys)) p ≡ (has_place (places_of xs) p || has_place (places_of ys) p)
either xs ys p =
    ap (λ (l : List Place). has_place l p) (map-append (λ (x : Page). x.place) xs ys)
    ∙ list_any-append (λ (q : Place). place_eq q p) (places_of xs) (places_of ys)

-- the pages of a packet have its places
pub packet_named : (table : RamTable) (b : ℕ) (head : List ℕ) (contents : List (List ℕ)) (p : Place) → block_in table head ≡ b
    → length contents ≡ normal_count head
    → has_place (packet_places table b head) p ≡ true → has_place (places_of (pages_taken table head contents)) p ≡ true
packet_named table b head contents p block many t =
    let n : ℕ = normal_count head in
    let z : ℕ = zero_count head in
    let zeros : List Page = zeros_begun table head in
    let normals : List Page = map (normal_page table head contents) (range_with_len 0 (length contents)) in
    let by_number : map (zero_page_at table (block_in table head) head) (range_with_len n z) ≡ zeros =
    zero_by_number table (block_in table head) table.page_size head in
    ranged (nth table b head) (has_place (places_of (pages_taken table head contents))) (n + z) 0 p (λ i low high.
    let q : Place = nth table b head i in
    let is : place_at (block_in table head) (offset_at head i / table.page_size) ≡ q = ap (λ (k : ℕ). place_at k (offset_at head i / table.page_size)) block in
    either zeros normals q ∙ (elim (cases_lt i n) [
      | inl normal ↦ or_second (has_place (places_of zeros) q) (has_place (places_of normals) q)
          (subst (λ (x : Place). has_place (places_of normals) x ≡ true) is
          (has_mapped (normal_page table head contents) (length contents) 0 i (omega arith) (omega (arith, normal, many))))
      | inr zero_ ↦ or_first (has_place (places_of zeros) q) (has_place (places_of normals) q)
          (subst (λ (l : List Page). has_place (places_of l) q ≡ true) by_number
          (subst (λ (x : Place). has_place (places_of (map (zero_page_at table (block_in table head) head) (range_with_len n z))) x ≡ true) is
          (has_mapped (zero_page_at table (block_in table head) head) z n i (omega (arith, zero_)) (omega (arith, high)))))
    ])) t
  where
    or_second : (a b : Bool) → b ≡ true → (a || b) ≡ true
    or_second true b t = refl
    or_second false b t = t

    or_first : (a b : Bool) → a ≡ true → (a || b) ≡ true
    or_first true b t = refl
    or_first false b t = absurd cc

same_given : (o : Option Page) (c d : List ℕ) → o ≢ None → option_map_or (λ (x : Page). x.content) o c ≡ option_map_or (λ (x : Page). x.content) o d
same_given None c d some = absurd (some refl)
same_given (Some x) c d some = refl

-- what is claimed no more has the packet's page in both memories
pub packet_agrees : (judged memory : Image) (old new : PlaceSet) (b : ℕ) (head : List ℕ) (contents : List (List ℕ))
    → block_in judged.table head ≡ b → length contents ≡ normal_count head
    → ClaimsLess judged.table (packet_places judged.table b head) old new → HoldsElsewhere judged (λ p. IsTrue (has_place old.marked p)) memory
    → HoldsElsewhere (with_round judged (pages_taken judged.table head contents)) (λ p. IsTrue (has_place new.marked p))
    (with_round memory (pages_taken memory.table head contents))
packet_agrees judged memory old new b head contents block many less holds = record {
  same_table = holds.same_table;
  elsewhere = λ p is closed.
      let pages : List Page = pages_taken judged.table head contents in
      let is_m : IsPlace memory.table p = subst (λ (t : RamTable). IsPlace t p) (sym holds.same_table) is in
      let left : content_at (with_round memory (pages_taken memory.table head contents)) p ≡ option_map_or
      (λ (x : Page). x.content) (last_at p pages) (content_at memory p) =
      content_at-image_of memory.table (λ q. option_map_or (λ (x : Page). x.content)
      (last_at q (pages_taken memory.table head contents)) (content_at memory q)) p is_m
      ∙ ap (λ (t : RamTable). option_map_or (λ (x : Page). x.content) (last_at p (pages_taken t head contents)) (content_at memory p)) holds.same_table in
      let right : content_at (with_round judged pages) p ≡ option_map_or (λ (x : Page). x.content) (last_at p pages) (content_at judged p) =
      content_at-image_of judged.table (λ q. option_map_or (λ (x : Page). x.content) (last_at q pages) (content_at judged q)) p is in
      left ∙ (elim (cases_Bool (has_place (packet_places judged.table b head) p)) [
        | inl here ↦ same_given (last_at p pages) (content_at memory p) (content_at judged p)
            (named_last p pages (packet_named judged.table b head contents p block many here))
        | inr other ↦
            let unclaimed : IsTrue (has_place old.marked p)
            → ⊥ = λ claimed. closed (less p is ∙ ap (λ (x : Bool). has_place old.marked p && not x) other ∙ ap (λ (x : Bool). x && true) claimed) in
            ap (λ (c : List ℕ). option_map_or (λ (x : Page). x.content) (last_at p pages) c) (holds.elsewhere p is unclaimed)
      ]) ∙ sym right;
}

-- a memory after some pages has its contents and nothing else
pub whole_after : (m : Image) (pages : List Page) → with_round m pages ≡ image_of m.table (content_at (with_round m pages))
whole_after m pages =
    let f : Place → List ℕ = λ p. option_map_or (λ (x : Page). x.content) (last_at p pages) (content_at m p) in
    image_agree m.table f (content_at (image_of m.table f)) (λ p is. sym (content_at-image_of m.table f p is))

-- ---- a packet is claimed

-- if no place of a packet was claimed, and its places are claimed now, they're newly claimed
pub new_claim : (table : RamTable) (b : ℕ) (head : List ℕ) (old new : PlaceSet)
    → ((i : ℕ) → i < normal_count head + zero_count head → has_place old.marked (nth table b head i) ≡ false)
    → ClaimsMore table (packet_places table b head) old new → IsNewClaim table (packet_places table b head) old new
new_claim table b head old new none more = record {
  none_before = λ p is t.
      not_not (has_place old.marked p) (ranged (nth table b head) (λ q. not (has_place old.marked q))
      (normal_count head + zero_count head) 0 p (λ i low high. ap not (none i (omega (arith, high)))) t);
  claims = more;
}
  where
    not_not : (x : Bool) → not x ≡ true → x ≡ false
    not_not true e = absurd cc
    not_not false e = refl
