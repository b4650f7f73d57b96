-- The current round advances by a packet's head, or by a page.
use Rattle.std.proofs.Common.{ℕ, ◌≡◌, ◌/◌, ◌||◌, Bool, true, false, List, [], ◌∷◌, ◌++◌, map, Option, Some, None, refl, sym, ap, subst, ◌∙◌, append_assoc, inl}
use Rattle.std.proofs.Common.{inr}
use Rattle.std.specs.Prelude.{IsPermutation, IsTrue, IsFalse, ◌⊎◌}
use Rattle.std.specs.List.{All, flat_map}
use Rattle.std.specs.Option.{is_some}
use Rattle.std.proofs.lemmas.Bool.{cases_Bool, or_parts}
use Rattle.std.proofs.lemmas.List.{append-nil, map-append}
use Rattle.std.proofs.lemmas.List.Folds.{list_any-append}
use Rattle.std.proofs.lemmas.List.Concat.{flat_map-append}
use Rattle.std.proofs.lemmas.List.Elements.{All-nil, All-cons, All-append, All-weaker}
use Rattle.std.proofs.lemmas.List.Sorted.{IsPermutation-append_left, IsPermutation-append_right, IsPermutation-append_comm, IsPermutation-trans}
use Rattle.mig_mem.specs.declared.place.Place.{Place}
use Rattle.mig_mem.specs.RamTable.{RamTable}
use Rattle.mig_mem.specs.Place.{has_place, place_at}
use Rattle.mig_mem.specs.Image.{Page, Image, with_page}
use Rattle.mig_mem.specs.Round.{with_round}
use Rattle.mig_packet.specs.Packet.{Fields, fields_of, NormalPage}
use Rattle.mig_packet.specs.Paging.{OpenPacket, GivenSoFar}
use Rattle.mig_assemble.specs.Judging.{place_fault, places_of, packet_pages, page_in}
use Rattle.mig_assemble.specs.Arrivals.{Arrival, Records, OnePacket, records_in, packets_in}
use Rattle.mig_assemble.proofs.Putting.{put_after, put_page_more}
use Rattle.mig_packet.specs.PacketHead.{as_zeros}
use Rattle.mig_assemble.proofs.AddingPlaces.{has_place-append}
use Rattle.mig_assemble.proofs.Arriving.{packets_push}
use Rattle.mig_in_place.specs.Round.{KeptRound, Keeps, AlsoKeeps, any_misplaced}
use Rattle.mig_in_place.specs.Sources.{heads_given, packets_given, heads_begun, pages_given, pages_begun, zeros_begun, normal_begun, block_in, head_places}
use Rattle.mig_in_place.specs.Sources.{named_places, HoldsRound, AtChannel, came_with, AddsHead}

-- ---- in the middle of a list

insert : {X : Type 0} (P A H B Q : List X) → IsPermutation P (A ++ (H ++ B)) → IsPermutation (P ++ Q) (A ++ ((H ++ Q) ++ B))
insert {X} P A H B Q perm =
    let first : IsPermutation (P ++ Q) ((A ++ (H ++ B)) ++ Q) = IsPermutation-append_left Q P (A ++ (H ++ B)) perm in
    let moved : IsPermutation (A ++ (H ++ (B ++ Q))) (A ++ (H ++ (Q ++ B))) =
    IsPermutation-append_right A (H ++ (B ++ Q)) (H ++ (Q ++ B)) (IsPermutation-append_right H (B ++ Q) (Q ++ B) (IsPermutation-append_comm B Q)) in
    let left : (A ++ (H ++ B)) ++ Q ≡ A ++ (H ++ (B ++ Q)) = append_assoc A (H ++ B) Q ∙ ap (λ (l : List X). A ++ l) (append_assoc H B Q) in
    let right : A ++ (H ++ (Q ++ B)) ≡ A ++ ((H ++ Q) ++ B) = ap (λ (l : List X). A ++ l) (sym (append_assoc H Q B)) in
    IsPermutation-trans (P ++ Q) (A ++ (H ++ (B ++ Q))) (A ++ ((H ++ Q) ++ B)) (subst (λ (l : List X). IsPermutation (P ++ Q) l) left first)
    (subst (λ (l : List X). IsPermutation (A ++ (H ++ (B ++ Q))) l) right moved)

-- the joined lists of some elements, with x among them, are those before, that of x and those after
pub in_middle : {X Y : Type 0} (g : X → List Y) (before after : List X) (x : X)
    → flat_map g (before ++ x ∷ after) ≡ flat_map g before ++ (g x ++ flat_map g after)
in_middle g before after x = flat_map-append g before (x ∷ after)

-- ---- records and packets

records_push : (came : List Arrival) (packet : Fields) → records_in (came ++ OnePacket packet ∷ []) ≡ records_in came
records_push [] packet = refl
records_push (Records pages ∷ came) packet = ap (λ (l : List Page). pages ++ l) (records_push came packet)
records_push (OnePacket other ∷ came) packet = records_push came packet

-- ---- names

-- what is named in the middle may become more
or_more : (a b c m n : Bool) → (m ≡ true → n ≡ true) → (a || (b || (m || c))) ≡ true → (a || (b || (n || c))) ≡ true
or_more true b c m n more t = refl
or_more false true c m n more t = refl
or_more false false c true n more t = rw (more refl) refl
or_more false false true false true more t = refl
or_more false false true false false more t = refl
or_more false false false false n more t = absurd cc

or_here : (a b c m : Bool) → m ≡ true → (a || (b || (m || c))) ≡ true
or_here true b c m t = refl
or_here false true c m t = refl
or_here false false c m t = rw t refl

-- the places that a channel's heads name
abbrev pub channel_places : RamTable → ℕ → GivenSoFar → List Place
channel_places table k so_far = flat_map (head_places table) (heads_given k so_far)

named_parts : (f : AtChannel) (table : RamTable) (so_far : GivenSoFar) (p : Place)
    → has_place (named_places table f.k (came_with f so_far)) p
    ≡ (has_place (places_of f.records) p || (has_place (flat_map (head_places table) (flat_map (heads_given f.k) f.before)) p
    || (has_place (channel_places table f.k so_far) p || has_place (flat_map (head_places table) (flat_map (heads_given f.k) f.after)) p)))
named_parts f table so_far p =
    let hp : List ℕ → List Place = head_places table in
    let hg : GivenSoFar → List (List ℕ) = heads_given f.k in
    let B : List Place = flat_map hp (flat_map hg f.before) in
    let A : List Place = flat_map hp (flat_map hg f.after) in
    let M : List Place = flat_map hp (hg so_far) in
    let parts : flat_map hp (flat_map hg (f.before ++ so_far ∷ f.after)) ≡ B ++ (M ++ A) =
    ap (λ (l : List (List ℕ)). flat_map hp l) (in_middle hg f.before f.after so_far)
    ∙ flat_map-append hp (flat_map hg f.before) (hg so_far ++ flat_map hg f.after)
    ∙ ap (λ (l : List Place). B ++ l) (flat_map-append hp (hg so_far) (flat_map hg f.after)) in
    ap (λ (l : List Place). has_place (places_of f.records ++ l) p) parts
    ∙ has_place-append (places_of f.records) (B ++ (M ++ A)) p
    ∙ ap (λ (b : Bool). has_place (places_of f.records) p || b) (has_place-append B (M ++ A) p)
    ∙ ap (λ (b : Bool). has_place (places_of f.records) p || (has_place B p || b)) (has_place-append M A p)

-- more heads name more places
pub named_more : (f : AtChannel) (table : RamTable) (so_far more : GivenSoFar) (p : Place)
    → (has_place (channel_places table f.k so_far) p ≡ true → has_place (channel_places table f.k more) p ≡ true)
    → has_place (named_places table f.k (came_with f so_far)) p ≡ true → has_place (named_places table f.k (came_with f more)) p ≡ true
named_more f table so_far more p grows t =
    named_parts f table more p
    ∙ or_more (has_place (places_of f.records) p) (has_place (flat_map (head_places table) (flat_map (heads_given f.k) f.before)) p)
    (has_place (flat_map (head_places table) (flat_map (heads_given f.k) f.after)) p)
    (has_place (channel_places table f.k so_far) p) (has_place (channel_places table f.k more) p) grows
    (sym (named_parts f table so_far p) ∙ t)

-- a place that one channel's heads name is one that the round names
pub named_here : (f : AtChannel) (table : RamTable) (so_far : GivenSoFar) (p : Place) → has_place (channel_places table f.k so_far) p ≡ true
    → has_place (named_places table f.k (came_with f so_far)) p ≡ true
named_here f table so_far p t =
    named_parts f table so_far p
    ∙ or_here (has_place (places_of f.records) p) (has_place (flat_map (head_places table) (flat_map (heads_given f.k) f.before)) p)
    (has_place (flat_map (head_places table) (flat_map (heads_given f.k) f.after)) p) (has_place (channel_places table f.k so_far) p) t

-- ---- a head

-- with the head of a packet that was begun
abbrev pub with_head : GivenSoFar → List ℕ → GivenSoFar
with_head so_far head = record so_far { packet = Some (record { head = head; pages = [] }) }

heads_with : (k : ℕ) (so_far : GivenSoFar) (head : List ℕ) → so_far.packet ≡ None → heads_given k (with_head so_far head) ≡ heads_given k so_far ++ head ∷ []
heads_with k so_far head none =
    let G : List (List ℕ) = packets_given k so_far in
    ap (λ (l : List (List ℕ)). l ++ head ∷ []) (sym (ap (λ (o : Option OpenPacket). G ++ heads_begun o) none ∙ append-nil G))

-- The pages written once a head was added: the zeros of its packet, or none if pages are known to
-- be misplaced.
pub record WroteZeros (table : RamTable) (head : List ℕ) (r : KeptRound) (before after : Image) : Type 0 where
  pub right : IsFalse r.has_misplaced → (after ≡ with_round before (zeros_begun table head)) ⊎ ((after ≡ before) × (zeros_begun table head ≡ []))
  pub named : IsFalse r.has_misplaced → All (λ page. IsTrue (has_place (head_places table head) page.place)) (zeros_begun table head)
  pub wrong : IsTrue r.has_misplaced → after ≡ before

module _ (f : AtChannel) (table : RamTable) (so_far : GivenSoFar) (head : List ℕ) (r new : KeptRound) (memory then : Image) (none : so_far.packet ≡ None)
    (also : AlsoKeeps (OnePacket (as_zeros head)) r new) (wrote : WroteZeros table head new memory then) (holds : HoldsRound table
    f.kept f.k (came_with f so_far) r memory) where
  abbrev more : GivenSoFar
  more = with_head so_far head

  keeps_more : Keeps table (holds.arrivals ++ OnePacket (as_zeros head) ∷ []) new
  keeps_more = also table holds.arrivals holds.keeps

  packets_more : IsPermutation (packets_in (holds.arrivals ++ OnePacket (as_zeros head) ∷ []))
      (map as_zeros (flat_map (heads_given f.k) (came_with f more).channels))
  packets_more =
      let P : List Fields = packets_in holds.arrivals in
      let z : List (List ℕ) → List Fields = map as_zeros in
      let A : List (List ℕ) = flat_map (heads_given f.k) f.before in
      let B : List (List ℕ) = flat_map (heads_given f.k) f.after in
      let H : List (List ℕ) = heads_given f.k so_far in
      let split : (L : List (List ℕ)) → z (A ++ (L ++ B)) ≡ z A ++ (z L ++ z B) = λ L. map-append as_zeros A (L ++ B)
      ∙ ap (λ (l : List Fields). z A ++ l) (map-append as_zeros L B) in
      let old : IsPermutation P (z A ++ (z H ++ z B)) =
      subst (λ (l : List Fields). IsPermutation P l) (ap z (in_middle (heads_given f.k) f.before f.after so_far) ∙ split H) holds.has_packets in
      let now : IsPermutation (P ++ as_zeros head ∷ []) (z A ++ ((z H ++ as_zeros head ∷ []) ++ z B)) = insert P (z A) (z H) (z B) (as_zeros head ∷ []) old in
      let there : z A ++ ((z H ++ as_zeros head ∷ []) ++ z B) ≡ z (flat_map (heads_given f.k) (came_with f more).channels) =
      ap (λ (l : List Fields). z A ++ (l ++ z B)) (sym (map-append as_zeros H (head ∷ [])) ∙ ap z (sym (heads_with f.k so_far head none)))
      ∙ sym (split (heads_given f.k more)) ∙ ap z (sym (in_middle (heads_given f.k) f.before f.after more)) in
      subst (λ (l : List Fields). IsPermutation l (z (flat_map (heads_given f.k) (came_with f more).channels)))
      (sym (packets_push holds.arrivals (OnePacket (as_zeros head))))
      (subst (λ (l : List Fields). IsPermutation (P ++ as_zeros head ∷ []) l) there now)

  places_more : channel_places table f.k more ≡ channel_places table f.k so_far ++ head_places table head
  places_more =
      ap (λ (l : List (List ℕ)). flat_map (head_places table) l) (heads_with f.k so_far head none)
      ∙ flat_map-append (head_places table) (heads_given f.k so_far) (head ∷ [])
      ∙ ap (λ (l : List Place). channel_places table f.k so_far ++ l) (append-nil (head_places table head))

  stays_named : (page : Page) → has_place (named_places table f.k (came_with f so_far)) page.place ≡ true
      → has_place (named_places table f.k (came_with f more)) page.place ≡ true
  stays_named page t = named_more f table so_far more page.place (λ here.
      ap (λ (l : List Place). has_place l page.place) places_more ∙ has_place-append (channel_places table f.k so_far) (head_places table head) page.place
      ∙ ap (λ (b : Bool). b || has_place (head_places table head) page.place) here) t

  is_named : (page : Page) → has_place (head_places table head) page.place ≡ true → has_place (named_places table f.k (came_with f more)) page.place ≡ true
  is_named page t = named_here f table more page.place
      (ap (λ (l : List Place). has_place l page.place) places_more ∙ has_place-append (channel_places table f.k so_far) (head_places table head) page.place
      ∙ or_right (has_place (channel_places table f.k so_far) page.place) (has_place (head_places table head) page.place) t)
    where
      or_right : (a b : Bool) → b ≡ true → (a || b) ≡ true
      or_right true b t = refl
      or_right false b t = t

  old_named : All (λ page. IsTrue (has_place (named_places table f.k (came_with f more)) page.place)) holds.written
  old_named = All-weaker (λ page. IsTrue (has_place (named_places table f.k (came_with f so_far)) page.place))
      (λ page. IsTrue (has_place (named_places table f.k (came_with f more)) page.place))
      stays_named holds.written holds.are_named

  -- no page lay wrong before
  right_before : IsFalse new.has_misplaced → IsFalse r.has_misplaced
  right_before right =
      let wrong : Fields → Bool = λ q. is_some (place_fault table q) in
      let all : any_misplaced table (packets_in holds.arrivals ++ as_zeros head ∷ []) ≡ false =
      ap (any_misplaced table) (sym (packets_push holds.arrivals (OnePacket (as_zeros head)))) ∙ sym keeps_more.has_misplaced ∙ right in
      holds.keeps.has_misplaced
      ∙ (or_parts (any_misplaced table (packets_in holds.arrivals)) (any_misplaced table (as_zeros head ∷ []))
      (sym (list_any-append wrong (packets_in holds.arrivals) (as_zeros head ∷ [])) ∙ all)).0

  pages_more : IsFalse new.has_misplaced → IsPermutation (holds.written ++ zeros_begun table head)
      (f.records ++ flat_map (pages_given table f.k) (came_with f more).channels)
  pages_more right =
      let R : List Page = f.records in
      let A : List Page = flat_map (pages_given table f.k) f.before in
      let B : List Page = flat_map (pages_given table f.k) f.after in
      let H : List Page = pages_given table f.k so_far in
      let Z : List Page = zeros_begun table head in
      let old : IsPermutation holds.written ((R ++ A) ++ (H ++ B)) =
      subst (λ (l : List Page). IsPermutation holds.written l)
      (ap (λ (l : List Page). R ++ l) (in_middle (pages_given table f.k) f.before f.after so_far)
      ∙ sym (append_assoc R A (H ++ B))) (holds.are_all (right_before right)) in
      let now : IsPermutation (holds.written ++ Z) ((R ++ A) ++ ((H ++ Z) ++ B)) = insert holds.written (R ++ A) H B Z old in
      let given : H ++ Z ≡ pages_given table f.k more =
      ap (λ (l : List Page). l ++ Z) (ap (λ (o : Option OpenPacket). flat_map
      (λ (packet : List ℕ). packet_pages table (fields_of table.page_size packet)) (packets_given f.k so_far) ++ pages_begun table o) none
      ∙ append-nil (flat_map (λ (packet : List ℕ). packet_pages table (fields_of table.page_size packet)) (packets_given f.k so_far)))
      ∙ ap (λ (l : List Page). flat_map (λ (packet : List ℕ). packet_pages table (fields_of table.page_size packet))
      (packets_given f.k so_far) ++ l) (sym (append-nil Z)) in
      subst (λ (l : List Page). IsPermutation (holds.written ++ Z) l)
      (ap (λ (l : List Page). (R ++ A) ++ (l ++ B)) given ∙ append_assoc R A (pages_given table f.k more ++ B)
      ∙ ap (λ (l : List Page). R ++ l) (sym (in_middle (pages_given table f.k) f.before f.after more))) now

  memory_more : IsFalse new.has_misplaced → then ≡ with_round f.kept (holds.written ++ zeros_begun table head)
  memory_more right = elim (wrote.right right) [
    | inl put ↦ put ∙ ap (λ (m : Image). with_round m (zeros_begun table head)) holds.has_memory ∙ put_after f.kept holds.written (zeros_begun table head)
    | inr none ↦ none.0 ∙ holds.has_memory ∙ ap (λ (l : List Page). with_round f.kept l)
        (sym (append-nil holds.written) ∙ ap (λ (l : List Page). holds.written ++ l) (sym none.1))
  ]

  pub head_holds : HoldsRound table f.kept f.k (came_with f more) new then
  head_holds = elim (cases_Bool new.has_misplaced) [
    | inl wrong ↦ record {
      arrivals = holds.arrivals ++ OnePacket (as_zeros head) ∷ [];
      keeps = keeps_more;
      has_records = records_push holds.arrivals (as_zeros head) ∙ holds.has_records;
      has_packets = packets_more;
      written = holds.written;
      has_memory = wrote.wrong wrong ∙ holds.has_memory;
      are_named = old_named;
      are_all = λ right. absurd cc;
    }
    | inr right ↦ record {
      arrivals = holds.arrivals ++ OnePacket (as_zeros head) ∷ [];
      keeps = keeps_more;
      has_records = records_push holds.arrivals (as_zeros head) ∙ holds.has_records;
      has_packets = packets_more;
      written = holds.written ++ zeros_begun table head;
      has_memory = memory_more right;
      are_named = All-append (λ page. IsTrue (has_place (named_places table f.k (came_with f more)) page.place)) holds.written
          (zeros_begun table head) old_named
          (All-weaker (λ page. IsTrue (has_place (head_places table head) page.place))
          (λ page. IsTrue (has_place (named_places table f.k (came_with f more)) page.place)) is_named
          (zeros_begun table head) (wrote.named right));
      are_all = λ _. pages_more right;
    }
  ]

-- a head is added to what came, and its zeros are written
pub adds_head : (table : RamTable) (head : List ℕ) (r new : KeptRound) (memory then : Image) → memory.table ≡ table
    → AlsoKeeps (OnePacket (as_zeros head)) r new → WroteZeros table head new memory then
    → AddsHead head r memory new then
adds_head table head r new memory then same also wrote = λ f so_far none holds.
    subst (λ (t : RamTable). HoldsRound t f.kept f.k (came_with f (with_head so_far head)) new then) (sym same)
    (head_holds f table so_far head r new memory then none also wrote
    (subst (λ (t : RamTable). HoldsRound t f.kept f.k (came_with f so_far) r memory) same holds))

-- ---- a page

-- the page of an offset, in the block that a head names
abbrev page_at : RamTable → List ℕ → ℕ → List ℕ → Page
page_at table head offset content = page_in table (block_in table head) offset content

-- with one page more of the packet that was begun
abbrev pub with_next : GivenSoFar → OpenPacket → ℕ → List ℕ → GivenSoFar
with_next so_far packet offset content = record so_far {
  packet = Some
      (record packet { pages = packet.pages ++ record { offset = offset; content = content } ∷ [] });
}

heads_same : (k : ℕ) (so_far : GivenSoFar) (packet : OpenPacket) (offset : ℕ) (content : List ℕ) → so_far.packet ≡ Some packet
    → heads_given k (with_next so_far packet offset content) ≡ heads_given k so_far
heads_same k so_far packet offset content is = ap (λ (o : Option OpenPacket). packets_given k so_far ++ heads_begun o) (sym is)

-- The pages written once a page was given: that page, or none if pages are known to be misplaced.
pub record WrotePage (table : RamTable) (head : List ℕ) (offset : ℕ) (content : List ℕ) (r : KeptRound) (before after : Image) : Type 0 where
  pub right : IsFalse r.has_misplaced → after ≡ with_page before (place_at (block_in table head) (offset / table.page_size)) content
  pub named : IsFalse r.has_misplaced → has_place (head_places table head) (place_at (block_in table head) (offset / table.page_size)) ≡ true
  pub wrong : IsTrue r.has_misplaced → after ≡ before

module _ (f : AtChannel) (table : RamTable) (so_far : GivenSoFar) (packet : OpenPacket) (offset : ℕ) (content : List
    ℕ) (r : KeptRound) (memory then : Image) (is : so_far.packet ≡ Some packet)
    (wrote : WrotePage table packet.head offset content r memory then) (holds : HoldsRound table f.kept f.k (came_with f so_far) r memory) where
  abbrev next : GivenSoFar
  next = with_next so_far packet offset content

  abbrev page : Page
  page = page_at table packet.head offset content

  same_heads : flat_map (heads_given f.k) (came_with f next).channels ≡ flat_map (heads_given f.k) (came_with f so_far).channels
  same_heads =
      in_middle (heads_given f.k) f.before f.after next
      ∙ ap (λ (l : List (List ℕ)). flat_map (heads_given f.k) f.before ++ (l ++ flat_map (heads_given f.k) f.after))
      (heads_same f.k so_far packet offset content is)
      ∙ sym (in_middle (heads_given f.k) f.before f.after so_far)

  same_names : (p : Place) → has_place (named_places table f.k (came_with f so_far)) p ≡ true → has_place (named_places table f.k (came_with f next)) p ≡ true
  same_names p t = ap (λ (l : List (List ℕ)). has_place (places_of f.records ++ flat_map (head_places table) l) p) same_heads ∙ t

  names_page : has_place (head_places table packet.head) page.place ≡ true → has_place (named_places table f.k (came_with f next)) page.place ≡ true
  names_page t = named_here f table next page.place
      (ap (λ (l : List Place). has_place l page.place) (flat_map-append (head_places table) (packets_given f.k so_far) (packet.head ∷ []))
      ∙ has_place-append (flat_map (head_places table) (packets_given f.k so_far)) (head_places table packet.head ++ []) page.place
      ∙ or_second (has_place (flat_map (head_places table) (packets_given f.k so_far)) page.place) (has_place (head_places table packet.head ++ []) page.place)
      (ap (λ (l : List Place). has_place l page.place) (append-nil (head_places table packet.head)) ∙ t))
    where
      or_second : (a b : Bool) → b ≡ true → (a || b) ≡ true
      or_second true b t = refl
      or_second false b t = t

  pages_next : IsFalse r.has_misplaced → IsPermutation (holds.written ++ page ∷ []) (f.records ++ flat_map (pages_given table f.k) (came_with f next).channels)
  pages_next right =
      let R : List Page = f.records in
      let A : List Page = flat_map (pages_given table f.k) f.before in
      let B : List Page = flat_map (pages_given table f.k) f.after in
      let X : List Page = flat_map (λ (bytes : List ℕ). packet_pages table (fields_of table.page_size bytes)) (packets_given f.k so_far) in
      let Z : List Page = zeros_begun table packet.head in
      let N : List Page = normal_begun table packet in
      let here : pages_given table f.k so_far ≡ X ++ (Z ++ N) = ap (λ (o : Option OpenPacket). X ++ pages_begun table o) is in
      let old : IsPermutation holds.written ((R ++ A) ++ ((X ++ (Z ++ N)) ++ B)) =
      subst (λ (l : List Page). IsPermutation holds.written l)
      (ap (λ (l : List Page). R ++ l) (in_middle (pages_given table f.k) f.before f.after so_far
      ∙ ap (λ (l : List Page). A ++ (l ++ B)) here) ∙ sym (append_assoc R A ((X ++ (Z ++ N)) ++ B)))
      (holds.are_all right) in
      let now : IsPermutation (holds.written ++ page ∷ []) ((R ++ A) ++ (((X ++ (Z ++ N)) ++ page ∷ []) ++ B)) =
      insert holds.written (R ++ A) (X ++ (Z ++ N)) B (page ∷ []) old in
      let more : normal_begun table (record packet { pages = packet.pages ++ record { offset = offset; content = content } ∷ [] }) ≡ N ++ page ∷ [] =
      map-append (λ (x : NormalPage). page_in table (block_in table packet.head) x.offset x.content) packet.pages
      (record { offset = offset; content = content } ∷ []) in
      let given : (X ++ (Z ++ N)) ++ page ∷ [] ≡ pages_given table f.k next =
      append_assoc X (Z ++ N) (page ∷ []) ∙ ap (λ (l : List Page). X ++ l) (append_assoc Z N (page ∷ []) ∙ ap (λ (l : List Page). Z ++ l) (sym more)) in
      subst (λ (l : List Page). IsPermutation (holds.written ++ page ∷ []) l)
      (ap (λ (l : List Page). (R ++ A) ++ (l ++ B)) given ∙ append_assoc R A (pages_given table f.k next ++ B)
      ∙ ap (λ (l : List Page). R ++ l) (sym (in_middle (pages_given table f.k) f.before f.after next))) now

  pub page_holds : HoldsRound table f.kept f.k (came_with f next) r then
  page_holds =
      let named : All (λ x. IsTrue (has_place (named_places table f.k (came_with f next)) x.place)) holds.written =
      All-weaker (λ x. IsTrue (has_place (named_places table f.k (came_with f so_far)) x.place))
      (λ x. IsTrue (has_place (named_places table f.k (came_with f next)) x.place))
      (λ x t. same_names x.place t) holds.written holds.are_named in
      let packets : IsPermutation (packets_in holds.arrivals) (map as_zeros (flat_map (heads_given f.k) (came_with f next).channels)) =
      subst (λ (l : List (List ℕ)). IsPermutation (packets_in holds.arrivals) (map as_zeros l)) (sym same_heads) holds.has_packets in
      elim (cases_Bool r.has_misplaced) [
        | inl wrong ↦ record {
          arrivals = holds.arrivals;
          keeps = holds.keeps;
          has_records = holds.has_records;
          has_packets = packets;
          written = holds.written;
          has_memory = wrote.wrong wrong ∙ holds.has_memory;
          are_named = named;
          are_all = λ right. absurd cc;
        }
        | inr right ↦ record {
          arrivals = holds.arrivals;
          keeps = holds.keeps;
          has_records = holds.has_records;
          has_packets = packets;
          written = holds.written ++ page ∷ [];
          has_memory = put_page_more f.kept memory then holds.written page
              (place_at (block_in table packet.head) (offset / table.page_size)) content holds.has_memory refl refl (wrote.right right);
          are_named = All-append (λ x. IsTrue (has_place (named_places table f.k (came_with f next)) x.place)) holds.written (page ∷ []) named
              (All-cons (λ x. IsTrue (has_place (named_places table f.k (came_with f next)) x.place)) page []
              (names_page (wrote.named right)) (All-nil (λ x. IsTrue (has_place (named_places table f.k (came_with f next)) x.place))));
          are_all = λ _. pages_next right;
        }
      ]
