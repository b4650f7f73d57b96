-- Sets of a table's places, and the marks that represent them.
use Rattle.std.proofs.Common.{ℕ, ◌≡◌, ◌<◌, ◌≤◌, ◌+◌, ◌-◌, ◌*◌, ◌/◌, ◌%◌, ◌^◌, List, [], ◌∷◌, length, map, get_or, set, replicate, refl, sym, ap, ◌∙◌, inl, inr}
use Rattle.std.proofs.Common.{arith, Bool, true, false, ◌||◌, ◌&&◌, get_or-set_same, get_or-set_other}
use Rattle.std.specs.Prelude.{IsTrue, ◌==◌, not}
use Rattle.std.specs.List.{range_with_len, list_any, filter, sum_by}
use Rattle.std.specs.Vec.{with_items}
use Rattle.std.proofs.lemmas.Bool.{cases_Bool, cases_eq, cases_lt, or_cases, eq-eqb, ne_eqb}
use Rattle.std.proofs.lemmas.List.{get_or-map, get_or_past, length-map, length-set, map-set, get_or-replicate, length-replicate, set-set, set-get_or}
use Rattle.std.proofs.lemmas.List.{with_items_is}
use Rattle.std.proofs.lemmas.List.Elements.{All-weaker, All-filter}
use Rattle.std.proofs.lemmas.List.Concat.{length-flat_map}
use Rattle.std.proofs.lemmas.List.Folds.{fold-map}
use Rattle.std.proofs.lemmas.List.FromFn.{fill_by_all, get_or-map-range_with_len, length-map-range_with_len}
use Rattle.std.proofs.lemmas.List.Sums.{length-filter, count_by-le-length, sum_by-le-sum_by}
use Rattle.std.specs.declared.vec.Vec.{Vec}
use Rattle.mig_mem.specs.declared.place.Place.{Place}
use Rattle.mig_mem.specs.RamTable.{Block, RamTable, block, IsTable, total_pages}
use Rattle.mig_mem.specs.Place.{place_at, place_eq, place_lt, has_place, IsPlace, block_places, places}
use Rattle.mig_mem.specs.PlaceSet.{IsPlaceSet, places_where, with_place, without_place}
use Rattle.mig_mem.specs.Marks.{is_set, is_marked, HasWords, AreCleared, set_in, IsCounted}
use Rattle.mig_mem.specs.Buffers.{buffers_of}
use Rattle.mig_mem.proofs.Members.{InOrder, AllPairs-from_order, order-filter, filter_agree_on, list_any-filter}
use Rattle.mig_mem.proofs.PlaceOrder.{place_eq-true, place_lt-ne, place_eq-flip}
use Rattle.std.specs.Int.{bit_at}
use Rattle.std.proofs.lemmas.Nat.Bits.{bit_at-zero}
use Rattle.mig_mem.proofs.Bits.{unset_from_bit}
use Rattle.mig_mem.proofs.Blocks.{block_room}
use Rattle.mig_mem.proofs.PageSizes.{page_size_some}
use Rattle.mig_mem.proofs.TablePlaces.{all_places, has_place-places, place_from_has, places_order}

-- ---- the places that pass a test

-- tests that agree on the places of a table select the same places
pub where_agree : (table : RamTable) (f g : Place → Bool) → ((p : Place) → IsPlace table p → f p ≡ g p) → places_where table f ≡ places_where table g
unfolding places_where
where_agree table f g same = filter_agree_on f g (places table) (All-weaker (IsPlace table) (λ p. f p ≡ g p) same (places table) (all_places table))

filter_none : {X : Type 0} (xs : List X) → filter (λ _. false) xs ≡ []
filter_none [] = refl
filter_none (x ∷ xs) = filter_none xs

-- if no place of the table passes, none is selected
pub where_none : (table : RamTable) (f : Place → Bool) → ((p : Place) → IsPlace table p → f p ≡ false) → places_where table f ≡ []
unfolding places_where
where_none table f none = where_agree table f (λ _. false) none ∙ filter_none (places table)

-- the places of a table that pass a test are a set of places
pub where_set : (table : RamTable) (f : Place → Bool) → IsTable table → IsPlaceSet (record { table = table; marked = places_where table f })
unfolding places_where
where_set table f is = record {
  has_table = is;
  is_within = All-filter f (IsPlace table) (places table) (all_places table);
  is_ascending = AllPairs-from_order place_lt (filter f (places table)) (order-filter place_lt f (places table) (places_order table));
}

-- a place is among them where it is the table's and passes
any_and : (f : Place → Bool) (p : Place) (ps : List Place) → list_any (λ q. f q && place_eq q p) ps ≡ (f p && has_place ps p)
any_and f p [] = elim (cases_Bool (f p)) [ inl t ↦ rw t refl | inr n ↦ rw n refl ]
any_and f p (q ∷ qs) = elim (cases_Bool (place_eq q p)) [
  | inl t ↦ let same : f q ≡ f p = ap f (place_eq-true q p t) in
      rw (t, same, any_and f p qs) (elim (cases_Bool (f p)) [ inl u ↦ rw u refl | inr u ↦ rw u refl ])
  | inr n ↦ rw n (elim (cases_Bool (f q)) [ inl u ↦ rw u (any_and f p qs) | inr u ↦ rw u (any_and f p qs) ])
]

-- a place of the table is among those that pass a test if it passes
pub has_place-where : (table : RamTable) (f : Place → Bool) (p : Place) → IsPlace table p → has_place (places_where table f) p ≡ f p
unfolding places_where
has_place-where table f p is =
    list_any-filter (λ q. place_eq q p) f (places table) ∙ any_and f p (places table)
    ∙ ap (λ (b : Bool). f p && b) (has_place-places table p is) ∙ elim (cases_Bool (f p)) [ inl t ↦ rw t refl | inr n ↦ rw n refl ]

-- a place outside of the table is never selected
pub has_place-where_past : (table : RamTable) (f : Place → Bool) (p : Place) → (IsPlace table p → ⊥) → has_place (places_where table f) p ≡ false
unfolding places_where
has_place-where_past table f p past =
    let no : has_place (places table) p ≡ false =
    elim (cases_Bool (has_place (places table) p)) [ inl t ↦ absurd (past (place_from_has table p t)) | inr n ↦ n ] in
    list_any-filter (λ q. place_eq q p) f (places table) ∙ any_and f p (places table)
    ∙ ap (λ (b : Bool). f p && b) no ∙ elim (cases_Bool (f p)) [ inl t ↦ rw t refl | inr n ↦ rw n refl ]

-- ---- one place more

-- the places that pass a test or are this one
pub where_with : (table : RamTable) (f : Place → Bool) (p : Place)
    → with_place (record { table = table; marked = places_where table f }) p ≡ record { table = table; marked = places_where table (λ q. place_eq q p || f q) }
where_with table f p =
    ap (λ (ps : List Place). record { table = table; marked = ps })
    (where_agree table (λ q. place_eq q p || has_place (places_where table f) q) (λ q. place_eq q p || f q)
    (λ q is. ap (λ (b : Bool). place_eq q p || b) (has_place-where table f q is)))

-- a place that passes already
pub where_same : (table : RamTable) (f : Place → Bool) (p : Place) → f p ≡ true → places_where table (λ q. place_eq q p || f q) ≡ places_where table f
where_same table f p h = where_agree table (λ q. place_eq q p || f q) f (λ q is. elim (cases_Bool (place_eq q p)) [
  | inl t ↦ let same : f q ≡ true = ap f (place_eq-true q p t) ∙ h in rw (t, same) refl
  | inr n ↦ rw n refl
])

-- and a new one: the list is longer by one
longer_by_one : (f : Place → Bool) (p : Place) (ps : List Place) → InOrder place_lt ps → f p ≡ false → has_place ps p ≡ true
    → length (filter (λ q. place_eq q p || f q) ps) ≡ length (filter f ps) + 1
longer_by_one f p [] order new has = absurd cc
longer_by_one f p (q ∷ qs) order new has = elim (cases_Bool (place_eq q p)) [
  | inl t ↦
      let same : q ≡ p = place_eq-true q p t in
      let fq : f q ≡ false = ap f same ∙ new in
      let others : filter (λ x. place_eq x p || f x) qs ≡ filter f qs =
      filter_agree_on (λ x. place_eq x p || f x) f qs (All-weaker (λ x. IsTrue (place_lt q x)) (λ x. (place_eq x p || f x) ≡ f x)
      (λ x lt. let n : place_eq x p ≡ false = ap (λ (r : Place). place_eq x r) (sym same) ∙ place_eq-flip q x (place_lt-ne q x lt) in rw n refl) qs order.0) in
      rw (t, fq, others) (omega arith)
  | inr n ↦
      let later : has_place qs p ≡ true = elim (or_cases (place_eq q p) (has_place qs p) has) [ inl t ↦ absurd cc | inr t ↦ t ] in
      let ih = longer_by_one f p qs order.1 new later in
      elim (cases_Bool (f q)) [ inl u ↦ rw (n, u) (omega (arith, ih)) | inr u ↦ rw (n, u) ih ]
]

-- a new place makes the set larger by one
pub count_more : (table : RamTable) (f : Place → Bool) (p : Place) → IsPlace table p → f p ≡ false
    → length (places_where table (λ q. place_eq q p || f q)) ≡ length (places_where table f) + 1
unfolding places_where
count_more table f p is new = longer_by_one f p (places table) (places_order table) new (has_place-places table p is)

-- the table has a place for each of its pages
pub length-places : (table : RamTable) → length (places table) ≡ total_pages table.blocks
unfolding places
length-places table =
    let blocks : List Block = table.blocks in
    let pages : ℕ → ℕ = λ b. (block blocks b).pages in
    let table_from : blocks ≡ map (block blocks) (range_with_len 0 (length blocks)) =
    fill_by_all (block blocks) blocks (length blocks) (record { id = []; pages = 0 }) refl (λ k lt. refl) in
    let each : (b : ℕ) → length (block_places blocks b) ≡ pages b = λ b. length-map-range_with_len (place_at b) 0 (pages b) in
    let numbers : List ℕ = range_with_len 0 (length blocks) in
    let same : sum_by (λ b. length (block_places blocks b)) numbers ≡ sum_by pages numbers = omega (
      arith,
      sum_by-le-sum_by (λ b. length (block_places blocks b)) pages numbers (λ b. omega (arith, each b)),
      sum_by-le-sum_by pages (λ b. length (block_places blocks b)) numbers (λ b. omega (arith, each b)),
    ) in
    length-flat_map (block_places blocks) (range_with_len 0 (length blocks))
    ∙ same
    ∙ sym (fold-map (λ (a : ℕ) (b : Block). a + b.pages) (block blocks) 0 (range_with_len 0 (length blocks)))
    ∙ ap (λ (l : List Block). total_pages l) (sym table_from)

-- there are no more than the table has pages
pub count_few : (table : RamTable) (f : Place → Bool) → IsTable table → length (places_where table f) ≤ 2 ^ 40
unfolding places_where
count_few table f is =
    let all : length (filter f (places table)) ≤ length (places table) = omega (arith, length-filter f (places table), count_by-le-length f (places table)) in
    let some : 0 < table.page_size = page_size_some table.page_size is.has_page_size in
    let room : total_pages table.blocks * table.page_size ≤ 2 ^ 40 = is.has_room in
    let less : total_pages table.blocks ≤ total_pages table.blocks * table.page_size = grind arith in
    omega (arith, length-places table)

-- ---- the marks that represent a set

abbrev pub marks_at : {A : Type 0} → List (Vec ℕ A) → Place → Bool
marks_at words = is_marked (buffers_of words)

-- a row of marks
pub row_at : {A : Type 0} (words : List (Vec ℕ A)) (i : ℕ) (x : Vec ℕ A) → i < length words → x ≡ get_or words i x → get_or (buffers_of words) i [] ≡ x.items
row_at {A} words i x h e = get_or-map (λ (v : Vec ℕ A). v.items) words i x [] h ∙ ap (λ (v : Vec ℕ A). v.items) (sym e)

-- there is a row of words for each block of the table
pub has_row : {A : Type 0} (table : RamTable) (words : List (Vec ℕ A)) (i : ℕ) → HasWords table (buffers_of words) → i < length table.blocks → i < length words
has_row {A} table words i room h = omega (arith, room.blocks, length-map words (λ (v : Vec ℕ A). v.items))

-- what a row says of a page
pub mark_read : {A : Type 0} (table : RamTable) (words : List (Vec ℕ A)) (p : Place) (x : Vec ℕ A) → HasWords table (buffers_of words) → IsPlace table p
    → x ≡ get_or words p.block x → is_set x.items p.page ≡ marks_at words p
mark_read table words p x room is e = ap (λ (l : List ℕ). is_set l p.page) (sym (row_at words p.block x (has_row table words p.block room is.has_block) e))

-- what a mark says that was read in the row's slice
pub mark_seen : {A : Type 0} (table : RamTable) (words : List (Vec ℕ A)) (p : Place) (x : Vec ℕ A) (slice : List ℕ) (seen : Bool)
    → HasWords table (buffers_of words) → IsPlace table p
    → x ≡ get_or words p.block x → slice ≡ x.items → seen ≡ is_set slice p.page → marks_at words p ≡ seen
mark_seen table words p x slice seen room is e same read =
    sym (mark_read table words p x room is e) ∙ ap (λ (l : List ℕ). is_set l p.page) (sym same) ∙ sym read

-- a row is short: no block has that many pages
pub row_short : {A : Type 0} (table : RamTable) (words : List (Vec ℕ A)) (i : ℕ) (x : Vec ℕ A) → IsTable table
    → HasWords table (buffers_of words) → i < length table.blocks
    → x ≡ get_or words i x → length x.items < 2 ^ 50
row_short {A} table words i x is room lt e =
    let row : get_or (buffers_of words) i [] ≡ x.items = row_at words i x (has_row table words i room lt) e in
    let len : length x.items ≡ ((block table.blocks i).pages + 63) / 64 = ap (λ (l : List ℕ). length l) (sym row) ∙ room.pages i lt in
    let bytes : (block table.blocks i).pages * table.page_size ≤ 2 ^ 40 = block_room table i is lt in
    let some : 0 < table.page_size = page_size_some table.page_size is.has_page_size in
    let few : (block table.blocks i).pages ≤ (block table.blocks i).pages * table.page_size = grind arith in
    omega arith

room-set : (table : RamTable) (rows : List (List ℕ)) (i : ℕ) (new : List ℕ) → HasWords table rows → i < length table.blocks
    → length new ≡ length (get_or rows i []) → HasWords table (set rows i new)
room-set table rows i new room h len = record {
  blocks = length-set rows i new ∙ room.blocks;
  pages = λ k lt. elim (cases_eq k i) [
    | inl at ↦ ap (λ (j : ℕ). length (get_or (set rows i new) j [])) at ∙ ap (λ (l : List ℕ). length l) (get_or-set_same rows i new [] (rw room.blocks h))
        ∙ len ∙ ap (λ (j : ℕ). length (get_or rows j [])) (sym at) ∙ room.pages k lt
    | inr other ↦ ap (λ (l : List ℕ). length l) (get_or-set_other rows i k new [] other) ∙ room.pages k lt
  ];
}

-- ONE MARK MORE, in its row: the set has one place more
pub marked_more : {A : Type 0} (table : RamTable) (words : List (Vec ℕ A)) (count : ℕ) (p : Place) (x v : Vec ℕ A)
    → IsCounted table words count → IsPlace table p
    → x ≡ get_or words p.block x → length v.items ≡ length x.items → ((q : ℕ) → is_set v.items q ≡ (q == p.page || is_set x.items q)) → marks_at words p ≡ false
    → IsCounted table (set words p.block v) (count + 1) × (set_in table (set words p.block v) ≡ with_place (set_in table words) p)
marked_more {A} table words count p x v counted is e len more new =
    let rows : List (List ℕ) = buffers_of words in
    let row : get_or rows p.block [] ≡ x.items = row_at words p.block x (has_row table words p.block counted.has_room is.has_block) e in
    let has : p.block < length rows = rw counted.has_room.blocks is.has_block in
    let rows' : buffers_of (set words p.block v) ≡ set rows p.block v.items = map-set (λ (w : Vec ℕ A). w.items) words p.block v in
    let marks : (q : Place) → marks_at (set words p.block v) q ≡ (place_eq q p || marks_at words q) = λ q.
    ap (λ (l : List (List ℕ)). is_marked l q) rows' ∙ elim (cases_eq q.block p.block) [
      | inl at ↦
          let t : (q.block == p.block) ≡ true = eq-eqb q.block p.block at in
          let here : get_or (set rows p.block v.items) q.block [] ≡ v.items =
          ap (λ (b : ℕ). get_or (set rows p.block v.items) b []) at ∙ get_or-set_same rows p.block v.items [] has in
          let was : get_or rows q.block [] ≡ x.items = ap (λ (b : ℕ). get_or rows b []) at ∙ row in
          rw (here, was, t) (more q.page)
      | inr away ↦
          let n : (q.block == p.block) ≡ false = ne_eqb q.block p.block away in
          let same : get_or (set rows p.block v.items) q.block [] ≡ get_or rows q.block [] = get_or-set_other rows p.block q.block v.items [] away in
          rw (same, n) refl
    ] in
    let all : places_where table (marks_at (set words p.block v)) ≡ places_where table (λ q. place_eq q p || marks_at words q) =
    where_agree table (marks_at (set words p.block v)) (λ q. place_eq q p || marks_at words q) (λ q _. marks q) in (
      record {
        is_table = counted.is_table;
        has_room = rw rows' (room-set table rows p.block v.items counted.has_room is.has_block (len ∙ ap (λ (l : List ℕ). length l) (sym row)));
        counts = ap (λ (n : ℕ). n + 1) counted.counts ∙ sym (count_more table (marks_at words) p is new) ∙ ap (λ (l : List Place). length l) (sym all);
      },
      ap (λ (l : List Place). record { table = table; marked = l }) all ∙ sym (where_with table (marks_at words) p),
    )

-- one place more, if the row was written through its slice
pub slice_more : {A : Type 0} (table : RamTable) (words : List (Vec ℕ A)) (count : ℕ) (p : Place) (x : Vec ℕ A)
    (slice new : List ℕ) → IsCounted table words count → IsPlace table p
    → x ≡ get_or words p.block x → slice ≡ x.items → length slice ≡ x.len → length new ≡ length slice
    → ((q : ℕ) → is_set new q ≡ (q == p.page || is_set slice q)) → marks_at words p ≡ false
    → IsCounted table (set words p.block (with_items x new)) (count + 1)
    × (set_in table (set words p.block (with_items x new)) ≡ with_place (set_in table words) p)
slice_more table words count p x slice new counted is e same room len more absent =
    let held : (with_items x new).items ≡ new = with_items_is x new (len ∙ room) in
    marked_more table words count p x (with_items x new) counted is e (ap (λ (l : List ℕ). length l) held ∙ len ∙ ap (λ (l : List ℕ). length l) same)
    (λ q. ap (λ (l : List ℕ). is_set l q) held ∙ more q ∙ ap (λ (l : List ℕ). q == p.page || is_set l q) same) absent

-- and a mark that is there already
pub marked_already : {A : Type 0} (table : RamTable) (words : List (Vec ℕ A)) (p : Place) → marks_at words p ≡ true
    → set_in table words ≡ with_place (set_in table words) p
marked_already table words p h =
    sym (where_with table (marks_at words) p ∙ ap (λ (l : List Place). record { table = table; marked = l }) (where_same table (marks_at words) p h))

-- ---- one place fewer

-- the places that pass a test and aren't this one
pub where_without : (table : RamTable) (f : Place → Bool) (p : Place)
    → without_place (record { table = table; marked = places_where table f }) p ≡ record {
      table = table;
      marked = places_where table (λ q. f q && not (place_eq q p));
    }
where_without table f p =
    ap (λ (ps : List Place). record { table = table; marked = ps })
    (where_agree table (λ q. has_place (places_where table f) q && not (place_eq q p)) (λ q. f q && not (place_eq q p))
    (λ q is. ap (λ (b : Bool). b && not (place_eq q p)) (has_place-where table f q is)))

-- a place that isn't marked
pub marked_absent : {A : Type 0} (table : RamTable) (words : List (Vec ℕ A)) (p : Place) → marks_at words p ≡ false
    → set_in table words ≡ without_place (set_in table words) p
marked_absent table words p h =
    sym (where_without table (marks_at words) p ∙ ap (λ (l : List Place). record { table = table; marked = l })
    (where_agree table (λ q. marks_at words q && not (place_eq q p)) (marks_at words) (λ q is. elim (cases_Bool (place_eq q p)) [
      | inl t ↦ let no : marks_at words q ≡ false = ap (marks_at words) (place_eq-true q p t) ∙ h in rw (t, no) refl
      | inr n ↦ rw n (elim (cases_Bool (marks_at words q)) [ inl u ↦ rw u refl | inr u ↦ rw u refl ])
    ])))

-- One mark fewer, in its row: the set has one place fewer. With the mark put back it is the set
-- from before.
pub marked_fewer : {A : Type 0} (table : RamTable) (words : List (Vec ℕ A)) (count : ℕ) (p : Place) (x v : Vec ℕ A)
    → IsCounted table words count → IsPlace table p
    → x ≡ get_or words p.block x → length v.items ≡ length x.items
    → ((q : ℕ) → is_set v.items q ≡ (is_set x.items q && not (q == p.page))) → marks_at words p ≡ true
    → (1 ≤ count) × (IsCounted table (set words p.block v) (count - 1) × (set_in table (set words p.block v) ≡ without_place (set_in table words) p))
marked_fewer {A} table words count p x v counted is e len fewer there =
    let new : List (Vec ℕ A) = set words p.block v in
    let rows : List (List ℕ) = buffers_of words in
    let has : p.block < length words = has_row table words p.block counted.has_room is.has_block in
    let row : get_or rows p.block [] ≡ x.items = row_at words p.block x has e in
    let rows' : buffers_of new ≡ set rows p.block v.items = map-set (λ (w : Vec ℕ A). w.items) words p.block v in
    let room : HasWords table (buffers_of new) =
    rw rows' (room-set table rows p.block v.items counted.has_room is.has_block (len ∙ ap (λ (l : List ℕ). length l) (sym row))) in
    let v_is : v ≡ get_or new p.block v = sym (get_or-set_same words p.block v v has) in
    let gone : is_set v.items p.page ≡ false = fewer p.page ∙ (let t : (p.page == p.page) ≡ true = eq-eqb p.page p.page refl in
    rw t (elim (cases_Bool (is_set x.items p.page)) [ inl u ↦ rw u refl | inr u ↦ rw u refl ])) in
    let was : is_set x.items p.page ≡ true = mark_read table words p x counted.has_room is e ∙ there in
    let lacks : marks_at new p ≡ false = sym (mark_read table new p v room is v_is) ∙ gone in
    let few : ℕ = length (set_in table new).marked in
    let fewer_are : IsCounted table new few = record { is_table = counted.is_table; has_room = room; counts = refl } in
    let more : (q : ℕ) → is_set x.items q ≡ (q == p.page || is_set v.items q) = λ q. elim (cases_eq q p.page) [
      | inl at ↦ let t : (q == p.page) ≡ true = eq-eqb q p.page at in rw t (ap (λ (n : ℕ). is_set x.items n) at ∙ was)
      | inr other ↦ let n : (q == p.page) ≡ false = ne_eqb q p.page other in
          rw n (sym (fewer q ∙ rw n (elim (cases_Bool (is_set x.items q)) [ inl u ↦ rw u refl | inr u ↦ rw u refl ])))
    ] in
    let back = marked_more table new few p v x fewer_are is v_is (sym len) more lacks in
    let again : set new p.block x ≡ words = set-set words p.block v x ∙ ap (λ (w : Vec ℕ A). set words p.block w) e ∙ set-get_or words p.block x in
    let one_more : few + 1 ≡ length (set_in table words).marked = back.0.counts ∙ ap (λ (l : List (Vec ℕ A)). length (set_in table l).marked) again in
    let is_count : count ≡ length (set_in table words).marked = counted.counts in
    let marks : (q : Place) → marks_at new q ≡ (marks_at words q && not (place_eq q p)) = λ q.
    ap (λ (l : List (List ℕ)). is_marked l q) rows' ∙ elim (cases_eq q.block p.block) [
      | inl at ↦
          let t : (q.block == p.block) ≡ true = eq-eqb q.block p.block at in
          let here : get_or (set rows p.block v.items) q.block [] ≡ v.items =
          ap (λ (b : ℕ). get_or (set rows p.block v.items) b []) at ∙ get_or-set_same rows p.block v.items [] (rw counted.has_room.blocks is.has_block) in
          let before : get_or rows q.block [] ≡ x.items = ap (λ (b : ℕ). get_or rows b []) at ∙ row in
          rw (here, before, t) (fewer q.page)
      | inr away ↦
          let n : (q.block == p.block) ≡ false = ne_eqb q.block p.block away in
          let same : get_or (set rows p.block v.items) q.block [] ≡ get_or rows q.block [] = get_or-set_other rows p.block q.block v.items [] away in
          rw (same, n) (elim (cases_Bool (is_marked rows q)) [ inl u ↦ rw u refl | inr u ↦ rw u refl ])
    ] in
    let all : places_where table (marks_at new) ≡ places_where table (λ q. marks_at words q && not (place_eq q p)) =
    where_agree table (marks_at new) (λ q. marks_at words q && not (place_eq q p)) (λ q _. marks q) in (
      omega arith,
      (
        record { is_table = counted.is_table; has_room = room; counts = omega arith },
        ap (λ (l : List Place). record { table = table; marked = l }) all ∙ sym (where_without table (marks_at words) p),
      ),
    )

-- one place fewer, if the row was written through its slice
pub slice_fewer : {A : Type 0} (table : RamTable) (words : List (Vec ℕ A)) (count : ℕ) (p : Place) (x : Vec ℕ A)
    (slice new : List ℕ) → IsCounted table words count → IsPlace table p
    → x ≡ get_or words p.block x → slice ≡ x.items → length slice ≡ x.len → length new ≡ length slice
    → ((q : ℕ) → is_set new q ≡ (is_set slice q && not (q == p.page))) → marks_at words p ≡ true
    → (1 ≤ count) × (IsCounted table (set words p.block (with_items x new)) (count - 1)
    × (set_in table (set words p.block (with_items x new)) ≡ without_place (set_in table words) p))
slice_fewer table words count p x slice new counted is e same room len fewer there =
    let held : (with_items x new).items ≡ new = with_items_is x new (len ∙ room) in
    marked_fewer table words count p x (with_items x new) counted is e (ap (λ (l : List ℕ). length l) held ∙ len ∙ ap (λ (l : List ℕ). length l) same)
    (λ q. ap (λ (l : List ℕ). is_set l q) held ∙ fewer q ∙ ap (λ (l : List ℕ). is_set l q && not (q == p.page)) same) there

-- what a row says of the set
pub row_lacks : {A : Type 0} (table : RamTable) (words : List (Vec ℕ A)) (b page : ℕ) (x : Vec ℕ A)
    → HasWords table (buffers_of words) → b < length table.blocks → x ≡ get_or words b x
    → is_set x.items page ≡ false → has_place (set_in table words).marked (place_at b page) ≡ false
row_lacks table words b page x room lt e h = elim (cases_lt page (block table.blocks b).pages) [
  | inl inside ↦
      let is : IsPlace table (place_at b page) = record { has_block = lt; has_page = inside } in
      has_place-where table (marks_at words) (place_at b page) is ∙ sym (mark_read table words (place_at b page) x room is e) ∙ h
  | inr past ↦ has_place-where_past table (marks_at words) (place_at b page)
      (λ is. let inside : page < (block table.blocks b).pages = is.has_page in absurd (omega arith))
]

-- a page whose bit is set in its block's row is a place of the set
pub row_has : {A : Type 0} (table : RamTable) (words : List (Vec ℕ A)) (b page : ℕ) (x : Vec ℕ A)
    → HasWords table (buffers_of words) → b < length table.blocks → x ≡ get_or words b x
    → page < (block table.blocks b).pages → is_set x.items page ≡ true → has_place (set_in table words).marked (place_at b page) ≡ true
row_has table words b page x room lt e inside h =
    let is : IsPlace table (place_at b page) = record { has_block = lt; has_page = inside } in
    has_place-where table (marks_at words) (place_at b page) is ∙ sym (mark_read table words (place_at b page) x room is e) ∙ h

-- ---- no marks

abbrev pub no_row : RamTable → ℕ → List ℕ
no_row table b = replicate (((block table.blocks b).pages + 63) / 64) 0

-- words of zeros have no mark
pub none_set : (n q : ℕ) → is_set (replicate n 0) q ≡ false
none_set n q =
    let none : get_or (replicate n 0) (q / 64) 0 ≡ 0 = elim (cases_lt (q / 64) n) [
      | inl lt ↦ get_or-replicate n (q / 64) 0 0 lt
      | inr past ↦ get_or_past (replicate n 0) (q / 64) 0 (omega (arith, length-replicate {A = ℕ} n 0))
    ] in
    unset_from_bit (replicate n 0) q (ap (λ (w : ℕ). bit_at w (q % 64)) none ∙ bit_at-zero (q % 64))

no_row_at : (table : RamTable) (rows : List (List ℕ)) (i : ℕ) → rows ≡ map (no_row table) (range_with_len 0 (length table.blocks))
    → i < length table.blocks → get_or rows i [] ≡ no_row table i
no_row_at table rows i e lt = ap (λ (l : List (List ℕ)). get_or l i []) e
    ∙ get_or-map-range_with_len (no_row table) 0 (length table.blocks) i i [] lt (omega arith)

-- rows without a mark are the empty set, of 0 places
pub unmarked : {A : Type 0} (table : RamTable) (words : List (Vec ℕ A)) → IsTable table
    → buffers_of words ≡ map (no_row table) (range_with_len 0 (length table.blocks))
    → IsCounted table words 0 × (set_in table words ≡ record { table = table; marked = [] })
unmarked {A} table words is e =
    let none : places_where table (marks_at words) ≡ [] = where_none table (marks_at words) (λ p at.
    ap (λ (l : List ℕ). is_set l p.page) (no_row_at table (buffers_of words) p.block e at.has_block)
    ∙ none_set (((block table.blocks p.block).pages + 63) / 64) p.page) in (
      record {
        is_table = is;
        has_room = record {
          blocks = ap (λ (l : List (List ℕ)). length l) e ∙ length-map-range_with_len (no_row table) 0 (length table.blocks);
          pages = λ i lt. ap (λ (l : List ℕ). length l) (no_row_at table (buffers_of words) i e lt)
              ∙ length-replicate (((block table.blocks i).pages + 63) / 64) 0;
        };
        counts = ap (λ (l : List Place). length l) (sym none);
      },
      ap (λ (l : List Place). record { table = table; marked = l }) none,
    )

-- all marks taken away
pub cleared : {A : Type 0} (table : RamTable) (old : List (List ℕ)) (words : List (Vec ℕ A)) → IsTable table → HasWords table old
    → AreCleared old (buffers_of words)
    → IsCounted table words 0 × (set_in table words ≡ record { table = table; marked = [] })
cleared table old words is room wiped =
    unmarked table words is (fill_by_all (no_row table) (buffers_of words) (length table.blocks) [] (wiped.len ∙ room.blocks)
    (λ k lt. wiped.rows k ∙ ap (λ (n : ℕ). replicate n 0) (room.pages k lt)))

-- the step of the loop that does it, and its end
pub record ClearedUpTo (old new : List (List ℕ)) (i : ℕ) : Type 0 where
  pub len : length new ≡ length old
  pub before : (k : ℕ) → k < i → get_or new k [] ≡ replicate (length (get_or old k [])) 0
  pub rest : (k : ℕ) → i ≤ k → get_or new k [] ≡ get_or old k []

-- before the first row no row is cleared
pub cleared_none : (old : List (List ℕ)) → ClearedUpTo old old 0
cleared_none old = record { len = refl; before = λ k lt. absurd (omega arith); rest = λ k le. refl }

-- the next row that is cleared is added to those before it
pub cleared_more : (old rows : List (List ℕ)) (i : ℕ) (row : List ℕ) → i < length old → ClearedUpTo old rows i
    → row ≡ replicate (length (get_or rows i [])) 0 → ClearedUpTo old (set rows i row) (i + 1)
cleared_more old rows i row lt upto is = record {
  len = length-set rows i row ∙ upto.len;
  before = λ k le. elim (cases_eq k i) [
    | inl at ↦ ap (λ (j : ℕ). get_or (set rows i row) j []) at ∙ get_or-set_same rows i row [] (rw upto.len lt) ∙ is
        ∙ ap (λ (l : List ℕ). replicate (length l) 0) (upto.rest i (omega arith)) ∙ ap (λ (j : ℕ). replicate (length (get_or old j [])) 0) (sym at)
    | inr other ↦ get_or-set_other rows i k row [] other ∙ upto.before k (omega arith)
  ];
  rest = λ k le. get_or-set_other rows i k row [] (λ e. absurd (omega arith)) ∙ upto.rest k (omega arith);
}

-- if no row is left, all rows are cleared
pub cleared_all : (old rows : List (List ℕ)) (i : ℕ) → length old ≤ i → ClearedUpTo old rows i → AreCleared old rows
cleared_all old rows i all upto = record {
  len = upto.len;
  rows = λ k. elim (cases_lt k i) [
    | inl lt ↦ upto.before k lt
    | inr past ↦ upto.rest k past ∙ get_or_past old k [] (omega arith) ∙ ap (λ (l : List ℕ). replicate (length l) 0) (sym (get_or_past old k [] (omega arith)))
  ];
}
