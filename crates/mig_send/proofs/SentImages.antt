-- The image of a round whose batches were packed from different memories.
use Rattle.std.proofs.Common.{ℕ, ◌≡◌, ◌+◌, ◌-◌, ◌<◌, ◌≤◌, ◌∙◌, List, [], ◌∷◌, length, get_or, zero, suc, cond, true, false, refl, sym, ap, subst, arith, inl}
use Rattle.std.proofs.Common.{inr, ◌==◌}
use Rattle.std.specs.Prelude.{nat_lt, flat_map}
use Rattle.std.specs.List.{All, sum_by, count_by}
use Rattle.std.proofs.lemmas.Bool.{cases_Bool, cases_lt, cond-true, cond-false, lt-ltb, le-ltb}
use Rattle.std.proofs.lemmas.List.{length-map, get_or-map}
use Rattle.std.proofs.lemmas.List.Elements.{All-get_or}
use Rattle.std.proofs.lemmas.List.Sums.{sum_by-cons}
use Rattle.mig_mem.specs.declared.place.Place.{Place}
use Rattle.mig_mem.specs.RamTable.{RamTable}
use Rattle.mig_mem.specs.Place.{IsPlace, IsAscending, place_at, place_eq, place_lt}
use Rattle.mig_mem.specs.Image.{Image, IsImage, content_at, image_of}
use Rattle.mig_mem.proofs.Counts.{count_none}
use Rattle.mig_mem.proofs.Images.{image_from, content_at-image_of, content_size}
use Rattle.mig_mem.proofs.PlaceOrder.{place_eq-true, place_eq-from, place_eq-flip, place_lt-ne}
use Rattle.mig_deal.specs.Deal.{SeatView, HasEachOnce, times, all_drawn}
use Rattle.mig_deal.proofs.Counts.{count_by-cons, count_by-flat_map}
use Rattle.mig_send.specs.Batches.{BatchOfPages, IsBatch, batch_places}
use Rattle.mig_send.specs.Work.{no_batch}
use Rattle.mig_send.specs.Copies.{HasPagesOf}

-- ---- which of some lists has an element

-- the index of the first with a count above 0
which : {E : Type 0} → (E → ℕ) → List E → ℕ
which count [] = 0
which count (e ∷ es) = cond (nat_lt 0 (count e)) 0 (suc (which count es))

-- each count is part of the sum
part : {E : Type 0} (count : E → ℕ) (es : List E) (i : ℕ) (d : E) → i < length es → count (get_or es i d) ≤ sum_by count es
part count [] i d lt = absurd (omega (arith, lt))
part count (e ∷ es) zero d lt = omega (arith, sum_by-cons count e es)
part count (e ∷ es) (suc i) d lt = omega (arith, sum_by-cons count e es, part count es i d (omega (arith, lt)))

-- if the counts are 1 together, only one of them is above 0
which_is : {E : Type 0} (count : E → ℕ) (es : List E) (i : ℕ) (d : E) → sum_by count es ≤ 1 → i < length es → 0 < count (get_or es i d) → which count es ≡ i
unfolding which
which_is count [] i d once lt some = absurd (omega (arith, lt))
which_is count (e ∷ es) zero d once lt some = cond-true (nat_lt 0 (count e)) 0 (suc (which count es)) (lt-ltb 0 (count e) some)
which_is count (e ∷ es) (suc i) d once lt some =
    let all = sum_by-cons count e es in
    let within : i < length es = omega (arith, lt) in
    let none : count e ≤ 0 = omega (arith, once, all, some, part count es i d within) in
    cond-false (nat_lt 0 (count e)) 0 (suc (which count es)) (le-ltb 0 (count e) none)
    ∙ ap suc (which_is count es i d (omega (arith, once, all)) within some)

-- if they are more than 0 together, one of them is
has_some : {E : Type 0} (count : E → ℕ) (es : List E) (d : E) → 0 < sum_by count es → (i : ℕ) × (i < length es) × (0 < count (get_or es i d))
has_some count [] d some = absurd (omega (arith, some))
has_some count (e ∷ es) d some = elim (cases_lt 0 (count e)) [
  | inl here ↦ (0, omega arith, here)
  | inr none ↦
      let later = has_some count es d (omega (arith, some, none, sum_by-cons count e es)) in
      (suc later.0, omega (arith, later.1), later.2)
]

-- ---- places of batches

abbrev count_of : Place → List Place → ℕ
count_of p places = count_by (λ q. place_eq q p) places

-- no place is twice among ascending ones
once_ascending : (ps : List Place) (p : Place) → IsAscending ps → count_of p ps ≤ 1
once_ascending [] p ascends = omega arith
once_ascending (q ∷ ps) p ascends =
    let all = count_by-cons (λ r. place_eq r p) q ps in
    let rest : IsAscending ps = λ i j d before within. ascends (suc i) (suc j) d (omega (arith, before)) (omega (arith, within)) in
    elim (cases_Bool (place_eq q p)) [
      | inl here ↦
          let above : All (λ r. place_eq r p ≡ false) ps = λ i d within.
          let later : place_lt p (get_or ps i d) ≡ true =
          subst (λ (o : Place). place_lt o (get_or ps i d) ≡ true) (place_eq-true q p here) (ascends 0 (suc i) d (omega arith) (omega (arith, within))) in
          place_eq-flip p (get_or ps i d) (place_lt-ne p (get_or ps i d) later) in
          omega (arith, all, cond-true {A = ℕ} (place_eq q p) 1 0 here, count_none (λ r. place_eq r p) ps above)
      | inr other ↦ omega (arith, all, cond-false {A = ℕ} (place_eq q p) 1 0 other, once_ascending ps p rest)
    ]

-- a page of a batch is among its places
has_page : (batch : BatchOfPages) (i : ℕ) → i < length batch.pages → 0 < count_of (place_at batch.block (get_or batch.pages i 0)) (batch_places batch)
has_page batch i within =
    let p : Place = place_at batch.block (get_or batch.pages i 0) in
    let at : get_or (batch_places batch) i p ≡ p = get_or-map (place_at batch.block) batch.pages i 0 p within in
    let long : i < length (batch_places batch) = omega (arith, within, length-map batch.pages (place_at batch.block)) in
    omega (
      arith,
      part (λ q. cond (place_eq q p) 1 0) (batch_places batch) i p long,
      cond-true {A = ℕ} (place_eq (get_or (batch_places batch) i p) p) 1 0 (place_eq-from (get_or (batch_places batch) i p) p at),
    )

page_is_place : (table : RamTable) (batch : BatchOfPages) (i : ℕ) → IsBatch table batch → i < length batch.pages
    → IsPlace table (place_at batch.block (get_or batch.pages i 0))
page_is_place table batch i is within =
    let p : Place = place_at batch.block (get_or batch.pages i 0) in
    subst (IsPlace table) (get_or-map (place_at batch.block) batch.pages i 0 p within)
    (All-get_or (IsPlace table) (batch_places batch) i p (omega (arith, within, length-map batch.pages (place_at batch.block))) is.has_places)

-- ---- the image

-- the number of the batch that has a place, and the channel that drew a number
number_at : ℕ → List BatchOfPages → Place → ℕ
number_at base batches p = base + which (λ (batch : BatchOfPages). count_of p (batch_places batch)) batches

channel_of : List SeatView → ℕ → ℕ
channel_of spents number = which (λ (spent : SeatView). times number spent.drawn) spents

-- at each place of a batch it has what the memory of the batch's number has there
pub sent_image : RamTable → ℕ → List BatchOfPages → List SeatView → (ℕ → ℕ → Image) → Image
sent_image table base batches spents memories =
    image_of table (λ p. content_at (memories (channel_of spents (number_at base batches p)) (number_at base batches p)) p)

-- the image of what was packed has the round's table
pub sent_table : (table : RamTable) (base : ℕ) (batches : List BatchOfPages) (spents : List SeatView) (memories : ℕ → ℕ → Image)
    → (sent_image table base batches spents memories).table ≡ table
unfolding sent_image
sent_table table base batches spents memories = refl

-- if each memory is an image of the table, what was packed from them is an image
pub sent_is_image : (table : RamTable) (base : ℕ) (batches : List BatchOfPages) (spents : List SeatView) (memories : ℕ → ℕ → Image)
    → ((channel number : ℕ) → IsImage (memories channel number) × ((memories channel number).table ≡ table))
    → IsImage (sent_image table base batches spents memories)
unfolding sent_image
sent_is_image table base batches spents memories are =
    image_from table (λ p. content_at (memories (channel_of spents (number_at base batches p)) (number_at base batches p)) p)
    (λ p is.
    let number = number_at base batches p in
    let channel = channel_of spents number in
    let of_table = (are channel number).1 in
    content_size (memories channel number) p (are channel number).0 (subst (λ (t : RamTable). IsPlace t p) (sym of_table) is)
    ∙ ap (λ (t : RamTable). t.page_size) of_table)

-- if each number was drawn once, it has the pages of each batch from that batch's memory
pub sent_has_pages : (table : RamTable) (base next : ℕ) (batches : List BatchOfPages) (spents : List SeatView) (memories : ℕ → ℕ
    → Image) (channel number : ℕ) (d : SeatView)
    → All (IsBatch table) batches → IsAscending (flat_map batch_places batches) → HasEachOnce base next (all_drawn spents)
    → number < next → number < base + length batches → channel < length spents → 0 < times number (get_or spents channel d).drawn
    → HasPagesOf (sent_image table base batches spents memories) (get_or batches (number - base) no_batch) (memories channel number)
unfolding sent_image number_at channel_of
sent_has_pages table base next batches spents memories channel number d are ascends once before to within drew = λ i lt.
    let batch : BatchOfPages = get_or batches (number - base) no_batch in
    let p : Place = place_at batch.block (get_or batch.pages i 0) in
    let draws : SeatView → ℕ = λ spent. times number spent.drawn in
    let all = count_by-flat_map (λ other. other == number) (λ (spent : SeatView). spent.drawn) spents in
    let from : base ≤ number = elim (cases_lt number base) [
      | inl below ↦ absurd (omega (arith, once.none_below number below, all, part draws spents channel d within, drew))
      | inr least ↦ least
    ] in
    let inside : number - base < length batches = omega (arith, from, to) in
    let is : IsPlace table p = page_is_place table batch i (All-get_or (IsBatch table) batches (number - base) no_batch inside are) lt in
    let count : BatchOfPages → ℕ = λ b. count_of p (batch_places b) in
    let at : which count batches ≡ number - base =
    which_is count batches (number - base) no_batch
    (omega (
      arith,
      once_ascending (flat_map batch_places batches) p ascends,
      count_by-flat_map (λ q. place_eq q p) batch_places batches,
    )) inside (has_page batch i lt) in
    let numbered : number_at base batches p ≡ number = omega (arith, at, from) in
    let drawn : channel_of spents number ≡ channel = which_is draws spents channel d (omega (arith, once.once number from before, all)) within drew in
    content_at-image_of table (λ q. content_at (memories (channel_of spents (number_at base batches q)) (number_at base batches q)) q) p is
    ∙ ap (λ (n : ℕ). content_at (memories (channel_of spents n) n) p) numbered
    ∙ ap (λ (c : ℕ). content_at (memories c number) p) drawn

-- and each number was drawn by some worker
pub drawn_by : (base next number : ℕ) (spents : List SeatView) (d : SeatView) → HasEachOnce base next (all_drawn spents) → base ≤ number → number < next
    → (channel : ℕ) × (channel < length spents) × (0 < times number (get_or spents channel d).drawn)
drawn_by base next number spents d once from before =
    has_some (λ spent. times number spent.drawn) spents d
    (omega (arith, once.once number from before, count_by-flat_map (λ other. other == number) (λ (spent : SeatView). spent.drawn) spents))
