-- Ids that are put one after another into a buffer.
use Rattle.std.proofs.Common.{ℕ, ◌≡◌, ◌+◌, ◌<◌, ◌≤◌, List, [], ◌∷◌, ◌++◌, length, map, take, drop, get_or, refl, sym, ap, ◌∙◌, arith, add-one, length-append}
use Rattle.std.proofs.Math.Seq.{take-suc, drop-append_seam, take-length}
use Rattle.std.proofs.lemmas.List.{map-append, take-append-le, drop-append-le, length-drop, get_or-map, length-map}
use Rattle.std.proofs.lemmas.List.Elements.{All-push, All-weaker, All-head, All-tail}
use Rattle.std.specs.declared.vec.Vec.{Vec}
use Rattle.mig_mem.specs.declared.table.Span.{Span}
use Rattle.mig_mem.specs.RamTable.{Block, RamTable, block, entry_block}
use Rattle.mig_mem.specs.Packed.{span_block, table_of_spans, AllWithin}

drop_take : (i n : ℕ) (xs ys : List ℕ) → i + n ≤ length xs → take n (drop i (xs ++ ys)) ≡ take n (drop i xs)
drop_take i n xs ys h =
    let le : i ≤ length xs = omega arith in
    let room : n ≤ length (drop i xs) = simp length-drop (omega arith) in
    rw (drop-append-le i xs ys le, take-append-le n (drop i xs) ys room) refl

-- a longer buffer has the same ids where they were
longer : (ids more : List ℕ) (spans : List Span) → AllWithin ids spans → map (span_block (ids ++ more)) spans ≡ map (span_block ids) spans
longer ids more [] h = refl
longer ids more (s ∷ ss) h =
    let here : s.start + s.len ≤ length ids = All-head (λ (s : Span). s.start + s.len ≤ length ids) s ss h in
    let one : take s.len (drop s.start (ids ++ more)) ≡ take s.len (drop s.start ids) = drop_take s.start s.len ids more here in
    rw one (ap (λ (bs : List Block). span_block ids s ∷ bs) (longer ids more ss (All-tail (λ (s : Span). s.start + s.len ≤ length ids) s ss h)))

-- one id more
pub packing : {A : Type 0} (list : List (Vec ℕ A × ℕ)) (ids : List ℕ) (spans : List Span) (i j : ℕ) (x : Vec ℕ A × ℕ) (s : Span)
    → map (span_block ids) spans ≡ map entry_block (take i list) → AllWithin ids spans → i < length list → j ≡ i + 1 → x ≡ get_or list i x
    → s.start ≡ length ids → s.len ≡ length x.0.items → s.pages ≡ x.1
    → (map (span_block (ids ++ x.0.items)) (spans ++ s ∷ []) ≡ map entry_block (take j list)) × AllWithin (ids ++ x.0.items) (spans ++ s ∷ [])
packing {A} list ids spans i j x s same within lt ej e at len pages =
    let t : take j list ≡ take i list ++ x ∷ [] = rw (ej, add-one) (take-suc list i x lt ∙ ap (λ (y : Vec ℕ A × ℕ). take i list ++ y ∷ []) (sym e)) in
    let more : List ℕ = x.0.items in
    let id : take s.len (drop s.start (ids ++ more)) ≡ more = rw (at, len, drop-append_seam ids more) (take-length more) in (
      (rw (
        t,
        map-append (span_block (ids ++ more)) spans (s ∷ []),
        map-append (λ (e : Vec ℕ A × ℕ). entry_block e) (take i list) (x ∷ []),
        longer ids more spans within,
        same,
        id,
        pages,
      ) refl),
      All-push (λ (s : Span). s.start + s.len ≤ length (ids ++ more)) spans s
          (All-weaker (λ (s : Span). s.start + s.len ≤ length ids) (λ (s : Span). s.start + s.len ≤ length (ids ++ more))
          (λ s h. omega (arith, length-append ids more)) spans within)
          (omega (arith, length-append ids more)),
    )

-- a span read from a table is its block's
pub packed_block : (table : RamTable) (size : ℕ) (ids : List ℕ) (spans : List Span) (i : ℕ) (s : Span)
    → table_of_spans size ids spans ≡ table → i < length table.blocks
    → s ≡ get_or spans i s → span_block ids s ≡ block table.blocks i
packed_block table size ids spans i s view lt e =
    let blocks : map (span_block ids) spans ≡ table.blocks = ap (λ (t : RamTable). t.blocks) view in
    let long : length spans ≡ length table.blocks = sym (length-map spans (span_block ids)) ∙ ap (λ (l : List Block). length l) blocks in
    ap (λ (x : Span). span_block ids x) e ∙ sym
    (get_or-map (span_block ids) spans i s (record { id = []; pages = 0 }) (omega arith)) ∙ ap (λ (l : List Block). block l i) blocks
