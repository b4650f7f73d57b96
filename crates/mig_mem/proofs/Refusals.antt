-- The entries of a list, judged one after another.
use Rattle.std.proofs.Common.{ℕ, ◌≡◌, ◌<◌, List, [], ◌∷◌, length, map, take, get_or, ◌||◌, refl, sym, ap, ◌∙◌}
use Rattle.std.proofs.lemmas.List.{get_or-map, take-map}
use Rattle.std.specs.List.{list_any}
use Rattle.std.specs.Str.{bytes_eq}
use Rattle.std.specs.declared.vec.Vec.{Vec}
use Rattle.mig_mem.specs.RamTable.{Block, block, entry_block}
use Rattle.mig_mem.specs.Refusal.{block_refusal, entry_refusal}

-- an id among blocks, and among the entries that they come from
pub has_id_blocks : {A : Type 0} (list : List (Vec ℕ A × ℕ)) (id : List ℕ)
    → list_any (λ e. bytes_eq e.id id) (map entry_block list) ≡ list_any (λ e. bytes_eq e.0.items id) list
has_id_blocks [] id = refl
has_id_blocks (e ∷ es) id = ap (λ b. bytes_eq e.0.items id || b) (has_id_blocks es id)

-- an entry is judged as the block that stands after those before it
pub entry_judged : {A : Type 0} (list : List (Vec ℕ A × ℕ)) (i : ℕ) (x : Vec ℕ A × ℕ) → i < length list → x ≡ get_or list i x
    → entry_refusal (map entry_block list) i ≡ block_refusal (map entry_block (take i list)) (record { id = x.0.items; pages = x.1 })
entry_judged {A} list i x lt e =
    let none : Block = record { id = []; pages = 0 } in
    let b : block (map entry_block list) i ≡ entry_block x = get_or-map (λ (y : Vec ℕ A × ℕ). entry_block y) list i x none lt
    ∙ ap (λ (y : Vec ℕ A × ℕ). entry_block y) (sym e) in
    let front : take i (map entry_block list) ≡ map entry_block (take i list) = take-map (λ (y : Vec ℕ A × ℕ). entry_block y) i list in
    ap (λ (c : Block). block_refusal (take i (map entry_block list)) c) b ∙ ap (λ (l : List Block). block_refusal l (entry_block x)) front
