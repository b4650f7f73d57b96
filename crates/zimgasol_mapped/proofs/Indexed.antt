-- The heads of a file, each read from its own bytes alone.
use Rattle.std.proofs.Common.{ℕ, ◌≡◌, ◌≢◌, ◌+◌, ◌-◌, ◌<◌, ◌≤◌, ◌^◌, List, [], ◌∷◌, ◌++◌, length, min, take, drop, None, refl, sym, ap, ◌∙◌, subst, arith}
use Rattle.std.proofs.lemmas.List.{take-append-drop, drop-drop, length-append}
use Rattle.std.proofs.Math.Seq.{take-add}
use Rattle.mig_mapped.specs.declared.settings.MappedSettings.{MappedSettings}
use Rattle.mig_mapped.specs.Block.{MappedBlock}
use Rattle.mig_mapped.specs.Head.{MappedProgress, start, head_fault, bitmap_end, block_in, after_block, after_head}
use Rattle.mig_mapped.specs.Reading.{rest_of, AreBlocks, after_blocks}
use Rattle.mig_mapped.proofs.Heads.{IsHead, head_good}
use Rattle.mig_mapped.proofs.Longer.{SameHead, same_longer, head_none, head_same, block_same, blocks_push, after_push}
use Rattle.zimgasol_mapped.specs.Placed.{IsPartAt}
use Rattle.zimgasol_mapped.specs.Heads.{IsNextHead, IsIndexOf}
use Rattle.zimgasol_mapped.proofs.Slices.{whole_part, drop_saturated}

-- more bytes of a part of a file are read
pub part_more : (all old buffer new : List ℕ) (place at more n : ℕ) → IsPartAt all place old → at ≡ min (place + length old) (2 ^ 64 - 1)
    → length all < 2 ^ 64 → take n buffer ≡ take more (drop at all) → new ≡ old ++ take n buffer → IsPartAt all place new
part_more all old buffer new place at more n part on small read made =
    let xs : List ℕ = drop place all in
    let len : ℕ = length old in
    let rest : drop at all ≡ drop len xs = drop_saturated at (place + len) all on small ∙ sym (drop-drop len place all) in
    let is : new ≡ take (len + more) xs =
    made ∙ ap (λ (l : List ℕ). l ++ take n buffer) part ∙ ap (λ (l : List ℕ). take len xs ++ l) (read ∙ ap (λ (l : List ℕ). take more l) rest)
    ∙ sym (take-add len more xs) in
    is ∙ whole_part (len + more) xs ∙ ap (λ (l : List ℕ). take (length l) xs) (sym is)

-- a head without a fault in the first bytes is one in all
pub next_head : (file bytes : List ℕ) (c new : MappedProgress) → IsPartAt file c.place bytes → head_fault c bytes ≡ None → new ≡ after_head c bytes
    → IsNextHead file c new
next_head file bytes c new part good read =
    let rest : List ℕ = rest_of file c in
    let more : List ℕ = drop (length bytes) rest in
    let is : IsHead c bytes = head_good c bytes good in
    let all : bytes ++ more ≡ rest = ap (λ (l : List ℕ). l ++ more) part ∙ take-append-drop (length bytes) rest in
    let same : SameHead c.given.page_size bytes (bytes ++ more) = same_longer c.given.page_size bytes more is.bitmap.has_bitmap in
    let long : bitmap_end c.given.page_size (bytes ++ more) ≤ length (bytes ++ more) =
    omega (arith, same.end, is.bitmap.has_bitmap, length-append bytes more) in
    record {
      has_no_fault = ap (head_fault c) (sym all) ∙ head_none c (bytes ++ more) (head_same c bytes (bytes ++ more) same long is);
      is_read = read ∙ ap (λ (b : MappedBlock). after_block c b)
          (block_same c.given.page_size bytes (bytes ++ more) same ∙ ap (block_in c.given.page_size) all);
    }

-- the index so far
pub record IsSoFar (file : List ℕ) (given : MappedSettings) (place total : ℕ) (index : MappedProgress) : Type 0 where
  pub has_given : index.given ≡ given
  pub are_blocks : AreBlocks file (start given place total) index.blocks
  pub is_index : index ≡ after_blocks (start given place total) index.blocks

pub so_far_more : (file : List ℕ) (given : MappedSettings) (place total : ℕ) (old new : MappedProgress) → IsSoFar file given place total old
    → old.left ≢ 0 → IsNextHead file old new → IsSoFar file given place total new
so_far_more file given place total old new h some next =
    let first : MappedProgress = start given place total in
    let b : MappedBlock = block_in old.given.page_size (rest_of file old) in
    let is : old ≡ after_blocks first old.blocks = h.is_index in
    let more : AreBlocks file first (old.blocks ++ b ∷ []) =
    blocks_push file first old.blocks b h.are_blocks (subst (λ (x : MappedProgress). x.left ≢ 0) is some)
    (subst (λ (x : MappedProgress). head_fault x (rest_of file x) ≡ None) is next.has_no_fault)
    (subst (λ (x : MappedProgress). b ≡ block_in x.given.page_size (rest_of file x)) is refl) in
    record {
      has_given = ap (λ (x : MappedProgress). x.given) next.is_read ∙ h.has_given;
      are_blocks = subst (λ (x : MappedProgress). AreBlocks file first x.blocks) (sym next.is_read) more;
      is_index = next.is_read ∙ ap (λ (x : MappedProgress). after_block x b) is ∙ sym (after_push first old.blocks b)
          ∙ ap (λ (x : MappedProgress). after_blocks first x.blocks) (sym next.is_read);
    }

-- all blocks were read
pub so_far_whole : (file : List ℕ) (given : MappedSettings) (place total : ℕ) (index : MappedProgress) → IsSoFar file given place total index → index.left ≡ 0
    → IsIndexOf file given.page_size place total index
so_far_whole file given place total index h none = record {
  has_page_size = ap (λ (g : MappedSettings). g.page_size) h.has_given;
  are_blocks = subst (λ (g : MappedSettings). AreBlocks file (start g place total) index.blocks) (sym h.has_given) h.are_blocks;
  is_index = h.is_index ∙ ap (λ (g : MappedSettings). after_blocks (start g place total) index.blocks) (sym h.has_given);
  has_all = none;
}
