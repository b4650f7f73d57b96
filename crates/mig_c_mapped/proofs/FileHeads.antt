-- What the load of a file has taken is the file's reading.
use Rattle.std.proofs.Common.{ℕ, ◌≡◌, ◌≢◌, ◌≤◌, ◌++◌, ◌∷◌, [], false, length, None, sym, ap, subst, ◌∙◌, arith}
use Rattle.std.specs.Prelude.{nat_lt}
use Rattle.std.proofs.lemmas.Bool.{cond-false, le-ltb}
use Rattle.std.proofs.lemmas.List.{length-append}
use Rattle.mig_mapped.specs.Block.{MappedBlock}
use Rattle.mig_mapped.specs.Head.{MappedProgress, start, head_fault, bitmap_end, block_in, after_block}
use Rattle.mig_mapped.specs.Reading.{rest_of, AreBlocks, after_blocks}
use Rattle.mig_mapped.proofs.Heads.{IsHead, head_good}
use Rattle.mig_mapped.proofs.Longer.{SameHead, same_longer, head_same, head_none, block_same, blocks_push, after_push}
use Rattle.mig_c_mapped.specs.Law.{HeadsAreTaken, FileIsRead}

pub heads_taken : HeadsAreTaken
heads_taken given place total file bytes more old new has rest takes =
    let c : MappedProgress = old.index in
    let size : ℕ = c.given.page_size in
    let from : MappedProgress = start given place total in
    let b : MappedBlock = block_in size bytes in
    let h : IsHead c bytes = head_good c bytes takes.is_good in
    let same : SameHead size bytes (bytes ++ more) = same_longer size bytes more h.bitmap.has_bitmap in
    let within : bitmap_end size (bytes ++ more) ≤ length (bytes ++ more) =
    omega (arith, same.end, h.bitmap.has_bitmap, length-append bytes more) in
    let good : head_fault c (rest_of file c) ≡ None =
    ap (head_fault c) rest ∙ head_none c (bytes ++ more) (head_same c bytes (bytes ++ more) same within h) in
    let is : b ≡ block_in size (rest_of file c) = block_same size bytes (bytes ++ more) same ∙ sym (ap (block_in size) rest) in
    let blocks : new.index.blocks ≡ c.blocks ++ b ∷ [] = ap (λ (d : MappedProgress). d.blocks) takes.has_index in
    let are : AreBlocks file from (c.blocks ++ b ∷ []) = blocks_push file from c.blocks b has.are_blocks
    (subst (λ (d : MappedProgress). d.left ≢ 0) has.is_index takes.is_due)
    (subst (λ (d : MappedProgress). head_fault d (rest_of file d) ≡ None) has.is_index good)
    (subst (λ (d : MappedProgress). b ≡ block_in d.given.page_size (rest_of file d)) has.is_index is) in
    record {
      are_blocks = subst (AreBlocks file from) (sym blocks) are;
      is_index = takes.has_index ∙ ap (λ (d : MappedProgress). after_block d b) has.is_index ∙ sym (after_push from c.blocks b)
          ∙ ap (after_blocks from) (sym blocks);
    }

pub file_read : FileIsRead
file_read given place total file f has all long =
    let from : MappedProgress = start given place total in
    let within : nat_lt (length file) (after_blocks from f.index.blocks).place ≡ false =
    subst (λ (d : MappedProgress). nat_lt (length file) d.place ≡ false) has.is_index (le-ltb _ _ long) in
    record {
      are_blocks = has.are_blocks;
      ends = record {
        at_end = λ _. sym (cond-false _ _ _ within);
        at_head = λ some. absurd (some (subst (λ (d : MappedProgress). d.left ≡ 0) has.is_index all));
      };
    }
