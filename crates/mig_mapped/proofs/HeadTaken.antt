-- The step of a load in place that takes a head.
use Rattle.std.proofs.Common.{ℕ, ◌≡◌, ◌≢◌, ◌+◌, ◌<◌, ◌≤◌, ◌==◌, ◌||◌, ◌&&◌, Bool, true, false, cond, List, [], ◌∷◌, ◌++◌, length, take, drop, None}
use Rattle.std.proofs.Common.{sym, ap, subst, ◌∙◌, inl, inr, arith}
use Rattle.std.specs.Prelude.{not, nat_lt, nat_le}
use Rattle.std.proofs.lemmas.Bool.{cases_Bool, cases_order, cases_lt, cond-true, cond-false, lt-leb, lt-ltb, le-ltb, and_left, eq-eqb, ne_eqb}
use Rattle.std.proofs.lemmas.List.{length-append, length-take-le, drop-append-le, drop_all}
use Rattle.mig_mem.specs.declared.place.Place.{Place}
use Rattle.mig_mem.specs.RamTable.{RamTable, block}
use Rattle.mig_mem.specs.Place.{IsPlace}
use Rattle.mig_mem.specs.Image.{Image, content_at, zero_page}
use Rattle.mig_mem.proofs.PageSizes.{page_size_some, page_before}
use Rattle.mig_mem.proofs.Images.{content_at-image_of, image_agree}
use Rattle.mig_mapped.specs.declared.settings.MappedSettings.{MappedSettings}
use Rattle.mig_mapped.specs.Bitmap.{is_set}
use Rattle.mig_mapped.specs.Block.{MappedBlock, ram_block, mapped_block, page_offset, end_of, page_in}
use Rattle.mig_mapped.specs.Head.{MappedProgress, start, head_fault, bitmap_end, block_in, after_block, after_head}
use Rattle.mig_mapped.specs.Reading.{rest_of}
use Rattle.mig_mapped.specs.Load.{MappedLoading, IsLoading, IsAtHead, AreOwn, has_come, loaded_at, loaded, last_block, LoadsMore, cleared, IsNextOwn}
use Rattle.mig_mapped.proofs.Blocks.{before_last, the_last}
use Rattle.mig_mapped.proofs.Heads.{IsHead, head_good}
use Rattle.mig_mapped.proofs.Longer.{SameHead, same_front, flipped, head_same, head_none, block_same, blocks_longer, blocks_push, after_push}
use Rattle.mig_mapped.proofs.Loading.{same_come, same_at, own_page, earlier, at_last}

-- ---- one block more

-- the blocks so far, and the next one of the table
own_more : (table : RamTable) (c : MappedProgress) (bytes : List ℕ) → AreOwn table c.blocks → IsNextOwn table c bytes
    → AreOwn table (c.blocks ++ block_in c.given.page_size bytes ∷ [])
own_more table c bytes own next =
    let b : MappedBlock = block_in c.given.page_size bytes in
    let long : length (c.blocks ++ b ∷ []) ≡ length c.blocks + 1 = length-append c.blocks (b ∷ []) in
    record {
      has_room = omega (arith, next.has_room);
      are_same = λ i lt. elim (cases_lt i (length c.blocks)) [
        | inl before ↦ own.are_same i before ∙ ap ram_block (sym (before_last c.blocks b i before))
        | inr end ↦
            let at : i ≡ length c.blocks = omega arith in
            ap (block table.blocks) at ∙ next.same_block ∙ ap ram_block (sym (the_last c.blocks b i at))
      ];
    }

-- ---- what places hold

-- a place outside the blocks so far
outside : (given : MappedSettings) (file : List ℕ) (blocks : List MappedBlock) (first : Image) (p : Place) → length blocks ≤ p.block
    → loaded_at given file blocks first p ≡ content_at first p
outside given file blocks first p past = cond-false _ _ _ (and_left _ _ (le-ltb _ _ past))

-- one in them, with one block more
inside : (given : MappedSettings) (file : List ℕ) (blocks : List MappedBlock) (b : MappedBlock) (first : Image) (p : Place) → p.block < length blocks
    → loaded_at given file (blocks ++ b ∷ []) first p ≡ loaded_at given file blocks first p
inside given file blocks b first p lt =
    let long : p.block < length (blocks ++ b ∷ []) = omega (arith, length-append blocks (b ∷ [])) in
    let content : (t : Bool) (x : MappedBlock) → List ℕ = λ t x. cond (t && has_come given file x p.page) (page_in given file x p.page) (content_at first p) in
    ap (λ (t : Bool). content t (mapped_block (blocks ++ b ∷ []) p.block)) (lt-ltb _ _ long)
    ∙ ap (content true) (before_last blocks b p.block lt)
    ∙ ap (λ (t : Bool). content t (mapped_block blocks p.block)) (sym (lt-ltb _ _ lt))

-- a page of the new block, given whether it is known
in_last : (given : MappedSettings) (file : List ℕ) (blocks : List MappedBlock) (b : MappedBlock) (first : Image) (p : Place) → p.block ≡ length blocks
    → loaded_at given file (blocks ++ b ∷ []) first p ≡ cond (has_come given file b p.page) (page_in given file b p.page) (content_at first p)
in_last given file blocks b first p at =
    let long : p.block < length (blocks ++ b ∷ []) = omega (arith, length-append blocks (b ∷ [])) in
    let content : (t : Bool) (x : MappedBlock) → List ℕ = λ t x. cond (t && has_come given file x p.page) (page_in given file x p.page) (content_at first p) in
    ap (λ (t : Bool). content t (mapped_block (blocks ++ b ∷ []) p.block)) (lt-ltb _ _ long) ∙ ap (content true) (the_last blocks b p.block at)

-- each page of the blocks so far was read, where a head is next
all_read : (s : MappedLoading) (p : Place) → IsLoading s → IsAtHead s → p.block < length s.index.blocks → p.page < (mapped_block s.index.blocks p.block).pages
    → page_offset s.index.given.page_size (mapped_block s.index.blocks p.block) p.page + s.index.given.page_size ≤ s.place
all_read s p is head lt page = elim (cases_lt (p.block + 1) (length s.index.blocks)) [
  | inl before ↦ earlier s p is before page
  | inr end ↦
      let same : mapped_block s.index.blocks p.block ≡ last_block s = at_last s p.block (omega arith) in
      let ends : s.index.place ≡ end_of s.index.given.page_size (mapped_block s.index.blocks p.block) =
      is.ends (omega arith) ∙ ap (end_of s.index.given.page_size) (sym same) in
      let before = page_before s.index.given.page_size (mapped_block s.index.blocks p.block).pages p.page page in
      omega (arith, ends, before, head)
]

-- what the new block's head makes of a place
abbrev cleared_at : MappedSettings → MappedBlock → ℕ → Image → Place → List ℕ
cleared_at given b number m p = cond (p.block == number && (nat_lt p.page b.pages && not (is_set given.order b.bitmap p.page))) (zero_page m.table.page_size)
    (content_at m p)

head_at : (s : MappedLoading) (file bytes : List ℕ) (b : MappedBlock) (first : Image) (p : Place) → IsLoading s → IsAtHead s → s.place ≡ length file
    → AreOwn first.table (s.index.blocks ++ b ∷ []) → AreOwn first.table s.index.blocks → first.table.page_size ≡ s.index.given.page_size
    → length file + length bytes ≤ b.pages_at → IsPlace first.table p
    → cleared_at s.index.given b (length s.index.blocks) (loaded s.index.given file s.index.blocks first) p
    ≡ loaded_at s.index.given (file ++ bytes) (s.index.blocks ++ b ∷ []) first p
head_at s file bytes b first p is head here own_all own size room place =
    let given : MappedSettings = s.index.given in
    let blocks : List MappedBlock = s.index.blocks in
    let m : Image = loaded given file blocks first in
    let was : content_at m p ≡ loaded_at given file blocks first p = content_at-image_of first.table (loaded_at given file blocks first) p place in
    let some : 0 < given.page_size = page_size_some given.page_size is.has_page_size in
    elim (cases_order p.block (length blocks)) [
      | inl at ↦
          let page : p.page < b.pages = omega (
            arith,
            own_page first.table (blocks ++ b ∷ []) p own_all place
                (omega (arith, length-append blocks (b ∷ []))),
            ap (λ (x : MappedBlock). x.pages) (the_last blocks b p.block at),
          ) in
          let test : (p.block == length blocks && (nat_lt p.page b.pages && not (is_set given.order b.bitmap p.page)))
          ≡ not (is_set given.order b.bitmap p.page) =
          ap (λ (t : Bool). t && (nat_lt p.page b.pages && not (is_set given.order b.bitmap p.page))) (eq-eqb _ _ at)
          ∙ ap (λ (t : Bool). t && not (is_set given.order b.bitmap p.page)) (lt-ltb _ _ page) in
          elim (cases_Bool (is_set given.order b.bitmap p.page)) [
            | inr unset ↦
                let come : has_come given (file ++ bytes) b p.page ≡ true =
                ap (λ (t : Bool). not t || nat_le (page_offset given.page_size b p.page + given.page_size) (length (file ++ bytes))) unset in
                cond-true _ _ _ (test ∙ ap not unset) ∙ ap zero_page size
                ∙ sym (in_last given (file ++ bytes) blocks b first p at ∙ cond-true _ _ _ come ∙ cond-false _ _ _ unset)
            | inl set ↦
                let not_yet : has_come given (file ++ bytes) b p.page ≡ false =
                ap (λ (t : Bool). not t || nat_le (page_offset given.page_size b p.page + given.page_size) (length (file ++ bytes))) set
                ∙ lt-leb _ _ (omega (arith, length-append file bytes)) in
                cond-false _ _ _ (test ∙ ap not set) ∙ was ∙ outside given file blocks first p (omega arith)
                ∙ sym (in_last given (file ++ bytes) blocks b first p at ∙ cond-false _ _ _ not_yet)
          ]
      | inr (inl before) ↦
          let other : p.block ≢ length blocks = omega arith in
          cond-false _ _ _ (and_left _ _ (ne_eqb p.block (length blocks) other)) ∙ was
          ∙ sym (inside given (file ++ bytes) blocks b first p before
          ∙ same_at given file bytes blocks first p (λ lt. same_come given file bytes (mapped_block blocks p.block) p.page some (λ set.
          inl (omega (arith, all_read s p is head lt (own_page first.table blocks p own place lt), here)))))
      | inr (inr after) ↦
          let other : p.block ≢ length blocks = omega arith in
          cond-false _ _ _ (and_left _ _ (ne_eqb p.block (length blocks) other)) ∙ was ∙ outside given file blocks first p (omega arith)
          ∙ sym (outside given (file ++ bytes) (blocks ++ b ∷ []) first p (omega (arith, length-append blocks (b ∷ []))))
    ]

-- ---- the head taken

-- the new block's pages, as the index has it
pub cleared_own : (c d : MappedProgress) (bytes : List ℕ) (number : ℕ) (m : Image) → d ≡ after_head c bytes → number ≡ length c.blocks
    → cleared d.given (mapped_block d.blocks number) number (mapped_block d.blocks number).pages m
    ≡ cleared c.given (block_in c.given.page_size bytes) (length c.blocks) (block_in c.given.page_size bytes).pages m
cleared_own c d bytes number m next at =
    let b : MappedBlock = block_in c.given.page_size bytes in
    ap (λ (x : MappedProgress). cleared x.given (mapped_block x.blocks number) number (mapped_block x.blocks number).pages m) next
    ∙ ap (λ (x : MappedBlock). cleared c.given x number x.pages m) (the_last c.blocks b number at)
    ∙ ap (λ (k : ℕ). cleared c.given b k b.pages m) at

pub head_loads : (s : MappedLoading) (bytes : List ℕ) (n : ℕ) (before : Image) → IsLoading s → IsAtHead s → head_fault s.index bytes ≡ None
    → n ≡ bitmap_end s.index.given.page_size bytes → IsNextOwn before.table s.index bytes → before.table.page_size ≡ s.index.given.page_size
    → LoadsMore s before (take n bytes) (record { index = after_head s.index bytes; place = s.place + n })
    (cleared s.index.given (block_in s.index.given.page_size bytes) (length s.index.blocks) (block_in s.index.given.page_size bytes).pages before)
head_loads s bytes n before is head good end next size at total first file l =
    let c : MappedProgress = s.index in
    let given : MappedSettings = c.given in
    let b : MappedBlock = block_in given.page_size bytes in
    let front : List ℕ = take n bytes in
    let from : MappedProgress = start given at total in
    let h : IsHead c bytes = head_good c bytes good in
    let long : length front ≡ n = length-take-le n bytes (omega (arith, end, h.bitmap.has_bitmap)) in
    let table : before.table ≡ first.table = ap (λ (m : Image). m.table) l.has_memory in
    let same : SameHead given.page_size front bytes = same_front given.page_size bytes n (omega (arith, end)) in
    let within : bitmap_end given.page_size front ≤ length front = omega (arith, same.end, long, end) in
    let rest : rest_of (file ++ front) c ≡ front =
    ap (λ (k : ℕ). drop k (file ++ front)) (sym head ∙ l.same_place)
    ∙ drop-append-le (length file) file front (omega arith) ∙ ap (λ (xs : List ℕ). xs ++ front) (drop_all (length file) file (omega arith)) in
    let next_good : head_fault c (rest_of (file ++ front) c) ≡ None =
    ap (head_fault c) rest ∙ head_none c front (head_same c bytes front (flipped given.page_size front bytes same) within h) in
    let next_is : b ≡ block_in given.page_size (rest_of (file ++ front) c) =
    sym (ap (block_in given.page_size) rest ∙ block_same given.page_size front bytes same) in
    let some : c.left ≢ 0 = λ none. h.entry.is_some (omega (arith, h.entry.fits)) in
    let is_next : IsNextOwn first.table c bytes = subst (λ (t : RamTable). IsNextOwn t c bytes) table next in
    let own : AreOwn first.table (c.blocks ++ b ∷ []) = own_more first.table c bytes l.are_own is_next in
    let sized : first.table.page_size ≡ given.page_size = ap (λ (t : RamTable). t.page_size) (sym table) ∙ size in
    record {
      same_place = omega (arith, length-append file front, long, l.same_place);
      are_blocks = blocks_push (file ++ front) from c.blocks b (blocks_longer file front from c.blocks l.are_blocks)
          (subst (λ (d : MappedProgress). d.left ≢ 0) l.is_index some)
          (subst (λ (d : MappedProgress). head_fault d (rest_of (file ++ front) d) ≡ None) l.is_index next_good)
          (subst (λ (d : MappedProgress). b ≡ block_in d.given.page_size (rest_of (file ++ front) d)) l.is_index next_is);
      is_index = ap (λ (d : MappedProgress). after_block d b) l.is_index ∙ sym (after_push from c.blocks b);
      are_own = own;
      has_memory = ap (cleared given b (length c.blocks) b.pages) l.has_memory
          ∙ image_agree first.table (cleared_at given b (length c.blocks) (loaded given file c.blocks first))
          (loaded_at given (file ++ front) (c.blocks ++ b ∷ []) first)
          (λ p place. head_at s file front b first p is head l.same_place own l.are_own sized
          (omega (arith, long, end, head, l.same_place, h.header.is_after)) place);
    }
