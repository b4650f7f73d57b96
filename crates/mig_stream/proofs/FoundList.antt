-- What is left of START from its size list on, where its head and its entries were read without a
-- fault.
use Rattle.std.proofs.Common.{◌≡◌, ℕ, zero, suc, ◌+◌, ◌-◌, ◌*◌, ◌/◌, ◌%◌, ◌<◌, ◌≤◌, Bool, true, false, not, eqb, ltb, leb, List, [], ◌∷◌, ◌++◌, length, get_or}
use Rattle.std.proofs.Common.{Option, Some, None, refl, sym, ap, subst, ◌∙◌, append_assoc, arith}
use Rattle.std.specs.Prelude.{◌||◌, IsTrue, is_some}
use Rattle.std.specs.Option.{unwrap_or}
use Rattle.std.specs.List.{AllByRecursion}
use Rattle.std.proofs.lemmas.Nat.{div-add-mod'}
use Rattle.std.proofs.lemmas.Bool.{not-false, eqb-true, eqb-false, leb-false, ltb-false, or_parts}
use Rattle.std.proofs.lemmas.List.{length-append}
use Rattle.mig_mem.specs.RamTable.{Block, block_of, is_id, max_blocks}
use Rattle.mig_stream.specs.declared.item.EntryForm.{EntryForm}
use Rattle.mig_stream.specs.declared.item.Due.{Due}
use Rattle.mig_stream.specs.declared.item.Due.TheVariants.{RecordHead, ListEntry}
use Rattle.mig_stream.specs.declared.item.RecordKind.TheVariants.{SizeList}
use Rattle.mig_stream.specs.declared.fault.StreamFault.TheVariants as fault
use Rattle.mig_stream.specs.Fields.{be64}
use Rattle.mig_stream.specs.Format.{flags_of}
use Rattle.mig_stream.specs.Progress.{StreamProgress}
use Rattle.mig_mem.specs.First.{first_of}
use Rattle.mig_stream.specs.Items.{id_in, length_in, faults}
use Rattle.mig_stream.specs.Text.{entry}
use Rattle.mig_stream.specs.Machine.{IsTail, entries}
use Rattle.mig_stream.proofs.Tables.{AreBlocks, sum_of}
use Rattle.mig_stream.proofs.FoundFields.{IsBytes}
use Rattle.mig_stream.proofs.FoundParts.{entry_found}
use Rattle.mig_stream.proofs.FoundPages.{RestOfBody}
use Rattle.mig_stream.proofs.Steps.{passed}

-- The entries of one or more blocks are left, with their tails, and then START's records.
pub record RestOfEntries (Behind : StreamProgress → List ℕ → Type 0) (c : StreamProgress) (bytes : List ℕ) : Type 0 where
  pub blocks : List Block
  pub tails : List (List ℕ)
  pub tail : List ℕ
  pub has_bytes : bytes ≡ entries c.page_size blocks tails ++ tail
  pub are_blocks : AreBlocks c.blocks blocks
  pub has_some : 0 < length blocks
  pub has_few : length c.blocks + length blocks ≤ 256
  pub has_sum : sum_of c.page_size blocks ≡ unwrap_or c.left 0
  pub has_tails : length tails ≡ length blocks
  pub are_tails : AllByRecursion (IsTail c.form) tails
  pub rest : RestOfBody Behind (record c { due = RecordHead; left = Some 0; blocks = c.blocks ++ blocks }) tail

-- The size list is left, and then START's records.
pub record RestOfList (Behind : StreamProgress → List ℕ → Type 0) (c : StreamProgress) (bytes : List ℕ) : Type 0 where
  pub blocks : List Block
  pub tails : List (List ℕ)
  pub tail : List ℕ
  pub has_bytes : bytes ≡ be64 (sum_of c.page_size blocks + flags_of SizeList) ++ (entries c.page_size blocks tails ++ tail)
  pub are_blocks : AreBlocks c.blocks blocks
  pub has_some : 0 < length blocks
  pub has_few : length c.blocks + length blocks ≤ 256
  pub has_limit : sum_of c.page_size blocks ≤ c.limit
  pub has_tails : length tails ≡ length blocks
  pub are_tails : AllByRecursion (IsTail c.form) tails
  pub rest : RestOfBody Behind (record c { due = RecordHead; left = Some 0; blocks = c.blocks ++ blocks }) tail

-- ---- what an entry without a fault is

-- what the five tests of an entry say, if none has found a fault
pub record IsEntry (c : StreamProgress) (item : List ℕ) : Type 0 where
  pub has_few : length c.blocks < 256
  pub has_id : IsTrue (is_id (id_in item))
  pub is_new : block_of c.blocks (id_in item) ≡ None
  pub has_pages : 0 < length_in item / c.page_size
  pub has_length : length_in item / c.page_size * c.page_size ≡ length_in item
  pub has_room : length_in item ≤ unwrap_or c.left 0

-- nothing was found
pub no_some : {A : Type 0} (o : Option A) → is_some o ≡ false → o ≡ None
no_some None e = refl
no_some (Some x) e = absurd cc

-- a length that isn't 0 and is pages times the page size has a page
some_pages : (len pages p : ℕ) → pages * p ≡ len → (len ≡ 0 → ⊥) → 0 < pages
some_pages len zero p whole some = absurd (some (omega (arith, whole)))
some_pages len (suc pages) p whole some = omega arith

-- an entry without a fault is such an entry
pub entry_is : (c : StreamProgress) (item : List ℕ) → first_of (faults c ListEntry item) ≡ None → IsEntry c item
entry_is c item free =
    let len = length_in item in
    let room = ltb (unwrap_or c.left 0) len in
    let odd = eqb len 0 || not (eqb (len % c.page_size) 0) in
    let twice = is_some (block_of c.blocks (id_in item)) in
    let good = is_id (id_in item) in
    let t1 = passed (leb max_blocks (length c.blocks)) fault.TooManyBlocks
    ((not good, fault.Id) ∷ (twice, fault.IdTwice) ∷ (odd, fault.Length) ∷ (room, fault.SizeSum) ∷ []) free in
    let t2 = passed (not good) fault.Id ((twice, fault.IdTwice) ∷ (odd, fault.Length) ∷ (room, fault.SizeSum) ∷ []) t1.1 in
    let t3 = passed twice fault.IdTwice ((odd, fault.Length) ∷ (room, fault.SizeSum) ∷ []) t2.1 in
    let t4 = passed odd fault.Length ((room, fault.SizeSum) ∷ []) t3.1 in
    let t5 = passed room fault.SizeSum [] t4.1 in
    let parts = or_parts (eqb len 0) (not (eqb (len % c.page_size) 0)) t4.0 in
    let none : len % c.page_size ≡ 0 = eqb-true _ _ (not-false (eqb (len % c.page_size) 0) parts.1) in
    let whole : len / c.page_size * c.page_size ≡ len = omega (arith, none, div-add-mod' len c.page_size) in
    record {
      has_few = leb-false _ _ t1.0;
      has_id = not-false good t2.0;
      is_new = no_some (block_of c.blocks (id_in item)) t3.0;
      has_pages = some_pages len (len / c.page_size) c.page_size whole (eqb-false len 0 parts.0);
      has_length = whole;
      has_room = ltb-false _ _ t5.0;
    }

-- ---- entries

-- the block of an entry
abbrev pub block_in : ℕ → List ℕ → Block
block_in p item = record { id = id_in item; pages = length_in item / p }

-- the bytes that the total leaves after an entry
abbrev pub left_after : StreamProgress → List ℕ → ℕ
left_after c item = unwrap_or c.left 0 - length_in item

-- and its bytes are spelled as its block's entry
entry_bytes : (c : StreamProgress) (item : List ℕ) → length item ≡ 9 + get_or item 0 0 → IsBytes item → IsEntry c item
    → item ≡ entry c.page_size (block_in c.page_size item)
entry_bytes c item len all is = entry_found item len all ∙ ap (λ (n : ℕ). length (id_in item) ∷ (id_in item ++ be64 n)) (sym is.has_length)

-- What follows an entry and its tail: START's records, if it is the last entry, or other entries.
abbrev pub RestOfListed : (StreamProgress → List ℕ → Type 0) → StreamProgress → Bool → List ℕ → Type 0
RestOfListed Behind c true bytes = c.left ≡ Some 0 → RestOfBody Behind c bytes
RestOfListed Behind c false bytes = RestOfEntries Behind c bytes

-- The tail of an entry is left, and what follows it.
pub record RestOfTail (Behind : StreamProgress → List ℕ → Type 0) (c : StreamProgress) (form : EntryForm) (last : Bool) (bytes : List ℕ) : Type 0 where
  pub tail : List ℕ
  pub more : List ℕ
  pub has_bytes : bytes ≡ tail ++ more
  pub is_tail : IsTail form tail
  pub rest : RestOfListed Behind c last more

-- what is left doesn't depend on the item that is due
pub body_at : (Behind : StreamProgress → List ℕ → Type 0) (c : StreamProgress) (d e : Due) (bytes : List ℕ)
    → RestOfBody Behind (record c { due = d }) bytes → RestOfBody Behind (record c { due = e }) bytes
body_at Behind c d e bytes r = record { records = r.records; more = r.more; has_bytes = r.has_bytes; follow = r.follow; flushes = r.flushes; others = r.others }

-- the rest of a list's entries doesn't depend on the item that is due
pub entries_at : (Behind : StreamProgress → List ℕ → Type 0) (c : StreamProgress) (d : Due) (bytes : List ℕ)
    → RestOfEntries Behind (record c { due = d }) bytes → RestOfEntries Behind c bytes
entries_at Behind c d bytes r = record {
  blocks = r.blocks;
  tails = r.tails;
  tail = r.tail;
  has_bytes = r.has_bytes;
  are_blocks = r.are_blocks;
  has_some = r.has_some;
  has_few = r.has_few;
  has_sum = r.has_sum;
  has_tails = r.has_tails;
  are_tails = r.are_tails;
  rest = r.rest;
}

-- an entry, its tail, the other entries, and all that is left
pub regroup_entry : (e t r m : List ℕ) → (e ++ (t ++ r)) ++ m ≡ e ++ (t ++ (r ++ m))
regroup_entry e t r m = append_assoc e (t ++ r) m ∙ ap (λ (x : List ℕ). e ++ x) (append_assoc t r m)

-- how far the stream has been read after an entry
abbrev pub behind_entry : StreamProgress → Due → List ℕ → StreamProgress
behind_entry c d item = record c { due = d; left = Some (left_after c item); blocks = c.blocks ++ block_in c.page_size item ∷ [] }

-- an entry in front of its tail and what follows it
pub entry_back : (Behind : StreamProgress → List ℕ → Type 0) (c : StreamProgress) (d : Due) (last : Bool) (item bytes : List ℕ)
    → length item ≡ 9 + get_or item 0 0 → IsBytes item → IsEntry c item → eqb (left_after c item) 0 ≡ last
    → RestOfTail Behind (behind_entry c d item) c.form last bytes → RestOfEntries Behind c (item ++ bytes)
entry_back Behind c d true item bytes len all is test r =
    let b = block_in c.page_size item in
    let none : left_after c item ≡ 0 = eqb-true _ _ test in
    let spelled : item ++ bytes ≡ (entry c.page_size b ++ (r.tail ++ [])) ++ r.more =
    ap (λ (x : List ℕ). x ++ bytes) (entry_bytes c item len all is) ∙ ap (λ (x : List ℕ). entry c.page_size b ++ x) r.has_bytes
    ∙ sym (regroup_entry (entry c.page_size b) r.tail [] r.more) in
    let left : RestOfBody Behind (record c { due = d; left = Some 0; blocks = c.blocks ++ b ∷ [] }) r.more =
    subst (λ (x : ℕ). RestOfBody Behind (record c { due = d; left = Some x; blocks = c.blocks ++ b ∷ [] }) r.more) none (r.rest (ap Some none)) in
    record {
      blocks = b ∷ [];
      tails = r.tail ∷ [];
      tail = r.more;
      has_bytes = spelled;
      are_blocks = (is.has_id, is.is_new, is.has_pages, tt);
      has_some = omega arith;
      has_few = omega (arith, is.has_few);
      has_sum = omega (arith, is.has_length, is.has_room, none);
      has_tails = refl;
      are_tails = (r.is_tail, tt);
      rest = body_at Behind (record c { left = Some 0; blocks = c.blocks ++ b ∷ [] }) d RecordHead r.more left;
    }
entry_back Behind c d false item bytes len all is test r =
    let b = block_in c.page_size item in
    let q : RestOfEntries Behind (behind_entry c d item) r.more = r.rest in
    let others = entries c.page_size q.blocks q.tails in
    let spelled : item ++ bytes ≡ (entry c.page_size b ++ (r.tail ++ others)) ++ q.tail =
    ap (λ (x : List ℕ). x ++ bytes) (entry_bytes c item len all is)
    ∙ ap (λ (x : List ℕ). entry c.page_size b ++ x) (r.has_bytes ∙ ap (λ (x : List ℕ). r.tail ++ x) q.has_bytes)
    ∙ sym (regroup_entry (entry c.page_size b) r.tail others q.tail) in
    record {
      blocks = b ∷ q.blocks;
      tails = r.tail ∷ q.tails;
      tail = q.tail;
      has_bytes = spelled;
      are_blocks = (is.has_id, is.is_new, is.has_pages, q.are_blocks);
      has_some = omega arith;
      has_few = omega (arith, q.has_few, length-append c.blocks (b ∷ []));
      has_sum = omega (arith, is.has_length, is.has_room, q.has_sum);
      has_tails = omega (arith, q.has_tails);
      are_tails = (r.is_tail, q.are_tails);
      rest = subst (λ (x : List Block). RestOfBody Behind (record c { due = RecordHead; left = Some 0; blocks = x }) q.tail)
          (append_assoc c.blocks (b ∷ []) q.blocks) q.rest;
    }

-- ---- the head of the size list

-- the head says how many bytes the entries have in all
pub list_back : (Behind : StreamProgress → List ℕ → Type 0) (c : StreamProgress) (page : ℕ) (item bytes : List ℕ)
    → item ≡ be64 (page * c.page_size + flags_of SizeList) → page * c.page_size ≤ c.limit
    → RestOfEntries Behind (record c { due = ListEntry; left = Some (page * c.page_size) }) bytes → RestOfList Behind c (item ++ bytes)
list_back Behind c page item bytes head small r = record {
  blocks = r.blocks;
  tails = r.tails;
  tail = r.tail;
  has_bytes = ap (λ (x : List ℕ). x ++ bytes) (head ∙ ap (λ (n : ℕ). be64 (n + flags_of SizeList)) (sym r.has_sum))
      ∙ ap (λ (x : List ℕ). be64 (sum_of c.page_size r.blocks + flags_of SizeList) ++ x) r.has_bytes;
  are_blocks = r.are_blocks;
  has_some = r.has_some;
  has_few = r.has_few;
  has_limit = omega (arith, small, r.has_sum);
  has_tails = r.has_tails;
  are_tails = r.are_tails;
  rest = r.rest;
}
