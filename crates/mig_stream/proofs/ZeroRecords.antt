-- The records of zero pages are items without a fault, one after another.
use Rattle.std.proofs.Common.{◌≡◌, ℕ, zero, suc, ◌+◌, ◌-◌, ◌/◌, ◌%◌, ◌<◌, ◌≤◌, true, false, ltb, List, [], ◌∷◌, ◌++◌, length, get_or, take, drop, Option, Some}
use Rattle.std.proofs.Common.{None, refl, sym, ap, subst, ◌∙◌, append_assoc, arith}
use Rattle.std.specs.Prelude.{is_none, slice_index}
use Rattle.std.specs.Int.{w64, from_be_bytes}
use Rattle.std.proofs.Math.Seq.{take-add}
use Rattle.std.proofs.Math.Nat.{add-sub_cancel_left}
use Rattle.std.proofs.lemmas.Bool.{lt-ltb}
use Rattle.std.proofs.lemmas.List.{length-take, length-drop, take-take, take_all, take-append-drop, get_or-drop, get_or-take}
use Rattle.mig_mem.specs.Place.{place_at}
use Rattle.mig_mem.specs.RamTable.{block, block_of}
use Rattle.mig_mem.specs.First.{first_of}
use Rattle.mig_stream.specs.declared.item.Filling.TheVariants.{Zero}
use Rattle.mig_stream.specs.declared.item.RecordKind.{RecordKind}
use Rattle.mig_stream.specs.declared.item.RecordKind.TheVariants.{Named, Continued}
use Rattle.mig_stream.specs.declared.item.Due.{Due}
use Rattle.mig_stream.specs.declared.item.Due.TheVariants.{RecordHead, BlockName, Content}
use Rattle.mig_stream.specs.Fields.{be64_at}
use Rattle.mig_stream.specs.PageRecord.{PageRecord}
use Rattle.mig_stream.specs.Progress.{StreamProgress}
use Rattle.mig_stream.specs.Items.{id_in, record_kind, is_full, less_room, kind_faults, head_faults, first_fault, after_kind, after_head, with_record, after}
use Rattle.mig_stream.specs.Reading.{Front}
use Rattle.mig_stream.specs.Report.{kind_of_head}
use Rattle.mig_stream.specs.Taking.{HasTaken, HasTakenTo, PageFront, HasTakenPages, HasTakenRecords}
use Rattle.mig_mem.specs.declared.place.Place.{Place}
use Rattle.mig_stream.proofs.Fronts.{Front-none, Front-append}
use Rattle.mig_stream.proofs.PageFronts.{PageFront-none, PageFront-one, PageFront-append}

-- a head of a kind's flags
kind_front : (c : StreamProgress) (head : List ℕ) (kind : RecordKind) (flags page : ℕ) → length head ≡ 8
    → be64_at 0 head % c.page_size ≡ flags → record_kind flags ≡ Some kind
    → be64_at 0 head / c.page_size ≡ page → first_of (kind_faults (record c { due = RecordHead }) kind page) ≡ None
    → kind_of_head (Some kind) ≡ None → PageFront (record c { due = RecordHead }) head (after_kind (record c { due = RecordHead }) kind page)
kind_front c head kind flags page len flags_are kind_is number none part =
    let d : StreamProgress = record c { due = RecordHead } in
    let is : record_kind (be64_at 0 head % c.page_size) ≡ Some kind = ap record_kind flags_are ∙ kind_is in
    let free : first_fault d head ≡ None =
    ap (λ (x : Option RecordKind). first_of (head_faults d (be64_at 0 head % c.page_size) x (be64_at 0 head / c.page_size))) is
    ∙ ap (λ (x : ℕ). first_of (kind_faults d kind x)) number ∙ none in
    let new : after d head ≡ after_kind d kind page =
    ap (λ (x : Option RecordKind). after_head d x (be64_at 0 head / c.page_size)) is ∙ ap (λ (x : ℕ). after_kind d kind x) number in
    subst (λ (x : StreamProgress). PageFront d head x) new (PageFront-one d head (λ e. absurd cc) len free (ap kind_of_head is ∙ part))

-- the fill byte of a page of zeros
zero_front : (c : StreamProgress) (at : Place) → PageFront (record c { due = Content Zero at }) (0 ∷ []) (with_record c at None)
zero_front c at = PageFront-one (record c { due = Content Zero at }) (0 ∷ []) (λ e. absurd cc) refl refl refl

-- a record that leaves its block's id out
continued_front : (c : StreamProgress) (head : List ℕ) (b page : ℕ) → is_none c.left ≡ false → is_full c.room ≡ false
    → c.named ≡ Some b → length head ≡ 8 → be64_at 0 head % c.page_size ≡ 0x22
    → be64_at 0 head / c.page_size ≡ page → page < (block c.blocks b).pages
    → PageFront (record c { due = RecordHead }) (head ++ 0 ∷ []) (with_record c (place_at b page) None)
continued_front c head b page begun free named len flags number in_range =
    let d : StreamProgress = record c { named = Some b } in
    let inside : ltb page (block c.blocks b).pages ≡ true = lt-ltb page (block c.blocks b).pages in_range in
    let first = kind_front d head (Continued Zero) 0x22 page len flags refl number (rw (begun, free, inside) refl) refl in
    let content = zero_front d (place_at b page) in
    subst (λ (n : Option ℕ). PageFront (record c { due = RecordHead; named = n }) (head ++ 0 ∷ [])
    (record (with_record c (place_at b page) None) { named = n })) (sym named)
    (PageFront-append _ _ _ _ _ first content)

-- a record that names its block
named_front : (c : StreamProgress) (head name : List ℕ) (b page : ℕ) → is_none c.left ≡ false → is_full c.room ≡ false
    → length head ≡ 8 → be64_at 0 head % c.page_size ≡ 0x02 → be64_at 0 head / c.page_size ≡ page
    → length name ≡ 1 + slice_index name 0 → block_of c.blocks (id_in name) ≡ Some b → page < (block c.blocks b).pages
    → PageFront (record c { due = RecordHead }) (head ++ (name ++ 0 ∷ [])) (record (with_record c (place_at b page) None) { named = Some b })
named_front c head name b page begun room len flags number whole found in_range =
    let d : StreamProgress = record c { due = BlockName Zero page } in
    let inside : ltb page (block c.blocks b).pages ≡ true = lt-ltb page (block c.blocks b).pages in_range in
    let first = kind_front c head (Named Zero) 0x02 page len flags refl number (rw (begun, room) refl) refl in
    let free : first_fault d name ≡ None = rw (found, inside) refl in
    let new : after d name ≡ record c { due = Content Zero (place_at b page); named = Some b } = rw found refl in
    let second = subst (λ (x : StreamProgress). PageFront d name x) new (PageFront-one d name (λ e. absurd cc) whole free refl) in
    let content = zero_front (record c { named = Some b }) (place_at b page) in
    PageFront-append _ _ _ _ _ first (PageFront-append _ _ _ _ _ second content)

-- ---- their bytes

one_at : (xs : List ℕ) (k : ℕ) → k < length xs → take 1 (drop k xs) ≡ get_or xs k 0 ∷ []
one_at [] k lt = absurd (omega arith)
one_at (x ∷ xs) zero lt = refl
one_at (x ∷ xs) (suc k) lt = one_at xs k (omega (arith, lt))

-- the bytes up to a byte, and that byte
up_to : (xs : List ℕ) (k byte : ℕ) → k < length xs → slice_index xs k ≡ byte → take (k + 1) xs ≡ take k xs ++ byte ∷ []
up_to xs k byte lt is = take-add k 1 xs ∙ ap (λ (l : List ℕ). take k xs ++ l) (one_at xs k lt ∙ ap (λ (x : ℕ). x ∷ []) is)

head_len : (xs : List ℕ) → 8 ≤ length xs → length (take 8 xs) ≡ 8
head_len xs le = omega (arith, length-take 8 xs, le)

-- a number is read in its eight bytes alone
number_in : (bytes : List ℕ) (at : ℕ) → be64_at 0 (take 8 (drop at bytes)) ≡ be64_at at bytes
unfolding be64_at
number_in bytes at =
    rw (add-sub_cancel_left at 8) (ap (from_be_bytes w64) (take_all 8 (take 8 (drop at bytes)) (omega (arith, length-take 8 (drop at bytes)))))

-- ---- records that are taken

-- at the head of a record nothing of the records has been taken yet
pub records_none : (c : StreamProgress) (bytes : List ℕ) → c.due ≡ RecordHead → HasTakenRecords c bytes 0 c
records_none c bytes due = record { fits = omega arith; leads = PageFront-none c; is_due = due; same_left = refl; same_blocks = refl; same_page_size = refl }

-- and others of the rest after them
pub records_more : (old mid new : StreamProgress) (bytes rest : List ℕ) (n k : ℕ) → HasTakenRecords old bytes n mid
    → rest ≡ drop n bytes → HasTakenRecords mid rest k new
    → HasTakenRecords old bytes (n + k) new
records_more old mid new bytes rest n k a is b =
    let both : take (n + k) bytes ≡ take n bytes ++ take k rest = take-add n k bytes ∙ ap (λ (l : List ℕ). take n bytes ++ take k l) (sym is) in
    record {
      fits = omega (arith, a.fits, b.fits, ap (λ (l : List ℕ). length l) is, length-drop n bytes);
      leads = subst (λ (x : List ℕ). PageFront old x new) (sym both) (PageFront-append old mid new (take n bytes) (take k rest) a.leads b.leads);
      is_due = b.is_due;
      same_left = b.same_left ∙ a.same_left;
      same_blocks = b.same_blocks ∙ a.same_blocks;
      same_page_size = b.same_page_size ∙ a.same_page_size;
    }

-- none was taken of the rest
pub records_same : (old mid new : StreamProgress) (bytes rest : List ℕ) (n k : ℕ) → HasTakenRecords old bytes n mid
    → rest ≡ drop n bytes → HasTakenRecords mid rest k new → k ≡ 0
    → HasTakenRecords old bytes n new
records_same old mid new bytes rest n k a is b none =
    subst (λ (m : ℕ). HasTakenRecords old bytes m new) (omega arith) (records_more old mid new bytes rest n k a is b)

-- the bytes that are near, and those after them
pub records_within : (old new : StreamProgress) (bytes : List ℕ) (n at : ℕ) → HasTakenRecords old (take n bytes) at new → HasTakenRecords old bytes at new
records_within old new bytes n at h = record {
  fits = omega (arith, h.fits, length-take n bytes);
  leads = subst (λ (x : List ℕ). PageFront old x new) (take-take at n bytes (omega (arith, h.fits, length-take n bytes))) h.leads;
  is_due = h.is_due;
  same_left = h.same_left;
  same_blocks = h.same_blocks;
  same_page_size = h.same_page_size;
}

-- what is taken of the first bytes is taken of all of them
pub taken_within : (old new : StreamProgress) (bytes : List ℕ) (n : ℕ) → HasTaken old (take n bytes) new → HasTaken old bytes new
taken_within old new bytes n h = record {
  front = h.front;
  rest = h.rest ++ drop n bytes;
  has_bytes = sym (take-append-drop n bytes) ∙ ap (λ (x : List ℕ). x ++ drop n bytes) h.has_bytes ∙ append_assoc h.front h.rest (drop n bytes);
  leads = h.leads;
}

-- the bytes from a place on
pub tail_from : (bytes : List ℕ) (n : ℕ) → take (length bytes - n) (drop n bytes) ≡ drop n bytes
tail_from bytes n = take_all (length bytes - n) (drop n bytes) (omega (arith, length-drop n bytes))

-- what was taken if the records after were refused
pub records_stop : (old mid new : StreamProgress) (bytes rest : List ℕ) (n : ℕ) → HasTakenRecords old bytes n mid
    → rest ≡ drop n bytes → HasTaken mid rest new → HasTaken old bytes new
records_stop old mid new bytes rest n a is b = record {
  front = take n bytes ++ b.front;
  rest = b.rest;
  has_bytes = sym (take-append-drop n bytes) ∙ ap (λ (l : List ℕ). take n bytes ++ l) (sym is ∙ b.has_bytes) ∙ sym (append_assoc (take n bytes) b.front b.rest);
  leads = Front-append old mid new (take n bytes) b.front a.leads.leads b.leads;
}

-- if nothing changed, nothing more was taken
pub nothing_more : (c new : StreamProgress) (bytes : List ℕ) → new ≡ c → HasTaken c bytes new
nothing_more c new bytes is = record {
  front = [];
  rest = bytes;
  has_bytes = refl;
  leads = subst (λ (x : StreamProgress). Front c [] x) (sym is) (Front-none c);
}

-- nine bytes of a zero record with CONTINUE are one record of the block that was named last
pub continued_taken : (c new : StreamProgress) (bytes : List ℕ) (at b page : ℕ) → at + 9 ≤ length bytes → c.due ≡ RecordHead
    → is_none c.left ≡ false → is_full c.room ≡ false → c.named ≡ Some b
    → be64_at at bytes % c.page_size ≡ 0x22 → be64_at at bytes / c.page_size ≡ page → page < (block c.blocks b).pages → slice_index bytes (at + 8) ≡ 0
    → new ≡ record c { room = less_room c.room; records = c.records ++ record { place = place_at b page; content = None } ∷ [] }
    → HasTakenRecords c (drop at bytes) 9 new
continued_taken c new bytes at b page fits due begun free named flags number in_range fill is =
    let rest : List ℕ = drop at bytes in
    let long : 9 ≤ length rest = omega (arith, length-drop at bytes, fits) in
    let records : List PageRecord = c.records ++ record { place = place_at b page; content = None } ∷ [] in
    let zero_byte : slice_index rest 8 ≡ 0 = get_or-drop at bytes 8 0 ∙ fill in
    let taken = continued_front c (take 8 rest) b page begun free named (head_len rest (omega (arith, long)))
    (ap (λ (n : ℕ). n % c.page_size) (number_in bytes at) ∙ flags) (ap (λ (n : ℕ). n / c.page_size) (number_in bytes at) ∙ number) in_range in
    let all : PageFront (record c { due = RecordHead }) (take 9 rest) (record c { due = RecordHead; room = less_room c.room; records = records }) =
    subst (λ (l : List ℕ). PageFront (record c { due = RecordHead }) l
    (record c { due = RecordHead; room = less_room c.room; records = records })) (sym (up_to rest 8 0 (omega (arith, long)) zero_byte)) taken in
    let here : PageFront c (take 9 rest) (record c { room = less_room c.room; records = records }) =
    subst (λ (d : Due). PageFront (record c { due = d }) (take 9 rest) (record c { due = d; room = less_room c.room; records = records })) (sym due) all in
    record {
      fits = long;
      leads = subst (λ (x : StreamProgress). PageFront c (take 9 rest) x) (sym is) here;
      is_due = ap (λ (x : StreamProgress). x.due) is ∙ due;
      same_left = ap (λ (x : StreamProgress). x.left) is;
      same_blocks = ap (λ (x : StreamProgress). x.blocks) is;
      same_page_size = ap (λ (x : StreamProgress). x.page_size) is;
    }

-- a zero record that names its block is one record of that block
pub named_taken : (c new : StreamProgress) (bytes head rest : List ℕ) (k b page : ℕ) → head ≡ take 8 bytes → rest ≡ drop 8 bytes
    → k < length rest → c.due ≡ RecordHead → is_none c.left ≡ false → is_full c.room ≡ false
    → be64_at 0 head % c.page_size ≡ 0x02 → be64_at 0 head / c.page_size ≡ page → page < (block c.blocks b).pages
    → k ≡ 1 + slice_index rest 0 → block_of c.blocks (id_in (take k rest)) ≡ Some b → slice_index rest k ≡ 0
    → new ≡ record c {
      named = Some b;
      room = less_room c.room;
      records = c.records ++ record { place = place_at b page; content = None } ∷ [];
    } → HasTakenRecords c bytes (9 + k) new
named_taken c new bytes head rest k b page head_is rest_is lt due begun room flags number in_range whole found fill is =
    let len : length rest ≡ length bytes - 8 = ap (λ (l : List ℕ). length l) rest_is ∙ length-drop 8 bytes in
    let records : List PageRecord = c.records ++ record { place = place_at b page; content = None } ∷ [] in
    let name : List ℕ = take k rest in
    let head_long : length head ≡ 8 = ap (λ (l : List ℕ). length l) head_is ∙ head_len bytes (omega (arith, len, lt)) in
    let name_long : length name ≡ 1 + slice_index name 0 = omega (arith, length-take k rest, lt, whole, get_or-take k rest 0 0 (omega (arith, whole))) in
    let taken = named_front c head name b page begun room head_long flags number name_long found in_range in
    let count : 9 + k ≡ 8 + (k + 1) = omega arith in
    let spelled : take (9 + k) bytes ≡ head ++ (name ++ 0 ∷ []) =
    ap (λ (n : ℕ). take n bytes) count ∙ take-add 8 (k + 1) bytes ∙ ap (λ (l : List ℕ). l ++ take (k + 1) (drop 8 bytes)) (sym head_is)
    ∙ ap (λ (l : List ℕ). head ++ take (k + 1) l) (sym rest_is) ∙ ap (λ (l : List ℕ). head ++ l) (up_to rest k 0 lt fill) in
    let all : PageFront (record c { due = RecordHead }) (take (9 + k) bytes)
    (record c { due = RecordHead; named = Some b; room = less_room c.room; records = records }) =
    subst (λ (l : List ℕ). PageFront (record c { due = RecordHead }) l
    (record c { due = RecordHead; named = Some b; room = less_room c.room; records = records })) (sym spelled) taken in
    let here : PageFront c (take (9 + k) bytes) (record c { named = Some b; room = less_room c.room; records = records }) =
    subst (λ (d : Due). PageFront (record c { due = d }) (take (9 + k) bytes)
    (record c { due = d; named = Some b; room = less_room c.room; records = records })) (sym due) all in
    record {
      fits = omega (arith, len, lt);
      leads = subst (λ (x : StreamProgress). PageFront c (take (9 + k) bytes) x) (sym is) here;
      is_due = ap (λ (x : StreamProgress). x.due) is ∙ due;
      same_left = ap (λ (x : StreamProgress). x.left) is;
      same_blocks = ap (λ (x : StreamProgress). x.blocks) is;
      same_page_size = ap (λ (x : StreamProgress). x.page_size) is;
    }

-- ---- and in a reading

-- no byte is read, and no record taken
pub none_taken : (c : StreamProgress) (bytes : List ℕ) → HasTakenPages c bytes bytes c
none_taken c bytes = ([], refl, PageFront-none c)

-- as taken bytes
pub pages_taken : (old new : StreamProgress) (bytes rest : List ℕ) → HasTakenPages old bytes rest new → HasTakenTo old bytes rest new
pages_taken old new bytes rest (front, e, pages) = (front, e, pages.leads)

-- bytes that are taken after others are taken with them
pub goes_on_to : (from mid new : StreamProgress) (bytes rest more : List ℕ) → HasTakenTo from bytes rest mid
    → HasTakenTo mid rest more new → HasTakenTo from bytes more new
goes_on_to from mid new bytes rest more a b = (
  a.0 ++ b.0,
  a.1 ∙ ap (λ (l : List ℕ). a.0 ++ l) b.1 ∙ sym (append_assoc a.0 b.0 more),
  Front-append from mid new a.0 b.0 a.2 b.2,
)

-- what is taken after other bytes is taken of all of them
pub stops_within : (from mid new : StreamProgress) (bytes rest : List ℕ) → HasTakenTo from bytes rest mid → HasTaken mid rest new → HasTaken from bytes new
stops_within from mid new bytes rest a b = record {
  front = a.0 ++ b.front;
  rest = b.rest;
  has_bytes = a.1 ∙ ap (λ (l : List ℕ). a.0 ++ l) b.has_bytes ∙ sym (append_assoc a.0 b.front b.rest);
  leads = Front-append from mid new a.0 b.front a.2 b.leads;
}

-- the bytes after the records that were taken
pub taken_to : (old new : StreamProgress) (bytes rest : List ℕ) (n : ℕ) → HasTakenRecords old bytes n new → rest ≡ drop n bytes
    → HasTakenPages old bytes rest new
taken_to old new bytes rest n h is = (take n bytes, sym (take-append-drop n bytes) ∙ ap (λ (l : List ℕ). take n bytes ++ l) (sym is), h.leads)
