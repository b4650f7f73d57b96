-- Loading a plain stream gives the memory of the file.
use Rattle.std.proofs.Common.{ℕ, ◌≡◌, ◌+◌, ◌*◌, ◌<◌, ◌≤◌, ◌^◌, Bool, true, false, List, [], ◌∷◌, ◌++◌, length, map, take, drop}
use Rattle.std.proofs.Common.{Some, None, refl, sym, ap, subst, ◌∙◌, arith, append_assoc, append-nil, inl, inr}
use Rattle.std.specs.Prelude.{not, nat_le, if◌then◌else◌}
use Rattle.std.specs.List.{flat_map, list_any, All, AllByRecursion}
use Rattle.std.specs.Option.{unwrap_or}
use Rattle.std.proofs.lemmas.Bool.{cases_Bool, cond-true, cond-false, le-leb, leb-true, ltb-false, or_right}
use Rattle.std.proofs.lemmas.List.{length-append, length-map, length-take, length-drop}
use Rattle.std.proofs.lemmas.List.Elements.{All-cons, All-weaker}
use Rattle.std.proofs.lemmas.List.Sums.{sum_by-cons}
use Rattle.std.proofs.Math.Seq.{drop-append_seam}
use Rattle.mig_mem.specs.declared.place.Place.{Place}
use Rattle.mig_mem.specs.PageSize.{IsPageSize}
use Rattle.mig_mem.specs.RamTable.{Block, RamTable, block, total_pages, IsTable}
use Rattle.mig_mem.specs.Place.{IsPlace, places}
use Rattle.mig_mem.specs.Image.{Page, Image, IsImage, content_at, zero_page}
use Rattle.mig_mem.specs.Round.{round_of, all_pages, with_round, with_rounds}
use Rattle.mig_mem.proofs.PageSizes.{page_before}
use Rattle.mig_mem.proofs.TablePlaces.{all_places}
use Rattle.mig_mem.proofs.Images.{content_at-image_of}
use Rattle.mig_mem.proofs.Rounds.{all_pages_sent}
use Rattle.mig_stream.specs.declared.item.EntryForm.TheVariants as form
use Rattle.mig_stream.specs.declared.item.Mode.TheVariants.{Single}
use Rattle.mig_stream.specs.declared.item.Section.TheVariants.{End}
use Rattle.mig_stream.specs.declared.item.RecordKind.TheVariants.{SizeList}
use Rattle.mig_stream.specs.Fields.{be64}
use Rattle.mig_stream.specs.Format.{flags_of, end_byte}
use Rattle.mig_stream.specs.Written.{written_id, closing}
use Rattle.mig_stream.specs.declared.item.Frame.TheVariants.{Machine}
use Rattle.mig_stream.specs.Law.{closed}
use Rattle.mig_stream.specs.PageRecord.{PageRecord, page_of}
use Rattle.mig_stream.specs.Reading.{settings, in_frame, IsReading}
use Rattle.mig_stream.specs.Text.{Record, record_bytes, Follow, page_records, all_records, HasNoFlush, body, section, file_header, start_head}
use Rattle.mig_stream.specs.Text.{entry, total_bytes, size_list}
use Rattle.mig_stream.specs.Machine.{SubsectionBody, IsSubsectionBody, IsCapability, configured, IsConfiguration, ignores_shared}
use Rattle.mig_stream.specs.Machine.{Command, command, IsCommand, is_advise, PassedSection, CommandOf, passed_section, IsPassedSection, has_advise}
use Rattle.mig_stream.specs.Machine.{IsTail, tailed_list, part_or_passed, parts_of, IsMachineText}
use Rattle.mig_stream.proofs.Tails.{no_tails, no_tails_length, no_tails_plain, no_tails_list}
use Rattle.mig_stream.proofs.SpelledMachine.{machine_is_read}
use Rattle.mig_mapped.specs.Bitmap.{is_set}
use Rattle.mig_mapped.specs.Block.{MappedBlock, ram_block, table_of, mapped_block, page_offset, end_of, page_in, memory_in}
use Rattle.mig_mapped.specs.Front.{Front, IsFront, mapped_front, plain_front, subsection_of}
use Rattle.mig_mapped.specs.Head.{MappedProgress, start, after_block}
use Rattle.mig_stream.specs.Items.{length_in}
use Rattle.mig_mapped.specs.Reading.{rest_of, AreBlocks, after_blocks, end_fault, MappedReading, IsMappedReading}
use Rattle.mig_mapped.proofs.Blocks.{block_mapped}
use Rattle.mig_mapped.proofs.FrontFound.{place_offset}
use Rattle.mig_mapped.proofs.Heads.{IsHead, none_of, head_good, all_bytes}
use Rattle.mig_mapped.proofs.One.{one_reading_law}
use Rattle.mig_mapped.proofs.Tabled.{within_file, page_long, faultless_is_memory}
use Rattle.zimgasol_mapped.specs.Sparse.{raw_format, with_raw_format}
use Rattle.zimgasol_mapped.specs.Plain.{content_of, index_table, pages_bytes}
use Rattle.zimgasol_mapped.specs.Opened.{IsPlainOf}
use Rattle.zimgasol_mapped.specs.Heads.{IsIndexOf}
use Rattle.zimgasol_mapped.specs.Law.{plain_configuration, IsReadWith, EndsRam, LoadsTo, PlainLoadsTheMemory, WrittenIsOfThisKind}
use Rattle.zimgasol_mapped.proofs.Loads.{own_record, IsThere, pages_whole, follow_all, no_flush, pages_are, bare_stand, bare_records, bare_flush, bare_pages}

-- ---- the bytes before the stream

-- they stay as many
raw_len : (xs : List ℕ) → length (with_raw_format xs) ≡ length xs
raw_len xs = elim (cases_Bool (nat_le 32 (length xs))) [
  | inr short ↦ ap (λ (l : List ℕ). length l) (cond-false _ _ _ short)
  | inl long ↦ ap (λ (l : List ℕ). length l) (cond-true _ _ _ long)
      ∙ omega (
        arith,
        leb-true 32 (length xs) long,
        length-append (take 28 xs ++ raw_format) (drop 32 xs),
        length-append (take 28 xs) raw_format,
        length-take 28 xs,
        length-drop 32 xs,
      )
]

-- the stream begins after them
after_header : (file rest : List ℕ) (before : ℕ) → before ≤ length file → drop before (with_raw_format (take before file) ++ rest) ≡ rest
after_header file rest before within =
    let header : List ℕ = with_raw_format (take before file) in
    let n : before ≡ length header = omega (arith, raw_len (take before file), length-take before file, within) in
    ap (λ (k : ℕ). drop k (header ++ rest)) n ∙ drop-append_seam header rest

-- ---- the table

-- the blocks have the bytes of the total that are no longer left
bytes_had : (file : List ℕ) (c : MappedProgress) (bs : List MappedBlock) → AreBlocks file c bs
    → total_pages (map ram_block bs) * c.given.page_size + (after_blocks c bs).left ≡ c.left
bytes_had file c [] are = omega arith
bytes_had file c (b ∷ bs) are =
    let size : ℕ = c.given.page_size in
    let others : ℕ = total_pages (map ram_block bs) in
    let is : IsHead c (rest_of file c) = head_good c (rest_of file c) are.1 in
    let whole : b.pages * size ≡ length_in (rest_of file c) =
    ap (λ (x : MappedBlock). x.pages * size) are.2 ∙ all_bytes c (rest_of file c) is.entry in
    let later = bytes_had file (after_block c b) bs are.3 in
    let first : total_pages (map ram_block (b ∷ bs)) ≡ b.pages + others =
    sum_by-cons (λ (x : Block). x.pages) (ram_block b) (map ram_block bs) in
    let sum : (b.pages + others) * size ≡ b.pages * size + others * size = grind arith in
    let all : total_pages (map ram_block (b ∷ bs)) * size ≡ b.pages * size + others * size = ap (λ (n : ℕ). n * size) first ∙ sum in
    omega (arith, whole, is.entry.fits, later, all)

-- the last offset of all is that of the index
given_after : (c : MappedProgress) (bs : List MappedBlock) → (after_blocks c bs).given ≡ c.given
given_after c [] = refl
given_after c (b ∷ bs) = given_after (after_block c b) bs

-- ---- the configuration

all_append : {X : Type 0} (P : X → Type 0) (xs ys : List X) → AllByRecursion P xs → AllByRecursion P ys → AllByRecursion P (xs ++ ys)
all_append P [] ys left right = right
all_append P (x ∷ xs) ys left right = (left.0, all_append P xs ys left.1 right)

names_good : (page_size : ℕ) (names : List (List ℕ)) → length names < 2 ^ 32 → AllByRecursion IsCapability names
    → AllByRecursion (IsSubsectionBody page_size) (subsection_of names)
names_good page_size [] few are = tt
names_good page_size (name ∷ names) few are = ((few, are), tt)

configuration_good : (page_size : ℕ) (f : Front) → IsFront f → IsReadWith page_size f → IsConfiguration page_size (plain_configuration f)
configuration_good page_size f is read =
    let names : List (List ℕ) = f.names_before ++ f.names_after in
    let P : SubsectionBody → Type 0 = IsSubsectionBody page_size in
    record {
      has_name = is.has_machine;
      are_bodies = all_append P (f.before ++ subsection_of names) f.after (all_append P f.before (subsection_of names) read.are_before
          (names_good page_size names (omega (arith, is.has_count, length-append f.names_before f.names_after))
          (all_append IsCapability f.names_before f.names_after is.are_names_before is.are_names_after))) read.are_after;
    }

-- entries with nothing after the length are of either form
tails_sized : (blocks : List Block) → AllByRecursion (IsTail form.Sized) (no_tails blocks)
tails_sized [] = tt
tails_sized (b ∷ blocks) = (inl refl, tails_sized blocks)

tails_good : (advises shares : Bool) (blocks : List Block) → shares ≡ false
    → AllByRecursion (IsTail (if advises then form.Sized else if shares then form.Addressed else form.Plain)) (no_tails blocks)
tails_good true shares blocks none = tails_sized blocks
tails_good false false blocks none = no_tails_plain blocks
tails_good false true blocks none = absurd cc

-- ---- the pages

-- what is known of a place of the table, if the file has all pages
there : (file : List ℕ) (c : MappedProgress) → ((i : ℕ) → i < length c.blocks → end_of c.given.page_size (mapped_block c.blocks i) ≤ length file)
    → (p : Place) → IsPlace (index_table c) p → IsThere c file p
there file c within p is =
    let size : ℕ = c.given.page_size in
    let b : MappedBlock = mapped_block c.blocks p.block in
    let lt : p.block < length c.blocks = omega (arith, length-map c.blocks ram_block, is.has_block) in
    let pages : (block (index_table c).blocks p.block).pages ≡ b.pages = ap (λ (x : Block). x.pages) (block_mapped c.blocks p.block lt) in
    let page : p.page < b.pages = omega (arith, pages, is.has_page) in
    let before : p.page * size + size ≤ b.pages * size = page_before size b.pages p.page page in
    let end : page_offset size b p.page + size ≤ length file = omega (arith, within p.block lt, before) in
    record {
      is_place = is;
      come = or_right (not (is_set c.given.order b.bitmap p.page)) _ (le-leb _ _ end);
      has_size = elim (cases_Bool (is_set c.given.order b.bitmap p.page)) [
        | inl set ↦ rw set (ap (λ (l : List ℕ). length l) (sym (cond-true _ _ _ set)) ∙ page_long c.given file b p.page page (within p.block lt))
        | inr unset ↦ rw unset tt
      ];
    }

-- the content of a page is that of the memory
same_content : (file : List ℕ) (c : MappedProgress) (p : Place) → IsPlace (index_table c) p
    → unwrap_or (content_of c file p) (zero_page c.given.page_size) ≡ content_at (memory_in c.given file c.blocks) p
same_content file c p is =
    let b : MappedBlock = mapped_block c.blocks p.block in
    let content : Place → List ℕ = λ q. page_in c.given file (mapped_block c.blocks q.block) q.page in
    let own : unwrap_or (content_of c file p) (zero_page c.given.page_size) ≡ content p = elim (cases_Bool (is_set c.given.order b.bitmap p.page)) [
      | inl set ↦ rw set refl
      | inr unset ↦ rw unset refl
    ] in
    own ∙ sym (content_at-image_of (index_table c) content p is)

-- ---- the stream

regroup : (f c s h t e r o p n x : List ℕ)
    → (((f ++ c) ++ s) ++ (h ++ t)) ++ e ++ (r ++ (((o ++ p) ++ n) ++ x)) ≡ (((((((f ++ c) ++ s) ++ h) ++ (t ++ e)) ++ (r ++ o)) ++ p) ++ n) ++ x
regroup f c s h t e r o p n x = simp append_assoc refl

-- the parts of a size list
list_parts : (table : RamTable) (total : ℕ) → total_bytes table ≡ total
    → be64 (total + flags_of SizeList) ++ flat_map (entry table.page_size) table.blocks ≡ tailed_list table (no_tails table.blocks)
unfolding size_list
list_parts table total is =
    ap (λ (n : ℕ). be64 (n + flags_of SizeList) ++ flat_map (entry table.page_size) table.blocks) (sym is) ∙ sym (no_tails_list table)

-- all that is known of a file without a fault whose blocks are these
pub record IsWhole (page_size : ℕ) (file : List ℕ) (f : Front) (c : MappedProgress) : Type 0 where
  pub has_page_size : c.given.page_size ≡ page_size
  pub is_table : IsTable (index_table c)
  pub is_image : IsImage (memory_in c.given file c.blocks)
  pub has_total : total_bytes (index_table c) ≡ f.total
  pub are_there : (p : Place) → IsPlace (index_table c) p → IsThere c file p

-- the records of all pages
abbrev records_in : MappedProgress → List ℕ → List Record
records_in c file = map (own_record c file) (places (index_table c))

-- COMMANDs are passed over
commands_passed : (cs : List Command) → flat_map passed_section (map CommandOf cs) ≡ flat_map command cs
commands_passed [] = refl
commands_passed (c ∷ cs) = ap (λ (l : List ℕ). command c ++ l) (commands_passed cs)

commands_stand : (cs : List Command) → AllByRecursion IsCommand cs → AllByRecursion (IsPassedSection true) (map CommandOf cs)
commands_stand [] are = tt
commands_stand (c ∷ cs) are = (are.0, commands_stand cs are.1)

-- Its stream is a machine's.
stream_is : (page_size limit : ℕ) (file : List ℕ) (f : Front) (c : MappedProgress) (end : EndsRam (index_table c) f.id (drop c.place file))
    → IsWhole page_size file f c → IsFront f → IsReadWith page_size f → f.total ≤ limit
    → (text : List ℕ) × (plain_front f ++ flat_map (entry c.given.page_size) (index_table c).blocks
    ++ pages_bytes c file (drop c.place file) (places (index_table c)) ≡ text ++ end.rest)
    × IsMachineText Single limit text (index_table c) (map page_records (records_in c file ∷ parts_of end.others ++ [] ∷ []))
stream_is page_size limit file f c end whole is read few =
    let table : RamTable = index_table c in
    let blocks : List Block = table.blocks in
    let first : List Record = records_in c file in
    let machine : List ℕ = configured (Some (plain_configuration f)) in
    let commands : List ℕ = flat_map command f.commands in
    let total : List ℕ = be64 (f.total + flags_of SizeList) in
    let entries : List ℕ = flat_map (entry c.given.page_size) blocks in
    let records : List ℕ = flat_map (record_bytes table) first in
    let others : List ℕ = flat_map (part_or_passed table f.id) end.others in
    let opening : List PassedSection = map CommandOf f.commands in
    let last : List ℕ = section table End f.id [] in
    let all : All (IsThere c file) (places table) = All-weaker (IsPlace table) (IsThere c file) whole.are_there (places table) (all_places table) in
    let pages : pages_bytes c file (drop c.place file) (places table) ≡ records ++ (body table f.id [] ++ others ++ last ++ end.rest) =
    pages_whole c file (drop c.place file) (places table) all ∙ ap (λ (l : List ℕ). records ++ l) end.is_spelled in
    let text : List ℕ =
    file_header ++ machine ++ commands ++ start_head f.id ++ tailed_list table (no_tails blocks) ++ body table f.id first ++ others ++ last in
    let spelled : plain_front f ++ entries ++ pages_bytes c file (drop c.place file) (places table) ≡ text ++ end.rest =
    ap (λ (l : List ℕ). plain_front f ++ entries ++ l) pages
    ∙ regroup file_header machine commands (start_head f.id) total entries records (body table f.id []) others last end.rest
    ∙ ap (λ (l : List ℕ). file_header ++ machine ++ commands ++ start_head f.id ++ l ++ body table f.id first ++ others ++ last ++ end.rest)
    (list_parts table f.total whole.has_total) in
    let none : (first ++ all_records (parts_of end.others)) ++ [] ≡ first =
    append-nil (first ++ all_records (parts_of end.others))
    ∙ ap (λ (l : List Record). first ++ l) (bare_records end.others end.are_bare) ∙ append-nil first in (
      text,
      spelled,
      record {
        id = f.id;
        machine = Some (plain_configuration f);
        opening = opening;
        tails = no_tails blocks;
        first = first;
        others = end.others;
        last = [];
        is_spelled =
            ap (λ (l : List ℕ). file_header ++ machine ++ l ++ start_head f.id ++ tailed_list table (no_tails blocks)
            ++ body table f.id first ++ others ++ last) (sym (commands_passed f.commands));
        has_table = whole.is_table;
        has_limit = omega (arith, whole.has_total, few);
        has_id = is.has_id;
        has_machine = subst (λ (size : ℕ). IsConfiguration size (plain_configuration f)) (sym whole.has_page_size) (configuration_good page_size f is read);
        is_opening = commands_stand f.commands is.are_commands;
        is_one_form = λ shared. absurd (let no : ignores_shared (Some (plain_configuration f)) ≡ false = read.isnt_shared in
            let clash : true ≡ false = sym shared ∙ no in cc);
        has_tails = no_tails_length blocks;
        are_tails = tails_good (list_any has_advise opening) (ignores_shared (Some (plain_configuration f))) blocks read.isnt_shared;
        are_others = bare_stand true end.others end.are_bare;
        follow = subst (λ (l : List Record). Follow table None l) (sym none) (follow_all c file whole.are_there);
        has_rounds = (All-cons HasNoFlush first (parts_of end.others ++ [] ∷ []) (no_flush c file (places table)) (bare_flush end.others end.are_bare), refl);
      },
    )

-- Its rounds leave the memory.
rounds_leave : (page_size : ℕ) (file : List ℕ) (f : Front) (c : MappedProgress) (end : EndsRam (index_table c) f.id (drop c.place file))
    → IsWhole page_size file f c → (before : Image) → before.table ≡ index_table c
    → with_rounds before (map (map (page_of c.given.page_size)) (map page_records (records_in c file ∷ parts_of end.others ++ [] ∷ [])))
    ≡ memory_in c.given file c.blocks
rounds_leave page_size file f c end whole before same =
    let table : RamTable = index_table c in
    let size : ℕ = c.given.page_size in
    let m : Image = memory_in c.given file c.blocks in
    let first : List Page = map (page_of size) (page_records (records_in c file)) in
    let P : Place → Type 0 = λ p. unwrap_or (content_of c file p) (zero_page size) ≡ content_at m p in
    let pages : first ++ all_pages (map (map (page_of size)) (map page_records (parts_of end.others ++ [] ∷ []))) ≡ round_of m (places table) =
    ap (λ (l : List Page). first ++ l) (bare_pages size end.others end.are_bare) ∙ append-nil first
    ∙ pages_are c file m (places table) (All-weaker (IsPlace table) P (λ p is. same_content file c p is) (places table) (all_places table)) in
    ap (λ (l : List Page). with_round before l) pages ∙ all_pages_sent m before whole.is_image (sym same)

-- ---- the law

-- a file without a fault is whole
whole_is : (page_size : ℕ) (file : List ℕ) (f : Front) (place : ℕ) (c : MappedProgress) → IsPageSize page_size → IsFront f
    → IsIndexOf file page_size place f.total c → end_fault file c ≡ None → IsWhole page_size file f c
whole_is page_size file f place c size is index good =
    let from : MappedProgress = start c.given place f.total in
    let sized : IsPageSize c.given.page_size = subst IsPageSize (sym index.has_page_size) size in
    let inside : c.place ≤ length file = ltb-false _ _ (none_of _ _ _ good).0 in
    let last : c.place ≡ (after_blocks from c.blocks).place = ap (λ (d : MappedProgress). d.place) index.is_index in
    let each = (within_file file from c.blocks index.are_blocks).1 in
    let left : (after_blocks from c.blocks).left ≡ 0 = ap (λ (d : MappedProgress). d.left) (sym index.is_index) ∙ index.has_all in
    let reading : IsMappedReading c.given place f.total file (record { blocks = c.blocks; fault = None }) = record {
      are_blocks = index.are_blocks;
      ends = record {
        at_end = λ _. sym (ap (end_fault file) (sym index.is_index) ∙ good);
        at_head = λ some. absurd (some left);
      };
    } in
    let memory = faultless_is_memory c.given place f.total file (record { blocks = c.blocks; fault = None }) sized
    is.has_total.is_some is.has_total.is_limited reading refl in
    record {
      has_page_size = index.has_page_size;
      is_table = memory.0;
      is_image = memory.1;
      has_total = omega (arith, bytes_had file from c.blocks index.are_blocks, left);
      are_there = there file c (λ i lt. omega (arith, each i lt, last, inside));
    }

-- the index of a file is its reading
same_reading : (page_size place total : ℕ) (file : List ℕ) (c : MappedProgress) (reading : MappedReading) → IsIndexOf file page_size place total c
    → IsMappedReading c.given place total file reading → (reading.blocks ≡ c.blocks) × (reading.fault ≡ end_fault file c)
same_reading page_size place total file c reading index is =
    let from : MappedProgress = start c.given place total in
    let left : (after_blocks from c.blocks).left ≡ 0 = ap (λ (d : MappedProgress). d.left) (sym index.is_index) ∙ index.has_all in
    let own : MappedReading = record { blocks = c.blocks; fault = end_fault file c } in
    let one = one_reading_law c.given place total file in
    let is_own : IsMappedReading c.given place total file own = record {
      are_blocks = index.are_blocks;
      ends = record { at_end = λ _. ap (end_fault file) index.is_index; at_head = λ some. absurd (some left) };
    } in
    let same : reading ≡ own = one.2 reading is ∙ sym (one.2 own is_own) in
    (ap (λ (r : MappedReading). r.blocks) same, ap (λ (r : MappedReading). r.fault) same)

before_within : (file front rest : List ℕ) (before : ℕ) → drop before file ≡ front ++ rest → 0 < length front → before ≤ length file
before_within file front rest before is some =
    omega (arith, ap (λ (l : List ℕ). length l) is, length-append front rest, length-drop before file, some)

loads : (page_size limit : ℕ) (file stream : List ℕ) (plain : IsPlainOf page_size file stream) → IsPageSize page_size
    → end_fault file plain.index ≡ None → plain.front.total ≤ limit → IsReadWith page_size plain.front
    → EndsRam (index_table plain.index) plain.front.id (drop plain.index.place file)
    → LoadsTo limit (drop plain.before stream) (memory_in plain.index.given file plain.index.blocks)
loads page_size limit file stream plain size good few read end =
    let c : MappedProgress = plain.index in
    let f : Front = plain.front in
    let whole : IsWhole page_size file f c = whole_is page_size file f (plain.before + length (mapped_front f)) c size plain.is_front plain.has_index good in
    let within : plain.before ≤ length file =
    before_within file (mapped_front f) plain.rest plain.before plain.has_front (omega (arith, place_offset f)) in
    let machine = stream_is page_size limit file f c end whole plain.is_front read few in
    let rest : List ℕ = plain_front f ++ flat_map (entry c.given.page_size) (index_table c).blocks
    ++ pages_bytes c file (drop c.place file) (places (index_table c)) in
    let bytes : drop plain.before stream ≡ machine.0 ++ end.rest =
    ap (λ (l : List ℕ). drop plain.before l) plain.is_stream ∙ after_header file rest plain.before within ∙ machine.1 in
    let rounds : List (List PageRecord) = map page_records (records_in c file ∷ parts_of end.others ++ [] ∷ []) in
    record {
      rounds = rounds;
      is_reading = subst (λ (l : List ℕ). IsReading (in_frame Machine (settings Single c.given.page_size limit)) l (closed (index_table c) rounds)) (sym bytes)
          (machine_is_read Single limit machine.0 end.rest (index_table c) rounds machine.2);
      is_memory = rounds_leave page_size file f c end whole;
    }

pub plain_loads : PlainLoadsTheMemory
plain_loads page_size limit file stream plain reading size is good few read end =
    let c : MappedProgress = plain.index in
    let same = same_reading page_size (plain.before + length (mapped_front plain.front)) plain.front.total file c reading plain.has_index is in
    let table : table_of page_size reading.blocks ≡ index_table c =
    ap (λ (bs : List MappedBlock). table_of page_size bs) same.0 ∙ ap (λ (s : ℕ). table_of s c.blocks) (sym plain.has_index.has_page_size) in
    let own : EndsRam (index_table c) plain.front.id (drop c.place file) =
    subst (λ (t : RamTable). EndsRam t plain.front.id (drop c.place file)) table end in
    subst (λ (bs : List MappedBlock). LoadsTo limit (drop plain.before stream) (memory_in c.given file bs)) (sym same.0)
    (loads page_size limit file stream plain size (sym same.1 ∙ good) few read own)

-- ---- what is written

pub written_is : WrittenIsOfThisKind
unfolding closing
written_is table machine total =
    let start : List ℕ = body table written_id [] in
    let last : List ℕ = section table End written_id [] in (
      record { are_before = tt; are_after = tt; isnt_shared = refl },
      record {
        others = [];
        rest = end_byte ∷ [];
        are_bare = tt;
        is_spelled = sym (ap (λ (l : List ℕ). l ++ last ++ end_byte ∷ []) (append-nil start) ∙ append_assoc start last (end_byte ∷ []));
      },
    )
