-- What is still to come of a plain stream: what is made is what was to come next.
use Rattle.std.proofs.Common.{ℕ, ◌≡◌, ◌+◌, ◌-◌, ◌*◌, ◌<◌, ◌≤◌, List, [], ◌++◌, length, min, take, drop, refl, sym}
use Rattle.std.proofs.Common.{ap, ◌∙◌, true, false, Option, Some, None, append_assoc, arith, inl, inr}
use Rattle.std.specs.Prelude.{slice_range, ◌⊎◌}
use Rattle.std.proofs.lemmas.Bool.{cases_lt}
use Rattle.std.specs.List.{flat_map, range_with_len}
use Rattle.std.specs.Option.{option_map}
use Rattle.std.specs.Io.KnownBytes.{Consumes}
use Rattle.std.proofs.lemmas.List.{take-append-drop, drop-drop}
use Rattle.mig_mem.specs.declared.place.Place.{Place}
use Rattle.mig_mem.specs.Place.{place_at}
use Rattle.mig_mem.specs.RamTable.{RamTable, block}
use Rattle.mig_stream.specs.Text.{entry}
use Rattle.mig_mapped.specs.Block.{mapped_block}
use Rattle.mig_mapped.specs.Head.{MappedProgress}
use Rattle.zimgasol_mapped.specs.declared.course.Stage.{Stage}
use Rattle.zimgasol_mapped.specs.declared.course.Stage.TheVariants.{Before, Pages, After, Over}
use Rattle.zimgasol_mapped.specs.Records.{records_bytes, no_content, part_of}
use Rattle.zimgasol_mapped.specs.Sparse.{with_raw_format}
use Rattle.zimgasol_mapped.specs.Plain.{plain_stream, index_table, pages_bytes}
use Rattle.zimgasol_mapped.specs.Course.{pages_left, raw_at, header_left, front_left, stage_left}
use Rattle.zimgasol_mapped.proofs.Pages.{places_next, places_all}
use Rattle.zimgasol_mapped.proofs.Slices.{none_left, read_on, header_cut, later_raw}
use Rattle.zimgasol_mapped.proofs.Steps.{AreRead, zeros_left, read_left, cut_left, cut_here, bit}

-- two functions that agree on what is known
pub map_agree : (u v : Option (List ℕ)) (f g : List ℕ → List ℕ) → v ≡ u → ((x : List ℕ) → u ≡ Some x → g x ≡ f x) → option_map g v ≡ option_map f u
map_agree None v f g same agree = ap (λ (o : Option (List ℕ)). option_map g o) same
map_agree (Some x) v f g same agree = ap (λ (o : Option (List ℕ)). option_map g o) same ∙ ap (λ (y : List ℕ). Some y) (agree x refl)

-- bytes that are given are no longer to come
pub map_consumes : (u : Option (List ℕ)) (f g : List ℕ → List ℕ) (given : List ℕ)
    → ((x : List ℕ) → f x ≡ given ++ g x) → Consumes (option_map f u) (option_map g u) given
map_consumes None f g given is = tt
map_consumes (Some x) f g given is = is x

-- the first bytes that wait are given
pub give_left : (items rest bytes : List ℕ) (given n : ℕ) → take n bytes ≡ take n (drop given items)
    → drop given items ++ rest ≡ take n bytes ++ (drop (given + n) items ++ rest)
give_left items rest bytes given n same =
    let waiting : List ℕ = drop given items in
    ap (λ (l : List ℕ). l ++ rest) (sym (take-append-drop n waiting))
    ∙ ap (λ (l : List ℕ). take n waiting ++ l ++ rest) (drop-drop n given items)
    ∙ append_assoc (take n waiting) (drop (given + n) items) rest
    ∙ ap (λ (l : List ℕ). l ++ (drop (given + n) items ++ rest)) (sym same)

-- before the first byte
pub new_left : (c : MappedProgress) (front file items : List ℕ) (before : ℕ) → items ≡ []
    → drop 0 items ++ stage_left front c file (place_at 0 0) (Before 0 before) ≡ plain_stream file before front c
new_left c front file items before none =
    let head : List ℕ = front ++ flat_map (entry c.given.page_size) (index_table c).blocks in
    let rest : List ℕ = head ++ pages_left c file (place_at 0 0) in
    let n : before - 0 ≡ before = omega arith in
    ap (λ (l : List ℕ). l ++ (header_left file 0 before ++ rest)) none
    ∙ ap (λ (m : ℕ). with_raw_format (take m file) ++ rest) n
    ∙ ap (λ (ps : List Place). with_raw_format (take before file) ++ (head ++ pages_bytes c file (drop c.place file) ps)) (sym (places_all (index_table c)))

-- after a block's last page
pub next_left : (c : MappedProgress) (front file start : List ℕ) (b page : ℕ) (stage : Stage) → stage ≡ Pages → (block (index_table c).blocks b).pages ≤ page
    → start ++ stage_left front c file (place_at (b + 1) 0) stage ≡ start ++ stage_left front c file (place_at b page) stage
next_left c front file start b page stage is past =
    rw is (ap (λ (ps : List Place). start ++ pages_bytes c file (drop c.place file) ps) (sym (places_next (index_table c) b page past)))

-- records of zeros are made
pub zeros_made : (c : MappedProgress) (front file old new : List ℕ) (given b first end : ℕ) (stage : Stage) (table : RamTable) → old ≡ [] → given ≡ 0
    → stage ≡ Pages → table ≡ index_table c → new ≡ old ++ records_bytes table b no_content (range_with_len first (end - first))
    → b < length c.blocks → first ≤ end → end ≤ (mapped_block c.blocks b).pages
    → ((q : ℕ) → first ≤ q → q < end → bit c b q ≡ false)
    → drop given new ++ stage_left front c file (place_at b end) stage ≡ drop given old ++ stage_left front c file (place_at b first) stage
zeros_made c front file old new given b first end stage table none zero is same made lt low high clear =
    let own : new ≡ old ++ records_bytes (index_table c) b no_content (range_with_len first (end - first)) =
    made ∙ ap (λ (t : RamTable). old ++ records_bytes t b no_content (range_with_len first (end - first))) same in
    rw is (rw zero (rw own (rw none (sym (zeros_left c file b first end lt low high clear)))))

-- records of pages are made
pub pages_made : (c : MappedProgress) (front file old new contents : List ℕ) (given b first after offset len : ℕ) (stage : Stage) (table : RamTable)
    → old ≡ [] → given ≡ 0 → stage ≡ Pages → table ≡ index_table c
    → new ≡ old ++ records_bytes table b (part_of table.page_size contents first) (range_with_len first (after - first))
    → 0 < c.given.page_size → b < length c.blocks → after ≤ (mapped_block c.blocks b).pages → AreRead c file b first after offset len contents
    → drop given new ++ stage_left front c file (place_at b after) stage ≡ drop given old ++ stage_left front c file (place_at b first) stage
pages_made c front file old new contents given b first after offset len stage table none zero is same made some lt high are =
    let own : new ≡ old ++ records_bytes (index_table c) b (part_of c.given.page_size contents first) (range_with_len first (after - first)) =
    made ∙ ap (λ (t : RamTable). old ++ records_bytes t b (part_of t.page_size contents first) (range_with_len first (after - first))) same in
    rw is (rw zero (rw own (rw none (sym (read_left c file b first after offset len contents some lt high are)))))

-- and the file ends inside the next page
pub pages_cut : (c : MappedProgress) (front file old new contents : List ℕ) (given b first after end offset len : ℕ) (next : Place) (stage : Stage)
    (table : RamTable) → old ≡ [] → given ≡ 0 → stage ≡ Pages → table ≡ index_table c
    → new ≡ old ++ records_bytes table b (part_of table.page_size contents first) (range_with_len first (after - first))
    → 0 < c.given.page_size → b < length c.blocks → end ≤ (mapped_block c.blocks b).pages → AreRead c file b first after offset len contents
    → ((q : ℕ) → first ≤ q → q < end → bit c b q ≡ true) → after ≤ end → length contents < len → len ≤ (end - first) * c.given.page_size
    → (after < end → length contents < (after - first + 1) * c.given.page_size)
    → drop given new ++ stage_left front c file next Over ≡ drop given old ++ stage_left front c file (place_at b first) stage
pages_cut c front file old new contents given b first after end offset len next stage table none zero is same made some lt high are set last short few all =
    let here = cut_here c file contents b first after end offset len are last short few all in
    let over : pages_left c file (place_at b after) ≡ [] =
    cut_left c file b after lt (omega (arith, here.0, high)) (set after are.low here.0) here.1 in
    let made_left = pages_made c front file old new contents given b first after offset len stage table none zero is same made some lt
    (omega (arith, last, high)) are in
    let same_end : drop given new ++ [] ≡ drop given new ++ stage_left front c file (place_at b after) stage =
    rw is (ap (λ (l : List ℕ). drop given new ++ l) (sym over)) in
    same_end ∙ made_left

-- ---- bytes of the file

-- bytes before the stream are made
pub before_made : (c : MappedProgress) (front file old new buffer : List ℕ) (given at n len end after : ℕ) (next : Place) (stage : Stage) → old ≡ [] → given ≡ 0
    → stage ≡ Before at end → new ≡ raw_at at (take n buffer) → n ≤ length buffer → take n buffer ≡ take len (drop at file) → after ≡ at + len
    → len ≡ min (end - at) 262144 → at < end → end ≤ length file
    → drop given new ++ stage_left front c file next (Before after end) ≡ drop given old ++ stage_left front c file next stage
before_made c front file old new buffer given at n len end after next stage none zero is made within read on few some fits =
    let rest : List ℕ = front_left front c file next in
    let own : new ≡ raw_at at (take len (drop at file)) = made ∙ ap (λ (l : List ℕ). raw_at at l) read in
    let later : header_left file (at + len) end ≡ slice_range file (at + len) end =
    later_raw at len (slice_range file (at + len) end) (omega (arith, few, some)) in
    let pieces : (len ≡ end - at) ⊎ (32 ≤ len) = elim (cases_lt (end - at) 262144) [
      | inl lt ↦ inl (omega (arith, few, lt))
      | inr past ↦ inr (omega (arith, few, past))
    ] in
    let cut = header_cut file at len end (omega (arith, few, some)) fits pieces in
    rw is (rw zero (rw own (rw none (rw on (
    ap (λ (l : List ℕ). raw_at at (take len (drop at file)) ++ (l ++ rest)) later
    ∙ sym (append_assoc (raw_at at (take len (drop at file))) (slice_range file (at + len) end) rest)
    ∙ ap (λ (l : List ℕ). l ++ rest) (sym cut))))))

-- bytes after the last block's pages are made
pub after_made : (c : MappedProgress) (front file old new buffer : List ℕ) (given at n len after : ℕ) (next : Place) (stage : Stage) → old ≡ [] → given ≡ 0
    → stage ≡ After at → new ≡ old ++ take n buffer → n ≤ length buffer → take n buffer ≡ take len (drop at file) → after ≡ at + n
    → drop given new ++ stage_left front c file next (After after) ≡ drop given old ++ stage_left front c file next stage
after_made c front file old new buffer given at n len after next stage none zero is made within read on =
    rw is (rw zero (rw made (rw none (rw on (read_on n len at buffer file within read)))))

-- and the file has ended
pub after_over : (c : MappedProgress) (front file old new buffer : List ℕ) (given at n len : ℕ) (next : Place) (stage : Stage) → old ≡ [] → given ≡ 0
    → stage ≡ After at → new ≡ old ++ take n buffer → n ≤ length buffer → take n buffer ≡ take len (drop at file) → n ≡ 0 → 0 < len
    → drop given new ++ stage_left front c file next Over ≡ drop given old ++ stage_left front c file next stage
after_over c front file old new buffer given at n len next stage none zero is made within read empty some =
    let over : drop at file ≡ [] = none_left n len buffer (drop at file) within read empty some in
    let own : new ≡ old ++ [] = made ∙ ap (λ (m : ℕ). old ++ take m buffer) empty in
    rw is (rw zero (rw own (rw none (sym over))))
