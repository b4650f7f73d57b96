-- What a writer makes of RAM in a machine's stream is such a stream.
use Rattle.std.proofs.Common.{ℕ, ◌≡◌, ◌≤◌, ◌<◌, ◌^◌, IfSome, Bool, true, false, List, [], ◌∷◌, ◌++◌, length, map, replicate, flat_map, Option, Some, None, refl}
use Rattle.std.proofs.Common.{sym, ap, subst, ◌∙◌, append_assoc, append-nil, arith}
use Rattle.std.specs.List.{AllByRecursion}
use Rattle.mig_mem.specs.RamTable.{RamTable, IsTable}
use Rattle.mig_stream.specs.declared.item.Mode.{Mode}
use Rattle.mig_stream.specs.declared.item.Mode.TheVariants.{Single, Main}
use Rattle.mig_stream.specs.declared.item.Section.TheVariants as sections
use Rattle.mig_stream.specs.declared.item.EntryForm.{EntryForm}
use Rattle.mig_stream.specs.declared.item.EntryForm.TheVariants.{Plain}
use Rattle.mig_stream.specs.Format.{most_name_bytes}
use Rattle.mig_stream.specs.PageRecord.{PageRecord}
use Rattle.mig_stream.specs.Text.{Record, Follow, all_records, AreRounds, section, body, file_header, configuration, start_head, size_list, total_bytes}
use Rattle.mig_stream.specs.Machine.{Configuration, configured, IsConfiguration, form_of, IsTail, PartOf, part_or_passed, AreBetween, parts_of}
use Rattle.mig_stream.specs.Machine.{IsMachineText}
use Rattle.mig_stream.specs.Written.{Part, RoundPart, FlushPart, written_id, written_record, written_parts, opening}
use Rattle.mig_stream.specs.MachineWritten.{machine_written, MachineSinglesAreTexts, MachineMainsAreTexts}
use Rattle.mig_stream.specs.Writer.{Writer, HasDrained}
use Rattle.mig_stream.proofs.Tails.{no_tails, no_tails_length, no_tails_plain, no_tails_list}
use Rattle.mig_stream.proofs.WrittenText.{parts_records, parts_spelled, single_parts, main_parts}

-- PARTs alone
each_part : (table : RamTable) (id : ℕ) (sections_are : List (List Record))
    → flat_map (section table sections.Part id) sections_are ≡ flat_map (part_or_passed table id) (map PartOf sections_are)
each_part table id [] = refl
each_part table id (records ∷ others) = ap (λ (x : List ℕ). section table sections.Part id records ++ x) (each_part table id others)

parts_alone : (sections_are : List (List Record)) → parts_of (map PartOf sections_are) ≡ sections_are
parts_alone [] = refl
parts_alone (records ∷ others) = ap (λ (x : List (List Record)). records ∷ x) (parts_alone others)

parts_stand : (before_parts : Bool) (sections_are : List (List Record)) → AreBetween before_parts (map PartOf sections_are)
parts_stand before_parts [] = tt
parts_stand before_parts (records ∷ others) = parts_stand false others

-- a name with no subsection
abbrev named : Option (List ℕ) → Option Configuration
named None = None
named (Some name) = Some (record { name = name; subsections = [] })

named_spelled : (name : Option (List ℕ)) → configuration name ≡ configured (named name)
named_spelled None = refl
named_spelled (Some name) = sym (append-nil (configuration (Some name)))

named_is : (p : ℕ) (name : Option (List ℕ)) → IfSome name (λ bytes. length bytes ≤ most_name_bytes) → IfSome (named name) (IsConfiguration p)
named_is p None is = tt
named_is p (Some name) is = record { has_name = is; are_bodies = tt }

-- and nothing follows the entries
named_form : (name : Option (List ℕ)) → Plain ≡ form_of (named name) []
named_form None = refl
named_form (Some name) = refl

-- a writer's stream keeps what the same parts have as a stream of RAM alone
from_text : (mode : Mode) (limit : ℕ) (name : Option (List ℕ)) (table : RamTable) (parts : List Part) (rounds : List
    (List PageRecord)) → IfSome name (λ bytes. length bytes ≤ most_name_bytes)
    → IsTable table → total_bytes table ≤ limit → Follow table None (all_records (parts_records None parts) ++ [])
    → AreRounds mode ([] ∷ parts_records None parts ++ [] ∷ []) rounds
    → IsMachineText mode limit (machine_written name table parts) table rounds
from_text mode limit name table parts rounds short is most follow are =
    let records : List (List Record) = parts_records None parts in
    let back : List ℕ → List ℕ → List ℕ = λ c p. file_header ++ c ++ start_head written_id ++ size_list table
    ++ body table written_id [] ++ p ++ section table sections.End written_id [] in
    let parts_are : written_parts table None parts ≡ flat_map (part_or_passed table written_id) (map PartOf records) =
    parts_spelled table None parts ∙ each_part table written_id records in
    let spelled : machine_written name table parts ≡ back (configured (named name)) (flat_map (part_or_passed table written_id) (map PartOf records)) =
    ap (λ (c : List ℕ). back c (written_parts table None parts)) (named_spelled name) ∙ ap (back (configured (named name))) parts_are in
    let with_list : List ℕ → List ℕ → List ℕ =
    λ c l. c ++ start_head written_id ++ l ++ body table written_id [] ++ flat_map (part_or_passed table written_id)
    (map PartOf records) ++ section table sections.End written_id [] in
    record {
      id = written_id;
      machine = named name;
      opening = [];
      tails = no_tails table.blocks;
      first = [];
      others = map PartOf records;
      last = [];
      is_spelled = spelled ∙ ap (λ (c : List ℕ). with_list c (size_list table)) (sym (append-nil (file_header ++ configured (named name))))
          ∙ ap (with_list (file_header ++ configured (named name) ++ [])) (sym (no_tails_list table));
      has_table = is;
      has_limit = most;
      has_id = small;
      has_machine = named_is table.page_size name short;
      is_opening = tt;
      is_one_form = λ shared. refl;
      has_tails = no_tails_length table.blocks;
      are_tails = subst (λ (form : EntryForm). AllByRecursion (IsTail form) (no_tails table.blocks)) (named_form name) (no_tails_plain table.blocks);
      are_others = parts_stand true records;
      follow = subst (λ (x : List (List Record)). Follow table None (all_records x ++ [])) (sym (parts_alone records)) follow;
      has_rounds = subst (λ (x : List (List Record)). AreRounds mode ([] ∷ x ++ [] ∷ []) rounds) (sym (parts_alone records)) are;
    }
  where
    small : written_id < 2 ^ 32
    small = omega arith

-- the single stream that is written of a machine is a machine's stream
pub machine_singles : MachineSinglesAreTexts
machine_singles = λ limit name table rounds short is most lawful.
    let both = single_parts table rounds lawful in
    from_text Single limit name table (map RoundPart rounds) ([] ∷ map (map written_record) rounds ++ [] ∷ []) short is most both.0 both.1

-- the main stream that is written of a machine is a machine's stream
pub machine_mains : MachineMainsAreTexts
machine_mains = λ limit name table n short is most.
    let both = main_parts table n in
    from_text Main limit name table (replicate n FlushPart) (replicate n []) short is most both.0 both.1

-- ---- the writer's end

-- END alone
abbrev pub end_bytes : List ℕ
end_bytes = 3 ∷ 0 ∷ 0 ∷ 0 ∷ 1 ∷ 0 ∷ 0 ∷ 0 ∷ 0 ∷ 0 ∷ 0 ∷ 0 ∷ 0x10 ∷ 0x7E ∷ 0 ∷ 0 ∷ 0 ∷ 1 ∷ []

-- the bytes drained and those that the end completes are the machine's stream
pub finished_open : (drained : List ℕ) (w : Writer) (parts : List Part) → HasDrained drained w parts
    → drained ++ (w.text ++ end_bytes) ≡ machine_written None w.table parts
unfolding opening
finished_open drained w parts h =
    sym (append_assoc drained w.text end_bytes) ∙ ap (λ (b : List ℕ). b ++ end_bytes) h.has_text
    ∙ regroup file_header (start_head written_id) (size_list w.table) (body w.table written_id []) (written_parts w.table None parts) end_bytes
  where
    regroup : (h s l b p e : List ℕ) → ((h ++ s ++ l ++ b) ++ p) ++ e ≡ h ++ [] ++ s ++ l ++ b ++ p ++ e
    regroup h s l b p e = ap (λ (x : List ℕ). x ++ s ++ l ++ b ++ p ++ e) (sym (append-nil h))
