-- What a writer makes of a machine with a name.
use Rattle.std.proofs.Common.{◌≡◌, ℕ, List, [], ◌∷◌, ◌++◌, length, drop, Option, None, refl, sym, ap, ◌∙◌, append_assoc, append-nil}
use Rattle.std.proofs.lemmas.List.{drop_at}
use Rattle.mig_mem.specs.RamTable.{RamTable}
use Rattle.mig_stream.specs.declared.item.Section.TheVariants as sections
use Rattle.mig_stream.specs.Format.{end_byte}
use Rattle.mig_stream.specs.Text.{section, body, file_header, configuration, start_head, size_list}
use Rattle.mig_stream.specs.Written.{Part, written_id, written_parts, opening, closing}
use Rattle.mig_stream.specs.MachineWritten.{machine_written, machine_closed, WrittenIsClosed, ConfiguredIsWritten, ConfiguredIsClosed}

-- what follows the configuration
abbrev behind : RamTable → List Part → List ℕ
behind table parts = start_head written_id ++ size_list table ++ body table written_id [] ++ written_parts table None parts
    ++ section table sections.End written_id []

regroup : (h s l b p e : List ℕ) → h ++ s ++ l ++ b ++ p ++ e ≡ h ++ (s ++ l ++ b ++ p ++ e)
regroup h s l b p e =
    ap (λ (x : List ℕ). x ++ b ++ p ++ e) (append_assoc h s l)
    ∙ ap (λ (x : List ℕ). x ++ p ++ e) (append_assoc h (s ++ l) b)
    ∙ ap (λ (x : List ℕ). x ++ e) (append_assoc h (s ++ l ++ b) p)
    ∙ append_assoc h (s ++ l ++ b ++ p) e

machine_is : (name : Option (List ℕ)) (table : RamTable) (parts : List Part)
    → machine_written name table parts ≡ file_header ++ configuration name ++ behind table parts
machine_is name table parts =
    regroup (file_header ++ configuration name) (start_head written_id) (size_list table) (body table written_id [])
    (written_parts table None parts) (section table sections.End written_id [])

-- a configuration goes between the file header and what follows it
put_between : (c bytes rest : List ℕ) → file_header ++ bytes ≡ file_header ++ [] ++ rest → file_header ++ c ++ bytes ≡ file_header ++ c ++ rest
put_between c bytes rest e =
    let plain : file_header ++ bytes ≡ file_header ++ rest = e ∙ ap (λ (x : List ℕ). x ++ rest) (append-nil file_header) in
    let same : bytes ≡ rest =
    sym (drop_at file_header bytes (length file_header) refl) ∙ ap (drop (length file_header)) plain ∙ drop_at file_header rest (length file_header) refl in
    ap (λ (x : List ℕ). file_header ++ c ++ x) same

-- the configuration between the file header and the rest makes the machine's stream
pub configured_is_written : ConfiguredIsWritten
configured_is_written = λ name table parts bytes e.
    put_between (configuration name) bytes (behind table parts) (e ∙ machine_is None table parts) ∙ sym (machine_is name table parts)

-- without a configuration the machine's closed stream is the one that is written of RAM alone
pub written_is_closed : WrittenIsClosed
unfolding opening closing
written_is_closed = λ table parts.
    ap (λ (h : List ℕ). h ++ start_head written_id ++ size_list table ++ body table written_id []
    ++ written_parts table None parts ++ section table sections.End written_id [] ++ end_byte ∷ []) (append-nil file_header)
    ∙ append_assoc (file_header ++ start_head written_id ++ size_list table ++ body table written_id []
    ++ written_parts table None parts) (section table sections.End written_id []) (end_byte ∷ [])

-- the configuration between the file header and the rest makes the machine's closed stream
pub configured_is_closed : ConfiguredIsClosed
configured_is_closed = λ name table parts bytes e.
    let end : List ℕ = end_byte ∷ [] in
    let closed : (n : Option (List ℕ)) → machine_closed n table parts ≡ file_header ++ configuration n ++ (behind table parts ++ end) =
    λ n. ap (λ (x : List ℕ). x ++ end) (machine_is n table parts) ∙ append_assoc (file_header ++ configuration n) (behind table parts) end in
    put_between (configuration name) bytes (behind table parts ++ end) (e ∙ sym (written_is_closed table parts) ∙ closed None) ∙ sym (closed name)
