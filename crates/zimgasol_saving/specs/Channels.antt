-- A main stream and channels with the files' memory.
use Rattle.std.specs.Prelude.{ℕ, ◌≡◌, List, [], ◌∷◌, ◌++◌, length, map, get_or, Option}
use Rattle.std.specs.Io.KnownBytes.{Appends}
use Rattle.mig_mem.specs.RamTable.{RamTable}
use Rattle.mig_mem.specs.Image.{Page, Image}
use Rattle.mig_mem.specs.Round.{with_rounds}
use Rattle.mig_mem.specs.Tracking.{rounds_of}
use Rattle.mig_stream.specs.Format.{end_byte}
use Rattle.mig_packet.specs.PageSize.{page_limit}
use Rattle.mig_send.specs.DealtRounds.{DealtRound, IsMachineSending}
use Rattle.zimgasol_files.specs.declared.target.Outlet.{Outlet}
use Rattle.zimgasol_packing.specs.declared.packing.Packing.{Packing}
use Rattle.zimgasol_packing.specs.Packing.{HaveTexts, front_of, IsPacking}
use Rattle.zimgasol_saving.specs.Sent.{Source, sent_pages, memory_of, IsOlder}
use Rattle.zimgasol_saving.specs.Written.{Front, Named, Kept, Beside}
use Rattle.zimgasol_saving.specs.Blocks.{FilesFit}

-- the pages of rounds that were dealt, as a single stream would send them
abbrev pub dealt_pages : List DealtRound → List (List Page)
dealt_pages rounds = rounds_of (map (λ (round : DealtRound). round.snapshot) rounds)

-- THE MAIN STREAM AND THE CHANNELS HAVE the files' memory. They are a sending of two rounds: one
-- without pages, and one with the pages that the older files haven't. After RAM's END the main
-- stream has the end byte alone. So the rounds make of a memory with the older files' bytes that of
-- the files, and without older files of any memory.
pub record IsSavedOver {F : Type 0} (contents : F → Option (List ℕ)) (name : Option (List ℕ)) (uuid : List ℕ) (table : RamTable) (sources : List Source) (channels : List (Outlet F)) (old new : Option (List ℕ)) : Type 0 where
  pub main : List ℕ
  pub texts : List (List ℕ)
  pub rounds : List DealtRound
  pub is_sending : IsMachineSending name table uuid (page_limit table.page_size) (length channels) rounds main texts
  pub has_main : Appends old new (main ++ end_byte ∷ [])
  pub have_texts : HaveTexts contents channels (λ channel. get_or texts channel [])
  pub has_pages : dealt_pages rounds ≡ [] ∷ sent_pages table sources ∷ []
  pub files_fit : FilesFit table sources (length table.blocks)
  pub leaves : (m : Image) → m.table ≡ table → IsOlder table sources m → with_rounds m (dealt_pages rounds) ≡ memory_of table sources

-- what is known of packets that are being sent: of the main stream nothing is written but its front
abbrev pub HoldsPacking : {F : Type 0} → (F → Option (List ℕ)) → Packing F → Front → RamTable → List ℕ → List Page → Type 0
HoldsPacking contents s (Named name) table text pages = ⊥
HoldsPacking contents s (Kept front id) table text pages = ⊥
HoldsPacking contents s (Beside name uuid channels) table text pages =
    (text ≡ front_of name) × (length s.channels.items ≡ channels) × IsPacking contents (record { name = name; uuid = uuid; table = table }) pages s
