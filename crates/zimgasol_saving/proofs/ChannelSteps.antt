-- What is sent over channels, piece after piece, and at the end.
use Rattle.std.proofs.Common.{ℕ, ◌≡◌, ◌<◌, ◌≤◌, List, [], ◌∷◌, ◌++◌, length, map}
use Rattle.std.proofs.Common.{refl, sym, ap, subst, ◌∙◌, arith, Option, Some}
use Rattle.std.specs.Prelude.{replicate}
use Rattle.std.specs.Io.KnownBytes.{Appends}
use Rattle.std.specs.List.{range_with_len}
use Rattle.std.proofs.lemmas.List.{append-nil, append_cancel_left, length-map}
use Rattle.std.proofs.lemmas.List.FromFn.{get_or-map-range_with_len}
use Rattle.mig_mem.specs.declared.place.Place.{Place}
use Rattle.mig_mem.specs.RamTable.{RamTable, IsTable}
use Rattle.mig_mem.specs.Image.{Page, Image, IsImage, pages_of}
use Rattle.mig_mem.specs.PlaceSet.{IsPlaceSet, places_where}
use Rattle.mig_mem.specs.Round.{round_of, all_pages, with_round}
use Rattle.mig_mem.proofs.Lents.{lent_is_image}
use Rattle.mig_mem.proofs.Sets.{where_set}
use Rattle.mig_stream.specs.Written.{FlushPart}
use Rattle.mig_stream.specs.MachineWritten.{machine_written}
use Rattle.zimgasol_files.specs.Differing.{Piece}
use Rattle.zimgasol_files.specs.declared.target.Outlet.{Outlet}
use Rattle.zimgasol_packing.specs.declared.packing.Packing.{Packing}
use Rattle.zimgasol_packing.specs.Packets.{ended_text}
use Rattle.zimgasol_packing.specs.Packing.{Begun, front_of, SendsPages, IsPackedAll}
use Rattle.zimgasol_packing.specs.Dealt.{both_rounds}
use Rattle.zimgasol_packing.proofs.Dealt.{packets_are_a_sending}
use Rattle.zimgasol_saving.specs.Sent.{Source, source_of, is_sent, memory_of, sent_places, sent_pages}
use Rattle.zimgasol_saving.specs.Written.{Named, Kept, Beside, SendsPiece}
use Rattle.zimgasol_saving.specs.Blocks.{FilesFit}
use Rattle.zimgasol_saving.specs.Channels.{IsSavedOver, HoldsPacking}
use Rattle.zimgasol_saving.proofs.Streams.{appends_none, appends_then}
use Rattle.zimgasol_saving.proofs.SentPages.{bytes_at, sent_leaves}

module _ {F : Type 0} (contents : F → Option (List ℕ)) where
  -- the pages of a piece were sent, and nothing on the main stream
  pub packets_sent : (old new : Packing F) (u : Option (List ℕ)) (b first : ℕ) (piece : Piece) → SendsPages contents b first piece old new
      → length new.channels.items ≡ length old.channels.items
      → SendsPiece (HoldsPacking contents old) (HoldsPacking contents new) u u b first piece
  packets_sent old new u b first piece sends many (Named name) table text pages some had = absurd had
  packets_sent old new u b first piece sends many (Kept front id) table text pages some had = absurd had
  packets_sent old new u b first piece sends many (Beside name uuid channels) table text pages some had =
      let gave = sends (record { name = name; uuid = uuid; table = table }) pages had.2 in
      record {
        bytes = [];
        sent = gave.0;
        has_bytes = appends_none u;
        are_sent = gave.1;
        has_sent = (append-nil text ∙ had.0, many ∙ had.1, gave.2);
      }

-- ---- the files' memory

files_image : (table : RamTable) (sources : List Source) → length sources ≡ length table.blocks → FilesFit table sources (length table.blocks)
    → IsImage (memory_of table sources)
files_image table sources many fit =
    lent_is_image table (map (λ s. s.bytes) sources) (record {
      same_count = length-map sources (λ s. s.bytes) ∙ many;
      has_sizes = λ i low. ap (λ (l : List ℕ). length l) (bytes_at sources i) ∙ fit i low;
    })

sent_set : (table : RamTable) (sources : List Source) → IsTable table → IsPlaceSet (record { table = table; marked = sent_places table sources })
unfolding places_where
sent_set table sources is = where_set table (λ (p : Place). is_sent table.page_size (source_of sources p.block) p.page) is

no_round : (m : Image) → round_of m [] ≡ []
unfolding pages_of
no_round m = refl

-- a round without pages before another one
no_round_before : (m : Image) (pages : List Page) → all_pages (round_of m [] ∷ pages ∷ []) ≡ pages
no_round_before m pages = ap (λ (l : List Page). l ++ (pages ++ [])) (no_round m) ∙ append-nil pages

-- nothing was written to the main stream after its front
pub no_bytes : (front bytes : List ℕ) → front ++ bytes ≡ front → bytes ≡ []
no_bytes front bytes e = append_cancel_left front bytes [] (e ∙ sym (append-nil front))

module _ {F : Type 0} (contents : F → Option (List ℕ)) (name : Option (List ℕ)) (uuid : List ℕ) (table : RamTable) (sources : List Source) where
  abbrev begun : Begun
  begun = record { name = name; uuid = uuid; table = table }

  -- THE STREAMS ARE SAVED
  pub saved_over : (channels : List (Outlet F)) (old new : Option (List ℕ)) → IsTable table → length uuid ≡ 16 → 0 < length channels → length channels ≤ 255
      → length sources ≡ length table.blocks → FilesFit table sources (length table.blocks)
      → IsPackedAll contents begun (sent_pages table sources) channels old new
      → (was : Option (List ℕ)) → Appends was old (front_of name) → IsSavedOver contents name uuid table sources channels was new
  saved_over channels old new is_table long some few many fit packed was front =
      let n : ℕ = length channels in
      let m : Image = memory_of table sources in
      let places : List Place = sent_places table sources in
      let texts : List (List ℕ) = map (ended_text table uuid n packed.packets) (range_with_len 0 n) in
      record {
        main = machine_written name table (replicate 2 FlushPart);
        texts = texts;
        rounds = both_rounds m places n packed.packets;
        is_sending = packets_are_a_sending name m places uuid n packed.packets is_table (files_image table sources many fit)
            (sent_set table sources is_table) long some few packed.are_packets packed.numbers_fit;
        has_main = subst (λ (l : List ℕ). Appends was new l) packed.is_main (appends_then was old new (front_of name) packed.last front packed.has_last);
        have_texts = λ c low. packed.have_texts c low
            ∙ ap (λ (l : List ℕ). Some l) (sym (get_or-map-range_with_len (ended_text table uuid n packed.packets) 0 n c c [] low (omega arith)));
        has_pages = ap (λ (l : List Page). l ∷ sent_pages table sources ∷ []) (no_round m);
        files_fit = fit;
        leaves = λ image same older.
            ap (λ (l : List Page). with_round image l) (no_round_before m (sent_pages table sources)) ∙ sent_leaves table sources image same older;
      }
