-- A packet that is taken at once: its head, and the contents of its normal pages, which others read
-- to their places in the memory. No call is passed the memory for it.
use Rattle.std.specs.Prelude.{ℕ, ◌≡◌, ◌++◌, Bool, true, false, List, [], length, map, get_or, All, None, IsFalse}
use Rattle.std.specs.List.{flat_map, range_with_len}
use Rattle.mig_mem.specs.RamTable.{RamTable}
use Rattle.mig_mem.specs.Image.{Page, Image}
use Rattle.mig_mem.specs.Round.{with_round}
use Rattle.mig_packet.specs.Packet.{offset_at}
use Rattle.mig_packet.specs.Paging.{GivenSoFar, PageHolder}
use Rattle.mig_packet.specs.NextHead.{IsNextHead}
use Rattle.mig_assemble.specs.Judging.{page_in}
use Rattle.mig_assemble.specs.HeadPlaces.{LieIn}
use Rattle.mig_answer.specs.Texts.{Text, with_piece}
use Rattle.mig_in_place.specs.declared.main_stream.SizeList.{SizeList}
use Rattle.mig_in_place.specs.declared.main_stream.SizeList.TheVariants as list
use Rattle.mig_in_place.specs.Round.{KeptRound}
use Rattle.mig_in_place.specs.Sources.{AtChannel, KeptChannel, HoldsAt, AddsHead, TellsTakes, block_in, zeros_begun}

-- ---- its bytes and its pages

-- the bytes of a packet: its head, and the contents of its normal pages
abbrev pub packet_bytes : List ℕ → List (List ℕ) → List ℕ
packet_bytes head contents = head ++ flat_map (λ content. content) contents

-- There is a content of the page size for each of so many pages.
pub record ArePages (page_size count : ℕ) (contents : List (List ℕ)) : Type 0 where
  pub as_many : length contents ≡ count
  pub are_whole : All (λ content. length content ≡ page_size) contents

-- its normal page with a number
abbrev pub normal_page : RamTable → List ℕ → List (List ℕ) → ℕ → Page
normal_page table head contents i = page_in table (block_in table head) (offset_at head i) (get_or contents i [])

-- its pages of zeros, and then its normal pages
abbrev pub pages_taken : RamTable → List ℕ → List (List ℕ) → List Page
pages_taken table head contents = zeros_begun table head ++ map (normal_page table head contents) (range_with_len 0 (length contents))

-- ---- private: a channel that takes it

-- The next item of a channel, which takes bytes, is a packet with this head. Its pages are in this
-- block, and no page of the round is misplaced.
pub record IsNextPacket (l : SizeList) (head : List ℕ) (c : KeptChannel) (r : KeptRound) (b : ℕ) : Type 0 where
  pub is_complete : l ≡ list.Complete
  pub takes : TellsTakes l c true
  pub is_here : IsFalse c.is_whole
  pub none_begun : c.block ≡ None
  pub is_head : IsNextHead head c.reader
  pub is_right : IsFalse r.has_misplaced
  pub lies : LieIn r.arrivals.seen.table b head

-- A channel takes bytes, and the round has the head of its next packet, whose pages are in a block.
pub record AddsPacket (f : AtChannel) (l : SizeList) (text : Text) (so_far : GivenSoFar) (c : KeptChannel) (r : KeptRound) (memory : Image) (head : List ℕ) (after : KeptRound) : Type 0 where
  pub is_complete : l ≡ list.Complete
  pub takes : TellsTakes l c true
  pub holds : HoldsAt f l text so_far c r memory
  pub is_right : IsFalse after.has_misplaced
  pub lies : LieIn memory.table (block_in memory.table head) head
  pub adds : AddsHead head r memory after (with_round memory (zeros_begun memory.table head))

-- A reader has taken all of the packet, whatever the memory is: it has the packet's pages.
abbrev pub TakesParts : List ℕ → List (List ℕ) → PageHolder → PageHolder → Bool → Type 0
TakesParts head contents old new sync = (f : AtChannel) (l : SizeList) (text : Text) (so_far : GivenSoFar) (r after : KeptRound) (memory : Image)
    → AddsPacket f l text so_far (record { reader = old; block = None; is_whole = false }) r memory head after
    → (gave : GivenSoFar) × HoldsAt f l (with_piece (packet_bytes head contents) text) gave (record { reader = new; block = None; is_whole = sync }) after (with_round memory (pages_taken memory.table head contents))

-- So has a channel.
abbrev pub TakesPacket : List ℕ → List (List ℕ) → KeptChannel → KeptRound → KeptChannel → KeptRound → Type 0
TakesPacket head contents old r new after = (f : AtChannel) (text : Text) (so_far : GivenSoFar) (memory : Image) → HoldsAt f list.Complete text so_far old r memory
    → (gave : GivenSoFar) × HoldsAt f list.Complete (with_piece (packet_bytes head contents) text) gave new after (with_round memory (pages_taken memory.table head contents))
