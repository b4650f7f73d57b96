-- The head of a batch's packet, whose pages the caller sends from where they lie.
use Rattle.std.specs.Prelude.{ℕ, ◌≡◌, ◌-◌, ◌*◌, ◌++◌, Bool, false, not, List, map, zip, get_or, Ok, IfSome}
use Rattle.std.specs.List.{filter}
use Rattle.mig_mem.specs.RamTable.{RamTable, block}
use Rattle.mig_mem.specs.Image.{Image, content_at}
use Rattle.mig_mem.specs.Round.{round_of}
use Rattle.mig_zero.specs.Zero.{is_zero}
use Rattle.mig_packet.specs.Written.{written_head}
use Rattle.mig_send.specs.declared.channel_worker.Hand.{Hand}
use Rattle.mig_send.specs.declared.channel_worker.Hand.TheVariants.{Drawing, Claimed, Ending, Ended, Moving}
use Rattle.mig_send.specs.Batches.{BatchOfPages, batch_places}
use Rattle.mig_send.specs.Packing.{normals_of, contents_of}
use Rattle.mig_send.specs.Work.{no_batch}
use Rattle.mig_send.specs.ChannelWork.{RoundTerms, ChannelWork, after_packet, batch_in}
use Rattle.mig_send.specs.Copies.{PacksPages}

-- ---- the head

-- Where pages are in their block, in bytes: those that are said to be zeros, and the others. Each
-- page has its flag beside it.
abbrev pub zeros_at : ℕ → List (ℕ × Bool) → List ℕ
zeros_at page_size pages = map (λ page. page.0 * page_size) (filter (λ page. page.1) pages)

abbrev pub others_at : ℕ → List (ℕ × Bool) → List ℕ
others_at page_size pages = map (λ page. page.0 * page_size) (filter (λ page. not page.1) pages)

-- the head of the packet of a batch, if these of its pages are zeros
abbrev pub batch_head : RamTable → BatchOfPages → ℕ → List Bool → List ℕ
batch_head table batch number zeros =
    let pages : List (ℕ × Bool) = zip batch.pages zeros in
    written_head table.page_size number false (block table.blocks batch.block).id (others_at table.page_size pages) (zeros_at table.page_size pages)

-- the head of the packet of the batch that a worker's number claims, after its bytes
abbrev pub WritesHead : RoundTerms → Hand → List Bool → (before after : List ℕ) → Type 0
WritesHead terms (Drawing seat) zeros before after = ⊥
WritesHead terms (Claimed seat number) zeros before after = after ≡ before ++ batch_head terms.table (get_or terms.batches (number - terms.deal.base) no_batch) number zeros
WritesHead terms (Ending spent last) zeros before after = ⊥
WritesHead terms (Ended spent) zeros before after = ⊥
WritesHead terms Moving zeros before after = ⊥

-- ---- what follows it

-- which pages of a batch are zeros in a memory
abbrev pub zeros_in : Image → BatchOfPages → List Bool
zeros_in memory batch = map (λ place. is_zero (content_at memory place)) (batch_places batch)

-- the contents of the others, one after another
abbrev pub contents_in : Image → BatchOfPages → List ℕ
contents_in memory batch = contents_of (normals_of (round_of memory (batch_places batch)))

-- A worker has written the head of a packet. If the contents of a memory's pages follow, of which
-- these are zeros, it has made a step from this memory.
pub record PutsHead (zeros : List Bool) (old new : ChannelWork) : Type 0 where
  pub has_head : WritesHead old.terms old.hand zeros old.text new.text
  pub rest : new ≡ record old { hand = after_packet old.hand; text = new.text }
  pub follows : (memory : Image) → memory.table ≡ old.terms.table
      → IfSome (batch_in old.terms old.hand) (λ batch. zeros ≡ zeros_in memory batch → PacksPages memory (Ok _) old (record new { text = new.text ++ contents_in memory batch }))
