-- The packet of a batch.
use Rattle.std.specs.Prelude.{ℕ, ◌≡◌, ◌+◌, ◌*◌, ◌/◌, ◌<◌, false, not, List, ◌++◌, length, map, flat_map, All, AllPairs, IsFalse}
use Rattle.std.specs.List.{filter}
use Rattle.mig_mem.specs.declared.place.Place.{Place}
use Rattle.mig_mem.specs.RamTable.{block}
use Rattle.mig_mem.specs.Image.{Page, Image, content_at}
use Rattle.mig_mem.specs.Place.{place_at}
use Rattle.mig_mem.specs.Round.{round_of}
use Rattle.mig_zero.specs.Zero.{is_zero}
use Rattle.mig_packet.specs.Written.{IsWritable, written_packet, normal_pages}
use Rattle.mig_send.specs.Batches.{BatchOfPages, batch_places}

-- ---- the packet of a batch

-- The pages that aren't zeros, with their contents, and those that are.
abbrev pub normals_of : List Page → List Page
normals_of pages = filter (λ page. not (is_zero page.content)) pages

abbrev pub zeros_of : List Page → List Page
zeros_of pages = filter (λ page. is_zero page.content) pages

-- where pages are in their block, in bytes
abbrev pub offsets_of : ℕ → List Page → List ℕ
offsets_of page_size pages = map (λ page. page.place.page * page_size) pages

-- the contents of pages, one after another
abbrev pub contents_of : List Page → List ℕ
contents_of pages = flat_map (λ page. page.content) pages

-- the packet with a number and some pages of one block, which has this id
abbrev pub packet_of : ℕ → ℕ → List ℕ → List Page → List ℕ
packet_of page_size number id pages =
    written_packet page_size number false id (offsets_of page_size (normals_of pages)) (contents_of (normals_of pages)) (offsets_of page_size (zeros_of pages))

-- the offsets of both kinds, of some places of a memory
abbrev pub normal_offsets : Image → List Place → List ℕ
normal_offsets image places = offsets_of image.table.page_size (normals_of (round_of image places))

abbrev pub zero_offsets : Image → List Place → List ℕ
zero_offsets image places = offsets_of image.table.page_size (zeros_of (round_of image places))

-- the contents at some offsets in a block of a memory, one after another
abbrev pub contents_at : Image → ℕ → List ℕ → List ℕ
contents_at image b offsets = flat_map (λ offset. content_at image (place_at b (offset / image.table.page_size))) offsets

-- the packet of a number with the normal and the zero pages at some offsets in a block of a memory
abbrev pub packet_at : Image → ℕ → ℕ → List ℕ → List ℕ → List ℕ
packet_at image b number normal zero =
    written_packet image.table.page_size number false (block image.table.blocks b).id normal (contents_at image b normal) zero

-- ---- a packed packet

pub record PackedBatch : Type 0 where
  pub page_size : ℕ
  pub number : ℕ
  pub bytes : List ℕ

-- The bytes of a packed packet: they are the written packet of that number, without SYNC, of at
-- least one page and no more than a packet may have. No normal page is zeros, and the normal and
-- the zero pages ascend.
pub record IsPacked (packed : PackedBatch) : Type 0 where
  pub id : List ℕ
  pub normal : List ℕ
  pub contents : List ℕ
  pub zero : List ℕ
  pub is_writable : IsWritable packed.page_size packed.number id normal contents zero
  pub has_bytes : packed.bytes ≡ written_packet packed.page_size packed.number false id normal contents zero
  pub has_some : 0 < length normal + length zero
  pub no_zeros : All (λ page. IsFalse (is_zero page.content)) (normal_pages packed.page_size normal contents)
  pub normal_ascends : AllPairs (λ a b. a < b) normal
  pub zero_ascends : AllPairs (λ a b. a < b) zero

-- the packed packet of a batch and a number
abbrev pub packed_of : Image → BatchOfPages → ℕ → PackedBatch
packed_of image batch number = record {
  page_size = image.table.page_size;
  number = number;
  bytes = packet_of image.table.page_size number (block image.table.blocks batch.block).id (round_of image (batch_places batch));
}

-- the bytes, or another list, are the old ones with these after them, or these only
pub record IsPrefix {E : Type 0} (front text : List E) : Type 0 where
  pub rest : List E
  pub is_text : text ≡ front ++ rest
