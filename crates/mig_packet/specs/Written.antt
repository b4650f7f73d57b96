-- The packet that is written for its fields.
use Rattle.std.specs.Prelude.{◌≡◌, ◌≢◌, ℕ, ◌+◌, ◌-◌, ◌*◌, ◌^◌, ◌<◌, ◌≤◌, Bool, true, false, List, ◌++◌, length, get_or, map, replicate, slice_range}
use Rattle.std.specs.List.{All, flat_map, range_with_len}
use Rattle.mig_packet.specs.Fields.{be32, be64}
use Rattle.mig_packet.specs.PageSize.{IsPageSize, page_limit}
use Rattle.mig_packet.specs.Packet.{NormalPage, Fields}

abbrev pub flags_of : Bool → ℕ
flags_of true = 1
flags_of false = 0

-- the first 64 bytes: magic, version, flags, pages_alloc, normal pages, bytes of their contents,
-- number, zero pages, and the reserved fields
unfoldable pub written_counts : ℕ → ℕ → Bool → ℕ → ℕ → List ℕ
written_counts page_size number sync normals zeros =
    be32 0x11223344 ++ (be32 1 ++ (be32 (flags_of sync) ++ (be32 (page_limit page_size)
    ++ (be32 normals ++ (be32 (normals * page_size) ++ (be64 number ++ (be32 zeros ++ replicate 28 0)))))))

-- the id, and zeros up to 256 bytes
unfoldable pub written_id : List ℕ → List ℕ
written_id id = id ++ replicate (256 - length id) 0

-- the offsets, and zeros up to the most offsets of a packet
unfoldable pub written_offsets : ℕ → List ℕ → List ℕ
written_offsets page_size offsets = flat_map be64 offsets ++ replicate (8 * (page_limit page_size - length offsets)) 0

-- the bytes before the pages
abbrev pub written_head : ℕ → ℕ → Bool → List ℕ → List ℕ → List ℕ → List ℕ
written_head page_size number sync id normal zero =
    written_counts page_size number sync (length normal) (length zero) ++ (written_id id ++ written_offsets page_size (normal ++ zero))

-- the packet of these normal and zero pages, by their offsets, and of the contents of the normal
-- ones, one after another
abbrev pub written_packet : ℕ → ℕ → Bool → List ℕ → List ℕ → List ℕ → List ℕ → List ℕ
written_packet page_size number sync id normal contents zero = written_head page_size number sync id normal zero ++ contents

-- the normal pages with these offsets, with their contents
abbrev pub normal_pages : ℕ → List ℕ → List ℕ → List NormalPage
normal_pages page_size normal contents =
    map (λ i. record { offset = get_or normal i 0; content = slice_range contents (i * page_size) (i * page_size + page_size) })
    (range_with_len 0 (length normal))

-- its fields
abbrev pub written_fields : ℕ → ℕ → Bool → List ℕ → List ℕ → List ℕ → List ℕ → Fields
written_fields page_size number sync id normal contents zero =
    record { number = number; sync = sync; id = id; normal = normal_pages page_size normal contents; zero = zero }

-- The fields that are read back as they were written: numbers that fit their fields, no more pages
-- than a packet may have, complete contents, and an id without a byte 0.
pub record IsWritable (page_size number : ℕ) (id normal contents zero : List ℕ) : Type 0 where
  pub has_page_size : IsPageSize page_size
  pub has_number : number < 2 ^ 64
  pub has_offsets : All (λ offset. offset < 2 ^ 64) (normal ++ zero)
  pub has_few : length normal + length zero ≤ page_limit page_size
  pub has_contents : length contents ≡ length normal * page_size
  pub has_short_id : length id ≤ 255
  pub has_whole_id : All (λ byte. byte ≢ 0) id
