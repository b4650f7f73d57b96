-- The memory that the records of a stream make.
use Rattle.std.proofs.Common.{ℕ, ◌≡◌, List, [], ◌∷◌, ◌++◌, map, refl, ap, ◌∙◌}
use Rattle.std.specs.List.{flat_map}
use Rattle.std.proofs.lemmas.List.{map-append}
use Rattle.mig_mem.specs.Image.{Page, Image}
use Rattle.mig_mem.specs.Round.{with_round, all_pages}
use Rattle.mig_stream.specs.PageRecord.{PageRecord, page_of}
use Rattle.zimgasol_reading.specs.Recorded.{records_of, with_records, with_stream}

-- the pages of all its rounds
all_of : (size : ℕ) (rounds : List (List PageRecord)) → map (page_of size) (records_of rounds) ≡ all_pages (map (map (page_of size)) rounds)
all_of size [] = refl
all_of size (round ∷ rounds) =
    map-append (page_of size) round (flat_map (λ r. r) rounds) ∙ ap (λ (l : List Page). map (page_of size) round ++ l) (all_of size rounds)

pub stream_of : (image : Image) (rounds : List (List PageRecord)) → with_records image (records_of rounds) ≡ with_stream image rounds
stream_of image rounds = ap (λ (l : List Page). with_round image l) (all_of image.table.page_size rounds)
