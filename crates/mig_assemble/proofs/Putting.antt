-- Rounds that are put into a memory, one page after another.
use Rattle.std.proofs.Common.{ℕ, ◌≡◌, ◌+◌, ◌<◌, List, [], ◌∷◌, ◌++◌, length, map, take, sym, ap, ◌∙◌, Option, None, get_or}
use Rattle.std.specs.Option.{option_map_or}
use Rattle.std.specs.List.{flat_map, range_with_len}
use Rattle.std.proofs.lemmas.List.{map-append, take_more, flat_map_more}
use Rattle.std.proofs.lemmas.List.FromFn.{map-range_with_len_more}
use Rattle.mig_mem.specs.declared.place.Place.{Place}
use Rattle.mig_mem.specs.Image.{Page, Image, IsImage, content_at, image_of, with_page}
use Rattle.mig_mem.specs.Place.{place_at}
use Rattle.mig_mem.specs.Round.{last_at, with_round}
use Rattle.mig_mem.proofs.Images.{image_is, image_agree, content_at-image_of}
use Rattle.mig_mem.proofs.Rounds.{last_at-nil, last_at-append, map_or-or, with_page-more}
use Rattle.mig_stream.specs.PageRecord.{PageRecord, page_of}
use Rattle.mig_stream.specs.Round.{record_at}

-- a round without a page changes nothing
pub put_none : (m : Image) → IsImage m → m ≡ with_round m []
put_none m is =
    image_is m is ∙ image_agree m.table (content_at m) (λ p. option_map_or (λ (x : Page). x.content) (last_at p []) (content_at m p))
    (λ p _. sym (ap (λ (o : Option Page). option_map_or (λ (x : Page). x.content) o (content_at m p)) (last_at-nil p)))

-- pages that are put after others are put as one list with them
pub put_after : (m : Image) (before more : List Page) → with_round (with_round m before) more ≡ with_round m (before ++ more)
put_after m before more =
    let was : Place → List ℕ = λ p. option_map_or (λ (x : Page). x.content) (last_at p before) (content_at m p) in
    image_agree m.table (λ p. option_map_or (λ (x : Page). x.content) (last_at p more) (content_at (image_of m.table was) p))
    (λ p. option_map_or (λ (x : Page). x.content) (last_at p (before ++ more)) (content_at m p))
    (λ p is.
    ap (λ (bytes : List ℕ). option_map_or (λ (x : Page). x.content) (last_at p more) bytes) (content_at-image_of m.table was p is)
    ∙ sym (map_or-or (last_at p more) (last_at p before) (content_at m p))
    ∙ ap (λ (o : Option Page). option_map_or (λ (x : Page). x.content) o (content_at m p)) (sym (last_at-append p before more)))

-- one page more
pub put_page_more : (start memory new : Image) (before : List Page) (x : Page) (place : Place) (bytes : List ℕ)
    → memory ≡ with_round start before → place ≡ x.place → bytes ≡ x.content → new ≡ with_page memory place bytes
    → new ≡ with_round start (before ++ x ∷ [])
put_page_more start memory new before x place bytes so_far there is put =
    put
    ∙ ap (λ (m : Image). with_page m place bytes) so_far
    ∙ ap (λ (p : Place). with_page (with_round start before) p bytes) there
    ∙ ap (λ (l : List ℕ). with_page (with_round start before) x.place l) is
    ∙ with_page-more start.table (content_at start) before x

-- one record more
pub put_more : (start memory new : Image) (size : ℕ) (records : List PageRecord) (i : ℕ) (place : Place) (bytes : List ℕ)
    → memory ≡ with_round start (map (page_of size) (take i records)) → i < length records → place ≡ (record_at records i).place
    → bytes ≡ (page_of size (record_at records i)).content → new ≡ with_page memory place bytes
    → new ≡ with_round start (map (page_of size) (take (i + 1) records))
put_more start memory new size records i place bytes so_far lt there is put =
    let r : PageRecord = record_at records i in
    put_page_more start memory new (map (page_of size) (take i records)) (page_of size r) place bytes so_far there is put
    ∙ ap (λ (l : List Page). with_round start l)
    (sym (ap (λ (l : List PageRecord). map (page_of size) l) (take_more records i (record { place = place_at 0 0; content = None }) lt)
    ∙ map-append (page_of size) (take i records) (r ∷ [])))

-- one page more of those that a run of numbers gives
pub put_numbered : (start memory new : Image) (f : ℕ → Page) (from i j : ℕ) (place : Place) (bytes : List ℕ)
    → memory ≡ with_round start (map f (range_with_len from i)) → from + i ≡ j → place ≡ (f j).place → bytes ≡ (f j).content
    → new ≡ with_page memory place bytes → new ≡ with_round start (map f (range_with_len from (i + 1)))
put_numbered start memory new f from i j place bytes so_far is_j there is put =
    put_page_more start memory new (map f (range_with_len from i)) (f j) place bytes so_far there is put
    ∙ ap (λ (l : List Page). with_round start l) (sym (map-range_with_len_more f from i j is_j))

-- one part more of what the elements of a list give
pub put_part_more : {X : Type 0} (start memory new : Image) (f : X → List Page) (xs : List X) (i : ℕ) (d : X)
    → memory ≡ with_round start (flat_map f (take i xs)) → i < length xs → new ≡ with_round memory (f (get_or xs i d))
    → new ≡ with_round start (flat_map f (take (i + 1) xs))
put_part_more {X} start memory new f xs i d so_far lt put =
    let last : X = get_or xs i d in
    put
    ∙ ap (λ (m : Image). with_round m (f last)) so_far
    ∙ put_after start (flat_map f (take i xs)) (f last)
    ∙ ap (λ (l : List Page). with_round start l) (flat_map_more f [] (take i xs) last ∙ ap (λ (l : List X). flat_map f l) (sym (take_more xs i d lt)))
