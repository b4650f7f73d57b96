-- Pages that are added to the list of a round, one after another.
use Rattle.std.proofs.Common.{ℕ, ◌≡◌, ◌+◌, ◌<◌, List, [], ◌∷◌, ◌++◌, length, map, take, refl, sym, ap, subst, ◌∙◌, get_or}
use Rattle.std.specs.List.{flat_map, range_with_len}
use Rattle.std.proofs.lemmas.List.{map-append, append-nil, append_assoc, length-map, take_more, flat_map_more}
use Rattle.std.proofs.lemmas.List.FromFn.{map-range_with_len_more}
use Rattle.std.proofs.lemmas.List.Elements.{All-nil, All-cons, All-append}
use Rattle.mig_mem.specs.declared.putting.RoundPage.{RoundPage}
use Rattle.mig_mem.specs.RamTable.{RamTable}
use Rattle.mig_mem.specs.PlaceSet.{PlaceSet}
use Rattle.mig_mem.specs.Image.{Page, Image}
use Rattle.mig_mem.specs.Round.{with_round}
use Rattle.mig_mem.specs.Puts.{round_page, HasPageSize}
use Rattle.mig_stream.specs.Round.{RoundOfRecords}
use Rattle.mig_packet.specs.declared.packet.Packet.{Packet}
use Rattle.mig_packet.specs.Lent.{fields}
use Rattle.mig_assemble.specs.Judging.{all_round_pages, places_of}
use Rattle.mig_assemble.specs.NamedPlaces.{with_places}
use Rattle.mig_assemble.specs.Target.{LoadTarget, pages_of_round, after_round}
use Rattle.mig_assemble.specs.RoundList.{Adds}
use Rattle.mig_assemble.proofs.Naming.{round_named}

-- no page
pub adds_none : (size : ℕ) (list : List RoundPage) → Adds size list list []
adds_none size list = record { stands_for = sym (append-nil (map (round_page size) list)); has_sizes = λ all. all }

-- pages, one list after another
pub adds_after : (size : ℕ) (old mid new : List RoundPage) (xs ys : List Page) → Adds size old mid xs → Adds size mid new ys → Adds size old new (xs ++ ys)
adds_after size old mid new xs ys one two = record {
  stands_for = two.stands_for ∙ ap (λ (l : List Page). l ++ ys) one.stands_for ∙ append_assoc (map (round_page size) old) xs ys;
  has_sizes = λ all. two.has_sizes (one.has_sizes all);
}

-- one page
pub adds_one : (size : ℕ) (old new : List RoundPage) (x : RoundPage) (page : Page) → new ≡ old ++ x ∷ []
    → round_page size x ≡ page → HasPageSize size x → Adds size old new (page ∷ [])
adds_one size old new x page is same len = record {
  stands_for = ap (λ (l : List RoundPage). map (round_page size) l) is ∙ map-append (round_page size) old (x ∷ [])
      ∙ ap (λ (y : Page). map (round_page size) old ++ y ∷ []) same;
  has_sizes = λ all. rw is (All-append (HasPageSize size) old (x ∷ []) all (All-cons (HasPageSize size) x [] len (All-nil (HasPageSize size))));
}

-- one more of those that a run of numbers gives
pub adds_numbered : (size : ℕ) (old mid new : List RoundPage) (x : RoundPage) (f : ℕ → Page) (from i j : ℕ)
    → Adds size old mid (map f (range_with_len from i)) → from + i ≡ j → new ≡ mid ++ x ∷ [] → round_page size x ≡ f j → HasPageSize size x
    → Adds size old new (map f (range_with_len from (i + 1)))
adds_numbered size old mid new x f from i j so_far is_j is same len =
    rw (map-range_with_len_more f from i j is_j)
    (adds_after size old mid new (map f (range_with_len from i)) (f j ∷ []) so_far (adds_one size mid new x (f j) is same len))

-- one more of what the elements of a list stand for
pub adds_element : {X : Type 0} (size : ℕ) (old mid new : List RoundPage) (x : RoundPage) (f : X → Page) (xs : List X) (i : ℕ) (d : X)
    → Adds size old mid (map f (take i xs)) → i < length xs → new ≡ mid ++ x ∷ [] → round_page size x ≡ f (get_or xs i d) → HasPageSize size x
    → Adds size old new (map f (take (i + 1) xs))
adds_element {X} size old mid new x f xs i d so_far lt is same len =
    rw (take_more xs i d lt, map-append f (take i xs) (get_or xs i d ∷ []))
    (adds_after size old mid new (map f (take i xs)) (f (get_or xs i d) ∷ []) so_far (adds_one size mid new x (f (get_or xs i d)) is same len))

-- and what one element of a list gives more
pub adds_part : {X : Type 0} (size : ℕ) (old mid new : List RoundPage) (before : List Page) (f : X → List Page) (xs : List X) (i : ℕ) (d : X)
    → Adds size old mid (before ++ flat_map f (take i xs)) → i < length xs → Adds size mid new (f (get_or xs i d))
    → Adds size old new (before ++ flat_map f (take (i + 1) xs))
adds_part {X} size old mid new before f xs i d so_far lt more =
    let last : X = get_or xs i d in
    subst (λ (l : List Page). Adds size old new l)
    (flat_map_more f before (take i xs) last ∙ ap (λ (l : List X). before ++ flat_map f l) (sym (take_more xs i d lt)))
    (adds_after size old mid new (before ++ flat_map f (take i xs)) (f last) so_far more)

-- what a target is once its memory has the pages of a lawful round
pub listed : (t : LoadTarget) (m : Image) (mid n : PlaceSet) (round : RoundOfRecords) (packets gathered : List Packet) → packets ≡ gathered
    → m ≡ with_round t.memory (all_round_pages t.memory.table (pages_of_round round) (map fields packets))
    → t.named.table ≡ t.memory.table → mid ≡ with_places t.named (places_of (pages_of_round round)) → mid.table ≡ t.named.table
    → n ≡ with_places mid (places_of (all_round_pages mid.table [] (map fields packets)))
    → record { memory = m; named = n; rounds = t.rounds + 1; base = t.base + length packets } ≡ after_round t round (map fields gathered)
listed t m mid n round packets gathered same put table records still name =
    let all : m ≡ with_round t.memory (all_round_pages t.memory.table (pages_of_round round) (map fields gathered)) =
    put ∙ ap (λ (ps : List Packet). with_round t.memory (all_round_pages t.memory.table (pages_of_round round) (map fields ps))) same in
    let here : n ≡ with_places t.named (places_of (all_round_pages t.memory.table (pages_of_round round) (map fields gathered))) =
    round_named t.named mid n t.memory.table (pages_of_round round) (map fields gathered) records
    (name
    ∙ ap (λ (x : RamTable). with_places mid (places_of (all_round_pages x [] (map fields packets)))) (still ∙ table)
    ∙ ap (λ (ps : List Packet). with_places mid (places_of (all_round_pages t.memory.table [] (map fields ps)))) same) in
    let count : length packets ≡ length (map fields gathered) = ap (λ (ps : List Packet). length ps) same ∙ sym (length-map gathered fields) in
    rw (all, here, count) refl
