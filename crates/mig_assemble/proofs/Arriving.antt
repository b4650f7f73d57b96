-- A round that is judged as it comes.
use Rattle.std.proofs.Common.{ℕ, ◌≡◌, List, [], ◌∷◌, ◌++◌, map, refl, sym, ap, subst, ◌∙◌, append_assoc, Option, Some, None, true, false, cond, suc, arith, inl}
use Rattle.std.proofs.Common.{inr}
use Rattle.std.specs.Prelude.{flat_map, nat_lt, IsPermutation}
use Rattle.std.specs.List.{All}
use Rattle.std.specs.Option.{option_map, option_map_or, option_or, option_and_then, is_some}
use Rattle.std.proofs.lemmas.Bool.{cases_Bool, cond-false, or_parts, ltb-true, ltb-false}
use Rattle.std.proofs.lemmas.Option.{same_Some}
use Rattle.std.proofs.lemmas.List.{map-append, append-nil}
use Rattle.std.proofs.lemmas.List.Concat.{flat_map-append}
use Rattle.std.proofs.lemmas.List.Sorted.{IsPermutation-refl, IsPermutation-append_right, IsPermutation-append_left, IsPermutation-append_comm}
use Rattle.std.proofs.lemmas.List.Sorted.{IsPermutation-trans}
use Rattle.mig_mem.specs.First.{first_some}
use Rattle.mig_mem.specs.RamTable.{RamTable}
use Rattle.mig_mem.specs.declared.place.Place.{Place}
use Rattle.mig_mem.specs.PlaceSet.{PlaceSet}
use Rattle.mig_mem.specs.Place.{place_eq, has_place}
use Rattle.mig_mem.specs.Image.{Page, content_at}
use Rattle.mig_mem.specs.Round.{last_at}
use Rattle.mig_mem.proofs.Images.{image_agree, content_at-image_of}
use Rattle.mig_mem.proofs.Rounds.{last_at-nil, last_at-cons}
use Rattle.mig_mem.proofs.Lists.{map_none}
use Rattle.mig_packet.specs.Packet.{Fields}
use Rattle.mig_assemble.specs.declared.arrivals.WrongPacket.{WrongPacket}
use Rattle.mig_assemble.specs.declared.fault.RoundFault.{RoundFault}
use Rattle.mig_assemble.specs.declared.fault.RoundFault.TheVariants.{DoublePage}
use Rattle.mig_assemble.specs.Judging.{numbers, place_fault, least_misplaced, least_place_fault, packet_pages, all_round_pages, places_of}
use Rattle.mig_assemble.specs.Sorted.{number_refusal}
use Rattle.mig_assemble.specs.Seen.{HasSeen, SeesMore}
use Rattle.mig_assemble.specs.Arrivals.{Arrival, Records, OnePacket, records_in, packets_in, refusal_of, arrival_pages, pages_that_came, RoundSoFar}
use Rattle.mig_assemble.specs.Arrivals.{KnowsMisplaced, lesser_misplaced, HasCome, HasSame, ArrivalsMakeTheRound, OtherPlacesStay}
use Rattle.mig_assemble.proofs.Bags.{bag_permutation}
use Rattle.mig_assemble.proofs.Marked.{seen_nothing}
use Rattle.mig_assemble.proofs.Misplaced.{kept, first_bad, lesser_bad, kept_bad, all_lawful}
use Rattle.mig_assemble.proofs.OrderFree.{number_refusal_bag, same_double, last_at-same, lawful_once}
use Rattle.mig_assemble.proofs.Parts.{double, by_numbers, by_places, by_double, by_none, lawful_parts}

-- ---- one arrival more

-- the packets of one arrival more follow those that came before
pub packets_push : (came : List Arrival) (a : Arrival) → packets_in (came ++ a ∷ []) ≡ packets_in came ++ packets_in (a ∷ [])
packets_push [] a = refl
packets_push (Records pages ∷ came) a = packets_push came a
packets_push (OnePacket packet ∷ came) a = ap (λ (l : List Fields). packet ∷ l) (packets_push came a)

-- ---- the pages don't depend on the order of arrival, if none is misplaced

swapped : (xs ys zs : List Page) → IsPermutation (xs ++ (ys ++ zs)) (ys ++ (xs ++ zs))
swapped xs ys zs =
    subst (λ (l : List Page). IsPermutation (xs ++ (ys ++ zs)) l) (append_assoc ys xs zs)
    (subst (λ (l : List Page). IsPermutation l ((ys ++ xs) ++ zs)) (append_assoc xs ys zs)
    (IsPermutation-append_left zs (xs ++ ys) (ys ++ xs) (IsPermutation-append_comm xs ys)))

-- pages in the order in which they came are those of the round, in some order
pub came_in_order : (table : RamTable) (came : List Arrival) → All (λ q. place_fault table q ≡ None) (packets_in came)
    → IsPermutation (pages_that_came table came) (all_round_pages table (records_in came) (packets_in came))
came_in_order table [] all = IsPermutation-refl []
came_in_order table (Records pages ∷ came) all =
    subst (λ (l : List Page). IsPermutation (pages ++ pages_that_came table came) l)
    (sym (append_assoc pages (records_in came) (flat_map (packet_pages table) (packets_in came))))
    (IsPermutation-append_right pages (pages_that_came table came) (all_round_pages table (records_in came) (packets_in came)) (came_in_order table came all))
came_in_order table (OnePacket packet ∷ came) all =
    let head : place_fault table packet ≡ None = all 0 packet (omega arith) in
    let tail : All (λ q. place_fault table q ≡ None) (packets_in came) = λ i d lt. all (suc i) d (omega (arith, lt)) in
    let pages : arrival_pages table (OnePacket packet) ≡ packet_pages table packet = rw head refl in
    rw pages (IsPermutation-trans (packet_pages table packet ++ pages_that_came table came)
    (packet_pages table packet ++ all_round_pages table (records_in came) (packets_in came))
    (records_in came ++ (packet_pages table packet ++ flat_map (packet_pages table) (packets_in came)))
    (IsPermutation-append_right (packet_pages table packet) (pages_that_came table came)
    (all_round_pages table (records_in came) (packets_in came)) (came_in_order table came tail))
    (swapped (packet_pages table packet) (records_in came) (flat_map (packet_pages table) (packets_in came))))

-- ---- what is known of packets whose pages are misplaced

-- a packet without a fault of places leaves the lowest misplaced packet as it is
pub knows_kept : (table : RamTable) (ps : List Fields) (q : Fields) (m : Option WrongPacket) → place_fault table q ≡ None
    → KnowsMisplaced table ps m → KnowsMisplaced table (ps ++ q ∷ []) m
knows_kept table ps q m none knows =
    let same = sym (kept table ps q none) in record {
      has_number = knows.has_number ∙ ap (λ (o : Option Fields). option_map (λ p. p.number) o) same;
      has_fault = knows.has_fault ∙ ap (λ (o : Option Fields). option_and_then (place_fault table) o) same;
    }

bad_is : (table : RamTable) (q : Fields) (f : RoundFault) → place_fault table q ≡ Some f → is_some (place_fault table q) ≡ true
bad_is table q f is = ap (λ (o : Option RoundFault). is_some o) is

knows_new : (table : RamTable) (ps : List Fields) (q : Fields) (f : RoundFault) → place_fault table q ≡ Some f → Some q ≡ least_misplaced table ps
    → KnowsMisplaced table ps (Some (record { number = q.number; fault = f }))
knows_new table ps q f is least = record {
  has_number = ap (λ (o : Option Fields). option_map (λ p. p.number) o) least;
  has_fault = sym is ∙ ap (λ (o : Option Fields). option_and_then (place_fault table) o) least;
}

-- a packet with a fault of places is the lowest misplaced one if its number is lower
pub knows_more : (table : RamTable) (ps : List Fields) (q : Fields) (f : RoundFault) (m : Option WrongPacket)
    → place_fault table q ≡ Some f → KnowsMisplaced table ps m
    → KnowsMisplaced table (ps ++ q ∷ []) (lesser_misplaced m (record { number = q.number; fault = f }))
knows_more table ps q f None is knows =
    knows_new table (ps ++ q ∷ []) q f is (first_bad table ps q (bad_is table q f is)
    (sym (map_none (λ (p : Fields). p.number) (least_misplaced table ps) (sym knows.has_number))))
knows_more table ps q f (Some x) is knows = go (least_misplaced table ps) refl
  where
    go : (o : Option Fields) → least_misplaced table ps ≡ o
        → KnowsMisplaced table (ps ++ q ∷ []) (lesser_misplaced (Some x) (record { number = q.number; fault = f }))
    go None none = absurd (let clash : Some x.number ≡ None = knows.has_number ∙ ap (λ (o : Option Fields). option_map (λ p. p.number) o) none in cc)
    go (Some p) found =
        let number : x.number ≡ p.number = same_Some x.number p.number (knows.has_number ∙ ap (λ (o : Option Fields). option_map (λ r. r.number) o) found) in
        elim (cases_Bool (nat_lt q.number x.number)) [
          | inl lt ↦
              rw lt (knows_new table (ps ++ q ∷ []) q f is
              (lesser_bad table ps p q (bad_is table q f is) (sym found) (omega (arith, number, ltb-true q.number x.number lt))))
          | inr le ↦
              let same : Some p ≡ least_misplaced table (ps ++ q ∷ []) =
              kept_bad table ps p q (bad_is table q f is) (sym found) (omega (arith, number, ltb-false q.number x.number le)) in
              rw le (record {
                has_number = ap (λ (n : ℕ). Some n) number ∙ ap (λ (o : Option Fields). option_map (λ r. r.number) o) same;
                has_fault = knows.has_fault ∙ ap (λ (o : Option Fields). option_and_then (place_fault table) o) (found ∙ same);
              })
        ]

-- ---- the calls

-- before the first arrival nothing has come
pub none_come : (table : RamTable) (r : RoundSoFar) → r.numbers ≡ [] → r.misplaced ≡ None → r.double ≡ None
    → r.seen ≡ record { table = table; marked = [] } → HasCome table [] r
none_come table r numbers misplaced double seen = record {
  has_numbers = subst (λ (ns : List ℕ). IsPermutation [] ns) (sym numbers) (IsPermutation-refl []);
  has_misplaced = record {
    has_number = ap (λ (o : Option WrongPacket). option_map (λ m. m.number) o) misplaced;
    has_fault = ap (λ (o : Option WrongPacket). option_map (λ m. m.fault) o) misplaced;
  };
  has_seen =
      let set : PlaceSet = record { table = table; marked = [] } in
      subst (λ (s : PlaceSet). HasSeen table [] s r.double) (sym seen)
      (subst (λ (o : Option Place). HasSeen table [] set o) (sym double) (seen_nothing set refl));
}

came_push : (table : RamTable) (came : List Arrival) (a : Arrival)
    → places_of (pages_that_came table came) ++ places_of (arrival_pages table a) ≡ places_of (pages_that_came table (came ++ a ∷ []))
came_push table came a =
    sym (map-append (λ (x : Page). x.place) (pages_that_came table came) (arrival_pages table a))
    ∙ ap (λ (l : List Page). places_of (pages_that_came table came ++ l)) (sym (append-nil (arrival_pages table a)))
    ∙ ap places_of (sym (flat_map-append (arrival_pages table) came (a ∷ [])))

seen_more : (table : RamTable) (came : List Arrival) (a : Arrival) (old new : PlaceSet) (before after : Option Place)
    → HasSeen table (places_of (pages_that_came table came)) old before
    → SeesMore (places_of (arrival_pages table a)) old before new after → HasSeen table (places_of (pages_that_came table (came ++ a ∷ []))) new after
seen_more table came a old new before after has sees =
    let same : old.table ≡ table = ap (λ (s : PlaceSet). s.table) has.marks in
    let now : HasSeen table (places_of (pages_that_came table came) ++ places_of (arrival_pages table a)) new after =
    subst (λ (t : RamTable). HasSeen t (places_of (pages_that_came table came) ++ places_of (arrival_pages table a)) new after) same
    (sees (places_of (pages_that_came table came)) (subst (λ (t : RamTable). HasSeen t (places_of (pages_that_came table came)) old before) (sym same) has)) in
    subst (λ (l : List Place). HasSeen table l new after) (came_push table came a) now

-- page records that come are added to what has come
pub records_come : (table : RamTable) (came : List Arrival) (pages : List Page) (old new : RoundSoFar) → new.numbers ≡ old.numbers
    → new.misplaced ≡ old.misplaced
    → SeesMore (places_of pages) old.seen old.double new.seen new.double → HasCome table came old → HasCome table (came ++ Records pages ∷ []) new
records_come table came pages old new numbers misplaced sees has =
    let same : packets_in came ≡ packets_in (came ++ Records pages ∷ []) = sym (packets_push came (Records pages) ∙ append-nil (packets_in came)) in
    record {
      has_numbers = subst (λ (ns : List ℕ). IsPermutation (map (λ p. p.number) (packets_in (came ++ Records pages ∷ []))) ns) (sym numbers)
          (subst (λ (l : List Fields). IsPermutation (map (λ p. p.number) l) old.numbers) same has.has_numbers);
      has_misplaced = subst (λ (m : Option WrongPacket). KnowsMisplaced table (packets_in (came ++ Records pages ∷ [])) m) (sym misplaced)
          (subst (λ (l : List Fields). KnowsMisplaced table l old.misplaced) same has.has_misplaced);
      has_seen = seen_more table came (Records pages) old.seen new.seen old.double new.double has.has_seen sees;
    }

numbers_push : (came : List Arrival) (q : Fields) → numbers (packets_in came) ++ q.number ∷ [] ≡ numbers (packets_in (came ++ OnePacket q ∷ []))
numbers_push came q = sym (map-append (λ (p : Fields). p.number) (packets_in came) (q ∷ []))
    ∙ ap (λ (l : List Fields). map (λ p. p.number) l) (sym (packets_push came (OnePacket q)))

numbers_come : (came : List Arrival) (q : Fields) (old new : List ℕ) → new ≡ old ++ q.number ∷ [] → IsPermutation (numbers (packets_in came)) old
    → IsPermutation (numbers (packets_in (came ++ OnePacket q ∷ []))) new
numbers_come came q old new more has =
    subst (λ (ns : List ℕ). IsPermutation (numbers (packets_in (came ++ OnePacket q ∷ []))) ns) (sym more)
    (subst (λ (ns : List ℕ). IsPermutation ns (old ++ q.number ∷ [])) (numbers_push came q)
    (IsPermutation-append_left (q.number ∷ []) (numbers (packets_in came)) old has))

-- a packet whose pages lie in the table
pub packet_comes : (table : RamTable) (came : List Arrival) (q : Fields) (old new : RoundSoFar) → place_fault table q ≡ None
    → new.numbers ≡ old.numbers ++ q.number ∷ [] → new.misplaced ≡ old.misplaced
    → SeesMore (places_of (packet_pages table q)) old.seen old.double new.seen new.double → HasCome table came old
    → HasCome table (came ++ OnePacket q ∷ []) new
packet_comes table came q old new none numbers misplaced sees has =
    let pages : packet_pages table q ≡ arrival_pages table (OnePacket q) = sym (rw none refl) in
    record {
      has_numbers = numbers_come came q old.numbers new.numbers numbers has.has_numbers;
      has_misplaced = subst (λ (m : Option WrongPacket). KnowsMisplaced table (packets_in (came ++ OnePacket q ∷ [])) m) (sym misplaced)
          (subst (λ (l : List Fields). KnowsMisplaced table l old.misplaced) (sym (packets_push came (OnePacket q)))
          (knows_kept table (packets_in came) q old.misplaced none has.has_misplaced));
      has_seen = seen_more table came (OnePacket q) old.seen new.seen old.double new.double has.has_seen
          (subst (λ (l : List Page). SeesMore (places_of l) old.seen old.double new.seen new.double) pages sees);
    }

-- and one whose pages don't
pub wrong_comes : (table : RamTable) (came : List Arrival) (q : Fields) (f : RoundFault) (old new : RoundSoFar)
    → place_fault table q ≡ Some f → new.numbers ≡ old.numbers ++ q.number ∷ []
    → new.misplaced ≡ lesser_misplaced old.misplaced (record { number = q.number; fault = f }) → new.seen ≡ old.seen
    → new.double ≡ old.double → HasCome table came old
    → HasCome table (came ++ OnePacket q ∷ []) new
wrong_comes table came q f old new is numbers misplaced seen double has =
    let none : arrival_pages table (OnePacket q) ≡ [] = rw is refl in
    let same : places_of (pages_that_came table came) ≡ places_of (pages_that_came table (came ++ OnePacket q ∷ [])) =
    sym (append-nil (places_of (pages_that_came table came)))
    ∙ ap (λ (l : List Page). places_of (pages_that_came table came) ++ places_of l) (sym none) ∙ came_push table came (OnePacket q) in
    record {
      has_numbers = numbers_come came q old.numbers new.numbers numbers has.has_numbers;
      has_misplaced = subst (λ (m : Option WrongPacket). KnowsMisplaced table (packets_in (came ++ OnePacket q ∷ [])) m) (sym misplaced)
          (subst (λ (l : List Fields). KnowsMisplaced table l
          (lesser_misplaced old.misplaced (record { number = q.number; fault = f }))) (sym (packets_push came (OnePacket q)))
          (knows_more table (packets_in came) q f old.misplaced is has.has_misplaced));
      has_seen = subst (λ (s : PlaceSet). HasSeen table (places_of (pages_that_came table (came ++ OnePacket q ∷ []))) s new.double) (sym seen)
          (subst (λ (o : Option Place). HasSeen table (places_of (pages_that_came table (came ++ OnePacket q ∷ []))) old.seen o) (sym double)
          (subst (λ (l : List Place). HasSeen table l old.seen old.double) same has.has_seen));
    }

-- ---- judging

module _ (table : RamTable) (base : ℕ) (came : List Arrival) (r : RoundSoFar) (has : HasCome table came r) where
  abbrev records : List Page
  records = records_in came

  abbrev packets : List Fields
  packets = packets_in came

  same_refusal : number_refusal base (numbers packets) ≡ number_refusal base r.numbers
  same_refusal = number_refusal_bag base (numbers packets) r.numbers (bag_permutation (numbers packets) r.numbers has.has_numbers)

  number_none : number_refusal base r.numbers ≡ None → number_refusal base (numbers packets) ≡ None
  number_none none = same_refusal ∙ none

  judged_numbers : (f : RoundFault) → number_refusal base r.numbers ≡ Some f → refusal_of table base came ≡ Some f
  judged_numbers f is = by_numbers table base records packets f (same_refusal ∙ is)

  judged_places : (m : WrongPacket) → number_refusal base r.numbers ≡ None → r.misplaced ≡ Some m → refusal_of table base came ≡ Some m.fault
  judged_places m none is =
      by_places table base records packets m.fault (number_none none)
      (sym has.has_misplaced.has_fault ∙ ap (λ (o : Option WrongPacket). option_map (λ x. x.fault) o) is)

  no_fault : r.misplaced ≡ None → least_place_fault table packets ≡ None
  no_fault none = sym has.has_misplaced.has_fault ∙ ap (λ (o : Option WrongPacket). option_map (λ x. x.fault) o) none

  same_least : r.misplaced ≡ None → double table records packets ≡ r.double
  same_least none =
      sym (has.has_seen.least ∙ same_double (pages_that_came table came) (all_round_pages table records packets)
      (bag_permutation (pages_that_came table came) (all_round_pages table records packets)
      (came_in_order table came (all_lawful table packets (no_fault none)))))

  judged_double : (p : Place) → number_refusal base r.numbers ≡ None → r.misplaced ≡ None → r.double ≡ Some p → refusal_of table base came ≡ Some (DoublePage p)
  judged_double p none placed is = by_double table base records packets p (number_none none) (no_fault placed) (same_least placed ∙ is)

  judged_none : number_refusal base r.numbers ≡ None → r.misplaced ≡ None → r.double ≡ None → refusal_of table base came ≡ None
  judged_none none placed once = by_none table base records packets (number_none none) (no_fault placed) (same_least placed ∙ once)

  -- all that is kept says why the round is refused
  pub judged : refusal_of table base came ≡ first_some
      (number_refusal base r.numbers ∷ option_map (λ m. m.fault) r.misplaced ∷ option_map DoublePage r.double ∷ [])
  judged = go (number_refusal base r.numbers) refl r.misplaced refl r.double refl
    where
      go : (n : Option RoundFault) → number_refusal base r.numbers ≡ n → (m : Option WrongPacket) → r.misplaced ≡ m → (d : Option Place) → r.double ≡ d
          → refusal_of table base came ≡ first_some (n ∷ option_map (λ x. x.fault) m ∷ option_map DoublePage d ∷ [])
      go (Some f) numbers m misplaced d double = judged_numbers f numbers
      go None numbers (Some m) misplaced d double = judged_places m numbers misplaced
      go None numbers None misplaced (Some p) double = judged_double p numbers misplaced double
      go None numbers None misplaced None double = judged_none numbers misplaced double

-- sorting the numbers forgets nothing
pub sorted_same : (old new : RoundSoFar) → IsPermutation old.numbers new.numbers → new.misplaced ≡ old.misplaced
    → new.double ≡ old.double → new.seen ≡ old.seen → HasSame old new
sorted_same old new perm misplaced double seen = λ table came has. record {
  has_numbers = IsPermutation-trans (numbers (packets_in came)) old.numbers new.numbers has.has_numbers perm;
  has_misplaced = subst (λ (m : Option WrongPacket). KnowsMisplaced table (packets_in came) m) (sym misplaced) has.has_misplaced;
  has_seen =
      subst (λ (s : PlaceSet). HasSeen table (places_of (pages_that_came table came)) s new.double) (sym seen)
      (subst (λ (o : Option Place). HasSeen table (places_of (pages_that_came table came)) old.seen o) (sym double) has.has_seen);
}

-- ---- the memory

-- if a round is lawful, its pages as they came make the memory that the round makes
pub arrivals_make : ArrivalsMakeTheRound
arrivals_make table base came m lawful =
    let records : List Page = records_in came in
    let packets : List Fields = packets_in came in
    let xs : List Page = pages_that_came table came in
    let ys : List Page = all_round_pages table records packets in
    let parts = lawful_parts table base records packets lawful in
    let bag = bag_permutation xs ys (came_in_order table came (all_lawful table packets parts.1)) in
    image_agree m.table (λ p. option_map_or (λ (x : Page). x.content) (last_at p xs) (content_at m p))
    (λ p. option_map_or (λ (x : Page). x.content) (last_at p ys) (content_at m p))
    (λ p _. ap (λ (o : Option Page). option_map_or (λ (x : Page). x.content) o (content_at m p))
    (last_at-same p xs ys bag (lawful_once table base records packets lawful)))

-- no page is of a place
pub last_none : (p : Place) (pages : List Page) → has_place (places_of pages) p ≡ false → last_at p pages ≡ None
last_none p [] none = last_at-nil p
last_none p (x ∷ pages) none =
    let head : place_eq x.place p ≡ false = (or_parts (place_eq x.place p) (has_place (places_of pages) p) none).0 in
    let tail : has_place (places_of pages) p ≡ false = (or_parts (place_eq x.place p) (has_place (places_of pages) p) none).1 in
    last_at-cons p x pages
    ∙ ap (λ (o : Option Page). option_or o (cond (place_eq x.place p) (Some x) None)) (last_none p pages tail)
    ∙ cond-false (place_eq x.place p) (Some x) None head

-- places that nothing names keep their content
pub others_stay : OtherPlacesStay
others_stay table came m p is none =
    let pages : List Page = pages_that_came table came in
    content_at-image_of m.table (λ (q : Place). option_map_or (λ (x : Page). x.content) (last_at q pages) (content_at m q)) p is
    ∙ ap (λ (o : Option Page). option_map_or (λ (x : Page). x.content) o (content_at m p)) (last_none p pages none)
