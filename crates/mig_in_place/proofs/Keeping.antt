-- What is kept of a round, as more of it comes.
use Rattle.std.proofs.Common.{ℕ, ◌≡◌, List, [], ◌∷◌, ◌++◌, length, Bool, true, false, ◌||◌, refl, sym, ap, subst, ◌∙◌}
use Rattle.std.specs.Prelude.{Option, None, Some}
use Rattle.std.specs.Option.{is_some}
use Rattle.std.proofs.lemmas.List.{append-nil}
use Rattle.std.proofs.lemmas.List.Folds.{list_any-append}
use Rattle.mig_mem.specs.RamTable.{RamTable}
use Rattle.mig_mem.specs.Image.{Page}
use Rattle.mig_packet.specs.Packet.{Fields}
use Rattle.mig_assemble.specs.Judging.{place_fault, numbers}
use Rattle.mig_assemble.proofs.Bags.{bag_length, bag_permutation}
use Rattle.mig_assemble.specs.Arrivals.{Arrival, Records, OnePacket, packets_in, RoundSoFar, HasCome, AlsoHas}
use Rattle.mig_assemble.specs.declared.fault.RoundFault.{RoundFault}
use Rattle.mig_assemble.proofs.PacketPlaces.{fault_none}
use Rattle.mig_assemble.specs.declared.places.Pages.{Pages}
use Rattle.mig_assemble.specs.declared.places.Pages.TheVariants as pages
use Rattle.mig_packet.specs.PacketHead.{as_zeros}
use Rattle.mig_assemble.specs.HeadPlaces.{Lie}
use Rattle.mig_assemble.proofs.Arriving.{packets_push}
use Rattle.mig_answer.proofs.Hellos.{or_false, or_true}
use Rattle.mig_in_place.specs.Round.{KeptRound, AlsoKeeps, KeepsSame, KeepsSome, any_misplaced, with_pages}

abbrev is_wrong : RamTable → Fields → Bool
is_wrong table packet = is_some (place_fault table packet)

-- with records added to the arrivals, and the same known to be misplaced, a round keeps them, too
pub records_kept : (pages : List Page) (old new : KeptRound) → AlsoHas (Records pages) old.arrivals new.arrivals
    → new.has_misplaced ≡ old.has_misplaced → AlsoKeeps (Records pages) old new
records_kept pages old new also same = λ table came keeps. record {
  has_come = also table came keeps.has_come;
  has_misplaced = same ∙ keeps.has_misplaced
      ∙ ap (any_misplaced table) (sym (packets_push came (Records pages) ∙ append-nil (packets_in came)));
}

-- a round keeps one more packet if it notes misplaced pages where it had, or the packet has some
pub packet_kept : (packet : Fields) (old new : KeptRound) → AlsoHas (OnePacket packet) old.arrivals new.arrivals
    → ((table : RamTable) (came : List Arrival) → HasCome table came old.arrivals
    → new.has_misplaced ≡ (old.has_misplaced || is_some (place_fault table packet)))
    → AlsoKeeps (OnePacket packet) old new
packet_kept packet old new also known = λ table came keeps. record {
  has_come = also table came keeps.has_come;
  has_misplaced =
      known table came keeps.has_come
      ∙ ap (λ (b : Bool). b || is_wrong table packet) keeps.has_misplaced
      ∙ ap (λ (b : Bool). any_misplaced table (packets_in came) || b) (sym (or_false (is_wrong table packet)))
      ∙ sym (list_any-append (is_wrong table) (packets_in came) (packet ∷ []))
      ∙ ap (any_misplaced table) (sym (packets_push came (OnePacket packet)));
}

-- the table of the marks is that of the round
pub same_table : (table : RamTable) (came : List Arrival) (arrivals : RoundSoFar) → HasCome table came arrivals → arrivals.seen.table ≡ table
same_table table came arrivals has = ap (λ s. s.table) has.has_seen.marks

right_of : (table : RamTable) (q : Fields) → place_fault table q ≡ None → is_some (place_fault table q) ≡ false
right_of table q none = ap (λ (o : Option RoundFault). is_some o) none

noted_wrong : (q : Fields) (old mid : KeptRound) → AlsoHas (OnePacket q) old.arrivals mid.arrivals → is_some (place_fault old.arrivals.seen.table q) ≡ true
    → AlsoKeeps (OnePacket q) old (record mid { has_misplaced = true })
noted_wrong q old mid also wrong = packet_kept q old (record mid { has_misplaced = true }) also (λ table came has.
    let here : is_some (place_fault table q) ≡ true =
    subst (λ (t : RamTable). is_some (place_fault t q) ≡ true) (same_table table came old.arrivals has) wrong in
    sym (or_true old.has_misplaced) ∙ ap (λ (b : Bool). old.has_misplaced || b) (sym here))

noted_right : (q : Fields) (old mid : KeptRound) → AlsoHas (OnePacket q) old.arrivals mid.arrivals → mid.has_misplaced ≡ old.has_misplaced
    → is_some (place_fault old.arrivals.seen.table q) ≡ false → AlsoKeeps (OnePacket q) old mid
noted_right q old mid also same right = packet_kept q old mid also (λ table came has.
    let here : is_some (place_fault table q) ≡ false =
    subst (λ (t : RamTable). is_some (place_fault t q) ≡ false) (same_table table came old.arrivals has) right in
    same ∙ sym (or_false old.has_misplaced) ∙ ap (λ (b : Bool). old.has_misplaced || b) (sym here))

-- a packet has come, and where its pages lie was noted
pub packet_noted : (head : List ℕ) (old mid : KeptRound) (o : Pages)
    → AlsoHas (OnePacket (as_zeros head)) old.arrivals mid.arrivals → mid.has_misplaced ≡ old.has_misplaced
    → Lie old.arrivals.seen.table head o → AlsoKeeps (OnePacket (as_zeros head)) old (with_pages o mid)
packet_noted head old mid pages.Nowhere also same lie =
    noted_right (as_zeros head) old mid also same (right_of old.arrivals.seen.table (as_zeros head) (fault_none old.arrivals.seen.table (as_zeros head) lie))
packet_noted head old mid (pages.In b) also same lie =
    noted_right (as_zeros head) old mid also same (right_of old.arrivals.seen.table (as_zeros head) lie.1.are_right)
packet_noted head old mid (pages.Misplaced fault) also same lie = noted_wrong (as_zeros head) old mid also (ap (λ (o : Option RoundFault). is_some o) lie)

-- where no page of it is misplaced, nothing is noted
pub still_right : (table : RamTable) (head : List ℕ) (r : KeptRound) (o : Pages) → Lie table head o
    → place_fault table (as_zeros head) ≡ None → (with_pages o r).has_misplaced ≡ r.has_misplaced
still_right table head r pages.Nowhere lie none = refl
still_right table head r (pages.In b) lie none = refl
still_right table head r (pages.Misplaced fault) lie none = absurd (let clash : None ≡ Some fault = sym none ∙ lie in cc)

-- what represented some arrivals represents some still
pub also_some : (table : RamTable) (q : Fields) (old new : KeptRound) → AlsoKeeps (OnePacket q) old new → KeepsSome table old → KeepsSome table new
also_some table q old new also some = (some.0 ++ OnePacket q ∷ [], also table some.0 some.1)

-- as many numbers are kept
pub same_count : (table : RamTable) (old new : KeptRound) → KeepsSame old new → KeepsSome table old → length new.arrivals.numbers ≡ length old.arrivals.numbers
same_count table old new same some =
    let before = bag_length (numbers (packets_in some.0)) old.arrivals.numbers
    (bag_permutation (numbers (packets_in some.0)) old.arrivals.numbers some.1.has_come.has_numbers) in
    let after = (same table some.0 some.1).has_come.has_numbers in
    sym (bag_length (numbers (packets_in some.0)) new.arrivals.numbers (bag_permutation (numbers (packets_in some.0)) new.arrivals.numbers after)) ∙ before
