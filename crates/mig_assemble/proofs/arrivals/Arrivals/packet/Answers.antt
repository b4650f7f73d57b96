use Rattle.std.proofs.Common.{◌≡◌, ◌++◌, ◌∷◌, [], ℕ, List, Some, refl, sym, ap, subst, ◌∙◌}
use Rattle.mig_mem.specs.declared.place.Place.{Place}
use Rattle.mig_mem.specs.RamTable.{RamTable}
use Rattle.mig_mem.specs.PlaceSet.{PlaceSet}
use Rattle.mig_packet.specs.Packet.{Fields}
use Rattle.mig_packet.specs.PacketHead.{as_zeros}
use Rattle.mig_assemble.specs.declared.places.Pages.{Pages}
use Rattle.mig_assemble.specs.declared.places.Pages.TheVariants.{Nowhere, In}
use Rattle.mig_assemble.specs.Judging.{place_fault, packet_pages, places_of}
use Rattle.mig_assemble.specs.Seen.{SeesMore}
use Rattle.mig_assemble.specs.HeadPlaces.{Lie}
use Rattle.mig_assemble.specs.Arrivals.{RoundSoFar, HasCome, lesser_misplaced}
use Rattle.mig_assemble.proofs.HeadPlaces.{lie_fault, lie_inside, nowhere_sees, in_sees}
use Rattle.mig_assemble.proofs.Arriving.{packet_comes, wrong_comes}
use Rattle.mig_assemble.proofs.arrivals.Arrivals.packet.Goals as goal

pub mark_pages-self-inside-requires-clause-lawful : goal.mark_pages-self-inside-requires-clause-lawful
mark_pages-self-inside-requires-clause-lawful g c =
    let i = c.self.inside in
    let head : List ℕ = c.args.head.now.bytes.now in
    let lie : Lie i.seen.table head (In c.in-In.block) =
    subst (λ (o : Pages). Lie i.seen.table head o) c.in-In.is
    (subst (λ (t : RamTable). Lie t head c.pages_of-pages.result) c.table.ensures.value c.pages_of-pages.ensures) in
    lie_inside i.seen.table c.in-In.block head lie.1

pub returns-in-Nowhere-clause-come : goal.returns-in-Nowhere-clause-come
returns-in-Nowhere-clause-come g c = λ table came has.
    let i = c.self.inside in
    let head : List ℕ = c.args.head.now.bytes.now in
    let q : Fields = as_zeros head in
    let old : RoundSoFar = record { numbers = i.numbers.items; misplaced = i.misplaced; double = i.double; seen = i.seen } in
    let new : RoundSoFar = record { numbers = c.push.new.self.items; misplaced = i.misplaced; double = i.double; seen = i.seen } in
    let before : HasCome table came old = subst (λ (r : RoundSoFar). HasCome table came r) (sym c.self.view_is) has in
    let same : c.table.result.now ≡ table = c.table.ensures.value ∙ ap (λ (s : PlaceSet). s.table) before.has_seen.marks in
    let lie : Lie table head Nowhere = subst (λ (o : Pages). Lie table head o) c.in-Nowhere.is
    (subst (λ (t : RamTable). Lie t head c.pages_of-pages.result) same c.pages_of-pages.ensures) in
    packet_comes table came q old new (lie_fault table head Nowhere lie)
    (c.in_ok-push.ensures.items ∙ ap (λ (n : ℕ). i.numbers.items ++ n ∷ []) c.number-number.ensures) refl
    (nowhere_sees table head i.seen i.double lie) before

pub returns-in-In-clause-come : goal.returns-in-In-clause-come
returns-in-In-clause-come g c = λ table came has.
    let i = c.self.inside in
    let head : List ℕ = c.args.head.now.bytes.now in
    let q : Fields = as_zeros head in
    let old : RoundSoFar = record { numbers = i.numbers.items; misplaced = i.misplaced; double = i.double; seen = i.seen } in
    let new : RoundSoFar = record {
      numbers = c.push.new.self.items;
      misplaced = i.misplaced;
      double = c.mark_pages-self-inside.result;
      seen = c.mark_pages-self-inside.new.seen;
    } in
    let before : HasCome table came old = subst (λ (r : RoundSoFar). HasCome table came r) (sym c.self.view_is) has in
    let marks : i.seen.table ≡ table = ap (λ (s : PlaceSet). s.table) before.has_seen.marks in
    let same : c.table.result.now ≡ table = c.table.ensures.value ∙ marks in
    let lie : Lie table head (In c.in-In.block) =
    subst (λ (o : Pages). Lie table head o) c.in-In.is (subst (λ (t : RamTable). Lie t head c.pages_of-pages.result) same c.pages_of-pages.ensures) in
    let here : Lie i.seen.table head (In c.in-In.block) = subst (λ (t : RamTable). Lie t head (In c.in-In.block)) (sym marks) lie in
    let sees : SeesMore (places_of (packet_pages table q)) i.seen i.double c.mark_pages-self-inside.new.seen c.mark_pages-self-inside.result =
    subst (λ (t : RamTable). SeesMore (places_of (packet_pages t q)) i.seen i.double c.mark_pages-self-inside.new.seen c.mark_pages-self-inside.result) marks
    (subst (λ (ps : List Place). SeesMore ps i.seen i.double c.mark_pages-self-inside.new.seen c.mark_pages-self-inside.result)
    (in_sees i.seen.table c.in-In.block head here.1) c.mark_pages-self-inside.ensures.seen) in
    packet_comes table came q old new lie.1.are_right
    (c.in_ok-push.ensures.items ∙ ap (λ (n : ℕ). i.numbers.items ++ n ∷ []) c.number-number.ensures) refl sees before

pub returns-in-Misplaced-clause-come : goal.returns-in-Misplaced-clause-come
returns-in-Misplaced-clause-come g c = λ table came has.
    let i = c.self.inside in
    let head : List ℕ = c.args.head.now.bytes.now in
    let q : Fields = as_zeros head in
    let old : RoundSoFar = record { numbers = i.numbers.items; misplaced = i.misplaced; double = i.double; seen = i.seen } in
    let new : RoundSoFar = record { numbers = c.push.new.self.items; misplaced = c.lesser_misplaced-self-inside.result; double = i.double; seen = i.seen } in
    let before : HasCome table came old = subst (λ (r : RoundSoFar). HasCome table came r) (sym c.self.view_is) has in
    let same : c.table.result.now ≡ table = c.table.ensures.value ∙ ap (λ (s : PlaceSet). s.table) before.has_seen.marks in
    let is : place_fault table q ≡ Some c.in-Misplaced.fault =
    subst (λ (o : Pages). Lie table head o) c.in-Misplaced.is (subst (λ (t : RamTable). Lie t head c.pages_of-pages.result) same c.pages_of-pages.ensures) in
    wrong_comes table came q c.in-Misplaced.fault old new is (c.in_ok-push.ensures.items ∙ ap (λ (n : ℕ). i.numbers.items ++ n ∷ []) c.number-number.ensures)
    (c.lesser_misplaced-self-inside.ensures ∙ ap
    (λ (n : ℕ). lesser_misplaced i.misplaced (record { number = n; fault = c.in-Misplaced.fault })) c.number-number.ensures) refl refl before
