use Rattle.std.proofs.Common.{◌≡◌, ◌∙◌, ℕ, Bor, List, length, sym, ap, subst, rules}
use Rattle.std.proofs.lemmas.List.{length-map}
use Rattle.std.specs.Prelude.{IsTrue}
use Rattle.mig_mem.specs.RamTable.{RamTable}
use Rattle.mig_mem.specs.PlaceSet.{PlaceSet}
use Rattle.mig_mem.specs.Place.{has_place}
use Rattle.mig_mem.specs.Image.{Image}
use Rattle.mig_mem.specs.Round.{with_round}
use Rattle.mig_mem.specs.Lent.{lent_bytes}
use Rattle.mig_assemble.specs.HeadPlaces.{LieIn}
use Rattle.mig_packet.specs.Packet.{normal_count}
use Rattle.mig_in_place.specs.Answer.{HoldsElsewhere}
use Rattle.mig_in_place.specs.Session.{StandsFor}
use Rattle.mig_in_place.specs.TakenPackets.{pages_taken}
use Rattle.mig_in_place.proofs.Lying.{block_is}
use Rattle.mig_apart.specs.Claims.{ApartLoad, ClaimsLess, packet_places}
use Rattle.mig_apart.proofs.Free.{packet_agrees, whole_after}
use Rattle.mig_apart.proofs.session.ApartSession.take.Goals as goal

pub returns-clause-took : goal.returns-clause-took
returns-clause-took g c = λ _ given uuid first texts memory free.
    let i = c.self.inside in
    let b : ℕ = c.in-Some.block in
    let head : List ℕ = c.args.head.now in
    let contents : List (List ℕ) = lent_bytes c.args.contents.now in
    let new : PlaceSet = c.free_all.new.claimed in
    let did : IsTrue c.in_ok-take_packet.field-0 = search rules in
    let judged : Image = free.judged in
    let table : judged.table ≡ i.load.table = free.same_table ∙ ap (λ (x : ApartLoad). x.load.table) (sym c.self.view_is) in
    let lie : LieIn judged.table b head = subst (λ (t : RamTable). LieIn t b head) (sym table) c.in-Some.ensures.lies in
    let less : ClaimsLess judged.table (packet_places judged.table b head) i.claimed new =
    subst (λ (t : RamTable). ClaimsLess t (packet_places t b head) i.claimed new) (c.self.invariant ∙ sym table)
    (subst (λ (h : List ℕ). ClaimsLess i.claimed.table (packet_places i.claimed.table b h) i.claimed new) c.in-Some.ensures.head.0 c.free_all.ensures.less) in
    let agrees : HoldsElsewhere judged (λ p. IsTrue (has_place i.claimed.marked p)) memory =
    subst (λ (x : ApartLoad). HoldsElsewhere judged (λ p. IsTrue (has_place x.claimed.marked p)) memory) (sym c.self.view_is) free.agrees in
    let many : length contents ≡ normal_count head = length-map c.args.contents.now (λ (x : Bor (List ℕ)). x.now) ∙ c.in_ok-take_packet.ensures.count did in
    let stands = c.in_ok-take_packet.ensures.took did given uuid first texts judged table
    (subst (λ (x : ApartLoad). StandsFor given uuid first texts judged x.load) (sym c.self.view_is) free.stands) in
    record {
      judged = with_round judged (pages_taken judged.table head contents);
      same_table = table ∙ sym c.take_packet.ensures.table.0;
      has_contents = whole_after judged (pages_taken judged.table head contents);
      stands = stands;
      agrees = packet_agrees judged memory i.claimed new b head contents (block_is judged.table b head lie) many less agrees;
    }
