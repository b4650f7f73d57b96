use Rattle.std.proofs.Common.{◌∙◌, ◌++◌, ◌∷◌, [], refl, sym, ap, subst}
use Rattle.std.specs.Prelude.{IsTrue}
use Rattle.mig_packet.specs.PacketHead.{as_zeros}
use Rattle.mig_assemble.specs.declared.places.Pages.{Pages}
use Rattle.mig_assemble.specs.Arrivals.{OnePacket}
use Rattle.mig_in_place.specs.Round.{KeptRound, Keeps, with_pages}
use Rattle.mig_assemble.specs.HeadPlaces.{Lie}
use Rattle.mig_in_place.proofs.Keeping.{packet_noted, still_right}
use Rattle.mig_in_place.proofs.round.RoundInHand.packet.Goals as goal

pub returns-clause-keeps : goal.returns-clause-keeps
returns-clause-keeps g c = λ table came keeps.
    let i = c.self.inside in
    let old : KeptRound = record { arrivals = i.arrivals; has_misplaced = i.has_misplaced } in
    let mid : KeptRound = record { arrivals = c.packet.new.self; has_misplaced = i.has_misplaced } in
    subst (λ (r : KeptRound). Keeps table (came ++ OnePacket (as_zeros c.args.head.now.bytes.now) ∷ []) r) (sym c.note.ensures)
    (packet_noted c.args.head.now.bytes.now old mid c.in_ok-pages.pages c.in_ok-pages.ensures.come refl c.in_ok-pages.ensures.lie table came
    (subst (λ (r : KeptRound). Keeps table came r) (sym c.self.view_is) keeps))

pub returns-clause-noted : goal.returns-clause-noted
returns-clause-noted g c = λ fault wrong.
    subst (λ (r : KeptRound). IsTrue r.has_misplaced)
    (sym (c.note.ensures ∙ ap (λ (o : Pages). with_pages o (record { arrivals = c.packet.new.self; has_misplaced = c.self.inside.has_misplaced })) wrong)) refl

pub returns-clause-right : goal.returns-clause-right
returns-clause-right g c = λ none.
    let i = c.self.inside in
    let mid : KeptRound = record { arrivals = c.packet.new.self; has_misplaced = i.has_misplaced } in
    ap (λ (r : KeptRound). r.has_misplaced) c.note.ensures
    ∙ still_right c.args.self.now.arrivals.seen.table c.args.head.now.bytes.now mid c.in_ok-pages.pages
    (subst (λ (r : KeptRound). Lie r.arrivals.seen.table c.args.head.now.bytes.now c.in_ok-pages.pages) c.self.view_is c.in_ok-pages.ensures.lie) none
    ∙ ap (λ (r : KeptRound). r.has_misplaced) c.self.view_is
