use Rattle.std.proofs.Common.{◌≡◌, inl, inr, rules}
use Rattle.std.specs.Prelude.{IsTrue, IsFalse, slice_get}
use Rattle.std.proofs.lemmas.Bool.{cases_Bool}
use Rattle.mig_mem.specs.Image.{Image}
use Rattle.mig_mem.specs.Round.{with_round}
use Rattle.mig_mem.specs.Lent.{lent_bytes}
use Rattle.mig_answer.specs.declared.verdict.Verdict.TheVariants.{Running}
use Rattle.mig_sources.specs.declared.source.Source.TheVariants as source
use Rattle.mig_in_place.specs.Sources.{KeptChannel}
use Rattle.mig_in_place.specs.Session.{Loading, Loads, with_bytes}
use Rattle.mig_in_place.specs.TakenPackets.{packet_bytes, pages_taken}
use Rattle.mig_in_place.proofs.TakingPackets.{not_due, there_some}
use Rattle.mig_in_place.proofs.session.InPlaceSession.take_packet.Goals as goal

pub returns-clause-took : goal.returns-clause-took
returns-clause-took g c = λ _ given uuid first texts memory same stands.
    let running : c.args.self.now.verdict ≡ Running = search rules in
    let did : IsTrue c.in_ok-take_apart.field-0 = search rules in
    let f : Loading = record { given = given; uuid = uuid; first = first; texts = texts } in
    let loads : Loads f memory c.args.self.now = record {
      is_table = stands.is_table;
      is_image = stands.is_image;
      same_table = stands.same_table;
      is_running = stands.runs running;
    } in
    let then : Loading = with_bytes (source.Channel c.args.channel) (packet_bytes c.args.head.now (lent_bytes c.args.contents.now)) f in
    let changed : Image = with_round memory (pages_taken memory.table c.args.head.now (lent_bytes c.args.contents.now)) in
    let on : Loads then changed c.take_apart.new.self = c.in_ok-take_apart.ensures.took did f memory same loads in
    elim (cases_Bool c.tell-found.result) [
      | inl told ↦ c.tell-found.ensures.told told then changed on
      | inr due ↦
          let some = there_some (λ (x : KeptChannel). IsFalse x.is_whole)
          (slice_get c.take_apart.new.self.sources.channels c.args.channel) (c.in_ok-take_apart.ensures.open did) in
          absurd (not_due then changed c.take_apart.new.self on c.args.channel some.0 some.1 some.2 (c.tell-found.ensures.due due then changed on))
    ]
