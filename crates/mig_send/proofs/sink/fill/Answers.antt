use Rattle.std.proofs.Common.{◌≡◌, ◌-◌, ℕ, get_or, subst}
use Rattle.mig_send.proofs.Working.{filled_none, filled_more, filled_last}
use Rattle.mig_send.proofs.sink.fill.Goals as goal

pub draws-init : goal.draws-init
draws-init g c = record {
  so_far = filled_none g.S.Sink.entries (g.M.GuestPages.image c.args.memory.now) c.args.batches.now c.args.seat (g.S.Sink.held c.args.sink.now);
}

pub draws-preserved : goal.draws-preserved
draws-preserved g c =
    let is = c.in-Work.ensures in
    let batch = c.index-batches-number.result in
    let claims = subst (λ (base : ℕ). batch ≡ get_or c.args.batches.now (c.in-Work.number - base) batch) c.base.ensures c.index-batches-number.is in
    record {
      so_far = filled_more g.S.Sink.entries (g.M.GuestPages.image c.args.memory.now) c.args.batches.now c.args.deal.now
          c.args.seat c.draws.seat c.in-Work.next c.in-Work.number batch
          (g.S.Sink.held c.args.sink.now) (g.S.Sink.held c.draws.sink) (g.S.Sink.held c.add_after-made.new.sink) c.draws.made c.add_after-made.result
          c.draws.invariant.so_far c.requires.own c.requires.batches.as_many is.0.appended is.0.next is.1
          claims c.add_after-made.ensures.made c.add_after-made.ensures.ok c.add_after-made.ensures.prefix;
    }

pub returns-in-Last : goal.returns-in-Last
returns-in-Last g c =
    let is = c.in-Last.ensures in
    filled_last g.S.Sink.entries (g.M.GuestPages.image c.args.memory.now) c.args.batches.now c.args.deal.now c.args.seat c.draws.seat
    (g.S.Sink.held c.args.sink.now) (g.S.Sink.held c.draws.sink)
    record { made = c.draws.made; last = c.in-Last.last; spent = c.in-Last.spent }
    c.draws.invariant.so_far c.requires.own is.0 is.1
