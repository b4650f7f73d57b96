use Rattle.std.proofs.Common.{ℕ, ◌≡◌, ◌≤◌, [], length, take, Result, Ok, arith, sym, ap, subst, ◌∙◌}
use Rattle.std.specs.Io.KnownBytes.{Consumes}
use Rattle.mig_session.specs.declared.pumping.PumpFault.{PumpFault}
use Rattle.mig_sources.specs.Reads.{after_end, after_read, piece_limit}
use Rattle.mig_session.proofs.Pumped.{ReadsPiece, Feeds, Ends, Pumps, begins, goes_on, no_buffer, finds_end, runs_out, is_no_memory, is_small, has_room}
use Rattle.mig_session.proofs.Pumped.{front_len, end_read, reads_piece}
use Rattle.mig_session.proofs.pumping.pump.Goals as goal

pub returns-in_err-buffer-clause-pumped : goal.returns-in_err-buffer-clause-pumped
returns-in_err-buffer-clause-pumped g c =
    let r = g.P.PieceReader.reads c.args.reader.now in
    let x = g.P.PieceReader.remaining c.args.reader.now in
    let s = c.args.session.now in
    let pumps : Pumps c.args.source c.args.turns c.from_residual.result r r x x s s =
    subst (λ (result : Result ℕ PumpFault). Pumps c.args.source c.args.turns result r r x x s s)
    (sym (is_no_memory c.from_residual.result c.from_residual.ensures)) (no_buffer c.args.source c.args.turns r x s) in pumps.pump_step

pub loop-init : goal.loop-init
loop-init g c = record {
  so_far = begins c.args.source (g.P.PieceReader.reads c.args.reader.now) (g.P.PieceReader.remaining c.args.reader.now) c.args.session.now;
  has_room = omega (arith, c.in_ok-buffer.buffer.ok.0, c.in_ok-buffer.ensures);
}

pub returns-in-Ok-eq0-clause-pumped : goal.returns-in-Ok-eq0-clause-pumped
returns-in-Ok-eq0-clause-pumped g c =
    let reads = g.P.PieceReader.reads in
    let left = g.P.PieceReader.remaining in
    let before = c.args.reader.now in
    let here = c.loop.reader in
    let after = c.read_piece.new.self in
    let old = c.args.session.now in
    let new = c.end.new.self in
    let read = c.in-Ok-eq0.ensures in
    let none = c.in-Ok-eq0.field-0-test in
    let room = length c.deref_mut.result.now in
    let long : room ≡ piece_limit = c.deref_mut.ensures.len ∙ c.loop.invariant.has_room in
    let is_end : reads after ≡ after_end (reads here) =
    read.reads ∙ ap (λ (n : ℕ). after_read (reads here) room (Ok n)) none ∙ end_read (reads here) room long in
    let given : Consumes (left here) (left after) [] = subst (λ (n : ℕ). Consumes (left here) (left after) (take n c.read_piece.new.piece)) none read.bytes.0 in
    let e = c.end.ensures in
    let ends : Ends c.args.source c.loop.session new =
    record { steps = e.steps; lacking = e.lacking; settled = e.settled; has_counts = e.counts; same_target = e.same } in
    let pumps : Pumps c.args.source c.args.turns (Ok c.loop.total) (reads before) (reads after) (left before) (left after) old new =
    finds_end c.args.source c.args.turns c.loop.counter c.loop.total (reads before) (reads here) (reads after) (left before)
    (left here) (left after) old c.loop.session new
    c.loop-test.true c.loop.invariant.so_far is_end given (read.bytes.1 none (omega (arith, read.len, long))) ends in pumps.pump_step

pub feed-requires-clause-room : goal.feed-requires-clause-room
feed-requires-clause-room g c =
    let reads = g.P.PieceReader.reads in
    let left = g.P.PieceReader.remaining in
    let short : c.in-Ok.n ≤ piece_limit = omega (arith, c.in-Ok.ensures.within, c.deref_mut.ensures.len, c.loop.invariant.has_room) in
    let room = has_room c.args.source c.args.turns c.loop.counter c.loop.total c.in-Ok.n (reads c.args.reader.now)
    (reads c.loop.reader) (left c.args.reader.now) (left c.loop.reader)
    c.args.session.now c.loop.session c.loop.invariant.so_far c.requires.source c.requires.room c.loop-test.true short in
    omega (arith, room, front_len c.in-Ok.n c.deref.result.now (omega (arith, c.deref.ensures.len, c.loop.invariant.has_room, short)))

pub returns-in_err-feed-in-Ok-clause-pumped : goal.returns-in_err-feed-in-Ok-clause-pumped
returns-in_err-feed-in-Ok-clause-pumped g c =
    let reads = g.P.PieceReader.reads in
    let left = g.P.PieceReader.remaining in
    let before = c.args.reader.now in
    let here = c.loop.reader in
    let after = c.read_piece.new.self in
    let old = c.args.session.now in
    let new = c.feed.new.self in
    let piece = take c.in-Ok.n c.deref.result.now in
    let read = c.in-Ok.ensures in
    let q : ReadsPiece c.in-Ok.n piece (reads here) (reads after) (left here) (left after) =
    reads_piece c.in-Ok.n c.loop.buffer.len c.deref_mut.result.now c.loop.buffer.items c.read_piece.new.piece c.deref.result.now
    (reads here) (reads after) (left here) (left after)
    c.in-Ok.n-test.1 read.within read.len c.deref_mut.ensures.value c.deref_mut.ensures.len c.loop.invariant.has_room
    c.deref.ensures.value read.reads read.bytes.0 in
    let e = c.in_err-feed-in-Ok.ensures in
    let f : Feeds c.args.source piece c.loop.session new = record {
      lacking = e.lacking;
      settled = λ over. (e.settled over).1;
      has_counts = e.counts;
      keeps = e.keeps;
    } in
    let result = c.from_residual-in_err-feed-in-Ok.result in
    let pumps : Pumps c.args.source c.args.turns result (reads before) (reads after) (left before) (left after) old new =
    subst (λ (r : Result ℕ PumpFault). Pumps c.args.source c.args.turns r (reads before) (reads after) (left before) (left after) old new)
    (sym (is_no_memory result c.from_residual-in_err-feed-in-Ok.ensures))
    (runs_out c.args.source c.args.turns c.loop.counter c.loop.total c.in-Ok.n piece (reads before) (reads here) (reads after)
    (left before) (left here) (left after) old c.loop.session new
    c.requires.source c.loop-test.true c.loop.invariant.so_far q f e.err e.failed (λ over. let no = (e.settled over).0 in cc)) in pumps.pump_step

pub overflow_add-total : goal.overflow_add-total
overflow_add-total g c =
    let small = is_small c.args.source c.loop.counter c.loop.total (g.P.PieceReader.reads c.args.reader.now) (g.P.PieceReader.reads c.loop.reader)
    (g.P.PieceReader.remaining c.args.reader.now) (g.P.PieceReader.remaining c.loop.reader) c.args.session.now c.loop.session c.loop.invariant.so_far in
    omega (arith, small, c.loop-test.true, c.requires.turns, c.in-Ok.ensures.within, c.deref_mut.ensures.len, c.loop.invariant.has_room)

pub loop-preserved : goal.loop-preserved
loop-preserved g c =
    let reads = g.P.PieceReader.reads in
    let left = g.P.PieceReader.remaining in
    let before = c.args.reader.now in
    let here = c.loop.reader in
    let after = c.read_piece.new.self in
    let piece = take c.in-Ok.n c.deref.result.now in
    let read = c.in-Ok.ensures in
    let q : ReadsPiece c.in-Ok.n piece (reads here) (reads after) (left here) (left after) =
    reads_piece c.in-Ok.n c.loop.buffer.len c.deref_mut.result.now c.loop.buffer.items c.read_piece.new.piece c.deref.result.now
    (reads here) (reads after) (left here) (left after)
    c.in-Ok.n-test.1 read.within read.len c.deref_mut.ensures.value c.deref_mut.ensures.len c.loop.invariant.has_room
    c.deref.ensures.value read.reads read.bytes.0 in
    let e = c.in_ok-feed-in-Ok.ensures in
    let f : Feeds c.args.source piece c.loop.session c.feed.new.self = record {
      lacking = e.lacking;
      settled = λ over. (e.settled over).1;
      has_counts = e.counts;
      keeps = e.keeps;
    } in
    record {
      so_far = goes_on c.args.source c.loop.counter c.loop.total c.in-Ok.n piece (reads before) (reads here) (reads after)
          (left before) (left here) (left after)
          c.args.session.now c.loop.session c.feed.new.self c.requires.source c.loop.invariant.so_far q f e.ok;
      has_room = c.loop.invariant.has_room;
    }
