use Rattle.std.proofs.Common.{◌≡◌, ◌<◌, length, rules}
use Rattle.std.specs.Vec.{with_items}
use Rattle.zimgasol_files.specs.Waiting.{waits}
use Rattle.zimgasol_files.proofs.Waits.{ended, none_waits}
use Rattle.zimgasol_files.proofs.pieces.Pieces.refill.Goals as goal

pub returns-clause-end : goal.returns-clause-end
returns-clause-end g c = λ none.
    let len = c.in_ok-len.len in
    let zero : len ≡ 0 = search (rules, none) in
    let room : len < length c.deref_mut.result.now = search (rules, zero, c.deref_mut.ensures.len, c.deref_mut.ensures.value) in
    let buffer = with_items c.args.self.now.buffer c.read_piece.new.buffer in
    ended (g.R.Read.remaining c.read_piece.new.input) (waits (record { buffer = buffer; start = 0; end = len; read = 0 }))
    (none_waits buffer.items len zero) (c.in_ok-len.ensures.end room)
