use Rattle.std.proofs.Common.{◌≡◌, ◌++◌, ◌+◌, length, subst, rules, arith}
use Rattle.std.proofs.lemmas.List.{length-append}
use Rattle.mig_packet.specs.declared.reader.Filled.{Filled}
use Rattle.mig_packet.specs.Filling.{Fills}
use Rattle.mig_packet.proofs.Feeding.{still_reading, now_faulty}
use Rattle.mig_packet.proofs.reader.read.Goals as goal

pub returns-in-Unfinished-clause-ok : goal.returns-in-Unfinished-clause-ok
returns-in-Unfinished-clause-ok g c =
    let count : c.len.result ≡ length c.args.pending.now.items = search rules in
    let all : c.len.result + length c.args.piece.now ≡ length (c.args.pending.now.items ++ c.args.piece.now) =
    omega (arith, count, length-append c.args.pending.now.items c.args.piece.now) in
    still_reading c.args.progress.now (c.args.pending.now.items ++ c.args.piece.now) c.fill_up.new.pending.items _ all
    (subst (λ (x : Filled). Fills c.args.progress.now
    (c.args.pending.now.items ++ c.args.piece.now) c.fill_up.new.pending.items x) c.in-Unfinished.is c.in_ok-rest.ensures.ok)

pub returns-in-Faulty-clause-ok : goal.returns-in-Faulty-clause-ok
returns-in-Faulty-clause-ok g c =
    let count : c.len.result ≡ length c.args.pending.now.items = search rules in
    let all : c.len.result + length c.args.piece.now ≡ length (c.args.pending.now.items ++ c.args.piece.now) =
    omega (arith, count, length-append c.args.pending.now.items c.args.piece.now) in
    now_faulty c.args.progress.now (c.args.pending.now.items ++ c.args.piece.now) c.fill_up.new.pending.items _ c.in-Faulty.fault all
    (subst (λ (x : Filled). Fills c.args.progress.now
    (c.args.pending.now.items ++ c.args.piece.now) c.fill_up.new.pending.items x) c.in-Faulty.is c.in_ok-rest.ensures.ok)
