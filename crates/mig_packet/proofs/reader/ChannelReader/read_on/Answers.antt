use Rattle.std.proofs.Common.{◌≡◌, subst, ◌∙◌, length, take, rules, ℕ}
use Rattle.mig_packet.proofs.Feeding.{unfinished_behind}
use Rattle.mig_packet.proofs.Later.{IsLater-front}
use Rattle.mig_packet.proofs.reader.ChannelReader.read_on.Goals as goal

pub invariant_of-self : goal.invariant_of-self
invariant_of-self g c = unfinished_behind c.self.inside.progress _ c.read.new.progress c.read.new.pending.items c.in-Ok.left c.in-Ok.found c.in-Ok.ensures.ok

pub invariant_of-self-in-Err : goal.invariant_of-self-in-Err
invariant_of-self-in-Err g c =
    let later = IsLater-front c.self.inside.progress c.read.new.progress c.in-Err.ensures.err.front c.in-Err.ensures.err.leads in
    let back : c.undo.new.self ≡ c.self.inside.progress = c.undo.ensures.back c.self.inside.progress later.0 c.checkpoint-checkpoint.ensures later.1 in
    let kept : c.truncate.new.self.items ≡ c.self.inside.pending.items =
    let len : c.len-len.result ≡ length c.self.inside.pending.items = search rules in
    subst (λ (n : ℕ). c.truncate.new.self.items ≡ take n c.read.new.pending.items) len c.truncate.ensures.items ∙ c.in-Err.ensures.kept in
    rw (back, kept) c.self.invariant

pub returns-in-Err-clause-err : goal.returns-in-Err-clause-err
returns-in-Err-clause-err g c =
    let later = IsLater-front c.self.inside.progress c.read.new.progress c.in-Err.ensures.err.front c.in-Err.ensures.err.leads in
    let back : c.undo.new.self ≡ c.self.inside.progress = c.undo.ensures.back c.self.inside.progress later.0 c.checkpoint-checkpoint.ensures later.1 in
    let kept : c.truncate.new.self.items ≡ c.self.inside.pending.items =
    let len : c.len-len.result ≡ length c.self.inside.pending.items = search rules in
    subst (λ (n : ℕ). c.truncate.new.self.items ≡ take n c.read.new.pending.items) len c.truncate.ensures.items ∙ c.in-Err.ensures.kept in
    rw (back, kept) c.self.view_is
