use Rattle.std.proofs.Common.{◌≡◌, ap, ◌∙◌, length, take, rules, ℕ}
use Rattle.mig_stream.proofs.Feeding.{unfinished_behind}
use Rattle.mig_stream.proofs.Reported.{reads_on}
use Rattle.mig_stream.proofs.Steps.{IsLater-front}
use Rattle.mig_stream.proofs.reader.StreamReader.read_on_reporting.Goals as goal

pub invariant_of-self : goal.invariant_of-self
invariant_of-self g c = unfinished_behind c.self.inside.progress _ c.read_reporting.new.progress
    c.read_reporting.new.pending.items c.in-Ok.left c.in-Ok.found (reads_on _ _ _ _ _ _ _ _ c.in-Ok.ensures.ok)

pub undo-requires : goal.undo-requires
undo-requires g c = record {
  before = c.self.inside.progress;
  is_checkpoint = c.checkpoint-before.ensures.value;
  is_later = IsLater-front c.self.inside.progress c.read_reporting.new.progress c.in-Err.ensures.err.front c.in-Err.ensures.err.leads;
  are_listed = c.checkpoint-before.ensures.listed;
  has_short_place = c.checkpoint-before.ensures.short;
}

pub invariant_of-self-in-Err : goal.invariant_of-self-in-Err
invariant_of-self-in-Err g c =
    let back : c.undo.new.self ≡ c.self.inside.progress =
    c.undo.ensures c.self.inside.progress c.checkpoint-before.ensures.value
    (IsLater-front c.self.inside.progress c.read_reporting.new.progress c.in-Err.ensures.err.front c.in-Err.ensures.err.leads) in
    let kept : c.truncate.new.self.items ≡ c.self.inside.pending.items =
    let len : c.len-len.result ≡ length c.self.inside.pending.items = search rules in
    c.truncate.ensures.items ∙ ap (λ (n : ℕ). take n c.read_reporting.new.pending.items) len ∙ c.in-Err.ensures.kept in
    rw (back, kept) c.self.invariant

pub returns-in-Err-clause-err : goal.returns-in-Err-clause-err
returns-in-Err-clause-err g c =
    let back : c.undo.new.self ≡ c.self.inside.progress =
    c.undo.ensures c.self.inside.progress c.checkpoint-before.ensures.value
    (IsLater-front c.self.inside.progress c.read_reporting.new.progress c.in-Err.ensures.err.front c.in-Err.ensures.err.leads) in
    let kept : c.truncate.new.self.items ≡ c.self.inside.pending.items =
    let len : c.len-len.result ≡ length c.self.inside.pending.items = search rules in
    c.truncate.ensures.items ∙ ap (λ (n : ℕ). take n c.read_reporting.new.pending.items) len ∙ c.in-Err.ensures.kept in
    rw (back, kept) c.self.view_is
