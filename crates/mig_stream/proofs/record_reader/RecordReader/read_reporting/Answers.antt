use Rattle.std.proofs.Common.{◌≡◌, ◌<◌, refl, sym, ap, subst, ◌∙◌, ◌++◌, ℕ, length, take, rules}
use Rattle.std.specs.Prelude.{Option}
use Rattle.mig_stream.specs.declared.item.StreamState.{StreamState}
use Rattle.mig_stream.specs.Kept.{bytes_of}
use Rattle.mig_stream.specs.Giving.{Giver, Gives, IsUnread, left}
use Rattle.mig_mem.proofs.PageSizes.{page_size_some}
use Rattle.mig_stream.proofs.Giver.{reads_behind, unread_behind}
use Rattle.mig_stream.proofs.Waiting.{reads_less}
use Rattle.mig_stream.proofs.Steps.{IsLater-front}
use Rattle.mig_stream.specs.Report.{Reports}
use Rattle.mig_stream.proofs.Reported.{reports_taken, reports_behind}
use Rattle.mig_stream.proofs.record_reader.RecordReader.read_reporting.Goals as goal

pub read_to_pause_reporting-requires : goal.read_to_pause_reporting-requires
read_to_pause_reporting-requires g c =
    subst (λ (o : Option StreamState). IsUnread o c.self.inside.progress c.self.inside.pending.items
    (bytes_of c.self.inside.rest)) (ap (λ (x : Giver). x.found) c.self.view_is ∙ c.requires) c.self.invariant

pub undo-requires : goal.undo-requires
undo-requires g c = record {
  before = c.self.inside.progress;
  is_checkpoint = c.checkpoint-checkpoint.ensures.value;
  is_later = IsLater-front c.self.inside.progress c.read_to_pause_reporting.new.progress c.in-Err.ensures.err.front c.in-Err.ensures.err.leads;
  are_listed = c.checkpoint-checkpoint.ensures.listed;
  has_short_place = c.checkpoint-checkpoint.ensures.short;
}

pub invariant_of-self : goal.invariant_of-self
invariant_of-self g c = unread_behind c.read_to_pause_reporting.new.progress c.read_to_pause_reporting.new.pending.items
    (bytes_of c.in-Ok.rest) c.in-Ok.found c.in-Ok.ensures.none c.in-Ok.ensures.closed c.in-Ok.ensures.stands

pub invariant_of-self-in-Err : goal.invariant_of-self-in-Err
invariant_of-self-in-Err g c =
    let back : c.undo.new.self ≡ c.self.inside.progress =
    c.undo.ensures c.self.inside.progress c.checkpoint-checkpoint.ensures.value
    (IsLater-front c.self.inside.progress c.read_to_pause_reporting.new.progress c.in-Err.ensures.err.front c.in-Err.ensures.err.leads) in
    let kept : c.truncate.new.self.items ≡ c.self.inside.pending.items =
    let len : c.len-len.result ≡ length c.self.inside.pending.items = search rules in
    c.truncate.ensures.items ∙ ap (λ (n : ℕ). take n c.read_to_pause_reporting.new.pending.items) len ∙ c.in-Err.ensures.kept in
    rw (back, kept) c.self.invariant

pub returns-in-Ok-clause-ok : goal.returns-in-Ok-clause-ok
returns-in-Ok-clause-ok g c given text so_far h =
    reads_behind given text so_far _ _ (reports_taken _ _ _ _ _ _ c.in-Ok.ensures.reports) c.in-Ok.ensures.stands refl
    (subst (λ (x : Giver). Gives given text so_far x) (sym c.self.view_is) h)

pub returns-in-Err-clause-err : goal.returns-in-Err-clause-err
returns-in-Err-clause-err g c =
    let back : c.undo.new.self ≡ c.self.inside.progress =
    c.undo.ensures c.self.inside.progress c.checkpoint-checkpoint.ensures.value
    (IsLater-front c.self.inside.progress c.read_to_pause_reporting.new.progress c.in-Err.ensures.err.front c.in-Err.ensures.err.leads) in
    let kept : c.truncate.new.self.items ≡ c.self.inside.pending.items =
    let len : c.len-len.result ≡ length c.self.inside.pending.items = search rules in
    c.truncate.ensures.items ∙ ap (λ (n : ℕ). take n c.read_to_pause_reporting.new.pending.items) len ∙ c.in-Err.ensures.kept in
    rw (back, kept) c.self.view_is

pub returns-in-Ok-clause-less : goal.returns-in-Ok-clause-less
returns-in-Ok-clause-less g c =
    let some = page_size_some c.self.inside.progress.page_size c.checkpoint-checkpoint.ensures.listed.has_page_size in
    let none = ap (λ (x : Giver). x.found) c.self.view_is ∙ c.requires in
    let same = c.args.self.now.given in
    let old : Giver = record {
      progress = c.self.inside.progress;
      rest = c.self.inside.pending.items ++ bytes_of c.self.inside.rest;
      found = c.self.inside.found;
      given = same;
      fed = c.self.inside.fed;
    } in
    let new : Giver = record {
      progress = c.read_to_pause_reporting.new.progress;
      rest = c.read_to_pause_reporting.new.pending.items ++ bytes_of c.in-Ok.rest;
      found = c.in-Ok.found;
      given = same;
      fed = c.self.inside.fed;
    } in
    subst (λ (x : Giver). left new < left x) c.self.view_is
    (reads_less old new some none (reports_taken _ _ _ _ _ _ c.in-Ok.ensures.reports) c.in-Ok.ensures.moves)

pub returns-in-Ok-clause-reports : goal.returns-in-Ok-clause-reports
returns-in-Ok-clause-reports g c given text so_far cleared h =
    let old : Giver = record {
      progress = c.self.inside.progress;
      rest = c.self.inside.pending.items ++ bytes_of c.self.inside.rest;
      found = c.self.inside.found;
      given = c.self.inside.given;
      fed = c.self.inside.fed;
    } in
    reports_behind given text so_far cleared old _ c.args.report.now c.read_to_pause_reporting.new.report c.in-Ok.ensures.reports
    (returns-in-Ok-clause-ok g c given text so_far h.gives)
    (subst (λ (x : Giver). Reports given text so_far cleared x c.args.report.now) (sym c.self.view_is) h)
