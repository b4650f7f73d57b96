use Rattle.std.proofs.Common.{refl, subst}
use Rattle.mig_stream.specs.Progress.{StreamProgress, start}
use Rattle.mig_stream.specs.Reading.{settings, in_frame, with_waiting}
use Rattle.mig_stream.specs.Reader.{ReadsOn}
use Rattle.mig_stream.proofs.Feeding.{unfinished_behind}
use Rattle.mig_stream.proofs.Standing.{text_read}
use Rattle.mig_stream.proofs.reader.StreamReader.of_text_with.Goals as goal

pub invariant_of-result : goal.invariant_of-result
invariant_of-result g c = unfinished_behind _ _ c.read_in_place.new.progress c.read_in_place.new.pending.items c.in_ok-found.left
    c.in_ok-found.found c.in_ok-found.ensures.ok

pub returns-clause-stands : goal.returns-clause-stands
returns-clause-stands g c =
    let from : ReadsOn (start c.args.frame c.args.mode c.args.page_size c.args.limit c.args.waiting) c.args.text.now
    c.read_in_place.new.progress c.read_in_place.new.pending.items c.in_ok-found.left c.in_ok-found.found =
    subst (λ (p : StreamProgress). ReadsOn p c.args.text.now c.read_in_place.new.progress c.read_in_place.new.pending.items
    c.in_ok-found.left c.in_ok-found.found) c.new-progress.ensures c.in_ok-found.ensures.ok in
    text_read (with_waiting c.args.waiting (in_frame c.args.frame (settings c.args.mode c.args.page_size c.args.limit))) _
    c.args.text.now c.in_ok-found.left from c.saturating_sub.ensures refl refl
