use Rattle.std.proofs.Common.{◌++◌, List, ℕ, ap, ◌∙◌}
use Rattle.mig_stream.specs.Giving.{Giver, Paused}
use Rattle.mig_stream.proofs.Giver.{paused}
use Rattle.mig_stream.proofs.record_reader.RecordReader.pause.Goals as goal

pub returns : goal.returns
returns g c given text so_far h =
    let p : Paused = record { progress = c.without_records.result; pending = c.extend_from_slice.new.self.items; fed = c.self.inside.fed } in
    paused given text so_far c.args.self p c.requires.has_found (c.without_records.ensures ∙ ap (λ (x : Giver). x.progress) c.self.view_is)
    (c.in_ok-extend_from_slice.ensures.items ∙ ap (λ (x : List ℕ). c.self.inside.pending.items ++ x) c.bytes.ensures
    ∙ ap (λ (x : Giver). x.rest) c.self.view_is)
    (ap (λ (x : Giver). x.fed) c.self.view_is) h
