use Rattle.std.proofs.Common.{◌≡◌, [], ◌∷◌, sym, ap, ◌∙◌}
use Rattle.mig_stream.specs.Reader.{with_taken}
use Rattle.mig_stream.specs.Round.{RoundOfRecords}
use Rattle.mig_stream.specs.Giving.{Giver, all_read}
use Rattle.mig_stream.proofs.Giver.{gives_same, gives_last, last_places, same_page_size}
use Rattle.mig_stream.proofs.Reported.{reports_last}
use Rattle.mig_stream.proofs.record_reader.RecordReader.give.Goals as goal

pub returns-in-Some-clause-gives : goal.returns-in-Some-clause-gives
returns-in-Some-clause-gives g c given text so_far h =
    let first : c.args.self.now.progress ≡ with_taken (c.replace-before.new.dest.records ∷ []) c.take_round.new.self =
    ap (λ (x : Giver). x.progress) (sym c.self.view_is) ∙ c.in-Some.ensures.some
    ∙ ap (λ (r : RoundOfRecords). with_taken (r.records ∷ []) c.take_round.new.self) (sym c.replace-before.ensures.after) in
    gives_last given text so_far c.args.self.now _ c.replace-before.new.dest.records first
    (ap (λ (x : Giver). x.rest) c.self.view_is) (ap (λ (x : Giver). x.found) c.self.view_is) (ap (λ (x : Giver). x.fed) c.self.view_is) h

pub returns-in-Some-clause-page_size : goal.returns-in-Some-clause-page_size
returns-in-Some-clause-page_size g c given text so_far h =
    ap (λ (r : RoundOfRecords). r.page_size) c.replace-before.ensures.after ∙ c.in-Some.ensures.page_size
    ∙ ap (λ (x : Giver). x.progress.page_size) c.self.view_is
    ∙ same_page_size given text so_far c.args.self.now h

pub returns-in-Some-clause-places : goal.returns-in-Some-clause-places
returns-in-Some-clause-places g c given text so_far h table has =
    let first : c.args.self.now.progress ≡ with_taken (c.replace-before.new.dest.records ∷ []) c.take_round.new.self =
    ap (λ (x : Giver). x.progress) (sym c.self.view_is) ∙ c.in-Some.ensures.some
    ∙ ap (λ (r : RoundOfRecords). with_taken (r.records ∷ []) c.take_round.new.self) (sym c.replace-before.ensures.after) in
    last_places given text so_far c.args.self.now c.take_round.new.self c.replace-before.new.dest.records table first h has

pub returns-in-None-clause-page_size : goal.returns-in-None-clause-page_size
returns-in-None-clause-page_size g c given text so_far h =
    let same : all_read so_far c.args.self.now.progress ≡ all_read so_far c.take_round.new.self =
    ap (all_read so_far) (ap (λ (x : Giver). x.progress) (sym c.self.view_is) ∙ sym c.in-None.ensures.none.1) in
    c.give_open.ensures.page_size given text so_far
    (gives_same given text so_far so_far c.args.self.now _ same (ap (λ (x : Giver). x.rest) c.self.view_is)
    (ap (λ (x : Giver). x.found) c.self.view_is) (ap (λ (x : Giver). x.fed) c.self.view_is) h)

pub returns-in-None-clause-places : goal.returns-in-None-clause-places
returns-in-None-clause-places g c given text so_far h =
    let same : all_read so_far c.args.self.now.progress ≡ all_read so_far c.take_round.new.self =
    ap (all_read so_far) (ap (λ (x : Giver). x.progress) (sym c.self.view_is) ∙ sym c.in-None.ensures.none.1) in
    c.give_open.ensures.places given text so_far
    (gives_same given text so_far so_far c.args.self.now _ same (ap (λ (x : Giver). x.rest) c.self.view_is)
    (ap (λ (x : Giver). x.found) c.self.view_is) (ap (λ (x : Giver). x.fed) c.self.view_is) h)

pub returns-in-Some-clause-reports : goal.returns-in-Some-clause-reports
returns-in-Some-clause-reports g c report given text so_far cleared h =
    let first : c.args.self.now.progress ≡ with_taken (c.replace-before.new.dest.records ∷ []) c.take_round.new.self =
    ap (λ (x : Giver). x.progress) (sym c.self.view_is) ∙ c.in-Some.ensures.some
    ∙ ap (λ (r : RoundOfRecords). with_taken (r.records ∷ []) c.take_round.new.self) (sym c.replace-before.ensures.after) in
    reports_last given text so_far cleared c.args.self.now _ c.replace-before.new.dest.records report first
    (ap (λ (x : Giver). x.rest) c.self.view_is) (returns-in-Some-clause-gives g c given text so_far h.gives) h
