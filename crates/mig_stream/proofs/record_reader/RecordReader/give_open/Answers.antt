use Rattle.std.proofs.Common.{◌≡◌, length, List, [], sym, ap, subst, ◌∙◌, ◌++◌}
use Rattle.std.specs.Prelude.{Some}
use Rattle.std.proofs.lemmas.List.{nil_from_length, append-nil}
use Rattle.mig_stream.specs.declared.record_reader.RecordEvent.{RecordEvent}
use Rattle.mig_stream.specs.Kept.{bytes_of}
use Rattle.mig_stream.specs.PageRecord.{PageRecord}
use Rattle.mig_stream.specs.Round.{RoundOfRecords}
use Rattle.mig_stream.specs.Giving.{Giver, GivenSoFar, Gives, with_more, with_given, EndsSo}
use Rattle.mig_stream.proofs.Giver.{gives_more, more_places, same_page_size, ends_so}
use Rattle.mig_stream.specs.Report.{Reports}
use Rattle.mig_stream.proofs.Reported.{reports_more}
use Rattle.mig_stream.proofs.record_reader.RecordReader.give_open.Goals as goal
use Rattle.mig_stream.proofs.record_reader.RecordReader.give_open.Goals.{in-Some, in-None}

pub returns-then-len-ne0-clause-gives : goal.returns-then-len-ne0-clause-gives
returns-then-len-ne0-clause-gives g c given text so_far h =
    let are : c.give_records.new.given.records ≡ c.args.self.now.progress.records =
    ap (λ (r : RoundOfRecords). r.records) c.give_records.ensures.given ∙ ap (λ (x : Giver). x.progress.records) c.self.view_is in
    gives_more given text so_far c.args.self.now _ c.give_records.new.given.records are c.requires
    (c.give_records.ensures.same ∙ ap (λ (x : Giver). record x.progress { records = [] }) c.self.view_is)
    (ap (λ (x : Giver). x.rest) c.self.view_is) (ap (λ (x : Giver). x.found) c.self.view_is)
    (ap (λ (x : Giver). x.fed) c.self.view_is) h

pub returns-then-len-ne0-clause-page_size : goal.returns-then-len-ne0-clause-page_size
returns-then-len-ne0-clause-page_size g c given text so_far h =
    ap (λ (r : RoundOfRecords). r.page_size) c.give_records.ensures.given
    ∙ ap (λ (x : Giver). x.progress.page_size) c.self.view_is ∙ same_page_size given text so_far c.args.self.now h

pub returns-then-len-ne0-clause-places : goal.returns-then-len-ne0-clause-places
returns-then-len-ne0-clause-places g c given text so_far h table has =
    let are : c.give_records.new.given.records ≡ c.args.self.now.progress.records =
    ap (λ (r : RoundOfRecords). r.records) c.give_records.ensures.given ∙ ap (λ (x : Giver). x.progress.records) c.self.view_is in
    more_places given text so_far c.args.self.now c.give_records.new.given.records table are c.requires h has

pub returns-clause-page_size : goal.returns-clause-page_size
returns-clause-page_size g c given text so_far h =
    ap (λ (r : RoundOfRecords). r.page_size) c.give_records.ensures.given
    ∙ ap (λ (x : Giver). x.progress.page_size) c.self.view_is ∙ same_page_size given text so_far c.args.self.now h

pub returns-clause-end : goal.returns-clause-end
returns-clause-end g c given text so_far h =
    let are : c.give_records.new.given.records ≡ c.args.self.now.progress.records =
    ap (λ (r : RoundOfRecords). r.records) c.give_records.ensures.given ∙ ap (λ (x : Giver). x.progress.records) c.self.view_is in
    let nothing : c.args.self.now.progress.records ≡ [] =
    nil_from_length c.args.self.now.progress.records (ap (λ (x : List PageRecord). length x) (sym are) ∙ sym c.len.ensures ∙ c.if-len-ne0.false) in
    elim c.match-self.branch [
      | in-Some w ↦
          let found : c.args.self.now.found ≡ Some w.in-Some.found = ap (λ (x : Giver). x.found) (sym c.self.view_is) ∙ w.in-Some.is in
          subst (λ (x : RecordEvent). EndsSo x given text so_far) (sym w.result-is)
          (ends_so given text so_far c.args.self.now w.in-Some.found c.requires nothing found h)
      | in-None w ↦ subst (λ (x : RecordEvent). EndsSo x given text so_far) (sym w.result-is) tt
    ]

pub returns-clause-gives : goal.returns-clause-gives
returns-clause-gives g c given text so_far h =
    let are : c.give_records.new.given.records ≡ c.args.self.now.progress.records =
    ap (λ (r : RoundOfRecords). r.records) c.give_records.ensures.given ∙ ap (λ (x : Giver). x.progress.records) c.self.view_is in
    let records : List PageRecord = c.give_records.new.given.records in
    let none : records ≡ [] = nil_from_length records (sym c.len.ensures ∙ c.if-len-ne0.false) in
    let same : with_more records so_far ≡ so_far =
    ap (λ (x : List PageRecord). with_more x so_far) none ∙ ap (λ (x : List PageRecord). record so_far { open_section = x }) (append-nil so_far.open_section) in
    let new : Giver = record {
      progress = c.give_records.new.self;
      rest = c.self.inside.pending.items ++ bytes_of c.self.inside.rest;
      found = c.self.inside.found;
      given = c.give_records.new.given;
      fed = c.self.inside.fed;
    } in
    let more : Gives given text (with_more records so_far) new =
    gives_more given text so_far c.args.self.now new records are c.requires
    (c.give_records.ensures.same ∙ ap (λ (x : Giver). record x.progress { records = [] }) c.self.view_is)
    (ap (λ (x : Giver). x.rest) c.self.view_is) (ap (λ (x : Giver). x.found) c.self.view_is)
    (ap (λ (x : Giver). x.fed) c.self.view_is) h in
    elim c.match-self.branch [
      | in-Some w ↦ subst (λ (x : RecordEvent). Gives given text (with_given x records so_far) new) (sym w.result-is)
          (subst (λ (x : GivenSoFar). Gives given text x new) same more)
      | in-None w ↦ subst (λ (x : RecordEvent). Gives given text (with_given x records so_far) new) (sym w.result-is) more
    ]

pub returns-then-len-ne0-clause-reports : goal.returns-then-len-ne0-clause-reports
returns-then-len-ne0-clause-reports g c report given text so_far cleared h =
    let are : c.give_records.new.given.records ≡ c.args.self.now.progress.records =
    ap (λ (r : RoundOfRecords). r.records) c.give_records.ensures.given ∙ ap (λ (x : Giver). x.progress.records) c.self.view_is in
    reports_more given text so_far cleared c.args.self.now _ c.give_records.new.given.records report are c.requires
    (c.give_records.ensures.same ∙ ap (λ (x : Giver). record x.progress { records = [] }) c.self.view_is) (ap (λ (x : Giver). x.rest) c.self.view_is)
    (returns-then-len-ne0-clause-gives g c given text so_far h.gives) h

pub returns-clause-reports : goal.returns-clause-reports
returns-clause-reports g c report given text so_far cleared h =
    let are : c.give_records.new.given.records ≡ c.args.self.now.progress.records =
    ap (λ (r : RoundOfRecords). r.records) c.give_records.ensures.given ∙ ap (λ (x : Giver). x.progress.records) c.self.view_is in
    let records : List PageRecord = c.give_records.new.given.records in
    let none : records ≡ [] = nil_from_length records (sym c.len.ensures ∙ c.if-len-ne0.false) in
    let same : with_more records so_far ≡ so_far =
    ap (λ (x : List PageRecord). with_more x so_far) none ∙ ap (λ (x : List PageRecord). record so_far { open_section = x }) (append-nil so_far.open_section) in
    let new : Giver = record {
      progress = c.give_records.new.self;
      rest = c.self.inside.pending.items ++ bytes_of c.self.inside.rest;
      found = c.self.inside.found;
      given = c.give_records.new.given;
      fed = c.self.inside.fed;
    } in
    let emptied = c.give_records.ensures.same ∙ ap (λ (x : Giver). record x.progress { records = [] }) c.self.view_is in
    let rest = ap (λ (x : Giver). x.rest) c.self.view_is in
    let gives : Gives given text (with_more records so_far) new =
    gives_more given text so_far c.args.self.now new records are c.requires emptied rest
    (ap (λ (x : Giver). x.found) c.self.view_is) (ap (λ (x : Giver). x.fed) c.self.view_is) h.gives in
    let more : Reports given text (with_more records so_far) cleared new report =
    reports_more given text so_far cleared c.args.self.now new records report are c.requires emptied rest gives h in
    elim c.match-self.branch [
      | in-Some w ↦ subst (λ (x : RecordEvent). Reports given text (with_given x records so_far) cleared new report) (sym w.result-is)
          (subst (λ (x : GivenSoFar). Reports given text x cleared new report) same more)
      | in-None w ↦ subst (λ (x : RecordEvent). Reports given text (with_given x records so_far) cleared new report) (sym w.result-is) more
    ]
