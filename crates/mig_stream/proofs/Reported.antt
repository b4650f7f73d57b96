-- Reports: items that are added one after another, and what a reader's report says of its stream.
use Rattle.std.proofs.Common.{◌≡◌, ◌≢◌, ℕ, ◌+◌, ◌-◌, ◌<◌, ◌≤◌, ◌^◌, false, List, [], ◌∷◌, ◌++◌, length, take, Option, Some, None, refl, sym, ap, subst, ◌∙◌}
use Rattle.std.proofs.Common.{append_assoc, arith}
use Rattle.std.specs.Prelude.{IfSome, IfNone}
use Rattle.std.specs.List.{concat}
use Rattle.std.proofs.lemmas.List.{append-nil, length-append, length-take, take-take, take_all}
use Rattle.std.proofs.lemmas.List.Folds.{concat-append}
use Rattle.mig_stream.specs.declared.item.Mode.TheVariants.{Single}
use Rattle.mig_stream.specs.declared.item.StreamState.{StreamState}
use Rattle.mig_stream.specs.declared.item.StreamState.TheVariants.{Reading, Bad}
use Rattle.mig_stream.specs.declared.fault.StreamFault.{StreamFault}
use Rattle.mig_stream.specs.Progress.{StreamProgress, start}
use Rattle.mig_stream.specs.Items.{first_fault, is_over, after}
use Rattle.mig_stream.specs.PageRecord.{PageRecord}
use Rattle.mig_stream.specs.Reading.{Settings, IsItem, AreFaultless, after_all, Ends, Reads}
use Rattle.mig_stream.specs.Taking.{HasTakenTo, HasTakenPages}
use Rattle.mig_stream.specs.Reader.{IsUnfinished, with_taken, Reader, ReadsOn, SoFar, Stands}
use Rattle.mig_stream.specs.declared.record_reader.RecordEvent.{RecordEvent}
use Rattle.mig_stream.specs.declared.record_reader.RecordEvent.TheVariants.{Records, Section, End}
use Rattle.mig_stream.specs.Giving.{Giver, GivenSoFar, none_given, with_more, with_last, with_given, with_open, all_read, Gives, TellsFound, Paused, PausesAt}
use Rattle.mig_stream.specs.Report.{kind_of, ItemAt, item_at, items_at, Reported, nothing_reported, with_item, with_items, with_cleared, ReportsTo, IsReport}
use Rattle.mig_stream.specs.Report.{Reports, EndsReport, ReadsReporting, KeepsItems, HasReport, HasOneReport, ReportsUpToValid, LongerTextsReportMore}
use Rattle.mig_stream.proofs.Feeding.{reads_short}
use Rattle.mig_stream.proofs.Fronts.{AreFaultless-append, after_all-append}
use Rattle.mig_stream.proofs.Giver.{after_item-open, AreFaultless-open, after_all-open, single_after, reads_single, all_last, all_more}
use Rattle.mig_stream.proofs.Later.{after_item-taken, AreFaultless-taken, after_all-taken, Ends-taken, Ends-more}
use Rattle.mig_stream.proofs.PageFronts.{items_at-append, parts_at}
use Rattle.mig_stream.proofs.Exists.{reads_from}
use Rattle.mig_stream.proofs.Steps.{IsLater-front}
use Rattle.mig_mem.proofs.PageSizes.{page_size_some}
use Rattle.mig_stream.proofs.Unique.{one_front, one_reading}

-- ---- items one after another

abbrev reported : ℕ → List ItemAt → Reported
reported at items = record { at = at; items = items }

with_items-append : (c : StreamProgress) (xs ys : List (List ℕ)) (r : Reported) → with_items c (xs ++ ys) r ≡ with_items (after_all c xs) ys (with_items c xs r)
with_items-append c xs ys r =
    let n : ℕ = r.at + length (concat xs) in
    let more : List ItemAt = items_at (after_all c xs) n ys in
    let byte : r.at + length (concat (xs ++ ys)) ≡ n + length (concat ys) =
    omega (arith, ap (λ (l : List ℕ). length l) (concat-append xs ys), length-append (concat xs) (concat ys)) in
    let items : r.items ++ items_at c r.at (xs ++ ys) ≡ (r.items ++ items_at c r.at xs) ++ more =
    ap (λ (l : List ItemAt). r.items ++ l) (items_at-append c r.at xs ys) ∙ sym (append_assoc r.items (items_at c r.at xs) more) in
    ap (λ (k : ℕ). reported k (r.items ++ items_at c r.at (xs ++ ys))) byte ∙ ap (λ (l : List ItemAt). reported (n + length (concat ys)) l) items

with_items-none : (c : StreamProgress) (r : Reported) → with_items c [] r ≡ r
with_items-none c r =
    let none : r.at + 0 ≡ r.at = omega arith in
    ap (λ (n : ℕ). reported n (r.items ++ [])) none ∙ ap (λ (l : List ItemAt). reported r.at l) (append-nil r.items)

with_items-one : (c : StreamProgress) (item : List ℕ) (r : Reported) → with_items c (item ∷ []) r ≡ with_item (kind_of c.page_size c.due item) item r
with_items-one c item r =
    let one : List ItemAt = item_at (kind_of c.page_size c.due item) r.at item in
    ap (λ (k : List ℕ). reported (r.at + length k) (r.items ++ (one ++ []))) (append-nil item)
    ∙ ap (λ (l : List ItemAt). reported (r.at + length item) (r.items ++ l)) (append-nil one)

cleared-with_items : (cleared : List ItemAt) (c : StreamProgress) (xs : List (List ℕ)) (r : Reported)
    → with_cleared cleared (with_items c xs r) ≡ with_items c xs (with_cleared cleared r)
cleared-with_items cleared c xs r =
    ap (λ (l : List ItemAt). reported (r.at + length (concat xs)) l) (sym (append_assoc cleared r.items (items_at c r.at xs)))

-- ---- what is added to a report

-- before the first item nothing is added to the report
pub reports_none : (c : StreamProgress) (bytes : List ℕ) (r : Reported) → ReportsTo c bytes bytes c r r
reports_none c bytes r = record {
  front = [];
  has_bytes = refl;
  leads = record { items = []; has_bytes = refl; are_faultless = tt; leads_to = refl };
  has_items = λ few. sym (with_items-none c r);
}

-- an item without a fault is read and added to the report
pub reports_one : (c d : StreamProgress) (item more : List ℕ) (before now : Reported) → IsItem c.page_size c.due item
    → first_fault c item ≡ None → d ≡ after c item
    → (before.at + length item < 2 ^ 64 → now ≡ with_item (kind_of c.page_size c.due item) item before) → ReportsTo c (item ++ more) more d before now
reports_one c d item more before now is free next added = record {
  front = item;
  has_bytes = refl;
  leads = record { items = item ∷ []; has_bytes = sym (append-nil item); are_faultless = (is, free, tt); leads_to = next };
  has_items = λ few. added (omega (arith, few, length-append item more)) ∙ sym (with_items-one c item before);
}

-- items that follow others are reported after them
pub reports_append : (from mid to : StreamProgress) (bytes rest more : List ℕ) (before between now : Reported)
    → ReportsTo from bytes rest mid before between → ReportsTo mid rest more to between now → ReportsTo from bytes more to before now
reports_append from mid to bytes rest more before between now a b =
    let xs : List (List ℕ) = a.leads.items in
    let ys : List (List ℕ) = b.leads.items in
    record {
      front = a.front ++ b.front;
      has_bytes = a.has_bytes ∙ ap (λ (l : List ℕ). a.front ++ l) b.has_bytes ∙ sym (append_assoc a.front b.front more);
      leads = record {
        items = xs ++ ys;
        has_bytes = ap (λ (u : List ℕ). u ++ b.front) a.leads.has_bytes ∙ ap (λ (u : List ℕ). concat xs ++ u) b.leads.has_bytes ∙ sym (concat-append xs ys);
        are_faultless = AreFaultless-append from xs ys a.leads.are_faultless
            (subst (λ (u : StreamProgress). AreFaultless u ys) a.leads.leads_to b.leads.are_faultless);
        leads_to = b.leads.leads_to ∙ ap (λ (u : StreamProgress). after_all u ys) a.leads.leads_to ∙ sym (after_all-append from xs ys);
      };
      has_items = λ few.
          let one : between ≡ with_items from xs before = a.has_items few in
          let small : between.at + length rest < 2 ^ 64 =
          omega (
            arith,
            few,
            ap (λ (r : Reported). r.at) one,
            ap (λ (l : List ℕ). length l) a.leads.has_bytes,
            ap (λ (l : List ℕ). length l) a.has_bytes,
            length-append a.front rest,
          ) in
          b.has_items small ∙ ap (with_items mid ys) one
          ∙ ap (λ (c : StreamProgress). with_items c ys (with_items from xs before)) a.leads.leads_to ∙ sym (with_items-append from xs ys before);
    }

-- and one item more
pub reports_push : (from c d : StreamProgress) (bytes rest item more : List ℕ) (before between now : Reported)
    → IsItem c.page_size c.due item → rest ≡ item ++ more → first_fault c item ≡ None → d ≡ after c item
    → (between.at + length item < 2 ^ 64 → now ≡ with_item (kind_of c.page_size c.due item) item between)
    → ReportsTo from bytes rest c before between → ReportsTo from bytes more d before now
reports_push from c d bytes rest item more before between now is e free next added a =
    reports_append from c d bytes rest more before between now a
    (subst (λ (l : List ℕ). ReportsTo c l more d between now) (sym e) (reports_one c d item more between now is free next added))

-- page records add nothing
pub reports_pages : (c d : StreamProgress) (bytes rest : List ℕ) (before now : Reported) → HasTakenPages c bytes rest d
    → (before.at + length bytes < 2 ^ 64 → now ≡ record before { at = before.at + length bytes - length rest })
    → ReportsTo c bytes rest d before now
reports_pages c d bytes rest before now (front, e, pages) moved = record {
  front = front;
  has_bytes = e;
  leads = pages.leads;
  has_items = λ few.
      let byte : before.at + length bytes - length rest ≡ before.at + length (concat pages.leads.items) =
      omega (arith, ap (λ (l : List ℕ). length l) e, length-append front rest, ap (λ (l : List ℕ). length l) pages.leads.has_bytes) in
      let none : before.items ≡ before.items ++ items_at c before.at pages.leads.items =
      sym (append-nil before.items) ∙ ap (λ (l : List ItemAt). before.items ++ l) (sym (parts_at c pages.leads.items pages.are_parts before.at)) in
      moved few ∙ ap (λ (n : ℕ). reported n before.items) byte ∙ ap (λ (l : List ItemAt). reported (before.at + length (concat pages.leads.items)) l) none;
}

-- as taken bytes
pub reports_taken : (from to : StreamProgress) (bytes rest : List ℕ) (before now : Reported)
    → ReportsTo from bytes rest to before now → HasTakenTo from bytes rest to
reports_taken from to bytes rest before now r = (r.front, r.has_bytes, r.leads)

-- bytes that follow are left
reports_longer : (from to : StreamProgress) (bytes rest more : List ℕ) (before now : Reported)
    → ReportsTo from bytes rest to before now → ReportsTo from (bytes ++ more) (rest ++ more) to before now
reports_longer from to bytes rest more before now r = record {
  front = r.front;
  has_bytes = ap (λ (l : List ℕ). l ++ more) r.has_bytes ∙ append_assoc r.front rest more;
  leads = r.leads;
  has_items = λ few. r.has_items (omega (arith, few, length-append bytes more));
}

reports_cleared : (cleared : List ItemAt) (from to : StreamProgress) (bytes rest : List ℕ) (before now : Reported) → ReportsTo from bytes rest to before now
    → ReportsTo from bytes rest to (with_cleared cleared before) (with_cleared cleared now)
reports_cleared cleared from to bytes rest before now r = record {
  front = r.front;
  has_bytes = r.has_bytes;
  leads = r.leads;
  has_items = λ few. ap (with_cleared cleared) (r.has_items few) ∙ cleared-with_items cleared from r.leads.items before;
}

-- ---- records that were taken or given change nothing

items_at-taken : (g : List (List PageRecord)) (c : StreamProgress) (at : ℕ) (items : List (List ℕ)) → items_at (with_taken g c) at items ≡ items_at c at items
items_at-taken g c at [] = refl
items_at-taken g c at (item ∷ items) =
    let first : List ItemAt = item_at (kind_of c.page_size c.due item) at item in
    ap (λ (x : StreamProgress). first ++ items_at x (at + length item) items) (after_item-taken g c c.due item)
    ∙ ap (λ (l : List ItemAt). first ++ l) (items_at-taken g (after c item) (at + length item) items)

reports-taken : (g : List (List PageRecord)) (from to : StreamProgress) (bytes rest : List ℕ) (before now : Reported)
    → ReportsTo from bytes rest to before now → ReportsTo (with_taken g from) bytes rest (with_taken g to) before now
reports-taken g from to bytes rest before now r = record {
  front = r.front;
  has_bytes = r.has_bytes;
  leads = record {
    items = r.leads.items;
    has_bytes = r.leads.has_bytes;
    are_faultless = AreFaultless-taken g from r.leads.items r.leads.are_faultless;
    leads_to = ap (with_taken g) r.leads.leads_to ∙ sym (after_all-taken g from r.leads.items);
  };
  has_items = λ few. r.has_items few
      ∙ ap (λ (l : List ItemAt). reported (before.at + length (concat r.leads.items)) (before.items ++ l))
      (sym (items_at-taken g from before.at r.leads.items));
}

items_at-open : (b : List PageRecord) (c : StreamProgress) (at : ℕ) (items : List (List ℕ)) → c.mode ≡ Single
    → AreFaultless c items → items_at (with_open b c) at items ≡ items_at c at items
items_at-open b c at [] single free = refl
items_at-open b c at (item ∷ items) single free =
    let first : List ItemAt = item_at (kind_of c.page_size c.due item) at item in
    ap (λ (x : StreamProgress). first ++ items_at x (at + length item) items) (after_item-open b c c.due item single)
    ∙ ap (λ (l : List ItemAt). first ++ l) (items_at-open b (after c item) (at + length item) items (single_after c item items single free) free.2)

reports-open : (b : List PageRecord) (from to : StreamProgress) (bytes rest : List ℕ) (before now : Reported) → from.mode ≡ Single
    → ReportsTo from bytes rest to before now → ReportsTo (with_open b from) bytes rest (with_open b to) before now
reports-open b from to bytes rest before now single r = record {
  front = r.front;
  has_bytes = r.has_bytes;
  leads = record {
    items = r.leads.items;
    has_bytes = r.leads.has_bytes;
    are_faultless = AreFaultless-open b from r.leads.items single r.leads.are_faultless;
    leads_to = ap (with_open b) r.leads.leads_to ∙ sym (after_all-open b from r.leads.items single r.leads.are_faultless);
  };
  has_items = λ few. r.has_items few
      ∙ ap (λ (l : List ItemAt). reported (before.at + length (concat r.leads.items)) (before.items ++ l))
      (sym (items_at-open b from before.at r.leads.items single r.leads.are_faultless));
}

-- ---- the report of a reader of records

-- before the first byte of a stream
abbrev from : Settings → StreamProgress
from given = start given.frame given.mode given.page_size given.limit given.waiting

-- a report of no bytes
pub first_report : (given : Settings) → IsReport given [] [] nothing_reported
first_report given = record {
  to = from given;
  rest = [];
  state = Reading;
  reports = reports_none (from given) [] nothing_reported;
  ends = (reads_short (from given) [] (omega arith)).ends;
}

-- items are read
pub reports_behind : (given : Settings) (text : List ℕ) (so_far : GivenSoFar) (cleared : List ItemAt) (old new : Giver)
    (before now : Reported) → ReportsTo old.progress old.rest new.rest new.progress before now
    → Gives given text so_far new → Reports given text so_far cleared old before → Reports given text so_far cleared new now
reports_behind given text so_far cleared old new before now t gives r =
    let single = reads_single given text so_far old r.gives in
    let o : StreamProgress = with_open so_far.open_section old.progress in
    let n : StreamProgress = with_open so_far.open_section new.progress in
    let all : ReportsTo (all_read so_far old.progress) old.rest new.rest (all_read so_far new.progress) before now =
    reports-taken so_far.sections o n old.rest new.rest before now
    (reports-open so_far.open_section old.progress new.progress old.rest new.rest before now single t) in
    record {
      gives = gives;
      reports = reports_append (from given) (all_read so_far old.progress)
          (all_read so_far new.progress) text old.rest new.rest nothing_reported (with_cleared cleared before) (with_cleared cleared now)
          r.reports (reports_cleared cleared (all_read so_far old.progress) (all_read so_far new.progress) old.rest new.rest before now all);
    }

-- records are given
pub reports_given : (given : Settings) (text : List ℕ) (so_far then : GivenSoFar) (cleared : List ItemAt)
    (old new : Giver) (report : Reported) → all_read so_far old.progress ≡ all_read then new.progress → new.rest ≡ old.rest
    → Gives given text then new → Reports given text so_far cleared old report → Reports given text then cleared new report
reports_given given text so_far then cleared old new report same rest gives r = record {
  gives = gives;
  reports = subst (λ (c : StreamProgress). ReportsTo (from given) text new.rest c nothing_reported (with_cleared cleared report)) same
      (subst (λ (l : List ℕ). ReportsTo (from given) text l (all_read so_far old.progress) nothing_reported
      (with_cleared cleared report)) (sym rest) r.reports);
}

-- the reader reads no further
pub reports_end : (given : Settings) (text : List ℕ) (so_far : GivenSoFar) (cleared : List
    ItemAt) (r : Giver) (report : Reported) (found : StreamState) → r.found ≡ Some found
    → Reports given text so_far cleared r report → IsReport given text cleared report
reports_end given text so_far cleared r report found is h = record {
  to = all_read so_far r.progress;
  rest = r.rest;
  state = found;
  reports = h.reports;
  ends = subst (λ (o : Option StreamState). IfSome o (λ s. Ends (all_read so_far r.progress) r.rest s)) is h.gives.ends;
}

-- as a reading
report_reads : (given : Settings) (text : List ℕ) (cleared : List ItemAt) (report : Reported) (is : IsReport given text cleared
    report) → Reads (from given) text is.to is.rest is.state
report_reads given text cleared report is = record { front = is.reports.front; has_text = is.reports.has_bytes; leads = is.reports.leads; ends = is.ends }

-- A stream has one reading, so the report is of that.
report_of : (given : Settings) (text : List ℕ) (cleared : List ItemAt) (report : Reported) (to : StreamProgress) (rest : List
    ℕ) (state : StreamState) → IsReport given text cleared report → Reads (from given) text to rest state
    → ReportsTo (from given) text rest to nothing_reported (with_cleared cleared report)
report_of given text cleared report to rest state is reads =
    let same = one_reading (from given) text is.to to is.rest rest is.state state (report_reads given text cleared report is) reads in
    subst (λ (c : StreamProgress). ReportsTo (from given) text rest c nothing_reported (with_cleared cleared report)) same.0
    (subst (λ (l : List ℕ). ReportsTo (from given) text l is.to nothing_reported (with_cleared cleared report)) same.1 is.reports)

-- the next piece is there
pub reports_resumed : (given : Settings)
    (text piece : List ℕ) (so_far : GivenSoFar) (cleared : List ItemAt) (p : Paused) (r : Giver) (report : Reported)
    → r.progress ≡ p.progress → r.rest ≡ p.pending ++ piece
    → Gives given (text ++ piece) so_far r → PausesAt given text so_far p → IsReport given text cleared report
    → Reports given (text ++ piece) so_far cleared r report
reports_resumed given text piece so_far cleared p r report progress rest gives at is =
    let c : StreamProgress = all_read so_far p.progress in
    let reads : Reads (from given) text c p.pending Reading = record { front = at.front; has_text = at.has_text; leads = at.leads; ends = at.ends } in
    let now : ReportsTo (from given) (text ++ piece) (p.pending ++ piece) c nothing_reported (with_cleared cleared report) =
    reports_longer (from given) c text p.pending piece nothing_reported (with_cleared cleared report)
    (report_of given text cleared report c p.pending Reading is reads) in
    record {
      gives = gives;
      reports = subst (λ (x : StreamProgress). ReportsTo (from given) (text ++ piece) r.rest (all_read so_far x) nothing_reported
          (with_cleared cleared report)) (sym progress)
          (subst (λ (l : List ℕ). ReportsTo (from given) (text ++ piece) l c nothing_reported (with_cleared cleared report)) (sym rest) now);
    }

-- ---- the report of a reader that is fed

-- a piece was read
pub report_fed : (given : Settings) (so_far : SoFar) (cleared : List ItemAt) (old : Reader)
    (piece rest : List ℕ) (to : StreamProgress) (found : StreamState) (before now : Reported) → old.found ≡ Reading
    → ReportsTo old.progress (old.pending ++ piece) rest to before now → Ends to rest found → Stands given so_far old
    → IsReport given so_far.text cleared before
    → IsReport given (so_far.text ++ piece) cleared now
report_fed given so_far cleared old piece rest to found before now reading t ends s is =
    let text : List ℕ = so_far.text in
    let c : StreamProgress = with_taken s.rounds old.progress in
    let d : StreamProgress = with_taken s.rounds to in
    let first : ReportsTo (from given) text old.pending c nothing_reported (with_cleared cleared before) =
    subst (λ (l : List ℕ). ReportsTo (from given) text l c nothing_reported (with_cleared cleared before)) (s.has_pending reading)
    (report_of given text cleared before c s.rest old.found is s.reads) in
    let longer = reports_longer (from given) c text old.pending piece nothing_reported (with_cleared cleared before) first in
    record {
      to = d;
      rest = rest;
      state = found;
      reports = reports_append (from given) c d (text ++ piece) (old.pending ++ piece) rest nothing_reported
          (with_cleared cleared before) (with_cleared cleared now) longer
          (reports_cleared cleared c d (old.pending ++ piece) rest before now
          (reports-taken s.rounds old.progress to (old.pending ++ piece) rest before now t));
      ends = Ends-taken s.rounds to rest found ends;
    }

-- a piece after the stream's end, or after a fault
pub report_past : (given : Settings) (so_far : SoFar) (cleared : List ItemAt) (old : Reader) (piece : List ℕ) (report : Reported)
    → old.found ≢ Reading → Stands given so_far old → IsReport given so_far.text cleared report
    → IsReport given (so_far.text ++ piece) cleared report
report_past given so_far cleared old piece report other s is =
    let text : List ℕ = so_far.text in
    let c : StreamProgress = with_taken s.rounds old.progress in
    record {
      to = c;
      rest = s.rest ++ piece;
      state = old.found;
      reports = reports_longer (from given) c text s.rest piece nothing_reported (with_cleared cleared report)
          (report_of given text cleared report c s.rest old.found is s.reads);
      ends = Ends-more c s.rest piece old.found other s.reads.ends;
    }

-- ---- what stays

-- a report keeps its own items
pub keeps_all : (a : Reported) → KeepsItems a a
keeps_all a = take_all (length a.items) a.items (omega arith)

-- if a report's items stay in the next, and that one's in a third, they stay in the third
pub keeps_on : (a b c : Reported) → KeepsItems a b → KeepsItems b c → KeepsItems a c
keeps_on a b c h k =
    let le : length a.items ≤ length b.items = omega (arith, ap (λ (l : List ItemAt). length l) h, length-take (length a.items) b.items) in
    sym (take-take (length a.items) (length b.items) c.items le) ∙ ap (take (length a.items)) k ∙ h

-- nothing was taken
pub reports_same : (c d : StreamProgress) (bytes rest : List ℕ) (before now : Reported) → d ≡ c → rest ≡ bytes → now ≡ before
    → ReportsTo c bytes rest d before now
reports_same c d bytes rest before now same all kept =
    subst (λ (x : StreamProgress). ReportsTo c bytes rest x before now) (sym same)
    (subst (λ (l : List ℕ). ReportsTo c bytes l c before now) (sym all) (subst (ReportsTo c bytes bytes c before) (sym kept) (reports_none c bytes before)))

-- what holds of no answer holds where there is none
pub none_at : {X : Type 0} (o : Option X) (P : Type 0) → o ≡ None → IfNone o P → P
none_at {X} o P e h = subst (λ (y : Option X). IfNone y P) e h

-- ---- records are given

-- records of the open section are given: the report stays
pub reports_more : (given : Settings) (text : List ℕ) (so_far : GivenSoFar) (cleared : List ItemAt)
    (old new : Giver) (records : List PageRecord) (report : Reported) → records ≡ old.progress.records → old.progress.rounds ≡ []
    → new.progress ≡ record old.progress { records = [] } → new.rest ≡ old.rest → Gives given text (with_more records so_far) new
    → Reports given text so_far cleared old report
    → Reports given text (with_more records so_far) cleared new report
reports_more given text so_far cleared old new records report are none is rest gives r =
    reports_given given text so_far (with_more records so_far) cleared old new report
    (all_more so_far old.progress new.progress none is ∙ ap (λ (x : List PageRecord). all_read (with_more x so_far) new.progress) (sym are)) rest gives r

-- the last records of a section are given: the report stays
pub reports_last : (given : Settings) (text : List ℕ) (so_far : GivenSoFar) (cleared : List ItemAt)
    (old new : Giver) (records : List PageRecord) (report : Reported) → old.progress ≡ with_taken (records ∷ []) new.progress → new.rest ≡ old.rest
    → Gives given text (with_last records so_far) new → Reports given text so_far cleared old report
    → Reports given text (with_last records so_far) cleared new report
reports_last given text so_far cleared old new records report is rest gives r =
    reports_given given text so_far (with_last records so_far) cleared old new report (all_last so_far old.progress new.progress records is) rest gives r

-- where an event says that the stream ended, the report is that of all bytes valid
pub ends_report : (gave : RecordEvent) (records : List PageRecord) (given : Settings) (text : List
    ℕ) (so_far : GivenSoFar) (cleared : List ItemAt) (new : Giver) (report : Reported) → TellsFound gave new
    → Reports given text (with_given gave records so_far) cleared new report → EndsReport gave given text cleared report
ends_report Records records given text so_far cleared new report told r = tt
ends_report Section records given text so_far cleared new report told r = tt
ends_report (End found) records given text so_far cleared new report told r = reports_end given text so_far cleared new report found told.0 r

-- ---- a piece is read

-- a reading with a report reads as one without
pub reads_on : (from : StreamProgress) (bytes : List ℕ) (to : StreamProgress) (pending : List ℕ) (left : ℕ) (state : StreamState)
    (before now : Reported) → ReadsReporting from bytes to pending left state before now → ReadsOn from bytes to pending left state
reads_on from bytes to pending left state before now r = record {
  rest = r.rest;
  reads = record { front = r.reports.front; has_text = r.reports.has_bytes; leads = r.reports.leads; ends = r.ends };
  has_left = r.has_left;
  has_rest = r.has_rest;
}

-- a piece that fills no item up changes nothing in the report
pub piece_short : {X : Type 0} (o : Option X) (c : StreamProgress) (old piece new : List ℕ) (left : ℕ) (report : Reported)
    → left ≡ length new → o ≡ None → IfNone o ((new ≡ old ++ piece) × IsUnfinished c new)
    → ReadsReporting c (old ++ piece) c new left Reading report report
piece_short o c old piece new left report len none short =
    let here = none_at o ((new ≡ old ++ piece) × IsUnfinished c new) none short in
    record {
      rest = new;
      reports = reports_same c c (old ++ piece) new report report refl here.0 refl;
      ends = (reads_short c new here.1).ends;
      has_left = sym len;
      has_rest = λ _. refl;
    }

-- a piece that fills up an item with a fault changes nothing in the report
pub piece_fault : (c d : StreamProgress) (bytes item rest pending : List ℕ) (left : ℕ) (f : StreamFault) (before now : Reported)
    → left ≡ length item + length rest → item ++ rest ≡ bytes → IsItem c.page_size c.due item → first_fault c item ≡ Some f
    → is_over c item ≡ false → d ≡ c → now ≡ before → ReadsReporting c bytes d pending left (Bad f) before now
piece_fault c d bytes item rest pending left f before now len e is fault not_over same kept =
    let here : Ends c (item ++ rest) (Bad f) = (item, rest, refl, is, fault, not_over) in
    record {
      rest = item ++ rest;
      reports = reports_same c d bytes (item ++ rest) before now same e kept;
      ends = subst (λ (x : StreamProgress). Ends x (item ++ rest) (Bad f)) (sym same) here;
      has_left = length-append item rest ∙ sym len;
      has_rest = λ reading. absurd cc;
    }

-- an item that is read and reported, and then what a reading behind it reports
pub piece_behind : (c d to : StreamProgress) (item rest pending : List ℕ) (left : ℕ) (s : StreamState)
    (before between now : Reported) → ReportsTo c (item ++ rest) rest d before between → ReadsReporting d rest to pending left s between now
    → ReadsReporting c (item ++ rest) to pending left s before now
piece_behind c d to item rest pending left s before between now first r = record {
  rest = r.rest;
  reports = reports_append c d to (item ++ rest) rest r.rest before between now first r.reports;
  ends = r.ends;
  has_left = r.has_left;
  has_rest = r.has_rest;
}

-- before a stream that is there as a whole
pub reports_first : (given : Settings) (text : List ℕ) (r : Giver)
    → r.progress ≡ start given.frame given.mode given.page_size given.limit given.waiting → r.rest ≡ text → Gives given text none_given r
    → Reports given text none_given [] r nothing_reported
reports_first given text r progress rest gives = record {
  gives = gives;
  reports = subst (λ (c : StreamProgress). ReportsTo (from given) text r.rest (all_read none_given c) nothing_reported nothing_reported) (sym progress)
      (subst (λ (l : List ℕ). ReportsTo (from given) text l (from given) nothing_reported nothing_reported) (sym rest)
      (reports_none (from given) text nothing_reported));
}

-- ---- laws

-- each stream has a report
pub report_exists : HasReport
report_exists given text size =
    let q = reads_from (from given) text (page_size_some given.page_size size) in
    let reads : Reads (from given) text q.0 q.1 q.2 = q.3 in (
      with_items (from given) reads.leads.items nothing_reported,
      record {
        to = q.0;
        rest = q.1;
        state = q.2;
        reports = record { front = reads.front; has_bytes = reads.has_text; leads = reads.leads; has_items = λ few. refl };
        ends = reads.ends;
      },
    )

-- a stream has one report alone
pub one_report : HasOneReport
one_report given text gone cleared first second few a b =
    let xs : List (List ℕ) = a.reports.leads.items in
    let ys : List (List ℕ) = b.reports.leads.items in
    let bytes : concat xs ++ a.rest ≡ concat ys ++ b.rest =
    ap (λ (l : List ℕ). l ++ a.rest) (sym a.reports.leads.has_bytes) ∙ sym a.reports.has_bytes ∙ b.reports.has_bytes
    ∙ ap (λ (l : List ℕ). l ++ b.rest) b.reports.leads.has_bytes in
    let same = one_front (from given) xs ys a.rest b.rest a.state b.state a.reports.leads.are_faultless b.reports.leads.are_faultless
    (subst (λ (c : StreamProgress). Ends c a.rest a.state) a.reports.leads.leads_to a.ends)
    (subst (λ (c : StreamProgress). Ends c b.rest b.state) b.reports.leads.leads_to b.ends) bytes in
    let short : 0 + length text < 2 ^ 64 = omega (arith, few) in
    a.reports.has_items short ∙ ap (λ (zs : List (List ℕ)). with_items (from given) zs nothing_reported) same.0 ∙ sym (b.reports.has_items short)

-- items are reported up to where the stream is valid
pub report_valid : ReportsUpToValid
report_valid given text cleared report few is =
    let short : 0 + length text < 2 ^ 64 = omega (arith, few) in
    record {
      to = is.to;
      rest = is.rest;
      state = is.state;
      reads = record { front = is.reports.front; has_text = is.reports.has_bytes; leads = is.reports.leads; ends = is.ends };
      has_length = omega (arith, ap (λ (l : List ℕ). length l) is.reports.leads.has_bytes, ap (λ (r : Reported). r.at) (is.reports.has_items short));
    }

-- a longer stream has the report of the shorter one, and more
pub longer_report : LongerTextsReportMore
longer_report given text more first second size few a b =
    let some : 0 < a.to.page_size = omega (
      arith,
      page_size_some given.page_size size,
      (IsLater-front (from given) a.to a.reports.front a.reports.leads).same_page_size,
    ) in
    let q = reads_from a.to (a.rest ++ more) some in
    let reads : Reads a.to (a.rest ++ more) q.0 q.1 q.2 = q.3 in
    let last : Reported = with_items a.to reads.leads.items first in
    let on : ReportsTo a.to (a.rest ++ more) q.1 q.0 first last = record {
      front = reads.front;
      has_bytes = reads.has_text;
      leads = reads.leads;
      has_items = λ short. refl;
    } in
    let whole : IsReport given (text ++ more) [] last = record {
      to = q.0;
      rest = q.1;
      state = q.2;
      reports = reports_append (from given) a.to q.0 (text ++ more) (a.rest ++ more) q.1 nothing_reported first last
          (reports_longer (from given) a.to text a.rest more nothing_reported first a.reports) on;
      ends = reads.ends;
    } in (
      items_at a.to first.at reads.leads.items,
      ap (λ (r : Reported). r.items) (one_report given (text ++ more) [] [] second last few b whole),
    )
