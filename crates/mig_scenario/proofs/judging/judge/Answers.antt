use Rattle.std.proofs.Common.{◌≡◌, ◌∙◌, List, map, ap, sym, inl, inr, Some, None, not}
use Rattle.mig_mem.specs.RamTable.{RamTable}
use Rattle.mig_mem.specs.Refusal.{refusal as table_refusal}
use Rattle.mig_scenario.specs.declared.line.Line.{Line}
use Rattle.mig_scenario.specs.Line.{ScenarioLine}
use Rattle.mig_scenario.specs.Scenario.{lines_of, table_of, late_block, first_line, is_within, unsent}
use Rattle.mig_scenario.specs.Seen.{seen}
use Rattle.mig_scenario.proofs.Verdicts.{lines_are, refused_order, refused_table, refused_range, refused_unsent, not_refused, all_within, told}
use Rattle.mig_scenario.proofs.judging.judge.Goals as goal

pub returns-in-Some-clause-err : goal.returns-in-Some-clause-err
returns-in-Some-clause-err g c =
    let ls = map seen c.in_ok-lines.lines.items in
    let order : late_block ls ≡ Some c.in-Some.line = told (λ l. late_block (map seen l)) _ _ _ _ c.deref.ensures.value c.late_block.ensures c.in-Some.is in
    inr (refused_order c.args.page_size c.args.text.now ls c.in-Some.line c.in_ok-lines.ensures.ok order)

pub returns-in-Err-clause-err : goal.returns-in-Err-clause-err
returns-in-Err-clause-err g c =
    let ls = map seen c.in_ok-lines.lines.items in
    let order : late_block ls ≡ None = told (λ l. late_block (map seen l)) _ _ _ _ c.deref.ensures.value c.late_block.ensures c.in_default.is in
    elim c.in-Err.ensures.err [
      | inl memory ↦ inl (c.fault_of.ensures.memory memory)
      | inr refused ↦ elim c.fault_of.ensures.other [
        | inl memory ↦ inl (c.fault_of.ensures.memory memory)
        | inr is ↦
            let table : table_refusal (table_of c.args.page_size ls) ≡ Some c.in-Err.fault =
            ap (λ (l : List Line). table_refusal (table_of c.args.page_size (map seen l))) (sym c.deref-2.ensures.value) ∙ refused in
            inr (refused_table c.args.page_size c.args.text.now ls c.in-Err.fault c.in_ok-lines.ensures.ok order table ∙ ap Some (sym is))
      ]
    ]

pub returns-in-Some-out_of_range-clause-err : goal.returns-in-Some-out_of_range-clause-err
returns-in-Some-out_of_range-clause-err g c =
    let ls = map seen c.in_ok-lines.lines.items in
    let order : late_block ls ≡ None = told (λ l. late_block (map seen l)) _ _ _ _ c.deref.ensures.value c.late_block.ensures c.in_default.is in
    let table : table_refusal (table_of c.args.page_size ls) ≡ None =
    ap (λ (l : List Line). table_refusal (table_of c.args.page_size (map seen l))) (sym c.deref-2.ensures.value) ∙ c.in-Ok.ensures.lawful in
    let same : c.in-Ok.table ≡ table_of c.args.page_size ls = c.in-Ok.ensures.ok
    ∙ ap (λ (l : List Line). table_of c.args.page_size (map seen l)) c.deref-2.ensures.value in
    let range : first_line (λ l. not (is_within c.in-Ok.table l)) ls ≡ Some c.in-Some-out_of_range.line =
    told (λ l. first_line (λ x. not (is_within c.in-Ok.table x)) (map seen l)) _ _ _ _ c.deref-3.ensures.value
    c.out_of_range.ensures c.in-Some-out_of_range.is in
    inr (refused_range c.args.page_size c.args.text.now ls c.in-Some-out_of_range.line c.in_ok-lines.ensures.ok order table
    (ap (λ (t : RamTable). first_line (λ l. not (is_within t l)) ls) (sym same) ∙ range))

pub returns-in-Some-unsent-clause-err : goal.returns-in-Some-unsent-clause-err
returns-in-Some-unsent-clause-err g c =
    let ls = map seen c.in_ok-lines.lines.items in
    let order : late_block ls ≡ None = told (λ l. late_block (map seen l)) _ _ _ _ c.deref.ensures.value c.late_block.ensures c.in_default.is in
    let table : table_refusal (table_of c.args.page_size ls) ≡ None =
    ap (λ (l : List Line). table_refusal (table_of c.args.page_size (map seen l))) (sym c.deref-2.ensures.value) ∙ c.in-Ok.ensures.lawful in
    let same : c.in-Ok.table ≡ table_of c.args.page_size ls = c.in-Ok.ensures.ok
    ∙ ap (λ (l : List Line). table_of c.args.page_size (map seen l)) c.deref-2.ensures.value in
    let range : first_line (λ l. not (is_within c.in-Ok.table l)) ls ≡ None =
    told (λ l. first_line (λ x. not (is_within c.in-Ok.table x)) (map seen l)) _ _ _ _ c.deref-3.ensures.value
    c.out_of_range.ensures c.in_default-out_of_range.is in
    let left : unsent ls ≡ Some c.in-Some-unsent.line = told (λ l. unsent (map seen l)) _ _ _ _ c.deref-4.ensures.value c.unsent.ensures c.in-Some-unsent.is in
    inr (refused_unsent c.args.page_size c.args.text.now ls c.in-Some-unsent.line c.in_ok-lines.ensures.ok order table
    (ap (λ (t : RamTable). first_line (λ l. not (is_within t l)) ls) (sym same) ∙ range) left)

pub returns-clause-ok : goal.returns-clause-ok
returns-clause-ok g c =
    let ls = map seen c.in_ok-lines.lines.items in
    let are : ls ≡ lines_of c.args.text.now = sym (lines_are c.args.text.now ls c.in_ok-lines.ensures.ok) in (
      c.in-Ok.ensures.ok ∙ ap (λ (l : List Line). table_of c.args.page_size (map seen l)) c.deref-2.ensures.value
          ∙ ap (λ (l : List ScenarioLine). table_of c.args.page_size l) are,
      are,
    )

pub returns-clause-within : goal.returns-clause-within
returns-clause-within g c =
    let range : first_line (λ l. not (is_within c.in-Ok.table l)) (map seen c.in_ok-lines.lines.items) ≡ None =
    told (λ l. first_line (λ x. not (is_within c.in-Ok.table x)) (map seen l)) _ _ _ _ c.deref-3.ensures.value
    c.out_of_range.ensures c.in_default-out_of_range.is in
    all_within (is_within c.in-Ok.table) (map seen c.in_ok-lines.lines.items) range

pub returns-clause-sent : goal.returns-clause-sent
returns-clause-sent g c =
    let ls = map seen c.in_ok-lines.lines.items in
    ap (λ (l : List ScenarioLine). unsent l) (lines_are c.args.text.now ls c.in_ok-lines.ensures.ok)
    ∙ told (λ l. unsent (map seen l)) _ _ _ _ c.deref-4.ensures.value c.unsent.ensures c.in_default-unsent.is

pub returns-clause-lawful : goal.returns-clause-lawful
returns-clause-lawful g c =
    let ls = map seen c.in_ok-lines.lines.items in
    let order : late_block ls ≡ None = told (λ l. late_block (map seen l)) _ _ _ _ c.deref.ensures.value c.late_block.ensures c.in_default.is in
    let table : table_refusal (table_of c.args.page_size ls) ≡ None =
    ap (λ (l : List Line). table_refusal (table_of c.args.page_size (map seen l))) (sym c.deref-2.ensures.value) ∙ c.in-Ok.ensures.lawful in
    let same : c.in-Ok.table ≡ table_of c.args.page_size ls = c.in-Ok.ensures.ok
    ∙ ap (λ (l : List Line). table_of c.args.page_size (map seen l)) c.deref-2.ensures.value in
    let range : first_line (λ l. not (is_within c.in-Ok.table l)) ls ≡ None =
    told (λ l. first_line (λ x. not (is_within c.in-Ok.table x)) (map seen l)) _ _ _ _ c.deref-3.ensures.value
    c.out_of_range.ensures c.in_default-out_of_range.is in
    let left : unsent ls ≡ None = told (λ l. unsent (map seen l)) _ _ _ _ c.deref-4.ensures.value c.unsent.ensures c.in_default-unsent.is in
    not_refused c.args.page_size c.args.text.now ls c.in_ok-lines.ensures.ok order table
    (ap (λ (t : RamTable). first_line (λ l. not (is_within t l)) ls) (sym same) ∙ range) left
