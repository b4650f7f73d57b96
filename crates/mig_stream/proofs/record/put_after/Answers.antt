use Rattle.std.proofs.Common.{◌≡◌, [], length, get_or, rules, ap, subst, ◌∙◌}
use Rattle.mig_stream.specs.declared.record.Span.{Span}
use Rattle.mig_stream.specs.Kept.{buffer_of, IsGrown}
use Rattle.mig_stream.proofs.Keeping.{records_grown, span_grown}
use Rattle.mig_stream.proofs.record.put_after.Goals as goal

pub returns-in_err-start-clause-held : goal.returns-in_err-start-clause-held
returns-in_err-start-clause-held g c =
    let d = c.in_ok-get_mut.field-0.now in
    (records_grown [] c.args.records.now.items c.args.owner d c.extend.new.item [] (search rules)
    (subst (λ r. IsGrown r c.extend.new.item []) c.in_ok-get_mut.ensures.value c.in_err-start.ensures.none) c.requires).0

pub returns-in_err-start-clause-same : goal.returns-in_err-start-clause-same
returns-in_err-start-clause-same g c =
    let d = c.in_ok-get_mut.field-0.now in
    (records_grown [] c.args.records.now.items c.args.owner d c.extend.new.item [] (search rules)
    (subst (λ r. IsGrown r c.extend.new.item []) c.in_ok-get_mut.ensures.value c.in_err-start.ensures.none) c.requires).1

pub returns-clause-held : goal.returns-clause-held
returns-clause-held g c =
    let d = c.in_ok-get_mut.field-0.now in
    (records_grown [] c.args.records.now.items c.args.owner d c.extend.new.item c.args.bytes.now (search rules)
    (subst (λ r. IsGrown r c.extend.new.item c.args.bytes.now) c.in_ok-get_mut.ensures.value c.in_ok-start.ensures.some.0) c.requires).0

pub returns-clause-same : goal.returns-clause-same
returns-clause-same g c =
    let d = c.in_ok-get_mut.field-0.now in
    (records_grown [] c.args.records.now.items c.args.owner d c.extend.new.item c.args.bytes.now (search rules)
    (subst (λ r. IsGrown r c.extend.new.item c.args.bytes.now) c.in_ok-get_mut.ensures.value c.in_ok-start.ensures.some.0) c.requires).1

pub returns-clause-within : goal.returns-clause-within
returns-clause-within g c =
    let d = c.in_ok-get_mut.field-0.now in
    let s : Span = record { owner = c.in_ok-number.number; start = c.in_ok-start.start; end = c.in_ok-start.end } in
    let some = c.in_ok-start.ensures.some in
    let is : d ≡ get_or c.args.records.now.items c.args.owner d = c.in_ok-get_mut.ensures.value in
    (span_grown c.args.records.now.items c.args.owner d c.extend.new.item c.args.bytes.now s (search rules)
    (subst (λ r. IsGrown r c.extend.new.item c.args.bytes.now) is some.0) (search rules) (some.1 ∙ ap (λ r. length (buffer_of r)) is) some.2).0

pub returns-clause-bytes : goal.returns-clause-bytes
returns-clause-bytes g c =
    let d = c.in_ok-get_mut.field-0.now in
    let s : Span = record { owner = c.in_ok-number.number; start = c.in_ok-start.start; end = c.in_ok-start.end } in
    let some = c.in_ok-start.ensures.some in
    let is : d ≡ get_or c.args.records.now.items c.args.owner d = c.in_ok-get_mut.ensures.value in
    (span_grown c.args.records.now.items c.args.owner d c.extend.new.item c.args.bytes.now s (search rules)
    (subst (λ r. IsGrown r c.extend.new.item c.args.bytes.now) is some.0) (search rules) (some.1 ∙ ap (λ r. length (buffer_of r)) is) some.2).1
