use Rattle.std.proofs.Common.{sym, ◌∙◌, length, leb}
use Rattle.mig_packet.specs.Progress.{judged_len, first_fault}
use Rattle.mig_packet.proofs.Fronts.{split_item, goes_on, no_item}
use Rattle.mig_packet.proofs.progress.Progress.run.Goals as goal
use Rattle.mig_packet.proofs.Judging.{cond_none}

pub returns-then-rest-len-clause-ok : goal.returns-then-rest-len-clause-ok
returns-then-rest-len-clause-ok g c =
    let d = c.items.self in
    let rest = c.items.rest.now in
    record {
      front = c.items.invariant.0;
      has_text = c.items.invariant.1;
      leads = c.items.invariant.2;
      ends = (
        cond_none (leb (judged_len d.page_size d.hello) (length rest)) (first_fault d rest) (sym c.fault.ensures ∙ c.in_default.is),
        no_item d.page_size d.hello rest (rw c.item_len-len.ensures at c.if-rest-len.true),
      );
    }

pub take-requires-clause-whole : goal.take-requires-clause-whole
take-requires-clause-whole g c =
    (split_item c.items.self c.items.rest.now c.split_at.result.0.now c.split_at.result.1.now c.item_len-len.result
    c.item_len-len.ensures c.if-rest-len.false c.split_at.ensures.front c.split_at.ensures.back (sym c.fault.ensures ∙ c.in_default.is)).0

pub take-requires-clause-faultless : goal.take-requires-clause-faultless
take-requires-clause-faultless g c =
    (split_item c.items.self c.items.rest.now c.split_at.result.0.now c.split_at.result.1.now c.item_len-len.result
    c.item_len-len.ensures c.if-rest-len.false c.split_at.ensures.front c.split_at.ensures.back (sym c.fault.ensures ∙ c.in_default.is)).2

pub items-preserved : goal.items-preserved
items-preserved g c =
    let parts = split_item c.items.self c.items.rest.now c.split_at.result.0.now c.split_at.result.1.now c.item_len-len.result
    c.item_len-len.ensures c.if-rest-len.false c.split_at.ensures.front c.split_at.ensures.back (sym c.fault.ensures ∙ c.in_default.is) in
    goes_on c.args.self.now c.items.self c.take.new.self c.args.bytes.now c.items.rest.now c.split_at.result.0.now c.split_at.result.1.now
    parts.0 parts.1 parts.2 c.in_ok-take.ensures.ok c.items.invariant
