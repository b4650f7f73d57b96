use Rattle.std.proofs.Common.{◌≡◌, ◌∙◌, sym, ap, inl, inr, Some, None}
use Rattle.std.specs.List.{position}
use Rattle.std.specs.Option.{option_map}
use Rattle.mig_load_types.specs.declared.fault.Origin.TheVariants as origin
use Rattle.mig_answer.specs.declared.status.Status.{Status}
use Rattle.mig_answer.specs.Status.{fault_of}
use Rattle.mig_answer.specs.MultiLoad.{failed}
use Rattle.mig_answer.proofs.ToldSources.{is_bad, own_found, own_first}
use Rattle.mig_answer.proofs.verdicts.channel_fault_verdict.Goals as goal

pub returns-in_default : goal.returns-in_default
returns-in_default c =
    let none : position is_bad c.args.channels.now ≡ None = sym c.first_bad.ensures ∙ c.in_default.is in
    sym (ap (own_found c.args.round c.args.channels.now) none) ∙ own_first c.args.round c.args.channels.now

pub returns-in-Bad : goal.returns-in-Bad
returns-in-Bad c =
    let at : position is_bad c.args.channels.now ≡ Some c.in-Some.j = sym c.first_bad.ensures ∙ c.in-Some.is in
    ap Some c.failed.ensures
    ∙ sym (ap (λ (s : Status). option_map (failed c.args.round (origin.Channel c.in-Some.j)) (fault_of s)) c.in-Bad.is)
    ∙ sym (ap (own_found c.args.round c.args.channels.now) at) ∙ own_first c.args.round c.args.channels.now

pub returns-in-Whole : goal.returns-in-Whole
returns-in-Whole c =
    let at : position is_bad c.args.channels.now ≡ Some c.in-Some.j = sym c.first_bad.ensures ∙ c.in-Some.is in
    let told = sym (ap (own_found c.args.round c.args.channels.now) at) ∙ own_first c.args.round c.args.channels.now in
    elim c.in-Whole.is [
      | inl whole ↦ sym (ap (λ (s : Status). option_map (failed c.args.round (origin.Channel c.in-Some.j)) (fault_of s)) whole) ∙ told
      | inr other ↦ elim other [
        | inl clean ↦ sym (ap (λ (s : Status). option_map (failed c.args.round (origin.Channel c.in-Some.j)) (fault_of s)) clean) ∙ told
        | inr pending ↦ sym (ap (λ (s : Status). option_map (failed c.args.round (origin.Channel c.in-Some.j)) (fault_of s)) pending) ∙ told
      ]
    ]
