use Rattle.std.proofs.Common.{◌≡◌, ℕ, None, refl, ap, ◌∙◌}
use Rattle.std.specs.Prelude.{Option}
use Rattle.mig_load_types.specs.declared.fault.Fault.{Fault}
use Rattle.mig_c_loads.specs.Found.{seen_of_source}
use Rattle.mig_c_loads.proofs.seen.report_fault.Goals as goal

pub returns : goal.returns
returns c = record {
  stands = λ _ memory given uuid first texts stands. (
    c.fault_of.result,
    c.fault_of.ensures.stands memory given uuid first texts stands,
    c.of_source-fault.ensures
        ∙ ap (λ (n : ℕ). seen_of_source n c.args.source c.fault_of.result) c.rounds.ensures.value,
  );
  lacking = λ memory given uuid first texts lacks _.
      let none : c.fault_of.result ≡ None = c.fault_of.ensures.lacking memory given uuid first texts lacks in
      c.of_source-fault.ensures ∙ ap (λ (o : Option Fault). seen_of_source c.rounds.result c.args.source o) none;
  number = λ _. refl;
  foreign = λ foreign. absurd (foreign (c.if-not-has.ensures.0 refl));
}
