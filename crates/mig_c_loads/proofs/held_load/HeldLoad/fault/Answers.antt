use Rattle.std.proofs.Common.{◌∙◌, Bool, ap, sym, subst}
use Rattle.std.specs.Prelude.{Result, ⊤}
use Rattle.mig_load_types.specs.declared.fault.LoadFault.{LoadFault}
use Rattle.mig_single_load.specs.SingleLoad.{no_memory_at}
use Rattle.mig_single_load.specs.LoadInPlace.{LoadInPlace, LoadsInPlace, LacksMemory}
use Rattle.mig_c_loads.specs.ZeroBlocks.{Into}
use Rattle.mig_c_loads.specs.Found.{seen_so_far}
use Rattle.mig_c_loads.proofs.held_load.HeldLoad.fault.Goals as goal

pub returns : goal.returns
returns c = record {
  loads = λ memory given first text ended is.
      let here : LoadsInPlace memory given first c.self.inside.state text ended =
      subst (λ (h : Into LoadInPlace). LoadsInPlace memory given first h.load text ended) (sym c.self.view_is) is in (
        c.verdict.result,
        c.verdict.ensures.loads memory given first text ended here,
        c.of_verdict.ensures ∙ ap (λ (over : Bool). seen_so_far over c.verdict.result) (c.ended.ensures ∙ here.has_ended),
      );
  has_failed = λ memory given first text ended is.
      let here : LacksMemory memory given first c.self.inside.state text ended =
      subst (λ (h : Into LoadInPlace). LacksMemory memory given first h.load text ended) (sym c.self.view_is) is in
      c.of_verdict.ensures ∙ ap (λ (over : Bool). seen_so_far over c.verdict.result) (c.ended.ensures ∙ here.has_ended)
      ∙ ap (λ (v : Result ⊤ LoadFault). seen_so_far ended v) (c.verdict.ensures.lacking memory given first text ended here)
      ∙ ap (λ (h : Into LoadInPlace). seen_so_far ended (no_memory_at h.load.rounds)) c.self.view_is;
}
