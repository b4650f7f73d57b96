use Rattle.std.proofs.Common.{ℕ, ◌≡◌, map, take}
use Rattle.std.specs.Prelude.{Vec, vec_len}
use Rattle.mig_send.proofs.multi.lengths.Given as goal

abbrev pub invariant-texts : goal.invariant-texts
invariant-texts g l = l.lens.items ≡ map (λ (text : Vec ℕ _). vec_len text) (take l.text-index l.texts)
