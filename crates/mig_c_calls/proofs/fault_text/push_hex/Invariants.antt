use Rattle.std.proofs.Common.{◌+◌, ◌^◌, ◌≡◌, ◌<◌, ◌≤◌, false, length, drop}
use Rattle.std.specs.Fmt.{digits, digits_onto}
use Rattle.mig_c_calls.proofs.fault_text.push_hex.Given as goal

-- the digits of the rest have room in front of those that are written
abbrev pub invariant-loop-rest : goal.invariant-loop-rest
invariant-loop-rest l = (1 ≤ l.from) × (l.from ≤ 16) × (l.rest < 16 ^ l.from) × (length l.digits ≡ 16)
    × (digits_onto (48 + l.from) 16 false l.rest (drop l.from l.digits) ≡ digits 16 false l.n)

abbrev pub decreases-loop-rest : goal.decreases-loop-rest
decreases-loop-rest l = l.rest
