use Rattle.std.proofs.Common.{◌≡◌, true, false, sym, ◌∙◌, arith}
use Rattle.mig_stream.specs.Text.{file_header}
use Rattle.mig_mapped.proofs.FrontFields.{bytes_fit}
use Rattle.mig_mapped.proofs.FrontParsed.{HasMachine, machine_found, machine_is}
use Rattle.mig_mapped.proofs.front.machine_end.Goals as goal
use Rattle.mig_mapped.proofs.front.machine_end.Goals.{then-bytes-lt-MACHINE_AT-via-then-bytes-lt-MACHINE_AT}
use Rattle.mig_mapped.proofs.front.machine_end.Goals.{then-bytes-lt-MACHINE_AT-via-else-bytes-lt-MACHINE_AT+then-not-begins}
use Rattle.mig_mapped.proofs.front.machine_end.Goals.{then-len-gt-MAX_NAME_LEN-via-then-len-gt-MAX_NAME_LEN}
use Rattle.mig_mapped.proofs.front.machine_end.Goals.{then-len-gt-MAX_NAME_LEN-via-else-len-gt-MAX_NAME_LEN+then-bytes-len}

pub returns-then-bytes-lt-MACHINE_AT-clause-none : goal.returns-then-bytes-lt-MACHINE_AT-clause-none
unfolding file_header
returns-then-bytes-lt-MACHINE_AT-clause-none c = λ item rest valid e.
    let has : HasMachine c.args.bytes.now = machine_is item rest c.args.bytes.now valid e in
    elim c.then-bytes-lt-MACHINE_AT.branch [
      | then-bytes-lt-MACHINE_AT-via-then-bytes-lt-MACHINE_AT w ↦ omega (arith, has.is_long, w.if-bytes-lt-MACHINE_AT.true)
      | then-bytes-lt-MACHINE_AT-via-else-bytes-lt-MACHINE_AT+then-not-begins w ↦
          let two : true ≡ false = sym (w.begins.ensures.all has.tail has.is_spelled) ∙ w.if-not-begins.true in absurd cc
    ]

pub returns-then-len-gt-MAX_NAME_LEN-clause-none : goal.returns-then-len-gt-MAX_NAME_LEN-clause-none
returns-then-len-gt-MAX_NAME_LEN-clause-none c = λ item rest valid e.
    let has : HasMachine c.args.bytes.now = machine_is item rest c.args.bytes.now valid e in
    elim c.then-len-gt-MAX_NAME_LEN.branch [
      | then-len-gt-MAX_NAME_LEN-via-then-len-gt-MAX_NAME_LEN w ↦ omega (arith, has.is_short, c.be32-len.ensures, w.if-len-gt-MAX_NAME_LEN.true)
      | then-len-gt-MAX_NAME_LEN-via-else-len-gt-MAX_NAME_LEN+then-bytes-len w ↦ omega (arith, has.is_long, c.be32-len.ensures, w.if-bytes-len.true)
    ]

pub returns-clause-found : goal.returns-clause-found
unfolding file_header
returns-clause-found c = machine_found c.args.bytes.now c.be32-len.result (bytes_fit c.args.bytes.now c.type_inv.bytes) c.be32-len.ensures
    (omega arith) c.if-len-gt-MAX_NAME_LEN.false
    (c.begins.ensures.found c.if-not-begins.false)
