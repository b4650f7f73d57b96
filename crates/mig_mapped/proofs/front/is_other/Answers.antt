use Rattle.std.proofs.Common.{◌≡◌, true, false, sym, ◌∙◌, inl, inr, arith}
use Rattle.mig_stream.specs.Format.{subsection_name}
use Rattle.mig_mapped.proofs.FrontFields.{bytes_fit}
use Rattle.mig_mapped.proofs.FrontParsed.{HasOther, bits_found, uuid_found, other_is}
use Rattle.mig_mapped.proofs.front.is_other.Goals as goal

pub returns-then-begins-clause-found : goal.returns-then-begins-clause-found
unfolding subsection_name
returns-then-begins-clause-found c = λ e.
    bits_found c.args.bytes.now (bytes_fit c.args.bytes.now c.type_inv.bytes) c.if-bytes-ge-OTHER_LEN.true (c.begins.ensures.found c.if-begins.true)

pub returns-else-begins-clause-found : goal.returns-else-begins-clause-found
unfolding subsection_name
returns-else-begins-clause-found c = λ e. uuid_found c.args.bytes.now c.if-bytes-ge-OTHER_LEN.true (c.begins-else-begins.ensures.found e)

pub returns-else-begins-clause-none : goal.returns-else-begins-clause-none
unfolding subsection_name
returns-else-begins-clause-none c = λ isnt item rest valid e.
    let has : HasOther c.args.bytes.now = other_is item rest c.args.bytes.now valid e in
    elim has.is_spelled [
      | inl spelled ↦ let two : true ≡ false = sym (c.begins.ensures.all has.tail spelled) ∙ c.if-begins.false in absurd cc
      | inr spelled ↦ let two : true ≡ false = sym (c.begins-else-begins.ensures.all has.tail spelled) ∙ isnt in absurd cc
    ]

pub returns-else-bytes-ge-OTHER_LEN-clause-none : goal.returns-else-bytes-ge-OTHER_LEN-clause-none
returns-else-bytes-ge-OTHER_LEN-clause-none c = λ isnt item rest valid e.
    let has : HasOther c.args.bytes.now = other_is item rest c.args.bytes.now valid e in
    omega (arith, has.is_long, c.if-bytes-ge-OTHER_LEN.false)
