use Rattle.std.proofs.Common.{◌≡◌, List, ℕ, true, false, drop, sym, subst, ◌∙◌, arith}
use Rattle.mig_stream.specs.Format.{subsection_name}
use Rattle.mig_mapped.specs.declared.front.NameList.{NameList}
use Rattle.mig_mapped.specs.FrontParts.{HasNames, HasNoNames, HasCapabilities, HasNoCapabilities}
use Rattle.mig_mapped.proofs.FrontFields.{bytes_fit, to_end}
use Rattle.mig_mapped.proofs.FrontParsed.{HasList, list_is, capabilities_found, capabilities_none}
use Rattle.mig_mapped.proofs.FrontSteps.{if_some, if_none}
use Rattle.mig_mapped.proofs.front.capabilities_in.Goals as goal
use Rattle.mig_mapped.proofs.front.capabilities_in.Goals.{then-bytes-lt-NAMES_AT-via-then-bytes-lt-NAMES_AT}
use Rattle.mig_mapped.proofs.front.capabilities_in.Goals.{then-bytes-lt-NAMES_AT-via-else-bytes-lt-NAMES_AT+then-not-begins}

pub returns-then-bytes-lt-NAMES_AT-clause-none : goal.returns-then-bytes-lt-NAMES_AT-clause-none
unfolding subsection_name
returns-then-bytes-lt-NAMES_AT-clause-none c = λ names rest found is.
    let has : HasList c.args.bytes.now = list_is names rest c.args.bytes.now is.is_spelled in
    elim c.then-bytes-lt-NAMES_AT.branch [
      | then-bytes-lt-NAMES_AT-via-then-bytes-lt-NAMES_AT w ↦ omega (arith, has.is_long, w.if-bytes-lt-NAMES_AT.true)
      | then-bytes-lt-NAMES_AT-via-else-bytes-lt-NAMES_AT+then-not-begins w ↦
          let two : true ≡ false = sym (w.begins.ensures.all has.tail has.is_spelled) ∙ w.if-not-begins.true in absurd cc
    ]

pub returns-clause-found : goal.returns-clause-found
unfolding subsection_name
returns-clause-found c =
    let bytes : List ℕ = c.args.bytes.now in
    if_some NameList c.names_in.result (HasNames c.be32.result _) (HasCapabilities bytes)
    (λ found has. capabilities_found bytes found (bytes_fit bytes c.type_inv.bytes) c.if-bytes-lt-NAMES_AT.false (c.begins.ensures.found c.if-not-begins.false)
    (subst (λ (n : ℕ). HasNames n (drop 36 bytes) found) c.be32.ensures (subst (λ (l : List ℕ). HasNames c.be32.result l found) (to_end bytes 36) has)))
    c.names_in.ensures.found

pub returns-clause-none : goal.returns-clause-none
returns-clause-none c =
    let bytes : List ℕ = c.args.bytes.now in
    if_none NameList c.names_in.result (HasNoNames c.be32.result _) (HasNoCapabilities bytes)
    (λ none. capabilities_none bytes
    (subst (λ (n : ℕ). HasNoNames n (drop 36 bytes)) c.be32.ensures (subst (HasNoNames c.be32.result) (to_end bytes 36) none)))
    c.names_in.ensures.none
