use Rattle.std.proofs.Common.{◌≡◌, ◌≢◌, ◌+◌, List, ℕ, drop, get_or, inl, inr, sym, subst, ◌∙◌, arith}
use Rattle.mig_stream.specs.Format.{subsection_type}
use Rattle.mig_stream.specs.Machine.{SubsectionBody, subsection}
use Rattle.mig_mapped.specs.Front.{IsOther}
use Rattle.mig_mapped.specs.FrontParts.{BeginsWithAll, HasCapabilities, HasNoCapabilities}
use Rattle.mig_mapped.proofs.FrontFields.{to_end}
use Rattle.mig_mapped.proofs.FrontAdded.{configured_machine, no_list, no_place, added_last, added_name, list_long}
use Rattle.mig_mapped.proofs.front.with_mapped_ram.Goals as goal
use Rattle.mig_mapped.proofs.front.with_mapped_ram.Goals.{then-is_subsection-2-via-then-is_subsection-2}
use Rattle.mig_mapped.proofs.front.with_mapped_ram.Goals.{then-is_subsection-2-via-else-is_subsection-2+then-is_some}
use Rattle.mig_mapped.proofs.front.with_mapped_ram.Goals.{then-is_subsection-2-via-else-is_subsection-2+else-is_some+then-list}

-- what a part that goes to the end is, or isn't
others_at : (bytes : List ℕ) (at n : ℕ) (l : List ℕ) → l ≡ drop at bytes → BeginsWithAll SubsectionBody subsection IsOther l n
    → BeginsWithAll SubsectionBody subsection IsOther (drop at bytes) n
others_at bytes at n l is = subst (λ (x : List ℕ). BeginsWithAll SubsectionBody subsection IsOther x n) is

byte_at : (bytes : List ℕ) (at : ℕ) (l : List ℕ) → l ≡ drop at bytes → get_or l 0 0 ≡ subsection_type → get_or (drop at bytes) 0 0 ≡ subsection_type
byte_at bytes at l is = subst (λ (x : List ℕ). get_or x 0 0 ≡ subsection_type) is

other_at : (bytes : List ℕ) (at : ℕ) (l : List ℕ) → l ≡ drop at bytes → get_or l 0 0 ≢ subsection_type → get_or (drop at bytes) 0 0 ≢ subsection_type
other_at bytes at l is = subst (λ (x : List ℕ). get_or x 0 0 ≢ subsection_type) is

pub returns-in_default-clause-none : goal.returns-in_default-clause-none
returns-in_default-clause-none g c = configured_machine c.args.bytes.now c.in_default.ensures.none

pub returns-then-is_subsection-clause-none : goal.returns-then-is_subsection-clause-none
returns-then-is_subsection-clause-none g c =
    let bytes : List ℕ = c.args.bytes.now in
    let first : ℕ = c.in-Some.before in
    let others : ℕ = c.others_len.result in
    no_list bytes first others c.in-Some.ensures.found (others_at bytes first others _ (to_end bytes first) c.others_len.ensures)
    (subst HasNoCapabilities (to_end bytes (first + others)) c.in_default-capabilities_in.ensures.none)
    (byte_at bytes (first + others) _ (to_end bytes (first + others)) (c.is_subsection.ensures.found c.if-is_subsection.true))

pub returns-in_default-capabilities_in-clause-added : goal.returns-in_default-capabilities_in-clause-added
returns-in_default-capabilities_in-clause-added g c =
    let bytes : List ℕ = c.args.bytes.now in
    let first : ℕ = c.in-Some.before in
    let others : ℕ = c.others_len.result in
    added_last bytes c.in_ok-with_subsection.field-0.items first others c.in-Some.ensures.found
    (others_at bytes first others _ (to_end bytes first) c.others_len.ensures)
    (other_at bytes (first + others) _ (to_end bytes (first + others)) (c.is_subsection.ensures.none c.if-is_subsection.false))
    c.in_ok-with_subsection.ensures

pub returns-then-is_subsection-2-clause-none : goal.returns-then-is_subsection-2-clause-none
returns-then-is_subsection-2-clause-none g c =
    let bytes : List ℕ = c.args.bytes.now in
    let first : ℕ = c.in-Some.before in
    let others : ℕ = c.others_len.result in
    let list = c.in-Some-capabilities_in.list in
    let more : ℕ = c.others_len-2.result in
    let at : ℕ = first + others + list.len + more in
    no_place bytes first others list more c.in-Some.ensures.found (others_at bytes first others _ (to_end bytes first) c.others_len.ensures)
    (subst (λ (x : List ℕ). HasCapabilities x list) (to_end bytes (first + others)) c.in-Some-capabilities_in.ensures.found)
    (others_at bytes (first + others + list.len) more _ (to_end bytes (first + others + list.len)) c.others_len-2.ensures)
    (elim c.then-is_subsection-2.branch [
      | then-is_subsection-2-via-then-is_subsection-2 w ↦
          inl (byte_at bytes at _ (to_end bytes at) (c.is_subsection-2.ensures.found w.if-is_subsection-2.true))
      | then-is_subsection-2-via-else-is_subsection-2+then-is_some w ↦ inr (inl (sym w.is_some.ensures ∙ w.if-is_some.true))
      | then-is_subsection-2-via-else-is_subsection-2+else-is_some+then-list w ↦ inr (inr w.if-list.true)
    ])

pub with_name-requires-clause-names : goal.with_name-requires-clause-names
with_name-requires-clause-names g c =
    let bytes : List ℕ = c.args.bytes.now in
    let at : ℕ = c.in-Some.before + c.others_len.result in
    let list = c.in-Some-capabilities_in.list in
    omega (arith, list_long (drop at bytes) list (subst (λ (x : List ℕ). HasCapabilities x list) (to_end bytes at) c.in-Some-capabilities_in.ensures.found))

pub returns-clause-added : goal.returns-clause-added
returns-clause-added g c =
    let bytes : List ℕ = c.args.bytes.now in
    let first : ℕ = c.in-Some.before in
    let others : ℕ = c.others_len.result in
    let list = c.in-Some-capabilities_in.list in
    let more : ℕ = c.others_len-2.result in
    let at : ℕ = first + others + list.len + more in
    let has : HasCapabilities (drop (first + others) bytes) list =
    subst (λ (x : List ℕ). HasCapabilities x list) (to_end bytes (first + others)) c.in-Some-capabilities_in.ensures.found in
    added_name bytes c.in_ok-with_name.field-0.items first others list more c.in-Some.ensures.found
    (others_at bytes first others _ (to_end bytes first) c.others_len.ensures) has
    (others_at bytes (first + others + list.len) more _ (to_end bytes (first + others + list.len)) c.others_len-2.ensures)
    (other_at bytes at _ (to_end bytes at) (c.is_subsection-2.ensures.none c.if-is_subsection-2.false))
    (sym c.is_some.ensures ∙ c.if-is_some.false)
    (omega (arith, has.2.has_count, has.2.is_short, c.if-list.false)) c.in_ok-with_name.ensures
