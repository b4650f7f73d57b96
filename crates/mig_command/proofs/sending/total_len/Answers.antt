use Rattle.std.proofs.Common.{ℕ, ◌≡◌, ◌+◌, ◌<◌, ◌^◌, ◌-◌, ◌∙◌, min, take, length, get_or, List, [], sym, ap, arith}
use Rattle.std.specs.Prelude.{sum_by, Vec}
use Rattle.std.proofs.lemmas.List.{take_all, length-map, get_or-map}
use Rattle.std.proofs.lemmas.List.Sums.{sum_by_more}
use Rattle.mig_send.specs.MultiSending.{texts_of}
use Rattle.mig_command.proofs.Lengths.{saturated}
use Rattle.mig_command.proofs.sending.total_len.Goals as goal

pub loop-text-preserved : goal.loop-text-preserved
loop-text-preserved g c =
    let channels = c.args.channels.now in
    let texts = texts_of channels in
    let i = c.loop-text.text-index in
    let most = 2 ^ 64 - 1 in
    let many : length texts ≡ length channels = length-map channels (λ (t : Vec ℕ _). t.items) in
    let lt : i < length channels = omega arith in
    let row : get_or texts i [] ≡ c.text-item.result.items =
    get_or-map (λ (t : Vec ℕ _). t.items) channels i c.text-item.result [] lt ∙ ap (λ (t : Vec ℕ _). t.items) (sym c.text-item.is) in
    let so_far : ℕ = sum_by length (take i texts) in
    let added : c.saturating_add-total.result ≡ min (min so_far most + c.len.result) most =
    c.saturating_add-total.ensures ∙ ap (λ (n : ℕ). min (n + c.len.result) most) c.loop-text.invariant in
    let more : sum_by length (take (i + 1) texts) ≡ so_far + c.len.result =
    sum_by_more length texts i [] (omega (arith, many))
    ∙ ap (λ (n : ℕ). so_far + n) (ap (λ (l : List ℕ). length l) row ∙ sym c.text-item.result.ok.0 ∙ sym c.len.ensures) in
    added ∙ saturated so_far c.len.result most ∙ ap (λ (n : ℕ). min n most) (sym more)

pub returns : goal.returns
returns g c =
    let channels = c.args.channels.now in
    let texts = texts_of channels in
    let many : length texts ≡ length channels = length-map channels (λ (t : Vec ℕ _). t.items) in
    let all : take c.loop-text.text-index texts ≡ texts = take_all c.loop-text.text-index texts (omega (arith, many)) in
    c.loop-text.invariant ∙ ap (λ (l : List (List ℕ)). min (sum_by length l) (2 ^ 64 - 1)) all
