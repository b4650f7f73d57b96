use Rattle.std.proofs.Common.{◌≡◌, ◌<◌, ◌+◌, ◌∙◌, ℕ, List, [], refl, arith, length, drop, get_or, set, sym, ap}
use Rattle.std.specs.Prelude.{Vec}
use Rattle.std.specs.declared.alloc.Global.{Global}
use Rattle.std.proofs.lemmas.List.{get_or-map}
use Rattle.std.proofs.lemmas.Grind.{get_or_default_zero}
use Rattle.mig_send.specs.MultiSending.{texts_of}
use Rattle.mig_c_calls.specs.Multi.{left_of}
use Rattle.mig_c_calls.proofs.Ends.{skips_none, skips_left, past_all}
use Rattle.mig_c_calls.proofs.multi.skip_ended.Goals.{then-channel-len-via-then-channel-len, then-channel-len-via-else-channel-len+then-channel-len-2}
use Rattle.mig_c_calls.proofs.multi.skip_ended.Goals as goal

pub returns-then-channel-len : goal.returns-then-channel-len
returns-then-channel-len c =
    let e = c.args.streams.now in
    skips_none e c.args.channel c.args.len (λ setting long lt. elim c.then-channel-len.branch [
      | then-channel-len-via-then-channel-len w ↦ past_all e c.args.channel (omega (arith, w.if-channel-len.true, c.len.ensures, e.sent.channels.ok.0))
      | then-channel-len-via-else-channel-len+then-channel-len-2 w ↦
          absurd (omega (arith, long, lt, w.if-channel-len-2.true, w.len-else-channel-len.ensures, e.given.ok.0))
    ])

pub returns : goal.returns
returns c =
    let e = c.args.streams.now in
    let at : ℕ = c.args.channel in
    let count : ℕ = c.min-count.result in
    let items : Vec ℕ Global → List ℕ = λ v. v.items in
    let lt : at < length e.given.items = omega (arith, c.if-channel-len-2.false, c.len-else-channel-len.ensures, e.given.ok.0) in
    let within : at < length e.sent.channels.items = omega (arith, c.if-channel-len.false, c.len.ensures, e.sent.channels.ok.0) in
    let given : c.index-given.result.now ≡ get_or e.given.items at 0 = c.index-given.ensures
    ∙ get_or_default_zero e.given.items at c.index-given.result.now lt in
    let text : get_or (texts_of e.sent.channels.items) at [] ≡ c.index.result.now.items =
    get_or-map items e.sent.channels.items at c.index.result.now [] within ∙ ap items (sym c.index.ensures) in
    let here : c.undrained.result.now ≡ left_of e at =
    c.undrained.ensures ∙ ap (λ (n : ℕ). drop n c.deref.result.now) given
    ∙ ap (λ (l : List ℕ). drop (get_or e.given.items at 0) l) (c.deref.ensures.value ∙ sym text) in
    skips_left e _ at c.args.len count lt within refl (ap (λ (n : ℕ). set e.given.items at (n + count)) given) refl refl
    (grind (arith, c.min-count.ensures, ap (λ (l : List ℕ). length l) here))
