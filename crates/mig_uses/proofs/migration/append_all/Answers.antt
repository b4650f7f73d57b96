use Rattle.std.proofs.Common.{ℕ, ◌≡◌, ◌<◌, ◌++◌, List, length, get_or, [], ap, ◌∙◌, arith}
use Rattle.std.specs.Prelude.{Vec}
use Rattle.std.proofs.lemmas.List.{length-map}
use Rattle.mig_send.specs.MultiSending.{texts_of}
use Rattle.mig_send.proofs.Sendings.{texts_long}
use Rattle.mig_uses.proofs.Arriving.{one_more, text_at, all_of_them}
use Rattle.mig_uses.proofs.migration.append_all.Goals as goal

pub loop-i-preserved : goal.loop-i-preserved
loop-i-preserved g c =
    let items = λ (text : Vec ℕ _). text.items in
    let olds : List (List ℕ) = texts_of c.args.texts.now.items in
    let texts = c.loop-i.texts.items in
    let rest = c.args.rest.now in
    let i = c.loop-i.i in
    let old = c.index_mut.result.now in
    let here : i < length texts = omega (
      arith,
      c.loop-i-test.true,
      c.requires,
      c.loop-i.invariant.as_many,
      length-map texts items,
      length-map c.args.texts.now.items items,
    ) in
    let more : c.deref.result.now ≡ get_or (texts_of rest) i [] =
    c.deref.ensures.value ∙ text_at rest i c.index-rest-i.result c.loop-i-test.true c.index-rest-i.is in
    let new = c.in_ok-extend_from_slice.ensures.items
    ∙ (ap (λ (l : List ℕ). old.items ++ l) more ∙ ap (λ (l : List ℕ). l ++ get_or (texts_of rest) i []) (ap items c.index_mut.ensures.value)) in
    one_more texts olds (texts_of rest) i c.extend_from_slice.new.self old here new c.loop-i.invariant

pub returns : goal.returns
returns g c =
    let items = λ (text : Vec ℕ _). text.items in
    let rest = c.args.rest.now in
    all_of_them (texts_of c.args.texts.now.items) (texts_of rest) (texts_of c.loop-i.texts.items) c.loop-i.i
    (omega (arith, c.loop-i-test.false, length-map rest items)) (texts_long c.args.texts.now.items rest c.requires) c.loop-i.invariant
