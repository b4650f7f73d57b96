use Rattle.std.proofs.Common.{ℕ, ◌≡◌, ◌<◌, ◌+◌, ◌∙◌, List, [], length, get_or, take, sym, ap, suc, arith}
use Rattle.std.specs.Prelude.{Vec}
use Rattle.std.specs.List.{slice_set}
use Rattle.std.proofs.lemmas.List.{length-map, map-set, get_or-map}
use Rattle.mig_send.specs.MultiSending.{texts_of, cut_texts}
use Rattle.mig_send.proofs.Channels.{cut_more}
use Rattle.mig_send.proofs.multi.cut_back.Goals as goal

pub channels-preserved : goal.channels-preserved
channels-preserved g c =
    let items = λ (text : Vec ℕ _). text.items in
    let lens = c.args.lens.now in
    let olds = texts_of c.args.channels.now.items in
    let news = c.channels.channels.items in
    let i = c.channels.i in
    let text = c.index_mut.result.now in
    let before = c.channels.invariant in
    let inside : i < length news = omega (arith, c.channels-test.true, c.requires, before.len, c.channels.channels.ok.0) in
    let cut : List (List ℕ) = cut_texts (take i lens) olds in
    let at : text.items ≡ get_or cut i [] = ap items c.index_mut.ensures.value
    ∙ (sym (get_or-map items news i text [] inside) ∙ ap (λ (l : List (List ℕ)). get_or l i []) before.texts) in
    let long : i < length cut = omega (arith, inside, length-map news items, ap length before.texts) in
    let next : suc i ≡ i + 1 = omega arith in
    record {
      len = before.len;
      texts = map-set items news i c.truncate.new.self
          ∙ (ap (λ (l : List ℕ). slice_set (texts_of news) i l) (c.truncate.ensures.items ∙ ap (take (get_or lens i 0)) at)
          ∙ (ap (λ (l : List (List ℕ)). slice_set l i (take (get_or lens i 0) (get_or cut i []))) before.texts
          ∙ (cut_more lens olds i c.channels-test.true long ∙ ap (λ (n : ℕ). cut_texts (take n lens) olds) next)));
    }
