use Rattle.std.proofs.Common.{◌≡◌, ◌<◌, ◌++◌, ◌∷◌, [], List, ℕ, ◌∙◌, length, get_or, take, map, refl, sym, ap, rules}
use Rattle.std.proofs.lemmas.List.{map-append, take_more}
use Rattle.std.proofs.lemmas.List.Elements.{All-push}
use Rattle.mig_packet.specs.declared.packet.Packet.{Packet}
use Rattle.mig_packet.proofs.round.Packets.lend.Goals as goal

pub loop-text-preserved : goal.loop-text-preserved
loop-text-preserved g c =
    let texts : List (List ℕ) = c.deref-text-items.result.now in
    let i : ℕ = c.loop-text.text-index in
    let lt : i < length texts = search rules in
    let text : c.as_slice.result.now ≡ get_or texts i c.text-item.result = c.as_slice.ensures ∙ c.text-item.is in
    let lends : Packet → List ℕ = λ p. p.bytes.now in
    record {
      texts = ap (map lends) c.in_ok-push.ensures.items ∙ map-append lends c.loop-text.packets.items _
          ∙ ap (λ (x : List (List ℕ)). x ++ c.as_slice.result.now ∷ []) c.loop-text.invariant.texts
          ∙ ap (λ (x : List ℕ). take i texts ++ x ∷ []) text ∙ sym (take_more texts i c.text-item.result lt);
      page_sizes = rw c.in_ok-push.ensures.items
          (All-push (λ (p : Packet). p.page_size ≡ c.args.page_size) c.loop-text.packets.items _ c.loop-text.invariant.page_sizes refl);
    }
