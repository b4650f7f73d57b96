use Rattle.std.proofs.Common.{ℕ, ◌+◌, ◌∙◌, Bor, List, [], ◌∷◌, ◌++◌, sym, ap, arith}
use Rattle.std.proofs.lemmas.List.{map-append}
use Rattle.std.proofs.lemmas.List.FromFn.{map-range_with_len_more}
use Rattle.mig_mem.specs.declared.place.Place.{Place}
use Rattle.mig_mem.specs.Image.{Image, content_at}
use Rattle.mig_mem.specs.Lent.{lent_bytes}
use Rattle.mig_uses.specs.Straight.{page_place, contents_in}
use Rattle.mig_uses.proofs.straight.contents_of.Goals as goal

pub loop-i-preserved : goal.loop-i-preserved
loop-i-preserved g c =
    let head : List ℕ = c.args.head.now.bytes.now in
    let m : Image = g.M.GuestTarget.image c.args.memory.now in
    let b : ℕ = c.args.block in
    let i : ℕ = c.loop-i.i in
    let so_far = c.loop-i.invariant in
    record {
      has =
          ap (λ (l : List (Bor (List ℕ))). lent_bytes l) c.push_reserved.ensures.items
          ∙ map-append (λ (x : Bor (List ℕ)). x.now) c.loop-i.contents.items (c.page.result ∷ [])
          ∙ ap (λ (l : List (List ℕ)). l ++ c.page.result.now ∷ []) so_far.has
          ∙ ap (λ (x : List ℕ). contents_in m b head i ++ x ∷ []) (c.page.ensures ∙ ap (λ (p : Place). content_at m p) c.place_of.ensures)
          ∙ sym (map-range_with_len_more (λ (j : ℕ). content_at m (page_place m.table b head j)) 0 i i (omega arith));
      len = c.push_reserved.ensures.len ∙ ap (λ (n : ℕ). n + 1) so_far.len;
      room = c.push_reserved.ensures.capacity ∙ so_far.room;
    }
