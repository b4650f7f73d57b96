use Rattle.std.proofs.Common.{◌≡◌, ◌∙◌, ◌++◌, ◌∷◌, [], ℕ, ◌-◌, ◌/◌, sym, ap, refl, subst, List, Some}
use Rattle.std.specs.Option.{unwrap_or}
use Rattle.mig_mem.specs.RamTable.{Block, IsTable}
use Rattle.mig_stream.specs.Entries.{Listed, AreListed, IsNext, listed_table}
use Rattle.mig_stream.proofs.Entering.{listed_more, listed_table_more}
use Rattle.mig_stream.proofs.entries.Entries.push.Goals as goal

pub whole_table-requires : goal.whole_table-requires
whole_table-requires g c =
    let e : Listed = record {
      page_size = c.self.inside.page_size;
      limit = c.self.inside.limit;
      left = c.self.inside.left;
      blocks = c.self.inside.blocks.items;
    } in
    let b : Block = record { id = c.in_ok-id.id; pages = c.args.len / c.self.inside.page_size } in
    let next : IsNext e c.args.id.now c.args.len = subst (λ (x : Listed). IsNext x c.args.id.now c.args.len) (sym c.self.view_is) c.requires in
    let more : AreListed e.page_size e.limit (Some (unwrap_or e.left 0 - c.args.len)) (e.blocks ++ b ∷ []) =
    listed_more e c.args.id.now c.args.len (unwrap_or e.left 0 - c.args.len) b c.self.invariant.0 next c.in_ok-id.ensures refl refl in
    let blocks : c.deref.result.now ≡ e.blocks ++ b ∷ [] = c.deref.ensures.value ∙ c.in_ok-push.ensures.items in
    subst (λ (x : List Block). IsTable (record { page_size = c.self.inside.page_size; blocks = x })) (sym blocks)
    (listed_table_more e.page_size e.limit (unwrap_or e.left 0 - c.args.len) e.blocks b more)

pub invariant_of-self-in-Ok : goal.invariant_of-self-in-Ok
invariant_of-self-in-Ok g c =
    let e : Listed = record {
      page_size = c.self.inside.page_size;
      limit = c.self.inside.limit;
      left = c.self.inside.left;
      blocks = c.self.inside.blocks.items;
    } in
    let b : Block = record { id = c.in_ok-id.id; pages = c.args.len / c.self.inside.page_size } in
    let left : c.unwrap_or.result ≡ unwrap_or e.left 0 = c.unwrap_or.ensures in
    let next : IsNext e c.args.id.now c.args.len = subst (λ (x : Listed). IsNext x c.args.id.now c.args.len) (sym c.self.view_is) c.requires in
    let more : AreListed e.page_size e.limit (Some (c.unwrap_or.result - c.args.len)) (e.blocks ++ b ∷ []) =
    listed_more e c.args.id.now c.args.len (c.unwrap_or.result - c.args.len) b c.self.invariant.0 next c.in_ok-id.ensures refl
    (ap (λ (n : ℕ). n - c.args.len) left) in (
      subst (AreListed e.page_size e.limit (Some (c.unwrap_or.result - c.args.len))) (sym c.in_ok-push.ensures.items) more,
      c.in-Ok.ensures ∙ ap (listed_table c.self.inside.page_size (Some (c.unwrap_or.result - c.args.len))) c.deref.ensures.value,
    )
