use Rattle.std.proofs.Common.{◌≡◌, ◌∙◌, ◌+◌, ◌-◌, ◌++◌, ◌∷◌, [], ℕ, None, sym, ap, subst, arith}
use Rattle.mig_stream.specs.Items.{length_in}
use Rattle.mig_mapped.specs.declared.head.Header.{Header}
use Rattle.mig_mapped.specs.Block.{MappedBlock}
use Rattle.mig_mapped.specs.Head.{MappedProgress, head_fault, block_in, pages_offset_in, after_head}
use Rattle.mig_mapped.specs.Index.{IsIndex}
use Rattle.mig_mapped.proofs.Heads.{IsHead, head_good}
use Rattle.mig_mapped.proofs.Tabled.{next_index, next_progress}
use Rattle.mig_mapped.proofs.index.MappedIndex.push.Goals as goal

pub overflow_sub-self : goal.overflow_sub-self
overflow_sub-self g c =
    let v : MappedProgress = record {
      given = c.self.inside.settings;
      place = c.self.inside.place;
      left = c.self.inside.left;
      blocks =
          c.self.inside.blocks.items;
    } in
    let good : head_fault v c.args.bytes.now ≡ None = subst (λ (x : MappedProgress). head_fault x c.args.bytes.now ≡ None) (sym c.self.view_is) c.requires in
    let h : IsHead v c.args.bytes.now = head_good v c.args.bytes.now good in
    omega (arith, c.length_in-len.ensures, h.entry.fits)

pub invariant_of-self-2 : goal.invariant_of-self-2
invariant_of-self-2 g c =
    let v : MappedProgress = record {
      given = c.self.inside.settings;
      place = c.self.inside.place;
      left = c.self.inside.left;
      blocks =
          c.self.inside.blocks.items;
    } in
    let good : head_fault v c.args.bytes.now ≡ None = subst (λ (x : MappedProgress). head_fault x c.args.bytes.now ≡ None) (sym c.self.view_is) c.requires in
    let h : IsHead v c.args.bytes.now = head_good v c.args.bytes.now good in
    let at : c.header_in.result.pages_offset ≡ pages_offset_in c.args.bytes.now = ap (λ (x : Header). x.pages_offset) c.header_in.ensures in
    let same : c.in_ok-block.block ≡ block_in v.given.page_size c.args.bytes.now =
    c.in_ok-block.ensures ∙ ap (λ (x : MappedProgress). block_in x.given.page_size c.args.bytes.now) (sym c.self.view_is) in
    let blocks : c.push.new.self.items ≡ v.blocks ++ block_in v.given.page_size c.args.bytes.now ∷ [] =
    c.in_ok-push.ensures.items ∙ ap (λ (x : MappedBlock). v.blocks ++ x ∷ []) same in
    let place : c.header_in.result.pages_offset + c.length_in-len.result ≡ pages_offset_in c.args.bytes.now + length_in c.args.bytes.now =
    omega (arith, at, c.length_in-len.ensures) in
    subst IsIndex (next_progress v c.args.bytes.now h.entry (c.header_in.result.pages_offset + c.length_in-len.result)
    (c.self.inside.left - c.length_in-len.result)
    c.push.new.self.items place (ap (λ (n : ℕ). c.self.inside.left - n) c.length_in-len.ensures) blocks)
    (next_index v c.args.bytes.now c.self.invariant good)

pub returns-clause-ok : goal.returns-clause-ok
returns-clause-ok g c =
    let v : MappedProgress = record {
      given = c.self.inside.settings;
      place = c.self.inside.place;
      left = c.self.inside.left;
      blocks =
          c.self.inside.blocks.items;
    } in
    let good : head_fault v c.args.bytes.now ≡ None = subst (λ (x : MappedProgress). head_fault x c.args.bytes.now ≡ None) (sym c.self.view_is) c.requires in
    let h : IsHead v c.args.bytes.now = head_good v c.args.bytes.now good in
    let at : c.header_in.result.pages_offset ≡ pages_offset_in c.args.bytes.now = ap (λ (x : Header). x.pages_offset) c.header_in.ensures in
    let same : c.in_ok-block.block ≡ block_in v.given.page_size c.args.bytes.now =
    c.in_ok-block.ensures ∙ ap (λ (x : MappedProgress). block_in x.given.page_size c.args.bytes.now) (sym c.self.view_is) in
    let blocks : c.push.new.self.items ≡ v.blocks ++ block_in v.given.page_size c.args.bytes.now ∷ [] =
    c.in_ok-push.ensures.items ∙ ap (λ (x : MappedBlock). v.blocks ++ x ∷ []) same in
    let place : c.header_in.result.pages_offset + c.length_in-len.result ≡ pages_offset_in c.args.bytes.now + length_in c.args.bytes.now =
    omega (arith, at, c.length_in-len.ensures) in
    sym (next_progress v c.args.bytes.now h.entry (c.header_in.result.pages_offset + c.length_in-len.result) (c.self.inside.left - c.length_in-len.result)
    c.push.new.self.items place (ap (λ (n : ℕ). c.self.inside.left - n) c.length_in-len.ensures) blocks)
    ∙ ap (λ (x : MappedProgress). after_head x c.args.bytes.now) c.self.view_is
