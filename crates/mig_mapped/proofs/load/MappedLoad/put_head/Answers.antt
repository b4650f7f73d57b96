use Rattle.std.proofs.Common.{◌≡◌, ◌∙◌, ◌+◌, ℕ, length, take, None, sym, ap, subst}
use Rattle.mig_mem.specs.Image.{Image}
use Rattle.mig_mapped.specs.Head.{MappedProgress, head_fault, block_in}
use Rattle.mig_mapped.specs.Load.{MappedLoading, IsLoading, IsAtHead, IsNextOwn, PutsHead, LoadsMore, cleared}
use Rattle.mig_mapped.proofs.Steps.{head_keeps}
use Rattle.mig_mapped.proofs.HeadTaken.{head_loads, cleared_own}
use Rattle.mig_mapped.proofs.load.MappedLoad.put_head.Goals as goal

pub invariant_of-self-2 : goal.invariant_of-self-2
invariant_of-self-2 g c =
    let s : MappedLoading = record { index = c.self.inside.index; place = c.self.inside.place } in
    let head : IsAtHead s = subst IsAtHead (sym c.self.view_is) c.requires.head in
    let good : head_fault s.index c.args.bytes.now ≡ None = subst (λ (x : MappedLoading). head_fault x.index c.args.bytes.now ≡ None)
    (sym c.self.view_is) c.requires.good in
    subst (λ (x : MappedProgress). IsLoading (record { index = x; place = s.place + c.bitmap_end-len.result })) (sym c.in_ok-push.ensures.ok)
    (head_keeps s c.args.bytes.now c.bitmap_end-len.result c.self.invariant head good c.bitmap_end-len.ensures.value)

pub returns-clause-ok : goal.returns-clause-ok
returns-clause-ok g c =
    let s : MappedLoading = record { index = c.self.inside.index; place = c.self.inside.place } in
    let n : ℕ = c.bitmap_end-len.result in
    let before : Image = g.M.GuestTarget.image c.args.memory.now in
    let head : IsAtHead s = subst IsAtHead (sym c.self.view_is) c.requires.head in
    let good : head_fault s.index c.args.bytes.now ≡ None = subst (λ (x : MappedLoading). head_fault x.index c.args.bytes.now ≡ None)
    (sym c.self.view_is) c.requires.good in
    let own : IsNextOwn before.table s.index c.args.bytes.now =
    subst (λ (x : MappedLoading). IsNextOwn before.table x.index c.args.bytes.now) (sym c.self.view_is) c.requires.own in
    let size : before.table.page_size ≡ s.index.given.page_size = c.requires.size ∙ ap (λ (x : MappedLoading). x.index.given.page_size) (sym c.self.view_is) in
    let next : MappedLoading = record { index = c.push.new.self; place = s.place + n } in
    let memory : g.M.GuestTarget.image c.clear_unset.new.memory
    ≡ cleared s.index.given (block_in s.index.given.page_size c.args.bytes.now) (length s.index.blocks)
    (block_in s.index.given.page_size c.args.bytes.now).pages before =
    c.clear_unset.ensures ∙ cleared_own s.index c.push.new.self c.args.bytes.now c.len-block.result before c.in_ok-push.ensures.ok c.len-block.ensures in
    let puts : PutsHead s before c.args.bytes.now next (g.M.GuestTarget.image c.clear_unset.new.memory) n = record {
      has_len = c.bitmap_end-len.ensures.value;
      has_index = c.in_ok-push.ensures.ok;
      loads = subst (λ (m : Image). LoadsMore s before (take n c.args.bytes.now) next m) (sym memory)
          (subst (λ (x : MappedProgress). LoadsMore s before (take n c.args.bytes.now) (record { index = x; place = s.place + n })
          (cleared s.index.given (block_in s.index.given.page_size c.args.bytes.now) (length s.index.blocks)
          (block_in s.index.given.page_size c.args.bytes.now).pages before))
          (sym c.in_ok-push.ensures.ok)
          (head_loads s c.args.bytes.now n before c.self.invariant head good c.bitmap_end-len.ensures.value own size));
    } in
    subst (λ (x : MappedLoading). PutsHead x before c.args.bytes.now next (g.M.GuestTarget.image c.clear_unset.new.memory) n) c.self.view_is puts
