use Rattle.std.proofs.Common.{◌≡◌, ◌∙◌, ◌+◌, ◌++◌, length, sym, ap, subst}
use Rattle.mig_mem.specs.Image.{Image}
use Rattle.mig_mapped.specs.Load.{MappedLoading, LoadsMapped, IsDue}
use Rattle.mig_mapped.proofs.Loading.{page_loads}
use Rattle.mig_mapped.proofs.load.MappedLoad.put_page.Goals as goal

pub returns-clause-loads : goal.returns-clause-loads
returns-clause-loads g c = λ at total first file l.
    let s : MappedLoading = record { index = c.self.inside.index; place = c.self.inside.place } in
    let before : Image = g.M.GuestTarget.image c.args.memory.now in
    let due : IsDue s c.args.place = subst (λ (x : MappedLoading). IsDue x c.args.place) (sym c.self.view_is) c.requires.due in
    let len : length c.args.content.now ≡ s.index.given.page_size =
    c.requires.len ∙ ap (λ (x : MappedLoading). x.index.given.page_size) (sym c.self.view_is) in
    subst (λ (m : Image). LoadsMapped at total first (file ++ c.args.content.now) (record s { place = s.place + length c.args.content.now }) m)
    (sym c.put_page.ensures.image)
    (page_loads s c.args.place c.args.content.now before c.self.invariant due len c.requires.place at total first file
    (subst (λ (x : MappedLoading). LoadsMapped at total first file x before) (sym c.self.view_is) l))
