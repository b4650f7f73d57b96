use Rattle.std.proofs.Common.{◌++◌, ap, arith, false, subst, sym}
use Rattle.mig_load_types.specs.Settings.{single_of}
use Rattle.mig_single_load.specs.Loader.{Loader, loader, sections_loaded, put_so_far, Loads}
use Rattle.mig_single_load.proofs.Sections.{fed_of}
use Rattle.mig_single_load.proofs.Feeding.{fed_longer, fed_piece, settled_some, waits_now, not_err}
use Rattle.mig_single_load.proofs.loader.SingleLoader.feed.Goals as goal

pub settle-requires : goal.settle-requires
settle-requires g c =
    let same = ap (λ (l : Loader). l.reader.fed) c.self.view_is in
    let room = c.requires.room in
    fed_piece c.self.inside.reader c.feed.new.self c.self.inside.target c.args.piece.now c.in-Ok.ensures.stands c.self.invariant (omega (arith, same, room))

pub invariant_of-self-in_default-settle : goal.invariant_of-self-in_default-settle
invariant_of-self-in_default-settle g c =
    let same = ap (λ (l : Loader). l.reader.fed) c.self.view_is in
    let room = c.requires.room in
    settled_some c.settle.result c.feed.new.self c.settle.new.reader c.self.inside.target c.settle.new.target
    (fed_piece c.self.inside.reader c.feed.new.self c.self.inside.target c.args.piece.now c.in-Ok.ensures.stands c.self.invariant (omega (arith, same, room)))
    c.settle.ensures.ok c.settle.ensures.waits c.settle.ensures.err

pub returns-in_default-settle-clause-waiting : goal.returns-in_default-settle-clause-waiting
returns-in_default-settle-clause-waiting g c = λ _ given text loads.
    let r = c.self.inside.reader in
    let o = c.self.inside.target in
    let fed = fed_longer given r c.feed.new.self o text c.args.piece.now false c.in-Ok.ensures.stands
    (fed_of given r o text false (subst (λ (l : Loader). Loads given l text false) (sym c.self.view_is) loads)) in
    waits_now given c.feed.new.self c.settle.new.reader o c.settle.new.target (text ++ c.args.piece.now) false fed
    (c.in_default-settle.ensures.waits given (text ++ c.args.piece.now) false fed) c.in_default-settle.ensures.err

pub invariant_of-self-2 : goal.invariant_of-self-2
invariant_of-self-2 g c =
    let same = ap (λ (l : Loader). l.reader.fed) c.self.view_is in
    let room = c.requires.room in
    settled_some c.settle.result c.feed.new.self c.settle.new.reader c.self.inside.target c.settle.new.target
    (fed_piece c.self.inside.reader c.feed.new.self c.self.inside.target c.args.piece.now c.in-Ok.ensures.stands c.self.invariant (omega (arith, same, room)))
    c.settle.ensures.ok c.settle.ensures.waits c.settle.ensures.err

pub returns-clause-ok : goal.returns-clause-ok
returns-clause-ok g c = λ given text loads.
    let r = c.self.inside.reader in
    let o = c.self.inside.target in
    c.in-Ok-settle.ensures.ok given (text ++ c.args.piece.now) false
    (fed_longer given r c.feed.new.self o text c.args.piece.now false c.in-Ok.ensures.stands
    (fed_of given r o text false (subst (λ (l : Loader). Loads given l text false) (sym c.self.view_is) loads)))

pub returns-in_default-clause-settled : goal.returns-in_default-clause-settled
returns-in_default-clause-settled g c = λ _ given text before settled.
    let loads = subst (λ (l : Loader). Loads given l text false) (sym c.self.view_is) before in
    let ok = c.feed.ensures.settled (single_of given)
    (put_so_far text false (sections_loaded (loader c.self.inside.reader c.self.inside.target))) loads.stands settled in
    not_err c.feed.result c.in_default.field-0 c.in_default.is ok
