use Rattle.std.proofs.Common.{◌≡◌, ◌∙◌, Option, Some, None, refl, subst, sym, length, ap}
use Rattle.mig_answer.specs.Texts.{with_piece}
use Rattle.mig_session.specs.Loading.{RoundLoad, Feeding, fed, TakesOrWaits, HasAloneIfAny}
use Rattle.mig_session.specs.Session.{Fed}
use Rattle.mig_session.specs.Advancing.{IsMadeWith, IsReady, IsFedNext}
use Rattle.mig_session.proofs.FedSources.{on_err, if_ok, err_on}
use Rattle.mig_session.proofs.Parts.{there_after, room_goes}
use Rattle.mig_session.proofs.Advances.{alone_if_any, alone_on, made_next}
use Rattle.mig_session.proofs.session.take.Goals as goal

pub returns-in_default-clause-err : goal.returns-in_default-clause-err
returns-in_default-clause-err g c = λ f given.
    let i = c.fed.inside in
    let next : IsFedNext c.args.settings c.args.uuid.now c.args.counts.now c.args.source c.args.piece.now f
    (record { read = i.sources; waiting = i.waiting }) c.args.load.now =
    subst (λ (x : Fed). IsFedNext c.args.settings c.args.uuid.now c.args.counts.now c.args.source c.args.piece.now f x c.args.load.now)
    (sym c.fed.view_is) given in
    alone_on f (fed c.args.source c.args.piece.now f).texts c.args.load.now next.is_made.is_of_session.is_page_size
    (room_goes f.texts c.args.source c.args.piece.now next.has_room)
    (alone_if_any f i.waiting c.args.load.now next.is_made.is_of_session.is_page_size next.takes)

pub note-requires : goal.note-requires
note-requires g c =
    let f : Feeding = c.requires.0 in
    let given = c.requires.1 in
    let i = c.fed.inside in
    let next : IsFedNext c.args.settings c.args.uuid.now c.args.counts.now c.args.source c.args.piece.now f
    (record { read = i.sources; waiting = i.waiting }) c.args.load.now =
    subst (λ (x : Fed). IsFedNext c.args.settings c.args.uuid.now c.args.counts.now c.args.source c.args.piece.now f x c.args.load.now)
    (sym c.fed.view_is) given in (
      fed c.args.source c.args.piece.now f,
      c.in-Ok.ensures f.given f.uuid f.texts next.holds,
      there_after c.args.source c.args.source (with_piece c.args.piece.now) f.texts next.has_room.there,
    )

pub put_any-requires : goal.put_any-requires
put_any-requires g c =
    let f : Feeding = c.requires.0 in
    let given = c.requires.1 in
    let i = c.fed.inside in
    let next : IsFedNext c.args.settings c.args.uuid.now c.args.counts.now c.args.source c.args.piece.now f
    (record { read = i.sources; waiting = i.waiting }) c.args.load.now =
    subst (λ (x : Fed). IsFedNext c.args.settings c.args.uuid.now c.args.counts.now c.args.source c.args.piece.now f x c.args.load.now)
    (sym c.fed.view_is) given in
    (f, next.takes, next.has_room)

pub returns-in_err-put_any-clause-err : goal.returns-in_err-put_any-clause-err
returns-in_err-put_any-clause-err g c = on_err c.from_residual.result (λ f given.
    let i = c.fed.inside in
    let next : IsFedNext c.args.settings c.args.uuid.now c.args.counts.now c.args.source c.args.piece.now f
    (record { read = i.sources; waiting = i.waiting }) c.args.load.now =
    subst (λ (x : Fed). IsFedNext c.args.settings c.args.uuid.now c.args.counts.now c.args.source c.args.piece.now f x c.args.load.now)
    (sym c.fed.view_is) given in
    c.in_err-put_any.ensures.err f next.takes next.has_room)

pub begin-requires : goal.begin-requires
begin-requires g c =
    let f : Feeding = c.requires.0 in
    let given = c.requires.1 in
    let i = c.fed.inside in
    let next : IsFedNext c.args.settings c.args.uuid.now c.args.counts.now c.args.source c.args.piece.now f
    (record { read = i.sources; waiting = i.waiting }) c.args.load.now =
    subst (λ (x : Fed). IsFedNext c.args.settings c.args.uuid.now c.args.counts.now c.args.source c.args.piece.now f x c.args.load.now)
    (sym c.fed.view_is) given in (
      fed c.args.source c.args.piece.now f,
      made_next c.args.settings c.args.uuid.now c.args.counts.now c.args.source c.args.piece.now f c.channels.result next.is_made
          c.channels.ensures,
      c.in-Ok.ensures f.given f.uuid f.texts next.holds,
    )

pub returns-in_err-begin-clause-err : goal.returns-in_err-begin-clause-err
returns-in_err-begin-clause-err g c = on_err c.from_residual-in_err-begin.result (λ f given.
    let i = c.fed.inside in
    let next : IsFedNext c.args.settings c.args.uuid.now c.args.counts.now c.args.source c.args.piece.now f
    (record { read = i.sources; waiting = i.waiting }) c.args.load.now =
    subst (λ (x : Fed). IsFedNext c.args.settings c.args.uuid.now c.args.counts.now c.args.source c.args.piece.now f x c.args.load.now)
    (sym c.fed.view_is) given in
    subst (λ (o : Option RoundLoad). HasAloneIfAny (fed c.args.source c.args.piece.now f) o) (sym c.in_err-begin.ensures.err)
    (alone_if_any (fed c.args.source c.args.piece.now f) c.put_any.new.waiting c.put_any.new.load next.is_made.is_of_session.is_page_size
    (c.in_ok-put_any.ensures.ok f next.takes next.has_room)))

pub advance-requires : goal.advance-requires
advance-requires g c =
    let f : Feeding = c.requires.0 in
    let given = c.requires.1 in
    let i = c.fed.inside in
    let next : IsFedNext c.args.settings c.args.uuid.now c.args.counts.now c.args.source c.args.piece.now f
    (record { read = i.sources; waiting = i.waiting }) c.args.load.now =
    subst (λ (x : Fed). IsFedNext c.args.settings c.args.uuid.now c.args.counts.now c.args.source c.args.piece.now f x c.args.load.now)
    (sym c.fed.view_is) given in
    let all : Feeding = fed c.args.source c.args.piece.now f in
    let holds = c.in-Ok.ensures f.given f.uuid f.texts next.holds in
    let made = made_next c.args.settings c.args.uuid.now c.args.counts.now c.args.source c.args.piece.now f c.channels.result next.is_made c.channels.ensures in
    let begun = c.in_ok-begin.ensures.ok all c.put_any.new.waiting made holds (c.in_ok-put_any.ensures.ok f next.takes next.has_room) in
    (all, record { is_of_session = made.is_of_session; holds = holds; takes = begun.0; has_none = begun.1 }, next.has_counts)

pub returns-clause-ok : goal.returns-clause-ok
returns-clause-ok g c = if_ok c.advance.result c.advance.ensures.ok (λ verdict advances f given.
    let i = c.fed.inside in
    let next : IsFedNext c.args.settings c.args.uuid.now c.args.counts.now c.args.source c.args.piece.now f
    (record { read = i.sources; waiting = i.waiting }) c.args.load.now =
    subst (λ (x : Fed). IsFedNext c.args.settings c.args.uuid.now c.args.counts.now c.args.source c.args.piece.now f x c.args.load.now)
    (sym c.fed.view_is) given in
    let all : Feeding = fed c.args.source c.args.piece.now f in
    let holds = c.in-Ok.ensures f.given f.uuid f.texts next.holds in
    let made = made_next c.args.settings c.args.uuid.now c.args.counts.now c.args.source c.args.piece.now f c.channels.result next.is_made c.channels.ensures in
    let begun = c.in_ok-begin.ensures.ok all c.put_any.new.waiting made holds (c.in_ok-put_any.ensures.ok f next.takes next.has_room) in
    advances all (record { is_of_session = made.is_of_session; holds = holds; takes = begun.0; has_none = begun.1 }) next.has_counts)

pub returns-clause-err : goal.returns-clause-err
returns-clause-err g c = err_on c.advance.result c.advance.ensures.err (λ advances f given.
    let i = c.fed.inside in
    let next : IsFedNext c.args.settings c.args.uuid.now c.args.counts.now c.args.source c.args.piece.now f
    (record { read = i.sources; waiting = i.waiting }) c.args.load.now =
    subst (λ (x : Fed). IsFedNext c.args.settings c.args.uuid.now c.args.counts.now c.args.source c.args.piece.now f x c.args.load.now)
    (sym c.fed.view_is) given in
    let all : Feeding = fed c.args.source c.args.piece.now f in
    let holds = c.in-Ok.ensures f.given f.uuid f.texts next.holds in
    let made = made_next c.args.settings c.args.uuid.now c.args.counts.now c.args.source c.args.piece.now f c.channels.result next.is_made c.channels.ensures in
    let begun = c.in_ok-begin.ensures.ok all c.put_any.new.waiting made holds (c.in_ok-put_any.ensures.ok f next.takes next.has_room) in
    advances all (record { is_of_session = made.is_of_session; holds = holds; takes = begun.0; has_none = begun.1 }) next.has_counts)
