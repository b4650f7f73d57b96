use Rattle.std.proofs.Common.{◌≡◌, ◌++◌, List, ℕ, subst}
use Rattle.std.proofs.lemmas.Result.{IfOk-weaker, IfErr-weaker}
use Rattle.mig_packet.specs.Progress.{after}
use Rattle.mig_packet.specs.Taking.{HasTaken}
use Rattle.mig_packet.specs.Reader.{ReadsOn}
use Rattle.mig_packet.proofs.Feeding.{reads_behind, taken_behind}
use Rattle.mig_packet.proofs.reader.read_after.Goals as goal

pub returns-clause-ok : goal.returns-clause-ok
returns-clause-ok g c =
    let p = c.args.progress.now in
    let item : List ℕ = c.args.pending.now.items in
    let next : c.take.new.self ≡ after p item = subst (λ (x : List ℕ). c.take.new.self ≡ after p x) c.deref.ensures.value c.in_ok-take.ensures.ok in
    IfOk-weaker c.read_in_place.result (λ t. ReadsOn c.take.new.self c.args.rest.now c.read_in_place.new.progress c.read_in_place.new.pending.items t.1 t.0)
    (λ t. ReadsOn p (item ++ c.args.rest.now) c.read_in_place.new.progress c.read_in_place.new.pending.items t.1 t.0)
    (λ t r. reads_behind p c.take.new.self c.read_in_place.new.progress item c.args.rest.now c.read_in_place.new.pending.items t.1 t.0 c.requires.whole
    c.requires.faultless next r) c.read_in_place.ensures.ok

pub returns-clause-err : goal.returns-clause-err
returns-clause-err g c =
    let p = c.args.progress.now in
    let item : List ℕ = c.args.pending.now.items in
    let next : c.take.new.self ≡ after p item = subst (λ (x : List ℕ). c.take.new.self ≡ after p x) c.deref.ensures.value c.in_ok-take.ensures.ok in
    IfErr-weaker c.read_in_place.result (λ _. HasTaken c.take.new.self c.args.rest.now c.read_in_place.new.progress)
    (λ _. HasTaken p (item ++ c.args.rest.now) c.read_in_place.new.progress)
    (λ _ t. taken_behind p c.take.new.self c.read_in_place.new.progress item c.args.rest.now c.requires.whole c.requires.faultless next t)
    c.read_in_place.ensures.err
