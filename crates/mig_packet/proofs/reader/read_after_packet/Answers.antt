use Rattle.std.proofs.Common.{◌≡◌, ◌∙◌, ◌++◌, ◌∷◌, [], ℕ, List, Some, None, sym, subst, rules}
use Rattle.mig_packet.specs.Progress.{after, after_packet}
use Rattle.mig_packet.proofs.Feeding.{reads_behind, after_is}
use Rattle.mig_packet.proofs.Later.{IsLater-packet}
use Rattle.mig_packet.proofs.reader.read_after_packet.Goals as goal

pub returns-in-Ok-clause-ok : goal.returns-in-Ok-clause-ok
returns-in-Ok-clause-ok g c =
    let p = c.args.progress.now in
    let item : List ℕ = c.args.pending.now.items in
    let packet : c.of-packet.result ≡ item = search rules in
    let mid : c.take_packet.new.self ≡ after_packet p item = subst (λ (x : List ℕ). c.take_packet.new.self ≡ after_packet p x) packet c.in_default.ensures.ok in
    let next : c.take_packet.new.self ≡ after p item = mid ∙ sym (after_is p p.hello item c.requires.hello) in
    reads_behind p c.take_packet.new.self c.read_in_place.new.progress item c.args.rest.now c.read_in_place.new.pending.items
    c.in-Ok.read.1 c.in-Ok.read.0 c.requires.whole
    c.requires.faultless next c.in-Ok.ensures.ok

pub returns-in-Some-clause-err : goal.returns-in-Some-clause-err
returns-in-Some-clause-err g c =
    let p = c.args.progress.now in
    let item : List ℕ = c.args.pending.now.items in
    let packet : c.of-packet.result ≡ item = search rules in
    let mid : c.take_packet.new.self ≡ after_packet p item = subst (λ (x : List ℕ). c.take_packet.new.self ≡ after_packet p x) packet c.in_default.ensures.ok in
    let taken = c.in-Err-read_in_place.ensures.err in
    let later = IsLater-packet p c.take_packet.new.self c.read_in_place.new.progress item taken.front mid taken.leads in
    let back : c.undo.new.self ≡ p = c.undo.ensures.back p ((item ∷ []) ++ later.0) c.checkpoint-checkpoint.ensures later.1 in
    let first : c.undo.result ≡ Some item = c.undo.ensures.first p ((item ∷ []) ++ later.0) c.checkpoint-checkpoint.ensures later.1 in
    let joined : Some c.in-Some.packet ≡ Some item = sym c.in-Some.is ∙ first in
    let same : c.in-Some.packet ≡ item = cc in
    (back, c.into_bytes-in-Some.ensures ∙ same)

pub returns-in_default-undo-clause-err : goal.returns-in_default-undo-clause-err
returns-in_default-undo-clause-err g c =
    let p = c.args.progress.now in
    let item : List ℕ = c.args.pending.now.items in
    let packet : c.of-packet.result ≡ item = search rules in
    let mid : c.take_packet.new.self ≡ after_packet p item = subst (λ (x : List ℕ). c.take_packet.new.self ≡ after_packet p x) packet c.in_default.ensures.ok in
    let taken = c.in-Err-read_in_place.ensures.err in
    let later = IsLater-packet p c.take_packet.new.self c.read_in_place.new.progress item taken.front mid taken.leads in
    let first : c.undo.result ≡ Some item = c.undo.ensures.first p ((item ∷ []) ++ later.0) c.checkpoint-checkpoint.ensures later.1 in
    absurd (let clash : None ≡ Some item = sym c.in_default-undo.is ∙ first in cc)
