use Rattle.std.proofs.Common.{◌≡◌, ◌++◌, ◌<◌, ◌^◌, ℕ, ◌-◌, List, length, take, drop, min, sym, ap, ◌∙◌, subst}
use Rattle.std.proofs.lemmas.List.{drop_min, length-take-le, length-drop}
use Rattle.std.proofs.Math.Seq.{take-length}
use Rattle.zimgasol_course.specs.Seen.{HasSeen}
use Rattle.zimgasol_course.proofs.Seeing.{still}
use Rattle.zimgasol_course.proofs.Taking.{stands_kept}
use Rattle.zimgasol_course.proofs.Reading.{StandsAt}
use Rattle.zimgasol_course.proofs.course.Course.feed_part.Goals as goal

pub returns-clause-ok : goal.returns-clause-ok
returns-clause-ok g c = λ given text few s.
    let p : List ℕ = take c.args.len c.args.buffer.now in
    let k : ℕ = c.min-skipped.result in
    let same : take (length p - k) (drop k p) ≡ drop c.args.skip p =
    ap (λ n. take n (drop k p)) (sym (length-drop k p)) ∙ take-length (drop k p) ∙
    ap (λ n. drop n p) (c.min-skipped.ensures ∙ ap (λ n. min c.args.skip n) (sym (length-take-le c.args.len c.args.buffer.now c.requires))) ∙ drop_min
    c.args.skip p in
    let seen : StandsAt (g.T.Taker.holds c.look_before.new.self) given text c.args.self.now =
    stands_kept (g.T.Taker.holds c.args.taker.now) (g.T.Taker.holds c.look_before.new.self) given text c.args.self.now.pause
    c.args.self.now.state c.args.self.now.sections c.args.self.now.valid c.args.self.now.has_begun c.in_ok-look_before.ensures.ok s in
    let fed : StandsAt (g.T.Taker.holds c.feed.new.taker) given (text ++ drop c.args.skip p) c.feed.new.self =
    subst (λ (x : List ℕ). StandsAt (g.T.Taker.holds c.feed.new.taker) given (text ++ x) c.feed.new.self) same
    (c.in_ok-feed.ensures.ok given text (subst (λ (x : List ℕ). length (text ++ x) < 2 ^ 63) (sym same) few) seen) in
    stands_kept (g.T.Taker.holds c.feed.new.taker) (g.T.Taker.holds c.progress.new.self) given (text ++ drop c.args.skip p) c.feed.new.self.pause
    c.feed.new.self.state c.feed.new.self.sections c.feed.new.self.valid c.feed.new.self.has_begun c.progress.ensures.ok fed

pub returns-clause-seen : goal.returns-clause-seen
returns-clause-seen g c = λ given text few s had.
    let p : List ℕ = take c.args.len c.args.buffer.now in
    let k : ℕ = c.min-skipped.result in
    let same : take (length p - k) (drop k p) ≡ drop c.args.skip p =
    ap (λ n. take n (drop k p)) (sym (length-drop k p)) ∙ take-length (drop k p) ∙
    ap (λ n. drop n p) (c.min-skipped.ensures ∙ ap (λ n. min c.args.skip n) (sym (length-take-le c.args.len c.args.buffer.now c.requires))) ∙ drop_min
    c.args.skip p in
    let old = c.args.self.now in
    let seen : StandsAt (g.T.Taker.holds c.look_before.new.self) given text old =
    stands_kept (g.T.Taker.holds c.args.taker.now) (g.T.Taker.holds c.look_before.new.self) given text old.pause
    old.state old.sections old.valid old.has_begun c.in_ok-look_before.ensures.ok s in
    let new = c.feed.new.self in
    still (g.T.Taker.sees c.feed.new.taker) (g.T.Taker.sees c.progress.new.self) (text ++ drop c.args.skip p) new.pause new.state new.valid
    c.progress.ensures.seen
    (subst (λ (x : List ℕ). HasSeen (g.T.Taker.sees c.feed.new.taker) (text ++ x) new.pause new.state new.valid) same
    (c.in_ok-feed.ensures.seen given text (subst (λ (x : List ℕ). length (text ++ x) < 2 ^ 63) (sym same) few) seen
    (still (g.T.Taker.sees c.args.taker.now) (g.T.Taker.sees c.look_before.new.self) text old.pause old.state old.valid c.in_ok-look_before.ensures.seen had)))
