use Rattle.std.proofs.Common.{ℕ, ◌≡◌, ◌+◌, ◌∙◌, List, take, drop, sym, subst, refl, true≢false}
use Rattle.zimgasol_reading.specs.Ending.{IsDescription}
use Rattle.zimgasol_reading.proofs.TailDescribed.{closing, ends_by, framed_by, start_small, whole_long, whole_short}
use Rattle.zimgasol_reading.proofs.tail.Tail.whole_at.Goals as goal

pub returns-in_default-clause-whole : goal.returns-in_default-clause-whole
returns-in_default-clause-whole c = λ text near small seen. (
  λ some. absurd (true≢false (sym some)),
  λ has.
      let closed = closing text c.args.self.now c.args.at near seen has in
      absurd (c.in_default.ensures.none closed.len closed.is_small closed.is_headed),
)

pub returns-then-not-ends_after-clause-whole : goal.returns-then-not-ends_after-clause-whole
returns-then-not-ends_after-clause-whole c = λ text near small seen. (
  λ some. absurd (true≢false (sym some)),
  λ has.
      let place = c.in-Some.place in
      let headed = c.in-Some.ensures.headed in
      let ends = ends_by text c.args.self.now c.args.at place.len place.end near seen headed.0 headed.1
      (c.in-Some.ensures.end near (start_small text c.args.self.now small seen)) has in
      sym c.if-not-ends_after.true ∙ c.ends_after.ensures.1 ends,
)

pub returns-then-place-le-MOST_READ-clause-whole : goal.returns-then-place-le-MOST_READ-clause-whole
returns-then-place-le-MOST_READ-clause-whole c = λ text near small seen.
    let tail = c.args.self.now in
    let place = c.in-Some.place in
    let headed = c.in-Some.ensures.headed in
    let kept : List ℕ = tail.window.kept.items in
    let from : place.text ≡ c.args.at + 6 = c.in-Some.ensures.text near in
    let frame = framed_by text tail c.args.at place.len place.end near seen headed.1 (c.in-Some.ensures.end near (start_small text tail small seen))
    (c.ends_after.ensures.0 c.if-not-ends_after.false) in
    let is = whole_short text tail.window c.args.at place.len frame headed.0 c.if-place-le-MOST_READ.true in
    let read = c.in_ok-found.ensures.read in (
      λ some. is.0 (subst (λ (k : ℕ). IsDescription (take place.len (drop k kept))) from (read.0 some)),
      λ has. read.1 (subst (λ (k : ℕ). IsDescription (take place.len (drop k kept))) (sym from) (is.1 has)),
    )

pub returns-then-not-is_closed-clause-whole : goal.returns-then-not-is_closed-clause-whole
returns-then-not-is_closed-clause-whole c = λ text near small seen. (
  λ some. absurd (true≢false (sym some)),
  λ has.
      let tail = c.args.self.now in
      let place = c.in-Some.place in
      let headed = c.in-Some.ensures.headed in
      let frame = framed_by text tail c.args.at place.len place.end near seen headed.1 (c.in-Some.ensures.end near (start_small text tail small seen))
      (c.ends_after.ensures.0 c.if-not-ends_after.false) in
      let is = whole_long text tail.window c.args.at place.len frame headed.0 c.if-place-le-MOST_READ.false in
      sym c.if-not-is_closed.true ∙ c.is_closed.ensures.1 (is.1 has),
)

pub returns-clause-whole : goal.returns-clause-whole
returns-clause-whole c = λ text near small seen. (
  λ some.
      let tail = c.args.self.now in
      let place = c.in-Some.place in
      let headed = c.in-Some.ensures.headed in
      let frame = framed_by text tail c.args.at place.len place.end near seen headed.1 (c.in-Some.ensures.end near (start_small text tail small seen))
      (c.ends_after.ensures.0 c.if-not-ends_after.false) in
      let is = whole_long text tail.window c.args.at place.len frame headed.0 c.if-place-le-MOST_READ.false in
      is.0 (c.is_closed.ensures.0 c.if-not-is_closed.false),
  λ has. refl,
)
