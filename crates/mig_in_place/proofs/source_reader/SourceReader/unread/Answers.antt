use Rattle.std.proofs.Common.{ℕ, ◌≡◌, ◌-◌, List, length, take, drop, sym, ap, ◌∙◌, arith}
use Rattle.mig_stream.specs.Reading.{Settings}
use Rattle.mig_stream.specs.Reader.{IsClosedAt}
use Rattle.mig_load_types.specs.Settings.{main_of, for_table}
use Rattle.mig_in_place.specs.Turns.{KeptSource}
use Rattle.mig_stream.proofs.Closing.{closed_is_first}
use Rattle.mig_in_place.proofs.Behind.{main_is_not_single, behind_before, as_long, some_behind}
use Rattle.mig_in_place.proofs.source_reader.SourceReader.unread.Goals as goal

pub returns-in_err-count : goal.returns-in_err-count
returns-in_err-count g c = λ memory given uuid first texts stands last.
    let closed : IsClosedAt (main_of (for_table first.table given)) texts.main.bytes c.in_ok-closed.closed =
    c.in_ok-closed.ensures.stands memory given uuid first texts stands in
    let long : c.fed.result ≡ length texts.main.bytes = c.fed.ensures ∙ stands.have_taken.main.has_fed in
    let fits = (closed_is_first (main_of (for_table first.table given)) texts.main.bytes c.in_ok-closed.closed closed).fits in
    absurd (c.in_err-count.ensures (omega (arith, long, fits)))

pub returns-in_err-first : goal.returns-in_err-first
returns-in_err-first g c = λ memory given uuid first texts stands last.
    let s : Settings = main_of (for_table first.table given) in
    let a : ℕ = c.self.inside.from in
    let b : ℕ = c.self.inside.to in
    let items : List ℕ = c.self.inside.buffer.items in
    let closed : IsClosedAt s texts.main.bytes c.in_ok-closed.closed = c.in_ok-closed.ensures.stands memory given uuid first texts stands in
    let long : c.fed.result ≡ length texts.main.bytes = c.fed.ensures ∙ stands.have_taken.main.has_fed in
    let taken : c.args.self.now.taken ≡ take a items = sym (ap (λ (k : KeptSource). k.taken) c.self.view_is) in
    let waits : c.args.self.now.waiting ≡ take (b - a) (drop a items) = sym (ap (λ (k : KeptSource). k.waiting) c.self.view_is) in
    let before = behind_before s texts.main.bytes items c.args.self.now a b c.in_ok-closed.closed c.self.invariant.0
    c.self.invariant.1 taken waits (main_is_not_single given.round_end) last closed in
    let all = as_long s texts.main.bytes items c.args.self.now a b c.in_ok-closed.closed c.self.invariant.0 c.self.invariant.1
    taken waits (main_is_not_single given.round_end) last closed in
    let count = c.in_ok-count.ensures.1 in
    absurd (c.in_err-first.ensures (omega (arith, long, before, all, count)))

pub returns : goal.returns
returns g c = λ memory given uuid first texts stands last.
    let s : Settings = main_of (for_table first.table given) in
    let a : ℕ = c.self.inside.from in
    let b : ℕ = c.self.inside.to in
    let items : List ℕ = c.self.inside.buffer.items in
    let at : ℕ = c.in_ok-first.first in
    let closed : IsClosedAt s texts.main.bytes c.in_ok-closed.closed = c.in_ok-closed.ensures.stands memory given uuid first texts stands in
    let long : c.fed.result ≡ length texts.main.bytes = c.fed.ensures ∙ stands.have_taken.main.has_fed in
    let taken : c.args.self.now.taken ≡ take a items = sym (ap (λ (k : KeptSource). k.taken) c.self.view_is) in
    let waits : c.args.self.now.waiting ≡ take (b - a) (drop a items) = sym (ap (λ (k : KeptSource). k.waiting) c.self.view_is) in
    let fits = (closed_is_first s texts.main.bytes c.in_ok-closed.closed closed).fits in
    let count = c.in_ok-count.ensures.1 in
    let begins = c.in_ok-first.ensures in
    let within = begins.0 in
    let is = begins.1 in
    let some = some_behind s texts.main.bytes items c.args.self.now a b c.in_ok-closed.closed c.self.invariant.0 c.self.invariant.1
    taken waits (main_is_not_single given.round_end) last closed
    c.in_ok-count.count at (omega (arith, long, fits, count)) (omega (arith, within, is)) in
    (some.0, some.1, ap (λ (l : List ℕ). take (b - at) (drop at l)) c.deref.ensures.value ∙ some.2)
