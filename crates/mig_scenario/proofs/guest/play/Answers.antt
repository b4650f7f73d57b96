use Rattle.std.proofs.Common.{ℕ, ◌≡◌, ◌<◌, ◌+◌, List, [], ◌∷◌, ◌++◌, length, map, take, get_or, refl, ap, ◌∙◌, subst, arith}
use Rattle.std.specs.Prelude.{All, IsTrue}
use Rattle.std.proofs.lemmas.List.{take_more, take_all, map-append, get_or-map, length-map}
use Rattle.std.proofs.lemmas.List.Elements.{All-get_or}
use Rattle.std.proofs.lemmas.List.Sums.{fold_push}
use Rattle.mig_mem.specs.RamTable.{RamTable}
use Rattle.mig_scenario.specs.declared.line.Step.{Step}
use Rattle.mig_scenario.specs.declared.line.Line.{Line}
use Rattle.mig_scenario.specs.declared.line.Line.TheVariants as kept
use Rattle.mig_scenario.specs.Line.{ScenarioLine}
use Rattle.mig_scenario.specs.Scenario.{is_within}
use Rattle.mig_scenario.specs.Guest.{ScenarioGuest, new_guest, after_line, played}
use Rattle.mig_scenario.specs.Playing.{AreSendersOf}
use Rattle.mig_scenario.specs.KeptGuest.{Holds}
use Rattle.mig_scenario.specs.Seen.{seen}
use Rattle.mig_scenario.proofs.Sendings.{like_then, texts_like}
use Rattle.mig_scenario.proofs.guest.play.Goals as goal
use Rattle.mig_scenario.proofs.guest.play.Goals.{in-Step+in_ok-take, in_default}

-- one line more
played_more : (table : RamTable) (ls : List Line) (i : ℕ) (l : Line) → i < length ls → get_or ls i kept.Empty ≡ l
    → played table (map seen (take (i + 1) ls)) ≡ after_line (played table (map seen (take i ls))) (seen l)
played_more table ls i l lt is =
    let front : map seen (take (i + 1) ls) ≡ map seen (take i ls) ++ seen l ∷ [] =
    ap (λ (xs : List Line). map seen xs) (take_more ls i kept.Empty lt) ∙ map-append seen (take i ls) (get_or ls i kept.Empty ∷ [])
    ∙ ap (λ (x : Line). map seen (take i ls) ++ seen x ∷ []) is in
    ap (λ (xs : List ScenarioLine). played table xs) front ∙ fold_push after_line (new_guest table) (map seen (take i ls)) (seen l)

-- a line that is no step changes nothing
same_guest : (g : ScenarioGuest) (l : Line) → ((step : Step) → l ≡ kept.Step step → ⊥) → after_line g (seen l) ≡ g
same_guest g kept.Empty no_step = refl
same_guest g (kept.Block pages id) no_step = refl
same_guest g (kept.Step step) no_step = absurd (no_step step refl)

line_within : (table : RamTable) (ls : List Line) (i : ℕ) (l : Line) → All (λ x. IsTrue (is_within table x)) (map seen ls)
    → i < length ls → get_or ls i kept.Empty ≡ l
    → IsTrue (is_within table (seen l))
line_within table ls i l all lt is =
    let at : IsTrue (is_within table (get_or (map seen ls) i (seen kept.Empty))) =
    All-get_or (λ x. IsTrue (is_within table x)) (map seen ls) i (seen kept.Empty) (omega (arith, length-map ls seen)) all in
    let e : get_or (map seen ls) i (seen kept.Empty) ≡ seen l = get_or-map seen ls i kept.Empty (seen kept.Empty) lt ∙ ap seen is in
    rw e at at

pub take-requires-clause-within : goal.take-requires-clause-within
take-requires-clause-within g c = λ lifetimes lives.
    rw c.loop-line.invariant.table (line_within c.args.table.now c.args.lines.now c.loop-line.line-index
    (kept.Step c.in-Step.step) c.requires.within c.loop-line-test.true c.in-Step.is)

pub loop-line-preserved : goal.loop-line-preserved
loop-line-preserved g c =
    let table : RamTable = c.args.table.now in
    let ls : List Line = c.args.lines.now in
    let i : ℕ = c.loop-line.line-index in
    elim c.match-line.branch [
      | in-Step+in_ok-take w ↦
          let more = played_more table ls i (kept.Step w.in-Step.step) c.loop-line-test.true w.in-Step.is in
          let h : Holds w.take.new.self (after_line (played table (map seen (take i ls))) (seen (kept.Step w.in-Step.step))) =
          w.in_ok-take.ensures.ok (played table (map seen (take i ls))) c.loop-line.invariant.holds in
          rw w.guest-is (record {
            holds = rw more h;
            table = w.in_ok-take.ensures.table ∙ c.loop-line.invariant.table;
            like = like_then _ _ _ c.loop-line.invariant.like w.in_ok-take.ensures.kinds;
          })
      | in_default w ↦
          let more = played_more table ls i (get_or ls i kept.Empty) c.loop-line-test.true refl in
          let same = same_guest (played table (map seen (take i ls))) (get_or ls i kept.Empty) w.in_default.not-Step in
          rw w.guest-is (record { holds = rw (more, same) c.loop-line.invariant.holds; table = c.loop-line.invariant.table; like = c.loop-line.invariant.like })
    ]

pub returns-clause-texts : goal.returns-clause-texts
returns-clause-texts g c =
    let table : RamTable = c.args.table.now in
    let ls : List Line = c.args.lines.now in
    let i : ℕ = c.loop-line.line-index in
    let all : take i ls ≡ ls = take_all i ls c.loop-line-test.false in
    let h : Holds c.loop-line.guest (played table (map seen ls)) = rw all at c.loop-line.invariant.holds in
    let of : AreSendersOf table c.loop-line.guest.senders =
    subst (λ (t : RamTable). AreSendersOf t c.loop-line.guest.senders) c.loop-line.invariant.table h.one_table.same_senders in
    texts_like table c.args.senders c.loop-line.guest.senders (played table (map seen ls)).snapshots _ c.loop-line.invariant.like
    (c.in_ok-finish.ensures table (played table (map seen ls)).snapshots of h.has_sent)
