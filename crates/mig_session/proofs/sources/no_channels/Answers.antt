use Rattle.std.proofs.Common.{ℕ, ◌≡◌, List, arith, replicate, subst}
use Rattle.std.specs.List.{AllZip}
use Rattle.mig_answer.specs.Texts.{no_text}
use Rattle.mig_session.specs.Scan.{Scan, Scans}
use Rattle.mig_sources.proofs.Zips.{zip_replicate}
use Rattle.mig_session.proofs.sources.no_channels.Goals as goal
use Rattle.mig_load_types.specs.Settings.{channel_of}

pub loop-preserved : goal.loop-preserved
loop-preserved g c =
    let given = channel_of c.args.settings c.args.uuid.now c.args.channels in
    let i : ℕ = c.loop.counter in
    let before : List Scan = c.loop.scans.items in
    record {
      scans = rw c.push_reserved.ensures.items (zip_replicate
          (Scans given) i no_text c.in_ok-new.field-0 before c.loop.invariant.scans c.in_ok-new.ensures.scans);
      count = omega (arith, c.push_reserved.ensures.len, c.loop.invariant.count);
      room = omega (arith, c.push_reserved.ensures.capacity, c.loop.invariant.room);
    }

pub returns-clause-scans : goal.returns-clause-scans
returns-clause-scans g c =
    let given = channel_of c.args.settings c.args.uuid.now c.args.channels in
    let all : c.loop.counter ≡ c.args.channels = omega (arith, c.loop-test.false, c.loop.auto.counter-end) in
    subst (λ (n : ℕ). AllZip (Scans given) (replicate n no_text) c.loop.scans.items) all c.loop.invariant.scans
