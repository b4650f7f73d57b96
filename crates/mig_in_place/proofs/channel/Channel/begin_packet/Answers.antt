use Rattle.std.proofs.Common.{ℕ, ◌≡◌, ◌∙◌, List, length, refl, sym, ap, subst, Option, Some, inl, inr, rules}
use Rattle.std.specs.Prelude.{IsTrue, IsFalse, IfSome}
use Rattle.std.specs.Option.{option_map}
use Rattle.mig_mem.specs.RamTable.{RamTable}
use Rattle.mig_mem.specs.Image.{Image}
use Rattle.mig_assemble.specs.declared.places.Pages.{Pages}
use Rattle.mig_assemble.specs.declared.places.Pages.TheVariants as pages
use Rattle.mig_packet.specs.PacketHead.{offsets_in, as_zeros}
use Rattle.mig_assemble.specs.HeadPlaces.{Lie, LieIn}
use Rattle.mig_in_place.specs.Sources.{KeptChannel, AddsHead, WritesInto}
use Rattle.mig_in_place.proofs.Heads.{lies}
use Rattle.mig_in_place.proofs.Keeping.{also_some}
use Rattle.mig_in_place.proofs.Steps.{adds_head}
use Rattle.mig_in_place.proofs.Lying.{wrote_in, wrote_nowhere, wrote_wrong}
use Rattle.mig_in_place.proofs.channel.Channel.begin_packet.Goals as goal

pub returns-then-has_misplaced-clause-adds : goal.returns-then-has_misplaced-clause-adds
returns-then-has_misplaced-clause-adds g c = λ _ head e.
    let m : Image = g.M.GuestTarget.image c.args.memory.now in
    let bytes : List ℕ = c.in-Some.head.bytes.now in
    let both : Some bytes ≡ Some head = c.in-Some.ensures.value
    ∙ ap (λ (k : KeptChannel). option_map (λ packet. packet.0) k.reader.packet) c.self.view_is ∙ e in
    let same : bytes ≡ head = cc in
    let wrong : IsTrue c.packet.new.self.has_misplaced = sym c.has_misplaced.ensures ∙ c.if-has_misplaced.true in
    subst (λ (h : List ℕ). AddsHead h c.args.round.now m c.packet.new.self m) same
    (adds_head m.table bytes c.args.round.now c.packet.new.self m m refl c.in_ok-pages.ensures.keeps
    (wrote_wrong m.table bytes c.packet.new.self m m wrong refl))

pub put_zeros-requires-clause-lies : goal.put_zeros-requires-clause-lies
put_zeros-requires-clause-lies g c =
    let table : RamTable = (g.M.GuestTarget.image c.args.memory.now).table in
    let bytes : List ℕ = c.in-Some.head.bytes.now in
    let lie : Lie table bytes (pages.In c.in-In.block) =
    subst (λ (t : RamTable). Lie t bytes (pages.In c.in-In.block)) c.requires.table
    (subst (λ (o : Pages). Lie c.args.round.now.arrivals.seen.table bytes o) c.in-In.is c.in_ok-pages.ensures.lie) in
    lies table c.in-In.block bytes lie.1

pub returns-in-In-clause-adds : goal.returns-in-In-clause-adds
returns-in-In-clause-adds g c = λ _ head e.
    let m : Image = g.M.GuestTarget.image c.args.memory.now in
    let after : Image = g.M.GuestTarget.image c.put_zeros.new.memory in
    let bytes : List ℕ = c.in-Some.head.bytes.now in
    let both : Some bytes ≡ Some head = c.in-Some.ensures.value
    ∙ ap (λ (k : KeptChannel). option_map (λ packet. packet.0) k.reader.packet) c.self.view_is ∙ e in
    let same : bytes ≡ head = cc in
    let lie : Lie m.table bytes (pages.In c.in-In.block) =
    subst (λ (t : RamTable). Lie t bytes (pages.In c.in-In.block)) c.requires.table
    (subst (λ (o : Pages). Lie c.args.round.now.arrivals.seen.table bytes o) c.in-In.is c.in_ok-pages.ensures.lie) in
    let right : IsFalse c.packet.new.self.has_misplaced = sym c.has_misplaced.ensures ∙ c.if-has_misplaced.false in
    let size : c.in-Some.head.page_size ≡ m.table.page_size = c.in-Some.ensures.page_size
    ∙ ap (λ (k : KeptChannel). k.reader.given.page_size) c.self.view_is ∙ c.requires.page_size in
    subst (λ (h : List ℕ). AddsHead h c.args.round.now m c.packet.new.self after) same
    (adds_head m.table bytes c.args.round.now c.packet.new.self m after refl c.in_ok-pages.ensures.keeps
    (wrote_in m.table c.in-In.block c.in-Some.head.page_size bytes c.packet.new.self m after lie.1 size right c.put_zeros.ensures.image))

pub returns-in-Nowhere : goal.returns-in-Nowhere
returns-in-Nowhere g c =
    let m : Image = g.M.GuestTarget.image c.args.memory.now in
    let bytes : List ℕ = c.in-Some.head.bytes.now in
    let same_head : (head : List ℕ) → option_map (λ (packet : List ℕ × ℕ). packet.0) c.args.self.now.reader.packet ≡ Some head → bytes ≡ head = λ head e.
    let both : Some bytes ≡ Some head = c.in-Some.ensures.value
    ∙ ap (λ (k : KeptChannel). option_map (λ packet. packet.0) k.reader.packet) c.self.view_is ∙ e in cc in
    let right : IsFalse c.packet.new.self.has_misplaced = sym c.has_misplaced.ensures ∙ c.if-has_misplaced.false in
    let none : length (offsets_in bytes) ≡ 0 = elim c.in-Nowhere.is [
      | inl e ↦ subst (λ (o : Pages). Lie c.args.round.now.arrivals.seen.table bytes o) e c.in_ok-pages.ensures.lie
      | inr e ↦ absurd (let wrong : IsTrue c.packet.new.self.has_misplaced = c.in_ok-pages.ensures.noted e.0 e.1 in cc)
    ] in
    record {
      adds = λ _ head e. subst (λ (h : List ℕ). AddsHead h c.args.round.now m c.packet.new.self m) (same_head head e)
          (adds_head m.table bytes c.args.round.now c.packet.new.self m m refl c.in_ok-pages.ensures.keeps
          (wrote_nowhere m.table bytes c.packet.new.self m m none refl));
      writes = λ _ head e. subst (λ (h : List ℕ). WritesInto m.table h c.packet.new.self c.args.self.now.block) (same_head head e) (record {
        lies = subst (λ (o : Option ℕ). IfSome o (λ b. LieIn m.table b bytes)) (sym c.requires.block) tt;
        writes = λ _ some. absurd (some none);
      });
      unknown = search rules;
      same = λ _. refl;
      err = tt;
      reader = (refl, refl);
      round = also_some m.table (as_zeros bytes) c.args.round.now c.packet.new.self c.in_ok-pages.ensures.keeps;
      misplaced = c.packet.ensures.stays;
      kept = refl;
      table = refl;
    }

pub returns-then-has_misplaced-clause-round : goal.returns-then-has_misplaced-clause-round
returns-then-has_misplaced-clause-round g c =
    also_some (g.M.GuestTarget.image c.args.memory.now).table (as_zeros c.in-Some.head.bytes.now) c.args.round.now c.packet.new.self c.in_ok-pages.ensures.keeps

pub returns-in-In-clause-round : goal.returns-in-In-clause-round
returns-in-In-clause-round g c =
    also_some (g.M.GuestTarget.image c.args.memory.now).table (as_zeros c.in-Some.head.bytes.now) c.args.round.now c.packet.new.self c.in_ok-pages.ensures.keeps
