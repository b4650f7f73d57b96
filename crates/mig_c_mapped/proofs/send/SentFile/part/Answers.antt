use Rattle.std.proofs.Common.{ℕ, ◌≡◌, ◌+◌, ◌≤◌, List, refl, sym, subst, ◌∙◌, arith}
use Rattle.mig_mapped.specs.Write.{written_table}
use Rattle.mig_c_mapped.specs.Sends.{FileInHand, last_part, part_bytes, part_offset, CopiesPart, GivesPart}
use Rattle.mig_c_mapped.proofs.Parts.{front_is, end_is, head_is, given}
use Rattle.mig_c_mapped.proofs.send.SentFile.part.Goals as goal

pub returns-then-part-eq0 : goal.returns-then-part-eq0
returns-then-part-eq0 c =
    let v : FileInHand = record { front = c.self.inside.front.items; writing = c.self.inside.writer } in
    let copies = subst (λ (x : List ℕ). CopiesPart x 0 c.copy_part.result c.args.out.now c.copy_part.new.out c.copy_part.new.at)
    c.deref.ensures.value c.copy_part.ensures in
    subst (λ (x : FileInHand). GivesPart c.args.part c.copy_part.result c.args.out.now c.copy_part.new.out c.args.at.now c.copy_part.new.at x) c.self.view_is
    (given v c.args.part c.copy_part.result c.args.out.now c.copy_part.new.out c.args.at.now c.copy_part.new.at v.front 0 c.end-end.ensures.read
    (omega (arith, c.if-part-eq0.true)) (front_is v c.args.part c.if-part-eq0.true) copies)

pub returns-then-block-blocks : goal.returns-then-block-blocks
returns-then-block-blocks c =
    let v : FileInHand = record { front = c.self.inside.front.items; writing = c.self.inside.writer } in
    let high : last_part v + 1 ≤ c.args.part = omega (arith, c.if-block-blocks.true, c.len-blocks.ensures.value) in
    subst (λ (x : FileInHand). GivesPart c.args.part 107 c.args.out.now c.args.out.now c.args.at.now c.args.at.now x) c.self.view_is
    (record {
      gives = λ low _. absurd (omega (arith, high, low));
      missing = λ _. refl;
      same = λ _. (refl, refl);
      refused = λ _. (refl, refl);
      are_read = c.end-end.ensures.read;
    })

pub returns-then-block-blocks-2 : goal.returns-then-block-blocks-2
returns-then-block-blocks-2 c =
    let v : FileInHand = record { front = c.self.inside.front.items; writing = c.self.inside.writer } in
    let at = c.copy_part-then-block-blocks-2 in
    let last : c.args.part ≡ last_part v = omega (arith, c.if-block-blocks-2.true, c.if-part-eq0.false, c.len-blocks.ensures.value) in
    let is = end_is v c.args.part last in
    let ends : (part_bytes v c.args.part ≡ c.end_bytes.result) × (part_offset v c.args.part ≡ c.end-end.result) =
    (is.0 ∙ sym (c.end_bytes.ensures (written_table v.writing)), is.1 ∙ sym c.end-end.ensures.value) in
    subst (λ (x : FileInHand). GivesPart c.args.part at.result c.args.out.now at.new.out c.args.at.now at.new.at x) c.self.view_is
    (given v c.args.part at.result c.args.out.now at.new.out c.args.at.now at.new.at c.end_bytes.result c.end-end.result c.end-end.ensures.read
    (omega (arith, last)) ends at.ensures)

pub returns-in-Ok : goal.returns-in-Ok
returns-in-Ok c =
    let v : FileInHand = record { front = c.self.inside.front.items; writing = c.self.inside.writer } in
    let at = c.copy_part-in-Ok in
    let there : c.args.part ≤ last_part v = omega (arith, c.if-block-blocks.false, c.len-blocks.ensures.value) in
    let is = head_is v c.args.part c.if-part-eq0.false (λ e. c.if-block-blocks-2.false (omega (arith, e, c.len-blocks.ensures.value))) in
    let heads : (part_bytes v c.args.part ≡ c.deref-in-Ok.result.now) × (part_offset v c.args.part ≡ c.head_offset-offset.result) =
    (is.0 ∙ sym (c.deref-in-Ok.ensures.value ∙ c.in-Ok.ensures), is.1 ∙ sym c.head_offset-offset.ensures) in
    subst (λ (x : FileInHand). GivesPart c.args.part at.result c.args.out.now at.new.out c.args.at.now at.new.at x) c.self.view_is
    (given v c.args.part at.result c.args.out.now at.new.out c.args.at.now at.new.at c.deref-in-Ok.result.now c.head_offset-offset.result c.end-end.ensures.read
    there heads at.ensures)

pub returns-in-Err : goal.returns-in-Err
returns-in-Err c =
    let v : FileInHand = record { front = c.self.inside.front.items; writing = c.self.inside.writer } in
    let there : c.args.part ≤ last_part v = omega (arith, c.if-block-blocks.false, c.len-blocks.ensures.value) in
    subst (λ (x : FileInHand). GivesPart c.args.part 60 c.args.out.now c.args.out.now c.args.at.now c.args.at.now x) c.self.view_is
    (record {
      gives = λ _ named. absurd (named refl);
      missing = λ high. absurd (omega (arith, there, high));
      same = λ _. (refl, refl);
      refused = λ _. (refl, refl);
      are_read = c.end-end.ensures.read;
    })
