use Rattle.std.proofs.Common.{◌≡◌, ◌<◌, ◌≤◌, ◌∙◌, sym, ap, refl, subst, length, take, rules, deque_len, arith, false, true, inl, inr}
use Rattle.std.proofs.lemmas.Bool.{cases_lt}
use Rattle.mig_stream.specs.declared.progress.Checkpoint.{Checkpoint}
use Rattle.mig_stream.specs.Entries.{Listed}
use Rattle.mig_stream.specs.Progress.{StreamProgress as Read}
use Rattle.mig_stream.specs.Later.{IsLater}
use Rattle.mig_stream.proofs.Undoing.{open_round, same_round, is_back}
use Rattle.mig_stream.proofs.progress.Progress.undo.Goals.{in-Some, in_default}
use Rattle.mig_stream.proofs.progress.Progress.undo.Goals as goal

pub returns : goal.returns
returns g c = λ p is later.
    let now : Read = record {
      frame = c.self.inside.frame;
      mode = c.self.inside.mode;
      page_size = c.self.inside.entries.page_size;
      limit = c.self.inside.entries.limit;
      waiting = c.self.inside.waiting;
      due = c.self.inside.due;
      section = c.self.inside.section;
      section_id = c.self.inside.section_id;
      form = c.self.inside.form;
      left = c.self.inside.entries.left;
      blocks = c.self.inside.entries.blocks;
      named = c.self.inside.named;
      room = c.self.inside.room;
      records = c.self.inside.records;
      rounds = c.self.inside.rounds.items;
    } in
    let here : IsLater p now = subst (IsLater p) (sym c.self.view_is) later in
    let n_is : c.args.checkpoint.rounds ≡ length p.rounds = ap (λ (m : Checkpoint). m.rounds) is in
    let m_is : c.args.checkpoint.records ≡ length p.records = ap (λ (m : Checkpoint). m.records) is in
    let len : deque_len c.self.inside.rounds ≡ length c.self.inside.rounds.items = search rules in
    elim c.match-remove.branch [
      | in-Some w ↦
          let lt : c.args.checkpoint.rounds < length c.self.inside.rounds.items = omega (arith, w.in-Some.ensures.variant.0 refl, len) in
          let both = open_round p now c.args.checkpoint.rounds c.args.checkpoint.records w.in-Some.records
          w.truncate.new.self.items n_is m_is here.has_grown lt w.in-Some.ensures.value
          (w.truncate.ensures.items ∙ ap (take c.args.checkpoint.rounds) w.in-Some.ensures.items) in
          rw w.self-inside-is (is_back p now _ c.args.checkpoint is here refl refl
          (ap (λ (e : Listed). e.page_size) c.go_back.ensures) (ap (λ (e : Listed). e.limit) c.go_back.ensures) refl refl refl refl refl
          (ap (λ (e : Listed). e.left) c.go_back.ensures) refl refl (ap (λ (e : Listed). e.blocks) c.go_back.ensures)
          (c.truncate-2.ensures ∙ ap (λ x. take c.args.checkpoint.records x.records) w.self-inside-is
          ∙ ap (take c.args.checkpoint.records) w.replace-others.ensures.after ∙ both.0) both.1)
      | in_default w ↦
          let le : length c.self.inside.rounds.items ≤ c.args.checkpoint.rounds = elim (cases_lt c.args.checkpoint.rounds (length c.self.inside.rounds.items)) [
            | inl lt ↦ absurd (let clash : false ≡ true = w.in_default.ensures.variant.1 (omega (arith, lt, len)) in cc)
            | inr le ↦ le
          ] in
          let both = same_round p now c.args.checkpoint.rounds c.args.checkpoint.records n_is m_is here.has_grown le in
          rw w.self-inside-is (is_back p now _ c.args.checkpoint is here refl refl
          (ap (λ (e : Listed). e.page_size) c.go_back.ensures) (ap (λ (e : Listed). e.limit) c.go_back.ensures) refl refl refl refl refl
          (ap (λ (e : Listed). e.left) c.go_back.ensures) refl refl (ap (λ (e : Listed). e.blocks) c.go_back.ensures)
          (c.truncate-2.ensures ∙ ap (λ x. take c.args.checkpoint.records x.records) w.self-inside-is ∙ both.0)
          (ap (λ q. q.items) w.in_default.ensures.unchanged ∙ both.1))
    ]
