use Rattle.std.proofs.Common.{◌≡◌, ◌∙◌, ◌++◌, ◌∷◌, [], ap, subst}
use Rattle.mig_mem.specs.Image.{Image}
use Rattle.mig_mem.specs.PlaceSet.{PlaceSet}
use Rattle.mig_mem.specs.Tracking.{Snapshot}
use Rattle.mig_scenario.specs.Playing.{HaveSent}
use Rattle.mig_scenario.proofs.guest.Guest.send.Goals as goal

pub returns-clause-ok : goal.returns-clause-ok
returns-clause-ok g c = λ guest h.
    let kept : Snapshot = record { image = c.args.self.now.image; dirty = c.args.self.now.dirty.marked } in
    let last : Snapshot = record { image = guest.image; dirty = guest.dirty.marked } in
    let same : kept ≡ last =
    ap (λ (m : Image). let s : Snapshot = record { image = m; dirty = c.args.self.now.dirty.marked } in s) h.has_image
    ∙ ap (λ (d : PlaceSet). let s : Snapshot = record { image = guest.image; dirty = d.marked } in s) h.has_dirty in
    record {
      has_image = h.has_image;
      has_dirty = c.clear.ensures ∙ ap (λ (s : PlaceSet). record { table = s.table; marked = [] }) h.has_dirty;
      has_sent = subst (λ (s : Snapshot). HaveSent c.round.new.self (guest.snapshots ++ s ∷ [])) same (c.in_ok-round.ensures.ok guest.snapshots h.has_sent);
      one_table = record { same_dirty = ap (λ (s : PlaceSet). s.table) c.clear.ensures ∙ c.requires.same_dirty; same_senders = c.in_ok-round.ensures.senders };
    }
