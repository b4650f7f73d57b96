use Rattle.std.proofs.Common.{ℕ, ◌≡◌, ◌∙◌, Bor, List, sym, ap, subst, inl, inr}
use Rattle.std.proofs.lemmas.Bool.{cases_Bool}
use Rattle.mig_mem.specs.RamTable.{RamTable}
use Rattle.mig_mem.specs.Image.{Image}
use Rattle.mig_mem.specs.Lent.{lent_bytes}
use Rattle.mig_packet.specs.Packet.{normal_count, zero_count}
use Rattle.mig_assemble.specs.HeadPlaces.{LieIn}
use Rattle.mig_apart.specs.Claims.{ApartLoad}
use Rattle.mig_uses.specs.Straight.{WritesWithin, HasZeros, contents_in, GoesOn}
use Rattle.mig_uses.proofs.StraightPages.{writes_both}
use Rattle.mig_uses.proofs.StraightTurns.{lies_here, goes_both, goes_within, goes_taken}
use Rattle.mig_uses.proofs.straight.take_packet.Goals as goal

pub read_pages-requires : goal.read_pages-requires
read_pages-requires g c = record {
  lies = lies_here c.args.load.now.load.table
      (g.M.GuestTarget.image c.args.memory.now).table c.args.block c.args.head.now.bytes.now c.args.bytes.now c.requires.table c.requires.head c.requires.lies;
}

pub returns-in_err-read_pages-clause-goes : goal.returns-in_err-read_pages-clause-goes
returns-in_err-read_pages-clause-goes g c =
    goes_within c.args.block c.args.bytes.now (g.M.GuestTarget.image c.args.memory.now)
    (g.M.GuestTarget.image c.read_pages.new.memory) c.args.load.now c.requires.table c.requires.claimed
    (subst (λ (h : List ℕ). WritesWithin c.args.block h (g.M.GuestTarget.image c.args.memory.now)
    (g.M.GuestTarget.image c.read_pages.new.memory)) c.requires.head c.read_pages.ensures)

pub returns-then-not-branch-clause-goes : goal.returns-then-not-branch-clause-goes
returns-then-not-branch-clause-goes g c =
    goes_within c.args.block c.args.bytes.now (g.M.GuestTarget.image c.args.memory.now)
    (g.M.GuestTarget.image c.read_pages.new.memory) c.args.load.now c.requires.table c.requires.claimed
    (subst (λ (h : List ℕ). WritesWithin c.args.block h (g.M.GuestTarget.image c.args.memory.now)
    (g.M.GuestTarget.image c.read_pages.new.memory)) c.requires.head c.read_pages.ensures)

pub clear_pages-requires : goal.clear_pages-requires
clear_pages-requires g c = record {
  lies = lies_here c.args.load.now.load.table
      (g.M.GuestTarget.image c.read_pages.new.memory).table c.args.block c.args.head.now.bytes.now c.args.bytes.now
      (c.read_pages.ensures.same_table ∙ c.requires.table) c.requires.head c.requires.lies;
}

pub contents_of-requires : goal.contents_of-requires
contents_of-requires g c = record {
  lies = lies_here c.args.load.now.load.table (g.M.GuestTarget.image c.clear_pages.new.memory).table c.args.block c.args.head.now.bytes.now c.args.bytes.now
      (c.clear_pages.ensures.within.same_table ∙ c.read_pages.ensures.same_table ∙ c.requires.table) c.requires.head c.requires.lies;
}

pub returns-in_default-clause-goes : goal.returns-in_default-clause-goes
returns-in_default-clause-goes g c =
    let first : Image = g.M.GuestTarget.image c.args.memory.now in
    let last : Image = (g.M.GuestTarget.image c.clear_pages.new.memory) in
    goes_within c.args.block c.args.bytes.now first last c.args.load.now c.requires.table c.requires.claimed
    (subst (λ (h : List ℕ). WritesWithin c.args.block h first last) c.requires.head
    (writes_both c.args.block c.args.head.now.bytes.now first
    (g.M.GuestTarget.image c.read_pages.new.memory) last c.read_pages.ensures c.clear_pages.ensures.within))

pub returns-in-Ok-take-clause-goes : goal.returns-in-Ok-take-clause-goes
returns-in-Ok-take-clause-goes g c =
    let first : Image = g.M.GuestTarget.image c.args.memory.now in
    let last : Image = (g.M.GuestTarget.image c.clear_pages.new.memory) in
    let b : ℕ = c.args.block in
    let bytes : List ℕ = c.args.bytes.now in
    let old : ApartLoad = c.args.load.now in
    let new : ApartLoad = c.take.new.self in
    let contents : List (List ℕ) = lent_bytes c.deref.result.now in
    let table : last.table ≡ old.load.table = c.clear_pages.ensures.within.same_table ∙ c.read_pages.ensures.same_table ∙ c.requires.table in
    let within : GoesOn first old last old =
    goes_within b bytes first last old c.requires.table c.requires.claimed
    (subst (λ (h : List ℕ). WritesWithin b h first last) c.requires.head
    (writes_both b c.args.head.now.bytes.now first (g.M.GuestTarget.image c.read_pages.new.memory) last c.read_pages.ensures c.clear_pages.ensures.within)) in
    let same : contents ≡ contents_in last b bytes (normal_count bytes) =
    subst (λ (h : List ℕ). contents ≡ contents_in last b h (normal_count h)) c.requires.head
    (ap (λ (l : List (Bor (List ℕ))). lent_bytes l) c.deref.ensures.value ∙ c.in-Ok.ensures) in
    let zeros : HasZeros b bytes (zero_count bytes) last =
    subst (λ (h : List ℕ). HasZeros b h (zero_count h) last) c.requires.head c.clear_pages.ensures.zeros in
    let lie : LieIn last.table b bytes = subst (λ (t : RamTable). LieIn t b bytes) (sym table) c.requires.lies in
    elim (cases_Bool c.in-Ok-take.field-0) [
      | inl did ↦ goes_both first last last old old new within
          (goes_taken c.args.channel b bytes contents last old new c.table-table.ensures.image lie same zeros (c.in-Ok-take.ensures.took did))
      | inr not_ ↦ subst (λ (s : ApartLoad). GoesOn first old last s) (sym (c.in-Ok-take.ensures.left not_)) within
    ]

pub returns-clause-goes : goal.returns-clause-goes
returns-clause-goes g c =
    let first : Image = g.M.GuestTarget.image c.args.memory.now in
    let last : Image = (g.M.GuestTarget.image c.clear_pages.new.memory) in
    let old : ApartLoad = c.args.load.now in
    subst (λ (s : ApartLoad). GoesOn first old last s) (sym c.in-Err.ensures.err)
    (goes_within c.args.block c.args.bytes.now first last old c.requires.table c.requires.claimed
    (subst (λ (h : List ℕ). WritesWithin c.args.block h first last) c.requires.head
    (writes_both c.args.block c.args.head.now.bytes.now first
    (g.M.GuestTarget.image c.read_pages.new.memory) last c.read_pages.ensures c.clear_pages.ensures.within)))
