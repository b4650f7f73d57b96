use Rattle.std.proofs.Common.{◌≡◌, ◌∙◌, ◌+◌, ◌/◌, ◌<◌, ℕ, List, ap, refl, subst, true}
use Rattle.mig_mem.specs.RamTable.{RamTable}
use Rattle.mig_mem.specs.Place.{has_place, place_at}
use Rattle.mig_packet.specs.Packet.{normal_count, zero_count, offset_at}
use Rattle.mig_assemble.specs.HeadPlaces.{LieIn}
use Rattle.mig_apart.specs.Claims.{ApartLoad, IsNewClaim, packet_places}
use Rattle.mig_apart.proofs.Free.{new_claim}
use Rattle.mig_apart.proofs.session.ApartSession.claim.Goals as goal

pub returns-clause-claims : goal.returns-clause-claims
returns-clause-claims g c =
    let i = c.self.inside in
    let b : ℕ = c.in-Some.block in
    let bytes : List ℕ = c.in-Some.head.bytes.now in
    let same : bytes ≡ c.args.head.now = c.in-Some.ensures.head.0 in
    let seen : i.claimed.table ≡ c.args.self.now.load.table = c.self.invariant ∙ ap (λ (x : ApartLoad). x.load.table) c.self.view_is in
    let new = c.claim_all.new.claimed in
    let mine : IsNewClaim i.claimed.table (packet_places i.claimed.table b bytes) i.claimed new =
    new_claim i.claimed.table b bytes i.claimed new (c.any_claimed.ensures.none c.if-any_claimed.false) c.claim_all.ensures.more in
    let of_head : IsNewClaim i.claimed.table (packet_places i.claimed.table b c.args.head.now) i.claimed new =
    subst (λ (h : List ℕ). IsNewClaim i.claimed.table (packet_places i.claimed.table b h) i.claimed new) same mine in
    let of_table : IsNewClaim c.args.self.now.load.table (packet_places c.args.self.now.load.table b c.args.head.now) i.claimed new =
    subst (λ (t : RamTable). IsNewClaim t (packet_places t b c.args.head.now) i.claimed new) seen of_head in (
      same,
      subst (λ (x : ApartLoad). LieIn x.load.table b c.args.head.now) c.self.view_is c.in-Some.ensures.lies,
      subst (λ (x : ApartLoad). IsNewClaim c.args.self.now.load.table
          (packet_places c.args.self.now.load.table b c.args.head.now) x.claimed new) c.self.view_is of_table,
    )

pub returns-then-any_claimed-clause-claims : goal.returns-then-any_claimed-clause-claims
returns-then-any_claimed-clause-claims g c =
    let i = c.self.inside in
    let b : ℕ = c.in-Some.block in
    let bytes : List ℕ = c.in-Some.head.bytes.now in
    let same : bytes ≡ c.args.head.now = c.in-Some.ensures.head.0 in
    let met = c.any_claimed.ensures.some c.if-any_claimed.true in
    let k : ℕ = met.0 in
    let of_head : has_place i.claimed.marked (place_at b (offset_at c.args.head.now k / i.claimed.table.page_size)) ≡ true =
    subst (λ (h : List ℕ). has_place i.claimed.marked (place_at b (offset_at h k / i.claimed.table.page_size)) ≡ true) same met.2 in
    let of_table : has_place i.claimed.marked (place_at b (offset_at c.args.head.now k / i.load.table.page_size)) ≡ true =
    subst (λ (t : RamTable). has_place i.claimed.marked (place_at b (offset_at c.args.head.now k / t.page_size)) ≡ true) c.self.invariant of_head in (
      refl,
      (
        b,
        subst (λ (x : ApartLoad). LieIn x.load.table b c.args.head.now) c.self.view_is c.in-Some.ensures.lies,
        k,
        subst (λ (h : List ℕ). k < normal_count h + zero_count h) same met.1,
        subst (λ (x : ApartLoad). has_place x.claimed.marked
            (place_at b (offset_at c.args.head.now k / x.load.table.page_size)) ≡ true) c.self.view_is of_table,
      ),
    )
