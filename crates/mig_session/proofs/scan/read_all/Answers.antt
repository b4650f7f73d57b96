use Rattle.std.proofs.Common.{ℕ, ◌≡◌, ◌-◌, ◌≤◌, false, List, take, drop, length, refl, sym, ap, subst, inl, inr, arith}
use Rattle.std.proofs.lemmas.List.{length-drop}
use Rattle.mig_stream.proofs.ZeroRecords.{tail_from}
use Rattle.mig_packet.specs.declared.state.ChannelState.TheVariants.{Reading}
use Rattle.mig_packet.specs.declared.page_reader.ChannelEvent.{ChannelEvent}
use Rattle.mig_packet.specs.declared.page_reader.ChannelEvent.TheVariants as event
use Rattle.mig_packet.specs.Paging.{PageHolder, GivesOn, HolderTells, Comes, Stops, NeedsMore}
use Rattle.mig_session.proofs.Scanning.{Completed, counts_on, none_taken, at_first, at_next, at_pass, at_more, at_over, hello_completes, head_completes}
use Rattle.mig_session.proofs.Scanning.{page_completes, packet_completes}
use Rattle.mig_session.proofs.scan.read_all.Goals as goal

pub returns-in-Closed : goal.returns-in-Closed
returns-in-Closed g c = record {
  reads = none_taken c.args.piece.now c.args.rounds c.args.reader.now c.state.result c.requires.open (λ is. elim c.in-Closed.is [
    | inl e ↦ absurd (let f : Reading ≡ c.state.result = sym is in cc)
    | inr e ↦ absurd (let f : Reading ≡ c.state.result = sym is in cc)
  ]) c.state.ensures.state;
  ended = refl;
}

pub items-init : goal.items-init
items-init g c = at_first c.args.piece.now c.args.rounds c.args.reader.now c.state.result c.requires.open c.in-Reading.is c.state.ensures.state

-- ---- where no more is given

pub returns-in-More-clause-reads : goal.returns-in-More-clause-reads
returns-in-More-clause-reads g c =
    let piece : List ℕ = c.args.piece.now in
    let n : ℕ = c.items.taken in
    let k : ℕ = c.read_on-count.result.1 in
    let new : PageHolder = c.read_on-count.new.self in
    let all : take (length piece - n) (drop n piece) ≡ drop n piece = tail_from piece n in
    let gives : GivesOn (take k (drop n piece)) c.read_on-count.result.0 c.items.reader new =
    subst (λ (x : List ℕ). GivesOn (take k x) c.read_on-count.result.0 c.items.reader new) all c.read_on-count.ensures.gives in
    let stops : Stops c.read_on-count.result.0 k (drop n piece) new =
    subst (λ (x : List ℕ). Stops c.read_on-count.result.0 k x new) all c.read_on-count.ensures.stops in
    let within : k ≤ length piece - n = omega (arith, c.read_on-count.ensures.taken, ap (λ (l : List ℕ). length l) all, length-drop n piece) in
    elim c.in-More.is [
      | inl e ↦ at_more piece n k c.args.rounds c.items.rounds c.args.reader.now c.items.reader new within
          (subst (λ (a : ChannelEvent). GivesOn (take k (drop n piece)) a c.items.reader new) e gives)
          (subst (λ (a : ChannelEvent). Stops a k (drop n piece) new) e stops)
          (subst (λ (a : ChannelEvent). NeedsMore a new) e c.read_on-count.ensures.needs) c.items.invariant
      | inr e ↦ at_over piece n k c.args.rounds c.items.rounds c.args.reader.now c.items.reader new c.requires.open
          (subst (λ (a : ChannelEvent). GivesOn (take k (drop n piece)) a c.items.reader new) e gives)
          (subst (λ (a : ChannelEvent). Stops a k (drop n piece) new) e stops) c.read_on-count.ensures.ended c.items.invariant
    ]

-- ---- results

pub items-preserved-in-Hello : goal.items-preserved-in-Hello
items-preserved-in-Hello g c =
    let piece : List ℕ = c.args.piece.now in
    let n : ℕ = c.items.taken in
    let k : ℕ = c.read_on-count.result.1 in
    let r : PageHolder = c.items.reader in
    let new : PageHolder = c.read_on-count.new.self in
    let all : take (length piece - n) (drop n piece) ≡ drop n piece = tail_from piece n in
    let gives : GivesOn (take k (drop n piece)) c.read_on-count.result.0 r new =
    subst (λ (x : List ℕ). GivesOn (take k x) c.read_on-count.result.0 r new) all c.read_on-count.ensures.gives in
    let within : k ≤ length piece - n = omega (arith, c.read_on-count.ensures.taken, ap (λ (l : List ℕ). length l) all, length-drop n piece) in
    at_pass piece n k c.args.rounds c.items.rounds c.read_on-count.result.0 c.args.reader.now r new within gives c.read_on-count.ensures.fed
    c.read_on-count.ensures.ended
    (elim c.in-Hello.is [
      | inl h ↦ subst (λ (a : ChannelEvent). Completed a false r new) (sym h.1) (hello_completes h.0 r new)
      | inr others ↦ elim others [
        | inl e ↦ subst (λ (a : ChannelEvent). Completed a false r new) (sym e) (head_completes r new)
        | inr p ↦ subst (λ (a : ChannelEvent). Completed a false r new) (sym p.2) (page_completes p.0 p.1 r new)
      ]
    ]) c.items.invariant

pub items-preserved : goal.items-preserved
items-preserved g c =
    let piece : List ℕ = c.args.piece.now in
    let n : ℕ = c.items.taken in
    let k : ℕ = c.read_on-count.result.1 in
    let r : PageHolder = c.items.reader in
    let new : PageHolder = c.read_on-count.new.self in
    let all : take (length piece - n) (drop n piece) ≡ drop n piece = tail_from piece n in
    let gives : GivesOn (take k (drop n piece)) c.read_on-count.result.0 r new =
    subst (λ (x : List ℕ). GivesOn (take k x) c.read_on-count.result.0 r new) all c.read_on-count.ensures.gives in
    let within : k ≤ length piece - n = omega (arith, c.read_on-count.ensures.taken, ap (λ (l : List ℕ). length l) all, length-drop n piece) in
    let comes : HolderTells r (λ given text so_far. Comes given.page_size (event.Packet c.in-Packet.sync) so_far) =
    subst (λ (a : ChannelEvent). HolderTells r (λ given text so_far. Comes given.page_size a so_far)) c.in-Packet.is c.read_on-count.ensures.comes in
    at_next piece n k c.args.rounds c.items.rounds c.counted-rounds.result c.in-Packet.sync c.read_on-count.result.0 c.args.reader.now r new within gives
    c.read_on-count.ensures.fed c.read_on-count.ensures.ended
    (subst (λ (a : ChannelEvent). Completed a c.in-Packet.sync r new) (sym c.in-Packet.is) (packet_completes c.in-Packet.sync r new comes))
    (counts_on c.in-Packet.sync c.items.rounds c.counted-rounds.result c.counted-rounds.ensures.one c.counted-rounds.ensures.none) c.items.invariant
