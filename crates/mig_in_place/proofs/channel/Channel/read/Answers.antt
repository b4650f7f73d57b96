use Rattle.std.proofs.Common.{ℕ, ◌≡◌, ◌≢◌, ◌+◌, ◌-◌, ◌/◌, ◌≤◌, ◌∙◌, Bool, List, Option, Some, None, take, drop, length, refl, sym, ap, subst, inl, inr}
use Rattle.std.specs.Prelude.{◌⊎◌, IsFalse, IfSome, IfNone}
use Rattle.std.specs.Option.{option_map}
use Rattle.mig_mem.specs.RamTable.{RamTable}
use Rattle.mig_mem.specs.Place.{IsPlace, place_at}
use Rattle.mig_mem.specs.Image.{Image}
use Rattle.mig_stream.proofs.ZeroRecords.{tail_from}
use Rattle.mig_packet.specs.declared.page_reader.ChannelEvent.{ChannelEvent}
use Rattle.mig_packet.specs.declared.page_reader.ChannelEvent.TheVariants as event
use Rattle.mig_packet.specs.Paging.{PageHolder, GivesOn, HolderTells, Comes, IsWhole, Stops}
use Rattle.mig_in_place.specs.declared.main_stream.SizeList.TheVariants as list
use Rattle.mig_in_place.specs.Round.{KeepsSome}
use Rattle.mig_in_place.specs.Sources.{KeptChannel, IsChannelOf, WritesInto, HasRead}
use Rattle.mig_in_place.proofs.Channels.{kept}
use Rattle.mig_in_place.proofs.Midway.{IsAt, at_first, at_next, at_last, at_refused, hello_came, into_midst, head_came, page_came, packet_came, stop_rests}
use Rattle.mig_in_place.proofs.Midway.{stop_waits, stop_channel, whole_waits, of_hello, of_head, of_page, of_packet, head_block, page_lies, page_size_of}
use Rattle.mig_in_place.proofs.Midway.{of_refused, any_err, packet_on}
use Rattle.mig_in_place.proofs.channel.Channel.read.Goals as goal

pub items-init : goal.items-init
items-init g c = (
  at_first c.args.list c.args.piece.now c.args.self.now c.args.round.now (g.M.GuestTarget.image c.args.memory.now)
      (c.if-not-takes.ensures.open refl) c.if-not-takes.ensures.tells c.requires.channel c.requires.round,
  refl,
)

-- ---- More and Over

pub returns-in-More-clause-read : goal.returns-in-More-clause-read
returns-in-More-clause-read g c =
    let i = c.self.inside in
    let all : take (length c.args.piece.now - c.items.taken)
    (drop c.items.taken c.args.piece.now) ≡ drop c.items.taken c.args.piece.now = tail_from c.args.piece.now c.items.taken in
    let gives : GivesOn (take c.read_on-count.result.1 (drop c.items.taken c.args.piece.now)) c.read_on-count.result.0
    c.self.inside.reader c.read_on-count.new.self =
    subst (λ (x : List ℕ). GivesOn (take c.read_on-count.result.1 x) c.read_on-count.result.0 c.self.inside.reader
    c.read_on-count.new.self) all c.read_on-count.ensures.gives in
    let stops_ : Stops c.read_on-count.result.0 c.read_on-count.result.1 (drop c.items.taken c.args.piece.now) c.read_on-count.new.self =
    subst (λ (x : List ℕ). Stops c.read_on-count.result.0 c.read_on-count.result.1 x c.read_on-count.new.self) all c.read_on-count.ensures.stops in
    let l = c.args.list in
    let piece : List ℕ = c.args.piece.now in
    let n : ℕ = c.items.taken in
    let k : ℕ = c.read_on-count.result.1 in
    let new : PageHolder = c.read_on-count.new.self in
    let memory : Image = g.M.GuestTarget.image c.items.memory in
    let first : Image = g.M.GuestTarget.image c.args.memory.now in
    let at : IsAt l piece n c.args.self.now c.args.round.now first (kept i.reader i.block i.is_whole) c.items.round memory =
    subst (λ (x : KeptChannel). IsAt l piece n c.args.self.now c.args.round.now first x c.items.round memory) (sym c.self.view_is) c.items.invariant.0 in
    let stops : (c.read_on-count.result.0 ≡ event.More) ⊎ (c.read_on-count.result.0 ≡ event.Over) = elim c.in-More.is [ inl e ↦ inl e | inr e ↦ inr e ] in
    at_last l piece n k (n + k) c.args.self.now c.args.round.now first (kept i.reader i.block i.is_whole) c.items.round memory
    (kept new i.block i.is_whole) c.items.round memory refl
    (stop_rests l (take k (drop n piece)) (drop n piece) k c.read_on-count.result.0 i.reader new i.block i.is_whole c.items.round
    memory stops gives c.read_on-count.ensures.needs
    stops_ c.read_on-count.ensures.ended (at.has_ended ∙ c.requires.open)) at

pub returns-in-More-clause-waits : goal.returns-in-More-clause-waits
returns-in-More-clause-waits g c = λ lt.
    let i = c.self.inside in
    let all : take (length c.args.piece.now - c.items.taken)
    (drop c.items.taken c.args.piece.now) ≡ drop c.items.taken c.args.piece.now = tail_from c.args.piece.now c.items.taken in
    let stops_ : Stops c.read_on-count.result.0 c.read_on-count.result.1 (drop c.items.taken c.args.piece.now) c.read_on-count.new.self =
    subst (λ (x : List ℕ). Stops c.read_on-count.result.0 c.read_on-count.result.1 x c.read_on-count.new.self) all c.read_on-count.ensures.stops in
    let piece : List ℕ = c.args.piece.now in
    let n : ℕ = c.items.taken in
    let new : PageHolder = c.read_on-count.new.self in
    let running : IsFalse i.reader.ended = ap (λ (x : KeptChannel). x.reader.ended) c.self.view_is ∙ c.items.invariant.0.has_ended ∙ c.requires.open in
    let open_ : IsFalse i.is_whole = ap (λ (x : KeptChannel). x.is_whole) c.self.view_is ∙ c.items.invariant.0.is_open in
    let stops : (c.read_on-count.result.0 ≡ event.More) ⊎ (c.read_on-count.result.0 ≡ event.Over) = elim c.in-More.is [ inl e ↦ inl e | inr e ↦ inr e ] in
    stop_waits c.args.list piece n c.read_on-count.result.1 c.read_on-count.result.0 i.reader new i.block i.is_whole stops stops_
    c.read_on-count.ensures.ended running open_ lt

pub returns-in-More-clause-channel : goal.returns-in-More-clause-channel
returns-in-More-clause-channel g c =
    let i = c.self.inside in
    let all : take (length c.args.piece.now - c.items.taken)
    (drop c.items.taken c.args.piece.now) ≡ drop c.items.taken c.args.piece.now = tail_from c.args.piece.now c.items.taken in
    let gives : GivesOn (take c.read_on-count.result.1 (drop c.items.taken c.args.piece.now)) c.read_on-count.result.0
    c.self.inside.reader c.read_on-count.new.self =
    subst (λ (x : List ℕ). GivesOn (take c.read_on-count.result.1 x) c.read_on-count.result.0 c.self.inside.reader
    c.read_on-count.new.self) all c.read_on-count.ensures.gives in
    let table : RamTable = (g.M.GuestTarget.image c.args.memory.now).table in
    let stops : (c.read_on-count.result.0 ≡ event.More) ⊎ (c.read_on-count.result.0 ≡ event.Over) = elim c.in-More.is [ inl e ↦ inl e | inr e ↦ inr e ] in
    stop_channel table (take c.read_on-count.result.1 (drop c.items.taken c.args.piece.now)) c.read_on-count.result.0 i.reader
    c.read_on-count.new.self i.block i.is_whole stops gives
    (subst (λ (x : KeptChannel). IsChannelOf table x) (sym c.self.view_is) c.items.invariant.0.channel)

-- ---- the hello

pub returns-then-not-takes-2-clause-read : goal.returns-then-not-takes-2-clause-read
returns-then-not-takes-2-clause-read g c =
    let i = c.self.inside in
    let all : take (length c.args.piece.now - c.items.taken)
    (drop c.items.taken c.args.piece.now) ≡ drop c.items.taken c.args.piece.now = tail_from c.args.piece.now c.items.taken in
    let gives : GivesOn (take c.read_on-count.result.1 (drop c.items.taken c.args.piece.now)) c.read_on-count.result.0
    c.self.inside.reader c.read_on-count.new.self =
    subst (λ (x : List ℕ). GivesOn (take c.read_on-count.result.1 x) c.read_on-count.result.0 c.self.inside.reader
    c.read_on-count.new.self) all c.read_on-count.ensures.gives in
    let l = c.args.list in
    let piece : List ℕ = c.args.piece.now in
    let n : ℕ = c.items.taken in
    let k : ℕ = c.read_on-count.result.1 in
    let new : PageHolder = c.read_on-count.new.self in
    let bytes : List ℕ = take k (drop n piece) in
    let memory : Image = g.M.GuestTarget.image c.items.memory in
    let first : Image = g.M.GuestTarget.image c.args.memory.now in
    let at : IsAt l piece n c.args.self.now c.args.round.now first (kept i.reader i.block i.is_whole) c.items.round memory =
    subst (λ (x : KeptChannel). IsAt l piece n c.args.self.now c.args.round.now first x c.items.round memory) (sym c.self.view_is) c.items.invariant.0 in
    let on : GivesOn bytes (event.Hello c.in-Hello.field-0) i.reader new = subst (λ (a : ChannelEvent). GivesOn bytes a i.reader new) c.in-Hello.is gives in
    let comes = subst (λ (a : ChannelEvent). HolderTells i.reader (λ given text so_far. Comes given.page_size a so_far))
    c.in-Hello.is c.read_on-count.ensures.comes in
    at_last l piece n k (n + k) c.args.self.now c.args.round.now first (kept i.reader i.block i.is_whole) c.items.round memory
    (kept new i.block i.is_whole) c.items.round memory refl
    (λ f text so_far amid. hello_came f l text so_far i.reader new i.block i.is_whole c.items.round memory c.in-Hello.field-0
    bytes on comes c.read_on-count.ensures.ended amid) at

pub returns-then-not-takes-2-clause-channel : goal.returns-then-not-takes-2-clause-channel
returns-then-not-takes-2-clause-channel g c =
    let i = c.self.inside in
    let all : take (length c.args.piece.now - c.items.taken)
    (drop c.items.taken c.args.piece.now) ≡ drop c.items.taken c.args.piece.now = tail_from c.args.piece.now c.items.taken in
    let gives : GivesOn (take c.read_on-count.result.1 (drop c.items.taken c.args.piece.now)) c.read_on-count.result.0
    c.self.inside.reader c.read_on-count.new.self =
    subst (λ (x : List ℕ). GivesOn (take c.read_on-count.result.1 x) c.read_on-count.result.0 c.self.inside.reader
    c.read_on-count.new.self) all c.read_on-count.ensures.gives in
    let table : RamTable = (g.M.GuestTarget.image c.args.memory.now).table in
    let bytes : List ℕ = take c.read_on-count.result.1 (drop c.items.taken c.args.piece.now) in
    let on : GivesOn bytes (event.Hello c.in-Hello.field-0) i.reader c.read_on-count.new.self =
    subst (λ (a : ChannelEvent). GivesOn bytes a i.reader c.read_on-count.new.self) c.in-Hello.is gives in
    of_hello table c.in-Hello.field-0 bytes i.reader c.read_on-count.new.self i.block i.is_whole on
    (subst (λ (x : KeptChannel). IsChannelOf table x) (sym c.self.view_is) c.items.invariant.0.channel)

pub items-preserved-else-not-takes-2 : goal.items-preserved-else-not-takes-2
items-preserved-else-not-takes-2 g c =
    let i = c.self.inside in
    let all : take (length c.args.piece.now - c.items.taken)
    (drop c.items.taken c.args.piece.now) ≡ drop c.items.taken c.args.piece.now = tail_from c.args.piece.now c.items.taken in
    let gives : GivesOn (take c.read_on-count.result.1 (drop c.items.taken c.args.piece.now)) c.read_on-count.result.0
    c.self.inside.reader c.read_on-count.new.self =
    subst (λ (x : List ℕ). GivesOn (take c.read_on-count.result.1 x) c.read_on-count.result.0 c.self.inside.reader
    c.read_on-count.new.self) all c.read_on-count.ensures.gives in
    let within : c.read_on-count.result.1 ≤ length (drop c.items.taken c.args.piece.now) =
    subst (λ (x : List ℕ). c.read_on-count.result.1 ≤ length x) all c.read_on-count.ensures.taken in
    let l = c.args.list in
    let piece : List ℕ = c.args.piece.now in
    let n : ℕ = c.items.taken in
    let k : ℕ = c.read_on-count.result.1 in
    let new : PageHolder = c.read_on-count.new.self in
    let bytes : List ℕ = take k (drop n piece) in
    let memory : Image = g.M.GuestTarget.image c.items.memory in
    let first : Image = g.M.GuestTarget.image c.args.memory.now in
    let at : IsAt l piece n c.args.self.now c.args.round.now first (kept i.reader i.block i.is_whole) c.items.round memory =
    subst (λ (x : KeptChannel). IsAt l piece n c.args.self.now c.args.round.now first x c.items.round memory) (sym c.self.view_is) c.items.invariant.0 in
    let on : GivesOn bytes (event.Hello c.in-Hello.field-0) i.reader new = subst (λ (a : ChannelEvent). GivesOn bytes a i.reader new) c.in-Hello.is gives in
    let comes = subst (λ (a : ChannelEvent). HolderTells i.reader (λ given text so_far. Comes given.page_size a so_far))
    c.in-Hello.is c.read_on-count.ensures.comes in (
      at_next l piece n k (n + k) c.args.self.now c.args.round.now first (kept i.reader i.block i.is_whole) c.items.round memory
          (kept new i.block i.is_whole) c.items.round memory
          within refl c.read_on-count.ensures.fed c.read_on-count.ensures.ended at.is_open
          (of_hello first.table c.in-Hello.field-0 bytes i.reader new i.block i.is_whole on at.channel) at.round (λ wrong. wrong) refl
          (λ other none. (refl, refl, none))
          (λ f text so_far amid.
          let came_ = hello_came f l text so_far i.reader new i.block i.is_whole c.items.round memory c.in-Hello.field-0 bytes on comes
          c.read_on-count.ensures.ended amid in
          (came_.0, into_midst f l _ came_.0 (kept new i.block i.is_whole) c.items.round memory at.is_open c.if-not-takes-2.ensures.tells came_.1)) at,
      c.items.invariant.1,
    )

-- ---- a head

pub begin_packet-requires-clause-page_size : goal.begin_packet-requires-clause-page_size
begin_packet-requires-clause-page_size g c =
    let i = c.self.inside in
    let all : take (length c.args.piece.now - c.items.taken)
    (drop c.items.taken c.args.piece.now) ≡ drop c.items.taken c.args.piece.now = tail_from c.args.piece.now c.items.taken in
    let gives : GivesOn (take c.read_on-count.result.1 (drop c.items.taken c.args.piece.now)) c.read_on-count.result.0
    c.self.inside.reader c.read_on-count.new.self =
    subst (λ (x : List ℕ). GivesOn (take c.read_on-count.result.1 x) c.read_on-count.result.0 c.self.inside.reader
    c.read_on-count.new.self) all c.read_on-count.ensures.gives in
    let table : RamTable = (g.M.GuestTarget.image c.args.memory.now).table in
    page_size_of table c.read_on-count.result.0
    (take c.read_on-count.result.1 (drop c.items.taken c.args.piece.now)) i.reader c.read_on-count.new.self i.block i.is_whole gives
    (subst (λ (x : KeptChannel). IsChannelOf table x) (sym c.self.view_is) c.items.invariant.0.channel)
    ∙ ap (λ (t : RamTable). t.page_size) (sym c.items.invariant.0.table)

pub begin_packet-requires-clause-block : goal.begin_packet-requires-clause-block
begin_packet-requires-clause-block g c =
    let i = c.self.inside in
    let table : RamTable = (g.M.GuestTarget.image c.args.memory.now).table in
    let comes = subst (λ (a : ChannelEvent). HolderTells i.reader (λ given text so_far. Comes given.page_size a so_far))
    c.in-Head.is c.read_on-count.ensures.comes in
    head_block table (kept i.reader i.block i.is_whole) comes
    (subst (λ (x : KeptChannel). IsChannelOf table x) (sym c.self.view_is) c.items.invariant.0.channel)

pub items-preserved-in-Continue-1 : goal.items-preserved-in-Continue-1
items-preserved-in-Continue-1 g c =
    let i = c.self.inside in
    let all : take (length c.args.piece.now - c.items.taken)
    (drop c.items.taken c.args.piece.now) ≡ drop c.items.taken c.args.piece.now = tail_from c.args.piece.now c.items.taken in
    let gives : GivesOn (take c.read_on-count.result.1 (drop c.items.taken c.args.piece.now)) c.read_on-count.result.0
    c.self.inside.reader c.read_on-count.new.self =
    subst (λ (x : List ℕ). GivesOn (take c.read_on-count.result.1 x) c.read_on-count.result.0 c.self.inside.reader
    c.read_on-count.new.self) all c.read_on-count.ensures.gives in
    let within : c.read_on-count.result.1 ≤ length (drop c.items.taken c.args.piece.now) =
    subst (λ (x : List ℕ). c.read_on-count.result.1 ≤ length x) all c.read_on-count.ensures.taken in
    let l = c.args.list in
    let piece : List ℕ = c.args.piece.now in
    let n : ℕ = c.items.taken in
    let k : ℕ = c.read_on-count.result.1 in
    let new : PageHolder = c.read_on-count.new.self in
    let bytes : List ℕ = take k (drop n piece) in
    let memory : Image = g.M.GuestTarget.image c.items.memory in
    let then : Image = g.M.GuestTarget.image c.begin_packet.new.memory in
    let first : Image = g.M.GuestTarget.image c.args.memory.now in
    let begun = c.begin_packet.new.self in
    let e = c.in_ok-begin_packet-in-Head.ensures in
    let at : IsAt l piece n c.args.self.now c.args.round.now first (kept i.reader i.block i.is_whole) c.items.round memory =
    subst (λ (x : KeptChannel). IsAt l piece n c.args.self.now c.args.round.now first x c.items.round memory) (sym c.self.view_is) c.items.invariant.0 in
    let on : GivesOn bytes event.Head i.reader new = subst (λ (a : ChannelEvent). GivesOn bytes a i.reader new) c.in-Head.is gives in
    let comes = subst (λ (a : ChannelEvent). HolderTells i.reader (λ given text so_far. Comes given.page_size a so_far))
    c.in-Head.is c.read_on-count.ensures.comes in
    let none : i.block ≡ None = head_block first.table (kept i.reader i.block i.is_whole) comes at.channel in
    let is : kept new begun.block i.is_whole ≡ begun =
    ap (λ (r : PageHolder). kept r begun.block i.is_whole) (sym e.reader.0) ∙ ap (λ (b : Bool). kept begun.reader begun.block b) (sym e.reader.1) in
    let same_block : l ≢ list.Complete → begun.block ≡ i.block = λ other. ap (λ (x : KeptChannel). x.block) (e.unknown other).0 in
    let into : l ≡ list.Complete → (head : List ℕ) → option_map (λ packet. packet.0) new.packet ≡ Some head
    → WritesInto first.table head c.begin_packet.new.round begun.block =
    λ complete head h. subst (λ (t : RamTable). WritesInto t head c.begin_packet.new.round begun.block) at.table (e.writes complete head h) in (
      subst (λ (x : KeptChannel). IsAt l piece (n + k) c.args.self.now c.args.round.now first x c.begin_packet.new.round then) is
          (at_next l piece n k (n + k) c.args.self.now c.args.round.now first (kept i.reader i.block i.is_whole) c.items.round memory
          (kept new begun.block i.is_whole) c.begin_packet.new.round then
          within refl c.read_on-count.ensures.fed c.read_on-count.ensures.ended at.is_open
          (of_head first.table l bytes i.reader new i.block begun.block i.is_whole c.begin_packet.new.round on none into same_block at.channel)
          (subst (λ (t : RamTable). KeepsSome t c.begin_packet.new.round) at.table
          (e.round (subst (λ (t : RamTable). KeepsSome t c.items.round) (sym at.table) at.round)))
          e.misplaced e.table (λ other none_. ((e.unknown other).1, e.same other, same_block other ∙ none_))
          (λ f text so_far amid. head_came f l text so_far i.reader new i.block begun.block i.is_whole c.items.round
          c.begin_packet.new.round memory then bytes on comes c.read_on-count.ensures.ended e.table
          e.adds e.writes same_block (λ other. (e.unknown other).1) amid) at),
      e.kept ∙ c.items.invariant.1,
    )

pub returns-in_err-begin_packet-in-Head-clause-some : goal.returns-in_err-begin_packet-in-Head-clause-some
returns-in_err-begin_packet-in-Head-clause-some g c =
    let i = c.self.inside in
    let l = c.args.list in
    let piece : List ℕ = c.args.piece.now in
    let n : ℕ = c.items.taken in
    let k : ℕ = c.read_on-count.result.1 in
    let new : PageHolder = c.read_on-count.new.self in
    let bytes : List ℕ = take k (drop n piece) in
    let all : take (length c.args.piece.now - c.items.taken)
    (drop c.items.taken c.args.piece.now) ≡ drop c.items.taken c.args.piece.now = tail_from c.args.piece.now c.items.taken in
    let gives : GivesOn bytes c.read_on-count.result.0 i.reader new =
    subst (λ (x : List ℕ). GivesOn (take k x) c.read_on-count.result.0 i.reader new) all c.read_on-count.ensures.gives in
    let memory : Image = g.M.GuestTarget.image c.items.memory in
    let first : Image = g.M.GuestTarget.image c.args.memory.now in
    let at : IsAt l piece n c.args.self.now c.args.round.now first (kept i.reader i.block i.is_whole) c.items.round memory =
    subst (λ (x : KeptChannel). IsAt l piece n c.args.self.now c.args.round.now first x c.items.round memory) (sym c.self.view_is) c.items.invariant.0 in
    let on : GivesOn bytes event.Head i.reader new = subst (λ (a : ChannelEvent). GivesOn bytes a i.reader new) c.in-Head.is gives in
    let comes = subst (λ (a : ChannelEvent). HolderTells i.reader (λ given text so_far. Comes given.page_size a so_far))
    c.in-Head.is c.read_on-count.ensures.comes in
    let err = c.in_err-begin_packet-in-Head.ensures.err in
    let within : k ≤ length (drop n piece) = subst (λ (x : List ℕ). k ≤ length x) all c.read_on-count.ensures.taken in
    let counted : c.begin_packet.new.self.reader.fed ≡ i.reader.fed + k = ap (λ (x : KeptChannel). x.reader.fed) err.0 ∙ c.read_on-count.ensures.fed in
    any_err c.from_residual.result (at_refused l piece n k c.args.self.now c.args.round.now first
    (kept i.reader i.block i.is_whole) c.begin_packet.new.self c.items.round c.begin_packet.new.round memory
    (g.M.GuestTarget.image c.begin_packet.new.memory) within counted comes err.1 err.2 at)

pub returns-in_err-begin_packet-in-Head-clause-channel : goal.returns-in_err-begin_packet-in-Head-clause-channel
returns-in_err-begin_packet-in-Head-clause-channel g c =
    let i = c.self.inside in
    let l = c.args.list in
    let piece : List ℕ = c.args.piece.now in
    let n : ℕ = c.items.taken in
    let k : ℕ = c.read_on-count.result.1 in
    let new : PageHolder = c.read_on-count.new.self in
    let bytes : List ℕ = take k (drop n piece) in
    let all : take (length c.args.piece.now - c.items.taken)
    (drop c.items.taken c.args.piece.now) ≡ drop c.items.taken c.args.piece.now = tail_from c.args.piece.now c.items.taken in
    let gives : GivesOn bytes c.read_on-count.result.0 i.reader new =
    subst (λ (x : List ℕ). GivesOn (take k x) c.read_on-count.result.0 i.reader new) all c.read_on-count.ensures.gives in
    let memory : Image = g.M.GuestTarget.image c.items.memory in
    let first : Image = g.M.GuestTarget.image c.args.memory.now in
    let at : IsAt l piece n c.args.self.now c.args.round.now first (kept i.reader i.block i.is_whole) c.items.round memory =
    subst (λ (x : KeptChannel). IsAt l piece n c.args.self.now c.args.round.now first x c.items.round memory) (sym c.self.view_is) c.items.invariant.0 in
    let on : GivesOn bytes event.Head i.reader new = subst (λ (a : ChannelEvent). GivesOn bytes a i.reader new) c.in-Head.is gives in
    let comes = subst (λ (a : ChannelEvent). HolderTells i.reader (λ given text so_far. Comes given.page_size a so_far))
    c.in-Head.is c.read_on-count.ensures.comes in
    let err = c.in_err-begin_packet-in-Head.ensures.err in
    subst (λ (x : KeptChannel). IsChannelOf first.table x) (sym err.0)
    (of_refused first.table bytes i.reader new i.block i.is_whole on (head_block first.table (kept i.reader i.block i.is_whole) comes at.channel) at.channel)

-- ---- a page

pub put_page-requires-clause-size : goal.put_page-requires-clause-size
put_page-requires-clause-size g c =
    let i = c.self.inside in
    let all : take (length c.args.piece.now - c.items.taken)
    (drop c.items.taken c.args.piece.now) ≡ drop c.items.taken c.args.piece.now = tail_from c.args.piece.now c.items.taken in
    let gives : GivesOn (take c.read_on-count.result.1 (drop c.items.taken c.args.piece.now)) c.read_on-count.result.0
    c.self.inside.reader c.read_on-count.new.self =
    subst (λ (x : List ℕ). GivesOn (take c.read_on-count.result.1 x) c.read_on-count.result.0 c.self.inside.reader
    c.read_on-count.new.self) all c.read_on-count.ensures.gives in
    let table : RamTable = (g.M.GuestTarget.image c.args.memory.now).table in
    let new : PageHolder = c.read_on-count.new.self in
    let whole : IsWhole (event.Page c.in-Page.offset c.in-Page.content) new =
    subst (λ (a : ChannelEvent). IsWhole a new) c.in-Page.is c.read_on-count.ensures.whole in
    whole ∙ page_size_of table c.read_on-count.result.0
    (take c.read_on-count.result.1 (drop c.items.taken c.args.piece.now)) i.reader new i.block i.is_whole gives
    (subst (λ (x : KeptChannel). IsChannelOf table x) (sym c.self.view_is) c.items.invariant.0.channel)
    ∙ ap (λ (t : RamTable). t.page_size) (sym c.items.invariant.0.table)

pub put_page-requires-clause-lies : goal.put_page-requires-clause-lies
put_page-requires-clause-lies g c =
    let i = c.self.inside in
    let all : take (length c.args.piece.now - c.items.taken)
    (drop c.items.taken c.args.piece.now) ≡ drop c.items.taken c.args.piece.now = tail_from c.args.piece.now c.items.taken in
    let gives : GivesOn (take c.read_on-count.result.1 (drop c.items.taken c.args.piece.now)) c.read_on-count.result.0
    c.self.inside.reader c.read_on-count.new.self =
    subst (λ (x : List ℕ). GivesOn (take c.read_on-count.result.1 x) c.read_on-count.result.0 c.self.inside.reader
    c.read_on-count.new.self) all c.read_on-count.ensures.gives in
    let table : RamTable = (g.M.GuestTarget.image c.args.memory.now).table in
    let new : PageHolder = c.read_on-count.new.self in
    let bytes : List ℕ = take c.read_on-count.result.1 (drop c.items.taken c.args.piece.now) in
    let on : GivesOn bytes (event.Page c.in-Page.offset c.in-Page.content) i.reader new =
    subst (λ (a : ChannelEvent). GivesOn bytes a i.reader new) c.in-Page.is gives in
    let comes = subst (λ (a : ChannelEvent). HolderTells i.reader (λ given text so_far. Comes given.page_size a so_far))
    c.in-Page.is c.read_on-count.ensures.comes in
    subst (λ (t : RamTable). IfSome i.block (λ b. IsPlace t (place_at b (c.in-Page.offset / t.page_size)))) (sym c.items.invariant.0.table)
    (page_lies table c.in-Page.offset c.in-Page.content bytes i.reader new i.block i.is_whole on comes
    (subst (λ (x : KeptChannel). IsChannelOf table x) (sym c.self.view_is) c.items.invariant.0.channel))

pub items-preserved-in-Page : goal.items-preserved-in-Page
items-preserved-in-Page g c =
    let i = c.self.inside in
    let all : take (length c.args.piece.now - c.items.taken)
    (drop c.items.taken c.args.piece.now) ≡ drop c.items.taken c.args.piece.now = tail_from c.args.piece.now c.items.taken in
    let gives : GivesOn (take c.read_on-count.result.1 (drop c.items.taken c.args.piece.now)) c.read_on-count.result.0
    c.self.inside.reader c.read_on-count.new.self =
    subst (λ (x : List ℕ). GivesOn (take c.read_on-count.result.1 x) c.read_on-count.result.0 c.self.inside.reader
    c.read_on-count.new.self) all c.read_on-count.ensures.gives in
    let within : c.read_on-count.result.1 ≤ length (drop c.items.taken c.args.piece.now) =
    subst (λ (x : List ℕ). c.read_on-count.result.1 ≤ length x) all c.read_on-count.ensures.taken in
    let l = c.args.list in
    let piece : List ℕ = c.args.piece.now in
    let n : ℕ = c.items.taken in
    let k : ℕ = c.read_on-count.result.1 in
    let new : PageHolder = c.read_on-count.new.self in
    let bytes : List ℕ = take k (drop n piece) in
    let memory : Image = g.M.GuestTarget.image c.items.memory in
    let then : Image = g.M.GuestTarget.image c.put_page.new.memory in
    let first : Image = g.M.GuestTarget.image c.args.memory.now in
    let at : IsAt l piece n c.args.self.now c.args.round.now first (kept i.reader i.block i.is_whole) c.items.round memory =
    subst (λ (x : KeptChannel). IsAt l piece n c.args.self.now c.args.round.now first x c.items.round memory) (sym c.self.view_is) c.items.invariant.0 in
    let on : GivesOn bytes (event.Page c.in-Page.offset c.in-Page.content) i.reader new =
    subst (λ (a : ChannelEvent). GivesOn bytes a i.reader new) c.in-Page.is gives in
    let comes = subst (λ (a : ChannelEvent). HolderTells i.reader (λ given text so_far. Comes given.page_size a so_far))
    c.in-Page.is c.read_on-count.ensures.comes in
    let whole : IsWhole (event.Page c.in-Page.offset c.in-Page.content) new =
    subst (λ (a : ChannelEvent). IsWhole a new) c.in-Page.is c.read_on-count.ensures.whole in (
      at_next l piece n k (n + k) c.args.self.now c.args.round.now first (kept i.reader i.block i.is_whole) c.items.round memory
          (kept new i.block i.is_whole) c.items.round then
          within refl c.read_on-count.ensures.fed c.read_on-count.ensures.ended at.is_open
          (of_page first.table c.in-Page.offset c.in-Page.content bytes i.reader new i.block i.is_whole on at.channel) at.round
          (λ wrong. wrong) c.put_page.ensures.table
          (λ other none. (refl, subst (λ (o : Option ℕ). IfNone o (then ≡ memory)) none c.put_page.ensures.none, none))
          (λ f text so_far amid. page_came f l text so_far i.reader new i.block i.is_whole c.items.round memory then c.in-Page.offset
          c.in-Page.content bytes on comes c.read_on-count.ensures.ended whole c.put_page.ensures.table
          c.put_page.ensures.adds amid) at,
      c.put_page.ensures.kept ∙ c.items.invariant.1,
    )

-- ---- the end of a packet

pub returns-then-sync-clause-read : goal.returns-then-sync-clause-read
returns-then-sync-clause-read g c =
    let i = c.self.inside in
    let l = c.args.list in
    let piece : List ℕ = c.args.piece.now in
    let n : ℕ = c.items.taken in
    let k : ℕ = c.read_on-count.result.1 in
    let new : PageHolder = c.read_on-count.new.self in
    let bytes : List ℕ = take k (drop n piece) in
    let all : take (length c.args.piece.now - c.items.taken)
    (drop c.items.taken c.args.piece.now) ≡ drop c.items.taken c.args.piece.now = tail_from c.args.piece.now c.items.taken in
    let gives : GivesOn bytes c.read_on-count.result.0 i.reader new =
    subst (λ (x : List ℕ). GivesOn (take k x) c.read_on-count.result.0 i.reader new) all c.read_on-count.ensures.gives in
    let memory : Image = g.M.GuestTarget.image c.items.memory in
    let first : Image = g.M.GuestTarget.image c.args.memory.now in
    let at : IsAt l piece n c.args.self.now c.args.round.now first (kept i.reader i.block i.is_whole) c.items.round memory =
    subst (λ (x : KeptChannel). IsAt l piece n c.args.self.now c.args.round.now first x c.items.round memory) (sym c.self.view_is) c.items.invariant.0 in
    let on : GivesOn bytes (event.Packet c.in-Packet.sync) i.reader new = subst (λ (a : ChannelEvent). GivesOn bytes a i.reader new) c.in-Packet.is gives in
    let comes = subst (λ (a : ChannelEvent). HolderTells i.reader (λ given text so_far. Comes given.page_size a so_far))
    c.in-Packet.is c.read_on-count.ensures.comes in
    subst (λ (x : KeptChannel). HasRead l piece (n + k) c.args.self.now c.args.round.now first x c.items.round memory) (sym c.end_packet.ensures)
    (at_last l piece n k (n + k) c.args.self.now c.args.round.now first (kept i.reader i.block i.is_whole) c.items.round memory
    (kept new None c.in-Packet.sync) c.items.round memory refl
    (λ f text so_far amid. packet_came f l text so_far i.reader new i.block i.is_whole c.in-Packet.sync c.items.round memory bytes
    on comes c.read_on-count.ensures.ended amid) at)

pub returns-then-sync-clause-waits : goal.returns-then-sync-clause-waits
returns-then-sync-clause-waits g c = λ lt.
    whole_waits c.args.list c.end_packet.new.self (ap (λ (x : KeptChannel). x.is_whole) c.end_packet.ensures ∙ c.if-sync.true)

pub returns-then-sync-clause-channel : goal.returns-then-sync-clause-channel
returns-then-sync-clause-channel g c =
    let i = c.self.inside in
    let l = c.args.list in
    let piece : List ℕ = c.args.piece.now in
    let n : ℕ = c.items.taken in
    let k : ℕ = c.read_on-count.result.1 in
    let new : PageHolder = c.read_on-count.new.self in
    let bytes : List ℕ = take k (drop n piece) in
    let all : take (length c.args.piece.now - c.items.taken)
    (drop c.items.taken c.args.piece.now) ≡ drop c.items.taken c.args.piece.now = tail_from c.args.piece.now c.items.taken in
    let gives : GivesOn bytes c.read_on-count.result.0 i.reader new =
    subst (λ (x : List ℕ). GivesOn (take k x) c.read_on-count.result.0 i.reader new) all c.read_on-count.ensures.gives in
    let memory : Image = g.M.GuestTarget.image c.items.memory in
    let first : Image = g.M.GuestTarget.image c.args.memory.now in
    let at : IsAt l piece n c.args.self.now c.args.round.now first (kept i.reader i.block i.is_whole) c.items.round memory =
    subst (λ (x : KeptChannel). IsAt l piece n c.args.self.now c.args.round.now first x c.items.round memory) (sym c.self.view_is) c.items.invariant.0 in
    let on : GivesOn bytes (event.Packet c.in-Packet.sync) i.reader new = subst (λ (a : ChannelEvent). GivesOn bytes a i.reader new) c.in-Packet.is gives in
    subst (λ (x : KeptChannel). IsChannelOf first.table x) (sym c.end_packet.ensures)
    (of_packet first.table bytes i.reader new i.block i.is_whole c.in-Packet.sync on at.channel)

pub items-preserved : goal.items-preserved
items-preserved g c =
    let i = c.self.inside in
    let l = c.args.list in
    let piece : List ℕ = c.args.piece.now in
    let n : ℕ = c.items.taken in
    let k : ℕ = c.read_on-count.result.1 in
    let new : PageHolder = c.read_on-count.new.self in
    let bytes : List ℕ = take k (drop n piece) in
    let all : take (length c.args.piece.now - c.items.taken)
    (drop c.items.taken c.args.piece.now) ≡ drop c.items.taken c.args.piece.now = tail_from c.args.piece.now c.items.taken in
    let gives : GivesOn bytes c.read_on-count.result.0 i.reader new =
    subst (λ (x : List ℕ). GivesOn (take k x) c.read_on-count.result.0 i.reader new) all c.read_on-count.ensures.gives in
    let memory : Image = g.M.GuestTarget.image c.items.memory in
    let first : Image = g.M.GuestTarget.image c.args.memory.now in
    let at : IsAt l piece n c.args.self.now c.args.round.now first (kept i.reader i.block i.is_whole) c.items.round memory =
    subst (λ (x : KeptChannel). IsAt l piece n c.args.self.now c.args.round.now first x c.items.round memory) (sym c.self.view_is) c.items.invariant.0 in
    let on : GivesOn bytes (event.Packet c.in-Packet.sync) i.reader new = subst (λ (a : ChannelEvent). GivesOn bytes a i.reader new) c.in-Packet.is gives in
    let comes = subst (λ (a : ChannelEvent). HolderTells i.reader (λ given text so_far. Comes given.page_size a so_far))
    c.in-Packet.is c.read_on-count.ensures.comes in
    let within : k ≤ length (drop n piece) = subst (λ (x : List ℕ). k ≤ length x) all c.read_on-count.ensures.taken in (
      subst (λ (x : KeptChannel). IsAt l piece (n + k) c.args.self.now c.args.round.now first x c.items.round memory) (sym c.end_packet.ensures)
          (at_next l piece n k (n + k) c.args.self.now c.args.round.now first (kept i.reader i.block i.is_whole) c.items.round memory
          (kept new None c.in-Packet.sync) c.items.round memory
          within refl c.read_on-count.ensures.fed c.read_on-count.ensures.ended c.if-sync.false
          (of_packet first.table bytes i.reader new i.block i.is_whole c.in-Packet.sync on at.channel) at.round (λ wrong. wrong) refl
          (λ other none. (refl, refl, refl))
          (λ f text so_far amid. packet_on f l text so_far i.reader new i.block i.is_whole c.in-Packet.sync c.items.round memory bytes
          on comes c.read_on-count.ensures.ended c.if-sync.false amid) at),
      c.items.invariant.1,
    )
