-- A channel during a call that reads on: what each answer of its reader makes of it.
use Rattle.std.proofs.Common.{ℕ, ◌≡◌, ◌≢◌, ◌+◌, ◌<◌, ◌≤◌, ◌/◌, Bool, true, false, List, [], ◌∷◌, ◌++◌, length, map, take, drop, get_or, Option, Some, None}
use Rattle.std.proofs.Common.{refl, sym, ap, subst, ◌∙◌, append_assoc, inl, inr, arith}
use Rattle.std.specs.Prelude.{◌⊎◌, IsTrue, IsFalse, IfSome, Result, Ok, Err, OnErr}
use Rattle.std.specs.List.{range_with_len}
use Rattle.std.specs.Option.{IsSomeAnd, option_map}
use Rattle.std.proofs.Math.Seq.{take-add, get_or-append_seam}
use Rattle.std.proofs.lemmas.List.{append-nil, map-append, length-append, length-drop, length-map}
use Rattle.std.proofs.lemmas.List.FromFn.{get_or-map-range_with_len}
use Rattle.std.proofs.lemmas.List.Sorted.{IsPermutation-refl}
use Rattle.std.proofs.lemmas.Bool.{ne_eqb}
use Rattle.mig_mem.specs.RamTable.{RamTable}
use Rattle.mig_mem.specs.Place.{IsPlace, place_at}
use Rattle.mig_mem.specs.Image.{Image}
use Rattle.mig_packet.specs.PageSize.{IsPageSize}
use Rattle.mig_packet.specs.declared.page_reader.ChannelEvent.{ChannelEvent}
use Rattle.mig_packet.specs.declared.page_reader.ChannelEvent.TheVariants as event
use Rattle.mig_packet.specs.declared.page_reader.PageContent.{PageContent}
use Rattle.mig_packet.specs.declared.state.ChannelState.{ChannelState}
use Rattle.mig_packet.specs.declared.state.ChannelState.TheVariants as channel_state
use Rattle.mig_packet.specs.Packet.{NormalPage, Fields, normal_count, is_sync, offset_at}
use Rattle.mig_packet.specs.Progress.{ChannelProgress}
use Rattle.mig_packet.specs.Reading.{Settings}
use Rattle.mig_packet.specs.Reader.{HasHello}
use Rattle.mig_packet.specs.Paging.{OpenPacket, GivenSoFar, PageHolder, IsOpenPacket, Gives, GivesOn, HolderTells, Comes, Completes, IsShort, Stops, NeedsMore}
use Rattle.mig_packet.specs.Paging.{with_came, with_page, content_of, head_kept, kept_of, bytes_of, is_complete}
use Rattle.mig_packet.proofs.Exists.{one_reading_law}
use Rattle.mig_packet.proofs.PagingState.{tells_found, hello_told}
use Rattle.mig_packet.proofs.PagingSteps.{none_kept}
use Rattle.mig_answer.proofs.GrowingChannels.{same_rounds}
use Rattle.mig_answer.specs.declared.status.Status.{Status}
use Rattle.mig_answer.specs.declared.status.Status.TheVariants.{Whole}
use Rattle.mig_answer.specs.Status.{channel_end, is_pending}
use Rattle.mig_answer.specs.Texts.{Text, with_piece}
use Rattle.mig_in_place.specs.declared.main_stream.SizeList.{SizeList}
use Rattle.mig_in_place.specs.declared.main_stream.SizeList.TheVariants as list
use Rattle.mig_assemble.specs.HeadPlaces.{LieIn}
use Rattle.mig_in_place.specs.Round.{KeptRound, KeepsSome}
use Rattle.mig_in_place.specs.Sources.{KeptChannel, HasHelloAlone, WritesPages, IsChannelOf, HoldsRound, HoldsAt, AtChannel, came_with, rounds_come}
use Rattle.mig_in_place.specs.Sources.{TellsChannelStatus, TellsTakes, HasRead, HasReadSome, AddsHead, WritesInto, AddsPage, pages_given}
use Rattle.mig_in_place.proofs.Keeping.{same_table}
use Rattle.mig_in_place.proofs.Heads.{lies}
use Rattle.mig_in_place.proofs.Channels.{kept, tells_whole, tells_end}
use Rattle.mig_in_place.proofs.ChannelEvents.{same_holds, after_by, with_open, with_ended, packet_ends}
use Rattle.mig_in_place.proofs.TakingPackets.{there_some}

-- This much of the channel was taken and given in a call that continues. It doesn't have the
-- current round yet, and all pages of the packet that was begun may have arrived.
pub record Amid (f : AtChannel) (l : SizeList) (text : Text) (so_far : GivenSoFar) (c : KeptChannel) (r : KeptRound) (memory : Image) : Type 0 where
  pub is_page_size : IsPageSize f.given.page_size
  pub has_page_size : f.given.page_size ≡ memory.table.page_size
  pub same_table : r.arrivals.seen.table ≡ memory.table
  pub gives : Gives f.given text.bytes so_far c.reader
  pub has_ended : c.reader.ended ≡ text.ended
  pub has_rounds : length so_far.read.rounds ≡ f.k
  pub is_open : IsFalse c.is_whole
  pub has_hello : IfSome so_far.packet (λ packet. so_far.read.hello ≢ None)
  pub has_block : IfSome c.block (λ b. IsSomeAnd so_far.packet (λ packet. LieIn memory.table b packet.head))
  pub round : l ≡ list.Complete → HoldsRound memory.table f.kept f.k (came_with f so_far) r memory
  pub is_alone : l ≡ list.Awaited → HasHelloAlone so_far × (so_far.read.hello ≡ None)
  pub is_unwritten : l ≢ list.Complete → c.block ≡ None
  pub writes : l ≡ list.Complete → IsFalse r.has_misplaced → WritesPages so_far c

-- once these bytes more were taken
abbrev pub AmidBehind : AtChannel → SizeList → Text → List ℕ → KeptChannel → KeptRound → Image → Type 0
AmidBehind f l text bytes c r memory = (gave : GivenSoFar) × Amid f l (with_piece bytes text) gave c r memory

abbrev pub HoldsBehind : AtChannel → SizeList → Text → List ℕ → KeptChannel → KeptRound → Image → Type 0
HoldsBehind f l text bytes c r memory = (gave : GivenSoFar) × HoldsAt f l (with_piece bytes text) gave c r memory

-- as long as the size list is awaited, a channel that takes bytes has no hello
no_hello : (f : AtChannel) (l : SizeList) (text : Text) (so_far : GivenSoFar) (c : KeptChannel) (r : KeptRound) (memory : Image)
    → TellsTakes l c true → HoldsAt f l text so_far c r memory → l ≡ list.Awaited
    → so_far.read.hello ≡ None
no_hello f l text so_far c r memory takes at is =
    let one = one_reading_law f.given text.bytes text.ended at.is_page_size in
    let none : one.0.hello ≡ None = ((takes f.given memory.table f.k text so_far one.0 at.is_page_size at.holds one.1).0 refl).1 is in
    let found : HasHello f.given text.bytes c.reader.hello = hello_told c.reader c.reader.hello refl f.given text.bytes so_far at.holds.gives in
    let same : found.0.hello ≡ one.0.hello = (same_rounds f.given text.bytes false text.ended found.0 one.0 found.1 one.1).1 in
    sym at.holds.gives.has_hello ∙ found.2 ∙ same ∙ none

-- a call can read on of a channel that lacks the current round, if the size list is not awaited or
-- its hello has not arrived
pub on_from : (f : AtChannel) (l : SizeList) (text : Text) (so_far : GivenSoFar) (c : KeptChannel) (r : KeptRound) (memory : Image) → IsFalse c.is_whole
    → (l ≡ list.Awaited → so_far.read.hello ≡ None)
    → HoldsAt f l text so_far c r memory → Amid f l text so_far c r memory
on_from f l text so_far c r memory open_ none at = record {
  is_page_size = at.is_page_size;
  has_page_size = at.has_page_size;
  same_table = at.same_table;
  gives = at.holds.gives;
  has_ended = at.holds.has_ended;
  has_rounds = at.holds.has_rounds ∙ ap (rounds_come f.k) open_;
  is_open = open_;
  has_hello = at.holds.has_hello;
  has_block = at.holds.has_block;
  round = at.round;
  is_alone = λ is. (at.is_alone is, none is);
  is_unwritten = at.is_unwritten;
  writes = at.writes;
}

-- a channel that takes pages is in the midst of its round
pub into_midst : (f : AtChannel) (l : SizeList) (text : Text) (so_far : GivenSoFar) (c : KeptChannel) (r : KeptRound) (memory : Image) → IsFalse c.is_whole
    → TellsTakes l c true
    → HoldsAt f l text so_far c r memory → Amid f l text so_far c r memory
into_midst f l text so_far c r memory open_ takes at = on_from f l text so_far c r memory open_ (no_hello f l text so_far c r memory takes at) at

-- a call can stop at a channel in the midst of its round, if a packet that was begun lacks pages
pub out_of_midst : (f : AtChannel) (l : SizeList) (text : Text) (so_far : GivenSoFar) (c : KeptChannel) (r : KeptRound) (memory : Image)
    → IfSome so_far.packet (λ packet. IsFalse (is_complete packet))
    → Amid f l text so_far c r memory → HoldsAt f l text so_far c r memory
out_of_midst f l text so_far c r memory missing at = record {
  is_page_size = at.is_page_size;
  has_page_size = at.has_page_size;
  same_table = at.same_table;
  holds = record {
    gives = at.gives;
    has_ended = at.has_ended;
    has_rounds = at.has_rounds ∙ ap (rounds_come f.k) (sym at.is_open);
    is_between = λ whole. absurd (let open_ = at.is_open in cc);
    has_hello = at.has_hello;
    has_missing = missing;
    has_block = at.has_block;
  };
  round = at.round;
  is_alone = λ is. (at.is_alone is).0;
  is_unwritten = at.is_unwritten;
  writes = at.writes;
}

none_missing : (o : Option OpenPacket) → o ≡ None → IfSome o (λ packet. IsFalse (is_complete packet))
none_missing o none = subst (λ (p : Option OpenPacket). IfSome p (λ packet. IsFalse (is_complete packet))) (sym none) tt

-- ---- the hello, and where no more is given

-- once its hello was given, a channel in the midst of its round represents its bytes with it
pub hello_came : (f : AtChannel) (l : SizeList) (text : Text) (so_far : GivenSoFar)
    (reader new : PageHolder) (block : Option ℕ) (whole : Bool) (r : KeptRound) (memory : Image) (id : ℕ) (bytes : List ℕ)
    → GivesOn bytes (event.Hello id) reader new
    → HolderTells reader (λ given text so_far. Comes given.page_size (event.Hello id) so_far) → new.ended ≡ reader.ended
    → Amid f l text so_far (kept reader block whole) r memory → HoldsBehind f l text bytes (kept new block whole) r memory
hello_came f l text so_far reader new block whole r memory id bytes on comes ended at =
    let next : GivenSoFar = record so_far { read = record so_far.read { hello = Some id } } in
    let none : so_far.packet ≡ None = (comes f.given text.bytes so_far at.gives).1 in (
      next,
      record {
        is_page_size = at.is_page_size;
        has_page_size = at.has_page_size;
        same_table = at.same_table;
        holds = record {
          gives = on f.given text.bytes so_far at.gives;
          has_ended = ended ∙ at.has_ended;
          has_rounds = at.has_rounds ∙ ap (rounds_come f.k) (sym at.is_open);
          is_between = λ round. absurd (let open_ = at.is_open in cc);
          has_hello = subst (λ (p : Option OpenPacket). IfSome p (λ packet. next.read.hello ≢ None)) (sym none) tt;
          has_missing = none_missing so_far.packet none;
          has_block = at.has_block;
        };
        round = λ is. same_holds f memory.table so_far next r memory refl (IsPermutation-refl (pages_given memory.table f.k so_far)) (at.round is);
        is_alone = λ is. (let alone = (at.is_alone is).0 in record {
          no_rounds = alone.no_rounds;
          no_packets = alone.no_packets;
          none_begun = alone.none_begun;
        });
        is_unwritten = at.is_unwritten;
        writes = at.writes;
      },
    )

-- the same was given, of more bytes
same_given : (f : AtChannel) (l : SizeList) (text : Text) (so_far : GivenSoFar)
    (reader new : PageHolder) (block : Option ℕ) (whole : Bool) (r : KeptRound) (memory : Image) (bytes : List ℕ)
    → Gives f.given (text.bytes ++ bytes) so_far new → new.ended ≡ reader.ended → Amid f l text so_far (kept reader block whole) r memory
    → Amid f l (with_piece bytes text) so_far (kept new block whole) r memory
same_given f l text so_far reader new block whole r memory bytes gives ended at = record {
  is_page_size = at.is_page_size;
  has_page_size = at.has_page_size;
  same_table = at.same_table;
  gives = gives;
  has_ended = ended ∙ at.has_ended;
  has_rounds = at.has_rounds;
  is_open = at.is_open;
  has_hello = at.has_hello;
  has_block = at.has_block;
  round = at.round;
  is_alone = at.is_alone;
  is_unwritten = at.is_unwritten;
  writes = at.writes;
}

-- pages are missing where more is needed
short_missing : (o : Option OpenPacket) (r : PageHolder) → IsShort r (kept_of o) → IfSome o (λ packet. IsFalse (is_complete packet))
short_missing None r short = tt
short_missing (Some p) r short = ne_eqb (length p.pages) (normal_count p.head) (omega (arith, short.0))

-- where the reader needs more, the channel represents the bytes with those taken
pub more_came : (f : AtChannel) (l : SizeList) (text : Text) (so_far : GivenSoFar)
    (reader new : PageHolder) (block : Option ℕ) (whole : Bool) (r : KeptRound) (memory : Image) (bytes : List ℕ)
    → GivesOn bytes event.More reader new → NeedsMore event.More new → new.ended ≡ reader.ended
    → Amid f l text so_far (kept reader block whole) r memory → HoldsBehind f l text bytes (kept new block whole) r memory
more_came f l text so_far reader new block whole r memory bytes on needs ended at =
    let gives : Gives f.given (text.bytes ++ bytes) so_far new = on f.given text.bytes so_far at.gives in
    let short : IsShort new (kept_of so_far.packet) = subst (λ (o : Option (List ℕ × ℕ)). IsShort new o) gives.has_packet needs in (
      so_far,
      out_of_midst f l (with_piece bytes text) so_far (kept new block whole) r memory (short_missing so_far.packet new short)
          (same_given f l text so_far reader new block whole r memory bytes gives ended at),
    )

-- where no more is given, and no packet is begun, the channel represents the bytes taken
pub over_came : (f : AtChannel) (l : SizeList) (text : Text) (so_far : GivenSoFar)
    (reader new : PageHolder) (block : Option ℕ) (whole : Bool) (r : KeptRound) (memory : Image) (bytes : List ℕ)
    → GivesOn bytes event.Over reader new → new.packet ≡ None → new.ended ≡ reader.ended
    → Amid f l text so_far (kept reader block whole) r memory → HoldsBehind f l text bytes (kept new block whole) r memory
over_came f l text so_far reader new block whole r memory bytes on none ended at =
    let gives : Gives f.given (text.bytes ++ bytes) so_far new = on f.given text.bytes so_far at.gives in (
      so_far,
      out_of_midst f l (with_piece bytes text) so_far (kept new block whole) r memory
          (none_missing so_far.packet (none_kept so_far.packet (sym gives.has_packet ∙ none)))
          (same_given f l text so_far reader new block whole r memory bytes gives ended at),
    )

-- ---- a head

list_cases : (l : SizeList) → (l ≡ list.Complete) ⊎ (l ≢ list.Complete)
list_cases list.Complete = inl refl
list_cases list.Awaited = inr (λ e. absurd cc)
list_cases list.Lost = inr (λ e. absurd cc)

-- once a head was given and added, the call is in the midst of the round with it begun
pub head_came : (f : AtChannel) (l : SizeList) (text : Text) (so_far : GivenSoFar) (reader new : PageHolder)
    (block now : Option ℕ) (whole : Bool) (r after : KeptRound) (memory then : Image) (bytes : List ℕ)
    → GivesOn bytes event.Head reader new → HolderTells reader (λ given text so_far. Comes given.page_size event.Head so_far)
    → new.ended ≡ reader.ended → then.table ≡ memory.table
    → (l ≡ list.Complete → (head : List ℕ) → option_map (λ packet. packet.0) new.packet ≡ Some head → AddsHead head r memory after then)
    → (l ≡ list.Complete → (head : List ℕ) → option_map (λ packet. packet.0) new.packet ≡ Some head → WritesInto memory.table head after now)
    → (l ≢ list.Complete → now ≡ block) → (l ≢ list.Complete → after ≡ r)
    → Amid f l text so_far (kept reader block whole) r memory → AmidBehind f l text bytes (kept new now whole) after then
head_came f l text so_far reader new block now whole r after memory then bytes on comes ended table adds into same_block same_round at =
    let head : List ℕ = head_kept new.packet in
    let next : GivenSoFar = record so_far { packet = Some (record { head = head; pages = [] }) } in
    let gives : Gives f.given (text.bytes ++ bytes) next new = on f.given text.bytes so_far at.gives in
    let hello = comes f.given text.bytes so_far at.gives in
    let none : so_far.packet ≡ None = hello.1 in
    let is_head : option_map (λ packet. packet.0) new.packet ≡ Some head =
    ap (λ (o : Option (List ℕ × ℕ)). option_map (λ packet. packet.0) o) gives.has_packet in
    let come : l ≡ list.Complete → HoldsRound memory.table f.kept f.k (came_with f next) after then =
    λ is. adds is head is_head f so_far none (at.round is) in (
      next,
      record {
        is_page_size = at.is_page_size;
        has_page_size = at.has_page_size ∙ ap (λ (t : RamTable). t.page_size) (sym table);
        same_table = elim (list_cases l) [
          | inl is ↦ same_table memory.table (come is).arrivals after.arrivals (come is).keeps.has_come ∙ sym table
          | inr other ↦ ap (λ (x : KeptRound). x.arrivals.seen.table) (same_round other) ∙ at.same_table ∙ sym table
        ];
        gives = gives;
        has_ended = ended ∙ at.has_ended;
        has_rounds = at.has_rounds;
        is_open = at.is_open;
        has_hello = hello.0;
        has_block = subst (λ (t : RamTable). IfSome now (λ b. LieIn t b head)) (sym table) (elim (list_cases l) [
          | inl is ↦ (into is head is_head).lies
          | inr other ↦ subst (λ (o : Option ℕ). IfSome o (λ b. LieIn memory.table b head)) (sym (same_block other ∙ at.is_unwritten other)) tt
        ]);
        round = λ is. subst (λ (t : RamTable). HoldsRound t f.kept f.k (came_with f next) after then) (sym table) (come is);
        is_alone = λ is. absurd (hello.0 (at.is_alone is).1);
        is_unwritten = λ other. same_block other ∙ at.is_unwritten other;
        writes = λ is right. (into is head is_head).writes right;
      },
    )

-- a head couldn't be added: what came before it is held
pub head_refused : (f : AtChannel) (l : SizeList) (text : Text) (so_far : GivenSoFar) (c : KeptChannel) (r : KeptRound) (memory : Image)
    → HolderTells c.reader (λ given text so_far. Comes given.page_size event.Head so_far) → Amid f l text so_far c r memory → HoldsAt f l text so_far c r memory
head_refused f l text so_far c r memory comes at =
    out_of_midst f l text so_far c r memory (none_missing so_far.packet (comes f.given text.bytes so_far at.gives).1) at

-- ---- a page

-- the offset of the page that was given last
last_offset : (size : ℕ) (p : OpenPacket) (x : NormalPage) → IsOpenPacket size (record p { pages = p.pages ++ x ∷ [] })
    → x.offset ≡ offset_at p.head (length p.pages)
last_offset size p x is =
    let n : ℕ = length p.pages in
    let m : ℕ = length (p.pages ++ x ∷ []) in
    let offset : NormalPage → ℕ = λ page. page.offset in
    let len : length (map offset p.pages) ≡ n = length-map p.pages offset in
    let left : get_or (map offset (p.pages ++ x ∷ [])) n 0 ≡ x.offset =
    ap (λ (l : List ℕ). get_or l n 0) (map-append offset p.pages (x ∷ [])) ∙ ap (λ (k : ℕ). get_or (map offset p.pages ++ x.offset ∷ []) k 0) (sym len)
    ∙ get_or-append_seam (map offset p.pages) x.offset [] 0 in
    let below : n < m = (let e = length-append p.pages (x ∷ []) in omega (arith, e)) in
    let right : get_or (map (offset_at p.head) (range_with_len 0 m)) n 0 ≡ offset_at p.head n =
    get_or-map-range_with_len (offset_at p.head) 0 m n n 0 below (omega arith) in
    sym left ∙ ap (λ (l : List ℕ). get_or l n 0) is.has_offsets ∙ right

-- the block and the head of the packet that was begun
pub lies_of : (f : AtChannel) (l : SizeList) (text : Text) (read : ChannelProgress) (p : OpenPacket) (c : KeptChannel) (r : KeptRound) (memory : Image)
    → l ≡ list.Complete
    → Amid f l text (with_open read p) c r memory → WritesInto memory.table p.head r c.block
lies_of f l text read p c r memory is at = record { lies = at.has_block; writes = λ right. at.writes is right }

page_of_open : (f : AtChannel) (l : SizeList) (text : Text) (read : ChannelProgress) (p : OpenPacket)
    (reader new : PageHolder) (block : Option ℕ) (whole : Bool) (r : KeptRound) (memory then : Image)
    (offset : ℕ) (page : PageContent) (bytes : List ℕ) → GivesOn bytes (event.Page offset page) reader new
    → length p.pages < normal_count p.head → new.ended ≡ reader.ended
    → length (content_of page new) ≡ new.given.page_size → then.table ≡ memory.table → AddsPage offset (content_of page new) block r memory then
    → Amid f l text (with_open read p) (kept reader block whole) r memory → AmidBehind f l text bytes (kept new block whole) r then
page_of_open f l text read p reader new block whole r memory then offset page bytes on missing ended whole_page table adds at =
    let x : NormalPage = record { offset = offset; content = content_of page new } in
    let q : OpenPacket = record p { pages = p.pages ++ x ∷ [] } in
    let next : GivenSoFar = with_open read q in
    let gives : Gives f.given (text.bytes ++ bytes) next new = on f.given text.bytes (with_open read p) at.gives in
    let is_offset : offset ≡ offset_at p.head (length p.pages) = last_offset f.given.page_size p x gives.is_open in
    let size : length (content_of page new) ≡ memory.table.page_size = whole_page ∙ ap (λ s. s.page_size) gives.has_settings ∙ at.has_page_size in (
      next,
      record {
        is_page_size = at.is_page_size;
        has_page_size = at.has_page_size ∙ ap (λ (t : RamTable). t.page_size) (sym table);
        same_table = at.same_table ∙ sym table;
        gives = gives;
        has_ended = ended ∙ at.has_ended;
        has_rounds = at.has_rounds;
        is_open = at.is_open;
        has_hello = at.has_hello;
        has_block = subst (λ (t : RamTable). IfSome block (λ b. LieIn t b p.head)) (sym table) at.has_block;
        round = λ is. subst (λ (t : RamTable). HoldsRound t f.kept f.k (came_with f next) r then) (sym table)
            (adds f (with_open read p) p refl missing is_offset size (lies_of f l text read p (kept reader block whole) r memory is at) (at.round is));
        is_alone = λ is. absurd (let none = (at.is_alone is).0.none_begun in cc);
        is_unwritten = at.is_unwritten;
        writes = at.writes;
      },
    )

-- what was given, by the packet that was begun
opened : (so_far : GivenSoFar) (p : OpenPacket) → so_far.packet ≡ Some p → so_far ≡ with_open so_far.read p
opened so_far p is = ap (λ (o : Option OpenPacket). record { read = so_far.read; packet = o }) is

-- once a page was given and added, the call is in the midst of the round with that page
pub page_came : (f : AtChannel) (l : SizeList) (text : Text) (so_far : GivenSoFar)
    (reader new : PageHolder) (block : Option ℕ) (whole : Bool) (r : KeptRound) (memory then : Image)
    (offset : ℕ) (page : PageContent) (bytes : List ℕ) → GivesOn bytes (event.Page offset page) reader new
    → HolderTells reader (λ given text so_far. Comes given.page_size (event.Page offset page) so_far) → new.ended ≡ reader.ended
    → length (content_of page new) ≡ new.given.page_size → then.table ≡ memory.table → AddsPage offset (content_of page new) block r memory then
    → Amid f l text so_far (kept reader block whole) r memory → AmidBehind f l text bytes (kept new block whole) r then
page_came f l text so_far reader new block whole r memory then offset page bytes on comes ended whole_page table adds at =
    let some = there_some (λ (packet : OpenPacket). length packet.pages < normal_count packet.head) so_far.packet (comes f.given text.bytes so_far at.gives) in
    page_of_open f l text so_far.read some.0 reader new block whole r memory then offset page bytes on some.2 ended whole_page table adds
    (subst (λ (g : GivenSoFar). Amid f l text g (kept reader block whole) r memory) (opened so_far some.0 some.1) at)

-- ---- the end of a packet

rounds_by : (c : ChannelProgress) (packet : List ℕ) (k : ℕ) (sync : Bool) → length c.rounds ≡ k → length (after_by c packet sync).rounds ≡ rounds_come k sync
rounds_by c packet k true count = omega (arith, count, length-append c.rounds ((c.packets ++ packet ∷ []) ∷ []))
rounds_by c packet k false count = count

packet_of_open : (f : AtChannel) (l : SizeList) (text : Text) (read : ChannelProgress) (p : OpenPacket)
    (reader new : PageHolder) (block : Option ℕ) (whole sync : Bool) (r : KeptRound) (memory : Image)
    (bytes : List ℕ) → GivesOn bytes (event.Packet sync) reader new → Completes f.given.page_size p sync → new.ended ≡ reader.ended
    → Amid f l text (with_open read p) (kept reader block whole) r memory → HoldsBehind f l text bytes (kept new None sync) r memory
packet_of_open f l text read p reader new block whole sync r memory bytes on done ended at =
    let next : GivenSoFar = with_ended read p in
    let says : is_sync (bytes_of p) ≡ sync = sym (ap (λ (q : Fields). q.sync) done.is_packet.1) ∙ done.has_sync in
    let size : f.given.page_size ≡ memory.table.page_size = at.has_page_size in
    let is_open : IsOpenPacket memory.table.page_size p = subst (λ (n : ℕ). IsOpenPacket n p) size at.gives.is_open in
    let is_done : Completes memory.table.page_size p sync = subst (λ (n : ℕ). Completes n p sync) size done in (
      next,
      record {
        is_page_size = at.is_page_size;
        has_page_size = at.has_page_size;
        same_table = at.same_table;
        holds = record {
          gives = on f.given text.bytes (with_open read p) at.gives;
          has_ended = ended ∙ at.has_ended;
          has_rounds = ap (λ (b : Bool). length (after_by read (bytes_of p) b).rounds) says ∙ rounds_by read (bytes_of p) f.k sync at.has_rounds;
          is_between = λ ends. (ap (λ (b : Bool). (after_by read (bytes_of p) b).packets) (says ∙ ends), refl);
          has_hello = tt;
          has_missing = tt;
          has_block = tt;
        };
        round = λ is. packet_ends memory.table f.k read p sync at.has_rounds is_open is_done f r memory refl (at.round is);
        is_alone = λ is. absurd (let none = (at.is_alone is).0.none_begun in cc);
        is_unwritten = λ other. refl;
        writes = λ is right. tt;
      },
    )

-- once a packet is complete, the channel represents its bytes; a sync packet completes its round
pub packet_came : (f : AtChannel) (l : SizeList) (text : Text) (so_far : GivenSoFar) (reader new : PageHolder) (block : Option ℕ)
    (whole sync : Bool) (r : KeptRound) (memory : Image)
    (bytes : List ℕ) → GivesOn bytes (event.Packet sync) reader new
    → HolderTells reader (λ given text so_far. Comes given.page_size (event.Packet sync) so_far) → new.ended ≡ reader.ended
    → Amid f l text so_far (kept reader block whole) r memory → HoldsBehind f l text bytes (kept new None sync) r memory
packet_came f l text so_far reader new block whole sync r memory bytes on comes ended at =
    let some = there_some (λ (packet : OpenPacket). Completes f.given.page_size packet sync) so_far.packet (comes f.given text.bytes so_far at.gives) in
    packet_of_open f l text so_far.read some.0 reader new block whole sync r memory bytes on some.2 ended
    (subst (λ (g : GivenSoFar). Amid f l text g (kept reader block whole) r memory) (opened so_far some.0 some.1) at)

-- a packet that doesn't end the round: the call goes on
pub packet_on : (f : AtChannel) (l : SizeList) (text : Text) (so_far : GivenSoFar) (reader new : PageHolder) (block : Option ℕ)
    (whole sync : Bool) (r : KeptRound) (memory : Image)
    (bytes : List ℕ) → GivesOn bytes (event.Packet sync) reader new
    → HolderTells reader (λ given text so_far. Comes given.page_size (event.Packet sync) so_far) → new.ended ≡ reader.ended → IsFalse sync
    → Amid f l text so_far (kept reader block whole) r memory → AmidBehind f l text bytes (kept new None sync) r memory
packet_on f l text so_far reader new block whole sync r memory bytes on comes ended open_ at =
    let some = there_some (λ (packet : OpenPacket). Completes f.given.page_size packet sync) so_far.packet (comes f.given text.bytes so_far at.gives) in
    let behind = packet_came f l text so_far reader new block whole sync r memory bytes on comes ended at in (
      behind.0,
      on_from f l (with_piece bytes text) behind.0 (kept new None sync) r memory open_
          (λ awaited. absurd (let none = (at.is_alone awaited).0.none_begun in let is = some.1 in cc)) behind.1,
    )

-- ---- which bytes are taken

status_waits : (l : SizeList) (c : KeptChannel) (status : Status) → TellsChannelStatus c status → is_pending status ≡ false → TellsTakes l c false
status_waits l c status tells settled = λ given table k text so_far reading size holds is. (
  λ t. absurd cc,
  λ both. absurd (let pending : is_pending status ≡ true =
      ap is_pending (tells given table k text so_far reading size holds is ∙ both.0) in cc),
)

-- one that has the round takes none
pub whole_waits : (l : SizeList) (c : KeptChannel) → IsTrue c.is_whole → TellsTakes l c false
whole_waits l c whole =
    subst (λ (b : Bool). TellsTakes l (kept c.reader c.block b) false) (sym whole)
    (status_waits l (kept c.reader c.block true) Whole (tells_whole c.reader c.block) refl)

settled_end : (s : ChannelState) → s ≢ channel_state.Reading → is_pending (channel_end s) ≡ false
settled_end channel_state.Reading other = absurd (other refl)
settled_end channel_state.Closed other = refl
settled_end (channel_state.Bad f) other = refl

-- nor does one with a fault
pub over_waits : (l : SizeList) (c : KeptChannel) → c.reader.found ≢ channel_state.Reading → IsFalse c.is_whole → TellsTakes l c false
over_waits l c over open_ =
    subst (λ (b : Bool). TellsTakes l (kept c.reader c.block b) false) (sym open_) (status_waits l (kept c.reader c.block false) (channel_end c.reader.found)
    (tells_end c.reader c.block c.reader.found (channel_end c.reader.found)
    (tells_found c.reader c.reader.found (inl over) refl) refl) (settled_end c.reader.found over))

-- ---- whatever the memory holds

of_same : (table : RamTable) (answer : ChannelEvent) (bytes : List ℕ)
    (reader new : PageHolder) (block : Option ℕ) (whole : Bool) (is : IsChannelOf table (kept reader block whole)) → GivesOn bytes answer reader new
    → (with_came answer new is.so_far).packet ≡ is.so_far.packet → IsChannelOf table (kept new block whole)
of_same table answer bytes reader new block whole is on same = record {
  given = is.given;
  text = is.text ++ bytes;
  so_far = with_came answer new is.so_far;
  has_page_size = is.has_page_size;
  gives = on is.given is.text is.so_far is.gives;
  has_block = subst (λ (o : Option OpenPacket). IfSome block (λ b. IsSomeAnd o (λ packet. LieIn table b packet.head))) (sym same) is.has_block;
}

-- a channel of a load into a table's memory stays so as its reader gives a hello
pub of_hello : (table : RamTable) (id : ℕ) (bytes : List ℕ) (reader new : PageHolder) (block : Option ℕ) (whole : Bool)
    → GivesOn bytes (event.Hello id) reader new → IsChannelOf table (kept reader block whole)
    → IsChannelOf table (kept new block whole)
of_hello table id bytes reader new block whole on is = of_same table (event.Hello id) bytes reader new block whole is on refl

-- a channel of a load into a table's memory stays so as its reader needs more
pub of_more : (table : RamTable) (bytes : List ℕ) (reader new : PageHolder) (block : Option ℕ) (whole : Bool)
    → GivesOn bytes event.More reader new → IsChannelOf table (kept reader block whole)
    → IsChannelOf table (kept new block whole)
of_more table bytes reader new block whole on is = of_same table event.More bytes reader new block whole is on refl

-- a channel of a load into a table's memory stays so as its reader gives nothing more
pub of_over : (table : RamTable) (bytes : List ℕ) (reader new : PageHolder) (block : Option ℕ) (whole : Bool)
    → GivesOn bytes event.Over reader new → IsChannelOf table (kept reader block whole)
    → IsChannelOf table (kept new block whole)
of_over table bytes reader new block whole on is = of_same table event.Over bytes reader new block whole is on refl

-- a channel of a load into a table's memory stays so as a packet ends, and its block is forgotten
pub of_packet : (table : RamTable) (bytes : List ℕ) (reader new : PageHolder) (block : Option ℕ) (whole sync : Bool)
    → GivesOn bytes (event.Packet sync) reader new → IsChannelOf table (kept reader block whole)
    → IsChannelOf table (kept new None sync)
of_packet table bytes reader new block whole sync on is = record {
  given = is.given;
  text = is.text ++ bytes;
  so_far = with_came (event.Packet sync) new is.so_far;
  has_page_size = is.has_page_size;
  gives = on is.given is.text is.so_far is.gives;
  has_block = tt;
}

no_block : (table : RamTable) (block : Option ℕ) (o : Option OpenPacket) → o ≡ None
    → IfSome block (λ b. IsSomeAnd o (λ packet. LieIn table b packet.head)) → block ≡ None
no_block table None o none has = refl
no_block table (Some b) o none has = absurd (subst (λ (x : Option OpenPacket). IsSomeAnd x (λ packet. LieIn table b packet.head)) none has)

-- no packet was begun where a head comes
pub head_block : (table : RamTable) (c : KeptChannel)
    → HolderTells c.reader (λ given text so_far. Comes given.page_size event.Head so_far) → IsChannelOf table c → c.block ≡ None
head_block table c comes is = no_block table c.block is.so_far.packet (comes is.given is.text is.so_far is.gives).1 is.has_block

-- once its pages are written into a block
pub of_head : (table : RamTable) (l : SizeList) (bytes : List ℕ) (reader new : PageHolder)
    (block now : Option ℕ) (whole : Bool) (after : KeptRound) → GivesOn bytes event.Head reader new → block ≡ None
    → (l ≡ list.Complete → (head : List ℕ) → option_map (λ packet. packet.0) new.packet ≡ Some head
    → WritesInto table head after now) → (l ≢ list.Complete → now ≡ block)
    → IsChannelOf table (kept reader block whole) → IsChannelOf table (kept new now whole)
of_head table l bytes reader new block now whole after on none into same is =
    let gives = on is.given is.text is.so_far is.gives in
    let head : List ℕ = head_kept new.packet in
    let is_head : option_map (λ packet. packet.0) new.packet ≡ Some head =
    ap (λ (o : Option (List ℕ × ℕ)). option_map (λ packet. packet.0) o) gives.has_packet in
    record {
      given = is.given;
      text = is.text ++ bytes;
      so_far = with_came event.Head new is.so_far;
      has_page_size = is.has_page_size;
      gives = gives;
      has_block = elim (list_cases l) [
        | inl complete ↦ (into complete head is_head).lies
        | inr other ↦ subst (λ (o : Option ℕ). IfSome o (λ b. LieIn table b head)) (sym (same other ∙ none)) tt
      ];
    }

-- a page of the packet that was begun
open_page : (offset : ℕ) (content : List ℕ) (table : RamTable) (block : Option ℕ) (o : Option OpenPacket)
    → IfSome block (λ b. IsSomeAnd o (λ packet. LieIn table b packet.head))
    → IfSome block (λ b. IsSomeAnd (with_page offset content o) (λ packet. LieIn table b packet.head))
open_page offset content table None o has = tt
open_page offset content table (Some b) None has = absurd has
open_page offset content table (Some b) (Some p) has = has

-- a channel of a load into a table's memory stays so as its reader gives a page
pub of_page : (table : RamTable) (offset : ℕ) (page : PageContent) (bytes : List ℕ)
    (reader new : PageHolder) (block : Option ℕ) (whole : Bool) → GivesOn bytes (event.Page offset page) reader new
    → IsChannelOf table (kept reader block whole) → IsChannelOf table (kept new block whole)
of_page table offset page bytes reader new block whole on is = record {
  given = is.given;
  text = is.text ++ bytes;
  so_far = with_came (event.Page offset page) new is.so_far;
  has_page_size = is.has_page_size;
  gives = on is.given is.text is.so_far is.gives;
  has_block = open_page offset (content_of page new) table block is.so_far.packet is.has_block;
}

-- it lies in the block
lies_in : (table : RamTable) (size offset : ℕ) (content : List ℕ) (block : Option ℕ) (p : OpenPacket)
    → IsOpenPacket size (record p { pages = p.pages ++ record { offset = offset; content = content } ∷ [] })
    → length p.pages < normal_count p.head → IfSome block (λ b. LieIn table b p.head)
    → IfSome block (λ b. IsPlace table (place_at b (offset / table.page_size)))
lies_in table size offset content None p is missing has = tt
lies_in table size offset content (Some b) p is missing has =
    let at : offset ≡ offset_at p.head (length p.pages) = last_offset size p (record { offset = offset; content = content }) is in
    subst (λ (o : ℕ). IsPlace table (place_at b (o / table.page_size))) (sym at) (lies table b p.head has (length p.pages) (omega (arith, missing)))

-- a page of a packet that is written into a block has a place of the table there
pub page_lies : (table : RamTable) (offset : ℕ) (page : PageContent) (bytes : List ℕ)
    (reader new : PageHolder) (block : Option ℕ) (whole : Bool) → GivesOn bytes (event.Page offset page) reader new
    → HolderTells reader (λ given text so_far. Comes given.page_size (event.Page offset page) so_far) → IsChannelOf table (kept reader block whole)
    → IfSome block (λ b. IsPlace table (place_at b (offset / table.page_size)))
page_lies table offset page bytes reader new block whole on comes is =
    let some = there_some (λ (packet : OpenPacket). length packet.pages < normal_count packet.head) is.so_far.packet
    (comes is.given is.text is.so_far is.gives) in
    let gives = on is.given is.text is.so_far is.gives in
    let open_ : IsOpenPacket is.given.page_size (record some.0 { pages = some.0.pages ++ record { offset = offset; content = content_of page new } ∷ [] }) =
    subst (λ (o : Option OpenPacket). IfSome (with_page offset (content_of page new) o) (IsOpenPacket is.given.page_size)) some.1 gives.is_open in
    lies_in table is.given.page_size offset (content_of page new) block some.0 open_ some.2
    (subst (λ (o : Option OpenPacket). IfSome block (λ b. IsSomeAnd o (λ packet. LieIn table b packet.head))) some.1 is.has_block)

-- a page has the size of the table's
pub page_size_of : (table : RamTable) (answer : ChannelEvent) (bytes : List ℕ) (reader new : PageHolder) (block : Option ℕ) (whole : Bool)
    → GivesOn bytes answer reader new → IsChannelOf table (kept reader block whole)
    → new.given.page_size ≡ table.page_size
page_size_of table answer bytes reader new block whole on is =
    ap (λ (s : Settings). s.page_size) (on is.given is.text is.so_far is.gives).has_settings ∙ is.has_page_size

-- ---- the loop

-- So many bytes of the piece were taken by the call so far.
pub record IsAt (l : SizeList) (piece : List
    ℕ) (n : ℕ) (c : KeptChannel) (r : KeptRound) (memory : Image) (now : KeptChannel) (after : KeptRound) (then : Image) : Type 0 where
  pub is_part : n ≤ length piece
  pub has_fed : now.reader.fed ≡ c.reader.fed + n
  pub has_ended : now.reader.ended ≡ c.reader.ended
  pub is_open : IsFalse now.is_whole
  pub channel : IsChannelOf memory.table now
  pub round : KeepsSome memory.table after
  pub misplaced : IsTrue r.has_misplaced → IsTrue after.has_misplaced
  pub table : then.table ≡ memory.table
  pub unknown : l ≢ list.Complete → c.block ≡ None → (after ≡ r) × (then ≡ memory) × (now.block ≡ None)
  pub goes : (f : AtChannel) (text : Text) (so_far : GivenSoFar) → HoldsAt f l text so_far c r memory → AmidBehind f l text (take n piece) now after then

-- a call on a channel that takes bytes begins with 0 bytes of the piece taken
pub at_first : (l : SizeList) (piece : List ℕ) (c : KeptChannel) (r : KeptRound) (memory : Image) → IsFalse c.is_whole
    → TellsTakes l c true → IsChannelOf memory.table c → KeepsSome memory.table r
    → IsAt l piece 0 c r memory c r memory
at_first l piece c r memory open_ takes is keeps = record {
  is_part = omega arith;
  has_fed = omega arith;
  has_ended = refl;
  is_open = open_;
  channel = is;
  round = keeps;
  misplaced = λ wrong. wrong;
  table = refl;
  unknown = λ other none. (refl, refl, none);
  goes = λ f text so_far holds. (
    so_far,
    subst (λ (bytes : List ℕ). Amid f l (record text { bytes = bytes }) so_far c r memory) (sym (append-nil text.bytes))
        (into_midst f l text so_far c r memory open_ takes holds),
  );
}

-- a step of the call, which takes this many more bytes
abbrev pub Moves : SizeList → List ℕ → KeptChannel → KeptRound → Image → KeptChannel → KeptRound → Image → Type 0
Moves l bytes now after then next later last = (f : AtChannel) (text : Text) (so_far : GivenSoFar)
    → Amid f l text so_far now after then → AmidBehind f l text bytes next later last

-- the last one
abbrev pub Rests : SizeList → List ℕ → KeptChannel → KeptRound → Image → KeptChannel → KeptRound → Image → Type 0
Rests l bytes now after then next later last = (f : AtChannel) (text : Text) (so_far : GivenSoFar)
    → Amid f l text so_far now after then → HoldsBehind f l text bytes next later last

more_text : (text : Text) (piece : List ℕ) (n k : ℕ) → (text.bytes ++ take n piece) ++ take k (drop n piece) ≡ text.bytes ++ take (n + k) piece
more_text text piece n k = append_assoc text.bytes (take n piece) (take k (drop n piece)) ∙ ap (λ (l : List ℕ). text.bytes ++ l) (sym (take-add n k piece))

-- after n bytes of the piece, a step that takes k more leaves the call at n + k
pub at_next : (l : SizeList) (piece : List ℕ)
    (n k m : ℕ) (c : KeptChannel) (r : KeptRound) (memory : Image) (now : KeptChannel) (after : KeptRound) (then : Image)
    (next : KeptChannel) (later : KeptRound) (last : Image)
    → k ≤ length (drop n piece) → m ≡ n + k → next.reader.fed ≡ now.reader.fed + k → next.reader.ended ≡ now.reader.ended → IsFalse next.is_whole
    → IsChannelOf memory.table next → KeepsSome memory.table later → (IsTrue after.has_misplaced → IsTrue later.has_misplaced) → last.table ≡ then.table
    → (l ≢ list.Complete → now.block ≡ None → (later ≡ after) × (last ≡ then) × (next.block ≡ None))
    → Moves l (take k (drop n piece)) now after then next later last
    → IsAt l piece n c r memory now after then → IsAt l piece m c r memory next later last
at_next l piece n k m c r memory now after then next later last le sum fed ended open_ is keeps misplaced table unknown moves at = record {
  is_part = omega (arith, le, sum, length-drop n piece, at.is_part);
  has_fed = omega (arith, fed, sum, at.has_fed);
  has_ended = ended ∙ at.has_ended;
  is_open = open_;
  channel = is;
  round = keeps;
  misplaced = λ wrong. misplaced (at.misplaced wrong);
  table = table ∙ at.table;
  unknown = λ other none.
      let before = at.unknown other none in
      let here = unknown other before.2 in (here.0 ∙ before.0, here.1 ∙ before.1, here.2);
  goes = λ f text so_far holds.
      let before = at.goes f text so_far holds in
      let behind = moves f (with_piece (take n piece) text) before.0 before.1 in (
        behind.0,
        subst (λ (i : ℕ). Amid f l (with_piece (take i piece) text) behind.0 next later last) (sym sum)
            (subst (λ (bytes : List ℕ). Amid f l (record text { bytes = bytes }) behind.0 next later last) (more_text text piece n k) behind.1),
      );
}

-- after n bytes of the piece, a last step that takes k more leaves n + k of it read
pub at_last : (l : SizeList) (piece : List ℕ)
    (n k m : ℕ) (c : KeptChannel) (r : KeptRound) (memory : Image) (now : KeptChannel) (after : KeptRound) (then : Image)
    (next : KeptChannel) (later : KeptRound) (last : Image)
    → m ≡ n + k → Rests l (take k (drop n piece)) now after then next later last → IsAt l piece n c r memory now after then
    → HasRead l piece m c r memory next later last
at_last l piece n k m c r memory now after then next later last sum rests at = λ f text so_far holds.
    let before = at.goes f text so_far holds in
    let behind = rests f (with_piece (take n piece) text) before.0 before.1 in (
      behind.0,
      subst (λ (i : ℕ). HoldsAt f l (with_piece (take i piece) text) behind.0 next later last) (sym sum)
          (subst (λ (bytes : List ℕ). HoldsAt f l (record text { bytes = bytes }) behind.0 next later last) (more_text text piece n k) behind.1),
    )

-- where a head was refused, of which so many bytes more were taken
pub at_refused : (l : SizeList) (piece : List ℕ) (n k : ℕ) (c : KeptChannel) (r : KeptRound) (memory : Image)
    (now next : KeptChannel) (after later : KeptRound) (then last : Image)
    → k ≤ length (drop n piece) → next.reader.fed ≡ now.reader.fed + k
    → HolderTells now.reader (λ given text so_far. Comes given.page_size event.Head so_far) → later ≡ after → last ≡ then
    → IsAt l piece n c r memory now after then
    → (m : ℕ) × (m ≤ length piece) × (next.reader.fed ≡ c.reader.fed + m) × HasReadSome l piece m c r memory later last
at_refused l piece n k c r memory now next after later then last le fed comes same_round same_memory at =
    (n + k, omega (arith, le, length-drop n piece, at.is_part), omega (arith, fed, at.has_fed), before_head)
  where
    before_head : HasReadSome l piece (n + k) c r memory later last
    before_head = λ f text so_far holds.
        let before = at.goes f text so_far holds in
        let text_now : Text = with_piece (take n piece) text in
        let here : HoldsAt f l text_now before.0 now after then = head_refused f l text_now before.0 now after then comes before.1 in (
          n,
          now,
          before.0,
          omega arith,
          subst (λ (m : Image). HoldsAt f l text_now before.0 now later m) (sym same_memory)
              (subst (λ (x : KeptRound). HoldsAt f l text_now before.0 now x then) (sym same_round) here),
        )

-- ---- where the reader stops

over_fault : (piece : List ℕ) (k : ℕ) (reader new : PageHolder) → Stops event.Over k piece new → new.ended ≡ reader.ended
    → IsFalse reader.ended → (new.found ≢ channel_state.Reading) × (new.packet ≡ None)
over_fault piece k reader new stops ended running = elim stops [
  | inl both ↦ both
  | inr over ↦ absurd (let clash : true ≡ false = sym over ∙ ended ∙ running in cc)
]

-- where a reader that hasn't ended stops at More or Over, the channel represents the bytes taken
pub stop_rests : (l : SizeList) (bytes piece : List ℕ) (k : ℕ) (answer : ChannelEvent)
    (reader new : PageHolder) (block : Option ℕ) (whole : Bool) (r : KeptRound) (memory : Image) → (answer ≡ event.More) ⊎ (answer ≡ event.Over)
    → GivesOn bytes answer reader new → NeedsMore answer new → Stops answer k piece new → new.ended ≡ reader.ended → IsFalse reader.ended
    → Rests l bytes (kept reader block whole) r memory (kept new block whole) r memory
stop_rests l bytes piece k answer reader new block whole r memory is on needs stops ended running = λ f text so_far at. elim is [
  | inl e ↦ more_came f l text so_far reader new block whole r memory bytes
      (subst (λ (a : ChannelEvent). GivesOn bytes a reader new) e on) (subst (λ (a : ChannelEvent). NeedsMore a new) e needs) ended at
  | inr e ↦ over_came f l text so_far reader new block whole r memory bytes (subst (λ (a : ChannelEvent). GivesOn bytes a reader new) e on)
      (over_fault piece k reader new (subst (λ (a : ChannelEvent). Stops a k piece new) e stops) ended running).1 ended at
]

-- where a reader stops before the end of the piece, no more bytes of its channel are taken
pub stop_waits : (l : SizeList) (piece : List ℕ) (n k : ℕ) (answer : ChannelEvent)
    (reader new : PageHolder) (block : Option ℕ) (whole : Bool) → (answer ≡ event.More) ⊎ (answer ≡ event.Over)
    → Stops answer k (drop n piece) new → new.ended ≡ reader.ended → IsFalse reader.ended → IsFalse whole → n + k < length piece
    → TellsTakes l (kept new block whole) false
stop_waits l piece n k answer reader new block whole is stops ended running open_ lt = elim is [
  | inl e ↦ absurd (let all = (subst (λ (a : ChannelEvent). Stops a k (drop n piece) new) e stops).0 in omega (arith, all, lt, length-drop n piece))
  | inr e ↦ over_waits l (kept new block whole)
      (over_fault (drop n piece) k reader new (subst (λ (a : ChannelEvent). Stops a k (drop n piece) new) e stops) ended running).0 open_
]

-- a channel of a load into a table's memory stays so where its reader answers More or Over
pub stop_channel : (table : RamTable) (bytes : List ℕ) (answer : ChannelEvent) (reader new : PageHolder) (block : Option ℕ) (whole : Bool)
    → (answer ≡ event.More) ⊎ (answer ≡ event.Over)
    → GivesOn bytes answer reader new → IsChannelOf table (kept reader block whole) → IsChannelOf table (kept new block whole)
stop_channel table bytes answer reader new block whole is on at = elim is [
  | inl e ↦ of_more table bytes reader new block whole (subst (λ (a : ChannelEvent). GivesOn bytes a reader new) e on) at
  | inr e ↦ of_over table bytes reader new block whole (subst (λ (a : ChannelEvent). GivesOn bytes a reader new) e on) at
]

-- a head came that couldn't be added
pub of_refused : (table : RamTable) (bytes : List ℕ) (reader new : PageHolder) (block : Option ℕ) (whole : Bool)
    → GivesOn bytes event.Head reader new → block ≡ None → IsChannelOf table (kept reader block whole)
    → IsChannelOf table (kept new block whole)
of_refused table bytes reader new block whole on none is = subst (λ (o : Option ℕ). IsChannelOf table (kept new o whole)) (sym none) (record {
  given = is.given;
  text = is.text ++ bytes;
  so_far = with_came event.Head new is.so_far;
  has_page_size = is.has_page_size;
  gives = on is.given is.text is.so_far is.gives;
  has_block = tt;
})

-- whatever a call returns, a fact holds of its error
pub any_err : {T E P : Type 0} (result : Result T E) → P → OnErr result P
any_err (Ok x) here = tt
any_err (Err e) here = here
