use Rattle.std.proofs.Common.{ℕ, ◌≡◌, ◌+◌, ◌*◌, ◌++◌, ◌∙◌, true, Bor, List, None, length, sym, ap, subst, arith}
use Rattle.std.specs.Prelude.{IsFalse}
use Rattle.std.proofs.lemmas.List.{length-map}
use Rattle.mig_mem.specs.RamTable.{RamTable}
use Rattle.mig_mem.specs.Lent.{lent_bytes}
use Rattle.mig_packet.specs.PacketHead.{as_zeros}
use Rattle.mig_packet.specs.Paging.{Gives, GivenSoFar}
use Rattle.mig_packet.specs.Reading.{Settings}
use Rattle.mig_packet.specs.Packet.{normal_count}
use Rattle.mig_assemble.specs.Arrivals.{OnePacket}
use Rattle.mig_assemble.specs.Judging.{place_fault}
use Rattle.mig_assemble.specs.HeadPlaces.{LieIn}
use Rattle.mig_in_place.specs.declared.main_stream.SizeList.{SizeList}
use Rattle.mig_in_place.specs.declared.main_stream.SizeList.TheVariants as size_list
use Rattle.mig_in_place.specs.Round.{KeptRound, AlsoKeeps}
use Rattle.mig_in_place.specs.Sources.{KeptChannel, IsChannelOf, TellsTakes, block_in}
use Rattle.mig_in_place.specs.TakenPackets.{packet_bytes, TakesPacket, TakesParts, IsNextPacket, ArePages}
use Rattle.mig_in_place.proofs.Lying.{block_is}
use Rattle.mig_in_place.proofs.TakingParts.{packet_len}
use Rattle.mig_in_place.proofs.TakingPackets.{packet_taken, packet_channel}
use Rattle.mig_in_place.proofs.channel.Channel.take_packet.Goals as goal

pub returns-clause-took : goal.returns-clause-took
returns-clause-took g c = λ _.
    let head : List ℕ = c.args.head.now in
    let contents : List (List ℕ) = lent_bytes c.args.contents.now in
    let r : KeptRound = c.args.round.now in
    let table : RamTable = r.arrivals.seen.table in
    let next : IsNextPacket c.args.list head c.args.self.now r c.in-Some.field-0-1 = c.in-Some.ensures.next in
    let same : c.in-Some.view.bytes.now ≡ head = c.in-Some.ensures.head.0 in
    let takes : TellsTakes size_list.Complete c.args.self.now true = subst (λ (l : SizeList). TellsTakes l c.args.self.now true) next.is_complete next.takes in
    let none : place_fault table (as_zeros c.in-Some.view.bytes.now) ≡ None = ap (λ (h : List ℕ). place_fault table (as_zeros h)) same ∙ next.lies.are_right in
    let right : IsFalse c.packet.new.self.has_misplaced = c.in_ok-packet.ensures.right none ∙ next.is_right in
    let lies : LieIn table (block_in table head) head =
    subst (λ (b : ℕ). LieIn table b head) (sym (block_is table c.in-Some.field-0-1 head next.lies)) next.lies in
    let also : AlsoKeeps (OnePacket (as_zeros head)) r c.packet.new.self =
    subst (λ (h : List ℕ). AlsoKeeps (OnePacket (as_zeros h)) r c.packet.new.self) same c.in_ok-packet.ensures.keeps in
    let parts : TakesParts head contents c.args.self.now.reader c.take_parts-sync.new.reader c.take_parts-sync.result =
    subst (λ (x : KeptChannel). TakesParts head contents x.reader c.take_parts-sync.new.reader c.take_parts-sync.result)
    c.self.view_is c.take_parts-sync.ensures.parts in (
      next.is_complete,
      subst (λ (x : KeptChannel). TakesPacket head contents c.args.self.now r x c.packet.new.self) (sym c.end_packet.ensures)
          (packet_taken head contents c.args.self.now r c.packet.new.self c.take_parts-sync.new.reader c.take_parts-sync.result
          next.none_begun next.is_here takes right lies also parts),
    )

pub returns-clause-fed : goal.returns-clause-fed
returns-clause-fed g c = λ _.
    let size : ℕ = c.args.self.now.reader.given.page_size in
    let page_size : c.page_size.result ≡ size = c.page_size.ensures.value ∙ c.in-Some.ensures.head.1 in
    let pages : ArePages c.page_size.result c.normal_len.result (lent_bytes c.args.contents.now) = c.are_pages.ensures c.if-not-are_pages.false in
    let len : length (packet_bytes c.args.head.now (lent_bytes c.args.contents.now)) ≡ length c.args.head.now + length c.args.contents.now * size =
    packet_len size c.normal_len.result c.args.head.now c.args.contents.now
    (subst (λ (n : ℕ). ArePages n c.normal_len.result (lent_bytes c.args.contents.now)) page_size pages) in
    let fed : c.take_parts-sync.new.reader.fed ≡ c.args.self.now.reader.fed + length c.args.head.now + length c.args.contents.now * size =
    subst (λ (x : KeptChannel). c.take_parts-sync.new.reader.fed ≡ x.reader.fed + length c.args.head.now
    + length c.args.contents.now * x.reader.given.page_size) c.self.view_is c.take_parts-sync.ensures.fed in
    ap (λ (x : KeptChannel). x.reader.fed) c.end_packet.ensures ∙ omega (arith, fed, len)

pub returns-clause-channel : goal.returns-clause-channel
returns-clause-channel g c = λ table is.
    subst (λ (x : KeptChannel). IsChannelOf table x) (sym c.end_packet.ensures)
    (packet_channel table (packet_bytes c.args.head.now (lent_bytes c.args.contents.now)) c.args.self.now c.take_parts-sync.new.reader c.take_parts-sync.result
    (subst (λ (x : KeptChannel). (given : Settings) (text : List ℕ) (so_far : GivenSoFar) → Gives given text so_far x.reader
    → (gave : GivenSoFar) × Gives given (text ++ packet_bytes c.args.head.now (lent_bytes c.args.contents.now)) gave c.take_parts-sync.new.reader)
    c.self.view_is c.take_parts-sync.ensures.gives) is)

pub returns-clause-count : goal.returns-clause-count
returns-clause-count g c = λ _.
    let pages : ArePages c.page_size.result c.normal_len.result (lent_bytes c.args.contents.now) = c.are_pages.ensures c.if-not-are_pages.false in
    sym (length-map c.args.contents.now (λ (b : Bor (List ℕ)). b.now)) ∙ pages.as_many ∙ c.normal_len.ensures ∙ ap normal_count c.in-Some.ensures.head.0
