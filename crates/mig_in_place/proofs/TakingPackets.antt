-- A channel that takes a packet at once, and the load that it is of.
use Rattle.std.proofs.Common.{ℕ, zero, suc, ◌≡◌, ◌<◌, Bool, true, false, List, [], ◌∷◌, length, get_or, set, Option, Some, None, refl, sym, ap, subst, ◌∙◌}
use Rattle.std.proofs.Common.{◌++◌, arith}
use Rattle.std.specs.Prelude.{IsTrue, IsFalse, IfSome, zip, slice_get, Result, Ok, Err, IfOk}
use Rattle.std.specs.List.{All, AllZip}
use Rattle.std.specs.Option.{IsSomeAnd}
use Rattle.std.proofs.lemmas.List.Elements.{All-head, All-tail}
use Rattle.mig_mem.specs.PageSize.{IsPageSize}
use Rattle.mig_mem.specs.RamTable.{RamTable}
use Rattle.mig_mem.specs.Image.{Image}
use Rattle.mig_mem.specs.Round.{with_round}
use Rattle.mig_packet.specs.PacketHead.{as_zeros}
use Rattle.mig_packet.specs.Reading.{Settings, ChannelReading, IsReading}
use Rattle.mig_packet.specs.Paging.{GivenSoFar, PageHolder, Gives}
use Rattle.mig_assemble.specs.Arrivals.{OnePacket}
use Rattle.mig_assemble.specs.HeadPlaces.{LieIn}
use Rattle.mig_load_types.specs.Settings.{for_table, channel_of}
use Rattle.mig_load_types.specs.declared.settings.LoadSettings.{LoadSettings}
use Rattle.mig_answer.specs.Texts.{Text, no_text, with_piece}
use Rattle.mig_sources.specs.declared.source.Source.TheVariants as source
use Rattle.mig_in_place.specs.declared.main_stream.SizeList.{SizeList}
use Rattle.mig_in_place.specs.declared.main_stream.SizeList.TheVariants as list
use Rattle.mig_in_place.specs.Round.{KeptRound, AlsoKeeps}
use Rattle.mig_in_place.specs.Sources.{KeptChannel, HoldsAt, HoldsChannel, IsChannelOf, TellsTakes, TellsList, block_in, zeros_begun, rounds_come}
use Rattle.mig_in_place.specs.Session.{InPlaceLoad, IsRunning, Loading, Loads, IsDue, with_bytes}
use Rattle.mig_in_place.specs.TakenPackets.{TakesParts, TakesPacket, packet_bytes, pages_taken}
use Rattle.mig_in_place.proofs.Channels.{kept, rounds_are}
use Rattle.mig_in_place.proofs.Lawful.{channels_have}
use Rattle.mig_in_place.proofs.ChannelComes.{at, gave, holds_at, channel_goes_on}
use Rattle.mig_in_place.proofs.Steps.{adds_head}
use Rattle.mig_in_place.proofs.Lying.{wrote_in}

-- if the reader takes the parts of a packet whose head the round has, and no page is misplaced,
-- the channel takes the packet
pub packet_taken : (head : List ℕ) (contents : List (List ℕ)) (old : KeptChannel)
    (r after : KeptRound) (new : PageHolder) (sync : Bool) → old.block ≡ None → IsFalse old.is_whole → TellsTakes list.Complete old true
    → IsFalse after.has_misplaced → LieIn r.arrivals.seen.table (block_in r.arrivals.seen.table head) head
    → AlsoKeeps (OnePacket (as_zeros head)) r after → TakesParts head contents old.reader new sync
    → TakesPacket head contents old r (kept new None sync) after
packet_taken head contents old r after new sync none open_ takes right lies also parts = λ f text so_far memory holds.
    let same : kept old.reader None false ≡ old = ap (λ (b : Option ℕ). kept old.reader b false) (sym none)
    ∙ ap (λ (w : Bool). kept old.reader old.block w) (sym open_) in
    let lie : LieIn memory.table (block_in memory.table head) head = subst (λ (t : RamTable). LieIn t (block_in t head) head) holds.same_table lies in
    parts f list.Complete text so_far r after memory (record {
      is_complete = refl;
      takes = subst (λ (c : KeptChannel). TellsTakes list.Complete c true) (sym same) takes;
      holds = subst (λ (c : KeptChannel). HoldsAt f list.Complete text so_far c r memory) (sym same) holds;
      is_right = right;
      lies = lie;
      adds = adds_head memory.table head r after memory (with_round memory (zeros_begun memory.table head)) refl also
          (wrote_in memory.table (block_in memory.table head) memory.table.page_size head after memory
          (with_round memory (zeros_begun memory.table head)) lie refl right refl);
    })

-- it is a channel of the table still
pub packet_channel : (table : RamTable) (bytes : List ℕ) (old : KeptChannel) (new : PageHolder) (sync : Bool)
    → ((given : Settings) (text : List ℕ) (so_far : GivenSoFar) → Gives given text so_far old.reader
    → (gave : GivenSoFar) × Gives given (text ++ bytes) gave new)
    → IsChannelOf table old → IsChannelOf table (kept new None sync)
packet_channel table bytes old new sync gives is =
    let now = gives is.given is.text is.so_far is.gives in
    record {
      given = is.given;
      text = is.text ++ bytes;
      so_far = now.0;
      has_page_size = is.has_page_size;
      gives = now.1;
      has_block = tt;
    }

-- ---- the load

-- a running load one of whose channels takes a packet goes on with the packet's bytes taken, and
-- with its pages in the memory
pub channel_takes : (f : Loading) (memory : Image) (s : InPlaceLoad) (loads : Loads f memory
    s) (j : ℕ) (c : KeptChannel) (is : slice_get s.sources.channels j ≡ Some c) (l : SizeList)
    (tells : TellsList s.sources.main l) (same : memory.table ≡ f.first.table) (head : List ℕ) (contents : List
    (List ℕ)) (next : KeptChannel) (after : KeptRound) → IsFalse c.reader.ended → l ≡ list.Complete
    → (IsTrue s.round.has_misplaced → IsTrue after.has_misplaced) → TakesPacket head contents c s.round next after
    → Loads (with_bytes (source.Channel j) (packet_bytes head contents) f) (with_round memory (pages_taken memory.table head contents))
    (record s { sources = record s.sources { channels = set s.sources.channels j next }; round = after })
channel_takes f memory s loads j c is l tells same head contents next after open_ complete misplaced takes =
    let changed : Image = with_round memory (pages_taken memory.table head contents) in
    let here = subst (λ (x : SizeList). HoldsAt (at f memory s loads j c is l tells same) x (get_or f.texts.channels j no_text)
    (gave f memory s loads j c is l tells same) c s.round memory) complete
    (holds_at f memory s loads j c is l tells same) in
    let then = takes (at f memory s loads j c is l tells same) (get_or f.texts.channels j no_text) (gave f memory s loads j c is l tells same) memory here in
    channel_goes_on f memory s loads j c is l tells same (packet_bytes head contents) then.0 next after changed open_ refl
    (λ other. absurd (other complete)) misplaced
    (subst (λ (x : SizeList). HoldsAt (at f memory s loads j c is l tells same) x
    (with_piece (packet_bytes head contents) (get_or f.texts.channels j no_text)) then.0 next after changed) (sym complete) then.1)

-- a round isn't due while a channel lacks it
one_lacks : (given : Settings) (t : RamTable) (k : ℕ) (texts : List Text) (gave : List GivenSoFar) (channels : List
    KeptChannel) (readings : List ChannelReading) (j : ℕ) (c : KeptChannel) → IsPageSize given.page_size
    → length gave ≡ length texts → AllZip (λ c kept. HoldsChannel given t k c.0 c.1 kept) (zip texts gave) channels
    → AllZip (λ (text : Text) (reading : ChannelReading). IsReading given text.bytes text.ended reading) texts readings
    → All (λ (r : ChannelReading). k < length r.rounds) readings
    → slice_get channels j ≡ Some c → IsFalse c.is_whole → ⊥
one_lacks given t k texts gave [] readings j c size many holds are all is open_ = cc
one_lacks given t k [] gave (q ∷ channels) readings j c size many holds are all is open_ = holds
one_lacks given t k (text ∷ texts) [] (q ∷ channels) readings j c size many holds are all is open_ = holds
one_lacks given t k (text ∷ texts) (g ∷ gave) (q ∷ channels) [] j c size many holds are all is open_ = are
one_lacks given t k (text ∷ texts) (g ∷ gave) (q ∷ channels) (r ∷ readings) zero c size many holds are all is open_ =
    let same : q ≡ c = cc in
    let count : length r.rounds ≡ k = rounds_are given t k text g q r size holds.0 are.0
    ∙ ap (λ (x : KeptChannel). rounds_come k x.is_whole) same ∙ ap (rounds_come k) open_ in
    let below = All-head (λ (x : ChannelReading). k < length x.rounds) r readings all in omega (arith, count, below)
one_lacks given t k (text ∷ texts) (g ∷ gave) (q ∷ channels) (r ∷ readings) (suc j) c size many holds are all is open_ =
    one_lacks given t k texts gave channels readings j c size (omega (arith, many)) holds.1 are.1
    (All-tail (λ (x : ChannelReading). k < length x.rounds) r readings all) is open_

-- while a channel lacks the current round, the round isn't due
pub not_due : (f : Loading) (memory : Image) (s : InPlaceLoad) (loads : Loads f memory s) (j : ℕ) (c : KeptChannel)
    → slice_get s.sources.channels j ≡ Some c → IsFalse c.is_whole → IsDue f s.rounds → ⊥
not_due f memory s loads j c is open_ due =
    let given : LoadSettings = for_table f.first.table f.given in
    let r : IsRunning given f.uuid f.first f.texts memory s = loads.is_running in
    one_lacks (channel_of given f.uuid (length f.texts.channels)) f.first.table s.rounds f.texts.channels r.gave
    s.sources.channels r.readings.channels j c loads.is_table.has_page_size r.as_many r.channels
    r.are_readings.has_channels (channels_have f memory s loads due) is open_

-- ---- what holds of a result

-- two facts that each hold of an Ok hold of it together
pub both_ok : {T E : Type 0} (P Q : T → Type 0) (result : Result T E) → IfOk result P → IfOk result Q → IfOk result (λ x. P x × Q x)
both_ok P Q (Ok x) p q = (p, q)
both_ok P Q (Err e) p q = tt

-- an answer that is there, and of which something holds, is some value of which it holds
pub there_some : {X : Type 0} (P : X → Type 0) (o : Option X) → IsSomeAnd o P → (x : X) × (o ≡ Some x) × P x
there_some P None has = absurd has
there_some P (Some x) has = (x, refl, has)

-- if P holds of a Some, and implies Q, then Q holds of it
pub if_some : {X : Type 0} (P Q : X → Type 0) (o : Option X) → IfSome o P → ((x : X) → P x → Q x) → IfSome o Q
if_some P Q None has f = tt
if_some P Q (Some x) has f = f x has
