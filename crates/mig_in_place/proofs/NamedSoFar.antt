-- Each place that the kept round names is named by the streams.
use Rattle.std.proofs.Common.{ℕ, ◌≡◌, ◌≢◌, ◌+◌, ◌<◌, ◌≤◌, ◌&&◌, ◌||◌, Bool, true, false, List, [], ◌∷◌, ◌++◌, length, map, get_or, Option, Some, None, refl}
use Rattle.std.proofs.Common.{sym, ap, subst, ◌∙◌, append_assoc, inl, inr, arith}
use Rattle.std.specs.Prelude.{if◌then◌else◌, ◌⊎◌, IsTrue, IsFalse, IfSome, is_none}
use Rattle.std.specs.List.{flat_map}
use Rattle.std.proofs.Math.ListN.{get_or-eq_default}
use Rattle.std.proofs.lemmas.Bool.{cases_Bool, le-leb, or_right}
use Rattle.std.proofs.lemmas.List.{append-nil, get_or_default, length-append}
use Rattle.std.proofs.lemmas.List.Concat.{flat_map-append}
use Rattle.mig_mem.specs.PageSize.{IsPageSize}
use Rattle.mig_mem.specs.declared.place.Place.{Place}
use Rattle.mig_mem.specs.RamTable.{RamTable}
use Rattle.mig_mem.specs.Place.{has_place}
use Rattle.mig_mem.specs.Image.{Page}
use Rattle.mig_mem.proofs.Members.{map-map}
use Rattle.mig_stream.specs.PageRecord.{PageRecord, page_of}
use Rattle.mig_stream.specs.Reading.{StreamReading}
use Rattle.mig_stream.proofs.Giver.{none_left}
use Rattle.mig_packet.specs.PageSize.{head_len}
use Rattle.mig_packet.specs.declared.fault.ChannelFault.{ChannelFault}
use Rattle.mig_packet.specs.declared.state.ChannelState.{ChannelState}
use Rattle.mig_packet.specs.declared.state.ChannelState.TheVariants.{Reading}
use Rattle.mig_packet.specs.Progress.{ChannelProgress, start, due_fault, after_packet}
use Rattle.mig_packet.specs.Reading.{Settings, ChannelReading, Ends, Reads, state_at}
use Rattle.mig_packet.specs.Paging.{OpenPacket, GivenSoFar, IsOpenPacket, bytes_of, is_complete, read_to, open_bytes}
use Rattle.mig_packet.proofs.Later.{IsLater-front}
use Rattle.mig_assemble.specs.Judging.{places_of}
use Rattle.mig_assemble.proofs.AddingPlaces.{has_place-append}
use Rattle.mig_load_types.specs.declared.settings.LoadSettings.{LoadSettings}
use Rattle.mig_load_types.specs.Settings.{main_of}
use Rattle.mig_answer.specs.Texts.{Text, IsMainReading}
use Rattle.mig_in_place.specs.Named.{MainNames, ChannelNames, HasPacket, round_so_far, begun, packet_places}
use Rattle.mig_in_place.specs.Sources.{KeptMain, KeptChannel, HoldsMain, HoldsChannel, heads_given, heads_begun, packets_given, head_places, rounds_come}
use Rattle.mig_in_place.proofs.Channels.{read_as_given}
use Rattle.mig_in_place.proofs.Heading.{all_places_named, places_front}
use Rattle.mig_in_place.proofs.Mains.{taken_are_there}

or_split : (a b : Bool) → (a || b) ≡ true → (a ≡ true) ⊎ (b ≡ true)
or_split true b t = inl refl
or_split false b t = inr t

-- an or is true if its left side is
pub or_left : (a b : Bool) → a ≡ true → (a || b) ≡ true
or_left true b t = refl
or_left false b t = absurd cc

-- places of either list
pub in_either : (xs ys : List Place) (p : Place) → has_place (xs ++ ys) p ≡ true → (has_place xs p ≡ true) ⊎ (has_place ys p ≡ true)
in_either xs ys p t = or_split (has_place xs p) (has_place ys p) (sym (has_place-append xs ys p) ∙ t)

-- a place in the second of two lists is in the two joined
pub in_second : (xs ys : List Place) (p : Place) → has_place ys p ≡ true → has_place (xs ++ ys) p ≡ true
in_second xs ys p t = has_place-append xs ys p ∙ or_right (has_place xs p) (has_place ys p) t

-- ---- the main stream

-- a place of a record in the main stream's complete round k is named by the main stream
pub main_named : (given : LoadSettings) (k size : ℕ) (text : Text) (reading : StreamReading) (m : KeptMain) (p : Place)
    → IsPageSize given.page_size → HoldsMain (main_of given) k text m
    → (is : IsMainReading given text reading) → IsTrue m.is_whole
    → has_place (places_of (map (page_of size) (get_or reading.rounds k []))) p ≡ true → MainNames (main_of given) k text.bytes p
main_named given k size text reading m p is_size holds is whole t =
    let same : reading.rounds ≡ is.found.rounds = ap (λ (r : StreamReading). r.rounds) is.has_end in
    let count : k + 1 ≤ length reading.rounds = (let least = taken_are_there given text (rounds_come k m.is_whole) m.reader reading is_size holds.stands is in
    let n : rounds_come k m.is_whole ≡ k + 1 = ap (rounds_come k) whole in omega (arith, least, n)) in
    let below : k < length is.found.rounds = (let e = ap (λ (l : List (List PageRecord)). length l) same in omega (arith, e, count)) in
    let places : places_of (map (page_of size) (get_or reading.rounds k [])) ≡ map (λ (r : PageRecord). r.place)
    (get_or is.found.rounds k is.is_reading.to.records) =
    map-map (λ (x : Page). x.place) (page_of size) (get_or reading.rounds k [])
    ∙ ap (λ (l : List (List PageRecord)). map (λ (r : PageRecord). r.place) (get_or l k [])) same
    ∙ ap (λ (l : List PageRecord). map (λ (r : PageRecord). r.place) l) (get_or_default is.found.rounds k [] is.is_reading.to.records below) in
    record {
      reading = is.found;
      is_reading = is.is_reading;
      has_record = subst (λ (l : List Place). has_place l p ≡ true) places t;
    }

-- ---- a channel

-- the head of the packet that was begun stands first in what is left
begun_left : (c : ChannelProgress) (q : OpenPacket) (kept : List ℕ) (hello : Option ℕ) → hello ≢ None → IsOpenPacket c.page_size q
    → due_fault c (bytes_of q ++ kept) ≡ None
    → begun c hello (bytes_of q ++ kept) ≡ (bytes_of q ++ kept) ∷ []
begun_left c q kept None some is due = absurd (some refl)
begun_left c q kept (Some id) some is due =
    let more : List ℕ = flat_map (λ page. page.content) q.pages ++ kept in
    let rest : List ℕ = bytes_of q ++ kept in
    let split : rest ≡ q.head ++ more = append_assoc q.head (flat_map (λ page. page.content) q.pages) kept in
    let head : head_len c.page_size ≤ length q.head = omega (arith, is.is_head.has_length) in
    let long : head_len c.page_size ≤ length rest = (let l = ap (λ (x : List ℕ). length x) split in omega (arith, l, head, length-append q.head more)) in
    ap (λ (b : Bool). if b && is_none (due_fault c rest) then rest ∷ [] else []) (le-leb (head_len c.page_size) (length rest) long)
    ∙ ap (λ (o : Option ChannelFault). if is_none o then rest ∷ [] else []) due

-- a packet that was begun has no fault
none_due : (from read : ChannelProgress) (text : List ℕ) (o : Option OpenPacket) (kept : List ℕ) (found : ChannelState)
    → IfSome o (λ packet. IsFalse (is_complete packet))
    → IfSome o (λ packet. found ≡ Reading) → Reads from text (read_to read o) (open_bytes o ++ kept) found
    → IfSome o (λ packet. due_fault read (bytes_of packet ++ kept) ≡ None)
none_due from read text None kept found missing reading r = tt
none_due from read text (Some q) kept found missing reading r =
    let ends : Ends (read_to read (Some q)) (open_bytes (Some q) ++ kept) Reading =
    subst (λ (s : ChannelState). Ends (read_to read (Some q)) (open_bytes (Some q) ++ kept) s) reading r.ends in
    subst (λ (b : Bool). due_fault (if b then after_packet read (bytes_of q) else read) ((if b then [] else bytes_of q) ++ kept) ≡ None) missing ends.0

-- what was begun is named by what is left
begun_named : (table : RamTable) (size : ℕ) (read : ChannelProgress) (o : Option OpenPacket) (kept : List ℕ) (p : Place)
    → read.page_size ≡ size → IfSome o (IsOpenPacket size)
    → IfSome o (λ packet. read.hello ≢ None) → IfSome o (λ packet. IsFalse (is_complete packet))
    → IfSome o (λ packet. due_fault read (bytes_of packet ++ kept) ≡ None)
    → has_place (flat_map (head_places table) (heads_begun o)) p ≡ true
    → has_place (flat_map (packet_places table) (begun read read.hello (open_bytes o ++ kept))) p ≡ true
begun_named table size read None kept p same is hello missing due t = absurd cc
begun_named table size read (Some q) kept p same is hello missing due t =
    let more : List ℕ = flat_map (λ page. page.content) q.pages ++ kept in
    let left : open_bytes (Some q) ++ kept ≡ bytes_of q ++ kept = ap (λ (b : Bool). (if b then [] else bytes_of q) ++ kept) missing in
    let one : begun read read.hello (open_bytes (Some q) ++ kept) ≡ (bytes_of q ++ kept) ∷ [] =
    ap (λ (l : List ℕ). begun read read.hello l) left ∙ begun_left read q kept read.hello hello (subst (λ (n : ℕ). IsOpenPacket n q) (sym same) is) due in
    let places : flat_map (head_places table) (q.head ∷ []) ≡ flat_map (packet_places table) ((bytes_of q ++ kept) ∷ []) =
    ap (λ (l : List Place). l ++ []) (places_front table size q.head more is.is_head
    ∙ ap (packet_places table) (sym (append_assoc q.head (flat_map (λ page. page.content) q.pages) kept))) in
    ap (λ (l : List (List ℕ)). has_place (flat_map (packet_places table) l) p) one ∙ subst (λ (l : List Place). has_place l p ≡ true) places t

-- what was read has the page size of the settings
page_size_of : (given : Settings) (table : RamTable) (k : ℕ) (text : Text) (so_far : GivenSoFar) (c : KeptChannel)
    → HoldsChannel given table k text so_far c → so_far.read.page_size ≡ given.page_size
page_size_of given table k text so_far c holds =
    sym (ap (λ (x : ChannelProgress). x.page_size) (read_as_given so_far.read so_far.packet holds.has_missing))
    ∙ (IsLater-front (start given.page_size given.uuid given.channels given.waiting)
    (read_to so_far.read so_far.packet) holds.gives.reads.front holds.gives.reads.leads).1.same_page_size

-- a place that a channel's given heads of round k name is named by the channel
pub channel_named : (given : Settings) (table : RamTable) (k : ℕ) (text : Text) (so_far : GivenSoFar) (c : KeptChannel) (p : Place)
    → HoldsChannel given table k text so_far c
    → has_place (flat_map (head_places table) (heads_given k so_far)) p ≡ true → ChannelNames given table k text p
channel_named given table k text so_far c p holds t =
    let read : ChannelProgress = so_far.read in
    let to : ChannelProgress = read_to read so_far.packet in
    let rest : List ℕ = open_bytes so_far.packet ++ c.reader.kept in
    let same : to ≡ read = read_as_given read so_far.packet holds.has_missing in
    let reading : ChannelReading = record { hello = to.hello; rounds = to.rounds; state = state_at text.ended to rest c.reader.found } in
    let size : read.page_size ≡ given.page_size = page_size_of given table k text so_far c holds in
    record {
      reading = reading;
      is_reading = record { to = to; rest = rest; found = c.reader.found; reads = holds.gives.reads; has_hello = refl; has_rounds = refl; has_state = refl };
      has_packet = subst (λ (x : ChannelProgress). has_place
          (flat_map (packet_places table) (round_so_far k x.rounds (x.packets ++ begun x x.hello rest))) p ≡ true) (sym same) (elim (cases_Bool c.is_whole) [
            | inl whole ↦
                let none : so_far.packet ≡ None = (holds.is_between whole).1 in
                let below : k < length read.rounds = (let n = holds.has_rounds ∙ ap (rounds_come k) whole in omega (arith, n)) in
                let here : heads_given k so_far ≡ round_so_far k read.rounds (read.packets ++ begun read read.hello rest) =
                ap (λ (o : Option OpenPacket). packets_given k so_far ++ heads_begun o) none ∙ append-nil (packets_given k so_far)
                ∙ get_or_default read.rounds k read.packets (read.packets ++ begun read read.hello rest) below in
                subst (λ (l : List (List ℕ)). has_place (flat_map (packet_places table) l) p ≡ true) here
                (ap (λ (l : List Place). has_place l p) (sym (all_places_named table (heads_given k so_far))) ∙ t)
            | inr open_ ↦
                let past : length read.rounds ≤ k = (let n = holds.has_rounds ∙ ap (rounds_come k) open_ in omega (arith, n)) in
                let came : heads_given k so_far ≡ read.packets ++ heads_begun so_far.packet =
                ap (λ (l : List (List ℕ)). l ++ heads_begun so_far.packet) (get_or-eq_default read.rounds read.packets past) in
                let now : round_so_far k read.rounds (read.packets ++ begun read read.hello rest) ≡ read.packets ++ begun read read.hello rest =
                get_or-eq_default read.rounds (read.packets ++ begun read read.hello rest) past in
                let parts : has_place (flat_map (head_places table) read.packets ++ flat_map (head_places table) (heads_begun so_far.packet)) p ≡ true =
                ap (λ (l : List Place). has_place l p) (sym (flat_map-append (head_places table) read.packets (heads_begun so_far.packet)))
                ∙ ap (λ (l : List (List ℕ)). has_place (flat_map (head_places table) l) p) (sym came) ∙ t in
                let A : List Place = flat_map (packet_places table) read.packets in
                let B : List Place = flat_map (packet_places table) (begun read read.hello rest) in
                let either : (has_place A p || has_place B p) ≡ true =
                elim (in_either (flat_map (head_places table) read.packets) (flat_map (head_places table) (heads_begun so_far.packet)) p parts) [
                  | inl first ↦ or_left (has_place A p) (has_place B p)
                      (ap (λ (l : List Place). has_place l p) (sym (all_places_named table read.packets)) ∙ first)
                  | inr last ↦ or_right (has_place A p) (has_place B p)
                      (begun_named table given.page_size read so_far.packet c.reader.kept p size holds.gives.is_open holds.has_hello holds.has_missing
                      (none_due (start given.page_size given.uuid given.channels given.waiting) read text.bytes so_far.packet
                      c.reader.kept c.reader.found holds.has_missing
                      holds.gives.is_reading holds.gives.reads) last)
                ] in
                ap (λ (l : List (List ℕ)). has_place (flat_map (packet_places table) l) p) now
                ∙ ap (λ (l : List Place). has_place l p) (flat_map-append (packet_places table) read.packets (begun read read.hello rest))
                ∙ has_place-append A B p ∙ either
          ]);
    }

-- ---- a packet whose head arrived

-- what was begun is left
none_begun : (size : ℕ) (read : ChannelProgress) (o : Option OpenPacket) (kept : List ℕ) → read.page_size ≡ size
    → IfSome o (IsOpenPacket size) → IfSome o (λ packet. read.hello ≢ None)
    → IfSome o (λ packet. IsFalse (is_complete packet)) → IfSome o (λ packet. due_fault read (bytes_of packet ++ kept) ≡ None)
    → begun read read.hello (open_bytes o ++ kept) ≡ []
    → heads_begun o ≡ []
none_begun size read None kept same is hello missing due none = refl
none_begun size read (Some q) kept same is hello missing due none = absurd (
    let left : open_bytes (Some q) ++ kept ≡ bytes_of q ++ kept = ap (λ (b : Bool). (if b then [] else bytes_of q) ++ kept) missing in
    let one : begun read read.hello (open_bytes (Some q) ++ kept) ≡ (bytes_of q ++ kept) ∷ [] =
    ap (λ (l : List ℕ). begun read read.hello l) left ∙ begun_left read q kept read.hello hello (subst (λ (n : ℕ). IsOpenPacket n q) (sym same) is) due in
    let clash : [] ≡ (bytes_of q ++ kept) ∷ [] = sym none ∙ one in cc)

-- a channel that gave a head has a packet
pub channel_has : (given : Settings) (table : RamTable) (k : ℕ) (text : Text) (so_far : GivenSoFar) (c : KeptChannel) → HoldsChannel given table k text so_far c
    → heads_given k so_far ≢ [] → HasPacket given k text
channel_has given table k text so_far c holds some =
    let read : ChannelProgress = so_far.read in
    let to : ChannelProgress = read_to read so_far.packet in
    let rest : List ℕ = open_bytes so_far.packet ++ c.reader.kept in
    let same : to ≡ read = read_as_given read so_far.packet holds.has_missing in
    let size : read.page_size ≡ given.page_size = page_size_of given table k text so_far c holds in
    record {
      reading = record { hello = to.hello; rounds = to.rounds; state = state_at text.ended to rest c.reader.found };
      is_reading = record { to = to; rest = rest; found = c.reader.found; reads = holds.gives.reads; has_hello = refl; has_rounds = refl; has_state = refl };
      has_packet = subst (λ (x : ChannelProgress). round_so_far k x.rounds (x.packets ++ begun x x.hello rest) ≢ []) (sym same)
          (λ none. some (elim (cases_Bool c.is_whole) [
            | inl whole ↦
                let closed : so_far.packet ≡ None = (holds.is_between whole).1 in
                let below : k < length read.rounds = (let n = holds.has_rounds ∙ ap (rounds_come k) whole in omega (arith, n)) in
                ap (λ (o : Option OpenPacket). packets_given k so_far ++ heads_begun o) closed ∙ append-nil (packets_given k so_far)
                ∙ get_or_default read.rounds k read.packets (read.packets ++ begun read read.hello rest) below ∙ none
            | inr open_ ↦
                let past : length read.rounds ≤ k = (let n = holds.has_rounds ∙ ap (rounds_come k) open_ in omega (arith, n)) in
                let parts = none_left read.packets (begun read read.hello rest)
                (sym (get_or-eq_default read.rounds (read.packets ++ begun read read.hello rest) past) ∙ none) in
                let last : heads_begun so_far.packet ≡ [] =
                none_begun given.page_size read so_far.packet c.reader.kept size holds.gives.is_open holds.has_hello holds.has_missing
                (none_due (start given.page_size given.uuid given.channels given.waiting) read text.bytes so_far.packet c.reader.kept
                c.reader.found holds.has_missing
                holds.gives.is_reading holds.gives.reads) parts.1 in
                ap (λ (l : List (List ℕ)). l ++ heads_begun so_far.packet) (get_or-eq_default read.rounds read.packets past)
                ∙ ap (λ (l : List (List ℕ)). l ++ heads_begun so_far.packet) parts.0 ∙ last
          ]));
    }
