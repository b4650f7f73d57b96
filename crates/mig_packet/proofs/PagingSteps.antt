-- What a reader of pages represents after each answer.
use Rattle.std.proofs.Common.{◌≡◌, ◌≢◌, ℕ, ◌+◌, ◌<◌, Bool, true, false, cond, not, List, [], ◌∷◌, ◌++◌}
use Rattle.std.proofs.Common.{length, take, Option, Some, None, refl, sym, ap, subst, ◌∙◌, append_assoc, inl, inr, arith}
use Rattle.std.proofs.lemmas.List.{append-nil, length-append, length-take-le}
use Rattle.std.proofs.lemmas.List.Elements.{All-nil}
use Rattle.std.proofs.lemmas.Bool.{lt-leb}
use Rattle.std.specs.List.{flat_map}
use Rattle.mig_packet.specs.declared.state.ChannelState.{ChannelState}
use Rattle.mig_packet.specs.declared.state.ChannelState.TheVariants.{Reading, Bad}
use Rattle.mig_packet.specs.declared.page_reader.ChannelEvent.{ChannelEvent}
use Rattle.mig_packet.specs.declared.page_reader.ChannelEvent.TheVariants as event
use Rattle.mig_packet.specs.declared.page_reader.PageContent.{PageContent}
use Rattle.mig_packet.specs.Faults.{first_of}
use Rattle.mig_packet.specs.Hello.{hello_faults}
use Rattle.mig_packet.specs.PageSize.{IsPageSize, head_len}
use Rattle.mig_packet.specs.Packet.{NormalPage, normal_count, is_sync, offset_at, packet_faults}
use Rattle.mig_packet.specs.Progress.{ChannelProgress, start, judged_len, item_len, faults, first_fault, after_packet, after_item, after}
use Rattle.mig_packet.specs.Reading.{IsItem, Front, Reads, Settings}
use Rattle.mig_packet.specs.Reader.{IsUnfinished}
use Rattle.mig_packet.specs.Paging.{OpenPacket, IsOpenPacket, bytes_of, GivenSoFar, PageHolder, content_of, head_kept, with_came}
use Rattle.mig_packet.specs.Paging.{read_to, open_bytes, kept_of, has_any, Gives, GivesOn, HolderTells, Completes, Comes, IsShort, NeedsMore}
use Rattle.mig_packet.specs.PagingStep.{faults_of, fault_of, IsJudged, IsPageOf, IsLast, Moves, Steps}
use Rattle.mig_packet.specs.Waiting.{weight, room_after, less_room, next_room, packet_faults_within}
use Rattle.mig_packet.proofs.Waiting.{faultless_within, weight-front, room_at_first, room_push}
use Rattle.mig_packet.proofs.Later.{IsLater-front}
use Rattle.mig_packet.proofs.Paging.{reads_grown, reads_item, reads_fault, head_free, packet_reads, still_open, complete_read, open_push, bytes_push, sync_said}
use Rattle.mig_packet.proofs.Paging.{completes}

abbrev from : Settings → ChannelProgress
from given = start given.page_size given.uuid given.channels given.waiting

-- what was given, in two parts
abbrev so_far : ChannelProgress → Option OpenPacket → GivenSoFar
so_far read packet = record { read = read; packet = packet }

-- a packet, with SYNC or without
abbrev by_sync : ChannelProgress → List ℕ → Bool → ChannelProgress
by_sync c packet sync =
    cond sync (record c { packets = []; rounds = c.rounds ++ (c.packets ++ packet ∷ []) ∷ [] }) (record c { packets = c.packets ++ packet ∷ [] })

-- ---- settings and faults

same_size : (given : Settings) (c : ChannelProgress) (front : List ℕ) → Front (from given) front c → c.page_size ≡ given.page_size
same_size given c front f = (IsLater-front (from given) c front f).1.same_page_size

faults_same : (given : Settings) (c : ChannelProgress) (h : Option ℕ) (bytes : List ℕ) → c.page_size ≡ given.page_size → c.uuid ≡ given.uuid
    → c.channels ≡ given.channels → c.waiting ≡ given.waiting → faults c h bytes ≡ faults_of given h (room_after given.waiting c.packets) bytes
faults_same given c None bytes size uuid channels waiting =
    ap (λ (u : List ℕ). hello_faults u c.channels bytes) uuid ∙ ap (λ (n : ℕ). hello_faults given.uuid n bytes) channels
faults_same given c (Some id) bytes size uuid channels waiting =
    ap (λ (n : ℕ). packet_faults_within n (room_after c.waiting c.packets) bytes) size
    ∙ ap (λ (w : Option ℕ). packet_faults_within given.page_size (room_after w c.packets) bytes) waiting

-- the faults of what comes next are those by the settings and the room
fault_same : (given : Settings) (c : ChannelProgress) (front : List ℕ) (h room : Option ℕ) (bytes : List ℕ) → Front (from given) front c → h ≡ c.hello
    → room ≡ room_after given.waiting c.packets → first_fault c bytes ≡ fault_of given h room bytes
fault_same given c front h room bytes f e left =
    let later = (IsLater-front (from given) c front f).1 in
    ap first_of (faults_same given c c.hello bytes later.same_page_size later.same_uuid later.same_channels later.same_waiting)
    ∙ ap (λ (x : Option ℕ). fault_of given x (room_after given.waiting c.packets) bytes) (sym e) ∙ ap (λ (x : Option ℕ). fault_of given h x bytes) (sym left)

-- an answer that isn't none is some number
pub known : (h : Option ℕ) → h ≢ None → (id : ℕ) × (h ≡ Some id)
known None some = absurd (some refl)
known (Some id) some = (id, refl)

-- if nothing is kept of a packet, no packet is open
pub none_kept : (packet : Option OpenPacket) → kept_of packet ≡ None → packet ≡ None
none_kept None e = refl
none_kept (Some p) e = absurd cc

pushed : (packets : List (List ℕ)) (packet : List ℕ) → has_any (packets ++ packet ∷ []) ≡ true
pushed [] packet = refl
pushed (x ∷ packets) packet = refl

-- a packet changes no hello
pub hello_stays : (c : ChannelProgress) (packet : List ℕ) (sync : Bool) → is_sync packet ≡ sync → (after_packet c packet).hello ≡ c.hello
hello_stays c packet true e = ap (λ (b : Bool). (by_sync c packet b).hello) e
hello_stays c packet false e = ap (λ (b : Bool). (by_sync c packet b).hello) e

short_item : (c : ChannelProgress) (bytes : List ℕ) → length bytes < judged_len c.page_size c.hello → IsUnfinished c bytes
short_item c bytes lt = record {
  has_no_fault = ap (λ (b : Bool). cond b (first_fault c bytes) None) (lt-leb (judged_len c.page_size c.hello) (length bytes) lt);
  is_short = λ le. absurd (omega (arith, le, lt));
}

-- ---- how the bytes stand, by what the new reader holds

reads_by : (f : ChannelProgress) (text text2 : List ℕ) (to : ChannelProgress) (begun kept kept2 : List ℕ) (s s2 : ChannelState) → text2 ≡ text → kept2 ≡ kept
    → s2 ≡ s → Reads f text to (begun ++ kept) s → Reads f text2 to (begun ++ kept2) s2
reads_by f text text2 to begun kept kept2 s s2 et ek es r =
    subst (λ (x : List ℕ). Reads f x to (begun ++ kept2) s2) (sym et)
    (subst (λ (x : List ℕ). Reads f text to (begun ++ x) s2) (sym ek) (subst (λ (x : ChannelState). Reads f text to (begun ++ kept) x) (sym es) r))

fed_grown : (text taken : List ℕ) (old new : ℕ) → new ≡ old + length taken → old ≡ length text → new ≡ length (text ++ taken)
fed_grown text taken old new fed has_fed = omega (arith, fed, has_fed, length-append text taken)

-- ---- a hello

judged_item : (given : Settings) (read : ChannelProgress) (front : List ℕ) (old : PageHolder) (bytes : List ℕ) → old.given ≡ given → old.hello ≡ read.hello
    → old.room ≡ room_after given.waiting read.packets → Front (from given) front read → IsJudged old bytes
    → (length bytes ≡ judged_len read.page_size read.hello) × (first_fault read bytes ≡ None)
judged_item given read front old bytes same hello room f j = (
  j.has_length ∙ ap (λ (x : Settings). judged_len x.page_size old.hello) same ∙ ap (λ (n : ℕ). judged_len n old.hello) (sym (same_size given read front f))
      ∙ ap (judged_len read.page_size) hello,
  fault_same given read front old.hello old.room bytes f hello room ∙ ap (λ (x : Settings). fault_of x old.hello old.room bytes) (sym same) ∙ j.has_no_fault,
)

-- a hello that is read is added to the channel's progress
pub moves_hello : (given : Settings) (text : List ℕ) (read : ChannelProgress) (packet : Option OpenPacket) (id : ℕ) (taken : List ℕ) (old new : PageHolder)
    → Moves (event.Hello id) taken old new → new.fed ≡ old.fed + length taken → Gives given text (so_far read packet) old
    → Gives given (text ++ taken) (with_came (event.Hello id) new (so_far read packet)) new
moves_hello given text read (Some p) id taken old new m fed g =
    absurd (let clash : None ≡ Some (p.head, length p.pages) = sym m.1.has_none_begun ∙ g.has_packet in cc)
moves_hello given text read None id taken old new m fed g =
    let e : new ≡ record old { hello = Some id; kept = []; fed = new.fed } = m.3 in
    let bytes = old.kept ++ taken in
    let r : Reads (from given) text read old.kept Reading =
    subst (λ (s : ChannelState). Reads (from given) text read old.kept s) m.1.is_reading g.reads in
    let none : read.hello ≡ None = sym g.has_hello ∙ m.0 in
    let j = judged_item given read r.front old bytes g.has_settings g.has_hello g.has_room r.leads m.1 in
    let is : IsItem read.page_size read.hello bytes =
    j.0 ∙ ap (judged_len read.page_size) none ∙ sym (ap (λ (h : Option ℕ). item_len read.page_size h bytes) none) in
    let to : after read bytes ≡ record read { hello = Some id } =
    ap (λ (h : Option ℕ). after_item read h bytes) none ∙ ap (λ (n : ℕ). record read { hello = Some n }) (sym m.2) in
    let done : Reads (from given) (text ++ taken) (record read { hello = Some id }) [] Reading =
    subst (λ (c : ChannelProgress). Reads (from given) (text ++ taken) c [] Reading) to (reads_item (from given) text read old.kept taken r is j.1) in
    record {
      is_page_size = g.is_page_size;
      has_settings = ap (λ (x : PageHolder). x.given) e ∙ g.has_settings;
      has_fed = fed_grown text taken old.fed new.fed fed g.has_fed;
      reads = reads_by (from given) (text ++ taken) (text ++ taken) (record read { hello = Some id }) [] [] new.kept Reading new.found refl
          (ap (λ (x : PageHolder). x.kept) e) (ap (λ (x : PageHolder). x.found) e ∙ m.1.is_reading) done;
      is_open = tt;
      is_reading = tt;
      has_packet = ap (λ (x : PageHolder). x.packet) e ∙ g.has_packet;
      has_hello = ap (λ (x : PageHolder). x.hello) e;
      has_packets = ap (λ (x : PageHolder). x.has_packets) e ∙ g.has_packets;
      has_room = ap (λ (x : PageHolder). x.room) e ∙ g.has_room;
    }

-- ---- a packet that goes on

-- what a reader represents that has begun a packet
gives_packet : (given : Settings) (text front : List ℕ) (read : ChannelProgress) (p : OpenPacket) (id : ℕ) (kept : List ℕ) (new : PageHolder)
    → IsPageSize given.page_size → Front (from given) front read → text ≡ front ++ (bytes_of p ++ kept) → read.hello ≡ Some id → IsOpenPacket given.page_size p
    → first_fault read p.head ≡ None → length kept < given.page_size → (length p.pages ≡ normal_count p.head → kept ≡ [])
    → new.given ≡ given → new.fed ≡ length text → new.kept ≡ kept → new.found ≡ Reading → new.packet ≡ Some (p.head, length p.pages)
    → new.hello ≡ read.hello → new.has_packets ≡ has_any read.packets → new.room ≡ room_after given.waiting read.packets
    → Gives given text (so_far read (Some p)) new
gives_packet given text front read p id kept new is_size f has_text hello is free short none same fed same_kept reading packet
    same_hello same_packets same_room =
    let size = same_size given read front f in
    let done : Reads (from given) text (read_to read (Some p)) (open_bytes (Some p) ++ kept) Reading =
    packet_reads (from given) read id front text p kept hello f
    has_text (subst (λ (n : ℕ). IsOpenPacket n p) (sym size) is) free (omega (arith, short, size)) none in
    record {
      is_page_size = is_size;
      has_settings = same;
      has_fed = fed;
      reads = reads_by (from given) text text (read_to read (Some p)) (open_bytes (Some p)) kept new.kept Reading new.found refl same_kept reading done;
      is_open = is;
      is_reading = reading;
      has_packet = packet;
      has_hello = same_hello;
      has_packets = same_packets;
      has_room = same_room;
    }

grown_text : (text front rest taken : List ℕ) → text ≡ front ++ rest → text ++ taken ≡ front ++ (rest ++ taken)
grown_text text front rest taken e = ap (λ (x : List ℕ). x ++ taken) e ∙ append_assoc front rest taken

size_large : (size : ℕ) → IsPageSize size → 0 < size
size_large size (inl e) = omega (arith, e)
size_large size (inr e) = omega (arith, e)

-- a head that is read opens its packet
pub moves_head : (given : Settings) (text : List ℕ) (read : ChannelProgress) (packet : Option OpenPacket) (taken : List ℕ) (old new : PageHolder)
    → Moves event.Head taken old new → new.fed ≡ old.fed + length taken → Gives given text (so_far read packet) old
    → Gives given (text ++ taken) (with_came event.Head new (so_far read packet)) new
moves_head given text read (Some p) taken old new m fed g =
    absurd (let clash : None ≡ Some (p.head, length p.pages) = sym m.1.has_none_begun ∙ g.has_packet in cc)
moves_head given text read None taken old new m fed g =
    let large : 0 < given.page_size = size_large given.page_size g.is_page_size in
    let bytes = old.kept ++ taken in
    let e : new ≡ record old { packet = Some (bytes, 0); kept = []; page = new.page; fed = new.fed } = m.2 in
    let r : Reads (from given) text read old.kept Reading =
    subst (λ (s : ChannelState). Reads (from given) text read old.kept s) m.1.is_reading g.reads in
    let told = known old.hello m.0 in
    let hello : read.hello ≡ Some told.0 = sym g.has_hello ∙ told.1 in
    let same : old.given ≡ given = g.has_settings in
    let p : OpenPacket = record { head = bytes; pages = [] } in
    let len : length bytes ≡ head_len given.page_size =
    m.1.has_length ∙ ap (λ (x : Settings). judged_len x.page_size old.hello) same ∙ ap (judged_len given.page_size) told.1 in
    let within : fault_of given (Some told.0) old.room bytes ≡ None =
    ap (λ (h : Option ℕ). fault_of given h old.room bytes) (sym told.1) ∙ ap (λ (x : Settings). fault_of x old.hello old.room bytes) (sym same)
    ∙ m.1.has_no_fault in
    let free : first_of (packet_faults given.page_size bytes) ≡ None = (faultless_within given.page_size old.room bytes within).0 in
    let judged : first_fault read bytes ≡ None = (judged_item given read r.front old bytes same g.has_hello g.has_room r.leads m.1).1 in
    let is : IsOpenPacket given.page_size p = record {
      is_head = record { has_length = len; has_no_fault = free };
      has_few = omega arith;
      has_offsets = refl;
      are_whole = All-nil (λ (x : NormalPage). length x.content ≡ given.page_size);
    } in
    let bytes_are : bytes_of p ++ [] ≡ bytes = append-nil (bytes ++ []) ∙ append-nil bytes in
    let begun : new.packet ≡ Some (bytes, 0) = ap (λ (x : PageHolder). x.packet) e in
    subst (λ (h : List ℕ). Gives given (text ++ taken) (so_far read (Some (record { head = h; pages = [] }))) new) (sym (ap head_kept begun))
    (gives_packet given (text ++ taken) r.front read p told.0 [] new g.is_page_size r.leads
    (grown_text text r.front old.kept taken r.has_text ∙ ap (λ (x : List ℕ). r.front ++ x) (sym bytes_are)) hello is judged large (λ _. refl)
    (ap (λ (x : PageHolder). x.given) e ∙ same) (fed_grown text taken old.fed new.fed fed g.has_fed) (ap (λ (x : PageHolder). x.kept) e)
    (ap (λ (x : PageHolder). x.found) e ∙ m.1.is_reading) begun (ap (λ (x : PageHolder). x.hello) e ∙ g.has_hello)
    (ap (λ (x : PageHolder). x.has_packets) e ∙ g.has_packets) (ap (λ (x : PageHolder). x.room) e ∙ g.has_room))

one_more : (a b : List ℕ) (i n k : ℕ) → a ≡ b → i ≡ n → k ≡ n + 1 → ◌≡◌ {A = Option (List ℕ × ℕ)} (Some (a, i + 1)) (Some (b, k))
one_more a b i n k same count len =
    let e : i + 1 ≡ k = omega (arith, count, len) in ap (λ (h : List ℕ). Some (h, i + 1)) same ∙ ap (λ (x : ℕ). Some (b, x)) e

page_bytes : (p : OpenPacket) (x : NormalPage) (kept taken : List ℕ) → x.content ≡ kept ++ taken
    → bytes_of (record p { pages = p.pages ++ x ∷ [] }) ++ [] ≡ (bytes_of p ++ kept) ++ taken
page_bytes p x kept taken e = append-nil (bytes_of (record p { pages = p.pages ++ x ∷ [] })) ∙ bytes_push p x ∙ ap (λ (y : List ℕ). bytes_of p ++ y) e
    ∙ sym (append_assoc (bytes_of p) kept taken)

-- a page that is read is added to the open packet
pub moves_page : (given : Settings) (text : List ℕ) (read : ChannelProgress) (packet : Option OpenPacket) (offset : ℕ) (page : PageContent) (taken : List ℕ)
    (old new : PageHolder) → Moves (event.Page offset page) taken old new → new.fed ≡ old.fed + length taken
    → Gives given text (so_far read packet) old
    → Gives given (text ++ taken) (with_came (event.Page offset page) new (so_far read packet)) new
moves_page given text read None offset page taken old new m fed g =
    absurd (let clash : None ≡ Some m.0 = sym g.has_packet ∙ m.1.is_begun in cc)
moves_page given text read (Some p) offset page taken old new m fed g =
    let large : 0 < given.page_size = size_large given.page_size g.is_page_size in
    let content = content_of page new in
    let step : IsPageOf offset content m.0 old new = m.1 in
    let e : new ≡ record old { packet = Some (m.0.0, m.0.1 + 1); kept = []; page = new.page; fed = new.fed } = step.leaves in
    let begun : Some m.0 ≡ Some (p.head, length p.pages) = sym step.is_begun ∙ g.has_packet in
    let same_packet : m.0 ≡ (p.head, length p.pages) = cc in
    let head : m.0.0 ≡ p.head = ap (λ (x : List ℕ × ℕ). x.0) same_packet in
    let count : m.0.1 ≡ length p.pages = ap (λ (x : List ℕ × ℕ). x.1) same_packet in
    let few : length p.pages < normal_count p.head = (let c = ap normal_count head in omega (arith, step.is_left, count, c)) in
    let x : NormalPage = record { offset = offset; content = content } in
    let q : OpenPacket = record p { pages = p.pages ++ x ∷ [] } in
    let is : IsOpenPacket given.page_size p = g.is_open in
    let whole : length content ≡ given.page_size = step.is_whole ∙ ap (λ (y : Settings). y.page_size) g.has_settings in
    let at : offset ≡ offset_at p.head (length p.pages) = step.has_offset ∙ ap (λ (h : List ℕ). offset_at h m.0.1) head ∙ ap (offset_at p.head) count in
    let open_q : IsOpenPacket given.page_size q = open_push given.page_size p x is few at whole in
    let r0 : Reads (from given) text read (bytes_of p ++ old.kept) old.found = still_open (from given) read text p old.kept old.found few g.reads in
    let told = known read.hello (λ none. step.has_hello (g.has_hello ∙ none)) in
    let size = same_size given read r0.front r0.leads in
    let free : first_fault read p.head ≡ None = head_free (from given) read told.0 text p old.kept old.found step.is_reading told.1
    (subst (λ (n : ℕ). IsOpenPacket n p) (sym size) is) r0 in
    let bytes_are : bytes_of q ++ [] ≡ (bytes_of p ++ old.kept) ++ taken = page_bytes p x old.kept taken m.2 in
    let len : length (p.pages ++ x ∷ []) ≡ length p.pages + 1 = omega (arith, length-append p.pages (x ∷ [])) in
    let now : new.packet ≡ Some (q.head, length q.pages) = ap (λ (y : PageHolder). y.packet) e
    ∙ one_more m.0.0 p.head m.0.1 (length p.pages) (length q.pages) head count len in
    gives_packet given (text ++ taken) r0.front read q told.0 [] new g.is_page_size r0.leads
    (grown_text text r0.front (bytes_of p ++ old.kept) taken r0.has_text
    ∙ ap (λ (y : List ℕ). r0.front ++ y) (sym bytes_are)) told.1 open_q free large (λ _. refl)
    (ap (λ (y : PageHolder). y.given) e ∙ g.has_settings) (fed_grown text taken old.fed new.fed fed g.has_fed) (ap (λ (y : PageHolder). y.kept) e)
    (ap (λ (y : PageHolder). y.found) e ∙ step.is_reading) now (ap (λ (y : PageHolder). y.hello) e ∙ g.has_hello)
    (ap (λ (y : PageHolder). y.has_packets) e ∙ g.has_packets) (ap (λ (y : PageHolder). y.room) e ∙ g.has_room)

-- ---- more is needed

short_none : (r : PageHolder) (o : Option (List ℕ × ℕ)) → o ≡ None → IsShort r o → length r.kept < judged_len r.given.page_size r.hello
short_none r None e short = short
short_none r (Some x) e short = absurd cc

short_some : (r : PageHolder) (o : Option (List ℕ × ℕ)) (x : List ℕ × ℕ) → o ≡ Some x → IsShort r o
    → (x.1 < normal_count x.0) × (length r.kept < r.given.page_size) × (r.hello ≢ None)
short_some r None x e short = absurd cc
short_some r (Some y) x e short = let same : y ≡ x = cc in
    subst (λ (z : List ℕ × ℕ). (z.1 < normal_count z.0) × (length r.kept < r.given.page_size) × (r.hello ≢ None)) same short

-- bytes that complete nothing are kept
pub moves_more : (given : Settings) (text : List ℕ) (read : ChannelProgress) (packet : Option OpenPacket) (taken : List ℕ) (old new : PageHolder)
    → Moves event.More taken old new → new.fed ≡ old.fed + length taken → Gives given text (so_far read packet) old
    → Gives given (text ++ taken) (so_far read packet) new
moves_more given text read None taken old new m fed g =
    let e : new ≡ record old { kept = old.kept ++ taken; page = new.page; fed = new.fed } = m.2 in
    let bytes = old.kept ++ taken in
    let r : Reads (from given) text read old.kept Reading = subst (λ (s : ChannelState). Reads (from given) text read old.kept s) m.0 g.reads in
    let kept : new.kept ≡ bytes = ap (λ (x : PageHolder). x.kept) e in
    let same : new.given ≡ given = ap (λ (x : PageHolder). x.given) e ∙ g.has_settings in
    let hello : new.hello ≡ read.hello = ap (λ (x : PageHolder). x.hello) e ∙ g.has_hello in
    let none : new.packet ≡ None = ap (λ (x : PageHolder). x.packet) e ∙ g.has_packet in
    let judged : judged_len new.given.page_size new.hello ≡ judged_len read.page_size read.hello = ap (λ (x : Settings). judged_len x.page_size new.hello) same
    ∙ ap (judged_len given.page_size) hello ∙ ap (λ (n : ℕ). judged_len n read.hello) (sym (same_size given read r.front r.leads)) in
    let short : length bytes < judged_len read.page_size read.hello = omega (arith, short_none new new.packet none m.1, ap length kept, judged) in
    let u : IsUnfinished read bytes = short_item read bytes short in
    record {
      is_page_size = g.is_page_size;
      has_settings = same;
      has_fed = fed_grown text taken old.fed new.fed fed g.has_fed;
      reads = reads_by (from given) (text ++ taken) (text ++ taken) read [] bytes new.kept Reading new.found refl kept
          (ap (λ (x : PageHolder). x.found) e ∙ m.0) (reads_grown (from given) text read old.kept taken r u);
      is_open = tt;
      is_reading = tt;
      has_packet = none;
      has_hello = hello;
      has_packets = ap (λ (x : PageHolder). x.has_packets) e ∙ g.has_packets;
      has_room = ap (λ (x : PageHolder). x.room) e ∙ g.has_room;
    }
moves_more given text read (Some p) taken old new m fed g =
    let e : new ≡ record old { kept = old.kept ++ taken; page = new.page; fed = new.fed } = m.2 in
    let kept : new.kept ≡ old.kept ++ taken = ap (λ (x : PageHolder). x.kept) e in
    let same : new.given ≡ given = ap (λ (x : PageHolder). x.given) e ∙ g.has_settings in
    let begun : new.packet ≡ Some (p.head, length p.pages) = ap (λ (x : PageHolder). x.packet) e ∙ g.has_packet in
    let short = short_some new new.packet (p.head, length p.pages) begun m.1 in
    let few : length p.pages < normal_count p.head = short.0 in
    let size : new.given.page_size ≡ given.page_size = ap (λ (x : Settings). x.page_size) same in
    let r : Reads (from given) text read (bytes_of p ++ old.kept) old.found = still_open (from given) read text p old.kept old.found few g.reads in
    let told = known read.hello (λ none. short.2 (ap (λ (x : PageHolder). x.hello) e ∙ g.has_hello ∙ none)) in
    let free : first_fault read p.head ≡ None = head_free (from given) read told.0 text p old.kept old.found m.0 told.1
    (subst (λ (n : ℕ). IsOpenPacket n p) (sym (same_size given read r.front r.leads)) g.is_open) r in
    gives_packet given (text ++ taken) r.front read p told.0 (old.kept ++ taken) new g.is_page_size r.leads
    (grown_text text r.front (bytes_of p ++ old.kept) taken r.has_text ∙ ap (λ (y : List ℕ). r.front ++ y) (append_assoc (bytes_of p) old.kept taken))
    told.1 g.is_open free (omega (arith, short.1, size, ap length kept)) (λ all. absurd (omega (arith, all, few)))
    same (fed_grown text taken old.fed new.fed fed g.has_fed) kept (ap (λ (y : PageHolder). y.found) e ∙ m.0) begun
    (ap (λ (y : PageHolder). y.hello) e ∙ g.has_hello) (ap (λ (y : PageHolder). y.has_packets) e ∙ g.has_packets)
    (ap (λ (y : PageHolder). y.room) e ∙ g.has_room)

-- ---- a packet that is complete

-- packets wait for a SYNC after a packet without one
pub sync_has_any : (c : ChannelProgress) (packet : List ℕ) (sync : Bool) → is_sync packet ≡ sync → has_any (after_packet c packet).packets ≡ not sync
sync_has_any c packet true e = ap (λ (b : Bool). has_any (by_sync c packet b).packets) e
sync_has_any c packet false e = ap (λ (b : Bool). has_any (by_sync c packet b).packets) e ∙ pushed c.packets packet

weight_said : (size : ℕ) (p : OpenPacket) → IsOpenPacket size p → weight (bytes_of p) ≡ weight p.head
weight_said size p is = let head = is.is_head.has_length in weight-front size p.head (flat_map (λ page. page.content) p.pages) (omega (arith, head))

-- the room after a packet
pub room_is : (waiting : Option ℕ) (c : ChannelProgress) (packet : List ℕ) (sync : Bool) → is_sync packet ≡ sync
    → next_room waiting (room_after waiting c.packets) packet ≡ room_after waiting (after_packet c packet).packets
room_is waiting c packet true e =
    ap (λ (b : Bool). cond b waiting (less_room (room_after waiting c.packets) (weight packet))) e ∙ sym (room_at_first waiting)
    ∙ sym (ap (λ (b : Bool). room_after waiting (by_sync c packet b).packets) e)
room_is waiting c packet false e =
    ap (λ (b : Bool). cond b waiting (less_room (room_after waiting c.packets) (weight packet))) e ∙ sym (room_push waiting c.packets packet)
    ∙ sym (ap (λ (b : Bool). room_after waiting (by_sync c packet b).packets) e)

-- a head has as much room as its packet
room_said : (waiting room : Option ℕ) (head packet : List ℕ) → is_sync head ≡ is_sync packet → weight head ≡ weight packet
    → next_room waiting room head ≡ next_room waiting room packet
room_said waiting room head packet syncs weighs = λ i. cond (syncs i) waiting (less_room room (weighs i))

-- a packet that ends is added to the channel's progress
pub moves_packet : (given : Settings) (text : List ℕ) (read : ChannelProgress) (packet : Option
    OpenPacket) (sync : Bool) (taken : List ℕ) (old new : PageHolder)
    → Moves (event.Packet sync) taken old new → new.fed ≡ old.fed + length taken → Gives given text (so_far read packet) old
    → Gives given (text ++ taken) (with_came (event.Packet sync) new (so_far read packet)) new
moves_packet given text read None sync taken old new m fed g =
    absurd (let clash : None ≡ Some (m.0, normal_count m.0) = sym g.has_packet ∙ m.1.is_begun in cc)
moves_packet given text read (Some p) sync taken old new m fed g =
    let step : IsLast sync m.0 old new = m.1 in
    let e : new ≡ record old {
      packet = None;
      kept = [];
      page = new.page;
      has_packets = not sync;
      room = next_room old.given.waiting old.room m.0;
    } = step.leaves in
    let begun : Some (m.0, normal_count m.0) ≡ Some (p.head, length p.pages) = sym step.is_begun ∙ g.has_packet in
    let same_packet : (m.0, normal_count m.0) ≡ (p.head, length p.pages) = cc in
    let head : m.0 ≡ p.head = ap (λ (x : List ℕ × ℕ). x.0) same_packet in
    let all : length p.pages ≡ normal_count p.head = sym (ap (λ (x : List ℕ × ℕ). x.1) same_packet) ∙ ap normal_count head in
    let bytes = bytes_of p in
    let done : Reads (from given) text (after_packet read bytes) old.kept old.found = complete_read (from given) read text p old.kept old.found all g.reads in
    let weighs : weight m.0 ≡ weight bytes = ap weight head ∙ sym (weight_said given.page_size p g.is_open) in
    let is_so : is_sync bytes ≡ sync = sync_said given.page_size p g.is_open ∙ ap is_sync (sym head) ∙ sym step.has_sync in
    record {
      is_page_size = g.is_page_size;
      has_settings = ap (λ (x : PageHolder). x.given) e ∙ g.has_settings;
      has_fed = fed_grown text taken old.fed new.fed fed g.has_fed;
      reads = reads_by (from given) text (text ++ taken) (after_packet read bytes) [] old.kept new.kept old.found new.found
          (ap (λ (x : List ℕ). text ++ x) m.2 ∙ append-nil text) (ap (λ (x : PageHolder). x.kept) e ∙ sym step.has_kept)
          (ap (λ (x : PageHolder). x.found) e) done;
      is_open = tt;
      is_reading = tt;
      has_packet = ap (λ (x : PageHolder). x.packet) e;
      has_hello = ap (λ (x : PageHolder). x.hello) e ∙ g.has_hello ∙ sym (hello_stays read bytes (is_sync bytes) refl);
      has_packets = ap (λ (x : PageHolder). x.has_packets) e ∙ sym (sync_has_any read bytes sync is_so);
      has_room = ap (λ (x : PageHolder). x.room) e ∙ ap (λ (x : Settings). next_room x.waiting old.room m.0) g.has_settings
          ∙ ap (λ (x : Option ℕ). next_room given.waiting x m.0) g.has_room
          ∙ room_said given.waiting (room_after given.waiting read.packets) m.0 bytes (sym step.has_sync ∙ sym is_so) weighs
          ∙ room_is given.waiting read bytes sync is_so;
    }

-- ---- a fault

-- bytes after the end of the reading are only counted
pub moves_over : (given : Settings) (text : List ℕ) (read : ChannelProgress) (packet : Option OpenPacket) (taken : List ℕ) (old new : PageHolder)
    → Moves event.Over taken old new → new.fed ≡ old.fed + length taken → Gives given text (so_far read packet) old
    → Gives given (text ++ taken) (so_far read packet) new
moves_over given text read packet taken old new (inl m) fed g =
    let same_text : text ≡ text ++ taken = sym (append-nil text) ∙ ap (λ (x : List ℕ). text ++ x) (sym m.1) in
    subst (λ (x : List ℕ). Gives given x (so_far read packet) new) same_text (subst (λ (x : PageHolder). Gives given text (so_far read packet) x) (sym m.0) g)
moves_over given text read (Some p) taken old new (inr m) fed g =
    absurd (let clash : None ≡ Some (p.head, length p.pages) = sym m.1.has_none_begun ∙ g.has_packet in cc)
moves_over given text read None taken old new (inr m) fed g =
    let bytes = old.kept ++ taken in
    let e : new ≡ record old { found = Bad m.0; kept = bytes; fed = new.fed } = m.1.leaves in
    let r : Reads (from given) text read old.kept Reading =
    subst (λ (s : ChannelState). Reads (from given) text read old.kept s) m.1.is_reading g.reads in
    let len : length bytes ≡ judged_len read.page_size read.hello = m.1.has_length ∙ ap (λ (x : Settings). judged_len x.page_size old.hello) g.has_settings
    ∙ ap (λ (n : ℕ). judged_len n old.hello) (sym (same_size given read r.front r.leads)) ∙ ap (judged_len read.page_size) g.has_hello in
    let due : first_fault read bytes ≡ Some m.0 = fault_same given read r.front old.hello old.room bytes r.leads g.has_hello g.has_room
    ∙ ap (λ (x : Settings). fault_of x old.hello old.room bytes) (sym g.has_settings) ∙ m.1.has_fault in
    record {
      is_page_size = g.is_page_size;
      has_settings = ap (λ (x : PageHolder). x.given) e ∙ g.has_settings;
      has_fed = fed_grown text taken old.fed new.fed fed g.has_fed;
      reads = reads_by (from given) (text ++ taken) (text ++ taken) read [] bytes new.kept (Bad m.0) new.found refl (ap (λ (x : PageHolder). x.kept) e)
          (ap (λ (x : PageHolder). x.found) e) (reads_fault (from given) text read old.kept taken m.0 r (omega (arith, len)) due);
      is_open = tt;
      is_reading = tt;
      has_packet = ap (λ (x : PageHolder). x.packet) e ∙ g.has_packet;
      has_hello = ap (λ (x : PageHolder). x.hello) e ∙ g.has_hello;
      has_packets = ap (λ (x : PageHolder). x.has_packets) e ∙ g.has_packets;
      has_room = ap (λ (x : PageHolder). x.room) e ∙ g.has_room;
    }

-- ---- one call

moves : (given : Settings) (text : List ℕ) (read : ChannelProgress) (packet : Option OpenPacket) (answer : ChannelEvent) (taken : List ℕ) (old new : PageHolder)
    → Moves answer taken old new → new.fed ≡ old.fed + length taken → Gives given text (so_far read packet) old
    → Gives given (text ++ taken) (with_came answer new (so_far read packet)) new
moves given text read packet (event.Hello id) taken old new m fed g = moves_hello given text read packet id taken old new m fed g
moves given text read packet event.Head taken old new m fed g = moves_head given text read packet taken old new m fed g
moves given text read packet (event.Page offset page) taken old new m fed g = moves_page given text read packet offset page taken old new m fed g
moves given text read packet (event.Packet sync) taken old new m fed g = moves_packet given text read packet sync taken old new m fed g
moves given text read packet event.More taken old new m fed g = moves_more given text read packet taken old new m fed g
moves given text read packet event.Over taken old new m fed g = moves_over given text read packet taken old new m fed g

-- a step of the reader gives what it returns of the bytes that it took
pub steps_give : (answer : ChannelEvent) (count : ℕ) (piece : List ℕ) (old new : PageHolder) → Steps answer count piece old new
    → GivesOn (take count piece) answer old new
steps_give answer count piece old new s = λ given text given_so_far g.
    let len : length (take count piece) ≡ count = length-take-le count piece s.takes in
    let fed : new.fed ≡ old.fed + length (take count piece) = omega (arith, s.has_fed, len) in
    moves given text given_so_far.read given_so_far.packet answer (take count piece) old new s.moves fed g

-- what comes after what was given
comes : (given : Settings) (text : List ℕ) (read : ChannelProgress) (packet : Option OpenPacket) (answer : ChannelEvent) (taken : List ℕ) (old new : PageHolder)
    → Moves answer taken old new → Gives given text (so_far read packet) old → Comes given.page_size answer (so_far read packet)
comes given text read packet (event.Hello id) taken old new m g = (sym g.has_hello ∙ m.0, none_kept packet (sym g.has_packet ∙ m.1.has_none_begun))
comes given text read packet event.Head taken old new m g = (λ none. m.0 (g.has_hello ∙ none), none_kept packet (sym g.has_packet ∙ m.1.has_none_begun))
comes given text read None (event.Page offset page) taken old new m g = absurd (let clash : None ≡ Some m.0 = sym g.has_packet ∙ m.1.is_begun in cc)
comes given text read (Some p) (event.Page offset page) taken old new m g =
    let begun : Some m.0 ≡ Some (p.head, length p.pages) = sym m.1.is_begun ∙ g.has_packet in
    let same : m.0 ≡ (p.head, length p.pages) = cc in
    let head = ap (λ (x : List ℕ × ℕ). normal_count x.0) same in
    let count = ap (λ (x : List ℕ × ℕ). x.1) same in omega (arith, m.1.is_left, head, count)
comes given text read None (event.Packet sync) taken old new m g =
    absurd (let clash : None ≡ Some (m.0, normal_count m.0) = sym g.has_packet ∙ m.1.is_begun in cc)
comes given text read (Some p) (event.Packet sync) taken old new m g =
    let begun : Some (m.0, normal_count m.0) ≡ Some (p.head, length p.pages) = sym m.1.is_begun ∙ g.has_packet in
    let same : (m.0, normal_count m.0) ≡ (p.head, length p.pages) = cc in
    let head : m.0 ≡ p.head = ap (λ (x : List ℕ × ℕ). x.0) same in
    let all : length p.pages ≡ normal_count p.head = sym (ap (λ (x : List ℕ × ℕ). x.1) same) ∙ ap normal_count head in
    let told : is_sync p.head ≡ sync = ap is_sync (sym head) ∙ sym m.1.has_sync in
    subst (Completes given.page_size p) told (completes given.page_size p g.is_open all)
comes given text read packet event.More taken old new m g = tt
comes given text read packet event.Over taken old new m g = tt

-- a step of the reader returns what comes next of the bytes
pub steps_come : (answer : ChannelEvent) (count : ℕ) (piece : List ℕ) (old new : PageHolder) → Steps answer count piece old new
    → HolderTells old (λ given text given_so_far. Comes given.page_size answer given_so_far)
steps_come answer count piece old new s = λ given text given_so_far g.
    comes given text given_so_far.read given_so_far.packet answer (take count piece) old new s.moves g

-- nothing is held back
needs : (answer : ChannelEvent) (taken : List ℕ) (old new : PageHolder) → Moves answer taken old new → NeedsMore answer new
needs (event.Hello id) taken old new m = tt
needs event.Head taken old new m = tt
needs (event.Page offset page) taken old new m = tt
needs (event.Packet sync) taken old new m = tt
needs event.More taken old new m = m.1
needs event.Over taken old new m = tt

-- a reader that asks for more needs more
pub steps_need : (answer : ChannelEvent) (count : ℕ) (piece : List ℕ) (old new : PageHolder) → Steps answer count piece old new → NeedsMore answer new
steps_need answer count piece old new s = needs answer (take count piece) old new s.moves
