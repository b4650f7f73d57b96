-- A packet that is read page by page: its bytes so far, and what it says once it is complete.
use Rattle.std.proofs.Common.{◌≡◌, ◌≢◌, ℕ, zero, suc, ◌+◌, ◌-◌, ◌*◌, ◌<◌, ◌≤◌, Bool, true, false, cond, eqb, List, [], ◌∷◌, ◌++◌}
use Rattle.std.proofs.Common.{length, get_or, take, drop, map, Option, Some, None, refl, sym, ap, subst, ◌∙◌, append_assoc, arith}
use Rattle.std.specs.Prelude.{slice_range}
use Rattle.std.specs.List.{All, flat_map, range_with_len}
use Rattle.std.proofs.Math.Nat.{mul-le-mul_left}
use Rattle.std.proofs.lemmas.Bool.{eqb-true, lt-leb, ne_eqb}
use Rattle.std.proofs.lemmas.Bool.Decides.{Decides-eqb}
use Rattle.std.proofs.lemmas.List.{append-nil, length-append, map-append, take_at}
use Rattle.std.proofs.lemmas.List.Elements.{All-head, All-tail, All-push}
use Rattle.std.proofs.lemmas.Grind.{flat_map-append}
use Rattle.mig_packet.specs.declared.state.ChannelState.{ChannelState}
use Rattle.mig_packet.specs.declared.state.ChannelState.TheVariants.{Reading, Bad}
use Rattle.mig_packet.specs.declared.fault.ChannelFault.{ChannelFault}
use Rattle.mig_packet.specs.PageSize.{head_len}
use Rattle.mig_packet.specs.Faults.{first_of}
use Rattle.mig_packet.specs.Packet.{NormalPage, fields_of, IsPacketText, normal_count, is_sync, offset_at, content_at, packet_faults}
use Rattle.mig_packet.specs.Progress.{ChannelProgress, judged_len, item_len, faults, first_fault, after_packet, after_item, after}
use Rattle.mig_packet.specs.Reading.{IsItem, Front, Ends, Reads}
use Rattle.mig_packet.specs.Reader.{IsUnfinished}
use Rattle.mig_packet.specs.Paging.{OpenPacket, IsOpenPacket, bytes_of, is_complete, read_to, open_bytes, Completes}
use Rattle.mig_packet.proofs.Places.{range-past, be32_at-front}
use Rattle.mig_packet.proofs.Judging.{packet_faults-front, normal_count-front, free_text}
use Rattle.mig_packet.specs.Waiting.{room_after, packet_faults_within}
use Rattle.mig_packet.proofs.Waiting.{faults_within-front}
use Rattle.mig_packet.proofs.Fronts.{due_is, Front-push}
use Rattle.mig_packet.proofs.Feeding.{reads_short}
use Rattle.mig_packet.proofs.Heads.{be64_at-front}
use Rattle.mig_packet.proofs.ReadBack.{page_same}

-- ---- a reading that goes on

positive : (p : ℕ) (h : Option ℕ) → 0 < judged_len p h
positive p None = omega arith
positive p (Some id) = omega arith

-- no bytes are a part of any item
nothing : (c : ChannelProgress) → IsUnfinished c []
nothing c = record {
  has_no_fault = ap (λ (b : Bool). cond b (first_fault c []) None) (lt-leb (judged_len c.page_size c.hello) 0 (positive c.page_size c.hello));
  is_short = λ le. absurd (omega (arith, le, positive c.page_size c.hello));
}

-- what is left has grown, and is still no whole item
pub reads_grown : (from : ChannelProgress) (text : List ℕ) (c : ChannelProgress) (rest more : List ℕ) → Reads from text c rest Reading
    → IsUnfinished c (rest ++ more) → Reads from (text ++ more) c (rest ++ more) Reading
reads_grown from text c rest more r u = record {
  front = r.front;
  has_text = ap (λ (x : List ℕ). x ++ more) r.has_text ∙ append_assoc r.front rest more;
  leads = r.leads;
  ends = (reads_short c (rest ++ more) u).ends;
}

-- it is a whole item now
pub reads_item : (from : ChannelProgress) (text : List ℕ) (c : ChannelProgress) (rest more : List ℕ) → Reads from text c rest Reading
    → IsItem c.page_size c.hello (rest ++ more) → first_fault c (rest ++ more) ≡ None → Reads from (text ++ more) (after c (rest ++ more)) [] Reading
reads_item from text c rest more r is none =
    let item = rest ++ more in
    record {
      front = r.front ++ item;
      has_text = ap (λ (x : List ℕ). x ++ more) r.has_text ∙ append_assoc r.front rest more ∙ sym (append-nil (r.front ++ item));
      leads = Front-push from c r.front item r.leads is none;
      ends = (reads_short (after c item) [] (nothing (after c item))).ends;
    }

-- it has a fault now
pub reads_fault : (from : ChannelProgress) (text : List ℕ) (c : ChannelProgress) (rest more : List ℕ) (fault : ChannelFault) → Reads from text c rest Reading
    → judged_len c.page_size c.hello ≤ length (rest ++ more) → first_fault c (rest ++ more) ≡ Some fault
    → Reads from (text ++ more) c (rest ++ more) (Bad fault)
reads_fault from text c rest more fault r le is = record {
  front = r.front;
  has_text = ap (λ (x : List ℕ). x ++ more) r.has_text ∙ append_assoc r.front rest more;
  leads = r.leads;
  ends = due_is c (rest ++ more) le ∙ is;
}

-- ---- the bytes of a packet that was begun

abbrev IsWholePage : ℕ → NormalPage → Type 0
IsWholePage size page = length page.content ≡ size

abbrev contents : List NormalPage → List ℕ
contents pages = flat_map (λ page. page.content) pages

contents_length : (size : ℕ) (pages : List NormalPage) → All (IsWholePage size) pages → length (contents pages) ≡ length pages * size
contents_length size [] sizes = omega arith
contents_length size (x ∷ pages) sizes =
    let here : length x.content ≡ size = All-head (IsWholePage size) x pages sizes in
    let others : length (contents pages) ≡ length pages * size = contents_length size pages (All-tail (IsWholePage size) x pages sizes) in
    let one : suc (length pages) * size ≡ size + length pages * size = grind arith in
    omega (arith, here, others, one, length-append x.content (contents pages))

-- an open packet's bytes are its head and the pages that were read
pub bytes_length : (size : ℕ) (p : OpenPacket) → IsOpenPacket size p → length (bytes_of p) ≡ head_len size + length p.pages * size
bytes_length size p is =
    let head = is.is_head.has_length in omega (arith, head, contents_length size p.pages is.are_whole, length-append p.head (contents p.pages))

-- a page more fits
page_fits : (size n count : ℕ) → n < count → n * size + size ≤ count * size
page_fits size n count lt =
    let grows : size * (n + 1) ≤ size * count = mul-le-mul_left size (omega arith) in
    let left : size * (n + 1) ≡ n * size + size = grind arith in
    let right : size * count ≡ count * size = grind arith in omega (arith, grows, left, right)

-- ---- a packet that was begun, as bytes that are left

abbrev behind : OpenPacket → List ℕ → List ℕ
behind p kept = contents p.pages ++ kept

split : (p : OpenPacket) (kept : List ℕ) → bytes_of p ++ kept ≡ p.head ++ behind p kept
split p kept = append_assoc p.head (contents p.pages) kept

head_long : (size : ℕ) (p : OpenPacket) → IsOpenPacket size p → head_len size ≤ length p.head
head_long size p is = let head = is.is_head.has_length in omega (arith, head)

-- what may be wrong with a packet that was begun is what may be wrong with its head
faults_of_head : (c : ChannelProgress) (id : ℕ) (p : OpenPacket) (kept : List ℕ) → c.hello ≡ Some id → IsOpenPacket c.page_size p
    → first_fault c (bytes_of p ++ kept) ≡ first_fault c p.head
faults_of_head c id p kept e is =
    let room = room_after c.waiting c.packets in
    ap (λ (h : Option ℕ). first_of (faults c h (bytes_of p ++ kept))) e
    ∙ ap (λ (x : List ℕ). first_of (packet_faults_within c.page_size room x)) (split p kept)
    ∙ ap first_of (faults_within-front c.page_size room p.head (behind p kept) (head_long c.page_size p is))
    ∙ sym (ap (λ (h : Option ℕ). first_of (faults c h p.head)) e)

-- where pages are missing, the head was judged
pub head_free : (from c : ChannelProgress) (id : ℕ) (text : List ℕ) (p : OpenPacket) (kept : List ℕ) (s : ChannelState) → s ≡ Reading → c.hello ≡ Some id
    → IsOpenPacket c.page_size p → Reads from text c (bytes_of p ++ kept) s → first_fault c p.head ≡ None
head_free from c id text p kept s reading e is r =
    let size = c.page_size in
    let ends : Ends c (bytes_of p ++ kept) Reading = subst (λ (x : ChannelState). Ends c (bytes_of p ++ kept) x) reading r.ends in
    let judged : judged_len size c.hello ≡ head_len size = ap (judged_len size) e in
    let long : head_len size ≤ length (bytes_of p ++ kept) = omega (arith, length-append (bytes_of p) kept, bytes_length size p is) in
    sym (faults_of_head c id p kept e is) ∙ sym (due_is c (bytes_of p ++ kept) (omega (arith, judged, long))) ∙ ends.0

tells_len : (c : ChannelProgress) (id : ℕ) (p : OpenPacket) (kept : List ℕ) → c.hello ≡ Some id → IsOpenPacket c.page_size p
    → item_len c.page_size c.hello (bytes_of p ++ kept) ≡ head_len c.page_size + normal_count p.head * c.page_size
tells_len c id p kept e is = ap (λ (h : Option ℕ). item_len c.page_size h (bytes_of p ++ kept)) e
    ∙ ap (λ (x : List ℕ). head_len c.page_size + normal_count x * c.page_size) (split p kept)
    ∙ ap (λ (n : ℕ). head_len c.page_size + n * c.page_size) (normal_count-front c.page_size p.head (behind p kept) (head_long c.page_size p is))

unfinished_packet : (c : ChannelProgress) (id : ℕ) (p : OpenPacket) (kept : List ℕ) → c.hello ≡ Some id → IsOpenPacket c.page_size p
    → first_fault c p.head ≡ None → length p.pages < normal_count p.head → length kept < c.page_size → IsUnfinished c (bytes_of p ++ kept)
unfinished_packet c id p kept e is free few short =
    let size = c.page_size in
    let len : length (bytes_of p ++ kept) ≡ head_len size + length p.pages * size + length kept =
    omega (arith, length-append (bytes_of p) kept, bytes_length size p is) in
    let judged : judged_len size c.hello ≡ head_len size = ap (judged_len size) e in
    record {
      has_no_fault = due_is c (bytes_of p ++ kept) (omega (arith, len, judged)) ∙ faults_of_head c id p kept e is ∙ free;
      is_short = λ _. omega (arith, len, tells_len c id p kept e is, page_fits size (length p.pages) (normal_count p.head) few, short);
    }

whole_packet : (c : ChannelProgress) (id : ℕ) (p : OpenPacket) → c.hello ≡ Some id → IsOpenPacket c.page_size p → length p.pages ≡ normal_count p.head
    → IsItem c.page_size c.hello (bytes_of p)
whole_packet c id p e is all =
    let size = c.page_size in
    let told : item_len size c.hello (bytes_of p) ≡ head_len size + normal_count p.head * size =
    ap (item_len size c.hello) (sym (append-nil (bytes_of p))) ∙ tells_len c id p [] e is in
    bytes_length size p is ∙ ap (λ (n : ℕ). head_len size + n * size) all ∙ sym told

after_known : (c : ChannelProgress) (id : ℕ) (item : List ℕ) → c.hello ≡ Some id → after c item ≡ after_packet c item
after_known c id item e = ap (λ (h : Option ℕ). after_item c h item) e

-- How bytes stand that end in a packet that was begun.
pub packet_reads : (from c : ChannelProgress) (id : ℕ) (front text : List ℕ) (p : OpenPacket) (kept : List ℕ) → c.hello ≡ Some id → Front from front c
    → text ≡ front ++ (bytes_of p ++ kept) → IsOpenPacket c.page_size p → first_fault c p.head ≡ None → length kept < c.page_size
    → (length p.pages ≡ normal_count p.head → kept ≡ [])
    → Reads from text (read_to c (Some p)) (open_bytes (Some p) ++ kept) Reading
packet_reads from c id front text p kept e leads has_text is free short none =
    elim (is_complete p) as (λ b. (is_complete p ≡ b) → Reads from text (cond b (after_packet c (bytes_of p)) c) (cond b [] (bytes_of p) ++ kept) Reading) [
      | true ↦ λ complete.
          let all : length p.pages ≡ normal_count p.head = eqb-true (length p.pages) (normal_count p.head) complete in
          let item = bytes_of p in
          let whole : text ≡ front ++ item = has_text ∙ ap (λ (x : List ℕ). front ++ (item ++ x)) (none all)
          ∙ ap (λ (x : List ℕ). front ++ x) (append-nil item) in
          let whole_free : first_fault c item ≡ None = ap (first_fault c) (sym (append-nil item)) ∙ faults_of_head c id p [] e is ∙ free in
          let pushed : Front from (front ++ item) (after c item) = Front-push from c front item leads (whole_packet c id p e is all) whole_free in
          let d = after_packet c item in
          record {
            front = front ++ item;
            has_text = whole ∙ sym (append-nil (front ++ item)) ∙ ap (λ (x : List ℕ). (front ++ item) ++ x) (sym (none all));
            leads = subst (λ (x : ChannelProgress). Front from (front ++ item) x) (after_known c id item e) pushed;
            ends = subst (λ (x : List ℕ). Ends d x Reading) (sym (none all)) (reads_short d [] (nothing d)).ends;
          }
      | false ↦ λ incomplete.
          let few : length p.pages < normal_count p.head =
          (let other : length p.pages ≢ normal_count p.head = λ all. absurd (let t = (Decides-eqb (length p.pages) (normal_count p.head)).1 all in cc) in
          let most = is.has_few in omega (arith, most, other)) in
          record {
            front = front;
            has_text = has_text;
            leads = leads;
            ends = (reads_short c (bytes_of p ++ kept) (unfinished_packet c id p kept e is free few short)).ends;
          }
    ] refl

-- if pages are left, what was read is still before the packet
pub still_open : (from c : ChannelProgress) (text : List ℕ) (p : OpenPacket) (kept : List ℕ) (s : ChannelState) → length p.pages < normal_count p.head
    → Reads from text (read_to c (Some p)) (open_bytes (Some p) ++ kept) s → Reads from text c (bytes_of p ++ kept) s
still_open from c text p kept s few r =
    let incomplete : is_complete p ≡ false =
    (let other : length p.pages ≢ normal_count p.head = omega (arith, few) in ne_eqb (length p.pages) (normal_count p.head) other) in
    subst (λ (b : Bool). Reads from text (cond b (after_packet c (bytes_of p)) c) (cond b [] (bytes_of p) ++ kept) s) incomplete r

-- if none is left, the packet was read
pub complete_read : (from c : ChannelProgress) (text : List ℕ) (p : OpenPacket) (kept : List ℕ) (s : ChannelState) → length p.pages ≡ normal_count p.head
    → Reads from text (read_to c (Some p)) (open_bytes (Some p) ++ kept) s → Reads from text (after_packet c (bytes_of p)) kept s
complete_read from c text p kept s all r =
    let complete : is_complete p ≡ true = (Decides-eqb (length p.pages) (normal_count p.head)).1 all in
    subst (λ (b : Bool). Reads from text (cond b (after_packet c (bytes_of p)) c) (cond b [] (bytes_of p) ++ kept) s) complete r

-- ---- a page more

range_push : (a n : ℕ) → range_with_len a (suc n) ≡ range_with_len a n ++ (a + n) ∷ []
range_push a zero = let e : a ≡ a + 0 = omega arith in ap (λ (x : ℕ). x ∷ []) e
range_push a (suc n) =
    let e : (a + 1) + n ≡ a + suc n = omega arith in
    ap (λ (x : List ℕ). a ∷ x) (range_push (a + 1) n ∙ ap (λ (x : ℕ). range_with_len (a + 1) n ++ x ∷ []) e)

abbrev with_one : OpenPacket → NormalPage → OpenPacket
with_one p x = record p { pages = p.pages ++ x ∷ [] }

-- a packet stays open if its next page is read
pub open_push : (size : ℕ) (p : OpenPacket) (x : NormalPage) → IsOpenPacket size p → length p.pages < normal_count p.head
    → x.offset ≡ offset_at p.head (length p.pages) → length x.content ≡ size → IsOpenPacket size (with_one p x)
open_push size p x is few offset whole =
    let n = length p.pages in
    let len : length (p.pages ++ x ∷ []) ≡ suc n = omega (arith, length-append p.pages (x ∷ [])) in
    let last : n ≡ 0 + n = omega arith in
    record {
      is_head = is.is_head;
      has_few = omega (arith, len, few);
      has_offsets = map-append (λ (y : NormalPage). y.offset) p.pages (x ∷ []) ∙ ap (λ (l : List ℕ). l ++ x.offset ∷ []) is.has_offsets
          ∙ ap (λ (o : ℕ). map (offset_at p.head) (range_with_len 0 n) ++ o ∷ []) offset
          ∙ sym (map-append (offset_at p.head) (range_with_len 0 n) (n ∷ []))
          ∙ ap (map (offset_at p.head)) (ap (λ (k : ℕ). range_with_len 0 n ++ k ∷ []) last ∙ sym (range_push 0 n) ∙ ap (range_with_len 0) (sym len));
      are_whole = All-push (IsWholePage size) p.pages x is.are_whole whole;
    }

-- a page that is read follows the bytes of its packet
pub bytes_push : (p : OpenPacket) (x : NormalPage) → bytes_of (with_one p x) ≡ bytes_of p ++ x.content
bytes_push p x =
    ap (λ (l : List ℕ). p.head ++ l) (flat_map-append (λ (y : NormalPage). y.content) p.pages (x ∷ [])
    ∙ ap (λ (l : List ℕ). contents p.pages ++ l) (append-nil x.content)) ∙ sym (append_assoc p.head (contents p.pages) x.content)

-- ---- what a complete packet says

abbrev page_in : ℕ → List ℕ → (ℕ → ℕ) → ℕ → NormalPage
page_in size bytes offset i = record { offset = offset i; content = content_at size bytes i }

-- the content after this many bytes
content_there : (size i : ℕ) (bytes before content rest : List ℕ) → length before ≡ head_len size + i * size → length content ≡ size
    → bytes ≡ before ++ (content ++ rest) → content_at size bytes i ≡ content
content_there size i bytes before content rest len whole e =
    let m : ℕ = head_len size + i * size in
    let m0 : m ≡ m + 0 = omega arith in
    let long : size - 0 ≡ size = omega arith in
    ap (λ (x : List ℕ). slice_range x m (m + size)) e
    ∙ ap (λ (k : ℕ). slice_range (before ++ (content ++ rest)) k (m + size)) m0
    ∙ range-past before (content ++ rest) m 0 size len
    ∙ ap (λ (k : ℕ). take k (content ++ rest)) long ∙ take_at content rest size whole

pages_said : (size k : ℕ) (offset : ℕ → ℕ) (bytes before : List ℕ) (pages : List NormalPage) → length before ≡ head_len size + k * size
    → bytes ≡ before ++ contents pages → All (IsWholePage size) pages → map (λ page. page.offset) pages ≡ map offset (range_with_len k (length pages))
    → map (page_in size bytes offset) (range_with_len k (length pages)) ≡ pages
pages_said size k offset bytes before [] len e sizes offsets = refl
pages_said size k offset bytes before (x ∷ pages) len e sizes offsets =
    let here : length x.content ≡ size = All-head (IsWholePage size) x pages sizes in
    let first : x.offset ≡ offset k = ap (λ (l : List ℕ). get_or l 0 0) offsets in
    let others : map (λ page. page.offset) pages ≡ map offset (range_with_len (k + 1) (length pages)) = ap (drop 1) offsets in
    let content : content_at size bytes k ≡ x.content = content_there size k bytes before x.content (contents pages) len here e in
    let next : length (before ++ x.content) ≡ head_len size + (k + 1) * size =
    (let one : (k + 1) * size ≡ size + k * size = grind arith in omega (arith, one, len, here, length-append before x.content)) in
    let rest = pages_said size (k + 1) offset bytes (before ++ x.content) pages next (e ∙ sym (append_assoc before x.content (contents pages)))
    (All-tail (IsWholePage size) x pages sizes) others in
    ap (λ (l : List NormalPage). page_in size bytes offset k ∷ l) rest
    ∙ ap (λ (y : NormalPage). y ∷ pages) (page_same (offset k) x.offset (content_at size bytes k) x.content (sym first) content)

-- ---- the head's fields are the packet's

map_same : (k n : ℕ) (f g : ℕ → ℕ) → ((i : ℕ) → k ≤ i → i < k + n → f i ≡ g i) → map f (range_with_len k n) ≡ map g (range_with_len k n)
map_same k zero f g same = refl
map_same k (suc n) f g same =
    ap (λ (x : ℕ). x ∷ map f (range_with_len (k + 1) n)) (same k (omega arith) (omega arith))
    ∙ ap (λ (l : List ℕ). g k ∷ l) (map_same (k + 1) n f g (λ i le lt. same i (omega (arith, le)) (omega (arith, lt))))

-- an open packet is a sync packet if its head is one
pub sync_said : (size : ℕ) (p : OpenPacket) → IsOpenPacket size p → is_sync (bytes_of p) ≡ is_sync p.head
sync_said size p is = ap (λ (n : ℕ). eqb n 1) (be32_at-front 8 p.head (contents p.pages) (omega (arith, head_long size p is)))

-- A packet all of whose pages were given says them.
pub completes : (size : ℕ) (p : OpenPacket) → IsOpenPacket size p → length p.pages ≡ normal_count p.head → Completes size p (is_sync p.head)
completes size p is all =
    let bytes = bytes_of p in
    let long = head_long size p is in
    let count : normal_count bytes ≡ normal_count p.head = normal_count-front size p.head (contents p.pages) long in
    let free : first_of (packet_faults size bytes) ≡ None = ap first_of (packet_faults-front size p.head (contents p.pages) long) ∙ is.is_head.has_no_fault in
    let text : IsPacketText size bytes =
    free_text size bytes free (bytes_length size p is ∙ ap (λ (n : ℕ). head_len size + n * size) (all ∙ sym count)) in
    let few = text.has_few in
    let n = length p.pages in
    let offsets : map (offset_at p.head) (range_with_len 0 n) ≡ map (offset_at bytes) (range_with_len 0 n) = map_same 0 n (offset_at p.head) (offset_at bytes)
    (λ i le lt. sym (be64_at-front (320 + 8 * i) p.head (contents p.pages) (omega (arith, lt, all, count, few, long)))) in
    let zero_pages : head_len size + 0 * size ≡ head_len size = omega arith in
    let head = is.is_head.has_length in
    let pages : map (page_in size bytes (offset_at bytes)) (range_with_len 0 n) ≡ p.pages =
    pages_said size 0 (offset_at bytes) bytes p.head p.pages (head ∙ sym zero_pages) refl is.are_whole (is.has_offsets ∙ offsets) in
    record {
      said = fields_of size bytes;
      is_packet = (text, refl);
      has_sync = sync_said size p is;
      has_pages = ap (λ (k : ℕ). map (page_in size bytes (offset_at bytes)) (range_with_len 0 k)) (count ∙ sym all) ∙ pages;
    }
