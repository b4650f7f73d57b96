-- A reader that takes the parts of a packet, one after another.
use Rattle.std.proofs.Common.{ℕ, ◌≡◌, ◌+◌, ◌*◌, ◌^◌, ◌≤◌, ◌<◌, ◌/◌, Bool, false, List, [], ◌∷◌, ◌++◌, length, map, take, get_or, Option, Some, None, refl, sym}
use Rattle.std.proofs.Common.{ap, subst, ◌∙◌, append_assoc, arith, Bor}
use Rattle.std.specs.Prelude.{IfSome}
use Rattle.std.specs.List.{All, flat_map, range_with_len}
use Rattle.std.specs.Option.{option_map}
use Rattle.std.proofs.lemmas.Nat.{mul-le}
use Rattle.std.proofs.lemmas.List.{append-nil, take_more, flat_map_more, length-map, length-append, get_or-map}
use Rattle.std.proofs.lemmas.List.Elements.{All-head, All-tail}
use Rattle.mig_mem.specs.Lent.{lent_bytes}
use Rattle.std.proofs.Math.Seq.{take-length}
use Rattle.std.proofs.lemmas.List.FromFn.{map-range_with_len_more}
use Rattle.mig_mem.specs.RamTable.{RamTable}
use Rattle.mig_mem.specs.Place.{place_at}
use Rattle.mig_mem.specs.Image.{Page, Image, with_page}
use Rattle.mig_mem.specs.Round.{with_round}
use Rattle.mig_packet.specs.declared.page_reader.ChannelEvent.{ChannelEvent}
use Rattle.mig_packet.specs.declared.page_reader.ChannelEvent.TheVariants as event
use Rattle.mig_packet.specs.declared.page_reader.PageContent.TheVariants as page_content
use Rattle.mig_packet.specs.Packet.{normal_count, offset_at}
use Rattle.mig_packet.specs.Reading.{Settings}
use Rattle.mig_packet.specs.Paging.{GivenSoFar, PageHolder, Gives, GivesOn, HolderTells, Comes, with_came}
use Rattle.mig_assemble.proofs.Putting.{put_page_more}
use Rattle.mig_answer.specs.Texts.{Text, with_piece}
use Rattle.mig_in_place.specs.declared.main_stream.SizeList.{SizeList}
use Rattle.mig_in_place.specs.Round.{KeptRound}
use Rattle.mig_in_place.specs.Sources.{AtChannel, HoldsAt, AddsHead, WritesInto, block_in, zeros_begun}
use Rattle.mig_in_place.specs.TakenPackets.{ArePages, AddsPacket, TakesParts, normal_page, packet_bytes}
use Rattle.mig_in_place.proofs.Channels.{kept}
use Rattle.mig_in_place.proofs.Lying.{adds_page}
use Rattle.mig_in_place.proofs.Midway.{Amid, AmidBehind, HoldsBehind, into_midst, head_came, page_came, packet_came}

-- the bytes of the head and of the first pages
abbrev bytes_to : List ℕ → List (List ℕ) → ℕ → List ℕ
bytes_to head contents i = head ++ flat_map (λ content. content) (take i contents)

-- the pages of zeros and the first normal pages
abbrev pages_to : RamTable → List ℕ → List (List ℕ) → ℕ → List Page
pages_to table head contents i = zeros_begun table head ++ map (normal_page table head contents) (range_with_len 0 i)

-- So many pages of the packet were taken: a load in which the channel takes it has them.
pub record IsTaking (head : List ℕ) (contents : List (List ℕ)) (i : ℕ) (old now : PageHolder) : Type 0 where
  pub has_packet : now.packet ≡ Some (head, i)
  pub none_kept : now.kept ≡ []
  pub same_given : now.given ≡ old.given
  pub has_fed : now.fed ≡ old.fed + length head + i * old.given.page_size
  pub same_ended : now.ended ≡ old.ended
  pub gives : (given : Settings) (text : List ℕ) (so_far : GivenSoFar) → Gives given text so_far old
      → (gave : GivenSoFar) × Gives given (text ++ bytes_to head contents i) gave now
  pub goes : (f : AtChannel) (l : SizeList) (text : Text) (so_far : GivenSoFar) (r after : KeptRound) (memory : Image)
      → AddsPacket f l text so_far (kept old None false) r memory head after
      → AmidBehind f l text (bytes_to head contents i) (kept now (Some (block_in memory.table head)) false) after
      (with_round memory (pages_to memory.table head contents i))

same_head : (o : Option (List ℕ × ℕ)) (head h : List ℕ) (i : ℕ) → o ≡ Some (head, i) → option_map (λ (packet : List ℕ × ℕ). packet.0) o ≡ Some h → head ≡ h
same_head o head h i is e =
    let both : Some head ≡ Some h = sym (ap (λ (x : Option (List ℕ × ℕ)). option_map (λ (packet : List ℕ × ℕ). packet.0) x) is) ∙ e in cc

-- ---- the head

-- once a reader has given a head, 0 normal pages of its packet are taken
pub head_taken : (head : List ℕ) (contents : List (List ℕ)) (old now : PageHolder) → GivesOn head event.Head old now
    → HolderTells old (λ given text so_far. Comes given.page_size event.Head so_far)
    → now ≡ record old { packet = Some (head, 0); kept = []; page = now.page; fed = now.fed } → now.fed ≡ old.fed + length head
    → IsTaking head contents 0 old now
head_taken head contents old now on comes next fed = record {
  has_packet = ap (λ (x : PageHolder). x.packet) next;
  none_kept = ap (λ (x : PageHolder). x.kept) next;
  same_given = ap (λ (x : PageHolder). x.given) next;
  has_fed = omega (arith, fed);
  same_ended = ap (λ (x : PageHolder). x.ended) next;
  gives = λ given text so_far g. (
    with_came event.Head now so_far,
    subst (λ (x : List ℕ). Gives given (text ++ x) (with_came event.Head now so_far) now) (sym (append-nil head)) (on given text so_far g),
  );
  goes = λ f l text so_far r after memory adds.
      let b : ℕ = block_in memory.table head in
      let then : Image = with_round memory (zeros_begun memory.table head) in
      let amid : Amid f l text so_far (kept old None false) r memory = into_midst f l text so_far (kept old None false) r memory refl adds.takes adds.holds in
      let is_head : (h : List ℕ) → option_map (λ (packet : List ℕ × ℕ). packet.0) now.packet ≡ Some h
      → head ≡ h = λ h e. same_head now.packet head h 0 (ap (λ (x : PageHolder). x.packet) next) e in
      let behind : AmidBehind f l text head (kept now (Some b) false) after then =
      head_came f l text so_far old now None (Some b) false r after memory then head on comes (ap (λ (x : PageHolder). x.ended) next) refl
      (λ _ h e. subst (λ (x : List ℕ). AddsHead x r memory after then) (is_head h e) adds.adds)
      (λ _ h e. subst (λ (x : List ℕ). WritesInto memory.table x after (Some b)) (is_head h e) (record { lies = adds.lies; writes = λ _ _ none. absurd cc }))
      (λ other. absurd (other adds.is_complete)) (λ other. absurd (other adds.is_complete)) amid in
      subst (λ (x : List ℕ). AmidBehind f l text x (kept now (Some b) false) after
      (with_round memory (pages_to memory.table head contents 0))) (sym (append-nil head))
      (subst (λ (ps : List Page). AmidBehind f l text head (kept now (Some b) false) after (with_round memory ps))
      (sym (append-nil (zeros_begun memory.table head))) behind);
}

-- ---- a page

one_page : (table : RamTable) (head : List ℕ) (contents : List (List ℕ)) (i : ℕ)
    → pages_to table head contents (i + 1) ≡ pages_to table head contents i ++ normal_page table head contents i ∷ []
one_page table head contents i =
    ap (λ (l : List Page). zeros_begun table head ++ l) (map-range_with_len_more (normal_page table head contents) 0 i i (omega arith))
    ∙ sym (append_assoc (zeros_begun table head) (map (normal_page table head contents) (range_with_len 0 i)) (normal_page table head contents i ∷ []))

one_content : (head : List ℕ) (contents : List (List ℕ)) (i : ℕ) → i < length contents
    → bytes_to head contents (i + 1) ≡ bytes_to head contents i ++ get_or contents i []
one_content head contents i lt =
    ap (λ (l : List (List ℕ)). head ++ flat_map (λ content. content) l) (take_more contents i [] lt)
    ∙ ap (λ (l : List ℕ). head ++ l) (sym (flat_map_more (λ (content : List ℕ). content) [] (take i contents) (get_or contents i [])))
    ∙ sym (append_assoc head (flat_map (λ content. content) (take i contents)) (get_or contents i []))

more_bytes : (text head : List ℕ) (contents : List (List ℕ)) (i : ℕ) (content : List ℕ) → i < length contents → content ≡ get_or contents i []
    → (text ++ bytes_to head contents i) ++ content ≡ text ++ bytes_to head contents (i + 1)
more_bytes text head contents i content lt is =
    append_assoc text (bytes_to head contents i) content
    ∙ ap (λ (bytes : List ℕ). text ++ (bytes_to head contents i ++ bytes)) is
    ∙ ap (λ (bytes : List ℕ). text ++ bytes) (sym (one_content head contents i lt))

all_bytes : (text head : List ℕ) (contents : List (List ℕ)) (n : ℕ) → n ≡ length contents
    → (text ++ bytes_to head contents n) ++ [] ≡ text ++ packet_bytes head contents
all_bytes text head contents n count =
    append-nil (text ++ bytes_to head contents n)
    ∙ ap (λ (k : ℕ). text ++ bytes_to head contents k) count
    ∙ ap (λ (l : List (List ℕ)). text ++ (head ++ flat_map (λ content. content) l)) (take-length contents)

-- the memory with one page more
page_put : (memory : Image) (head : List ℕ) (contents : List (List ℕ)) (i : ℕ) → with_round memory (pages_to memory.table head contents (i + 1))
    ≡ with_page (with_round memory (pages_to memory.table head contents i))
    (place_at (block_in memory.table head) (offset_at head i / memory.table.page_size)) (get_or contents i [])
page_put memory head contents i =
    let start : Image = with_round memory (pages_to memory.table head contents i) in
    let x : Page = normal_page memory.table head contents i in
    let put : with_page start x.place x.content ≡ with_round memory (pages_to memory.table head contents i ++ x ∷ []) =
    put_page_more memory start (with_page start x.place x.content) (pages_to memory.table head contents i) x x.place x.content refl refl refl refl in
    ap (λ (l : List Page). with_round memory l) (one_page memory.table head contents i) ∙ sym put

-- after i pages of a packet, one more that the reader gives makes i + 1 of them taken
pub page_taken : (head : List ℕ) (contents : List (List ℕ)) (i : ℕ) (old now new : PageHolder) (content : Bor (List ℕ))
    → i < length contents → content.now ≡ get_or contents i []
    → i < normal_count head → length content.now ≡ now.given.page_size
    → IfSome now.packet (λ packet. GivesOn content.now (event.Page (offset_at packet.0 packet.1) (page_content.Lent content)) now new)
    → IfSome now.packet (λ packet. HolderTells now
    (λ given text so_far. Comes given.page_size (event.Page (offset_at packet.0 packet.1) (page_content.Lent content)) so_far))
    → IfSome now.packet (λ packet. new ≡ record now { packet = Some (packet.0, packet.1 + 1); kept = []; page = new.page; fed = new.fed })
    → new.fed ≡ now.fed + length content.now → IsTaking head contents i old now → IsTaking head contents (i + 1) old new
page_taken head contents i old now new content low is_content normal size gives comes next fed at =
    let on : GivesOn content.now (event.Page (offset_at head i) (page_content.Lent content)) now new =
    subst (λ (o : Option (List ℕ × ℕ)). IfSome o
    (λ packet. GivesOn content.now (event.Page (offset_at packet.0 packet.1) (page_content.Lent content)) now new)) at.has_packet gives in
    let come : HolderTells now (λ given text so_far. Comes given.page_size (event.Page (offset_at head i) (page_content.Lent content)) so_far) =
    subst (λ (o : Option (List ℕ × ℕ)). IfSome o
    (λ packet. HolderTells now (λ given text so_far. Comes given.page_size
    (event.Page (offset_at packet.0 packet.1) (page_content.Lent content)) so_far))) at.has_packet comes in
    let step : new ≡ record now { packet = Some (head, i + 1); kept = []; page = new.page; fed = new.fed } =
    subst (λ (o : Option (List ℕ × ℕ)). IfSome o
    (λ packet. new ≡ record now { packet = Some (packet.0, packet.1 + 1); kept = []; page = new.page; fed = new.fed })) at.has_packet next in
    let ended : new.ended ≡ now.ended = ap (λ (x : PageHolder). x.ended) step in
    let whole : length content.now ≡ old.given.page_size = size ∙ ap (λ s. s.page_size) at.same_given in
    record {
      has_packet = ap (λ (x : PageHolder). x.packet) step;
      none_kept = ap (λ (x : PageHolder). x.kept) step;
      same_given = ap (λ (x : PageHolder). x.given) step ∙ at.same_given;
      has_fed = omega (arith, fed, whole, at.has_fed);
      same_ended = ended ∙ at.same_ended;
      gives = λ given text so_far g.
          let before = at.gives given text so_far g in
          let answer : ChannelEvent = event.Page (offset_at head i) (page_content.Lent content) in (
            with_came answer new before.0,
            subst (λ (bytes : List ℕ). Gives given bytes (with_came answer new before.0) new)
                (more_bytes text head contents i content.now low is_content) (on given (text ++ bytes_to head contents i) before.0 before.1),
          );
      goes = λ f l text so_far r after memory adds.
          let b : ℕ = block_in memory.table head in
          let before = at.goes f l text so_far r after memory adds in
          let start : Image = with_round memory (pages_to memory.table head contents i) in
          let then : Image = with_round memory (pages_to memory.table head contents (i + 1)) in
          let put : then ≡ with_page start (place_at b (offset_at head i / memory.table.page_size)) content.now =
          page_put memory head contents i ∙ ap (λ (bytes : List ℕ). with_page start
          (place_at b (offset_at head i / memory.table.page_size)) bytes) (sym is_content) in
          let behind = page_came f l (with_piece (bytes_to head contents i) text) before.0 now new (Some b) false after start then
          (offset_at head i) (page_content.Lent content) content.now on come ended
          (size ∙ ap (λ s. s.page_size) (sym (ap (λ (x : PageHolder). x.given) step))) refl
          (adds_page (offset_at head i) content.now (Some b) after start then
          (λ k e _. let same : b ≡ k = cc in put ∙ ap (λ (n : ℕ). with_page start (place_at n (offset_at head i / memory.table.page_size)) content.now) same)
          (λ wrong. absurd (let right = adds.is_right in cc))) before.1 in (
            behind.0,
            subst (λ (bytes : List ℕ). Amid f l (record text { bytes = bytes }) behind.0 (kept new (Some b) false) after then)
                (more_bytes text.bytes head contents i content.now low is_content) behind.1,
          );
    }

-- ---- all of it

-- after all pages of a packet, the end that the reader gives makes the packet taken
pub all_taken : (head : List ℕ) (contents : List (List ℕ)) (n : ℕ) (old now new : PageHolder) (sync : Bool) → n ≡ length contents
    → GivesOn [] (event.Packet sync) now new
    → HolderTells now (λ given text so_far. Comes given.page_size (event.Packet sync) so_far) → new.ended ≡ now.ended
    → IsTaking head contents n old now → TakesParts head contents old new sync
all_taken head contents n old now new sync count on comes ended at = λ f l text so_far r after memory adds.
    let b : ℕ = block_in memory.table head in
    let before = at.goes f l text so_far r after memory adds in
    let then : Image = with_round memory (pages_to memory.table head contents n) in
    let behind : HoldsBehind f l (with_piece (bytes_to head contents n) text) [] (kept new None sync) after then =
    packet_came f l (with_piece (bytes_to head contents n) text) before.0 now new (Some b) false sync after then [] on comes ended before.1 in (
      behind.0,
      subst (λ (m : Image). HoldsAt f l (with_piece (packet_bytes head contents) text) behind.0 (kept new None sync) after m)
          (ap (λ (k : ℕ). with_round memory (pages_to memory.table head contents k)) count)
          (subst (λ (bytes : List ℕ). HoldsAt f l (record text { bytes = bytes }) behind.0 (kept new None sync) after then)
          (all_bytes text.bytes head contents n count) behind.1),
    )

-- after all pages of a packet, with its end, the reader has given all that the packet's bytes hold
pub all_given : (head : List ℕ) (contents : List (List ℕ)) (n : ℕ) (old now new : PageHolder) (sync : Bool) → n ≡ length contents
    → GivesOn [] (event.Packet sync) now new → IsTaking head contents n old now
    → (given : Settings) (text : List ℕ) (so_far : GivenSoFar) → Gives given text so_far old
    → (gave : GivenSoFar) × Gives given (text ++ packet_bytes head contents) gave new
all_given head contents n old now new sync count on at = λ given text so_far g.
    let before = at.gives given text so_far g in
    let gave : GivenSoFar = with_came (event.Packet sync) new before.0 in (
      gave,
      subst (λ (bytes : List ℕ). Gives given bytes gave new) (all_bytes text head contents n count)
          (on given (text ++ bytes_to head contents n) before.0 before.1),
    )

-- ---- the contents

-- element i of the lent contents is element i of their bytes
pub content_is : (contents : List (Bor (List ℕ))) (i : ℕ) (d : Bor (List ℕ)) → i < length contents
    → (i < length (lent_bytes contents)) × ((get_or contents i d).now ≡ get_or (lent_bytes contents) i [])
content_is contents i d lt = (
  (let e = length-map contents (λ (b : Bor (List ℕ)). b.now) in omega (arith, e, lt)),
  sym (get_or-map (λ (b : Bor (List ℕ)). b.now) contents i d [] lt),
)

-- contents that are as many as the pages, each of the page size, are those of the pages
pub all_pages : (page_size count : ℕ) (contents : List (Bor (List ℕ))) (d : Bor (List ℕ)) → length contents ≡ count
    → ((k : ℕ) → k < length contents → length (get_or contents k d).now ≡ page_size)
    → ArePages page_size count (lent_bytes contents)
all_pages page_size count contents d many all = record {
  as_many = length-map contents (λ (b : Bor (List ℕ)). b.now) ∙ many;
  are_whole = λ k e lt.
      let low : k < length contents = (let same = length-map contents (λ (b : Bor (List ℕ)). b.now) in omega (arith, same, lt)) in
      ap (λ (l : List ℕ). length l) (get_or-map (λ (b : Bor (List ℕ)). b.now) contents k d e low) ∙ all k low;
}

-- the next content of a packet that a reader is taking has the page size of its settings
pub content_len : (head : List ℕ) (contents : List (Bor (List ℕ))) (i : ℕ) (old now : PageHolder) (d : Bor (List ℕ))
    → ArePages old.given.page_size (normal_count head) (lent_bytes contents) → i < length contents
    → IsTaking head (lent_bytes contents) i old now → length (get_or contents i d).now ≡ now.given.page_size
content_len head contents i old now d pages lt at =
    let is = content_is contents i d lt in
    ap (λ (l : List ℕ). length l) is.1 ∙ pages.are_whole i [] is.0 ∙ ap (λ s. s.page_size) (sym at.same_given)

-- if the count of a reader has room for the whole packet, it has room for its next page
pub content_room : (head : List ℕ) (contents : List (List ℕ)) (i n : ℕ) (old now : PageHolder) (len : ℕ) → i < n
    → len ≡ now.given.page_size → old.fed + length head + n * old.given.page_size < 2 ^ 64
    → IsTaking head contents i old now → now.fed + len < 2 ^ 64
content_room head contents i n old now len lt is room at =
    let size : ℕ = old.given.page_size in
    let same : len ≡ size = is ∙ ap (λ s. s.page_size) at.same_given in
    let fits : (i + 1) * size ≤ n * size = mul-le (i + 1) size n size (omega (arith, lt)) (omega arith) in
    let fed = at.has_fed in
    let one : (i + 1) * size ≡ i * size + size = omega arith in
    omega (arith, fed, same, fits, one, room)

-- how many bytes they have
pages_len : (size : ℕ) (contents : List (List ℕ)) → All (λ content. length content ≡ size) contents
    → length (flat_map (λ content. content) contents) ≡ length contents * size
pages_len size [] all = omega arith
pages_len size (content ∷ contents) all =
    let here : length content ≡ size = All-head (λ (x : List ℕ). length x ≡ size) content contents all in
    let rest : length (flat_map (λ content. content) contents) ≡ length contents * size =
    pages_len size contents (All-tail (λ (x : List ℕ). length x ≡ size) content contents all) in
    let both : length (content ++ flat_map (λ content. content) contents) ≡ length content + length
    (flat_map (λ content. content) contents) = length-append content (flat_map (λ content. content) contents) in
    let more : (length contents + 1) * size ≡ length contents * size + size = omega arith in
    omega (arith, both, here, rest, more)

-- the bytes of a packet are its head, and a page for each of its contents
pub packet_len : (size count : ℕ) (head : List ℕ) (contents : List (Bor (List ℕ))) → ArePages size count (lent_bytes contents)
    → length (packet_bytes head (lent_bytes contents)) ≡ length head + length contents * size
packet_len size count head contents pages =
    let all : List ℕ = flat_map (λ content. content) (lent_bytes contents) in
    let len : length all ≡ length (lent_bytes contents) * size = pages_len size (lent_bytes contents) pages.are_whole in
    let same : length (lent_bytes contents) ≡ length contents = length-map contents (λ (b : Bor (List ℕ)). b.now) in
    let scaled : length (lent_bytes contents) * size ≡ length contents * size = ap (λ (n : ℕ). n * size) same in
    let both : length (head ++ all) ≡ length head + length all = length-append head all in
    omega (arith, len, scaled, both)
