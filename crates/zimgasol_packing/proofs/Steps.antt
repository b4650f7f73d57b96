-- What each step of a sending does.
use Rattle.std.proofs.Common.{ℕ, suc, ◌≡◌, ◌+◌, ◌*◌, ◌<◌, ◌≤◌, ◌^◌, Bool, true, false, cond, not, ◌==◌, List, [], ◌∷◌, ◌++◌, length, map, get_or, set}
use Rattle.std.proofs.Common.{refl, sym, ap, subst, ◌∙◌, inl, inr, arith, append_assoc, Option, Some, None}
use Rattle.std.specs.Prelude.{nat_lt}
use Rattle.std.specs.Io.KnownBytes.{Appends}
use Rattle.std.specs.List.{flat_map, range_with_len, All}
use Rattle.std.proofs.lemmas.Bool.{cases_Bool, eq-eqb, eqb-true, eqb-false, lt-ltb, le-ltb}
use Rattle.std.proofs.lemmas.Option.{same_Some}
use Rattle.std.proofs.lemmas.Bool.Decides.{nat_tests}
use Rattle.std.proofs.lemmas.List.{append-nil, map-append, length-map, length-append, get_or-map, get_or-set_same, get_or-set_other, length-set}
use Rattle.std.proofs.lemmas.List.{nil_from_length}
use Rattle.std.proofs.lemmas.List.Elements.{All-nil, All-push, filter-append}
use Rattle.std.proofs.lemmas.Grind.{flat_map-append}
use Rattle.mig_mem.specs.Image.{Page}
use Rattle.mig_mem.specs.RamTable.{RamTable, block}
use Rattle.mig_zero.specs.Zero.{is_zero}
use Rattle.mig_stream.specs.Format.{end_byte}
use Rattle.mig_stream.specs.Written.{Part, FlushPart, written}
use Rattle.mig_stream.specs.MachineWritten.{machine_written, machine_closed}
use Rattle.mig_stream.specs.Writer.{Writer, HasDrained}
use Rattle.mig_stream.proofs.Configured.{configured_is_closed, configured_is_written, written_is_closed}
use Rattle.std.proofs.Math.Nat.{div-le_self}
use Rattle.mig_deal.proofs.Counts.{range_push}
use Rattle.mig_packet.specs.Hello.{written_hello}
use Rattle.mig_packet.specs.PageSize.{IsPageSize, page_limit}
use Rattle.mig_packet.specs.Written.{written_packet}
use Rattle.mig_send.specs.Packing.{normals_of, zeros_of, offsets_of, contents_of}
use Rattle.mig_send.specs.Dealing.{sync_packet}
use Rattle.zimgasol_files.specs.declared.target.Outlet.{Outlet}
use Rattle.zimgasol_packing.specs.Packets.{Packet, packet_bytes, AreOfBlock, IsPacket, AreFull, carried, begun_text, ended_text}
use Rattle.zimgasol_packing.specs.declared.batch.Batch.{Batch}
use Rattle.zimgasol_packing.specs.declared.packing.Packing.{Packing}
use Rattle.zimgasol_packing.specs.Packing.{bytes_in, HaveTexts, with_bytes, hellos_to, syncs_to, HasPages, front_of, drained_of, Begun, next_packet}
use Rattle.zimgasol_packing.specs.Packing.{HasSent, HasPacked, all_of, IsPacking, HasSentBatch, SendsBatch, HasRoom, IsPackedAll}

-- ---- channels

-- known bytes grew
known_grows : (a b : Option (List ℕ)) (old bytes : List ℕ) → a ≡ Some old → Appends a b bytes → b ≡ Some (old ++ bytes)
known_grows None b old bytes e grows = cc
known_grows (Some x) None old bytes e grows = absurd grows
known_grows (Some x) (Some y) old bytes e grows =
    let same : x ≡ old = same_Some x old e in ap (λ (l : List ℕ). Some l) (grows ∙ ap (λ (l : List ℕ). l ++ bytes) same)

hello_here : (uuid : List ℕ) (n c : ℕ) → c ≡ n → with_bytes (hellos_to uuid n) n (written_hello uuid n) c ≡ hellos_to uuid (n + 1) c
hello_here uuid n c e =
    ap (λ (b : Bool). cond b (hellos_to uuid n c ++ written_hello uuid n) (hellos_to uuid n c)) (eq-eqb c n e)
    ∙ ap (λ (b : Bool). cond b (written_hello uuid c) [] ++ written_hello uuid n) (le-ltb c n (omega (arith, e)))
    ∙ ap (λ (k : ℕ). written_hello uuid k) (sym e)
    ∙ ap (λ (b : Bool). cond b (written_hello uuid c) []) (sym (lt-ltb c (n + 1) (omega (arith, e))))

flipped : (a b : ℕ) → (b == a) ≡ false → (a == b) ≡ false
flipped a b ne = let other = eqb-false b a ne in grind (arith, nat_tests)

same_test : (n c : ℕ) → (c == n) ≡ false → nat_lt c n ≡ nat_lt c (n + 1)
same_test n c ne = let other = eqb-false c n ne in grind (arith, nat_tests)

hello_more : (uuid : List ℕ) (n c : ℕ) → with_bytes (hellos_to uuid n) n (written_hello uuid n) c ≡ hellos_to uuid (n + 1) c
hello_more uuid n c =
    elim (cases_Bool (c == n)) [
      | inl t ↦ hello_here uuid n c (eqb-true c n t)
      | inr f ↦ ap (λ (b : Bool). cond b (hellos_to uuid n c ++ written_hello uuid n) (hellos_to uuid n c)) f
          ∙ ap (λ (b : Bool). cond b (written_hello uuid c) []) (same_test n c f)
    ]

sync_here : (texts : ℕ → List ℕ) (size number n c : ℕ) → c ≡ n
    → with_bytes (syncs_to texts size number n) n (sync_packet size (number + n)) c ≡ syncs_to texts size number (n + 1) c
sync_here texts size number n c e =
    ap (λ (b : Bool). cond b (syncs_to texts size number n c ++ sync_packet size (number + n)) (syncs_to texts size number n c)) (eq-eqb c n e)
    ∙ ap (λ (b : Bool). cond b (texts c ++ sync_packet size (number + c)) (texts c) ++ sync_packet size (number + n)) (le-ltb c n (omega (arith, e)))
    ∙ ap (λ (k : ℕ). texts c ++ sync_packet size (number + k)) (sym e)
    ∙ ap (λ (b : Bool). cond b (texts c ++ sync_packet size (number + c)) (texts c)) (sym (lt-ltb c (n + 1) (omega (arith, e))))

sync_more : (texts : ℕ → List ℕ) (size number n c : ℕ)
    → with_bytes (syncs_to texts size number n) n (sync_packet size (number + n)) c ≡ syncs_to texts size number (n + 1) c
sync_more texts size number n c =
    elim (cases_Bool (c == n)) [
      | inl t ↦ sync_here texts size number n c (eqb-true c n t)
      | inr f ↦ ap (λ (b : Bool). cond b (syncs_to texts size number n c ++ sync_packet size (number + n)) (syncs_to texts size number n c)) f
          ∙ ap (λ (b : Bool). cond b (texts c ++ sync_packet size (number + c)) (texts c)) (same_test n c f)
    ]

module _ {F : Type 0} (contents : F → Option (List ℕ)) where
  bytes_at : (channels : List (Outlet F)) (c : ℕ) (d : Outlet F) → c < length channels
      → bytes_in contents channels c ≡ contents (get_or channels c d).file
  bytes_at channels c d low = get_or-map (λ outlet. contents outlet.file) channels c d None low

  -- bytes were put on a channel
  put_here : (channels : List (Outlet F)) (texts : ℕ → List ℕ) (bytes : List ℕ) (i : ℕ) (was now : Outlet F) → i < length channels
      → was ≡ get_or channels i was → Appends (contents was.file) (contents now.file) bytes → HaveTexts contents channels texts
      → (c : ℕ) → c < length (set channels i now) → c ≡ i → bytes_in contents (set channels i now) c ≡ Some (with_bytes texts i bytes c)
  put_here channels texts bytes i was now low is grows have c there e =
      let had : contents was.file ≡ Some (texts i) = ap (λ (o : Outlet F). contents o.file) is ∙ sym (bytes_at channels i was low) ∙ have i low in
      let at : get_or (set channels i now) c now ≡ now =
      ap (λ (k : ℕ). get_or (set channels i now) k now) e ∙ get_or-set_same channels i now now low in
      bytes_at (set channels i now) c now there ∙ ap (λ (o : Outlet F). contents o.file) at
      ∙ known_grows (contents was.file) (contents now.file) (texts i) bytes had grows
      ∙ ap (λ (k : ℕ). Some (texts k ++ bytes)) (sym e)
      ∙ ap (λ (b : Bool). Some (cond b (texts c ++ bytes) (texts c))) (sym (eq-eqb c i e))

  put_other : (channels : List (Outlet F)) (texts : ℕ → List ℕ) (bytes : List ℕ) (i : ℕ) (now : Outlet F) → HaveTexts contents channels texts
      → (c : ℕ) → c < length (set channels i now) → (c == i) ≡ false → bytes_in contents (set channels i now) c ≡ Some (with_bytes texts i bytes c)
  put_other channels texts bytes i now have c there ne =
      let low : c < length channels = omega (arith, there, length-set channels i now) in
      let at : get_or (set channels i now) c now ≡ get_or channels c now = get_or-set_other channels i c now now (eqb-false c i ne) in
      bytes_at (set channels i now) c now there ∙ ap (λ (o : Outlet F). contents o.file) at ∙ sym (bytes_at channels c now low) ∙ have c low
      ∙ ap (λ (b : Bool). Some (cond b (texts c ++ bytes) (texts c))) (sym ne)

  pub puts_bytes : (channels : List (Outlet F)) (bytes : List ℕ) (i : ℕ) (was now : Outlet F) → i < length channels
      → was ≡ get_or channels i was → Appends (contents was.file) (contents now.file) bytes
      → (texts : ℕ → List ℕ) → HaveTexts contents channels texts → HaveTexts contents (set channels i now) (with_bytes texts i bytes)
  puts_bytes channels bytes i was now low is grows texts have c there =
      elim (cases_Bool (c == i)) [
        | inl t ↦ put_here channels texts bytes i was now low is grows have c there (eqb-true c i t)
        | inr f ↦ put_other channels texts bytes i now have c there f
      ]

  -- other texts that are the same
  pub same_texts : (channels : List (Outlet F)) (texts others : ℕ → List ℕ) → ((c : ℕ) → c < length channels → texts c ≡ others c)
      → HaveTexts contents channels texts → HaveTexts contents channels others
  same_texts channels texts others same have c low = have c low ∙ ap (λ (l : List ℕ). Some l) (same c low)

  -- no hello yet
  pub no_hellos : (channels : List (Outlet F)) (uuid : List ℕ) → HaveTexts contents channels (λ _. []) → HaveTexts contents channels (hellos_to uuid 0)
  no_hellos channels uuid have = same_texts channels (λ _. []) (hellos_to uuid 0)
      (λ c low. ap (λ (b : Bool). cond b (written_hello uuid c) []) (sym (le-ltb c 0 (omega arith)))) have

  -- one hello more
  pub one_hello : (channels : List (Outlet F)) (uuid : List ℕ) (n : ℕ)
      → HaveTexts contents channels (with_bytes (hellos_to uuid n) n (written_hello uuid n)) → HaveTexts contents channels (hellos_to uuid (n + 1))
  one_hello channels uuid n have =
      same_texts channels (with_bytes (hellos_to uuid n) n (written_hello uuid n)) (hellos_to uuid (n + 1)) (λ c low. hello_more uuid n c) have

  -- all hellos
  pub all_hellos : (channels : List (Outlet F)) (uuid : List ℕ) (n : ℕ) → length channels ≡ n
      → HaveTexts contents channels (hellos_to uuid n) → HaveTexts contents channels (written_hello uuid)
  all_hellos channels uuid n e have =
      same_texts channels (hellos_to uuid n) (written_hello uuid)
      (λ c low. ap (λ (b : Bool). cond b (written_hello uuid c) []) (lt-ltb c n (omega (arith, low, e)))) have

  pub no_syncs : (channels : List (Outlet F)) (texts : ℕ → List ℕ) (size number : ℕ) → HaveTexts contents channels texts
      → HaveTexts contents channels (syncs_to texts size number 0)
  no_syncs channels texts size number have =
      same_texts channels texts (syncs_to texts size number 0)
      (λ c low. ap (λ (b : Bool). cond b (texts c ++ sync_packet size (number + c)) (texts c)) (sym (le-ltb c 0 (omega arith)))) have

  pub one_sync : (channels : List (Outlet F)) (texts : ℕ → List ℕ) (size number n : ℕ)
      → HaveTexts contents channels (with_bytes (syncs_to texts size number n) n (sync_packet size (number + n)))
      → HaveTexts contents channels (syncs_to texts size number (n + 1))
  one_sync channels texts size number n have =
      same_texts channels (with_bytes (syncs_to texts size number n) n (sync_packet size (number + n))) (syncs_to texts size number (n + 1))
      (λ c low. sync_more texts size number n c) have

  pub all_syncs : (channels : List (Outlet F)) (texts : ℕ → List ℕ) (size number n : ℕ) → length channels ≡ n
      → HaveTexts contents channels (syncs_to texts size number n) → HaveTexts contents channels (λ c. texts c ++ sync_packet size (number + c))
  all_syncs channels texts size number n e have =
      same_texts channels (syncs_to texts size number n) (λ c. texts c ++ sync_packet size (number + c))
      (λ c low. ap (λ (b : Bool). cond b (texts c ++ sync_packet size (number + c)) (texts c)) (lt-ltb c n (omega (arith, low, e)))) have

-- ---- a batch

normals_skip : (pages : List Page) (page : Page) → is_zero page.content ≡ true → normals_of (pages ++ page ∷ []) ≡ normals_of pages
normals_skip pages page z =
    filter-append (λ (x : Page). not (is_zero x.content)) pages (page ∷ [])
    ∙ ap (λ (b : Bool). normals_of pages ++ cond (not b) (page ∷ []) []) z ∙ append-nil (normals_of pages)

normals_more : (pages : List Page) (page : Page) → is_zero page.content ≡ false → normals_of (pages ++ page ∷ []) ≡ normals_of pages ++ page ∷ []
normals_more pages page z =
    filter-append (λ (x : Page). not (is_zero x.content)) pages (page ∷ [])
    ∙ ap (λ (b : Bool). normals_of pages ++ cond (not b) (page ∷ []) []) z

zeros_skip : (pages : List Page) (page : Page) → is_zero page.content ≡ false → zeros_of (pages ++ page ∷ []) ≡ zeros_of pages
zeros_skip pages page z =
    filter-append (λ (x : Page). is_zero x.content) pages (page ∷ [])
    ∙ ap (λ (b : Bool). zeros_of pages ++ cond b (page ∷ []) []) z ∙ append-nil (zeros_of pages)

zeros_more : (pages : List Page) (page : Page) → is_zero page.content ≡ true → zeros_of (pages ++ page ∷ []) ≡ zeros_of pages ++ page ∷ []
zeros_more pages page z =
    filter-append (λ (x : Page). is_zero x.content) pages (page ∷ [])
    ∙ ap (λ (b : Bool). zeros_of pages ++ cond b (page ∷ []) []) z

offsets_more : (size : ℕ) (pages : List Page) (page : Page) → offsets_of size (pages ++ page ∷ []) ≡ offsets_of size pages ++ page.place.page * size ∷ []
offsets_more size pages page = map-append (λ (x : Page). x.place.page * size) pages (page ∷ [])

contents_more : (pages : List Page) (page : Page) → contents_of (pages ++ page ∷ []) ≡ contents_of pages ++ page.content
contents_more pages page =
    flat_map-append (λ (x : Page). x.content) pages (page ∷ []) ∙ ap (λ (l : List ℕ). contents_of pages ++ l) (append-nil page.content)

-- a page of zeros was added
pub zero_added : (size offset : ℕ) (old new : Batch) (pages : List Page) (page : Page) → is_zero page.content ≡ true → page.place.page * size ≡ offset
    → new.normal.items ≡ old.normal.items → new.contents.items ≡ old.contents.items → new.zeros.items ≡ old.zeros.items ++ offset ∷ []
    → HasPages size old pages → HasPages size new (pages ++ page ∷ [])
zero_added size offset old new pages page z at normal contents zeros had = record {
  normals = normal ∙ had.normals ∙ ap (λ (l : List Page). offsets_of size l) (sym (normals_skip pages page z));
  contents = contents ∙ had.contents ∙ ap (λ (l : List Page). contents_of l) (sym (normals_skip pages page z));
  zeros = zeros ∙ ap (λ (l : List ℕ). l ++ offset ∷ []) had.zeros ∙ ap (λ (k : ℕ). offsets_of size (zeros_of pages) ++ k ∷ []) (sym at)
      ∙ sym (offsets_more size (zeros_of pages) page) ∙ ap (λ (l : List Page). offsets_of size l) (sym (zeros_more pages page z));
}

-- another page was added
pub normal_added : (size offset : ℕ) (old new : Batch) (pages : List Page) (page : Page) → is_zero page.content ≡ false → page.place.page * size ≡ offset
    → new.normal.items ≡ old.normal.items ++ offset ∷ [] → new.contents.items ≡ old.contents.items ++ page.content → new.zeros.items ≡ old.zeros.items
    → HasPages size old pages → HasPages size new (pages ++ page ∷ [])
normal_added size offset old new pages page z at normal contents zeros had = record {
  normals = normal ∙ ap (λ (l : List ℕ). l ++ offset ∷ []) had.normals ∙ ap (λ (k : ℕ). offsets_of size (normals_of pages) ++ k ∷ []) (sym at)
      ∙ sym (offsets_more size (normals_of pages) page) ∙ ap (λ (l : List Page). offsets_of size l) (sym (normals_more pages page z));
  contents = contents ∙ ap (λ (l : List ℕ). l ++ page.content) had.contents ∙ sym (contents_more (normals_of pages) page)
      ∙ ap (λ (l : List Page). contents_of l) (sym (normals_more pages page z));
  zeros = zeros ∙ had.zeros ∙ ap (λ (l : List Page). offsets_of size l) (sym (zeros_skip pages page z));
}

-- each page is of one of the kinds
both_kinds : (pages : List Page) → length (normals_of pages) + length (zeros_of pages) ≡ length pages
both_kinds [] = refl
both_kinds (x ∷ pages) =
    elim (cases_Bool (is_zero x.content)) [
      | inl t ↦ rw t (let rest = both_kinds pages in omega (arith, rest))
      | inr f ↦ rw f (let rest = both_kinds pages in omega (arith, rest))
    ]

pub pages_counted : (size : ℕ) (batch : Batch) (pages : List Page) → HasPages size batch pages
    → length batch.normal.items + length batch.zeros.items ≡ length pages
pages_counted size batch pages has =
    omega (
      arith,
      ap (λ (l : List ℕ). length l) has.normals,
      length-map (normals_of pages) (λ (x : Page). x.place.page * size),
      ap (λ (l : List ℕ). length l) has.zeros,
      length-map (zeros_of pages) (λ (x : Page). x.place.page * size),
      both_kinds pages,
    )

-- a packet has at most 128 pages
pub limit_low : (size : ℕ) → IsPageSize size → page_limit size ≤ 128
limit_low size (inl e) = subst (λ (s : ℕ). page_limit s ≤ 128) (sym e) (omega arith)
limit_low size (inr e) = subst (λ (s : ℕ). page_limit s ≤ 128) (sym e) (omega arith)

page_limit_some : (size : ℕ) → IsPageSize size → 0 < page_limit size
page_limit_some size (inl e) = subst (λ (s : ℕ). 0 < page_limit s) (sym e) (omega arith)
page_limit_some size (inr e) = subst (λ (s : ℕ). 0 < page_limit s) (sym e) (omega arith)

-- ---- full packets

full_push : (limit : ℕ) (xs : List Packet) (p q : Packet) → AreFull limit (xs ++ p ∷ []) → (p.block ≡ q.block → length p.pages ≡ limit)
    → AreFull limit ((xs ++ p ∷ []) ++ q ∷ [])
full_push limit [] p q full next = (next, tt)
full_push limit (x ∷ []) p q full next = (full.0, (next, tt))
full_push limit (x ∷ y ∷ xs) p q full next = (full.0, full_push limit (y ∷ xs) p q full.1 next)

full_last : (limit : ℕ) (xs : List Packet) (p q : Packet) → AreFull limit (xs ++ p ∷ []) → q.block ≡ p.block → AreFull limit (xs ++ q ∷ [])
full_last limit [] p q full same = tt
full_last limit (x ∷ []) p q full same = ((λ e. full.0 (e ∙ same)), tt)
full_last limit (x ∷ y ∷ xs) p q full same = (full.0, full_last limit (y ∷ xs) p q full.1 same)

-- ---- a packet more

carried_more : (c : ℕ) (packets : List Packet) (p : Packet) → carried c (packets ++ p ∷ []) ≡ carried c packets ++ cond (p.channel == c) (p ∷ []) []
carried_more c packets p = filter-append (λ (x : Packet). x.channel == c) packets (p ∷ [])

text_more : (table : RamTable) (uuid : List ℕ) (packets : List Packet) (p : Packet) (bytes : List ℕ) → bytes ≡ packet_bytes table p → (c : ℕ)
    → with_bytes (begun_text table uuid packets) p.channel bytes c ≡ begun_text table uuid (packets ++ p ∷ []) c
text_more table uuid packets p bytes is c =
    let front : List ℕ = written_hello uuid c ++ sync_packet table.page_size c in
    let carries : List ℕ = flat_map (packet_bytes table) (carried c packets) in
    elim (cases_Bool (c == p.channel)) [
      | inl t ↦ let own : (p.channel == c) ≡ true = eq-eqb p.channel c (sym (eqb-true c p.channel t)) in
          ap (λ (b : Bool). cond b ((front ++ carries) ++ bytes) (front ++ carries)) t
          ∙ append_assoc front carries bytes
          ∙ ap (λ (l : List ℕ). front ++ (carries ++ l)) (is ∙ sym (append-nil (packet_bytes table p)))
          ∙ ap (λ (l : List ℕ). front ++ l) (sym (flat_map-append (packet_bytes table) (carried c packets) (p ∷ [])))
          ∙ ap (λ (b : Bool). front ++ flat_map (packet_bytes table) (carried c packets ++ cond b (p ∷ []) [])) (sym own)
          ∙ ap (λ (l : List Packet). front ++ flat_map (packet_bytes table) l) (sym (carried_more c packets p))
      | inr f ↦ let other : (p.channel == c) ≡ false = flipped p.channel c f in
          ap (λ (b : Bool). cond b ((front ++ carries) ++ bytes) (front ++ carries)) f
          ∙ ap (λ (l : List Packet). front ++ flat_map (packet_bytes table) l) (sym (append-nil (carried c packets)))
          ∙ ap (λ (b : Bool). front ++ flat_map (packet_bytes table) (carried c packets ++ cond b (p ∷ []) [])) (sym other)
          ∙ ap (λ (l : List Packet). front ++ flat_map (packet_bytes table) l) (sym (carried_more c packets p))
    ]

module _ {F : Type 0} (contents : F → Option (List ℕ)) (begun : Begun) where
  -- the packet of the batch
  packet_is : (s : Packing F) (packets : List Packet) (pages : List Page) (bytes : List ℕ) → HasPacked contents begun packets pages s
      → bytes ≡ written_packet s.main.table.page_size s.number false (block s.main.table.blocks s.batch.block).id s.batch.normal.items
      s.batch.contents.items s.batch.zeros.items
      → bytes ≡ packet_bytes begun.table (next_packet s pages)
  packet_is s packets pages bytes has is =
      let id = λ (t : RamTable). (block t.blocks s.batch.block).id in
      is
      ∙ ap (λ (t : RamTable). written_packet t.page_size s.number false (id t) s.batch.normal.items s.batch.contents.items s.batch.zeros.items)
      has.has_sent.has_table
      ∙ ap (λ (l : List ℕ). written_packet begun.table.page_size s.number false (id begun.table) l s.batch.contents.items s.batch.zeros.items)
      has.has_pages.normals
      ∙ ap (λ (l : List ℕ). written_packet begun.table.page_size s.number false (id begun.table)
      (offsets_of begun.table.page_size (normals_of pages)) l s.batch.zeros.items) has.has_pages.contents
      ∙ ap (λ (l : List ℕ). written_packet begun.table.page_size s.number false (id begun.table)
      (offsets_of begun.table.page_size (normals_of pages)) (contents_of (normals_of pages)) l) has.has_pages.zeros

  -- what was sent, with one packet more
  packet_sent : (old new : Packing F) (packets : List Packet) (pages : List Page) (bytes : List ℕ) → HasPacked contents begun packets pages old
      → 0 < length pages → bytes ≡ packet_bytes begun.table (next_packet old pages) → new.main ≡ old.main
      → length new.channels.items ≡ length old.channels.items
      → ((texts : ℕ → List ℕ) → HaveTexts contents old.channels.items texts → HaveTexts contents new.channels.items (with_bytes texts old.turn bytes))
      → new.number ≡ old.number + 1 → new.turn < length new.channels.items
      → HasSent contents begun (packets ++ next_packet old pages ∷ []) new
  packet_sent old new packets pages bytes has some is same many puts next turn =
      let n : ℕ = length old.channels.items in
      let p : Packet = next_packet old pages in
      let k : length (packets ++ p ∷ []) ≡ length packets + 1 = length-append packets (p ∷ []) in
      let more : List Packet = packets ++ p ∷ [] in
      let one : IsPacket begun.table n p = record
      { has_channel = has.has_sent.has_turn; has_some = some; has_few = has.are_few; are_of_block = has.are_of_block } in
      record {
        has_table = ap (λ w. w.table) same ∙ has.has_sent.has_table;
        has_main = subst (λ w. HasDrained (drained_of begun.name) w (FlushPart ∷ [])) (sym same) has.has_sent.has_main;
        are_packets = subst (λ (c : ℕ). All (IsPacket begun.table c) more) (sym many)
            (All-push (IsPacket begun.table n) packets p has.has_sent.are_packets one);
        are_numbered = subst (λ (c : ℕ). map (λ (x : Packet). x.number) more ≡ range_with_len c (length more)) (sym many)
            (map-append (λ (x : Packet). x.number) packets (p ∷ [])
            ∙ ap (λ (l : List ℕ). l ++ old.number ∷ []) has.has_sent.are_numbered
            ∙ ap (λ (m : ℕ). range_with_len n (length packets) ++ m ∷ []) has.has_sent.has_number
            ∙ sym (range_push n (length packets))
            ∙ ap (λ (m : ℕ). range_with_len n m) (let e : suc (length packets) ≡ length more = omega (arith, k) in e));
        has_number = omega (arith, next, has.has_sent.has_number, many, k);
        has_turn = turn;
        have_texts = same_texts contents new.channels.items (with_bytes (begun_text begun.table begun.uuid packets) old.turn bytes)
            (begun_text begun.table begun.uuid more) (λ c low. text_more begun.table begun.uuid packets p bytes is c)
            (puts (begun_text begun.table begun.uuid packets) has.has_sent.have_texts);
      }

  -- the batch was sent
  pub batch_sent : (old new : Packing F) (packets : List Packet) (pages : List Page) (bytes : List ℕ) → HasPacked contents begun packets pages old
      → 0 < length pages
      → bytes ≡ written_packet old.main.table.page_size old.number false (block old.main.table.blocks old.batch.block).id old.batch.normal.items
      old.batch.contents.items old.batch.zeros.items
      → new.main ≡ old.main → length new.channels.items ≡ length old.channels.items
      → ((texts : ℕ → List ℕ) → HaveTexts contents old.channels.items texts → HaveTexts contents new.channels.items (with_bytes texts old.turn bytes))
      → new.number ≡ old.number + 1 → (old.turn < length new.channels.items → new.turn < length new.channels.items)
      → ((size : ℕ) → HasPages size new.batch []) → HasSentBatch contents begun old new packets pages
  batch_sent old new packets pages bytes has some is same many puts next turn none =
      let p : Packet = next_packet old pages in
      let limit : ℕ = page_limit begun.table.page_size in
      record {
        more = packets ++ p ∷ [];
        has_sent = packet_sent old new packets pages bytes has some (packet_is old packets pages bytes has is) same many puts next
            (turn (omega (arith, many, has.has_sent.has_turn)));
        has_none = none begun.table.page_size;
        have_pages = flat_map-append (λ (x : Packet). x.pages) packets (p ∷ []) ∙ ap (λ (l : List Page). all_of packets ++ l) (append-nil pages);
        are_full = has.are_full;
        goes_on = λ q next. full_push limit packets p q has.are_full next;
      }

  -- there was nothing to send
  pub nothing_sent : (s : Packing F) (packets : List Packet) (pages : List Page) → HasPacked contents begun packets pages s → (pages ≡ [] → packets ≡ [])
      → length pages ≡ 0 → HasSentBatch contents begun s s packets pages
  nothing_sent s packets pages has before len =
      let none : pages ≡ [] = nil_from_length pages len in
      let limit : ℕ = page_limit begun.table.page_size in
      record {
        more = packets;
        has_sent = has.has_sent;
        has_none = subst (λ (l : List Page). HasPages begun.table.page_size s.batch l) none has.has_pages;
        have_pages = sym (append-nil (all_of packets)) ∙ ap (λ (l : List Page). all_of packets ++ l) (sym none);
        are_full = subst (λ (l : List Packet). AreFull limit l) (sym (before none)) tt;
        goes_on = λ q next. subst (λ (l : List Packet). AreFull limit (l ++ q ∷ [])) (sym (before none)) tt;
      }

  -- ---- a page more

  -- there is room already
  pub room_there : (s : Packing F) (pages : List Page) (b limit : ℕ) → IsPageSize s.main.table.page_size → limit ≡ page_limit s.main.table.page_size
      → s.batch.block ≡ b → ((size : ℕ) (waiting : List Page) → HasPages size s.batch waiting → length waiting < 2 ^ 64 → length waiting < limit)
      → IsPacking contents begun pages s → HasRoom contents begun pages b s
  room_there s pages b limit size is_limit at low is =
      let few : page_limit s.main.table.page_size ≤ 128 = limit_low s.main.table.page_size size in
      let same : page_limit s.main.table.page_size ≡ page_limit begun.table.page_size =
      ap (λ (t : RamTable). page_limit t.page_size) is.has_packed.has_sent.has_table in
      let less : length is.waiting < limit = low begun.table.page_size is.waiting is.has_packed.has_pages
      (omega (arith, few, same, is.has_packed.are_few)) in
      record {
        packets = is.packets;
        waiting = is.waiting;
        has_packed = is.has_packed;
        have_pages = is.have_pages;
        has_block = at;
        has_room = omega (arith, less, is_limit, same);
      }

  -- what was sent doesn't depend on the batch
  sent_still : (old new : Packing F) (packets : List Packet) → new.main ≡ old.main → new.channels ≡ old.channels → new.number ≡ old.number
      → new.turn ≡ old.turn → HasSent contents begun packets old → HasSent contents begun packets new
  sent_still old new packets main channels number turn has = record {
    has_table = ap (λ w. w.table) main ∙ has.has_table;
    has_main = subst (λ w. HasDrained (drained_of begun.name) w (FlushPart ∷ [])) (sym main) has.has_main;
    are_packets = subst (λ c. All (IsPacket begun.table (length c.items)) packets) (sym channels) has.are_packets;
    are_numbered = subst (λ c. map (λ (x : Packet). x.number) packets ≡ range_with_len (length c.items) (length packets)) (sym channels) has.are_numbered;
    has_number = number ∙ has.has_number ∙ ap (λ c. length c.items + length packets) (sym channels);
    has_turn = subst (λ c. new.turn < length c.items) (sym channels) (subst (λ (k : ℕ). k < length old.channels.items) (sym turn) has.has_turn);
    have_texts = subst (λ c. HaveTexts contents c.items (begun_text begun.table begun.uuid packets)) (sym channels) has.have_texts;
  }

  -- the batch was sent, and the next one is of a block
  pub room_made : (old mid new : Packing F) (pages : List Page) (b limit : ℕ) → IsPageSize old.main.table.page_size
      → limit ≡ page_limit old.main.table.page_size
      → (old.batch.block ≡ b → (size : ℕ) (waiting : List Page) → HasPages size old.batch waiting → length waiting < 2 ^ 64 → limit ≤ length waiting)
      → SendsBatch contents old mid → new.main ≡ mid.main → new.channels ≡ mid.channels → new.number ≡ mid.number → new.turn ≡ mid.turn
      → new.batch ≡ record mid.batch { block = b } → IsPacking contents begun pages old → HasRoom contents begun pages b new
  room_made old mid new pages b limit size is_limit or_full sends main channels number turn batch is =
      let few : page_limit old.main.table.page_size ≤ 128 = limit_low old.main.table.page_size size in
      let most : ℕ = page_limit begun.table.page_size in
      let same : page_limit old.main.table.page_size ≡ most = ap (λ (t : RamTable). page_limit t.page_size) is.has_packed.has_sent.has_table in
      let some : 0 < page_limit old.main.table.page_size = page_limit_some old.main.table.page_size size in
      let low : length is.waiting ≤ most = is.has_packed.are_few in
      let sent = sends begun is.packets is.waiting is.has_packed is.none_before in
      let at : new.batch.block ≡ b = ap (λ (x : Batch). x.block) batch in
      record {
        packets = sent.more;
        waiting = [];
        has_packed = record {
          has_sent = sent_still mid new sent.more main channels number turn sent.has_sent;
          are_full = sent.goes_on (next_packet new []) (λ e.
              let full : limit ≤ length is.waiting =
              or_full (e ∙ at) begun.table.page_size is.waiting is.has_packed.has_pages (omega (arith, few, same, low)) in
              omega (arith, full, is_limit, same, low));
          has_pages = record {
            normals = ap (λ (x : Batch). x.normal.items) batch ∙ sent.has_none.normals;
            contents = ap (λ (x : Batch). x.contents.items) batch ∙ sent.has_none.contents;
            zeros = ap (λ (x : Batch). x.zeros.items) batch ∙ sent.has_none.zeros;
          };
          are_of_block = All-nil (λ page. page.place.block ≡ new.batch.block);
          are_few = omega arith;
        };
        have_pages = append-nil (all_of sent.more) ∙ sent.have_pages ∙ is.have_pages;
        has_block = at;
        has_room = omega (arith, some, same);
      }

  -- a page was added
  pub page_added : (old new : Packing F) (pages : List Page) (page : Page) → new.main ≡ old.main → new.channels ≡ old.channels → new.number ≡ old.number
      → new.turn ≡ old.turn → new.batch.block ≡ old.batch.block
      → ((size : ℕ) (waiting : List Page) (x : Page) → x.place.page * size ≡ page.place.page * begun.table.page_size → x.content ≡ page.content
      → HasPages size old.batch waiting → HasPages size new.batch (waiting ++ x ∷ []))
      → HasRoom contents begun pages page.place.block old → IsPacking contents begun (pages ++ page ∷ []) new
  page_added old new pages page main channels number turn block adds room =
      let limit : ℕ = page_limit begun.table.page_size in
      let waiting : List Page = room.waiting ++ page ∷ [] in
      let len : length waiting ≡ length room.waiting + 1 = length-append room.waiting (page ∷ []) in
      let at : page.place.block ≡ new.batch.block = sym room.has_block ∙ sym block in
      record {
        packets = room.packets;
        waiting = waiting;
        has_packed = record {
          has_sent = sent_still old new room.packets main channels number turn room.has_packed.has_sent;
          are_full = full_last limit room.packets (next_packet old room.waiting) (next_packet new waiting) room.has_packed.are_full block;
          has_pages = adds begun.table.page_size room.waiting page refl refl room.has_packed.has_pages;
          are_of_block = All-push (λ x. x.place.block ≡ new.batch.block) room.waiting page
              (subst (λ (b : ℕ). AreOfBlock b room.waiting) (sym block) room.has_packed.are_of_block) at;
          are_few = omega (arith, len, room.has_room);
        };
        none_before = λ none. absurd (let zero : length waiting ≡ 0 = ap (λ (l : List Page). length l) none in omega (arith, zero, len));
        have_pages = sym (append_assoc (all_of room.packets) room.waiting (page ∷ [])) ∙ ap (λ (l : List Page). l ++ page ∷ []) room.have_pages;
      }

-- ---- the main stream's last bytes

pub ram_last : (name : Option (List ℕ)) (table : RamTable) (parts : List Part) (last : List ℕ) → drained_of name ++ last ≡ written table parts
    → front_of name ++ last ≡ machine_closed name table parts
ram_last None table parts last is = is ∙ sym (written_is_closed table parts)
ram_last (Some name) table parts last is = configured_is_closed (Some name) table parts last is

pub machine_last : (name : Option (List ℕ)) (table : RamTable) (parts : List Part) (bytes last : List ℕ) → last ≡ bytes ++ end_byte ∷ []
    → drained_of name ++ bytes ≡ machine_written None table parts → front_of name ++ last ≡ machine_closed name table parts
machine_last None table parts bytes last more is = more ∙ ap (λ (l : List ℕ). l ++ end_byte ∷ []) is
machine_last (Some name) table parts bytes last more is =
    ap (λ (l : List ℕ). front_of (Some name) ++ l) more ∙ sym (append_assoc (front_of (Some name)) bytes (end_byte ∷ []))
    ∙ ap (λ (l : List ℕ). l ++ end_byte ∷ []) (configured_is_written (Some name) table parts bytes is)

-- ---- the begin and the end

module _ {F : Type 0} (contents : F → Option (List ℕ)) where
  -- nothing was sent, but for the round without pages
  pub is_begun : (begun : Begun) (s : Packing F) (channels : List (Outlet F)) → 0 < length s.channels.items → s.main.table ≡ begun.table
      → HasDrained (drained_of begun.name) s.main (FlushPart ∷ []) → s.number ≡ length s.channels.items → s.turn ≡ 0
      → ((size : ℕ) → HasPages size s.batch [])
      → HaveTexts contents s.channels.items (λ c. written_hello begun.uuid c ++ sync_packet begun.table.page_size (0 + c))
      → IsPacking contents begun [] s
  is_begun begun s channels some table main number turn none have = record {
    packets = [];
    waiting = [];
    has_packed = record {
      has_sent = record {
        has_table = table;
        has_main = main;
        are_packets = All-nil (IsPacket begun.table (length s.channels.items));
        are_numbered = refl;
        has_number = omega (arith, number);
        has_turn = omega (arith, turn, some);
        have_texts = same_texts contents s.channels.items (λ c. written_hello begun.uuid c ++ sync_packet begun.table.page_size (0 + c))
            (begun_text begun.table begun.uuid []) (λ c low. ap (λ (k : ℕ). written_hello begun.uuid c ++ sync_packet begun.table.page_size k) (omega arith)
            ∙ sym (append-nil (written_hello begun.uuid c ++ sync_packet begun.table.page_size c))) have;
      };
      are_full = tt;
      has_pages = none begun.table.page_size;
      are_of_block = All-nil (λ page. page.place.block ≡ s.batch.block);
      are_few = omega arith;
    };
    none_before = λ e. refl;
    have_pages = refl;
  }

  -- all was sent
  pub is_ended : (begun : Begun) (pages : List Page) (old mid : Packing F) (channels : List (Outlet F)) (was now : Option (List ℕ)) (w : Writer)
      (last : List ℕ) (next : ℕ)
      → SendsBatch contents old mid → IsPacking contents begun pages old → length channels ≡ length mid.channels.items
      → next ≡ mid.number + length mid.channels.items → next < 2 ^ 64
      → ((texts : ℕ → List ℕ) → HaveTexts contents mid.channels.items texts
      → HaveTexts contents channels (λ c. texts c ++ sync_packet mid.main.table.page_size (mid.number + c)))
      → w.table ≡ mid.main.table
      → ((drained : List ℕ) (parts : List Part) → HasDrained drained mid.main parts → HasDrained drained w (parts ++ FlushPart ∷ []))
      → ((name : Option (List ℕ)) (parts : List Part) → HasDrained (drained_of name) w parts → front_of name ++ last ≡ machine_closed name w.table parts)
      → Appends was now last → IsPackedAll contents begun pages channels was now
  is_ended begun pages old mid channels was now w last next sends is many is_next fits puts table flushes ends grows =
      let sent = sends begun is.packets is.waiting is.has_packed is.none_before in
      let k : ℕ = length sent.more in
      let n : ℕ = length channels in
      let size : mid.main.table.page_size ≡ begun.table.page_size = ap (λ (t : RamTable). t.page_size) sent.has_sent.has_table in
      record {
        packets = sent.more;
        are_packets = record {
          have_pages = sent.have_pages ∙ is.have_pages;
          are_numbered = subst (λ (c : ℕ). map (λ (x : Packet). x.number) sent.more ≡ range_with_len c k) (sym many) sent.has_sent.are_numbered;
          are_packets = subst (λ (c : ℕ). All (IsPacket begun.table c) sent.more) (sym many) sent.has_sent.are_packets;
          are_full = sent.are_full;
        };
        numbers_fit = omega (arith, fits, is_next, sent.has_sent.has_number, many);
        have_texts = same_texts contents channels (λ c. begun_text begun.table begun.uuid sent.more c ++ sync_packet mid.main.table.page_size (mid.number + c))
            (ended_text begun.table begun.uuid n sent.more)
            (λ c low. ap (λ (s : ℕ). begun_text begun.table begun.uuid sent.more c ++ sync_packet s (mid.number + c)) size
            ∙ ap (λ (j : ℕ). begun_text begun.table begun.uuid sent.more c ++ sync_packet begun.table.page_size j)
            (let e : mid.number + c ≡ n + k + c = omega (arith, sent.has_sent.has_number, many) in e))
            (puts (begun_text begun.table begun.uuid sent.more) sent.has_sent.have_texts);
        last = last;
        has_last = grows;
        is_main = ends begun.name (FlushPart ∷ FlushPart ∷ []) (flushes (drained_of begun.name) (FlushPart ∷ []) sent.has_sent.has_main)
            ∙ ap (λ (t : RamTable). machine_closed begun.name t (FlushPart ∷ FlushPart ∷ [])) (table ∙ sent.has_sent.has_table);
      }

-- packets' number of pages is within 64 bits
pub limit_fits : (size n : ℕ) → n ≤ page_limit size → n < 2 ^ 64
limit_fits size n few = omega (arith, few, div-le_self 524288 size)
