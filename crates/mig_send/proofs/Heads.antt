-- The head of a batch's packet, and the contents that follow it.
use Rattle.std.proofs.Common.{ℕ, ◌≡◌, ◌<◌, ◌≤◌, ◌+◌, ◌-◌, ◌*◌, ◌∙◌, Bool, true, false, List, [], ◌∷◌, ◌++◌, length, map, take, get_or, refl, sym, ap, subst}
use Rattle.std.proofs.Common.{append_assoc, inl, inr, arith}
use Rattle.std.specs.Prelude.{Result, Ok, Err, OnOk, IfSome, zip}
use Rattle.std.specs.List.{filter}
use Rattle.std.proofs.lemmas.Bool.{cases_Bool}
use Rattle.std.proofs.lemmas.List.{map-append, append-nil, take_more}
use Rattle.std.proofs.lemmas.List.Elements.{filter-append}
use Rattle.std.proofs.lemmas.Slice.Zip.{length-zip}
use Rattle.mig_mem.specs.RamTable.{RamTable, block}
use Rattle.mig_mem.specs.Place.{place_at}
use Rattle.mig_mem.specs.Image.{Image, content_at, pages_of}
use Rattle.mig_mem.specs.Round.{round_of}
use Rattle.mig_zero.specs.Zero.{is_zero}
use Rattle.mig_packet.specs.PageSize.{page_limit}
use Rattle.mig_packet.specs.Written.{written_head}
use Rattle.mig_send.specs.declared.channel_worker.Hand.{Hand}
use Rattle.mig_send.specs.declared.channel_worker.Hand.TheVariants.{Drawing, Claimed, Ending, Ended, Moving}
use Rattle.mig_send.specs.Batches.{BatchOfPages, batch_places, IsBatch}
use Rattle.mig_send.specs.Packing.{offsets_of, normals_of, zeros_of, packet_of}
use Rattle.mig_send.specs.Work.{no_batch}
use Rattle.mig_send.specs.ChannelWork.{RoundTerms, ChannelWork, IsHand, HasClaimed, after_packet, batch_in, hand_bytes}
use Rattle.mig_send.specs.Copies.{PacksPages}
use Rattle.mig_send.specs.Heads.{zeros_at, others_at, batch_head, WritesHead, zeros_in, contents_in, PutsHead}
use Rattle.mig_send.proofs.Copies.{packs_pages}

-- ---- a page more

-- the offsets of the pages whose flags pass a test
abbrev pub passing : (ℕ × Bool → Bool) → ℕ → List (ℕ × Bool) → List ℕ
passing test size pages = map (λ page. page.0 * size) (filter test pages)

passing-push : (test : ℕ × Bool → Bool) (size : ℕ) (pages : List (ℕ × Bool)) (page : ℕ × Bool)
    → passing test size (pages ++ page ∷ []) ≡ passing test size pages ++ passing test size (page ∷ [])
passing-push test size pages page =
    ap (λ (l : List (ℕ × Bool)). map (λ x. x.0 * size) l) (filter-append test pages (page ∷ []))
    ∙ map-append (λ (x : ℕ × Bool). x.0 * size) (filter test pages) (filter test (page ∷ []))

-- the first i + 1 pages give the offset of page i after those of the first i, if it passes the test
pub flag_passes : (test : ℕ × Bool → Bool) (size : ℕ) (pages : List (ℕ × Bool)) (i page : ℕ) (flag : Bool) → i < length pages
    → get_or pages i (0, false) ≡ (page, flag)
    → test (page, flag) ≡ true → passing test size (take (i + 1) pages) ≡ passing test size (take i pages) ++ (page * size) ∷ []
flag_passes test size pages i page flag lt is t =
    ap (passing test size) (take_more pages i (0, false) lt ∙ ap (λ (x : ℕ × Bool). take i pages ++ x ∷ []) is)
    ∙ passing-push test size (take i pages) (page, flag) ∙ rw t refl

-- the first i + 1 pages give the same offsets as the first i, if page i fails the test
pub flag_fails : (test : ℕ × Bool → Bool) (size : ℕ) (pages : List (ℕ × Bool)) (i page : ℕ) (flag : Bool) → i < length pages
    → get_or pages i (0, false) ≡ (page, flag)
    → test (page, flag) ≡ false → passing test size (take (i + 1) pages) ≡ passing test size (take i pages)
flag_fails test size pages i page flag lt is t =
    ap (passing test size) (take_more pages i (0, false) lt ∙ ap (λ (x : ℕ × Bool). take i pages ++ x ∷ []) is)
    ∙ passing-push test size (take i pages) (page, flag) ∙ rw t (append-nil (passing test size (take i pages)))

-- each page is one of both kinds
both_kinds : (size : ℕ) (pages : List (ℕ × Bool)) → length (others_at size pages) + length (zeros_at size pages) ≡ length pages
both_kinds size [] = refl
both_kinds size ((n, true) ∷ pages) = (let e = both_kinds size pages in omega (arith, e))
both_kinds size ((n, false) ∷ pages) = (let e = both_kinds size pages in omega (arith, e))

-- a batch's normal and zero offsets are together no more than a packet may have pages
pub few_flagged : (table : RamTable) (batch : BatchOfPages) (zeros : List Bool) (normal zero : List ℕ) → IsBatch table batch
    → normal ≡ others_at table.page_size (zip batch.pages zeros)
    → zero ≡ zeros_at table.page_size (zip batch.pages zeros) → length normal + length zero ≤ page_limit table.page_size
few_flagged table batch zeros normal zero is normal-is zero-is =
    let pages : List (ℕ × Bool) = zip batch.pages zeros in
    omega (
      arith,
      is.has_few,
      both_kinds table.page_size pages,
      length-zip batch.pages zeros,
      ap (λ (l : List ℕ). length l) normal-is,
      ap (λ (l : List ℕ). length l) zero-is,
    )

-- ---- flags that are a memory's

abbrev flags : Image → ℕ → List ℕ → List Bool
flags m b pages = map (λ place. is_zero (content_at m place)) (map (place_at b) pages)

others_are : (m : Image) (size b : ℕ) (pages : List ℕ)
    → others_at size (zip pages (flags m b pages)) ≡ offsets_of size (normals_of (round_of m (map (place_at b) pages)))
unfolding pages_of
others_are m size b [] = refl
others_are m size b (n ∷ pages) = elim (cases_Bool (is_zero (content_at m (place_at b n)))) [
  | inl t ↦ rw t (others_are m size b pages)
  | inr f ↦ rw f (ap (λ (l : List ℕ). (n * size) ∷ l) (others_are m size b pages))
]

zeros_are : (m : Image) (size b : ℕ) (pages : List ℕ)
    → zeros_at size (zip pages (flags m b pages)) ≡ offsets_of size (zeros_of (round_of m (map (place_at b) pages)))
unfolding pages_of
zeros_are m size b [] = refl
zeros_are m size b (n ∷ pages) = elim (cases_Bool (is_zero (content_at m (place_at b n)))) [
  | inl t ↦ rw t (ap (λ (l : List ℕ). (n * size) ∷ l) (zeros_are m size b pages))
  | inr f ↦ rw f (zeros_are m size b pages)
]

-- the head and the contents make the packet
head_and_contents : (m : Image) (batch : BatchOfPages) (number : ℕ) (zeros : List Bool) → zeros ≡ zeros_in m batch
    → batch_head m.table batch number zeros ++ contents_in m batch ≡ packet_of m.table.page_size number
    (block m.table.blocks batch.block).id (round_of m (batch_places batch))
head_and_contents m batch number zeros are =
    let size : ℕ = m.table.page_size in
    let id : List ℕ = (block m.table.blocks batch.block).id in
    let normal : List ℕ = offsets_of size (normals_of (round_of m (batch_places batch))) in
    ap (λ (l : List Bool). batch_head m.table batch number l ++ contents_in m batch) are
    ∙ ap (λ (os : List ℕ). written_head size number false id os
    (zeros_at size (zip batch.pages (zeros_in m batch))) ++ contents_in m batch) (others_are m size batch.block batch.pages)
    ∙ ap (λ (os : List ℕ). written_head size number false id normal os ++ contents_in m batch) (zeros_are m size batch.block batch.pages)

-- ---- the worker's head

writes_bytes : (m : Image) (terms : RoundTerms) (hand : Hand) (zeros : List Bool) (before after : List ℕ) → m.table ≡ terms.table
    → WritesHead terms hand zeros before after
    → IfSome (batch_in terms hand) (λ batch. zeros ≡ zeros_in m batch → after ++ contents_in m batch ≡ before ++ hand_bytes m terms hand)
writes_bytes m terms (Drawing seat) zeros before after same writes = tt
writes_bytes m terms (Claimed seat number) zeros before after same writes = λ are.
    let batch : BatchOfPages = get_or terms.batches (number - terms.deal.base) no_batch in
    ap (λ (l : List ℕ). l ++ contents_in m batch) writes ∙ append_assoc before (batch_head terms.table batch number zeros) (contents_in m batch)
    ∙ ap (λ (t : RamTable). before ++ (batch_head t batch number zeros ++ contents_in m batch)) (sym same)
    ∙ ap (λ (l : List ℕ). before ++ l) (head_and_contents m batch number zeros are)
writes_bytes m terms (Ending spent last) zeros before after same writes = tt
writes_bytes m terms (Ended spent) zeros before after same writes = tt
writes_bytes m terms Moving zeros before after same writes = tt

follows_head : (m : Image) (old : ChannelWork) (hand : Hand) (zeros : List Bool) (text : List ℕ) → m.table ≡ old.terms.table
    → IsHand old.terms.deal old.hand → old.hand ≡ hand
    → WritesHead old.terms old.hand zeros old.text text
    → IfSome (batch_in old.terms hand) (λ batch. zeros ≡ zeros_in m batch
    → PacksPages m (Ok _) old (record old { hand = after_packet hand; text = text ++ contents_in m batch }))
follows_head m old (Drawing seat) zeros text same is e writes = tt
follows_head m old (Claimed seat number) zeros text same is e writes = λ are.
    let batch : BatchOfPages = get_or old.terms.batches (number - old.terms.deal.base) no_batch in
    let bytes = writes_bytes m old.terms (Claimed seat number) zeros old.text text same
    (subst (λ (h : Hand). WritesHead old.terms h zeros old.text text) e writes) are in
    packs_pages m (Ok _) old (record old { hand = Drawing seat; text = text ++ contents_in m batch }) same is (record {
      same_terms = refl;
      same_channel = refl;
      is_step = record {
        in_hand = Claimed seat number;
        has_claimed = subst (λ (h : Hand). HasClaimed old.terms.deal h (Claimed seat number)) (sym e) refl;
        writes = (refl, bytes);
        keeps = tt;
      };
    })
follows_head m old (Ending spent last) zeros text same is e writes = tt
follows_head m old (Ended spent) zeros text same is e writes = tt
follows_head m old Moving zeros text same is e writes = tt

-- a worker that wrote the head of its batch's packet has packed the batch once the contents follow
pub puts_head : (old : ChannelWork) (zeros : List Bool) (new_hand : Hand) (text : List ℕ) → IsHand old.terms.deal old.hand
    → new_hand ≡ after_packet old.hand → WritesHead old.terms old.hand zeros old.text text
    → PutsHead zeros old (record old { hand = new_hand; text = text })
puts_head old zeros new_hand text is hand writes = record {
  has_head = writes;
  rest = ap (λ (h : Hand). record old { hand = h; text = text }) hand;
  follows = λ m same. subst (λ (h : Hand). IfSome (batch_in old.terms old.hand) (λ batch. zeros ≡ zeros_in m batch
      → PacksPages m (Ok _) old (record old { hand = h; text = text ++ contents_in m batch }))) (sym hand)
      (follows_head m old old.hand zeros text same is refl writes);
}

-- if success gives A, and A gives B, success gives B
pub on_ok : {E : Type 0} {A B : Type 0} (made : Result (Unit {0}) E) → OnOk made A → (A → B) → OnOk made B
on_ok (Ok u) told then = then told
on_ok (Err e) told then = tt
