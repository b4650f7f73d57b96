-- The head of a batch's packet, copied out, and the pages that C sends after it.
use Rattle.std.proofs.Common.{ℕ, ◌≡◌, ◌≢◌, ◌-◌, ◌≤◌, ◌∙◌, ◌==◌, List, [], ◌∷◌, ◌++◌, length, take, get_or, Bool, true, false, refl, sym, ap, subst, arith}
use Rattle.std.proofs.Common.{Option, Some, None}
use Rattle.std.specs.Prelude.{Ok, IfSome, zip, IsTrue, ◌||◌}
use Rattle.std.proofs.lemmas.Bool.{ne_eqb}
use Rattle.std.proofs.lemmas.List.{append-nil, length-append}
use Rattle.mig_mem.specs.RamTable.{RamTable, IsTable, block}
use Rattle.mig_mem.specs.Image.{Image}
use Rattle.mig_mem.proofs.Blocks.{block_id_length}
use Rattle.mig_packet.specs.PageSize.{head_len}
use Rattle.mig_packet.specs.Written.{written_counts, written_id, written_offsets}
use Rattle.mig_packet.proofs.Parts.{length-counts, length-written_id, length-written_offsets}
use Rattle.mig_send.specs.declared.channel_worker.Hand.{Hand}
use Rattle.mig_send.specs.declared.channel_worker.Hand.TheVariants.{Drawing, Claimed, Ending, Ended, Moving}
use Rattle.mig_send.specs.Batches.{BatchOfPages, IsBatch}
use Rattle.mig_send.specs.Packing.{packed_of}
use Rattle.mig_send.specs.Work.{no_batch}
use Rattle.mig_send.specs.Heads.{batch_head, others_at, zeros_at, zeros_in, contents_in, WritesHead}
use Rattle.mig_send.specs.Copies.{HasPagesOf, HasPagesRead, PacksPages}
use Rattle.mig_send.specs.ChannelWork.{RoundTerms, ChannelWork, HasPacked, HasClaimed, after_packet, batch_in, hand_bytes}
use Rattle.mig_send.proofs.Packing.{batch_block}
use Rattle.mig_send.proofs.Heads.{few_flagged}
use Rattle.mig_c_calls.specs.declared.waiting.Waiting.{Waiting}
use Rattle.mig_c_calls.specs.declared.sending.HeldWorker.{HeldWorker}
use Rattle.mig_c_calls.specs.Status.{IsOneOf, running, no_memory, bad_length, out_of_turn}
use Rattle.mig_c_calls.specs.Multi.{Packs, RefillsWorker, waiting_in, left_in}
use Rattle.mig_c_calls.specs.Copied.{OfClaim, OfBatch}
use Rattle.mig_c_calls.specs.Heads.{FitsHead, GivesHead, TakesHead, RefusesHead, WritesOut, flags_of}
use Rattle.mig_c_calls.proofs.Sends.{worker_steps}
use Rattle.mig_c_calls.proofs.Copies.{map_claim, packs_named, packs_in_turn, packs_fit}

-- ---- how long a head is

-- the head of a batch's packet is as long as a head for the table's page size
pub head_length : (table : RamTable) (batch : BatchOfPages) (number : ℕ) (zeros : List Bool) → IsTable table → IsBatch table batch
    → length (batch_head table batch number zeros) ≡ head_len table.page_size
head_length table batch number zeros is is_batch =
    let size : ℕ = table.page_size in
    let normal : List ℕ = others_at size (zip batch.pages zeros) in
    let zero : List ℕ = zeros_at size (zip batch.pages zeros) in
    let id : List ℕ = (block table.blocks batch.block).id in
    let counts : List ℕ = written_counts size number false (length normal) (length zero) in
    let few = few_flagged table batch zeros normal zero is_batch refl refl in
    let offsets = length-written_offsets size (normal ++ zero) (omega (arith, few, length-append normal zero)) in
    let short = (block_id_length table batch.block is (batch_block table batch is_batch)).1 in
    omega (
      arith,
      length-append counts (written_id id ++ written_offsets size (normal ++ zero)),
      length-append (written_id id) (written_offsets size (normal ++ zero)),
      length-counts size number (length normal) (length zero) false,
      length-written_id id short,
      offsets,
    )

-- ---- what a head and the contents make

-- where no bytes were there before, a written head is the head of the batch that is claimed
pub head_then : (terms : RoundTerms) (hand : Hand) (zeros : List Bool) (before after : List ℕ) → before ≡ [] → WritesHead terms hand zeros before after
    → OfClaim (λ batch number. after ≡ batch_head terms.table batch number zeros) terms hand
head_then terms (Drawing seat) zeros before after none writes = writes
head_then terms (Claimed seat number) zeros before after none writes =
    writes ∙ ap (λ (l : List ℕ). l ++ batch_head terms.table (get_or terms.batches (number - terms.deal.base) no_batch) number zeros) none
head_then terms (Ending spent last) zeros before after none writes = writes
head_then terms (Ended spent) zeros before after none writes = writes
head_then terms Moving zeros before after none writes = writes

-- as many bytes as there is room for
pub put_length : (table : RamTable) (terms : RoundTerms) (hand : Hand) (zeros : List ℕ) (room : ℕ) (flags : List Bool)
    (old new : List ℕ) → table ≡ terms.table → IsTable table → old ≡ []
    → OfClaim (λ batch number. TakesHead terms.table zeros room batch) terms hand → WritesHead terms hand flags old new
    → (length new ≡ head_len terms.table.page_size) × (length new ≤ room)
put_length table terms (Drawing seat) zeros room flags old new same is none takes writes = absurd takes
put_length table terms (Claimed seat number) zeros room flags old new same is none takes writes =
    let batch : BatchOfPages = get_or terms.batches (number - terms.deal.base) no_batch in
    let here : new ≡ batch_head terms.table batch number flags = head_then terms (Claimed seat number) flags old new none writes in
    let len : length new ≡ head_len terms.table.page_size =
    ap (λ (l : List ℕ). length l) here ∙ head_length terms.table batch number flags (subst IsTable same is) takes.is_batch in
    let room_for = takes.fits.has_room in (len, omega (arith, len, room_for))
put_length table terms (Ending spent last) zeros room flags old new same is none takes writes = absurd takes
put_length table terms (Ended spent) zeros room flags old new same is none takes writes = absurd takes
put_length table terms Moving zeros room flags old new same is none takes writes = absurd takes

own_pages : (image : Image) (o : Option BatchOfPages) → IfSome o (λ batch. HasPagesOf image batch image)
own_pages image None = tt
own_pages image (Some batch) = λ i lt. refl

-- a memory has its own pages
reads_own : (image : Image) (terms : RoundTerms) (hand : Hand) → image.table ≡ terms.table → HasPagesRead image terms hand image
reads_own image terms hand same = record { same_table = same; has_pages = own_pages image (batch_in terms hand) }

-- they are the packet of the batch
bytes_then : (zeros : List Bool) (image : Image) (old new : ChannelWork) (hand : Hand) → old.hand ≡ hand → old.text ≡ [] → image.table ≡ old.terms.table
    → IfSome (batch_in old.terms hand) (λ batch. zeros ≡ zeros_in image batch
    → PacksPages image (Ok _) old (record new { text = new.text ++ contents_in image batch }))
    → OfClaim (λ batch number. Unit {0}) old.terms hand
    → OfClaim (λ batch number. zeros ≡ zeros_in image batch → new.text ++ contents_in image batch ≡ (packed_of image batch number).bytes) old.terms hand
bytes_then zeros image old new (Drawing seat) is none same follows of = absurd of
bytes_then zeros image old new (Claimed seat number) is none same follows of = λ are.
    let packs = follows are in
    let in_hand : packs.in_hand ≡ Claimed seat number = subst (λ (h : Hand). HasClaimed old.terms.deal h packs.in_hand) is packs.has_claimed in
    packs.writes.1 image (reads_own image old.terms packs.in_hand same)
    ∙ ap (λ (l : List ℕ). l ++ hand_bytes image old.terms packs.in_hand) none
    ∙ ap (λ (h : Hand). hand_bytes image old.terms h) in_hand
bytes_then zeros image old new (Ending spent last) is none same follows of = absurd of
bytes_then zeros image old new (Ended spent) is none same follows of = absurd of
bytes_then zeros image old new Moving is none same follows of = absurd of

-- with them the worker has packed the batch
packed_then : (zeros : List Bool) (image : Image) (old new : ChannelWork) (hand : Hand) → image.table ≡ old.terms.table
    → IfSome (batch_in old.terms hand) (λ batch. zeros ≡ zeros_in image batch
    → PacksPages image (Ok _) old (record new { text = new.text ++ contents_in image batch }))
    → OfClaim (λ batch number. Unit {0}) old.terms hand
    → OfClaim (λ batch number. zeros ≡ zeros_in image batch → (before drained : List ℕ) → HasPacked image before (drained ++ old.text) old
    → HasPacked image before (drained ++ (new.text ++ contents_in image batch)) new) old.terms hand
packed_then zeros image old new (Drawing seat) same follows of = absurd of
packed_then zeros image old new (Claimed seat number) same follows of = λ are before drained packed.
    let packs = follows are in
    packs.packed image before drained (reads_own image old.terms packs.in_hand same) packed
packed_then zeros image old new (Ending spent last) same follows of = absurd of
packed_then zeros image old new (Ended spent) same follows of = absurd of
packed_then zeros image old new Moving same follows of = absurd of

-- ---- the bytes that were moved first

-- what is so of the claimed batch is so of it in equal terms
same_claim : (IsSo : RoundTerms → BatchOfPages → ℕ → Type 0) (t u : RoundTerms) (h g : Hand) → t ≡ u → h ≡ g → OfClaim (IsSo t) t h → OfClaim (IsSo u) u g
same_claim IsSo t u h g terms hand of =
    subst (λ (x : Hand). OfClaim (IsSo u) u x) hand (subst (λ (x : RoundTerms). OfClaim (IsSo x) x h) terms of)

-- no byte is left of a worker where none waits after a refill
none_left : (old mid : HeldWorker) → RefillsWorker old mid → waiting_in mid.drained ≡ [] → left_in old ≡ []
none_left old mid refills none =
    sym refills.same_left ∙ ap (λ (l : List ℕ). l ++ mid.worker.text) none ∙ refills.none none

front_none : (xs ys : List ℕ) → xs ++ ys ≡ [] → xs ≡ []
front_none [] ys none = refl
front_none (x ∷ xs) ys none = absurd (let long = ap (λ (l : List ℕ). length l) none in omega (arith, long))

-- none waits after a refill of a worker of which none was left
none_waits : (old mid : HeldWorker) → RefillsWorker old mid → left_in old ≡ [] → waiting_in mid.drained ≡ []
none_waits old mid refills none = front_none (waiting_in mid.drained) mid.worker.text (refills.same_left ∙ none)

-- ---- the call

as_before : (old new : HeldWorker) (image : Image) (sent given more : List ℕ) → new.worker ≡ old.worker
    → new.drained ≡ old.drained → Packs image sent given more old → Packs image sent given more new
as_before old new image sent given more worker drained packs =
    worker_steps image sent given more old new drained
    (λ before bytes packed. subst (λ (w : ChannelWork). HasPacked image before (bytes ++ w.text) w) (sym worker) packed) packs

-- with what is sent after it
packs_on : (image : Image) (sent given more bytes : List ℕ) (old new : HeldWorker) → waiting_in old.drained ≡ []
    → waiting_in new.drained ≡ [] → new.worker.text ≡ []
    → ((before drained : List ℕ) → HasPacked image before (drained ++ old.worker.text) old.worker → HasPacked image before (drained ++ bytes) new.worker)
    → Packs image sent given more old → Packs image sent given (more ++ bytes) new
packs_on image sent given more bytes old new waited waits none packed packs =
    let now : HasPacked image packs.own (more ++ bytes) new.worker =
    packed packs.own more
    (subst (λ (l : List ℕ). HasPacked image packs.own (l ++ old.worker.text) old.worker)
    (ap (λ (l : List ℕ). more ++ l) waited ∙ append-nil more) packs.has_packed) in
    record {
      own = packs.own;
      has_sent = packs.has_sent;
      has_packed =
          subst (λ (l : List ℕ). HasPacked image packs.own l new.worker)
          (sym (ap (λ (l : List ℕ). ((more ++ bytes) ++ waiting_in new.drained) ++ l) none
          ∙ append-nil ((more ++ bytes) ++ waiting_in new.drained)
          ∙ ap (λ (l : List ℕ). (more ++ bytes) ++ l) waits
          ∙ append-nil (more ++ bytes))) now;
    }

refused_or : (a b r m : Bool) → IsTrue (a || (b || false)) → IsTrue (r || (m || (a || (b || false))))
refused_or a b true m is = refl
refused_or a b false true is = refl
refused_or a b false false is = is

refused_then : (status : ℕ) → IsOneOf (bad_length ∷ out_of_turn ∷ []) status → status ≢ running
refused_then status is bad = absurd (let no : IsOneOf (bad_length ∷ out_of_turn ∷ []) running = subst (IsOneOf (bad_length ∷ out_of_turn ∷ [])) bad is in cc)

none_true : (a b : Bool) → IsTrue (a || (b || false)) → a ≡ false → b ≡ false → ⊥
none_true a b is first second = absurd (let none : IsTrue (false || (false || false)) =
    subst (λ (y : Bool). IsTrue (false || (y || false))) second (subst (λ (x : Bool). IsTrue (x || (b || false))) first is) in cc)

neither : (status : ℕ) → IsOneOf (bad_length ∷ out_of_turn ∷ []) status → status ≢ out_of_turn → status ≢ bad_length → ⊥
neither status is turn well =
    none_true (bad_length == status) (out_of_turn == status) is
    (ne_eqb bad_length status (λ same. well (sym same))) (ne_eqb out_of_turn status (λ same. turn (sym same)))

-- if a refilled worker refuses a head, `head` says so, and leaves the buffer as it was
pub refuses_head : (zeros : List ℕ) (status was : ℕ) (out : List ℕ) (old mid : HeldWorker) → RefillsWorker old mid → RefusesHead zeros (length out) status mid
    → GivesHead zeros status out out was was old mid
refuses_head zeros status was out old mid refills refuses =
    let terms = refills.same_work.0 in
    let hand = refills.same_work.2 in
    let other : status ≢ running = refused_then status refuses.is_named in
    record {
      is_named = refused_or (bad_length == status) (out_of_turn == status) (running == status) (no_memory == status) refuses.is_named;
      wrong = λ late claim none.
          refuses.wrong late
          (same_claim (λ _ _ _. Unit {0}) old.worker.terms mid.worker.terms old.worker.hand mid.worker.hand (sym terms) (sym hand) claim)
          (none_waits old mid refills none);
      in_turn = λ turn.
          let now = refuses.in_turn turn in (
            same_claim (λ _ _ _. Unit {0}) mid.worker.terms old.worker.terms mid.worker.hand old.worker.hand terms hand now.0,
            none_left old mid refills now.1,
          );
      unfit = λ bad.
          same_claim (λ t batch _. FitsHead t.table zeros (length out) batch
          → ⊥) mid.worker.terms old.worker.terms mid.worker.hand old.worker.hand terms hand (refuses.unfit bad);
      fits = λ turn well. absurd (neither status refuses.is_named turn well);
      gives = λ runs. absurd (other runs);
      has_length = λ runs. absurd (other runs);
      writes = λ runs. absurd (other runs);
      packs = λ runs. absurd (other runs);
      over = λ runs. absurd (other runs);
      same = λ _. (refl, refl, hand, refills.same_left);
      keeps = λ _. refills.keeps;
      same_work = (terms, refills.same_work.1);
    }

-- if no byte of a refilled worker waits, and the head of its batch fits, writing the head out, or
-- lacking memory for it, is what `head` does
pub gives_head : (zeros : List ℕ) (status was len : ℕ) (before out : List ℕ) (old mid new : HeldWorker) → RefillsWorker old mid
    → OfBatch (λ batch number. TakesHead mid.worker.terms.table zeros (length before) batch) mid → waiting_in mid.drained ≡ [] → length out ≡ length before
    → WritesOut zeros status before out was len mid.worker new.worker mid.drained new.drained
    → GivesHead zeros status before out was len old new
gives_head zeros status was len before out old mid new refills takes waited room writes =
    let t : RoundTerms = mid.worker.terms in
    let h : Hand = mid.worker.hand in
    let terms : t ≡ old.worker.terms = refills.same_work.0 in
    let hand : h ≡ old.worker.hand = refills.same_work.2 in
    let none : mid.worker.text ≡ [] = refills.none waited in
    let claim : OfClaim (λ _ _. Unit {0}) t h =
    map_claim (λ batch number. TakesHead t.table zeros (length before) batch) (λ _ _. Unit {0}) t h (λ _ _ _. tt) takes in
    let flags : List Bool = flags_of zeros in
    let sent : ChannelWork = record new.worker { text = take len out } in
    record {
      is_named = packs_named status writes.is_named;
      wrong = λ late. absurd (packs_in_turn status writes.is_named late);
      in_turn = λ _. (
        same_claim (λ _ _ _. Unit {0}) t old.worker.terms h old.worker.hand terms hand claim,
        none_left old mid refills waited,
      );
      unfit = λ bad. absurd (packs_fit status writes.is_named bad);
      fits = λ _ _.
          same_claim (λ u batch _. FitsHead u.table zeros (length out) batch) t old.worker.terms h old.worker.hand terms hand
          (map_claim (λ batch number. TakesHead t.table zeros (length before) batch) (λ batch number. FitsHead t.table zeros (length out) batch) t h
          (λ batch _ has. record {
            as_many = has.fits.as_many;
            has_room = subst (λ (n : ℕ). head_len t.table.page_size ≤ n) (sym room) has.fits.has_room;
          }) takes);
      gives = λ runs.
          same_claim (λ u batch number. take len out ≡ batch_head u.table batch number flags) t old.worker.terms h old.worker.hand terms hand
          (head_then t h flags mid.worker.text (take len out) none (writes.puts runs).0.has_head);
      has_length = λ runs. writes.has_length runs ∙ ap (λ (u : RoundTerms). head_len u.table.page_size) terms;
      writes = λ runs image same.
          let of_mid : image.table ≡ t.table = same ∙ ap (λ (u : RoundTerms). u.table) (sym terms) in
          same_claim (λ _ batch number. flags ≡ zeros_in image batch → take len out ++ contents_in image batch ≡ (packed_of image batch number).bytes)
          t old.worker.terms h old.worker.hand terms hand
          (bytes_then flags image mid.worker sent h refl none of_mid ((writes.puts runs).0.follows image of_mid) claim);
      packs = λ runs image bytes given more same.
          let of_mid : image.table ≡ t.table = same ∙ ap (λ (u : RoundTerms). u.table) (sym terms) in
          let puts = writes.puts runs in
          same_claim (λ _ batch number. flags ≡ zeros_in image batch → Packs image bytes given more old
          → Packs image bytes given (more ++ (take len out ++ contents_in image batch)) new)
          t old.worker.terms h old.worker.hand terms hand
          (map_claim
          (λ batch number. flags ≡ zeros_in image batch → (before drained : List ℕ) → HasPacked image before (drained ++ mid.worker.text) mid.worker
          → HasPacked image before (drained ++ (take len out ++ contents_in image batch)) sent)
          (λ batch number. flags ≡ zeros_in image batch → Packs image bytes given more old
          → Packs image bytes given (more ++ (take len out ++ contents_in image batch)) new)
          t h
          (λ batch _ now are packed.
          packs_on image bytes given more (take len out ++ contents_in image batch) mid new waited puts.2 puts.1 (now are)
          (refills.keeps image bytes given more packed))
          (packed_then flags image mid.worker sent h of_mid (puts.0.follows image of_mid) claim));
      over = λ runs.
          let puts = writes.puts runs in (
            ap (λ (w : ChannelWork). w.hand) puts.0.rest ∙ ap after_packet hand,
            ap (λ (l : List ℕ). l ++ new.worker.text) puts.2 ∙ puts.1,
          );
      same = λ other.
          let now = writes.same other in (
            now.0,
            now.1,
            ap (λ (w : ChannelWork). w.hand) now.2 ∙ hand,
            ap (λ (w : Waiting). waiting_in w ++ new.worker.text) now.3 ∙ ap (λ (w : ChannelWork). waiting_in mid.drained ++ w.text) now.2 ∙ refills.same_left,
          );
      keeps = λ other image bytes given more packed.
          let now = writes.same other in
          as_before mid new image bytes given more now.2 now.3 (refills.keeps image bytes given more packed);
      same_work = (writes.same_work.0 ∙ terms, writes.same_work.1 ∙ refills.same_work.1);
    }
