-- A round of all channels processed, one channel after another.
use Rattle.std.proofs.Common.{ℕ, zero, suc, ◌≡◌, ◌≢◌, ◌+◌, ◌<◌, ◌≤◌, List, [], ◌∷◌, ◌++◌, length, map, take, set, refl, sym, ap, ◌∙◌, Option, Some, arith}
use Rattle.std.proofs.Common.{subst}
use Rattle.std.specs.Prelude.{IfSome, slice_get, slice_set}
use Rattle.std.specs.List.{All, AllZip}
use Rattle.std.proofs.lemmas.List.{map-append, length-set, take_more_set, take_all, append-nil}
use Rattle.std.proofs.lemmas.List.Elements.{All-nil, All-append, All-cons, All-head, All-tail}
use Rattle.std.proofs.lemmas.Option.{slice_get_within, get_or_from_slice_get}
use Rattle.std.proofs.lemmas.Slice.Zip.{AllZip-long}
use Rattle.std.proofs.lemmas.Grind.{flat_map-append}
use Rattle.mig_packet.specs.declared.packet.Packet.{Packet}
use Rattle.mig_packet.specs.Lent.{fields}
use Rattle.mig_packet.specs.Packet.{Fields}
use Rattle.mig_packet.specs.ChannelItems.{ChannelItem}
use Rattle.mig_send.proofs.Gathering.{zip_push}
use Rattle.mig_answer.specs.declared.status.Status.{Status}
use Rattle.mig_answer.specs.declared.status.Status.TheVariants.{Whole}
use Rattle.mig_answer.specs.Received.{status_in, channel_packets_in, packets_in}
use Rattle.mig_relay.specs.RelayItems.{QueueEnd}
use Rattle.mig_relay.specs.Relayed.{received_of, HasEnough, IsAtRound, HasGone, GoesThrough, AreAtRound, HaveGone}
use Rattle.mig_relay.proofs.GoingThrough.{is_there}

-- ---- lists

set_other : {X : Type 0} (l : List X) (i j : ℕ) (x : X) → i ≢ j → slice_get (slice_set l j x) i ≡ slice_get l i
set_other [] i j x differ = refl
set_other (y ∷ l) zero zero x differ = absurd (differ refl)
set_other (y ∷ l) zero (suc j) x differ = refl
set_other (y ∷ l) (suc i) zero x differ = refl
set_other (y ∷ l) (suc i) (suc j) x differ = set_other l i j x (λ e. differ (ap suc e))

zip_at : {X Y : Type 0} (R : X → Y → Type 0) (xs : List X) (ys : List Y) (j : ℕ) (x : X) (y : Y) → AllZip R xs ys
    → slice_get xs j ≡ Some x → slice_get ys j ≡ Some y → R x y
zip_at R [] ys j x y zip e f = absurd cc
zip_at R (a ∷ xs) [] j x y zip e f = absurd zip
zip_at R (a ∷ xs) (b ∷ ys) zero x y zip e f = let here : R a b = zip.0 in let is_x : a ≡ x = cc in let is_y : b ≡ y = cc in
    subst (λ (v : _). R v y) is_x (subst (R a) is_y here)
zip_at R (a ∷ xs) (b ∷ ys) (suc j) x y zip e f = zip_at R xs ys j x y zip.1 e f

all_but_last : {X : Type 0} (P : X → Type 0) (xs : List X) (x : X) → All P (xs ++ x ∷ []) → All P xs × P x
all_but_last P [] x all = (All-nil P, All-head P x [] all)
all_but_last P (y ∷ xs) x all =
    let rest = all_but_last P xs x (All-tail P y (xs ++ x ∷ []) all) in (All-cons P y xs (All-head P y (xs ++ x ∷ []) all) rest.0, rest.1)

all_at : {X : Type 0} (P : X → Type 0) (xs : List X) (j : ℕ) (x : X) → All P xs → slice_get xs j ≡ Some x → P x
all_at P xs j x all e = subst P (get_or_from_slice_get xs j x x e) (all j x (slice_get_within xs j x e))

-- ---- the channels so far

-- the channels after the first j stay as they were
pub record Rest (j : ℕ) (places_before places : List ℕ) (old now : List QueueEnd) : Type 0 where
  pub same_ends : length now ≡ length old
  pub same_places : length places ≡ length places_before
  pub rest_ends : (i : ℕ) → j ≤ i → slice_get now i ≡ slice_get old i
  pub rest_places : (i : ℕ) → j ≤ i → slice_get places i ≡ slice_get places_before i

abbrev IsWhole : Status → Type 0
IsWhole status = status ≡ Whole

-- round k of the first j channels was processed
pub record Gone (k j : ℕ) (places : List ℕ) (now : List QueueEnd) (statuses : List Status) (packets : List Packet) : Type 0 where
  pub are_told : All (HasEnough k) (take j now)
  pub has_statuses : statuses ≡ map (status_in k) (received_of (take j now))
  pub has_packets : All IsWhole statuses → map fields packets ≡ packets_in k (received_of (take j now))
  pub goes_on : All IsWhole statuses → AreAtRound (k + 1) (take j places) (take j now)

-- before any channel is processed, all of them and their places are as they were
pub rest_starts : (places : List ℕ) (old : List QueueEnd) → Rest 0 places places old old
rest_starts places old = record { same_ends = refl; same_places = refl; rest_ends = λ i h. refl; rest_places = λ i h. refl }

-- round k of no channels was processed, with no status and no packets
pub gone_starts : (k : ℕ) (places : List ℕ) (old : List QueueEnd) → Gone k 0 places old [] []
gone_starts k places old = record { are_told = All-nil (HasEnough k); has_statuses = refl; has_packets = λ all. refl; goes_on = λ all. tt }

-- once channel j is processed after the first j, the channels after it stay as they were
pub rest_more : (j at to : ℕ) (places_before places : List ℕ)
    (old now new : List QueueEnd) (status : Status) (packets : List Packet) → Rest j places_before places old now
    → GoesThrough j at now new to status packets → Rest (j + 1) places_before (set places j to) old new
rest_more j at to places_before places old now new status packets rest goes = record {
  same_ends = ap (λ (l : List QueueEnd). length l) goes.has_new ∙ length-set now j goes.behind ∙ rest.same_ends;
  same_places = length-set places j to ∙ rest.same_places;
  rest_ends = λ i h. ap (λ (l : List QueueEnd). slice_get l i) goes.has_new
      ∙ set_other now i j goes.behind (λ e. omega (arith, e, h)) ∙ rest.rest_ends i (omega (arith, h));
  rest_places = λ i h. set_other places i j to (λ e. omega (arith, e, h)) ∙ rest.rest_places i (omega (arith, h));
}

-- channel j is still where it was before
pub at_round : (k j at : ℕ) (places_before places : List ℕ) (old now : List QueueEnd) (p : QueueEnd)
    → Rest j places_before places old now → AreAtRound k places_before old
    → slice_get places j ≡ Some at → slice_get now j ≡ Some p → IsAtRound k at p.passed
at_round k j at places_before places old now p rest are is_at is_p =
    zip_at (λ (at : ℕ) (p : QueueEnd). IsAtRound k at p.passed) places_before old j at p are
    (sym (rest.rest_places j (omega arith)) ∙ is_at) (sym (rest.rest_ends j (omega arith)) ∙ is_p)

-- if round k of the first j channels was processed, and then that of channel j, it was processed
-- of the first j + 1, with one status more and that channel's packets
pub gone_more : (k j at to : ℕ) (places_before places : List ℕ)
    (old now new : List QueueEnd) (statuses : List Status) (status : Status) (packets more : List Packet)
    → Rest j places_before places old now → AreAtRound k places_before old → slice_get places j ≡ Some at → Gone k j places now statuses packets
    → GoesThrough j at now new to status more → Gone k (j + 1) (set places j to) new (statuses ++ status ∷ []) (packets ++ more)
gone_more k j at to places_before places old now new statuses status packets more rest are is_at gone goes =
    let q : QueueEnd = goes.behind in
    let here : HasGone k to q status (map fields more) =
    goes.has_gone k (at_round k j at places_before places old now goes.before rest are is_at goes.has_before) in
    let front : take (j + 1) new ≡ take j now ++ q ∷ [] =
    ap (λ (l : List QueueEnd). take (j + 1) l) goes.has_new ∙ take_more_set now j q (slice_get_within now j goes.before goes.has_before) in
    let passed : received_of (take (j + 1) new) ≡ received_of (take j now) ++ q.passed ∷ [] =
    ap (λ (l : List QueueEnd). received_of l) front ∙ map-append (λ (p : QueueEnd). p.passed) (take j now) (q ∷ []) in
    let front_places : take (j + 1) (set places j to) ≡ take j places ++ to ∷ [] = take_more_set places j to (slice_get_within places j at is_at) in
    record {
      are_told = subst (All (HasEnough k)) (sym front)
          (All-append (HasEnough k) (take j now) (q ∷ []) gone.are_told (All-cons (HasEnough k) q [] here.is_told (All-nil (HasEnough k))));
      has_statuses = ap (λ (l : List Status). l ++ status ∷ []) gone.has_statuses
          ∙ ap (λ (s : Status). map (status_in k) (received_of (take j now)) ++ s ∷ []) here.has_status
          ∙ sym (map-append (status_in k) (received_of (take j now)) (q.passed ∷ [])) ∙ ap (λ (l : List (List ChannelItem)). map (status_in k) l) (sym passed);
      has_packets = λ all.
          let parts = all_but_last IsWhole statuses status all in
          map-append fields packets more ∙ ap (λ (l : List Fields). l ++ map fields more) (gone.has_packets parts.0)
          ∙ ap (λ (l : List Fields). packets_in k (received_of (take j now)) ++ l) (here.has_packets parts.1 ∙ sym (append-nil (channel_packets_in k q.passed)))
          ∙ sym (flat_map-append (channel_packets_in k) (received_of (take j now)) (q.passed ∷ [])) ∙ ap (packets_in k) (sym passed);
      goes_on = λ all.
          let parts = all_but_last IsWhole statuses status all in
          subst (λ (l : List ℕ). AreAtRound (k + 1) l (take (j + 1) new)) (sym front_places)
          (subst (AreAtRound (k + 1) (take j places ++ to ∷ [])) (sym front)
          (zip_push (λ (at : ℕ) (p : QueueEnd). IsAtRound (k + 1) at p.passed) (take j places) (take j now) to q
          (gone.goes_on parts.0) (here.goes_on parts.1)));
    }

-- a packet has the page size of all channels
pub sizes_more : (page_size j at to : ℕ) (places_before places : List ℕ) (old now new : List QueueEnd) (status : Status)
    (packets more : List Packet) → Rest j places_before places old now
    → GoesThrough j at now new to status more → All (λ p. p.source.page_size ≡ page_size) old → All (λ packet. packet.page_size ≡ page_size) packets
    → All (λ packet. packet.page_size ≡ page_size) (packets ++ more)
sizes_more page_size j at to places_before places old now new status packets more rest goes of_size sizes =
    let same : goes.before.source.page_size ≡ page_size =
    all_at (λ (p : QueueEnd). p.source.page_size ≡ page_size) old j goes.before of_size (sym (rest.rest_ends j (omega arith)) ∙ goes.has_before) in
    All-append (λ (packet : Packet). packet.page_size ≡ page_size) packets more sizes
    (subst (λ (n : ℕ). All (λ (packet : Packet). packet.page_size ≡ n) more) same goes.has_page_size)

-- all channels
pub gone_all : (k j : ℕ) (places_before places : List ℕ)
    (old now : List QueueEnd) (statuses : List Status) (packets : List Packet) → Rest j places_before places old now
    → AreAtRound k places_before old → Gone k j places now statuses packets → length old ≤ j → HaveGone k places now statuses (map fields packets)
gone_all k j places_before places old now statuses packets rest are gone all =
    let ends : take j now ≡ now = take_all j now (let e = rest.same_ends in omega (arith, e, all)) in
    let there : take j places ≡ places = take_all j places (let e = rest.same_places in
    omega (arith, e, all, AllZip-long (λ (at : ℕ) (p : QueueEnd). IsAtRound k at p.passed) places_before old are)) in
    record {
      are_told = subst (All (HasEnough k)) ends gone.are_told;
      has_statuses = gone.has_statuses ∙ ap (λ (l : List QueueEnd). map (status_in k) (received_of l)) ends;
      has_packets = λ whole. gone.has_packets whole ∙ ap (λ (l : List QueueEnd). packets_in k (received_of l)) ends;
      goes_on = λ whole. subst (λ (l : List ℕ). AreAtRound (k + 1) l now) there (subst (AreAtRound (k + 1) (take j places)) ends (gone.goes_on whole));
    }

-- a channel has its place
pub has_place : (k j : ℕ) (places_before places : List ℕ) (old now : List QueueEnd) → Rest j places_before places old now
    → AreAtRound k places_before old → j < length old → j < length places
has_place k j places_before places old now rest are below =
    let e = rest.same_places in
    omega (arith, e, below, AllZip-long (λ (at : ℕ) (p : QueueEnd). IsAtRound k at p.passed) places_before old are)

-- the channel that comes next is where it was
pub next_at_round : (k j at : ℕ) (places_before places : List ℕ) (old now : List QueueEnd) → Rest j places_before places old now
    → AreAtRound k places_before old → j < length old
    → slice_get places j ≡ Some at → IfSome (slice_get now j) (λ p. IsAtRound k at p.passed)
next_at_round k j at places_before places old now rest are below is_at =
    let found = is_there now j (let e = rest.same_ends in omega (arith, e, below)) in
    subst (λ (o : Option QueueEnd). IfSome o (λ p. IsAtRound k at p.passed)) (sym found.1)
    (at_round k j at places_before places old now found.0 rest are is_at found.1)
