-- A sender on several channels that has sent one round more, or was drained, or is finished.
use Rattle.std.proofs.Common.{ℕ, ◌≡◌, ◌+◌, ◌<◌, List, [], ◌∷◌, ◌++◌, length, replicate, get_or, ap, sym, subst, refl, ◌∙◌, arith, zero, suc, inl, inr}
use Rattle.std.proofs.Common.{append-nil, append_assoc}
use Rattle.std.specs.Prelude.{sum_by, Vec}
use Rattle.std.specs.List.{range_with_len}
use Rattle.std.specs.List.{slice_set}
use Rattle.std.specs.Prelude.{Bool, ◌==◌, if◌then◌else◌}
use Rattle.std.proofs.lemmas.List.{length-append, length-map, map-set, get_or-map, get_or-set_other}
use Rattle.std.proofs.lemmas.Grind.{get_or-set_at}
use Rattle.std.proofs.lemmas.Bool.{cases_Bool, eqb-true, eqb-false}
use Rattle.mig_mem.proofs.Members.{map_agree, All-range}
use Rattle.std.proofs.lemmas.List.Elements.{All-push}
use Rattle.std.proofs.lemmas.List.Sums.{sum_by-append}
use Rattle.mig_stream.specs.Written.{Part, FlushPart, main}
use Rattle.mig_stream.specs.Writer.{Writer, HasDrained}
use Rattle.mig_send.specs.DealtRounds.{DealtRound, IsDealtRound, IsSending, AreNumbered, packet_count, round_text, channel_text, channel_texts}
use Rattle.mig_send.specs.MultiSending.{MultiSending, IsMultiSending, Drained, HasSentRounds, KeepsSetting, KeepsCounts, with_main, with_channel, whole_texts}
use Rattle.mig_send.specs.MultiSending.{texts_of}
use Rattle.mig_send.proofs.Channels.{text_push}

-- ---- one round more

numbered_push : (from : ℕ) (rounds : List DealtRound) (round : DealtRound) → AreNumbered from rounds → round.base ≡ from + sum_by packet_count rounds
    → AreNumbered from (rounds ++ round ∷ [])
numbered_push from [] round are next = (omega (arith, next), tt)
numbered_push from (first ∷ rounds) round are next =
    (are.0, numbered_push (from + packet_count first) rounds round are.1 (omega (arith, next, sum_by-append packet_count (first ∷ []) rounds)))

replicate_push : {X : Type 0} (n : ℕ) (x : X) → replicate n x ++ x ∷ [] ≡ replicate (suc n) x
replicate_push zero x = refl
replicate_push (suc n) x = ap (λ l. x ∷ l) (replicate_push n x)

-- what a FLUSH more does to the main stream's writer
abbrev pub HasFlushed : Writer → Writer → Type 0
HasFlushed old new = (drained : List ℕ) (parts : List Part) → HasDrained drained old parts → HasDrained drained new (parts ++ FlushPart ∷ [])

-- each channel carries its part of the round after what it had
abbrev pub HaveRound : DealtRound → List (List ℕ) → List (List ℕ) → Type 0
HaveRound round old new = (channel : ℕ) → channel < length old → get_or new channel [] ≡ get_or old channel [] ++ round_text channel round

-- so does a sender of whose channels bytes were drained meanwhile
pub sent_on : (old new : MultiSending) (round : DealtRound) (before after : Drained) → KeepsSetting old new
    → IsDealtRound old.main.table old.limit (length old.channels) round
    → round.base ≡ old.base → new.base ≡ old.base + packet_count round → new.rounds ≡ old.rounds + 1
    → HasFlushed old.main new.main → after.main ≡ before.main
    → ((channel : ℕ) → channel < length old.channels
    → after.channel channel ++ get_or new.channels channel [] ≡ (before.channel channel ++ get_or old.channels channel []) ++ round_text channel round)
    → (rounds : List DealtRound) → HasSentRounds before old rounds → HasSentRounds after new (rounds ++ round ∷ [])
sent_on old new round before after keeps dealt goes_on base count flushed same_main have rounds sent =
    let long : length (rounds ++ round ∷ []) ≡ suc (length rounds) = omega (arith, length-append rounds (round ∷ [])) in
    let sum : sum_by packet_count (rounds ++ round ∷ []) ≡ sum_by packet_count rounds + packet_count round =
    omega (arith, sum_by-append packet_count rounds (round ∷ [])) in
    let are = All-push (IsDealtRound old.main.table old.limit (length old.channels)) rounds round sent.are_dealt dealt in
    record {
      are_dealt = rw (keeps.same_table, keeps.same_limit, keeps.as_many) are;
      are_numbered = numbered_push 0 rounds round sent.are_numbered (omega (arith, goes_on, sent.has_base));
      has_main = subst (λ (d : List ℕ). HasDrained d new.main (replicate (length (rounds ++ round ∷ [])) FlushPart)) (sym same_main)
          (subst (λ (l : List Part). HasDrained before.main new.main l)
          (replicate_push (length rounds) FlushPart ∙ ap (λ (n : ℕ). replicate n FlushPart) (sym long))
          (flushed before.main (replicate (length rounds) FlushPart) sent.has_main));
      has_texts = λ channel lt.
          let below : channel < length old.channels = omega (arith, lt, keeps.as_many) in
          have channel below
          ∙ (ap (λ (l : List ℕ). l ++ round_text channel round) (sent.has_texts channel below)
          ∙ (sym (text_push old.uuid rounds round channel) ∙ ap (λ (u : List ℕ). channel_text u (rounds ++ round ∷ []) channel) (sym keeps.same_uuid)));
      has_base = omega (arith, base, sum, sent.has_base);
      has_rounds = omega (arith, count, long, sent.has_rounds);
    }

-- with a FLUSH more, and a dealt round's bytes more on each channel, a sender has sent that round
pub sent_more : (old new : MultiSending) (round : DealtRound) → KeepsSetting old new → IsDealtRound old.main.table old.limit (length old.channels) round
    → round.base ≡ old.base → new.base ≡ old.base + packet_count round → new.rounds ≡ old.rounds + 1
    → HasFlushed old.main new.main → HaveRound round old.channels new.channels
    → (drained : Drained) (rounds : List DealtRound) → HasSentRounds drained old rounds → HasSentRounds drained new (rounds ++ round ∷ [])
sent_more old new round keeps dealt goes_on base count flushed have drained rounds sent =
    sent_on old new round drained drained keeps dealt goes_on base count flushed refl
    (λ channel below. ap (λ (l : List ℕ). drained.channel channel ++ l) (have channel below)
    ∙ sym (append_assoc (drained.channel channel) (get_or old.channels channel []) (round_text channel round))) rounds sent

-- two lists with as many buffers have as many contents
pub texts_long : {A : Type 0} (xs ys : List (Vec ℕ A)) → length xs ≡ length ys → length (texts_of xs) ≡ length (texts_of ys)
texts_long xs ys same = let f = λ (text : Vec ℕ _). text.items in length-map xs f ∙ (same ∙ sym (length-map ys f))

-- a sender that is the same keeps its setting
pub unchanged : (old new : MultiSending) → new ≡ old → KeepsSetting old new
unchanged old new same = record {
  same_table = ap (λ (s : MultiSending). s.main.table) same;
  same_uuid = ap (λ (s : MultiSending). s.uuid) same;
  same_limit = ap (λ (s : MultiSending). s.limit) same;
  as_many = ap (λ (s : MultiSending). length s.channels) same;
}

-- ---- drained

-- once bytes of the main stream are drained, the sender has still sent the same rounds
pub drained_main : (old new : MultiSending) (bytes : List ℕ) → KeepsCounts old new → new.channels ≡ old.channels
    → ((drained : List ℕ) (parts : List Part) → HasDrained drained old.main parts → HasDrained (drained ++ bytes) new.main parts)
    → (drained : Drained) (rounds : List DealtRound) → HasSentRounds drained old rounds → HasSentRounds (with_main drained bytes) new rounds
drained_main old new bytes keeps same more drained rounds sent =
    let setting = keeps.same_setting in
    let are = sent.are_dealt in
    record {
      are_dealt = rw (setting.same_table, setting.same_limit, setting.as_many) are;
      are_numbered = sent.are_numbered;
      has_main = more drained.main (replicate (length rounds) FlushPart) sent.has_main;
      has_texts = λ channel lt. rw (same, setting.same_uuid) (sent.has_texts channel (omega (arith, lt, setting.as_many)));
      has_base = keeps.same_base ∙ sent.has_base;
      has_rounds = keeps.same_rounds ∙ sent.has_rounds;
    }

-- a channel's bytes are the same in all, whichever of it were drained
drained_text : {A : Type 0} (olds : List (Vec ℕ A)) (at : ℕ) (none : Vec ℕ A) (bytes : List ℕ) (drained : Drained) (channel : ℕ)
    → channel < length olds → at < length olds
    → bytes ≡ (get_or olds at none).items → (whole : List ℕ) → drained.channel channel ++ get_or (texts_of olds) channel [] ≡ whole
    → (news : List (List ℕ)) → news ≡ slice_set (texts_of olds) at [] → (with_channel drained at bytes).channel channel ++ get_or news channel [] ≡ whole
drained_text olds at none bytes drained channel lt inside given whole sent news moved =
    let f = λ (text : Vec ℕ _). text.items in
    let in_texts : at < length (texts_of olds) = omega (arith, inside, length-map olds f) in
    let there = get_or-map f olds at none [] inside in
    ap (λ (l : List (List ℕ)). (with_channel drained at bytes).channel channel ++ get_or l channel []) moved
    ∙ elim (cases_Bool (channel == at)) as (λ _. (if channel == at then drained.channel channel
    ++ bytes else drained.channel channel) ++ get_or (slice_set (texts_of olds) at []) channel [] ≡ whole) [
      | inl is ↦ let same : channel ≡ at = eqb-true channel at is in
          ap (λ (b : Bool). (if b then drained.channel channel ++ bytes else drained.channel channel) ++ get_or (slice_set (texts_of olds) at []) channel []) is
          ∙ (ap (λ (l : List ℕ). (drained.channel channel ++ bytes) ++ l) (get_or-set_at (texts_of olds) at channel [] [] same in_texts)
          ∙ (append-nil (drained.channel channel ++ bytes)
          ∙ (ap (λ (l : List ℕ). drained.channel channel ++ l) (given ∙ (sym there ∙ ap (λ (n : ℕ). get_or (texts_of olds) n []) (sym same))) ∙ sent)))
      | inr isn ↦ ap (λ (b : Bool). (if b then drained.channel channel ++ bytes else drained.channel channel) ++ get_or
          (slice_set (texts_of olds) at []) channel []) isn
          ∙ (ap (λ (l : List ℕ). drained.channel channel ++ l) (get_or-set_other (texts_of olds) at channel [] [] (eqb-false channel at isn)) ∙ sent)
    ]

-- once all bytes of a channel are drained, the sender has still sent the same rounds
pub drained_channel : {A : Type 0} (old new : MultiSending) (olds : List (Vec ℕ A)) (at : ℕ)
    (emptied none : Vec ℕ A) (bytes : List ℕ) → KeepsCounts old new → new.main ≡ old.main
    → old.channels ≡ texts_of olds → new.channels ≡ texts_of (slice_set olds at emptied) → emptied.items ≡ [] → at < length olds
    → bytes ≡ (get_or olds at none).items
    → (drained : Drained) (rounds : List DealtRound) → HasSentRounds drained old rounds → HasSentRounds (with_channel drained at bytes) new rounds
drained_channel old new olds at emptied none bytes keeps main was is empty inside given drained rounds sent =
    let setting = keeps.same_setting in
    let are = sent.are_dealt in
    let f = λ (text : Vec ℕ _). text.items in
    let moved : new.channels ≡ slice_set (texts_of olds) at [] = is ∙ (map-set f olds at emptied ∙ ap (λ (l : List ℕ). slice_set (texts_of olds) at l) empty) in
    record {
      are_dealt = rw (setting.same_table, setting.same_limit, setting.as_many) are;
      are_numbered = sent.are_numbered;
      has_main = rw main sent.has_main;
      has_texts = λ channel lt. drained_text olds at none bytes drained channel
          (omega (arith, lt, setting.as_many, ap length was, length-map olds f)) inside given
          (channel_text old.uuid rounds channel)
          (ap (λ (l : List (List ℕ)). drained.channel channel ++ get_or l channel []) (sym was)
          ∙ sent.has_texts channel (omega (arith, lt, setting.as_many))) new.channels moved
          ∙ ap (λ (u : List ℕ). channel_text u rounds channel) (sym setting.same_uuid);
      has_base = keeps.same_base ∙ sent.has_base;
      has_rounds = keeps.same_rounds ∙ sent.has_rounds;
    }

-- ---- finished

-- if each channel's drained bytes and the rest are its hello and rounds, so are all channels' bytes
pub whole : (uuid : List ℕ) (rounds : List DealtRound) (drained : Drained) (channels : List (List ℕ))
    → ((channel : ℕ) → channel < length channels → drained.channel channel ++ get_or channels channel [] ≡ channel_text uuid rounds channel)
    → whole_texts drained channels ≡ channel_texts uuid (length channels) rounds
whole uuid rounds drained channels each =
    map_agree (λ channel. drained.channel channel ++ get_or channels channel []) (channel_text uuid rounds) (range_with_len 0 (length channels))
    (All-range (λ channel. drained.channel channel ++ get_or channels channel [] ≡ channel_text uuid rounds channel) 0
    (length channels) (λ k low high. each k (omega (arith, high))))

-- A sender's rounds are a sending, whose main stream is what the writer's end makes of them.
pub sending_of : (sender : MultiSending) (drained : Drained) (rounds : List DealtRound) (main_text : List ℕ)
    → IsMultiSending sender → HasSentRounds drained sender rounds
    → main_text ≡ main sender.main.table (length rounds)
    → IsSending sender.main.table sender.uuid sender.limit (length sender.channels) rounds main_text (whole_texts drained sender.channels)
sending_of sender drained rounds main_text is sent has = record {
  is_set = is.is_set;
  are_dealt = sent.are_dealt;
  are_numbered = sent.are_numbered;
  numbers_fit = omega (arith, sent.has_base, is.has_base);
  has_main = has;
  has_texts = whole sender.uuid rounds drained sender.channels sent.has_texts;
}
