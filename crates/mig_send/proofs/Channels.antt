-- The bytes of all channels, by the channels' numbers.
use Rattle.std.proofs.Common.{ℕ, ◌≡◌, ◌+◌, ◌<◌, List, [], ◌∷◌, ◌++◌, length, map, get_or, take, ap, sym, refl, ◌∙◌, arith, zero, suc, append-nil, append_assoc}
use Rattle.std.specs.Prelude.{Vec, flat_map, vec_len}
use Rattle.std.specs.List.{AllZip, range_with_len, slice_set}
use Rattle.std.proofs.Math.Seq.{take-append_seam}
use Rattle.std.proofs.lemmas.List.{map_push, length-map}
use Rattle.std.proofs.lemmas.Slice.Zip.{AllZip-long}
use Rattle.std.proofs.lemmas.List.FromFn.{length-map-range_with_len, get_or-map-range_with_len}
use Rattle.std.proofs.lemmas.Grind.{flat_map-append}
use Rattle.mig_deal.proofs.Counts.{range_push}
use Rattle.mig_packet.specs.Hello.{written_hello}
use Rattle.mig_send.specs.Packing.{IsPrefix}
use Rattle.mig_send.specs.DealtRounds.{DealtRound, round_text, channel_text}
use Rattle.mig_send.specs.MultiSending.{texts_of, cut_texts}

-- what is made of the numbers from 0 on, and of one number more
pub one_more : {X : Type 0} (f : ℕ → X) (n : ℕ) → map f (range_with_len 0 n) ++ f n ∷ [] ≡ map f (range_with_len 0 (n + 1))
one_more f n =
    let last : n ≡ 0 + n = omega arith in
    let long : suc n ≡ n + 1 = omega arith in
    sym (map_push f (range_with_len 0 n) n)
    ∙ (ap (λ (k : ℕ). map f (range_with_len 0 n ++ k ∷ [])) last
    ∙ (ap (map f) (sym (range_push 0 n)) ∙ ap (λ (k : ℕ). map f (range_with_len 0 k)) long))

-- there are as many hellos as channels
pub hellos_long : (uuid : List ℕ) (channels : ℕ) (texts : List (List ℕ))
    → texts ≡ map (written_hello uuid) (range_with_len 0 channels) → length texts ≡ channels
hellos_long uuid channels texts is = ap length is ∙ length-map-range_with_len (written_hello uuid) 0 channels

-- before any round a channel has its hello alone
pub hello_alone : (uuid : List ℕ) (channels : ℕ) (texts : List (List ℕ)) → texts ≡ map (written_hello uuid) (range_with_len 0 channels)
    → (channel : ℕ) → channel < length texts → get_or texts channel [] ≡ channel_text uuid [] channel
hello_alone uuid channels texts is channel lt =
    let long = hellos_long uuid channels texts is in
    ap (λ (l : List (List ℕ)). get_or l channel []) is
    ∙ (get_or-map-range_with_len (written_hello uuid) 0 channels channel channel [] (omega (arith, lt, long)) (omega arith)
    ∙ sym (append-nil (written_hello uuid channel)))

-- a channel's bytes with one round more
pub text_push : (uuid : List ℕ) (rounds : List DealtRound) (round : DealtRound) (channel : ℕ)
    → channel_text uuid (rounds ++ round ∷ []) channel ≡ channel_text uuid rounds channel ++ round_text channel round
text_push uuid rounds round channel =
    ap (λ (l : List ℕ). written_hello uuid channel ++ l) (flat_map-append (round_text channel) rounds (round ∷ [])
    ∙ ap (λ (l : List ℕ). flat_map (round_text channel) rounds ++ l) (append-nil (round_text channel round)))
    ∙ sym (append_assoc (written_hello uuid channel) (flat_map (round_text channel) rounds) (round_text channel round))

-- ---- bytes that are cut back

-- with the bytes of the first i channels cut, cutting channel i gives those of the first i + 1 cut
pub cut_more : (lens : List ℕ) (texts : List (List ℕ)) (i : ℕ) → i < length lens → i < length (cut_texts (take i lens) texts)
    → slice_set (cut_texts (take i lens) texts) i (take (get_or lens i 0) (get_or (cut_texts (take i lens) texts) i [])) ≡ cut_texts (take (suc i) lens) texts
cut_more [] texts i lt within = absurd (omega (arith, lt))
cut_more (n ∷ lens) [] zero lt within = absurd (omega (arith, within))
cut_more (n ∷ lens) [] (suc i) lt within = absurd (omega (arith, within))
cut_more (n ∷ lens) (t ∷ texts) zero lt within = refl
cut_more (n ∷ lens) (t ∷ texts) (suc i) lt within = ap (λ (l : List (List ℕ)). take n t ∷ l) (cut_more lens texts i (omega (arith, lt)) (omega (arith, within)))

-- if each channel's bytes begin with what they were, there are as many channels as before
pub prefix_long : {A : Type 0} (before after : List (Vec ℕ A)) → AllZip IsPrefix (texts_of before) (texts_of after) → length after ≡ length before
prefix_long {A} before after zip =
    let items : Vec ℕ A → List ℕ = λ text. text.items in
    omega (arith, AllZip-long IsPrefix (texts_of before) (texts_of after) zip, length-map before items, length-map after items)

-- bytes that go on from what they were are that again, once they are cut to its length
pub cut_whole : {A : Type 0} (before : List (Vec ℕ A)) (after : List (List ℕ)) → AllZip IsPrefix (texts_of before) after
    → cut_texts (map (λ (text : Vec ℕ A). vec_len text) before) after ≡ texts_of before
cut_whole [] [] zip = refl
cut_whole [] (t ∷ after) zip = absurd zip
cut_whole (b ∷ before) [] zip = absurd zip
cut_whole (b ∷ before) (t ∷ after) zip =
    let len : vec_len b ≡ length b.items = b.ok.0 in
    let front : take (vec_len b) t ≡ b.items = ap (λ (n : ℕ). take n t) len
    ∙ (ap (take (length b.items)) zip.0.is_text ∙ take-append_seam b.items zip.0.rest) in
    ap (λ (l : List ℕ). l ∷ cut_texts (map (λ (text : Vec ℕ _). vec_len text) before) after) front
    ∙ ap (λ (l : List (List ℕ)). b.items ∷ l) (cut_whole before after zip.1)

-- bytes that begin with what they were, cut to the lengths they had, are what they were
pub cut_same : {A : Type 0} (before : List (Vec ℕ A)) (after : List (List ℕ)) (lens : List ℕ) (cut : List (List ℕ)) → AllZip IsPrefix (texts_of before) after
    → lens ≡ map (λ (text : Vec ℕ A). vec_len text) before → cut ≡ cut_texts lens after → cut ≡ texts_of before
cut_same before after lens cut zip are is = is ∙ (ap (λ (l : List ℕ). cut_texts l after) are ∙ cut_whole before after zip)
