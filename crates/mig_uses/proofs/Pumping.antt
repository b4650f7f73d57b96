-- Two sources that are pumped to their end, one after another.
use Rattle.std.proofs.Common.{ℕ, ◌≡◌, List, [], ◌∷◌, ◌++◌, sym, ap, subst, ◌∙◌, append-nil, append_assoc, Option, None, Some, Ok, true}
use Rattle.std.specs.List.{concat}
use Rattle.std.specs.Io.KnownBytes.{Consumes, IsAtEnd}
use Rattle.mig_sources.specs.declared.source.Source.TheVariants as source
use Rattle.mig_answer.specs.Texts.{Text, Texts, no_text, no_texts, with_piece, ended_texts}
use Rattle.mig_load_types.specs.Settings.{ram_settings}
use Rattle.mig_session.specs.Session.{LoadSession, StandsFor, StepsOn}
use Rattle.mig_sources.specs.Sources.{end_step}
use Rattle.mig_session.specs.Pumping.{piece_steps, pump_step}

-- a main stream and one channel
abbrev pub both : Text → Text → Texts
both main channel = record { main = main; channels = channel ∷ [] }

-- pieces that are fed one after another are fed as one
main_fed : (pieces : List (List ℕ)) (main channel : Text) → piece_steps source.Main pieces (both main channel) ≡ both (with_piece (concat pieces) main) channel
main_fed [] main channel = ap (λ (l : List ℕ). both (record main { bytes = l }) channel) (sym (append-nil main.bytes))
main_fed (piece ∷ pieces) main channel =
    main_fed pieces (with_piece piece main) channel
    ∙ ap (λ (l : List ℕ). both (record main { bytes = l }) channel) (append_assoc main.bytes piece (concat pieces))

channel_fed : (pieces : List (List ℕ)) (main channel : Text)
    → piece_steps (source.Channel 0) pieces (both main channel) ≡ both main (with_piece (concat pieces) channel)
channel_fed [] main channel = ap (λ (l : List ℕ). both main (record channel { bytes = l })) (sym (append-nil channel.bytes))
channel_fed (piece ∷ pieces) main channel =
    channel_fed pieces main (with_piece piece channel)
    ∙ ap (λ (l : List ℕ). both main (record channel { bytes = l })) (append_assoc channel.bytes piece (concat pieces))

-- a reader that is at its end has given all that it had
pub all_read : (text bytes : List ℕ) (before rest : Option (List ℕ)) → before ≡ Some text → Consumes before rest bytes → IsAtEnd rest → bytes ≡ text
all_read text bytes None rest is given done = absurd cc
all_read text bytes (Some xs) None is given done = absurd given
all_read text bytes (Some xs) (Some ys) is given done =
    let same : xs ≡ text = cc in
    sym (append-nil bytes) ∙ (ap (λ (l : List ℕ). bytes ++ l) (sym done) ∙ (sym given ∙ same))

-- the session then has both streams, and both have ended
pub loads_both : (page_size : ℕ) (uuid : List ℕ) (limit : ℕ) (main_text channel_text : List ℕ) (ps qs : List (List ℕ)) (m n : ℕ) (a b c : LoadSession)
    → StandsFor (ram_settings page_size limit) uuid (no_texts 1) a → StepsOn (pump_step source.Main ps (Ok m)) a b
    → StepsOn (pump_step (source.Channel 0) qs (Ok n)) b c
    → concat ps ≡ main_text → concat qs ≡ channel_text → StandsFor (ram_settings page_size limit) uuid (ended_texts main_text (channel_text ∷ [])) c
loads_both page_size uuid limit main_text channel_text ps qs m n a b c stands first second whole_main whole_channel =
    let over : Text → Text = λ (t : Text). record t { ended = true } in
    let main : Text = over (with_piece (concat ps) no_text) in
    let after_main : StandsFor (ram_settings page_size limit) uuid (both main no_text) b =
    subst (λ (t : Texts). StandsFor (ram_settings page_size limit) uuid (end_step source.Main t) b) (main_fed ps no_text no_text)
    (first (ram_settings page_size limit) uuid (no_texts 1) stands) in
    let after_both : StandsFor (ram_settings page_size limit) uuid (both main (over (with_piece (concat qs) no_text))) c =
    subst (λ (t : Texts). StandsFor (ram_settings page_size limit) uuid (end_step (source.Channel 0) t) c)
    (channel_fed qs main no_text) (second (ram_settings page_size limit) uuid (both main no_text) after_main) in
    subst (λ (l : List ℕ). StandsFor (ram_settings page_size limit) uuid (ended_texts main_text (l ∷ [])) c) whole_channel
    (subst (λ (l : List ℕ). StandsFor (ram_settings page_size limit) uuid (ended_texts l (concat qs ∷ [])) c) whole_main after_both)
