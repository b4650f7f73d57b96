-- A guest that is received over connections: what was taken of each.
use Rattle.std.proofs.Common.{ℕ, zero, suc, ◌≡◌, ◌≢◌, Result, Ok, Err, ◌+◌, ◌<◌, Bool, true, List, [], ◌∷◌, ◌++◌, length, map, get_or, Option, None, Some, refl}
use Rattle.std.proofs.Common.{sym, ap, subst, ◌∙◌, append_assoc, arith, inl, inr, add-one}
use Rattle.std.specs.Prelude.{IfOk, IsTrue}
use Rattle.std.specs.List.{AllZip}
use Rattle.std.specs.Io.KnownBytes.{Consumes, IsAtEnd}
use Rattle.std.proofs.lemmas.Bool.{false≢true}
use Rattle.std.proofs.lemmas.List.{append-nil, get_or-map, get_or-replicate, length-replicate}
use Rattle.mig_mem.specs.RamTable.{IsTable}
use Rattle.mig_mem.specs.Image.{Image}
use Rattle.mig_load_types.specs.declared.settings.LoadSettings.{LoadSettings}
use Rattle.mig_load_types.specs.Settings.{ram_settings}
use Rattle.mig_answer.specs.declared.verdict.Verdict.{Verdict}
use Rattle.mig_answer.specs.declared.verdict.Verdict.TheVariants.{Done}
use Rattle.mig_answer.specs.Texts.{Text, Texts, no_text, no_texts, ended_text, ended_texts}
use Rattle.mig_answer.specs.Growing.{GoesOn, GoOn}
use Rattle.mig_sources.specs.Reads.{ReadsSoFar, no_reads}
use Rattle.mig_sources.specs.declared.source.Source.{Source}
use Rattle.mig_sources.specs.declared.source.Source.TheVariants as source
use Rattle.mig_in_place.specs.Answer.{IsInPlaceAnswer}
use Rattle.mig_in_place.specs.Session.{InPlaceLoad, text_of, StandsFor}
use Rattle.mig_in_place.specs.Turns.{KeptSource, new_source, no_source, number_of, source_in, AtTurns, HaveCome, KeepsBytes, Pumps}
use Rattle.mig_in_place.specs.declared.source_reader.TurnFault.{TurnFault}
use Rattle.mig_in_place.specs.declared.source_reader.TurnFault.TheVariants as fault
use Rattle.mig_in_place.proofs.DoneStays.{stays_law}
use Rattle.mig_in_place.proofs.Sendings.{sent_law}
use Rattle.mig_uses.specs.ByTurns.{IsTakenOf, IsReceived, SentIsReceived}

taken_all : (bytes : List (Option (List ℕ))) (texts : List Text) → length bytes ≡ length texts
    → ((i : ℕ) → i < length texts → IsTakenOf (get_or bytes i None) (get_or texts i no_text)) → AllZip IsTakenOf bytes texts
taken_all [] [] same each = tt
taken_all [] (text ∷ texts) same each = absurd (omega (arith, same))
taken_all (b ∷ bytes) [] same each = absurd (omega (arith, same))
taken_all (b ∷ bytes) (text ∷ texts) same each = (each 0 (omega arith), taken_all bytes texts (omega (arith, same)) (λ i lt. each (suc i) (omega (arith, lt))))

nothing_of : (n : ℕ) (from : Source) → number_of from < n + 1 → text_of (no_texts n) from ≡ no_text
nothing_of n source.Main lt = refl
nothing_of n (source.Channel j) lt = get_or-replicate n j no_text no_text (omega (arith, lt))

module _ {O : Type 0} (reads : ReadsSoFar) (bytes : List (Option (List ℕ))) (n : ℕ) (many : length bytes ≡ n + 1)
    (old new : AtTurns O) (sources : old.sources ≡ map (new_source reads) bytes) (after : Texts)
    (come : HaveCome old new (no_texts n) after) where
  one_taken : (from : Source) → number_of from < n + 1 → IsTakenOf (get_or bytes (number_of from) None) (text_of after from)
  one_taken from lt =
      let c = come.comes from in
      let b : Option (List ℕ) = get_or bytes (number_of from) None in
      let first : source_in old.sources from ≡ new_source reads b =
      ap (λ (l : List KeptSource). get_or l (number_of from) no_source) sources
      ∙ get_or-map (new_source reads) bytes (number_of from) None no_source (omega (arith, many, lt)) in
      let nothing : text_of (no_texts n) from ≡ no_text = nothing_of n from lt in
      let taken : (text_of after from).bytes ≡ c.taken = c.is_taken ∙ ap (λ (t : Text). t.bytes ++ c.taken) nothing in
      let read : c.read ≡ (text_of after from).bytes ++ (source_in new.sources from).waiting =
      sym (ap (λ (s : KeptSource). s.waiting ++ c.read) first) ∙ c.none_lost ∙ ap (λ (l : List ℕ). l ++ (source_in new.sources from).waiting) (sym taken) in
      record {
        waiting = (source_in new.sources from).waiting;
        left = (source_in new.sources from).remaining;
        is_read = subst (λ (l : List ℕ). Consumes b (source_in new.sources from).remaining l) read
            (subst (λ (s : KeptSource). Consumes s.remaining (source_in new.sources from).remaining c.read) first c.is_read);
        is_over = λ ended. elim c.ends [
          | inl same ↦ absurd (false≢true (sym (same.0 ∙ ap (λ (t : Text). t.ended) nothing) ∙ ended))
          | inr over ↦ (over.none_wait, over.is_at_end)
        ];
      }

  pub all_taken : AllZip IsTakenOf bytes (after.main ∷ after.channels)
  all_taken = taken_all bytes (after.main ∷ after.channels)
      (let e = come.same_channels in omega (arith, many, e, length-replicate n no_text)) at
    where
      at : (i : ℕ) → i < length (after.main ∷ after.channels) → IsTakenOf (get_or bytes i None) (get_or (after.main ∷ after.channels) i no_text)
      at zero lt = one_taken source.Main (omega arith)
      at (suc j) lt = subst (λ (i : ℕ). IsTakenOf (get_or bytes i None) (get_or after.channels j no_text)) (add-one j)
          (one_taken (source.Channel j) (let e = come.same_channels in omega (arith, lt, e, length-replicate n no_text)))

-- what a pump of a new load leaves
pub received : {O : Type 0} (given : LoadSettings) (uuid : List ℕ) (first : Image) (reads : ReadsSoFar) (bytes : List
    (Option (List ℕ))) (n : ℕ) (old new : AtTurns O) (verdict : Verdict) → length bytes ≡ n + 1
    → old.sources ≡ map (new_source reads) bytes → StandsFor given uuid first (no_texts n) old.memory old.load → KeepsBytes old new → verdict ≡ new.load.verdict
    → IsReceived given uuid first bytes new.memory verdict
received given uuid first reads bytes n old new verdict many sources stands kept is =
    let x = kept given uuid first (no_texts n) stands in
    record {
      texts = x.0;
      are_taken = all_taken reads bytes n many old new sources x.0 x.1;
      rounds = new.load.rounds;
      is_answer = subst (λ (v : Verdict). IsInPlaceAnswer given uuid first x.0 new.memory new.load.rounds v) (sym is) x.2.is_answer;
    }

-- so it is at each answer of the pump
pub received_by : {O : Type 0} (chooses : O → InPlaceLoad → ℕ → O
    → Type 0) (most : ℕ) (given : LoadSettings) (uuid : List ℕ) (first : Image) (bytes : List (Option (List ℕ))) (n : ℕ) (old new : AtTurns O)
    (result : Result Verdict TurnFault) → length bytes ≡ n + 1 → old.sources ≡ map (new_source no_reads) bytes
    → StandsFor given uuid first (no_texts n) old.memory old.load
    → Pumps chooses most result old new → (result ≢ Err fault.NoMemory → KeepsBytes old new) → IfOk result (IsReceived given uuid first bytes new.memory)
received_by chooses most given uuid first bytes n old new (Ok verdict) many sources stands pumps kept =
    received given uuid first no_reads bytes n old new verdict many sources stands (kept (λ e. absurd cc)) pumps.5
received_by chooses most given uuid first bytes n old new (Err e) many sources stands pumps kept = tt

-- ---- what a sender sent

-- the bytes of a connection go on behind those that were taken of it, up to its end
goes_one : (bytes : List ℕ) (text : Text) → IsTakenOf (Some bytes) text → GoesOn text (ended_text bytes)
goes_one bytes text taken = left_is taken.left taken.is_read taken.is_over
  where
    left_is : (left : Option (List ℕ)) → Consumes (Some bytes) left (text.bytes ++ taken.waiting)
        → (IsTrue text.ended → (taken.waiting ≡ []) × IsAtEnd left) → GoesOn text (ended_text bytes)
    left_is None read over = absurd read
    left_is (Some left) read over = record {
      more = taken.waiting ++ left;
      has_bytes = read ∙ append_assoc text.bytes taken.waiting left;
      stays_ended = λ ended.
          let none = over ended in
          let all : bytes ≡ text.bytes =
          read ∙ ap (λ (l : List ℕ). (text.bytes ++ l) ++ left) none.0 ∙ ap (λ (l : List ℕ). (text.bytes ++ []) ++ l) none.1
          ∙ append-nil (text.bytes ++ []) ∙ append-nil text.bytes in
          ap (λ (l : List ℕ). record { bytes = l; ended = true }) all ∙ ap (λ (b : Bool). record { bytes = text.bytes; ended = b }) (sym ended);
    }

goes_each : (bytes : List (List ℕ)) (texts : List Text) → AllZip IsTakenOf (map Some bytes) texts → AllZip GoesOn texts (map ended_text bytes)
goes_each [] [] taken = tt
goes_each [] (text ∷ texts) taken = absurd taken
goes_each (b ∷ bytes) [] taken = absurd taken
goes_each (b ∷ bytes) (text ∷ texts) taken = (goes_one b text taken.0, goes_each bytes texts taken.1)

-- if a load over connections is done, and they gave what was sent to the memory's table, the memory
-- has the rounds sent on top of what it held
pub sent_received : (limit : ℕ) (uuid : List ℕ) (first memory : Image) (connections : List (Option (List ℕ)))
    → IsReceived (ram_settings first.table.page_size limit) uuid first connections memory Done → SentIsReceived limit uuid first connections memory
sent_received limit uuid first memory connections is = λ rounds main channels from is_image is_memory sent room.
    let is_table : IsTable first.table = sent.is_sending.is_set.has_table in
    let taken : AllZip IsTakenOf (map Some (main ∷ channels)) (is.texts.main ∷ is.texts.channels) =
    subst (λ (l : List (Option (List ℕ))). AllZip IsTakenOf l (is.texts.main ∷ is.texts.channels)) from is.are_taken in
    let goes : GoOn is.texts (ended_texts main channels) = record {
      main = goes_one main is.texts.main taken.0;
      channels = goes_each channels is.texts.channels taken.1;
    } in
    let there = stays_law (ram_settings first.table.page_size limit) uuid first is.texts
    (ended_texts main channels) memory is.rounds is_table is_image is_memory goes is.is_answer in
    (sent_law uuid limit first rounds main true channels memory is.rounds Done is_table is_image is_memory sent room there).2
