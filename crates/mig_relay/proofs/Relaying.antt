-- The load of complete streams on several channels: their relay, the answer where an allocation was
-- refused, and what was sent.
use Rattle.std.proofs.Common.{ℕ, ◌≡◌, ◌≤◌, List, length, refl, sym, inl, inr, arith, subst}
use Rattle.std.specs.Prelude.{◌⊎◌}
use Rattle.mig_mem.specs.PageSize.{IsPageSize}
use Rattle.mig_mem.specs.RamTable.{RamTable}
use Rattle.mig_stream.specs.declared.item.Frame.TheVariants.{Ram, Machine}
use Rattle.mig_stream.specs.Text.{total_bytes}
use Rattle.mig_send.specs.DealtRounds.{DealtRound}
use Rattle.mig_load_types.specs.Settings.{ram_settings}
use Rattle.mig_load_types.specs.declared.settings.LoadSettings.{LoadSettings}
use Rattle.mig_load_types.specs.declared.settings.RoundEnd.TheVariants.{Flush as by_flush}
use Rattle.mig_load_types.specs.declared.loaded.Loaded.{Loaded}
use Rattle.mig_single_load.specs.SingleLoad.{unloaded}
use Rattle.mig_answer.specs.Texts.{Texts, ended_texts}
use Rattle.mig_answer.specs.MultiLoad.{Answer, IsAnswer, IsWithoutMemory, IsAnswerOrWithoutMemory, answer_of}
use Rattle.mig_answer.specs.Sent.{LetsChannelsThrough, IsSentInAnyOrder, IsSentBefore, IsMachineSentInAnyOrder, sent_answer}
use Rattle.mig_relay.specs.RelayItems.{QueueEnd}
use Rattle.mig_relay.specs.Multi.{AnswersRelay}
use Rattle.mig_answer.proofs.OneAnswer.{some_readings}
use Rattle.mig_answer.proofs.Headline.{sendings_are_loaded}
use Rattle.mig_answer.proofs.SentWithin.{sendings_are_loaded_within, machine_sendings_are_loaded}

-- ---- an allocation was refused before any round

-- the answer that nothing was loaded is one without memory, on any streams
pub is_without_memory : {A : Type 0} (given : LoadSettings) (uuid : List ℕ) (texts : Texts) (loaded : Loaded A) → IsPageSize given.page_size → loaded ≡ unloaded
    → IsWithoutMemory given uuid texts (answer_of loaded)
is_without_memory given uuid texts loaded size is =
    let found = some_readings given uuid texts size in
    subst (λ (l : Loaded _). IsWithoutMemory given uuid texts (answer_of l)) (sym is)
    (record {
      readings = found.0;
      are_readings = found.1;
      have_passed = λ j below. absurd (omega (arith, below));
      has_memory = inr (refl, refl);
      has_verdict = refl;
    })

-- the answer that nothing was loaded is one on any relay
pub refused_answers : {A : Type 0} (given : LoadSettings) (main : List ℕ) (ends : List QueueEnd) (loaded : Loaded A)
    → loaded ≡ unloaded → AnswersRelay given main ends loaded
refused_answers given main ends loaded is = λ uuid texts size relay. (inr (is_without_memory given uuid (ended_texts main texts) loaded size is), inr is)

-- ---- what was sent

-- an answer on streams that were sent, the channels in any order, is done, with all rounds, or one
-- without memory
pub sending_is_loaded : (p : ℕ) (uuid : List ℕ) (limit : ℕ) (main : List ℕ) (channels : List (List ℕ)) (answer : Answer)
    → IsAnswerOrWithoutMemory (ram_settings p limit) uuid (ended_texts main channels) answer
    → (table : RamTable) (rounds : List DealtRound) → IsSentInAnyOrder table uuid rounds main channels → table.page_size ≡ p → total_bytes table ≤ limit
    → (answer ≡ sent_answer table rounds) ⊎ IsWithoutMemory (ram_settings p limit) uuid (ended_texts main channels) answer
sending_is_loaded p uuid limit main channels answer (inl is) = λ table rounds sent size room.
    inl (sendings_are_loaded table uuid limit rounds main channels answer sent room
    (subst (λ n. IsAnswer (ram_settings n limit) uuid (ended_texts main channels) answer) (sym size) is))
sending_is_loaded p uuid limit main channels answer (inr refused) = λ table rounds sent size room. inr refused

-- an answer on streams that were sent, within a limit that lets their rounds through, whatever
-- follows them, is done, with all rounds, or one without memory
pub sending_is_loaded_within : (given : LoadSettings) (uuid : List ℕ) (main : List ℕ) (channels : List (List ℕ)) (answer : Answer)
    → IsAnswerOrWithoutMemory given uuid (ended_texts main channels) answer
    → (table : RamTable) (rounds : List DealtRound) → IsSentBefore table uuid rounds main channels
    → given.frame ≡ Ram → LetsChannelsThrough given.waiting (length channels) rounds → given.round_end ≡ by_flush
    → table.page_size ≡ given.page_size → total_bytes table ≤ given.limit
    → (answer ≡ sent_answer table rounds) ⊎ IsWithoutMemory given uuid (ended_texts main channels) answer
sending_is_loaded_within given uuid main channels answer (inl is) = λ table rounds sent frame lets flushes size room.
    inl (sendings_are_loaded_within given table uuid rounds main channels answer frame lets flushes size room sent is)
sending_is_loaded_within given uuid main channels answer (inr refused) = λ table rounds sent frame lets flushes size room. inr refused

-- an answer on a machine's streams that were sent, within a limit that lets their rounds through,
-- is done, with all rounds, or one without memory
pub machine_sending_is_loaded : (given : LoadSettings) (uuid : List ℕ) (main : List ℕ) (channels : List (List ℕ)) (answer : Answer)
    → IsAnswerOrWithoutMemory given uuid (ended_texts main channels) answer
    → (table : RamTable) (rounds : List DealtRound) → IsMachineSentInAnyOrder table uuid rounds main channels
    → given.frame ≡ Machine → LetsChannelsThrough given.waiting (length channels) rounds → given.round_end ≡ by_flush
    → table.page_size ≡ given.page_size → total_bytes table ≤ given.limit
    → (answer ≡ sent_answer table rounds) ⊎ IsWithoutMemory given uuid (ended_texts main channels) answer
machine_sending_is_loaded given uuid main channels answer (inl is) = λ table rounds sent frame lets flushes size room.
    inl (machine_sendings_are_loaded given table uuid rounds main channels answer frame lets flushes size room sent is)
machine_sending_is_loaded given uuid main channels answer (inr refused) = λ table rounds sent frame lets flushes size room. inr refused
