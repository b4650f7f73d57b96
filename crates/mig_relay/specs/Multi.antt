-- The load of a relay's items with a complete main stream: the answer on the channels of the relay,
-- or that after a refused allocation; and what it says of the streams.
use Rattle.std.specs.Prelude.{ℕ, List}
use Rattle.mig_mem.specs.PageSize.{IsPageSize}
use Rattle.mig_load_types.specs.declared.settings.LoadSettings.{LoadSettings}
use Rattle.mig_load_types.specs.declared.loaded.Loaded.{Loaded}
use Rattle.mig_answer.specs.Texts.{ended_texts}
use Rattle.mig_answer.specs.MultiLoad.{IsAnswerOrWithoutMemory, SaysOfStreamsOrNothing, answer_of}
use Rattle.mig_relay.specs.RelayItems.{QueueEnd}
use Rattle.mig_relay.specs.Relayed.{IsRelayOf}

abbrev pub AnswersRelay : {A : Type 0} → LoadSettings → List ℕ → List QueueEnd → Loaded A → Type 0
AnswersRelay given main ends loaded = (uuid : List ℕ) (texts : List (List ℕ)) → IsPageSize given.page_size → IsRelayOf given.page_size given.waiting uuid texts ends
    → IsAnswerOrWithoutMemory given uuid (ended_texts main texts) (answer_of loaded) × SaysOfStreamsOrNothing given uuid (ended_texts main texts) loaded
