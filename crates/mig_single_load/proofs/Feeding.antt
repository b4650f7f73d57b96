-- A loader that is fed in pieces.
use Rattle.std.proofs.Common.{ℕ, ◌≡◌, ◌≤◌, ◌<◌, ◌+◌, ◌^◌, List, [], ◌++◌, length, take, refl, sym, ap, ◌∙◌, inl, inr, Bool, false, Option, Some, None, subst}
use Rattle.std.proofs.Common.{arith}
use Rattle.std.specs.Prelude.{⊤, IsOk, OnOk, OnErr, Result, Ok, Err}
use Rattle.std.proofs.lemmas.List.{take-append-le, length-append}
use Rattle.mig_mem.specs.PageSize.{IsPageSize}
use Rattle.mig_stream.specs.declared.item.Mode.TheVariants.{Single}
use Rattle.mig_stream.specs.PageRecord.{PageRecord}
use Rattle.mig_stream.specs.declared.item.StreamState.TheVariants.{Reading}
use Rattle.mig_stream.specs.Progress.{StreamProgress, start}
use Rattle.mig_stream.specs.Reading.{StreamReading}
use Rattle.mig_stream.specs.Reader.{Reader, Stands, StepsOn, nothing_yet, with_piece}
use Rattle.mig_stream.specs.Law.{StaysRead}
use Rattle.mig_stream.proofs.Exists.{one_reading_law}
use Rattle.mig_stream.proofs.Feeding.{reads_short}
use Rattle.mig_stream.proofs.Longer.{longer_law}
use Rattle.mig_mem.specs.Image.{Image, zero_image}
use Rattle.mig_mem.specs.Round.{with_rounds}
use Rattle.mig_assemble.specs.NamedPlaces.{named_by}
use Rattle.mig_assemble.specs.Target.{LoadTarget}
use Rattle.mig_load_types.specs.Settings.{single_of}
use Rattle.mig_load_types.specs.declared.settings.LoadSettings.{LoadSettings}
use Rattle.mig_single_load.specs.Loader.{loader, put_so_far, HasAllSections, Waits, Loads, HasFirst, WasFed, LoadsSome, WasFedSome}
use Rattle.mig_single_load.proofs.Sections.{pages_in, same_reading, are_given, none_there, fed_of}

-- what is in the memory stays the front of the stream, if more bytes follow
first_stays : (given : LoadSettings) (first : Image) (text piece : List ℕ) (ended : Bool) (r : Reader) (t : LoadTarget) → IsPageSize given.page_size
    → Stands (single_of given) (put_so_far text ended t.rounds) r → HasFirst given first text t → HasFirst given first (text ++ piece) t
first_stays given first text piece ended r t size stands has =
    let single = single_of given in
    let before : StreamReading = has.has_table.0 in
    let is_before = has.has_table.1 in
    let now = one_reading_law single (text ++ piece) size in
    let stays : StaysRead before now.0 = longer_law single text piece before now.0 size is_before now.1 in
    let few : t.rounds ≤ length before.rounds = are_given given text ended r t.rounds before size is_before stands in
    record {
      has_table = (now.0, now.1, sym (stays.same_table first.table (sym has.has_table.2)));
      has_memory = λ reading is.
          let one : reading ≡ now.0 = same_reading given (text ++ piece) reading now.0 size is now.1 in
          let rounds : reading.rounds ≡ before.rounds ++ stays.more_rounds = ap (λ (x : StreamReading). x.rounds) one ∙ stays.has_rounds in
          has.has_memory before is_before
          ∙ ap (λ (l : List (List PageRecord)). with_rounds first (pages_in given.page_size l))
          (sym (take-append-le t.rounds before.rounds stays.more_rounds few))
          ∙ ap (λ (l : List (List PageRecord)). with_rounds first (pages_in given.page_size (take t.rounds l))) (sym rounds);
      has_named = λ reading is.
          let one : reading ≡ now.0 = same_reading given (text ++ piece) reading now.0 size is now.1 in
          let rounds : reading.rounds ≡ before.rounds ++ stays.more_rounds = ap (λ (x : StreamReading). x.rounds) one ∙ stays.has_rounds in
          has.has_named before is_before
          ∙ ap (λ (l : List (List PageRecord)). named_by first.table (pages_in given.page_size l))
          (sym (take-append-le t.rounds before.rounds stays.more_rounds few))
          ∙ ap (λ (l : List (List PageRecord)). named_by first.table (pages_in given.page_size (take t.rounds l))) (sym rounds);
    }

-- a piece more
pub fed_longer : (given : LoadSettings) (r s : Reader) (o : Option LoadTarget) (text piece : List ℕ) (ended : Bool) → StepsOn (with_piece piece) r s
    → WasFed given (loader r o) text ended → WasFed given (loader s o) (text ++ piece) ended
fed_longer given r s None text piece ended step fed = record {
  is_page_size = fed.is_page_size;
  stands = step (single_of given) (put_so_far text ended 0) fed.stands;
  has_first = tt;
}
fed_longer given r s (Some t) text piece ended step fed = record {
  is_page_size = fed.is_page_size;
  stands = step (single_of given) (put_so_far text ended t.rounds) fed.stands;
  has_first = first_stays given (zero_image t.memory.table) text piece ended r t fed.is_page_size fed.stands fed.has_first;
}

-- some stream that it was fed
pub fed_some : (r : Reader) (o : Option LoadTarget) → LoadsSome (loader r o) → WasFedSome (loader r o)
fed_some r o some = record {
  given = some.given;
  text = some.text;
  ended = some.ended;
  is_short = some.is_short;
  has_fed = fed_of some.given r o some.text some.ended some.loads;
}

-- and with a piece more
pub fed_piece : (r s : Reader) (o : Option LoadTarget) (piece : List ℕ) → StepsOn (with_piece piece) r s → LoadsSome (loader r o)
    → r.fed + length piece < 2 ^ 63 → WasFedSome (loader s o)
fed_piece r s o piece step some room =
    let before = fed_of some.given r o some.text some.ended some.loads in
    let fed = before.stands.has_fed in
    record {
      given = some.given;
      text = some.text ++ piece;
      ended = some.ended;
      is_short = omega (arith, fed, room, length-append some.text piece);
      has_fed = fed_longer some.given r s o some.text piece some.ended step before;
    }

-- before the first piece
pub none_yet : (given : LoadSettings) (r : Reader) → IsPageSize given.page_size → HasAllSections given (loader r None) []
none_yet given r size =
    let begin : StreamProgress = start given.frame Single given.page_size given.limit given.waiting in
    let reading : StreamReading = record { table = None; rounds = []; state = Reading } in
    none_there given [] r size (
      reading,
      record {
        to = begin;
        rest = [];
        reads = reads_short begin [] (omega arith);
        has_table = refl;
        has_rounds = refl;
      },
      refl,
    )

-- before the first byte a loader has loaded nothing
pub loads_nothing : (given : LoadSettings) (r : Reader) → IsPageSize given.page_size → Stands (single_of given) nothing_yet r
    → Loads given (loader r None) [] false
loads_nothing given r size stands = record { is_page_size = size; stands = stands; has_sections = inl (none_yet given r size) }

-- a loader without a memory, whose reader was fed nothing, represents some stream of fewer than
-- 2^63 bytes
pub nothing_some : (given : LoadSettings) (r : Reader) → IsPageSize given.page_size → Stands (single_of given) nothing_yet r → LoadsSome (loader r None)
nothing_some given r size stands = record {
  given = given;
  text = [];
  ended = false;
  is_short = omega arith;
  loads = loads_nothing given r size stands;
}

-- its sections wait, and nothing has changed
pub waits_now : (given : LoadSettings) (r s : Reader) (o u : Option LoadTarget) (text : List ℕ) (ended : Bool)
    → WasFed given (loader r o) text ended → Waits given (loader r o) text
    → (s ≡ r) × (u ≡ o) → Loads given (loader s u) text ended × Waits given (loader s u) text
waits_now given r s o u text ended fed wait same =
    subst (λ (x : Reader). Loads given (loader x u) text ended × Waits given (loader x u) text) (sym same.0)
    (subst (λ (x : Option LoadTarget). Loads given (loader r x) text ended × Waits given (loader r x) text) (sym same.1)
    (record { is_page_size = fed.is_page_size; stands = fed.stands; has_sections = inr wait }, wait))

-- some stream that it represents, after its sections were applied or couldn't be
pub settled_some : {E : Type 0} (result : Result ⊤ E) (r s : Reader) (o u : Option LoadTarget) → WasFedSome (loader r o)
    → OnOk result ((given : LoadSettings) (text : List ℕ) (ended : Bool) → WasFed given (loader r o) text ended
    → Loads given (loader s u) text ended × HasAllSections given (loader s u) text)
    → OnErr result ((given : LoadSettings) (text : List ℕ) (ended : Bool) → WasFed given (loader r o) text ended → Waits given (loader r o) text)
    → OnErr result ((s ≡ r) × (u ≡ o)) → LoadsSome (loader s u)
settled_some (Ok x) r s o u some ok waits same = record {
  given = some.given;
  text = some.text;
  ended = some.ended;
  is_short = some.is_short;
  loads = (ok some.given some.text some.ended some.has_fed).0;
}
settled_some (Err e) r s o u some ok waits same =
    let wait = waits some.given some.text some.ended some.has_fed in
    record {
      given = some.given;
      text = some.text;
      ended = some.ended;
      is_short = some.is_short;
      loads = (waits_now some.given r s o u some.text some.ended some.has_fed wait same).0;
    }

-- what holds of an error may be weakened
pub on_err_so : {R E : Type 0} (result : Result R E) (P Q : Type 0) → OnErr result P → (P → Q) → OnErr result Q
on_err_so (Ok x) P Q p f = tt
on_err_so (Err e) P Q p f = f p

-- an answer isn't both
pub not_err : {R E : Type 0} (result : Result R E) (e : E) → result ≡ Err e → IsOk result → ⊥
not_err {R} {E} result e is ok = let bad = subst (λ r. IsOk r) is ok in absurd cc
