-- What was consumed of the sources of a load, and what the load has taken of it.
use Rattle.std.proofs.Common.{ℕ, ◌≡◌, ◌≤◌, List, [], ◌∷◌, ◌++◌, length, get_or, take, drop, Option, None, Some, refl, sym, ap, ◌∙◌, subst, append_assoc}
use Rattle.std.proofs.Common.{inl, inr, arith}
use Rattle.std.specs.Prelude.{map, replicate, slice_set}
use Rattle.std.specs.Io.KnownBytes.{Keeps, Consumes, IsAtEnd, prepend_known}
use Rattle.std.proofs.lemmas.Bool.{cases_lt, cases_eq}
use Rattle.std.proofs.lemmas.List.{length-set, length-replicate, set_past, get_or_past, get_or-replicate, get_or-set_other, set-get_or, map-set}
use Rattle.std.proofs.lemmas.List.{take-append-drop}
use Rattle.std.proofs.lemmas.Grind.{get_or-set_at}
use Rattle.std.proofs.Math.Seq.{take-length}
use Rattle.mig_mem.specs.RamTable.{RamTable}
use Rattle.mig_mem.specs.Image.{IsImage, zero_image}
use Rattle.mig_stream.specs.PageRecord.{PageRecord}
use Rattle.mig_load_types.specs.declared.settings.LoadSettings.{LoadSettings}
use Rattle.mig_answer.specs.declared.verdict.Verdict.{Verdict}
use Rattle.mig_answer.specs.Texts.{Text, Texts, no_text, no_texts, with_piece, over}
use Rattle.mig_sources.specs.declared.source.Source.{Source}
use Rattle.mig_sources.specs.declared.source.Source.TheVariants as source
use Rattle.mig_sources.specs.Sources.{at_source, feed_step, end_step}
use Rattle.mig_in_place.specs.Answer.{IsInPlaceAnswer}
use Rattle.mig_in_place.specs.Session.{InPlaceLoad, StandsFor, text_of}
use Rattle.zimgasol_reading.specs.declared.channel.Channel.{Channel}
use Rattle.zimgasol_reading.specs.declared.inlet.Inlet.{Inlet}
use Rattle.zimgasol_reading.specs.Consumed.{Bytes, IsConsumed, AreConsumed, bytes_of, with_bytes}
use Rattle.zimgasol_reading.specs.Inlets.{inlet_left}
use Rattle.zimgasol_reading.specs.Left.{inlets_of, channels_left}
use Rattle.zimgasol_reading.specs.Passed.{HasPassed}
use Rattle.zimgasol_reading.specs.Loaded.{LoadInto, HasLoaded, HasConsumed, Takes, TakesOn, TakesOf, HasLoadedTo}

-- ---- known bytes

pub keeps_same : (u : Option (List ℕ)) → Keeps u u
keeps_same None = tt
keeps_same (Some xs) = refl

pub keeps_then : (u v w : Option (List ℕ)) → Keeps u v → Keeps v w → Keeps u w
keeps_then None v w a b = tt
keeps_then (Some xs) None w a b = absurd a
keeps_then (Some xs) (Some ys) None a b = absurd b
keeps_then (Some xs) (Some ys) (Some zs) a b = b ∙ a

tail_none : (bs ys zs : List ℕ) → zs ≡ bs ++ ys → zs ≡ [] → ys ≡ []
tail_none [] ys zs same none = sym same ∙ none
tail_none (b ∷ bs) ys zs same none = absurd (let e : b ∷ (bs ++ ys) ≡ [] = sym same ∙ none in cc)

-- the front of the bytes that wait
consumes_front : (w : Option (List ℕ)) (waiting piece rest : List ℕ) (n : ℕ) → piece ≡ waiting → rest ≡ drop n waiting
    → Consumes (prepend_known waiting w) (prepend_known rest w) (take n piece)
consumes_front None waiting piece rest n same is = tt
consumes_front (Some ys) waiting piece rest n same is =
    ap (λ (l : List ℕ). l ++ ys) (sym (take-append-drop n waiting)) ∙ append_assoc (take n waiting) (drop n waiting) ys
    ∙ ap (λ (l : List ℕ). take n l ++ (drop n waiting ++ ys)) (sym same) ∙ ap (λ (l : List ℕ). take n piece ++ (l ++ ys)) (sym is)

-- all bytes that were held
consumes_held : (w : Option (List ℕ)) (held piece : List ℕ) (n : ℕ) → piece ≡ held → n ≡ length held → Consumes (prepend_known held w) w (take n piece)
consumes_held None held piece n same all = tt
consumes_held (Some ys) held piece n same all =
    ap (λ (l : List ℕ). l ++ ys) (sym (ap (λ (l : List ℕ). take n l) same ∙ ap (λ (k : ℕ). take k held) all ∙ take-length held))

-- bytes that are held before those to come
pub keeps_held : (u v : Option (List ℕ)) (old new : List ℕ) → new ≡ old → Keeps u v → Keeps (prepend_known old u) (prepend_known new v)
keeps_held None v old new same kept = tt
keeps_held (Some xs) None old new same kept = absurd kept
keeps_held (Some xs) (Some ys) old new same kept = ap (λ (l : List ℕ). l ++ ys) same ∙ ap (λ (l : List ℕ). old ++ l) kept

-- the bytes that wait are held
pub keeps_moved : (u w : Option (List ℕ)) (old new waiting rest : List ℕ) → new ≡ old ++ waiting → rest ≡ [] → Keeps u (prepend_known waiting w)
    → Keeps (prepend_known old u) (prepend_known new (prepend_known rest w))
keeps_moved None w old new waiting rest grown none kept = tt
keeps_moved (Some xs) None old new waiting rest grown none kept = absurd kept
keeps_moved (Some xs) (Some ys) old new waiting rest grown none kept =
    ap (λ (l : List ℕ). l ++ (rest ++ ys)) grown ∙ ap (λ (l : List ℕ). (old ++ waiting) ++ (l ++ ys)) none ∙ append_assoc old waiting ys
    ∙ ap (λ (l : List ℕ). old ++ l) kept

pub end_moved : (w : Option (List ℕ)) (waiting rest : List ℕ) → rest ≡ [] → IsAtEnd (prepend_known waiting w) → IsAtEnd (prepend_known rest w)
end_moved None waiting rest none end = tt
end_moved (Some ys) waiting rest none end = ap (λ (l : List ℕ). l ++ ys) none ∙ tail_none waiting ys (waiting ++ ys) refl end

-- ---- the stream of a source

none_consumed : (all left : Option (List ℕ)) → Keeps all left → IsConsumed all left no_text
none_consumed None left kept = tt
none_consumed (Some xs) None kept = absurd kept
none_consumed (Some xs) (Some ys) kept = (ys, refl, sym kept, λ ended. absurd cc)

consumed_kept : (all u v : Option (List ℕ)) (text : Text) → Keeps u v → IsConsumed all u text → IsConsumed all v text
consumed_kept None u v text kept is = tt
consumed_kept (Some all) None v text kept (rest, left, same, end) = absurd cc
consumed_kept (Some all) (Some xs) None text kept is = absurd kept
consumed_kept (Some all) (Some xs) (Some ys) text kept (rest, left, same, end) =
    let here : ys ≡ rest = cc in (ys, refl, same ∙ ap (λ (l : List ℕ). text.bytes ++ l) (sym here), λ ended. here ∙ end ended)

consumed_more : (all u v : Option (List ℕ)) (bytes : List ℕ) (text : Text) → Consumes u v bytes → IsConsumed all u text
    → IsConsumed all v (with_piece bytes text)
consumed_more None u v bytes text used is = tt
consumed_more (Some all) None v bytes text used (rest, left, same, end) = absurd cc
consumed_more (Some all) (Some xs) None bytes text used is = absurd used
consumed_more (Some all) (Some xs) (Some ys) bytes text used (rest, left, same, end) =
    let here : rest ≡ xs = cc in (
      ys,
      refl,
      same ∙ ap (λ (l : List ℕ). text.bytes ++ l) (here ∙ used) ∙ sym (append_assoc text.bytes bytes ys),
      λ ended. tail_none bytes ys rest (here ∙ used) (end ended),
    )

consumed_over : (all v : Option (List ℕ)) (text : Text) → IsAtEnd v → IsConsumed all v text → IsConsumed all v (over text)
consumed_over None v text at_end is = tt
consumed_over (Some all) None text at_end (rest, left, same, end) = absurd cc
consumed_over (Some all) (Some ys) text at_end (rest, left, same, end) = let here : rest ≡ [] = cc in (rest, left, same, λ ended. here)

moved : (all a b : Option (List ℕ)) (s t : Text) → a ≡ b → s ≡ t → IsConsumed all a s → IsConsumed all b t
moved all a b s t e f is = subst (λ (o : Option (List ℕ)). IsConsumed all o t) e (subst (λ (x : Text). IsConsumed all a x) f is)

-- ---- a step of one source

abbrev Does : (Text → Text) → Option (List ℕ) → Option (List ℕ) → Type 0
Does step u v = (known : Option (List ℕ)) (text : Text) → IsConsumed known u text → IsConsumed known v (step text)

at_channel : (j i : ℕ) (step : Text → Text) (u v known : Option (List ℕ)) (lefts : List (Option (List ℕ))) (texts : List Text) → Does step u v
    → length texts ≡ length (slice_set lefts j u)
    → IsConsumed known (get_or (slice_set lefts j u) i None) (get_or texts i no_text)
    → IsConsumed known (get_or (slice_set lefts j v) i None) (get_or (slice_set texts j (step (get_or texts j no_text))) i no_text)
at_channel j i step u v known lefts texts does as_many is =
    let t : Text = step (get_or texts j no_text) in
    let many : length texts ≡ length lefts = as_many ∙ length-set lefts j u in
    elim (cases_eq i j) [
      | inr other ↦ moved known (get_or (slice_set lefts j u) i None) (get_or (slice_set lefts j v) i None) (get_or texts i no_text)
          (get_or (slice_set texts j t) i no_text)
          (get_or-set_other lefts j i u None other ∙ sym (get_or-set_other lefts j i v None other)) (sym (get_or-set_other texts j i t no_text other)) is
      | inl same ↦ elim (cases_lt j (length texts)) [
        | inl below ↦ moved known v (get_or (slice_set lefts j v) i None) t (get_or (slice_set texts j t) i no_text)
            (sym (get_or-set_at lefts j i v None same (omega (arith, below, many)))) (sym (get_or-set_at texts j i t no_text same below))
            (does known (get_or texts j no_text)
            (moved known (get_or (slice_set lefts j u) i None) u (get_or texts i no_text) (get_or texts j no_text)
            (get_or-set_at lefts j i u None same (omega (arith, below, many))) (ap (λ (k : ℕ). get_or texts k no_text) same) is))
        | inr past ↦ moved known (get_or (slice_set lefts j u) i None) (get_or (slice_set lefts j v) i None) (get_or texts i no_text)
            (get_or (slice_set texts j t) i no_text)
            (ap (λ (l : List (Option (List ℕ))). get_or l i None)
            (set_past lefts j u (omega (arith, past, many)) ∙ sym (set_past lefts j v (omega (arith, past, many)))))
            (ap (λ (l : List Text). get_or l i no_text) (sym (set_past texts j t past))) is
      ]
    ]

at_one : (from : Source) (step : Text → Text) (u v : Option (List ℕ)) (others all : Bytes) (texts : Texts) → Does step u v
    → AreConsumed all (with_bytes from u others) texts → AreConsumed all (with_bytes from v others) (at_source from step texts)
at_one source.Main step u v others all texts does is = record { has_channels = is.has_channels; of_each = each }
  where
    each : (from : Source)
        → IsConsumed (bytes_of all from) (bytes_of (with_bytes source.Main v others) from) (text_of (at_source source.Main step texts) from)
    each source.Main = does all.main texts.main (is.of_each source.Main)
    each (source.Channel i) = is.of_each (source.Channel i)
at_one (source.Channel j) step u v others all texts does is = record {
  has_channels = length-set texts.channels j (step (get_or texts.channels j no_text)) ∙ is.has_channels ∙ length-set others.channels j u
      ∙ sym (length-set others.channels j v);
  of_each = each;
}
  where
    each : (from : Source)
        → IsConsumed (bytes_of all from) (bytes_of (with_bytes (source.Channel j) v others) from) (text_of (at_source (source.Channel j) step texts) from)
    each source.Main = is.of_each source.Main
    each (source.Channel i) = at_channel j i step u v (get_or all.channels i None) others.channels texts.channels does is.has_channels
        (is.of_each (source.Channel i))

takes_step : (from : Source) (step : Text → Text) (u v : Option (List ℕ)) (old new : LoadInto) → Takes (at_source from step) old new → Does step u v
    → TakesOf from u v old new
takes_step from step u v old new takes does others given uuid first all was = record {
  texts = at_source from step was.texts;
  has_loaded = takes given uuid first was.texts was.has_loaded;
  are_consumed = at_one from step u v others all was.texts does was.are_consumed;
}

takes_fed : (from : Source) (u m v : Option (List ℕ)) (bytes : List ℕ) (old new : LoadInto) → Takes (feed_step from bytes) old new → Keeps u m
    → Consumes m v bytes → TakesOf from u v old new
takes_fed from u m v bytes old new takes kept used = takes_step from (with_piece bytes) u v old new takes
    (λ known text is. consumed_more known m v bytes text used (consumed_kept known u m text kept is))

-- a part of the bytes that wait
pub takes_part : (from : Source) (u m v : Option (List ℕ)) (waiting piece : List ℕ) (n : ℕ) (old new : LoadInto)
    → Takes (feed_step from (take n piece)) old new → piece ≡ waiting → n ≤ length piece → Keeps u m
    → (n ≤ length waiting → Consumes m v (take n waiting)) → TakesOf from u v old new
takes_part from u m v waiting piece n old new takes same le kept used =
    takes_fed from u m v (take n piece) old new takes kept
    (subst (λ (l : List ℕ). Consumes m v (take n l)) (sym same) (used (subst (λ (l : List ℕ). n ≤ length l) same le)))

-- a piece of those that wait
pub takes_piece : (from : Source) (u w : Option (List ℕ)) (waiting piece rest : List ℕ) (n : ℕ) (old new : LoadInto)
    → Takes (feed_step from (take n piece)) old new → piece ≡ waiting → rest ≡ drop n waiting → Keeps u (prepend_known waiting w)
    → TakesOf from u (prepend_known rest w) old new
takes_piece from u w waiting piece rest n old new takes same is kept =
    takes_fed from u (prepend_known waiting w) (prepend_known rest w) (take n piece) old new takes kept (consumes_front w waiting piece rest n same is)

-- all that were held
pub takes_held : (from : Source) (w : Option (List ℕ)) (held piece : List ℕ) (n : ℕ) (old new : LoadInto) → Takes (feed_step from (take n piece)) old new
    → piece ≡ held → n ≡ length held → TakesOf from (prepend_known held w) w old new
takes_held from w held piece n old new takes same all =
    takes_fed from (prepend_known held w) (prepend_known held w) w (take n piece) old new takes (keeps_same (prepend_known held w))
    (consumes_held w held piece n same all)

-- the end of a source
pub takes_ended : (from : Source) (u v : Option (List ℕ)) (old new : LoadInto) → Takes (end_step from) old new → Keeps u v → IsAtEnd v
    → TakesOf from u v old new
takes_ended from u v old new takes kept end = takes_step from over u v old new takes
    (λ known text is. consumed_over known v text end (consumed_kept known u v text kept is))

-- ---- from call to call

pub takes_none : (left : Bytes) (l : LoadInto) → TakesOn left left l l
takes_none left l given uuid first all was = was

pub takes_both : (u v w : Bytes) (a b c : LoadInto) → TakesOn u v a b → TakesOn v w b c → TakesOn u w a c
takes_both u v w a b c one other given uuid first all was = other given uuid first all (one given uuid first all was)

pub of_none : (from : Source) (u : Option (List ℕ)) (l : LoadInto) → TakesOf from u u l l
of_none from u l others given uuid first all was = was

pub of_both : (from : Source) (u v w : Option (List ℕ)) (a b c : LoadInto) → TakesOf from u v a b → TakesOf from v w b c → TakesOf from u w a c
of_both from u v w a b c one other others given uuid first all was = other others given uuid first all (one others given uuid first all was)

-- one of the channels
pub of_channel : {F : Type 0} (remaining : F → Option (List ℕ)) (main : Option (List ℕ)) (channels : List (Channel F)) (i : ℕ) (x y d : Channel F)
    (old new : LoadInto) → TakesOf (source.Channel i) (inlet_left remaining x.inlet) (inlet_left remaining y.inlet) old new → x ≡ get_or channels i d
    → TakesOn (record { main = main; channels = channels_left remaining channels })
    (record { main = main; channels = channels_left remaining (slice_set channels i y) }) old new
of_channel {F} remaining main channels i x y d old new takes is =
    let one : Channel F → Option (List ℕ) = λ c. inlet_left remaining c.inlet in
    let at : (z : Channel F) → slice_set (channels_left remaining channels) i (one z) ≡ channels_left remaining (slice_set channels i z) =
    λ z. sym (ap (λ (l : List (Inlet F)). map (inlet_left remaining) l) (map-set (λ (c : Channel F). c.inlet) channels i z)
    ∙ map-set (inlet_left remaining) (inlets_of channels) i z.inlet) in
    let same : slice_set channels i x ≡ channels = ap (λ (z : Channel F). slice_set channels i z) is ∙ set-get_or channels i d in
    let step : TakesOn (record { main = main; channels = slice_set (channels_left remaining channels) i (one x) })
    (record { main = main; channels = slice_set (channels_left remaining channels) i (one y) }) old new =
    takes (record { main = main; channels = channels_left remaining channels }) in
    subst (λ (l : List (Option (List ℕ))). TakesOn (record { main = main; channels = channels_left remaining channels })
    (record { main = main; channels = l }) old new) (at y)
    (subst (λ (l : List (Option (List ℕ))). TakesOn (record { main = main; channels = l })
    (record { main = main; channels = slice_set (channels_left remaining channels) i (one y) }) old new)
    (at x ∙ ap (λ (l : List (Channel F)). channels_left remaining l) same) step)

-- ---- the whole load

none_there : (n j : ℕ) → get_or (replicate n no_text) j no_text ≡ no_text
none_there n j = elim (cases_lt j n) [
  | inl below ↦ get_or-replicate n j no_text no_text below
  | inr past ↦ get_or_past (replicate n no_text) j no_text (omega (arith, past, length-replicate n no_text))
]

-- before the first byte
pub begun_none : (all left : Bytes) (n : ℕ) → Keeps all.main left.main → all.channels ≡ left.channels → length left.channels ≡ n
    → AreConsumed all left (no_texts n)
begun_none all left n kept same as_many = record { has_channels = length-replicate n no_text ∙ sym as_many; of_each = each }
  where
    each : (from : Source) → IsConsumed (bytes_of all from) (bytes_of left from) (text_of (no_texts n) from)
    each source.Main = none_consumed all.main left.main kept
    each (source.Channel j) =
        let a : Option (List ℕ) = get_or all.channels j None in
        let b : Option (List ℕ) = get_or left.channels j None in
        let e : a ≡ b = ap (λ (l : List (Option (List ℕ))). get_or l j None) same in
        moved a b b no_text (get_or (replicate n no_text) j no_text) refl (sym (none_there n j))
        (none_consumed a b (subst (λ (o : Option (List ℕ)). Keeps a o) e (keeps_same a)))

-- a load from its first byte on
pub loaded : (holds : RamTable → List PageRecord → Type 0) (given : LoadSettings) (uuid : List ℕ) (table : RamTable) (all before after : Bytes) (n : ℕ)
    (judge : InPlaceLoad) (start end : LoadInto) (rounds : ℕ) (verdict : Verdict) → start ≡ record { load = judge; memory = zero_image table }
    → AreConsumed all before (no_texts n) → length after.channels ≡ n → TakesOn before after start end
    → (rounds ≡ end.load.rounds) × (verdict ≡ end.load.verdict) → IsImage end.memory → HasPassed holds end.memory
    → StandsFor given uuid (zero_image table) (no_texts n) (zero_image table) judge → HasLoadedTo holds given uuid table all n rounds verdict
loaded holds given uuid table all before after n judge start end rounds verdict begins begun as_many takes told image passed stands =
    let was : HasConsumed given uuid (zero_image table) all before start = record {
      texts = no_texts n;
      has_loaded = subst (λ (l : LoadInto). HasLoaded given uuid (zero_image table) (no_texts n) l) (sym begins) stands;
      are_consumed = begun;
    } in
    let is : HasConsumed given uuid (zero_image table) all after end = takes given uuid (zero_image table) all was in
    record {
      texts = is.texts;
      has_channels = is.are_consumed.has_channels ∙ as_many;
      left = after;
      are_consumed = is.are_consumed;
      memory = end.memory;
      is_table = is.has_loaded.is_table;
      is_image = image;
      is_answer = subst (λ (k : ℕ). IsInPlaceAnswer given uuid (zero_image table) is.texts end.memory k verdict) (sym told.0)
          (subst (λ (v : Verdict). IsInPlaceAnswer given uuid (zero_image table) is.texts end.memory end.load.rounds v) (sym told.1) is.has_loaded.is_answer);
      has_passed = passed;
    }
