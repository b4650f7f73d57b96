-- A sender's steps.
use Rattle.std.proofs.Common.{◌≡◌, ◌≤◌, ◌<◌, ◌+◌, ◌++◌, ◌∙◌, ℕ, List, ◌∷◌, [], refl, sym, ap, subst, length, map, min, take, drop, arith, Option, None, Some}
use Rattle.std.specs.Prelude.{Vec}
use Rattle.std.specs.declared.alloc.Global.{Global}
use Rattle.std.proofs.lemmas.List.{take-append-drop, drop-drop, drop_all, append-nil, append_assoc, length-drop, nil_from_length}
use Rattle.mig_mem.specs.RamTable.{RamTable}
use Rattle.mig_mem.specs.Image.{Page}
use Rattle.mig_stream.specs.Writer.{Writer, PartSoFar, HasPut}
use Rattle.mig_stream.specs.Written.{RoundPart, single, written_so_far}
use Rattle.mig_stream.proofs.Configured.{configured_is_written, configured_is_closed}
use Rattle.mig_send.specs.Sending.{HasSentDrained}
use Rattle.mig_c_calls.specs.Named.{IsNamed}
use Rattle.mig_c_calls.proofs.Named.{named_more}
use Rattle.mig_c_calls.specs.declared.sender.Sender.{Sender}
use Rattle.mig_c_calls.specs.declared.sender.Sending.{Sending}
use Rattle.mig_c_calls.specs.declared.sender.Sending.TheVariants.{Idle, Round, Over, LeftOpen}
use Rattle.mig_c_calls.specs.Sending.{waiting, text_so_far, whole_stream, open_stream, HasSentRounds, HasPutPages, IsIdle, IsEnded, IsLeftOpen, EndsRound}
use Rattle.mig_c_calls.specs.Sending.{Drains, Refills, Hands, Skips}

-- ---- a stream with a machine's name, or with none

-- the whole stream, with its end byte and without
pub named_whole : (name : Option (List ℕ)) (bytes : List ℕ) (table : RamTable) (rounds : List (List Page)) → IsNamed name bytes (single table rounds)
    → bytes ≡ whole_stream name table rounds
named_whole None bytes table rounds is = is
named_whole (Some name) bytes table rounds is = is.1 ∙ configured_is_closed (Some name) table (map RoundPart rounds) is.0 (sym is.2)

-- bytes that without their name are a stream left open are the open stream with that name
pub named_open : (name : Option (List ℕ)) (bytes : List ℕ) (table : RamTable) (rounds : List (List Page)) → IsNamed name bytes (open_stream None table rounds)
    → bytes ≡ open_stream name table rounds
named_open None bytes table rounds is = is
named_open (Some name) bytes table rounds is = is.1 ∙ configured_is_written (Some name) table (map RoundPart rounds) is.0 (sym is.2)

-- ---- the steps

-- the round follows those sent before
pub ends_round : (part : PartSoFar) (w : Writer) → w.table ≡ part.before.table
    → ((pages : List Page) → HasPut part pages → (drained : List ℕ) (rounds : List (List Page))
    → HasSentDrained drained part.before rounds → HasSentDrained drained w (rounds ++ pages ∷ []))
    → EndsRound 0 (Round part) (Idle w)
ends_round part w same sends = record {
  is_named = refl;
  ends = λ _ pages put table drained rounds sent. (same ∙ sent.0, sends pages put drained rounds sent.1);
  idle = λ _. tt;
  same = λ no. absurd (no refl);
  wrong = grind arith;
  in_turn = λ _. tt;
}

-- no byte waits after all of them
none_waits : (given : List ℕ) (s : Sender) → length s.drained.items ≤ s.given → given ++ waiting s ≡ given
none_waits given s le = ap (λ (l : List ℕ). given ++ l) (drop_all s.given s.drained.items le) ∙ append-nil given

-- bytes that wait are copied out first
pub refills_same : (s : Sender) → s.given < length s.drained.items → Refills s s
refills_same s some =
    let not_none : waiting s ≡ [] → ⊥ = λ none. absurd (omega (arith, length-drop s.given s.drained.items, ap (λ (l : List ℕ). length l) none, some)) in
    record {
      keeps = λ _ _ _ _ sent. sent;
      keeps_open = λ _ put. put;
      idle = λ is. is;
      ended = λ is. is;
      left_open = λ is. is;
      written = λ _ none. absurd (not_none none);
      all = λ _ none. absurd (not_none none);
      all_open = λ _ none. absurd (not_none none);
    }

-- what the writer drains is what waits
pub refills_idle : (old new : Sender) (w v : Writer) → old.state ≡ Idle w → new.state ≡ Idle v → length old.drained.items ≤ old.given → v.table ≡ w.table
    → ((drained : List ℕ) (rounds : List (List Page)) → HasSentDrained drained w rounds
    → drained ++ waiting new ≡ written_so_far w.table (map RoundPart rounds))
    → ((drained : List ℕ) (rounds : List (List Page)) → HasSentDrained drained w rounds → HasSentDrained (drained ++ waiting new) v rounds)
    → Refills old new
refills_idle old new w v was is le same all drains =
    let before : (table : RamTable) (plain : List ℕ) (rounds : List (List Page)) → HasSentRounds table plain rounds old.state
    → HasSentRounds table plain rounds (Idle w) =
    λ table plain rounds sent. subst (λ (s : Sending). HasSentRounds table plain rounds s) was sent in
    let given_is : (name : Option (List ℕ)) (given plain : List ℕ) → IsNamed name (given ++ waiting old) plain → IsNamed name given plain =
    λ name given plain named. subst (λ (l : List ℕ). IsNamed name l plain) (none_waits given old le) named in
    record {
      keeps = λ table name given rounds sent.
          let had : HasSentRounds table sent.0 rounds (Idle w) = before table sent.0 rounds sent.2 in (
            sent.0 ++ waiting new,
            named_more name given sent.0 (waiting new) (given_is name given sent.0 sent.1),
            subst (λ (s : Sending). HasSentRounds table (sent.0 ++ waiting new) rounds s) (sym is) (same ∙ had.0, drains sent.0 rounds had.1),
          );
      written = λ _ none table name given rounds sent.
          let had : HasSentRounds table sent.0 rounds (Idle w) = before table sent.0 rounds sent.2 in
          let whole : sent.0 ≡ text_so_far table rounds =
          sym (append-nil sent.0) ∙ ap (λ (l : List ℕ). sent.0 ++ l) (sym none) ∙ all sent.0 rounds had.1 ∙ ap (λ (t : RamTable). text_so_far t rounds) had.0 in
          subst (λ (l : List ℕ). IsNamed name given l) whole (given_is name given sent.0 sent.1);
      keeps_open = λ pages put. absurd (subst (λ (s : Sending). HasPutPages pages s) was put);
      idle = λ _. subst (λ (s : Sending). IsIdle s) (sym is) tt;
      ended = λ e. absurd (subst (λ (s : Sending). IsEnded s) was e);
      left_open = λ e. absurd (subst (λ (s : Sending). IsLeftOpen s) was e);
      all = λ e. absurd (subst (λ (s : Sending). IsEnded s) was e);
      all_open = λ e. absurd (subst (λ (s : Sending). IsLeftOpen s) was e);
    }

-- the rest of a stream that is ended waits, and nothing follows it
rest_waits : (plain : List ℕ) (old new : Sender) (t v : Vec ℕ Global) → v.items ≡ [] → waiting new ≡ t.items
    → plain ++ t.items ≡ (plain ++ waiting new) ++ v.items
rest_waits plain old new t v none waits =
    ap (λ (l : List ℕ). plain ++ l) (sym waits) ∙ sym (append-nil (plain ++ waiting new)) ∙ ap (λ (l : List ℕ). (plain ++ waiting new) ++ l) (sym none)

-- if none of it waits, all was copied out
none_left : (plain : List ℕ) (new : Sender) (t : Vec ℕ Global) → waiting new ≡ t.items → waiting new ≡ [] → plain ≡ plain ++ t.items
none_left plain new t waits none = sym (append-nil plain) ∙ ap (λ (l : List ℕ). plain ++ l) (sym none ∙ waits)

-- if no byte of an ended sender waits, and then the rest of its stream does, it's refilled
pub refills_over : (old new : Sender) (t v : Vec ℕ Global) → old.state ≡ Over t → new.state ≡ Over v → length old.drained.items ≤ old.given → v.items ≡ []
    → waiting new ≡ t.items → Refills old new
refills_over old new t v was is le none waits =
    let given_is : (name : Option (List ℕ)) (given plain : List ℕ) → IsNamed name (given ++ waiting old) plain → IsNamed name given plain =
    λ name given plain named. subst (λ (l : List ℕ). IsNamed name l plain) (none_waits given old le) named in
    let before : (table : RamTable) (plain : List ℕ) (rounds : List (List Page)) → HasSentRounds table plain rounds old.state
    → plain ++ t.items ≡ single table rounds =
    λ table plain rounds sent. subst (λ (s : Sending). HasSentRounds table plain rounds s) was sent in
    record {
      keeps = λ table name given rounds sent. (
        sent.0 ++ waiting new,
        named_more name given sent.0 (waiting new) (given_is name given sent.0 sent.1),
        subst (λ (s : Sending). HasSentRounds table (sent.0 ++ waiting new) rounds s) (sym is)
            (sym (rest_waits sent.0 old new t v none waits) ∙ before table sent.0 rounds sent.2),
      );
      written = λ e. absurd (subst (λ (s : Sending). IsIdle s) was e);
      keeps_open = λ pages put. absurd (subst (λ (s : Sending). HasPutPages pages s) was put);
      idle = λ e. absurd (subst (λ (s : Sending). IsIdle s) was e);
      ended = λ _. subst (λ (s : Sending). IsEnded s) (sym is) tt;
      left_open = λ e. absurd (subst (λ (s : Sending). IsLeftOpen s) was e);
      all = λ _ left table name given rounds sent.
          named_whole name given table rounds (subst (λ (l : List ℕ). IsNamed name given l)
          (none_left sent.0 new t waits left ∙ before table sent.0 rounds sent.2)
          (given_is name given sent.0 sent.1));
      all_open = λ e. absurd (subst (λ (s : Sending). IsLeftOpen s) was e);
    }

-- if no byte of a sender left open waits, and then the rest of its stream does, it's refilled
pub refills_open : (old new : Sender) (t v : Vec ℕ Global) → old.state ≡ LeftOpen t → new.state ≡ LeftOpen v
    → length old.drained.items ≤ old.given → v.items ≡ []
    → waiting new ≡ t.items → Refills old new
refills_open old new t v was is le none waits =
    let given_is : (name : Option (List ℕ)) (given plain : List ℕ) → IsNamed name (given ++ waiting old) plain → IsNamed name given plain =
    λ name given plain named. subst (λ (l : List ℕ). IsNamed name l plain) (none_waits given old le) named in
    let before : (table : RamTable) (plain : List ℕ) (rounds : List (List Page)) → HasSentRounds table plain rounds old.state
    → plain ++ t.items ≡ open_stream None table rounds =
    λ table plain rounds sent. subst (λ (s : Sending). HasSentRounds table plain rounds s) was sent in
    record {
      keeps = λ table name given rounds sent. (
        sent.0 ++ waiting new,
        named_more name given sent.0 (waiting new) (given_is name given sent.0 sent.1),
        subst (λ (s : Sending). HasSentRounds table (sent.0 ++ waiting new) rounds s) (sym is)
            (sym (rest_waits sent.0 old new t v none waits) ∙ before table sent.0 rounds sent.2),
      );
      written = λ e. absurd (subst (λ (s : Sending). IsIdle s) was e);
      keeps_open = λ pages put. absurd (subst (λ (s : Sending). HasPutPages pages s) was put);
      idle = λ e. absurd (subst (λ (s : Sending). IsIdle s) was e);
      ended = λ e. absurd (subst (λ (s : Sending). IsEnded s) was e);
      left_open = λ _. subst (λ (s : Sending). IsLeftOpen s) (sym is) tt;
      all = λ e. absurd (subst (λ (s : Sending). IsEnded s) was e);
      all_open = λ _ left table name given rounds sent.
          named_open name given table rounds (subst (λ (l : List ℕ). IsNamed name given l)
          (none_left sent.0 new t waits left ∙ before table sent.0 rounds sent.2)
          (given_is name given sent.0 sent.1));
    }

-- the bytes that are copied out come before those that still wait
pub hands_front : (count : ℕ) (out : List ℕ) (old new : Sender) → count ≤ length out → take count out ≡ take count (waiting old)
    → new.state ≡ old.state → new.drained.items ≡ old.drained.items → new.given ≡ old.given + count → (count ≡ 0 → 0 < length out → length (waiting old) ≡ 0)
    → (count < length out → count ≡ length (waiting old)) → Hands count out old new
hands_front count out old new fits front state drained given none fills = record {
  fits = fits;
  has_front =
      ap (λ (l : List ℕ). l ++ waiting new) front
      ∙ ap (λ (l : List ℕ). take count (waiting old) ++ drop new.given l) drained
      ∙ ap (λ (n : ℕ). take count (waiting old) ++ drop n old.drained.items) given
      ∙ ap (λ (l : List ℕ). take count (waiting old) ++ l) (sym (drop-drop count old.given old.drained.items))
      ∙ take-append-drop count (waiting old);
  fills = λ less.
      let still : waiting new ≡ drop count (waiting old) =
      ap (λ (l : List ℕ). drop new.given l) drained ∙ ap (λ (n : ℕ). drop n old.drained.items) given ∙ sym (drop-drop count old.given old.drained.items) in
      let same = fills less in
      nil_from_length (waiting new) (ap (λ (l : List ℕ). length l) still ∙ (let left = length-drop count (waiting old) in omega (arith, left, same)));
  same_state = state;
  none = λ zero room. nil_from_length (waiting old) (none zero room);
}

-- both steps, one after another
pub drains : (count : ℕ) (out : List ℕ) (old mid new : Sender) → Refills old mid → Hands count out mid new → Drains count out old new
drains count out old mid new refills hands = record {
  fits = hands.fits;
  fills = hands.fills;
  hands = λ table name given rounds sent.
      let kept : (plain : List ℕ) × IsNamed name (given ++ waiting mid) plain × HasSentRounds table plain rounds mid.state =
      refills.keeps table name given rounds sent in (
        kept.0,
        subst (λ (l : List ℕ). IsNamed name l kept.0)
            (ap (λ (l : List ℕ). given ++ l) (sym hands.has_front) ∙ sym (append_assoc given (take count out) (waiting new))) kept.1,
        subst (λ (s : Sending). HasSentRounds table kept.0 rounds s) (sym hands.same_state) kept.2,
      );
  keeps_open = λ pages put. subst (λ (s : Sending). HasPutPages pages s) (sym hands.same_state) (refills.keeps_open pages put);
  idle = λ i. subst (λ (s : Sending). IsIdle s) (sym hands.same_state) (refills.idle i);
  ended = λ e. subst (λ (s : Sending). IsEnded s) (sym hands.same_state) (refills.ended e);
  left_open = λ e. subst (λ (s : Sending). IsLeftOpen s) (sym hands.same_state) (refills.left_open e);
  written = λ i zero room. refills.written i (hands.none zero room);
  all = λ e zero room. refills.all e (hands.none zero room);
  all_open = λ e zero room. refills.all_open e (hands.none zero room);
}

-- those that are skipped stand before those that still wait
pub skips : (len count : ℕ) (old new : Sender) → count ≡ min len (length (waiting old)) → new.state ≡ old.state → new.drained.items ≡ old.drained.items
    → new.given ≡ old.given + count → Skips len count old new
skips len count old new counts state drained given =
    let still : waiting new ≡ drop count (waiting old) =
    ap (λ (l : List ℕ). drop new.given l) drained ∙ ap (λ (n : ℕ). drop n old.drained.items) given ∙ sym (drop-drop count old.given old.drained.items) in
    record {
      counts = counts;
      still = still;
      same_state = state;
      hands = λ table name handed rounds sent. (
        sent.0,
        subst (λ (l : List ℕ). IsNamed name l sent.0)
            (ap (λ (l : List ℕ). handed ++ l) (sym (take-append-drop count (waiting old)))
            ∙ sym (append_assoc handed (take count (waiting old)) (drop count (waiting old)))
            ∙ ap (λ (l : List ℕ). (handed ++ take count (waiting old)) ++ l) (sym still)) sent.1,
        subst (λ (s : Sending). HasSentRounds table sent.0 rounds s) (sym state) sent.2,
      );
    }
