-- What a sender on several channels copies out of its main stream, and of channels that are ended.
use Rattle.std.proofs.Common.{ℕ, ◌≡◌, ◌+◌, ◌≤◌, ◌∙◌, List, [], ◌++◌, length, replicate, take, drop, min, get_or, Option, None, sym, ap, subst, arith}
use Rattle.std.proofs.lemmas.List.{append-nil, append_assoc, take-append-drop, nil_from_length, length-append, length-take-le}
use Rattle.mig_mem.specs.RamTable.{RamTable}
use Rattle.mig_mem.specs.Image.{Image}
use Rattle.mig_mem.specs.declared.place.Place.{Place}
use Rattle.mig_stream.specs.Written.{FlushPart, written_so_far}
use Rattle.mig_send.specs.DealtRounds.{DealtRound}
use Rattle.mig_send.specs.MultiSending.{MultiSending, Drained, HasSentRounds, KeepsCounts, texts_of, with_main}
use Rattle.mig_c_calls.specs.declared.sending.EndedStreams.{EndedStreams}
use Rattle.mig_c_calls.specs.declared.sending.MultiState.{MultiState}
use Rattle.mig_c_calls.specs.declared.sending.MultiState.TheVariants.{Idle, Round, Over}
use Rattle.mig_c_calls.specs.declared.sending.Multi.{Multi}
use Rattle.mig_c_calls.specs.Named.{IsNamed}
use Rattle.mig_c_calls.specs.Multi.{MultiSetting, SendsTo, InRoundTo, InRound, IsIdle, IsOpen, IsOver, HasNothingLeft, HasGivenUp, HandsOutOf, DrainsMain}
use Rattle.mig_c_calls.specs.Multi.{RefillsMain, SkipsMain, waiting_in, with_plain, left_of, is_left_open, ended_main}
use Rattle.mig_c_calls.proofs.Named.{named_more, named_ended, ended_is}
use Rattle.mig_c_calls.proofs.Sends.{still_of}
use Rattle.mig_c_calls.proofs.Ends.{same_streams}

-- ---- the main stream

-- what is copied out of the main stream's bytes that were taken out
and_front : (given front : List ℕ) (old new : Multi) → front ++ waiting_in new.main ≡ waiting_in old.main
    → given ++ waiting_in old.main ≡ (given ++ front) ++ waiting_in new.main
and_front given front old new has_front =
    ap (λ (l : List ℕ). given ++ l) (sym has_front) ∙ sym (append_assoc given front (waiting_in new.main))

-- where no byte waits, none is copied out
none_of_none : (count : ℕ) (out left : List ℕ) → count ≤ length out → take count out ++ left ≡ [] → (count ≡ 0) × (left ≡ [])
none_of_none count out left fits none =
    let lens : length (take count out) + length left ≡ 0 = sym (length-append (take count out) left) ∙ ap (λ (l : List ℕ). length l) none in
    let taken : length (take count out) ≡ count = length-take-le count out fits in (
      omega (arith, lens, taken),
      nil_from_length left (omega (arith, lens)),
    )

-- if a sender refills its main stream, and then copies out bytes that wait, in the same state, its
-- main stream is drained
pub drains_main : (count : ℕ) (out : List ℕ) (old mid new : Multi) → RefillsMain old mid → HandsOutOf count out mid.main new.main → new.state ≡ mid.state
    → DrainsMain count out old new
drains_main count out old mid new refills hands same = record {
  fits = hands.fits;
  hands = λ setting given rounds sends.
      let kept : (plain : List ℕ) × IsNamed setting.name (given.main ++ waiting_in mid.main) plain × SendsTo setting (with_plain given plain) rounds mid.state =
      refills.keeps setting given rounds sends in (
        kept.0,
        subst (λ (l : List ℕ). IsNamed setting.name l kept.0) (and_front given.main (take count out) mid new hands.has_front) kept.1,
        subst (λ (s : MultiState). SendsTo setting (with_plain given kept.0) rounds s) (sym same) kept.2,
      );
  hands_in_round = λ setting image dirty given rounds here.
      let kept : (plain : List ℕ) × IsNamed setting.name (given.main ++ waiting_in mid.main) plain
      × InRoundTo setting image dirty (with_plain given plain) rounds mid.state =
      refills.keeps_round setting image dirty given rounds here in (
        kept.0,
        subst (λ (l : List ℕ). IsNamed setting.name l kept.0) (and_front given.main (take count out) mid new hands.has_front) kept.1,
        subst (λ (s : MultiState). InRoundTo setting image dirty (with_plain given kept.0) rounds s) (sym same) kept.2,
      );
  in_round = λ is. same ∙ (refills.in_round is).0;
  idle = λ is. subst (λ (s : MultiState). IsIdle s) (sym same) (refills.idle is);
  ended = λ is.
      let was : IsOver mid.state × (is_left_open mid.state ≡ is_left_open old.state) = refills.ended is in
      (subst (λ (s : MultiState). IsOver s) (sym same) was.0, ap (λ (s : MultiState). is_left_open s) same ∙ was.1);
  given_up = λ is.
      let mid_is : HasGivenUp mid = refills.given_up is in
      let none = none_of_none count out (waiting_in new.main) hands.fits (hands.has_front ∙ mid_is.1) in
      (none.0, (subst (λ (s : MultiState). HasNothingLeft s) (sym same) mid_is.0, none.1));
  written = λ is zero room. refills.written is (hands.none zero room);
  all = λ is zero room. refills.all is (hands.none zero room);
}

-- if the first bytes that wait of the main stream count as copied out, in the same state, they are
-- skipped
pub skips_main : (len count : ℕ) (old new : Multi) → count ≡ min len (length (waiting_in old.main))
    → waiting_in new.main ≡ drop count (waiting_in old.main) → new.state ≡ old.state → SkipsMain len count old new
skips_main len count old new counts still same =
    let front : List ℕ = take count (waiting_in old.main) in
    let has_front : front ++ waiting_in new.main ≡ waiting_in old.main =
    ap (λ (l : List ℕ). front ++ l) still ∙ take-append-drop count (waiting_in old.main) in
    record {
      counts = counts;
      still = still;
      same_state = same;
      hands = λ setting given rounds sends. (
        sends.0,
        subst (λ (l : List ℕ). IsNamed setting.name l sends.0) (and_front given.main front old new has_front) sends.1,
        subst (λ (s : MultiState). SendsTo setting (with_plain given sends.0) rounds s) (sym same) sends.2,
      );
      hands_in_round = λ setting image dirty given rounds here. (
        here.0,
        subst (λ (l : List ℕ). IsNamed setting.name l here.0) (and_front given.main front old new has_front) here.1,
        subst (λ (s : MultiState). InRoundTo setting image dirty (with_plain given here.0) rounds s) (sym same) here.2,
      );
    }

-- ---- a round is given up

-- What was drained of the main stream in a round is the beginning of what was written of it.
round_breaks_off : (setting : MultiSetting) (image : Image) (dirty : List Place) (drained : Drained) (rounds : List DealtRound) (s : MultiState)
    → InRoundTo setting image dirty drained rounds s
    → (rest : List ℕ) × (drained.main ++ rest ≡ written_so_far setting.table (replicate (length rounds) FlushPart))
round_breaks_off setting image dirty drained rounds (Idle s) is = absurd is
round_breaks_off setting image dirty drained rounds (Round r) is = (
  is.old.main.text,
  ap (λ (l : List ℕ). l ++ is.old.main.text) is.same_main
      ∙ is.has_sent.has_main.has_text
      ∙ ap (λ (t : RamTable). written_so_far t (replicate (length rounds) FlushPart)) is.is_of.same_table,
)
round_breaks_off setting image dirty drained rounds (Over e) is = absurd is

-- what was copied out of the main stream in an open round is a front of what the rounds before
-- wrote, with its name
pub breaks_off : (setting : MultiSetting) (image : Image) (dirty : List Place) (given : Drained) (rounds : List DealtRound) (m : Multi)
    → InRound setting image dirty given rounds m
    → (rest : List ℕ) × IsNamed setting.name (given.main ++ rest) (written_so_far setting.table (replicate (length rounds) FlushPart))
breaks_off setting image dirty given rounds m here =
    let cut = round_breaks_off setting image dirty (with_plain given here.0) rounds m.state here.2 in (
      waiting_in m.main ++ cut.0,
      subst (λ (l : List ℕ). IsNamed setting.name l (written_so_far setting.table (replicate (length rounds) FlushPart)))
          (append_assoc given.main (waiting_in m.main) cut.0)
          (subst (λ (l : List ℕ). IsNamed setting.name ((given.main ++ waiting_in m.main) ++ cut.0) l) cut.1
          (named_more setting.name (given.main ++ waiting_in m.main) here.0 cut.0 here.1)),
    )

-- ---- bytes are taken out

-- with nothing that waits
none_waits : (given : List ℕ) (m : Multi) → waiting_in m.main ≡ [] → given ++ waiting_in m.main ≡ given
none_waits given m none = ap (λ (l : List ℕ). given ++ l) none ∙ append-nil given

named_given : (name : Option (List ℕ)) (given plain : List ℕ) (m : Multi) → waiting_in m.main ≡ []
    → IsNamed name (given ++ waiting_in m.main) plain → IsNamed name given plain
named_given name given plain m none named = subst (λ (l : List ℕ). IsNamed name l plain) (none_waits given m none) named

-- if no byte of an idle sender waits, and then all written since do, drained of it without a change
-- of what it sent, the main stream is refilled
pub refills_idle : (old new : Multi) (s s' : MultiSending) (bytes : List ℕ) → old.state ≡ Idle s → new.state ≡ Idle s'
    → waiting_in old.main ≡ [] → waiting_in new.main ≡ bytes
    → KeepsCounts s s'
    → ((drained : Drained) (rounds : List DealtRound) → HasSentRounds drained s rounds
    → drained.main ++ bytes ≡ written_so_far s.main.table (replicate (length rounds) FlushPart))
    → ((drained : Drained) (rounds : List DealtRound) → HasSentRounds drained s rounds → HasSentRounds (with_main drained bytes) s' rounds)
    → RefillsMain old new
refills_idle old new s s' bytes was is none waits keeps all drains = record {
  keeps = λ setting given rounds sends.
      let before = subst (λ (m : MultiState). SendsTo setting (with_plain given sends.0) rounds m) was sends.2 in (
        sends.0 ++ bytes,
        subst (λ (l : List ℕ). IsNamed setting.name (given.main ++ l) (sends.0 ++ bytes)) (sym waits)
            (named_more setting.name given.main sends.0 bytes (named_given setting.name given.main sends.0 old none sends.1)),
        subst (λ (m : MultiState). SendsTo setting (with_plain given (sends.0 ++ bytes)) rounds m) (sym is)
            (still_of setting s s' keeps.same_setting before.0, drains (with_plain given sends.0) rounds before.1),
      );
  keeps_round = λ setting image dirty given rounds here.
      absurd (subst (λ (m : MultiState). InRoundTo setting image dirty (with_plain given here.0) rounds m) was here.2);
  in_round = λ here. absurd (subst (λ (m : MultiState). IsOpen m) was here);
  idle = λ _. subst (λ (m : MultiState). IsIdle m) (sym is) tt;
  ended = λ here. absurd (subst (λ (m : MultiState). IsOver m) was here);
  given_up = λ here. absurd (subst (λ (m : MultiState). HasNothingLeft m) was here.0);
  written = λ _ empty setting given rounds sends.
      let before = subst (λ (m : MultiState). SendsTo setting (with_plain given sends.0) rounds m) was sends.2 in
      let whole : sends.0 ≡ written_so_far setting.table (replicate (length rounds) FlushPart) =
      sym (append-nil sends.0)
      ∙ ap (λ (l : List ℕ). sends.0 ++ l) (sym (sym waits ∙ empty))
      ∙ all (with_plain given sends.0) rounds before.1
      ∙ ap (λ (t : RamTable). written_so_far t (replicate (length rounds) FlushPart)) before.0.same_table in
      subst (λ (l : List ℕ). IsNamed setting.name given.main l) whole (named_given setting.name given.main sends.0 old none sends.1);
  all = λ here. absurd (subst (λ (m : MultiState). IsOver m) was here);
}

same_left : (e e' : EndedStreams) → texts_of e'.sent.channels.items ≡ texts_of e.sent.channels.items → e'.given.items ≡ e.given.items
    → (channel : ℕ) → left_of e channel ≡ left_of e' channel
same_left e e' texts given channel =
    ap (λ (ns : List ℕ). drop (get_or ns channel 0) (get_or (texts_of e.sent.channels.items) channel [])) (sym given)
    ∙ ap (λ (ts : List (List ℕ)). drop (get_or e'.given.items channel 0) (get_or ts channel [])) (sym texts)

-- the rest of a main stream that is ended waits, and nothing follows it
rest_waits : (plain : List ℕ) (new : Multi) (e e' : EndedStreams) → waiting_in new.main ≡ e.sent.main.items → e'.sent.main.items ≡ []
    → (plain ++ waiting_in new.main) ++ e'.sent.main.items ≡ plain ++ e.sent.main.items
rest_waits plain new e e' waits rest =
    ap (λ (l : List ℕ). (plain ++ waiting_in new.main) ++ l) rest
    ∙ append-nil (plain ++ waiting_in new.main)
    ∙ ap (λ (l : List ℕ). plain ++ l) waits

-- if no byte of ended streams waits, and then the rest of the main stream does, with the channels
-- as they were, the main stream is refilled
pub refills_over : (old new : Multi) (e e' : EndedStreams) → old.state ≡ Over e → new.state ≡ Over e' → waiting_in old.main ≡ []
    → waiting_in new.main ≡ e.sent.main.items → e'.sent.main.items ≡ []
    → texts_of e'.sent.channels.items ≡ texts_of e.sent.channels.items → e'.given.items ≡ e.given.items
    → e'.left_open ≡ e.left_open → RefillsMain old new
refills_over old new e e' was is none waits rest channels given_is ends = record {
  keeps = λ setting given rounds sends.
      let before = subst (λ (m : MultiState). SendsTo setting (with_plain given sends.0) rounds m) was sends.2 in (
        sends.0 ++ waiting_in new.main,
        named_more setting.name given.main sends.0 (waiting_in new.main) (named_given setting.name given.main sends.0 old none sends.1),
        subst (λ (m : MultiState). SendsTo setting (with_plain given (sends.0 ++ waiting_in new.main)) rounds m) (sym is)
            (same_streams setting (with_plain given sends.0) (with_plain given (sends.0 ++ waiting_in new.main)) rounds e e'
            (ap (λ (l : List ℕ). length l) given_is) ends
            (rest_waits sends.0 new e e' waits rest)
            (λ channel. ap (λ (l : List ℕ). given.channel channel ++ l) (sym (same_left e e' channels given_is channel))) before),
      );
  keeps_round = λ setting image dirty given rounds here.
      absurd (subst (λ (m : MultiState). InRoundTo setting image dirty (with_plain given here.0) rounds m) was here.2);
  in_round = λ here. absurd (subst (λ (m : MultiState). IsOpen m) was here);
  idle = λ here. absurd (subst (λ (m : MultiState). IsIdle m) was here);
  ended = λ _. (
    subst (λ (m : MultiState). IsOver m) (sym is) tt,
    ap (λ (m : MultiState). is_left_open m) is ∙ ends ∙ ap (λ (m : MultiState). is_left_open m) (sym was),
  );
  given_up = λ here.
      let before = subst (λ (m : MultiState). HasNothingLeft m) was here.0 in
      (subst (λ (m : MultiState). HasNothingLeft m) (sym is) (rest, channels ∙ before.1), waits ∙ before.0);
  written = λ here. absurd (subst (λ (m : MultiState). IsIdle m) was here);
  all = λ _ empty setting given rounds sends.
      let before = subst (λ (m : MultiState). SendsTo setting (with_plain given sends.0) rounds m) was sends.2 in
      let whole : sends.0 ≡ ended_main e.left_open None setting.table (length rounds) =
      sym (append-nil sends.0)
      ∙ ap (λ (l : List ℕ). sends.0 ++ l) (sym (sym waits ∙ empty))
      ∙ ended_is e.left_open setting.table setting.uuid setting.limit setting.channels rounds _ _ before.1 in
      named_ended e.left_open setting.name given.main setting.table (length rounds)
      (subst (λ (l : List ℕ). IsNamed setting.name given.main l) whole (named_given setting.name given.main sends.0 old none sends.1))
      ∙ ap (λ (m : MultiState). ended_main (is_left_open m) setting.name setting.table (length rounds)) (sym was);
}
