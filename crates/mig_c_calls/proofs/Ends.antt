-- Streams on several channels that are ended: what is left of the channels.
use Rattle.std.proofs.Common.{ℕ, ◌≡◌, ◌≢◌, ◌+◌, ◌<◌, ◌≤◌, ◌∙◌, ◌==◌, List, [], ◌++◌, length, map, replicate, take, drop, min, get_or, set, Bool, refl, sym, ap}
use Rattle.std.proofs.Common.{subst, arith, inl, inr}
use Rattle.std.specs.Prelude.{Vec}
use Rattle.std.specs.List.{range_with_len}
use Rattle.std.specs.declared.alloc.Global.{Global}
use Rattle.std.proofs.Math.Nat.{min-le_right}
use Rattle.std.proofs.lemmas.Bool.{cases_lt, cases_eq, cond-true, cond-false, eq-eqb, ne_eqb}
use Rattle.std.proofs.lemmas.List.{length-map, length-take-le, take_all, drop_all, get_or-replicate}
use Rattle.std.proofs.lemmas.List.{get_or_past, get_or-set_other, get_or-set_same, length-replicate, length-set}
use Rattle.std.proofs.lemmas.List.{drop-drop, take-append-drop, append_assoc, append-nil, nil_from_length}
use Rattle.std.proofs.lemmas.List.FromFn.{length-map-range_with_len, get_or-map-range_with_len}
use mathlib.Core.Path.{fun_ext}
use Rattle.mig_mem.specs.RamTable.{RamTable}
use Rattle.mig_send.specs.declared.multi.Sent.{Sent}
use Rattle.mig_send.specs.DealtRounds.{DealtRound, channel_text, channel_texts}
use Rattle.mig_send.specs.MultiSending.{MultiSending, Drained, texts_of, whole_texts, with_channel}
use Rattle.mig_c_calls.specs.declared.sending.EndedStreams.{EndedStreams}
use Rattle.mig_c_calls.specs.declared.sending.MultiState.TheVariants.{Over}
use Rattle.mig_c_calls.specs.Multi.{MultiSetting, IsSenderOf, AreEnded, SendsTo, DrainsChannel, SkipsChannel, left_of, all_channels}
use Rattle.mig_c_calls.proofs.Named.{texts_are}

-- of one number, and of none, it is that number
same_at : (n i m : ℕ) → get_or (replicate n m) i m ≡ m
same_at n i m = elim (cases_lt i n) [
  | inl lt ↦ get_or-replicate n i m m lt
  | inr ge ↦ get_or_past (replicate n m) i m (omega (arith, ge, length-replicate n m))
]

-- as many byte strings as there are channels
long_texts : (drained : Drained) (texts : List (List ℕ)) (uuid : List ℕ) (rounds : List DealtRound) (n : ℕ)
    → whole_texts drained texts ≡ channel_texts uuid n rounds → length texts ≡ n
long_texts drained texts uuid rounds n same =
    sym (length-map-range_with_len (λ channel. drained.channel channel ++ get_or texts channel []) 0 (length texts))
    ∙ ap (λ (l : List (List ℕ)). length l) same
    ∙ length-map-range_with_len (channel_text uuid rounds) 0 n

-- at first all of each channel is left
pub finishes : (left_open : Bool) (s : MultiSending) (sent : Sent Global) (given : Vec ℕ
    Global) (n : ℕ) (setting : MultiSetting) (drained : Drained) (rounds : List DealtRound)
    → given.items ≡ replicate n 0 → n ≡ length s.channels → IsSenderOf setting s
    → AreEnded left_open s.main.table s.uuid s.limit (length s.channels) rounds (drained.main ++ sent.main.items)
    (whole_texts drained (texts_of sent.channels.items))
    → SendsTo setting drained rounds (Over (record { sent = sent; given = given; left_open = left_open }))
finishes left_open s sent given n setting drained rounds zeros many is ended =
    let texts : List (List ℕ) = texts_of sent.channels.items in
    let main_text : List ℕ = drained.main ++ sent.main.items in
    let e : EndedStreams = record { sent = sent; given = given; left_open = left_open } in
    let has_texts = texts_are left_open s.main.table s.uuid s.limit (length s.channels) rounds main_text (whole_texts drained texts) ended in
    let long : length texts ≡ setting.channels = long_texts drained texts s.uuid rounds (length s.channels) has_texts ∙ is.as_many in
    let all_left : (channel : ℕ) → left_of e channel ≡ get_or texts channel [] =
    λ channel. ap (λ (k : ℕ). drop k (get_or texts channel [])) (ap (λ (l : List ℕ). get_or l channel 0) zeros ∙ same_at n channel 0) in
    let same : whole_texts drained texts ≡ all_channels setting.channels drained e =
    ap (λ (k : ℕ). map (λ channel. drained.channel channel ++ get_or texts channel []) (range_with_len 0 k)) long
    ∙ ap (λ (f : ℕ → List ℕ). map f (range_with_len 0 setting.channels))
    (fun_ext (λ channel. ap (λ (l : List ℕ). drained.channel channel ++ l) (sym (all_left channel)))) in (
      ap (λ (l : List ℕ). length l) zeros ∙ length-replicate n 0 ∙ many ∙ is.as_many,
      subst (λ (ts : List (List ℕ)). AreEnded left_open setting.table setting.uuid setting.limit setting.channels rounds main_text ts) same
          (subst (λ (k : ℕ). AreEnded left_open setting.table setting.uuid setting.limit k rounds main_text (whole_texts drained texts)) is.as_many
          (subst (λ (k : ℕ). AreEnded left_open setting.table setting.uuid k (length s.channels) rounds main_text (whole_texts drained texts)) is.same_limit
          (subst (λ (u : List ℕ). AreEnded left_open setting.table u s.limit (length s.channels) rounds main_text (whole_texts drained texts)) is.same_uuid
          (subst (λ (t : RamTable). AreEnded left_open t s.uuid s.limit (length s.channels) rounds main_text
          (whole_texts drained texts)) is.same_table ended)))),
    )

-- if nothing is left of a channel, all of it was copied out
left_done : (setting : MultiSetting) (drained : Drained) (rounds : List DealtRound) (e : EndedStreams) (channel : ℕ) → SendsTo setting drained rounds (Over e)
    → left_of e channel ≡ [] → channel < setting.channels → drained.channel channel ≡ channel_text setting.uuid rounds channel
left_done setting drained rounds e channel sends none lt =
    let has_texts : all_channels setting.channels drained e ≡ channel_texts setting.uuid setting.channels rounds =
    texts_are e.left_open setting.table setting.uuid setting.limit setting.channels rounds (drained.main ++ e.sent.main.items)
    (all_channels setting.channels drained e) sends.1 in
    sym (append-nil (drained.channel channel))
    ∙ ap (λ (l : List ℕ). drained.channel channel ++ l) (sym none)
    ∙ sym (get_or-map-range_with_len (λ c. drained.channel c ++ left_of e c) 0 setting.channels channel channel [] lt (omega arith))
    ∙ ap (λ (l : List (List ℕ)). get_or l channel []) has_texts
    ∙ get_or-map-range_with_len (channel_text setting.uuid rounds) 0 setting.channels channel channel [] lt (omega arith)

-- with other bytes copied out, and the others left, the streams are the same
pub same_streams : (setting : MultiSetting) (drained after : Drained) (rounds : List DealtRound) (e e' : EndedStreams)
    → length e'.given.items ≡ length e.given.items
    → e'.left_open ≡ e.left_open
    → after.main ++ e'.sent.main.items ≡ drained.main ++ e.sent.main.items
    → ((channel : ℕ) → after.channel channel ++ left_of e' channel ≡ drained.channel channel ++ left_of e channel)
    → SendsTo setting drained rounds (Over e) → SendsTo setting after rounds (Over e')
same_streams setting drained after rounds e e' long ends main_is channels sends = (
  long ∙ sends.0,
  subst (λ (b : Bool). AreEnded b setting.table setting.uuid setting.limit setting.channels rounds
      (after.main ++ e'.sent.main.items) (all_channels setting.channels after e')) (sym ends)
      (subst (λ (l : List ℕ). AreEnded e.left_open setting.table setting.uuid setting.limit setting.channels rounds l
      (all_channels setting.channels after e')) (sym main_is)
      (subst (λ (ts : List (List ℕ)). AreEnded e.left_open setting.table setting.uuid setting.limit setting.channels rounds
      (drained.main ++ e.sent.main.items) ts)
      (ap (λ (f : ℕ → List ℕ). map f (range_with_len 0 setting.channels)) (fun_ext (λ channel. sym (channels channel)))) sends.1)),
)

-- of a channel that there isn't nothing is left
pub past_all : (e : EndedStreams) (at : ℕ) → length e.sent.channels.items ≤ at → left_of e at ≡ []
past_all e at past =
    let texts : List (List ℕ) = texts_of e.sent.channels.items in
    let n : ℕ = get_or e.given.items at 0 in
    ap (λ (l : List ℕ). drop n l) (get_or_past texts at [] (omega (arith, past, length-map e.sent.channels.items (λ (v : Vec ℕ Global). v.items))))
    ∙ drop_all n [] (omega arith)

-- ---- what is left is copied out

handed : (drained : Drained) (at : ℕ) (front : List ℕ) (e e' : EndedStreams) → front ++ left_of e' at ≡ left_of e at
    → ((channel : ℕ) → channel ≢ at → left_of e' channel ≡ left_of e channel)
    → (channel : ℕ) → (with_channel drained at front).channel channel ++ left_of e' channel ≡ drained.channel channel ++ left_of e channel
handed drained at front e e' here other channel = elim (cases_eq channel at) [
  | inl same ↦
      ap (λ (l : List ℕ). l ++ left_of e' channel)
      (cond-true (channel == at) (drained.channel channel ++ front) (drained.channel channel) (eq-eqb channel at same))
      ∙ append_assoc (drained.channel channel) front (left_of e' channel)
      ∙ ap (λ (l : List ℕ). drained.channel channel ++ l)
      (subst (λ (n : ℕ). front ++ left_of e' n ≡ left_of e n) (sym same) here)
  | inr not ↦
      ap (λ (l : List ℕ). l ++ left_of e' channel)
      (cond-false (channel == at) (drained.channel channel ++ front) (drained.channel channel) (ne_eqb channel at not))
      ∙ ap (λ (l : List ℕ). drained.channel channel ++ l) (other channel not)
]

-- where nothing is left of a channel of ended streams, copying out no byte drains it, as it is
pub drains_none : (e : EndedStreams) (at : ℕ) (out : List ℕ)
    → ((setting : MultiSetting) → length e.given.items ≡ setting.channels → at < setting.channels → left_of e at ≡ [])
    → DrainsChannel at 0 out (Over e) (Over e)
drains_none e at out none = record {
  fits = omega arith;
  hands = λ _ setting drained rounds sends.
      same_streams setting drained (with_channel drained at []) rounds e e refl refl refl (handed drained at [] e e refl (λ channel not. refl)) sends;
  ended = λ _. (tt, refl);
  given_up = λ is. (refl, is);
  all = λ _ zero room setting drained rounds sends lt. left_done setting drained rounds e at sends (none setting sends.0 lt) lt;
  same = λ not. absurd (not tt);
}

-- if a front of what is left of a channel is copied out, and counted, with everything else of the
-- ended streams as it was, the channel is drained
pub drains_left : (e e' : EndedStreams) (at count : ℕ) (out : List ℕ) → at < length e.given.items → at < length e.sent.channels.items
    → e'.left_open ≡ e.left_open
    → e'.given.items ≡ set e.given.items at (get_or e.given.items at 0 + count) → e'.sent.main.items ≡ e.sent.main.items
    → texts_of e'.sent.channels.items ≡ texts_of e.sent.channels.items → count ≤ length out → take count out ≡ take count (left_of e at)
    → (count ≡ 0 → 0 < length out → length (left_of e at) ≡ 0) → DrainsChannel at count out (Over e) (Over e')
drains_left e e' at count out lt within ends moved same_main same_texts fits front none =
    let given : List ℕ = e.given.items in
    let now : ℕ = get_or given at 0 in
    let text : List ℕ = get_or (texts_of e.sent.channels.items) at [] in
    let left : left_of e' at ≡ drop (now + count) text =
    ap (λ (l : List ℕ). drop (get_or l at 0) (get_or (texts_of e'.sent.channels.items) at [])) moved
    ∙ ap (λ (k : ℕ). drop k (get_or (texts_of e'.sent.channels.items) at [])) (get_or-set_same given at (now + count) 0 lt)
    ∙ ap (λ (ts : List (List ℕ)). drop (now + count) (get_or ts at [])) same_texts in
    let here : take count out ++ left_of e' at ≡ left_of e at =
    ap (λ (l : List ℕ). take count out ++ l) left ∙ ap (λ (l : List ℕ). l ++ drop (now + count) text) front
    ∙ ap (λ (l : List ℕ). take count (left_of e at) ++ l) (sym (drop-drop count now text))
    ∙ take-append-drop count (left_of e at) in
    let other : (channel : ℕ) → channel ≢ at → left_of e' channel ≡ left_of e channel =
    λ channel not. ap (λ (l : List ℕ). drop (get_or l channel 0) (get_or (texts_of e'.sent.channels.items) channel [])) moved
    ∙ ap (λ (k : ℕ). drop k (get_or (texts_of e'.sent.channels.items) channel [])) (get_or-set_other given at channel (now + count) 0 not)
    ∙ ap (λ (ts : List (List ℕ)). drop (get_or given channel 0) (get_or ts channel [])) same_texts in
    record {
      fits = fits;
      hands = λ _ setting drained rounds sends.
          same_streams setting drained (with_channel drained at (take count out)) rounds e e'
          (ap (λ (l : List ℕ). length l) moved ∙ length-set given at (now + count)) ends
          (ap (λ (l : List ℕ). drained.main ++ l) same_main) (handed drained at (take count out) e e' here other) sends;
      ended = λ _. (tt, ends);
      given_up = λ is.
          absurd (omega (arith, within, length-map e.sent.channels.items (λ (v : Vec ℕ Global). v.items), ap (λ (ts : List (List ℕ)). length ts) is.1));
      all = λ _ zero room setting drained rounds sends is_channel. left_done setting drained rounds e at sends
          (nil_from_length (left_of e at) (none zero room)) is_channel;
      same = λ not. absurd (not tt);
    }

-- ---- what is left is skipped

-- where there is no such channel, or nothing is left of it, none is skipped
pub skips_none : (e : EndedStreams) (at len : ℕ) → ((setting : MultiSetting) → length e.given.items ≡ setting.channels
    → at < setting.channels → left_of e at ≡ []) → SkipsChannel at len 0 (Over e) (Over e)
skips_none e at len none = record {
  counts = λ _ setting drained rounds sends lt.
      let empty : length (left_of e at) ≡ 0 = ap (λ (l : List ℕ). length l) (none setting sends.0 lt) in
      omega (arith, empty, min-le_right len (length (left_of e at)));
  hands = λ _ setting drained rounds sends.
      same_streams setting drained (with_channel drained at []) rounds e e refl refl refl (handed drained at [] e e refl (λ channel not. refl)) sends;
  ended = λ _. (tt, refl);
  given_up = λ is. (refl, is);
  same = λ not. absurd (not tt);
}

-- if the first bytes that are left of a channel are counted, with everything else of the ended
-- streams as it was, they are skipped
pub skips_left : (e e' : EndedStreams) (at len count : ℕ) → at < length e.given.items → at < length e.sent.channels.items
    → e'.left_open ≡ e.left_open
    → e'.given.items ≡ set e.given.items at (get_or e.given.items at 0 + count) → e'.sent.main.items ≡ e.sent.main.items
    → texts_of e'.sent.channels.items ≡ texts_of e.sent.channels.items → count ≡ min len (length (left_of e at))
    → SkipsChannel at len count (Over e) (Over e')
skips_left e e' at len count lt within ends moved same_main same_texts counts =
    let left : List ℕ = left_of e at in
    let front : List ℕ = take count left in
    let within_left : count ≤ length left = omega (arith, counts, min-le_right len (length left)) in
    let all : length front ≡ count = length-take-le count left within_left in
    let drained : DrainsChannel at count front (Over e) (Over e') =
    drains_left e e' at count front lt within ends moved same_main same_texts (omega (arith, all))
    (take_all count front (omega (arith, all)))
    (λ zero room. absurd (omega (arith, zero, room, all))) in
    record {
      counts = λ _ setting given rounds sends is_channel. counts;
      hands = λ is setting given rounds sends.
          subst (λ (l : List ℕ). SendsTo setting (with_channel given at l) rounds (Over e')) (take_all count front (omega (arith, all)))
          (drained.hands is setting given rounds sends);
      ended = drained.ended;
      given_up = drained.given_up;
      same = λ not. absurd (not tt);
    }
