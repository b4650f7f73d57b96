-- Senders before and after some rounds, and what they wrote.
use Rattle.std.proofs.Common.{ℕ, ◌≡◌, ◌<◌, ◌≤◌, List, [], ◌∷◌, ◌++◌, length, get_or, Option, Some, None, true, refl, sym, ap, ◌∙◌, subst, arith}
use Rattle.std.specs.Prelude.{MatchOption, IfSome, IsSomeAnd, is_some, Vec, Result, Ok, Err, OnOk, IsOk, ⊤}
use Rattle.std.proofs.lemmas.List.{map-append, ext_get_or}
use Rattle.std.proofs.lemmas.List.FromFn.{length-map-range_with_len, get_or-map-range_with_len}
use Rattle.mig_mem.specs.RamTable.{RamTable}
use Rattle.mig_mem.specs.Image.{Page}
use Rattle.mig_mem.specs.Round.{round_of}
use Rattle.mig_mem.specs.Tracking.{Snapshot, rounds_of}
use Rattle.mig_stream.specs.Writer.{Writer}
use Rattle.mig_stream.specs.Written.{single}
use Rattle.mig_send.specs.declared.fault.SendFault.{SendFault}
use Rattle.mig_send.specs.declared.multi.Sent.{Sent}
use Rattle.mig_send.specs.Sending.{HasSent, HasSentDrained}
use Rattle.mig_send.specs.DealtRounds.{DealtRound, IsSending}
use Rattle.mig_send.specs.MultiSending.{MultiSending, Drained, HasSentRounds, HasSentOne, KeepsSetting, nothing_drained, whole_texts, texts_of}
use Rattle.mig_packet.specs.PageSize.{page_limit}
use Rattle.mig_scenario.specs.declared.layout.Layout.{Layout}
use Rattle.mig_scenario.specs.Layout.{bytes_in, HasRoom}
use Rattle.mig_scenario.specs.declared.senders.Senders.{Senders}
use Rattle.mig_scenario.specs.declared.senders.Texts.{Texts}
use Rattle.mig_scenario.specs.Playing.{HasDealt, IsSentOf, AreLike, AreTexts}

-- ---- the same senders

keeps_then : (a b c : MultiSending) → KeepsSetting a b → KeepsSetting b c → KeepsSetting a c
keeps_then a b c x y = record {
  same_table = y.same_table ∙ x.same_table;
  same_uuid = y.same_uuid ∙ x.same_uuid;
  same_limit = y.same_limit ∙ x.same_limit;
  as_many = y.as_many ∙ x.as_many;
}

-- a sender on several channels keeps its setting, if there is one
abbrev pub IsKept : Option MultiSending → Option MultiSending → Type 0
IsKept old new = MatchOption old (new ≡ None) (λ s. IsSomeAnd new (λ t. KeepsSetting s t))

kept_then : (a b c : Option MultiSending) → IsKept a b → IsKept b c → IsKept a c
kept_then None b c x y = rw x at y
kept_then (Some s) None c x y = absurd x
kept_then (Some s) (Some t) None x y = absurd y
kept_then (Some s) (Some t) (Some u) x y = keeps_then s t u x y

-- senders like senders that are like others are like those too
pub like_then : {A : Type 0} (a b c : Senders A) → AreLike a b → AreLike b c → AreLike a c
like_then a b c x y = record {
  single_like = y.single_like ∙ x.single_like;
  several_like = kept_then a.several b.several c.several x.several_like y.several_like;
}

match_like : {X : Type 0} (a b : Option X) (P Q : Type 0) → is_some b ≡ is_some a → MatchOption b P (λ s. Q) → MatchOption a P (λ s. Q)
match_like None None P Q e h = h
match_like (Some x) (Some y) P Q e h = h
match_like None (Some y) P Q e h = absurd cc
match_like (Some x) None P Q e h = absurd cc

-- what a sender wrote is what one of the same setting would have written
dealt_like : {B : Type 0} (table : RamTable) (s t : MultiSending) (snapshots : List Snapshot) (sent : Sent B) → KeepsSetting s t
    → IsSentOf table t.uuid t.limit (length t.channels) snapshots sent → IsSentOf table s.uuid s.limit (length s.channels) snapshots sent
dealt_like table s t snapshots sent keeps is = rw (sym keeps.same_uuid, sym keeps.same_limit, sym keeps.as_many) is

several_like : {B : Type 0} (table : RamTable) (snapshots : List Snapshot) (a b : Option MultiSending) (texts : Option (Sent B)) → IsKept a b
    → MatchOption b (texts ≡ None) (λ s. IsSomeAnd texts (λ sent. IsSentOf table s.uuid s.limit (length s.channels) snapshots sent))
    → MatchOption a (texts ≡ None) (λ s. IsSomeAnd texts (λ sent. IsSentOf table s.uuid s.limit (length s.channels) snapshots sent))
several_like table snapshots None b texts kept are = rw kept at are
several_like table snapshots (Some s) None texts kept are = absurd kept
several_like table snapshots (Some s) (Some t) None kept are = absurd are
several_like table snapshots (Some s) (Some t) (Some sent) kept are = dealt_like table s t snapshots sent kept are

-- streams of some senders are also those of senders of the same kinds and settings
pub texts_like : {A : Type 0} (table : RamTable) (old new : Senders A) (snapshots : List Snapshot) (texts : Texts A)
    → AreLike old new → AreTexts table new snapshots texts
    → AreTexts table old snapshots texts
texts_like table old new snapshots texts like are = record {
  single_text = match_like old.single new.single _ _ like.single_like are.single_text;
  several_texts = several_like table snapshots old.several new.several texts.several like.several_like are.several_texts;
}

-- if there is a sender of a single stream, there is its stream
pub has_text : {X Y : Type 0} (s : Option X) (text : Option Y) (P : Y → Type 0) → is_some s ≡ true
    → MatchOption s (text ≡ None) (λ x. IsSomeAnd text P) → IsSomeAnd text P
has_text None text P e h = absurd cc
has_text (Some x) text P e h = h

-- ---- one sender of a single stream

-- what a call says of its sender where it was sent
abbrev pub SendsOn : Writer → Writer → List Page → Type 0
SendsOn old new round = (drained : List ℕ) (rounds : List (List Page)) → HasSentDrained drained old rounds → HasSentDrained drained new (rounds ++ round ∷ [])

one_more : (snapshots : List Snapshot) (s : Snapshot) → rounds_of snapshots ++ round_of s.image s.dirty ∷ [] ≡ rounds_of (snapshots ++ s ∷ [])
one_more snapshots s = sym (map-append (λ (x : Snapshot). round_of x.image x.dirty) snapshots (s ∷ []))

-- a sender of a single stream whose round of a snapshot went well has sent it after its others
pub sent_more : (old new : Writer) (r : Result ⊤ SendFault) (o : Option Writer) (snapshots : List Snapshot) (s : Snapshot) → o ≡ Some old
    → OnOk r (SendsOn old new (round_of s.image s.dirty)) → IsOk r → IfSome o (λ x. HasSent x (rounds_of snapshots))
    → HasSent new (rounds_of (snapshots ++ s ∷ []))
sent_more old new (Ok u) o snapshots s is sends good sent =
    subst (λ (rounds : List (List Page)). HasSent new rounds) (one_more snapshots s) (sends [] (rounds_of snapshots) (rw is at sent))
sent_more old new (Err e) o snapshots s is sends good sent = absurd cc

-- any property of a value, if there is one, holds if there is none
pub none_sent : {X : Type 0} (o : Option X) (P : X → Type 0) → ((x : X) → o ≡ Some x → ⊥) → IfSome o P
none_sent None P other = tt
none_sent (Some x) P other = absurd (other x refl)

-- without a sender there is no stream
pub no_text_of : {X Y : Type 0} (s : Option X) (t : Option Y) (P : Y → Type 0) → s ≡ None → t ≡ None → MatchOption s (t ≡ None) (λ x. IsSomeAnd t P)
no_text_of s t P none no_text = rw none no_text

-- with one there is its rounds' stream
pub text_of_rounds : {A : Type 0} (s : Option Writer) (t : Option (Vec ℕ A)) (table : RamTable) (rounds : List
    (List Page)) (w : Writer) (text : Vec ℕ A) → s ≡ Some w → t ≡ Some text
    → IfSome s (λ x. x.table ≡ table) → IfSome s (λ x. HasSent x rounds)
    → ((drained : List ℕ) (sent : List (List Page)) → HasSentDrained drained w sent → drained ++ text.items ≡ single w.table sent)
    → MatchOption s (t ≡ None) (λ x. IsSomeAnd t (λ made. made.items ≡ single table rounds))
text_of_rounds s t table rounds w text is is_text of sent finish =
    rw (is, is_text) (finish [] rounds (rw is at sent) ∙ ap (λ (x : RamTable). single x rounds) (rw is at of))

-- ---- one sender on several channels

-- a sender on channels whose round of a snapshot went well has sent it after its others
pub dealt_more : (old new : MultiSending) (r : Result ⊤ SendFault) (o : Option MultiSending) (snapshots : List Snapshot) (s : Snapshot) → o ≡ Some old
    → OnOk r (HasSentOne s old new) → IsOk r → IfSome o (λ x. HasDealt x snapshots) → HasDealt new (snapshots ++ s ∷ [])
dealt_more old new (Ok u) o snapshots s is one good sent =
    let dealt : HasDealt old snapshots = rw is at sent in
    let rounds : List DealtRound = dealt.0 in (
      rounds ++ one.round ∷ [],
      map-append (λ (x : DealtRound). x.snapshot) rounds (one.round ∷ []) ∙ ap (λ (l : List Snapshot). l ++ one.round.snapshot ∷ []) dealt.1
          ∙ ap (λ (x : Snapshot). snapshots ++ x ∷ []) one.is_of,
      one.has_sent nothing_drained rounds dealt.2,
    )
dealt_more old new (Err e) o snapshots s is one good sent = absurd cc

-- streams of which nothing was drained are complete
undrained : (texts : List (List ℕ)) → whole_texts nothing_drained texts ≡ texts
undrained texts =
    let n : ℕ = length texts in
    ext_get_or [] (whole_texts nothing_drained texts) texts (length-map-range_with_len (λ i. [] ++ get_or texts i []) 0 n)
    (λ i below. get_or-map-range_with_len (λ j. [] ++ get_or texts j []) 0 n i i []
    (omega (arith, below, length-map-range_with_len (λ j. [] ++ get_or texts j []) 0 n)) (omega arith))

-- if there is no sender on channels, and there are no streams of one, these are its streams
pub no_dealt_text : {A : Type 0} (s : Option MultiSending) (t : Option (Sent A)) (table : RamTable) (snapshots : List Snapshot) → s ≡ None → t ≡ None
    → MatchOption s (t ≡ None) (λ x. IsSomeAnd t (λ made. IsSentOf table x.uuid x.limit (length x.channels) snapshots made))
no_dealt_text s t table snapshots none no_text = rw none no_text

-- what it wrote in the end
pub texts_of_dealt : {A : Type 0} (s : Option MultiSending) (t : Option
    (Sent A)) (table : RamTable) (snapshots : List Snapshot) (m : MultiSending) (sent : Sent A) → s ≡ Some m → t ≡ Some sent
    → IfSome s (λ x. x.main.table ≡ table) → IfSome s (λ x. HasDealt x snapshots)
    → ((drained : Drained) (rounds : List DealtRound) → HasSentRounds drained m rounds
    → IsSending m.main.table m.uuid m.limit (length m.channels) rounds (drained.main ++ sent.main.items) (whole_texts drained (texts_of sent.channels.items)))
    → MatchOption s (t ≡ None) (λ x. IsSomeAnd t (λ made. IsSentOf table x.uuid x.limit (length x.channels) snapshots made))
texts_of_dealt {A} s t table snapshots m sent is is_sent of dealt finish =
    let has : HasDealt m snapshots = rw is at dealt in
    let same : m.main.table ≡ table = rw is at of in
    let whole : IsSending m.main.table m.uuid m.limit (length m.channels) has.0 sent.main.items (texts_of sent.channels.items) =
    subst (λ (l : List (List ℕ)). IsSending m.main.table m.uuid m.limit (length m.channels) has.0 sent.main.items l)
    (undrained (texts_of sent.channels.items)) (finish nothing_drained has.0 has.2) in
    let made : IsSentOf table m.uuid m.limit (length m.channels) snapshots sent =
    (has.0, has.1, subst (λ (x : RamTable). IsSending x m.uuid m.limit (length m.channels) has.0 sent.main.items (texts_of sent.channels.items)) same whole) in
    rw (is, is_sent) made

-- ---- a sender that a layout asks for

-- if a layout's batch has room in a packet, it has in one of a table with that page size
pub has_room : (table : RamTable) (layout : Layout) → table.page_size ≡ bytes_in layout.page_size → HasRoom layout
    → (0 < layout.batch) × (layout.batch ≤ page_limit table.page_size)
has_room table layout same room = subst (λ (n : ℕ). (0 < layout.batch) × (layout.batch ≤ page_limit n)) (sym same) room
