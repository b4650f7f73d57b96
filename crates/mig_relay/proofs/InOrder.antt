-- Each step keeps the rule of a channel's queue.
use Rattle.std.proofs.Common.{◌≡◌, ◌≢◌, ℕ, zero, suc, true, true≢false, List, [], ◌∷◌, ◌++◌, length, set, sym, refl, ap, ◌∙◌, subst, inl, ⊎_elim, append_assoc}
use mathlib.Core.Option.{some, some-ne-none}
use lib.ListN.{get_elem?}
use Rattle.crossbeam_channel.specs.Fifo.{Pushes, Pops, Forks}
use Rattle.atomic_table.proofs.Lists.{at_set, at_snoc}
use Rattle.mig_packet.specs.PageSize.{IsPageSize}
use Rattle.mig_relay.specs.declared.log.ChannelText.{ChannelText}
use Rattle.mig_relay.specs.declared.log.Log.{Log}
use Rattle.mig_relay.specs.declared.message.Message.{Message}
use Rattle.mig_relay.specs.Messages.{AreMessages, BeginsMessages}
use Rattle.mig_relay.specs.Queue.{no_channel_text, fresh, feeding, collecting, LogHolds, IsInOrder, TellsPush, TellsPop}
use Rattle.mig_relay.proofs.Places.{some_messages}

at_end : (l : List Log) (a b : Log) (j : ℕ) → get_elem? l j ≢ some b → get_elem? (l ++ a ∷ []) j ≡ some b → j ≡ length l
at_end [] a b zero n e = refl
at_end [] a b (suc j) n e = absurd (some-ne-none b (sym e))
at_end (x ∷ xs) a b zero n e = absurd (n e)
at_end (x ∷ xs) a b (suc j) n e = ap suc (at_end xs a b j n e)

abbrev All : (ℕ → Log → Type 0) → List Log → Type 0
All F views = (pass : ℕ) (v : Log) → get_elem? views pass ≡ some v → F pass v

all_set : (F : ℕ → Log → Type 0) (views : List Log) (pass : ℕ) (w : Log) → F pass w
    → ((j : ℕ) (u : Log) → j ≢ pass → get_elem? views j ≡ some u → F j u) → All F (set views pass w)
all_set F views pass w mine others j u e =
    ⊎_elim (λ (x : (j ≡ pass) × (w ≡ u)). subst (λ (y : ℕ × Log). F y.0 y.1) (λ i. (sym x.0 i, x.1 i)) mine)
    (λ (x : (j ≢ pass) × (get_elem? views j ≡ some u)). others j u x.0 x.1) (at_set views pass j w u e)

-- a new queue
pub begins : IsInOrder [] (fresh ∷ [])
begins = (
  0,
  0,
  no_channel_text,
  [],
  [],
  refl,
  some_messages no_channel_text (inl refl),
  all_set (LogHolds 0 0 no_channel_text [] []) (fresh ∷ []) 0 fresh ((λ _. (refl, refl, refl)), λ _. (refl, refl, refl))
      (λ j u other e. absurd (other (at_end [] fresh u j (λ x. some-ne-none u (sym x)) e))),
)

-- a push of what comes next
pub pushes : (n pass : ℕ) (v : Log) (x : Message) → v.feeds ≡ true → BeginsMessages v.source (v.done ++ x ∷ []) → Pushes IsInOrder n pass v x (TellsPush v x)
pushes n pass v x may next items views _ h at =
    let w : Log = feeding v.source (v.done ++ x ∷ []) in
    let mine = (h.7 pass v at).0 may in
    let pushed = h.3 ++ x ∷ [] in (
      w,
      (
        h.0,
        h.1,
        h.2,
        pushed,
        h.4,
        ap (λ (l : List Message). l ++ x ∷ []) h.5 ∙ append_assoc h.4 items (x ∷ []),
        subst (λ (p : ChannelText × List Message). BeginsMessages p.0 (p.1 ++ x ∷ [])) (λ i. (mine.1 i, mine.2 i)) next,
        all_set (LogHolds h.0 h.1 h.2 pushed h.4) views pass w
            ((λ _. (mine.0, mine.1, ap (λ (l : List Message). l ++ x ∷ []) mine.2)), λ p. absurd (true≢false (sym p)))
            (λ j u other e. ((λ p. absurd (other (((h.7 j u e).0 p).0 ∙ sym mine.0))), (h.7 j u e).1)),
      ),
      refl,
    )

-- a pop gives what comes next
pub pops : (pass : ℕ) (v : Log) → v.collects ≡ true → Pops IsInOrder pass v (TellsPop v)
pops pass v may x items views h at =
    let w : Log = collecting v.source (v.done ++ x ∷ []) in
    let mine = (h.7 pass v at).1 may in
    let popped = h.4 ++ x ∷ [] in
    let split : h.3 ≡ popped ++ items = h.5 ∙ sym (append_assoc h.4 (x ∷ []) items) in
    let all : h.3 ++ h.6.0 ≡ (v.done ++ x ∷ []) ++ (items ++ h.6.0) =
    ap (λ (l : List Message). l ++ h.6.0) (split ∙ ap (λ (l : List Message). (l ++ x ∷ []) ++ items) (sym mine.2))
    ∙ append_assoc (v.done ++ x ∷ []) items h.6.0 in (
      w,
      (
        h.0,
        h.1,
        h.2,
        h.3,
        popped,
        split,
        h.6,
        all_set (LogHolds h.0 h.1 h.2 h.3 popped) views pass w
            ((λ p. absurd (true≢false (sym p))), λ _. (mine.0, mine.1, ap (λ (l : List Message). l ++ x ∷ []) mine.2))
            (λ j u other e. ((h.7 j u e).0, λ p. absurd (other (((h.7 j u e).1 p).0 ∙ sym mine.0)))),
      ),
      (refl, (items ++ h.6.0, subst (λ (p : ChannelText × List Message). AreMessages p.0 p.1) (λ i. (sym mine.1 i, all i)) h.6.1)),
    )

-- the one pass of a new queue is cut in two, which learn the channel
pub forks : (pass : ℕ) (v : Log) (source : ChannelText) → IsPageSize source.page_size → v ≡ fresh
    → Forks IsInOrder pass v (feeding source []) (collecting source [])
forks pass v source size_is is items views h at =
    let l : Log = feeding source [] in
    let r : Log = collecting source [] in
    let mine = h.7 pass fresh (at ∙ ap some is) in
    let vs : List Log = set views pass l in
    let Old : ℕ → Log → Type 0 = λ j u. (u.feeds ≡ true → (j ≡ h.0) × (u.source ≡ source) × (u.done ≡ [])) × (u.collects ≢ true) in
    let old : All Old vs =
    all_set Old views pass l ((λ _. ((mine.0 refl).0, refl, refl)), λ p. true≢false (sym p))
    (λ j u other e. ((λ p. absurd (other (((h.7 j u e).0 p).0 ∙ sym (mine.0 refl).0))), λ p. other (((h.7 j u e).1 p).0 ∙ sym (mine.1 refl).0))) in
    let none : [] ≡ items = (mine.0 refl).2 ∙ h.5 ∙ ap (λ (k : List Message). k ++ items) (sym (mine.1 refl).2) in (
      h.0,
      length vs,
      source,
      [],
      [],
      none,
      some_messages source size_is,
      λ j u e. ⊎_elim (λ x. ((old j u x).0, λ p. absurd ((old j u x).1 p)))
          (λ (is : r ≡ u). (
            (λ p. absurd (true≢false (sym (ap (λ (y : Log). y.feeds) is ∙ p)))),
            λ p. (at_end vs r u j (λ x. (old j u x).1 p) e, ap (λ (y : Log). y.source) (sym is), ap (λ (y : Log). y.done) (sym is)),
          )) (at_snoc vs r u j e),
    )
