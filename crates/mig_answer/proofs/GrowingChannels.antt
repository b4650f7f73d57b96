-- What is read of a channel stays read if more bytes follow, or it ends.
use Rattle.std.proofs.Common.{◌≡◌, ◌≢◌, ◌⊎◌, ℕ, ◌+◌, ◌<◌, Bool, true, false, cond, List, [], ◌∷◌, ◌++◌, length, get_or, Option, Some, None, refl, sym, ap}
use Rattle.std.proofs.Common.{subst, ◌∙◌, inl, inr, arith}
use Rattle.std.proofs.lemmas.Bool.{cases_Bool}
use Rattle.std.proofs.lemmas.List.{append-nil, length-append, get_or_append_left}
use Rattle.mig_mem.specs.PageSize.{IsPageSize}
use Rattle.mig_packet.specs.declared.state.ChannelState.{ChannelState}
use Rattle.mig_packet.specs.declared.state.ChannelState.TheVariants.{Reading, Closed, Bad}
use Rattle.mig_packet.specs.Packet.{is_sync}
use Rattle.mig_packet.specs.Progress.{ChannelProgress, start, after_item, after}
use Rattle.mig_packet.specs.Reading.{after_all, Front, Reads, state_at, Settings, ChannelReading, IsReading}
use Rattle.mig_packet.specs.Reader.{with_taken, HasRound}
use Rattle.mig_packet.proofs.Later.{Reads-on, Reads-more}
use Rattle.mig_packet.proofs.Limits.{limits_law}
use Rattle.mig_packet.proofs.Unique.{one_reading}
use Rattle.mig_packet.proofs.Exists.{some_reading, one_reading_law}
use Rattle.mig_packet.proofs.PagingSteps.{known}
use Rattle.mig_answer.specs.Texts.{Text}
use Rattle.mig_answer.specs.Growing.{GoesOn}

-- What is read of a channel stays read: its hello, its complete rounds, and everything once it
-- isn't reading any more. There was no round before the hello.
pub record ChannelStays (before now : ChannelReading) : Type 0 where
  pub more_rounds : List (List (List ℕ))
  pub has_rounds : now.rounds ≡ before.rounds ++ more_rounds
  pub same_hello : before.hello ≢ None → now.hello ≡ before.hello
  pub same_once_over : before.state ≢ Reading → now ≡ before
  pub has_hello_first : before.hello ≡ None → before.rounds ≡ []

-- ---- a hello stays

hello_packet : (c : ChannelProgress) (sync : Bool) (packet : List ℕ)
    → (cond sync (record c { packets = []; rounds = c.rounds ++ (c.packets ++ packet ∷ []) ∷ [] })
    (record c { packets = c.packets ++ packet ∷ [] })).hello ≡ c.hello
hello_packet c true packet = refl
hello_packet c false packet = refl

hello_item : (c : ChannelProgress) (h : Option ℕ) (id : ℕ) (item : List ℕ) → h ≡ Some id → c.hello ≡ Some id → (after_item c h item).hello ≡ Some id
hello_item c None id item e has = absurd cc
hello_item c (Some x) id item e has = hello_packet c (is_sync item) item ∙ has

hello_all : (c : ChannelProgress) (id : ℕ) (items : List (List ℕ)) → c.hello ≡ Some id → (after_all c items).hello ≡ Some id
hello_all c id [] has = has
hello_all c id (item ∷ items) has = hello_all (after c item) id items (hello_item c c.hello id item has has)

hello_stays : (c d : ChannelProgress) (bytes : List ℕ) → Front c bytes d → c.hello ≢ None → d.hello ≡ c.hello
hello_stays c d bytes f some =
    let found = known c.hello some in
    ap (λ (x : ChannelProgress). x.hello) f.leads_to ∙ hello_all c found.0 f.items found.1 ∙ sym found.1

-- ---- two readings

-- where a reading begins
abbrev from : Settings → ChannelProgress
from given = start given.page_size given.uuid given.channels given.waiting

-- the same, without its whole rounds
abbrev roundless : ChannelProgress → ChannelProgress
roundless c = record c { rounds = [] }

with_rounds_again : (c : ChannelProgress) → with_taken c.rounds (roundless c) ≡ c
with_rounds_again c = ap (λ (r : List (List (List ℕ))). record c { rounds = r }) (append-nil c.rounds)

same_reading : (a b : ChannelReading) → a.hello ≡ b.hello → a.rounds ≡ b.rounds → a.state ≡ b.state → a ≡ b
same_reading a b h r s =
    ap (λ (x : Option ℕ). record { hello = x; rounds = a.rounds; state = a.state }) h
    ∙ ap (λ (x : List (List (List ℕ))). record { hello = b.hello; rounds = x; state = a.state }) r
    ∙ ap (λ (x : ChannelState). record { hello = b.hello; rounds = b.rounds; state = x }) s

-- an end changes nothing if a channel isn't to be read on
state_stays : (ended : Bool) (to : ChannelProgress) (rest : List ℕ) (found : ChannelState) → found ≢ Reading → state_at ended to rest found ≡ found
state_stays true to rest Reading other = absurd (other refl)
state_stays true to rest Closed other = refl
state_stays true to rest (Bad f) other = refl
state_stays false to rest found other = refl

-- nothing follows a fault
over : (given : Settings) (text more : List ℕ) (ended : Bool) (a b : ChannelReading) → a.state ≢ Reading → IsReading given text false a
    → IsReading given (text ++ more) ended b → b ≡ a
over given text more ended a b other is_a is_b =
    let found : is_a.found ≢ Reading = λ e. other (is_a.has_state ∙ e) in
    let on = Reads-more (from given) text is_a.to is_a.rest more is_a.found found is_a.reads in
    let same = one_reading (from given) (text ++ more) is_b.to is_a.to is_b.rest (is_a.rest ++ more) is_b.found is_a.found is_b.reads on in
    same_reading b a
    (is_b.has_hello ∙ ap (λ (c : ChannelProgress). c.hello) same.0 ∙ sym is_a.has_hello)
    (is_b.has_rounds ∙ ap (λ (c : ChannelProgress). c.rounds) same.0 ∙ sym is_a.has_rounds)
    (is_b.has_state ∙ ap (state_at ended is_b.to is_b.rest) same.2 ∙ state_stays ended is_b.to is_b.rest is_a.found found ∙ sym is_a.has_state)

stays_over : (a b : ChannelReading) → (a.hello ≡ None → a.rounds ≡ []) → b ≡ a → ChannelStays a b
stays_over a b first e = record {
  more_rounds = [];
  has_rounds = ap (λ (x : ChannelReading). x.rounds) e ∙ sym (append-nil a.rounds);
  same_hello = λ _. ap (λ (x : ChannelReading). x.hello) e;
  same_once_over = λ _. e;
  has_hello_first = first;
}

-- a channel that hasn't ended is read on
stays_on : (given : Settings) (text more : List ℕ) (ended : Bool) (a b : ChannelReading) → (a.hello ≡ None → a.rounds ≡ []) → a.state ≡ Reading
    → IsReading given text false a → IsReading given (text ++ more) ended b → ChannelStays a b
stays_on given text more ended a b first_hello open_ is_a is_b =
    let c : ChannelProgress = is_a.to in
    let mid : ChannelProgress = roundless c in
    let next = some_reading mid (is_a.rest ++ more) in
    let found : is_a.found ≡ Reading = sym is_a.has_state ∙ open_ in
    let first : Reads (from given) text (with_taken c.rounds mid) is_a.rest Reading =
    subst (λ (s : ChannelState). Reads (from given) text (with_taken c.rounds mid) is_a.rest s) found
    (subst (λ (x : ChannelProgress). Reads (from given) text x is_a.rest is_a.found) (sym (with_rounds_again c)) is_a.reads) in
    let on = Reads-on c.rounds (from given) mid next.0 text is_a.rest more next.1 next.2 first next.3 in
    let same = one_reading (from given) (text ++ more) is_b.to (with_taken c.rounds next.0) is_b.rest next.1 is_b.found next.2 is_b.reads on in
    record {
      more_rounds = next.0.rounds;
      has_rounds = is_b.has_rounds ∙ ap (λ (x : ChannelProgress). x.rounds) same.0
          ∙ ap (λ (r : List (List (List ℕ))). r ++ next.0.rounds) (sym is_a.has_rounds);
      same_hello = λ some.
          is_b.has_hello ∙ ap (λ (x : ChannelProgress). x.hello) same.0
          ∙ hello_stays mid next.0 next.3.front next.3.leads (λ none. some (is_a.has_hello ∙ none)) ∙ sym is_a.has_hello;
      same_once_over = λ other. absurd (other open_);
      has_hello_first = first_hello;
    }

reading_or_over : (s : ChannelState) → (s ≡ Reading) ⊎ (s ≢ Reading)
reading_or_over Reading = inl refl
reading_or_over Closed = inr (λ e. absurd cc)
reading_or_over (Bad f) = inr (λ e. absurd cc)

stays_open : (given : Settings) (text more : List ℕ) (ended : Bool) (a b : ChannelReading) → IsPageSize given.page_size
    → IsReading given text false a → IsReading given (text ++ more) ended b → ChannelStays a b
stays_open given text more ended a b size is_a is_b =
    let limits = limits_law given text false a size is_a in
    elim (reading_or_over a.state) [
      | inl open_ ↦ stays_on given text more ended a b limits.has_hello_first open_ is_a is_b
      | inr other ↦ stays_over a b limits.has_hello_first (over given text more ended a b other is_a is_b)
    ]

-- What is read of a channel stays read.
pub channel_stays : (given : Settings) (old new : Text) (before now : ChannelReading) → IsPageSize given.page_size → GoesOn old new
    → IsReading given old.bytes old.ended before → IsReading given new.bytes new.ended now → ChannelStays before now
channel_stays given old new before now size goes is_before is_now = elim (cases_Bool old.ended) [
  | inl t ↦
      let limits = limits_law given old.bytes old.ended before size is_before in
      let one = one_reading_law given old.bytes old.ended size in
      let again : IsReading given old.bytes old.ended now =
      subst (λ (text : Text). IsReading given text.bytes text.ended now) (goes.stays_ended t) is_now in
      stays_over before now limits.has_hello_first (one.2 now again ∙ sym (one.2 before is_before))
  | inr f ↦ stays_open given old.bytes goes.more new.ended before now size
      (subst (λ (ended : Bool). IsReading given old.bytes ended before) f is_before)
      (subst (λ (bytes : List ℕ). IsReading given bytes new.ended now) goes.has_bytes is_now)
]

-- The rounds and the hello don't depend on whether the channel has ended.
pub same_rounds : (given : Settings) (text : List ℕ) (a b : Bool) (x y : ChannelReading) → IsReading given text a x → IsReading given text b y
    → (x.rounds ≡ y.rounds) × (x.hello ≡ y.hello)
same_rounds given text a b x y is_x is_y =
    let same = one_reading (from given) text is_x.to is_y.to is_x.rest is_y.rest is_x.found is_y.found is_x.reads is_y.reads in (
      is_x.has_rounds ∙ ap (λ (c : ChannelProgress). c.rounds) same.0 ∙ sym is_y.has_rounds,
      is_x.has_hello ∙ ap (λ (c : ChannelProgress). c.hello) same.0 ∙ sym is_y.has_hello,
    )

-- ---- a round stays

-- a round of a list that has grown
pub round_of_more : {X : Type 0} (before now more : List (List X)) (k : ℕ) → now ≡ before ++ more → k < length before
    → (k < length now) × (get_or now k [] ≡ get_or before k [])
round_of_more {X} before now more k e below = (
  (let long : length now ≡ length before + length more = ap length e ∙ length-append before more in omega (arith, below, long)),
  ap (λ (rounds : List (List X)). get_or rounds k []) e ∙ get_or_append_left before more [] k below,
)

-- a round of a channel stays if more bytes follow
pub round_stays : (given : Settings) (text more : List ℕ) (k : ℕ) (round : List (List ℕ)) → IsPageSize given.page_size → HasRound given text k round
    → HasRound given (text ++ more) k round
round_stays given text more k round size has =
    let next = one_reading_law given (text ++ more) false size in
    let stays = stays_open given text more false has.0 next.0 size has.1 next.1 in
    let kept = round_of_more has.0.rounds next.0.rounds stays.more_rounds k stays.has_rounds has.2 in
    (next.0, next.1, kept.0, kept.1 ∙ has.3)
