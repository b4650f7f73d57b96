-- What a load takes of a channel, item by item.
use Rattle.std.proofs.Common.{ℕ, zero, suc, ◌≡◌, ◌≢◌, ◌<◌, Bool, true, false, List, [], ◌∷◌, ◌++◌, length, map, take, refl, sym, ap, ◌∙◌, Some, arith, subst}
use Rattle.std.proofs.Common.{append_assoc, get_or}
use Rattle.std.specs.Prelude.{IfSome, slice_get, slice_set}
use Rattle.std.specs.List.{All, AllZip}
use Rattle.std.proofs.lemmas.List.{append-nil, length-append, length-map, take-append-le, take_more, take_all, get_or-map}
use Rattle.mig_mem.specs.PageSize.{IsPageSize}
use Rattle.mig_packet.specs.ChannelItems.{ChannelItem}
use Rattle.mig_single_load.proofs.Sections.{of_some}
use Rattle.mig_relay.specs.declared.item.Item.{Item}
use Rattle.mig_relay.specs.declared.log.ChannelText.{ChannelText}
use Rattle.mig_answer.specs.declared.status.Status.TheVariants.{Pending}
use Rattle.mig_answer.specs.Received.{end_in}
use Rattle.mig_relay.specs.RelayItems.{given, as_channel_item, IsOfPageSize, QueueEnd, BeginsItems, IsThrough}
use Rattle.mig_relay.specs.Relay.{Takes, TakesAt}
use Rattle.mig_relay.specs.Relayed.{Continues, IsOpenAt, GivesItem}
use Rattle.mig_answer.proofs.Received.{stop_law}

-- ---- lists

-- an item that is set at an index of a list is there
pub set_there : {X : Type 0} (l : List X) (j : ℕ) (x y : X) → slice_get l j ≡ Some x → slice_get (slice_set l j y) j ≡ Some y
set_there [] j x y e = cc
set_there (z ∷ l) zero x y e = refl
set_there (z ∷ l) (suc j) x y e = set_there l j x y e

-- setting the item that a list has at an index leaves the list as it was
pub set_same : {X : Type 0} (l : List X) (j : ℕ) (x : X) → slice_get l j ≡ Some x → slice_set l j x ≡ l
set_same [] j x e = refl
set_same (z ∷ l) zero x e = let is : z ≡ x = cc in ap (λ y. y ∷ l) (sym is)
set_same (z ∷ l) (suc j) x e = ap (λ m. z ∷ m) (set_same l j x e)

-- of two items set at one index the second stays
pub set_twice : {X : Type 0} (l : List X) (j : ℕ) (x y : X) → slice_set (slice_set l j x) j y ≡ slice_set l j y
set_twice [] j x y = refl
set_twice (z ∷ l) zero x y = refl
set_twice (z ∷ l) (suc j) x y = ap (λ m. z ∷ m) (set_twice l j x y)

-- a list has an item at each index below its length
pub is_there : {X : Type 0} (l : List X) (j : ℕ) → j < length l → (x : X) × (slice_get l j ≡ Some x)
is_there [] j h = absurd (omega (arith, h))
is_there (z ∷ l) zero h = (z, refl)
is_there (z ∷ l) (suc j) h = is_there l j (omega (arith, h))

-- ---- what goes on

-- an end of a queue continues itself
pub goes_on : (p : QueueEnd) → Continues p p
goes_on p = record { same_queue = refl; same_source = refl; begins = record { rest = []; has_rest = sym (append-nil p.passed) } }

-- if `q` continues `p`, and `r` continues `q`, `r` continues `p`
pub goes_further : (p q r : QueueEnd) → Continues p q → Continues q r → Continues p r
goes_further p q r a b = record {
  same_queue = b.same_queue ∙ a.same_queue;
  same_source = b.same_source ∙ a.same_source;
  begins = record {
    rest = a.begins.rest ++ b.begins.rest;
    has_rest = b.begins.has_rest ∙ ap (λ (l : List ChannelItem). l ++ b.begins.rest) a.begins.has_rest ∙ append_assoc p.passed a.begins.rest b.begins.rest;
  };
}

-- each of some ends of queues continues itself
pub all_go_on : (ps : List QueueEnd) → AllZip Continues ps ps
all_go_on [] = tt
all_go_on (p ∷ ps) = (goes_on p, all_go_on ps)

-- if ends continue others one by one, and further ones continue them, these continue the first
pub all_go_further : (ps qs rs : List QueueEnd) → AllZip Continues ps qs → AllZip Continues qs rs → AllZip Continues ps rs
all_go_further [] [] [] a b = tt
all_go_further [] [] (r ∷ rs) a b = absurd b
all_go_further [] (q ∷ qs) rs a b = absurd a
all_go_further (p ∷ ps) [] rs a b = absurd a
all_go_further (p ∷ ps) (q ∷ qs) [] a b = absurd b
all_go_further (p ∷ ps) (q ∷ qs) (r ∷ rs) a b = (goes_further p q r a.0 b.0, all_go_further ps qs rs a.1 b.1)

-- if one end is replaced by one that continues it, all of the list continue
pub one_goes_on : (ps : List QueueEnd) (j : ℕ) (p q : QueueEnd) → slice_get ps j ≡ Some p → Continues p q → AllZip Continues ps (slice_set ps j q)
one_goes_on [] j p q e c = tt
one_goes_on (x ∷ ps) zero p q e c = let is : x ≡ p = cc in (subst (λ (y : QueueEnd). Continues y q) (sym is) c, all_go_on ps)
one_goes_on (x ∷ ps) (suc j) p q e c = (goes_on x, one_goes_on ps j p q e c)

-- after an item was taken, or none was left, the end continues the one before
pub one_taken : (p q : QueueEnd) (more : Bool) → Takes p q more → Continues p q
one_taken p q true t = record {
  same_queue = ap (λ (u : QueueEnd). u.queue) t.1;
  same_source = ap (λ (u : QueueEnd). u.source) t.1;
  begins = record { rest = t.0 ∷ []; has_rest = ap (λ (u : QueueEnd). u.passed) t.1 };
}
one_taken p q false t = subst (Continues p) (sym t.0) (goes_on p)

-- ---- an item

-- a channel has its item `at`, and those before it are the same
pub record Has (j at : ℕ) (old new : List QueueEnd) : Type 0 where
  pub before : QueueEnd
  pub behind : QueueEnd
  pub has_before : slice_get old j ≡ Some before
  pub has_new : new ≡ slice_set old j behind
  pub continues : Continues before behind
  pub same_front : take at behind.passed ≡ take at before.passed
  pub there : at < length behind.passed

-- if more than `at` items were taken of channel j, it has item `at`, and nothing changes
pub has_already : (j at : ℕ) (old : List QueueEnd) (items : List Item) → j < length old → IfSome (slice_get old j) (IsOpenAt at)
    → IfSome (slice_get old j) (λ p. map as_channel_item items ≡ p.passed) → at ≢ length items → Has j at old old
has_already j at old items within is_open is_items differ =
    let found = is_there old j within in
    let p : QueueEnd = found.0 in
    let here : IsOpenAt at p = of_some (IsOpenAt at) (slice_get old j) p found.1 is_open in
    let passed : map as_channel_item items ≡ p.passed = of_some (λ (p : QueueEnd). map as_channel_item items ≡ p.passed) (slice_get old j) p found.1 is_items in
    record {
      before = p;
      behind = p;
      has_before = found.1;
      has_new = sym (set_same old j p found.1);
      continues = goes_on p;
      same_front = refl;
      there = omega (arith, here.0, differ, ap length passed, length-map items as_channel_item);
    }

-- all items have the stop among them
stop_among : (p : QueueEnd) → IsPageSize p.source.page_size → IsThrough p → end_in p.passed ≢ Pending
stop_among p size through = (stop_law (given p.source) p.source.text p.passed p.passed size through record {
  rest = [];
  has_rest = sym (append-nil p.passed);
}).1 refl

-- if `at` items were taken of channel j, without the stop, it has item `at` once the next is taken
pub has_now : (j at : ℕ) (old new : List QueueEnd) (items : List Item) (more : Bool) → TakesAt j old new more → IfSome (slice_get old j) (IsOpenAt at)
    → IfSome (slice_get old j) (λ p. map as_channel_item items ≡ p.passed)
    → IfSome (slice_get old j) (λ p. IsPageSize p.source.page_size) → at ≡ length items → Has j at old new
has_now j at old new items true t is_open is_items size same =
    let p : QueueEnd = t.0 in
    let here : IsOpenAt at p = of_some (IsOpenAt at) (slice_get old j) p t.2 is_open in
    let passed : (t.1).passed ≡ p.passed ++ t.4.0 ∷ [] = ap (λ (u : QueueEnd). u.passed) t.4.1 in
    record {
      before = p;
      behind = t.1;
      has_before = t.2;
      has_new = t.3;
      continues = one_taken p t.1 true t.4;
      same_front = ap (take at) passed ∙ take-append-le at p.passed (t.4.0 ∷ []) here.0;
      there = let le = here.0 in omega (arith, le, ap length passed, length-append p.passed (t.4.0 ∷ []));
    }
has_now j at old new items false t is_open is_items size same =
    let p : QueueEnd = t.0 in
    let here : IsOpenAt at p = of_some (IsOpenAt at) (slice_get old j) p t.2 is_open in
    let passed : map as_channel_item items ≡ p.passed = of_some (λ (p : QueueEnd). map as_channel_item items ≡ p.passed) (slice_get old j) p t.2 is_items in
    let all : take at p.passed ≡ p.passed = take_all at p.passed (omega (arith, same, ap length passed, length-map items as_channel_item)) in
    absurd (stop_among p (of_some (λ (p : QueueEnd). IsPageSize p.source.page_size) (slice_get old j) p t.2 size) t.4.1 (ap end_in (sym all) ∙ here.1))

-- the end of channel j that has item `at` is the one among the new ends
pub is_in : (j at : ℕ) (old new : List QueueEnd) (has : Has j at old new) → slice_get new j ≡ Some has.behind
is_in j at old new has = ap (λ (l : List QueueEnd). slice_get l j) has.has_new ∙ set_there old j has.before has.behind has.has_before

-- if channel j has item `at`, more than `at` items were taken of it
pub is_below : (j at : ℕ) (old new : List QueueEnd) (items : List Item) → Has j at old new
    → IfSome (slice_get new j) (λ p. map as_channel_item items ≡ p.passed) → at < length items
is_below j at old new items has is_items =
    let passed = of_some (λ (p : QueueEnd). map as_channel_item items ≡ p.passed) (slice_get new j) has.behind (is_in j at old new has) is_items in
    omega (arith, has.there, ap length passed, length-map items as_channel_item)

-- if channel j has item `at`, the item at this index of those taken is given
pub has_item : (j at : ℕ) (old new : List QueueEnd) (items : List Item) (item : Item) → Has j at old new
    → IfSome (slice_get new j) (λ p. map as_channel_item items ≡ p.passed)
    → IfSome (slice_get new j) (λ p. BeginsItems p.source p.passed) → IfSome (slice_get new j) (λ p. IsPageSize p.source.page_size)
    → IfSome (slice_get new j) (λ p. All (IsOfPageSize p.source.page_size) items) → get_or items at item ≡ item → GivesItem j at old new item
has_item j at old new items item has is_items begins size sizes is =
    let p : QueueEnd = has.before in
    let q : QueueEnd = has.behind in
    let now : slice_get new j ≡ Some q = is_in j at old new has in
    let below : at < length items = is_below j at old new items has is_items in
    let passed : map as_channel_item items ≡ q.passed = of_some (λ (p : QueueEnd). map as_channel_item items ≡ p.passed) (slice_get new j) q now is_items in
    let of_size : All (IsOfPageSize q.source.page_size) items =
    of_some (λ (p : QueueEnd). All (IsOfPageSize p.source.page_size) items) (slice_get new j) q now sizes in
    let one : get_or q.passed at (as_channel_item item) ≡ as_channel_item item =
    ap (λ (l : List ChannelItem). get_or l at (as_channel_item item)) (sym passed)
    ∙ get_or-map as_channel_item items at item (as_channel_item item) below ∙ ap as_channel_item is in
    record {
      before = p;
      behind = q;
      has_before = has.has_before;
      has_new = has.has_new;
      continues = has.continues;
      begun = of_some (λ (p : QueueEnd). BeginsItems p.source p.passed) (slice_get new j) q now begins;
      is_there = has.there;
      has_passed = take_more q.passed at (as_channel_item item) has.there
          ∙ ap (λ (x : ChannelItem). take at q.passed ++ x ∷ []) one
          ∙ ap (λ (l : List ChannelItem). l ++ as_channel_item item ∷ []) has.same_front;
      is_page_size = subst (λ (t : ChannelText). IsPageSize t.page_size) has.continues.same_source
          (of_some (λ (p : QueueEnd). IsPageSize p.source.page_size) (slice_get new j) q now size);
      has_page_size = subst (λ (t : ChannelText). IsOfPageSize t.page_size item) has.continues.same_source
          (subst (IsOfPageSize q.source.page_size) is (of_size at item below));
    }

-- if channel j has item `at`, all ends continue those before
pub gives_goes_on : (j at : ℕ) (old new : List QueueEnd) → Has j at old new → AllZip Continues old new
gives_goes_on j at old new has = subst (AllZip Continues old) (sym has.has_new) (one_goes_on old j has.before has.behind has.has_before has.continues)
