-- Items one after another.
use Rattle.std.proofs.Common.{◌≡◌, ◌≢◌, ℕ, ◌+◌, ◌*◌, ◌<◌, ◌≤◌, Bool, cond, List, [], ◌∷◌, ◌++◌, length}
use Rattle.std.proofs.Common.{take, drop, Option, Some, None, refl, sym, ap, subst, ◌∙◌, append_assoc, arith}
use Rattle.std.specs.List.{concat}
use Rattle.std.proofs.lemmas.Bool.{le-leb}
use Rattle.std.proofs.lemmas.List.{append-nil, length-take-le, take-append-drop, length-append}
use Rattle.std.proofs.lemmas.List.Folds.{concat-append}
use Rattle.mig_packet.specs.PageSize.{head_len}
use Rattle.mig_packet.specs.Faults.{first_of}
use Rattle.mig_packet.specs.Packet.{IsPacketText}
use Rattle.mig_packet.specs.Progress.{ChannelProgress, judged_len, item_len, faults, first_fault, due_fault, after}
use Rattle.mig_packet.specs.Reading.{IsItem, AreFaultless, after_all, Front}
use Rattle.mig_packet.specs.Waiting.{room_after}
use Rattle.mig_packet.proofs.Waiting.{faultless_within, faults_within-front}
use Rattle.mig_packet.proofs.Judging.{hello_faults-front, normal_count-front, free_text}

-- ---- one item

-- an item is at least as long as the part that is judged
pub judged_le : (p : ℕ) (h : Option ℕ) (item : List ℕ) → IsItem p h item → judged_len p h ≤ length item
judged_le p None item w = omega arith
judged_le p (Some id) item w = omega arith

-- what follows an item's judged bytes doesn't change its faults
pub faults_stay : (c : ChannelProgress) (h : Option ℕ) (a b : List ℕ) → judged_len c.page_size h ≤ length a → faults c h (a ++ b) ≡ faults c h a
faults_stay c None a b le = hello_faults-front c.uuid c.channels a b le
faults_stay c (Some id) a b le = faults_within-front c.page_size (room_after c.waiting c.packets) a b le

-- nor its length
pub len_stays : (p : ℕ) (h : Option ℕ) (a b : List ℕ) → judged_len p h ≤ length a → item_len p h (a ++ b) ≡ item_len p h a
len_stays p None a b le = refl
len_stays p (Some id) a b le = ap (λ (n : ℕ). head_len p + n * p) (normal_count-front p a b le)

-- a complete item says its length, whatever follows it
pub len-append : (p : ℕ) (h : Option ℕ) (item more : List ℕ) → IsItem p h item → item_len p h (item ++ more) ≡ length item
len-append p h item more is = len_stays p h item more (judged_le p h item is) ∙ sym is

-- the part of an item that is judged is no longer than the item
pub judged_le_len : (p : ℕ) (h : Option ℕ) (bytes : List ℕ) → judged_len p h ≤ item_len p h bytes
judged_le_len p None bytes = omega arith
judged_le_len p (Some id) bytes = omega arith

-- if the bytes are as many, the front is the item
pub item_at : (p : ℕ) (h : Option ℕ) (rest : List ℕ) → item_len p h rest ≤ length rest → IsItem p h (take (item_len p h rest) rest)
item_at p h rest le =
    let n : ℕ = item_len p h rest in
    let len : length (take n rest) ≡ n = length-take-le n rest le in
    let same : item_len p h (take n rest ++ drop n rest) ≡ item_len p h (take n rest) =
    len_stays p h (take n rest) (drop n rest) (omega (arith, judged_le_len p h rest)) in
    len ∙ ap (item_len p h) (sym (take-append-drop n rest)) ∙ same

-- if the bytes are fewer than the item's, no front of them is the item
pub no_item : (p : ℕ) (h : Option ℕ) (rest : List ℕ) → length rest < item_len p h rest → (item more : List ℕ) → rest ≡ item ++ more → IsItem p h item → ⊥
no_item p h rest lt item more e is =
    let same : item_len p h rest ≡ length item = ap (item_len p h) e ∙ len-append p h item more is in
    omega (arith, same, ap length e, length-append item more)

-- nor where they are fewer than those at which it is judged
pub no_head : (p : ℕ) (h : Option ℕ) (rest : List ℕ) → length rest < judged_len p h → (item more : List ℕ) → rest ≡ item ++ more → IsItem p h item → ⊥
no_head p h rest lt item more e is = omega (arith, judged_le p h item is, ap length e, length-append item more)

-- what the judged bytes say is due
pub due_is : (c : ChannelProgress) (bytes : List ℕ) → judged_len c.page_size c.hello ≤ length bytes → due_fault c bytes ≡ first_fault c bytes
due_is c bytes le = ap (λ (b : Bool). cond b (first_fault c bytes) None) (le-leb (judged_len c.page_size c.hello) (length bytes) le)

-- a front of bytes without a fault has none
pub faultless_front : (c : ChannelProgress) (rest item more : List ℕ) → first_fault c rest ≡ None → rest ≡ item ++ more → IsItem c.page_size c.hello item
    → first_fault c item ≡ None
faultless_front c rest item more free e is =
    ap first_of (sym (faults_stay c c.hello item more (judged_le c.page_size c.hello item is)) ∙ ap (faults c c.hello) (sym e)) ∙ free

-- after the hello, an item without a fault is a packet
pub item_text : (c : ChannelProgress) (h : Option ℕ) (item : List ℕ) → h ≢ None → IsItem c.page_size h item → first_of (faults c h item) ≡ None
    → IsPacketText c.page_size item
item_text c None item some is free = absurd (some refl)
item_text c (Some id) item some is free =
    free_text c.page_size item (faultless_within c.page_size (room_after c.waiting c.packets) item free).0 is

-- ---- items

after_all-push : (c : ChannelProgress) (items : List (List ℕ)) (item : List ℕ) → after_all c (items ++ item ∷ []) ≡ after (after_all c items) item
after_all-push c [] item = refl
after_all-push c (i ∷ items) item = after_all-push (after c i) items item

AreFaultless-push : (c : ChannelProgress) (items : List (List ℕ)) (item : List ℕ) → AreFaultless c items
    → IsItem (after_all c items).page_size (after_all c items).hello item → first_fault (after_all c items) item ≡ None → AreFaultless c (items ++ item ∷ [])
AreFaultless-push c [] item free is none = (is, none, tt)
AreFaultless-push c (i ∷ items) item free is none = (free.0, free.1, AreFaultless-push (after c i) items item free.2 is none)

-- no item leaves the progress as it is
pub Front-none : (c : ChannelProgress) → Front c [] c
Front-none c = record { items = []; has_bytes = refl; are_faultless = tt; leads_to = refl }

-- one item more
pub Front-push : (c d : ChannelProgress) (bytes item : List ℕ) → Front c bytes d → IsItem d.page_size d.hello item → first_fault d item ≡ None
    → Front c (bytes ++ item) (after d item)
Front-push c d bytes item f is none = record {
  items = f.items ++ item ∷ [];
  has_bytes =
      ap (λ (b : List ℕ). b ++ item) f.has_bytes ∙ ap (λ (x : List ℕ). concat f.items ++ x) (sym (append-nil item)) ∙ sym (concat-append f.items (item ∷ []));
  are_faultless = AreFaultless-push c f.items item f.are_faultless (subst (λ (x : ChannelProgress). IsItem x.page_size x.hello item) f.leads_to is)
      (ap (λ (x : ChannelProgress). first_fault x item) (sym f.leads_to) ∙ none);
  leads_to = ap (λ (x : ChannelProgress). after x item) f.leads_to ∙ sym (after_all-push c f.items item);
}

-- a loop that takes items: bytes is all of them, rest what was left before this item
pub goes_on : (from d new : ChannelProgress) (bytes rest item more : List ℕ) → IsItem d.page_size d.hello item → rest ≡ item ++ more → first_fault d item ≡ None
    → new ≡ after d item
    → (front : List ℕ) × (bytes ≡ front ++ rest) × Front from front d → (front : List ℕ) × (bytes ≡ front ++ more) × Front from front new
goes_on from d new bytes rest item more is e none new-is so_far = (
  so_far.0 ++ item,
  so_far.1 ∙ ap (λ (x : List ℕ). so_far.0 ++ x) e ∙ sym (append_assoc so_far.0 item more),
  subst (λ (x : ChannelProgress). Front from (so_far.0 ++ item) x) (sym new-is) (Front-push from d so_far.0 item so_far.2 is none),
)

-- the front of the rest, as long as the item is
pub split_item : (c : ChannelProgress) (rest item more : List ℕ) (n : ℕ) → n ≡ item_len c.page_size c.hello rest → n ≤ length rest → item ≡ take n rest
    → more ≡ drop n rest → first_fault c rest ≡ None
    → IsItem c.page_size c.hello item × (rest ≡ item ++ more) × (first_fault c item ≡ None)
split_item c rest item more n n-is le item-is more-is free =
    let whole : item ≡ take (item_len c.page_size c.hello rest) rest = item-is ∙ ap (λ (k : ℕ). take k rest) n-is in
    let is : IsItem c.page_size c.hello item =
    subst (λ (x : List ℕ). IsItem c.page_size c.hello x) (sym whole) (item_at c.page_size c.hello rest (omega arith)) in
    let e : rest ≡ item ++ more =
    sym (take-append-drop n rest) ∙ ap (λ (x : List ℕ). x ++ drop n rest) (sym item-is) ∙ ap (λ (x : List ℕ). item ++ x) (sym more-is) in
    (is, e, faultless_front c rest item more free e is)

-- ---- fronts put together

after_all-append : (c : ChannelProgress) (xs ys : List (List ℕ)) → after_all c (xs ++ ys) ≡ after_all (after_all c xs) ys
after_all-append c [] ys = refl
after_all-append c (x ∷ xs) ys = after_all-append (after c x) xs ys

AreFaultless-append : (c : ChannelProgress) (xs ys : List (List ℕ)) → AreFaultless c xs → AreFaultless (after_all c xs) ys → AreFaultless c (xs ++ ys)
AreFaultless-append c [] ys f g = g
AreFaultless-append c (x ∷ xs) ys f g = (f.0, f.1, AreFaultless-append (after c x) xs ys f.2 g)

-- items that follow one another are one front of the stream
pub Front-append : (a b c : ChannelProgress) (x y : List ℕ) → Front a x b → Front b y c → Front a (x ++ y) c
Front-append a b c x y f g = record {
  items = f.items ++ g.items;
  has_bytes = ap (λ (u : List ℕ). u ++ y) f.has_bytes ∙ ap (λ (u : List ℕ). concat f.items ++ u) g.has_bytes ∙ sym (concat-append f.items g.items);
  are_faultless = AreFaultless-append a f.items g.items f.are_faultless (subst (λ (u : ChannelProgress). AreFaultless u g.items) f.leads_to g.are_faultless);
  leads_to = g.leads_to ∙ ap (λ (u : ChannelProgress). after_all u g.items) f.leads_to ∙ sym (after_all-append a f.items g.items);
}
