-- Items one after another.
use Rattle.std.proofs.Common.{◌≡◌, ◌≢◌, ℕ, ◌+◌, ◌<◌, ◌≤◌, true, false, cond, eqb, List, [], ◌∷◌, ◌++◌, length, get_or, take, drop, None, refl, sym, ap, subst}
use Rattle.std.proofs.Common.{◌∙◌, append_assoc, arith}
use Rattle.std.specs.List.{concat}
use Rattle.std.proofs.lemmas.List.{append-nil, length-take, get_or-take, take-append-drop, length-append, get_or_append_left}
use Rattle.std.proofs.lemmas.List.Folds.{concat-append}
use Rattle.std.proofs.lemmas.Bool.{cond_both}
use Rattle.mig_stream.specs.declared.item.Filling.TheVariants.{Zero, Normal}
use Rattle.mig_stream.specs.declared.item.PassedItem.{PassedItem}
use Rattle.mig_stream.specs.declared.item.PassedItem.TheVariants.{Command, SubsectionHead, SubsectionBody, Capability, Address, Early}
use Rattle.mig_stream.specs.declared.item.EarlyPart.TheVariants as early
use Rattle.mig_stream.specs.declared.item.Subsection.TheVariants.{PageBits, Uuid, Capabilities}
use Rattle.mig_stream.specs.declared.item.Due.{Due}
use Rattle.mig_stream.specs.declared.item.Due.TheVariants.{FileHeader, TypeByte, ConfigLength, ConfigName, StartHead, SectionHead, RecordHead, ListEntry}
use Rattle.mig_stream.specs.declared.item.Due.TheVariants.{PageSize, BlockName, Content, Footer, Passed, Nothing}
use Rattle.mig_stream.specs.Fields.{be16_at}
use Rattle.mig_stream.specs.Progress.{StreamProgress}
use Rattle.mig_stream.specs.Items.{passed_size, size, first_fault, after}
use Rattle.mig_stream.specs.Reading.{IsItem, AreFaultless, after_all, Front}

-- the same of an item that is passed over
passed-take : (passed : PassedItem) (bytes : List ℕ) → passed_size passed bytes ≤ length bytes
    → passed_size passed (take (passed_size passed bytes) bytes) ≡ passed_size passed bytes
passed-take (Command before) bytes le =
    let n : ℕ = 4 + be16_at 2 bytes in
    omega (arith, get_or-take n bytes 2 0 (omega arith), get_or-take n bytes 3 0 (omega arith))
passed-take SubsectionHead bytes le = ap (λ (n : ℕ). 5 + n) (get_or-take (5 + get_or bytes 0 0) bytes 0 0 (omega arith))
passed-take (SubsectionBody PageBits) bytes le = refl
passed-take (SubsectionBody Uuid) bytes le = refl
passed-take (SubsectionBody Capabilities) bytes le = refl
passed-take (Capability others) bytes le = ap (λ (n : ℕ). 1 + n) (get_or-take (1 + get_or bytes 0 0) bytes 0 0 (omega arith))
passed-take (Address last) bytes le = refl
passed-take (Early before early.Head) bytes le = ap (λ (n : ℕ). 13 + n) (get_or-take (13 + get_or bytes 4 0) bytes 4 0 (omega arith))
passed-take (Early before (early.Numbers id)) bytes le = refl
passed-take (Early before (early.Plugged id others)) bytes le = refl
passed-take (Early before (early.Footer id)) bytes le = refl

passed-append : (passed : PassedItem) (item more : List ℕ) → length item ≡ passed_size passed item → passed_size passed (item ++ more) ≡ length item
passed-append (Command before) item more w = omega (arith, w, get_or_append_left item more 0 2 (omega arith), get_or_append_left item more 0 3 (omega arith))
passed-append SubsectionHead item more w = ap (λ (n : ℕ). 5 + n) (get_or_append_left item more 0 0 (omega arith)) ∙ sym w
passed-append (SubsectionBody PageBits) item more w = sym w
passed-append (SubsectionBody Uuid) item more w = sym w
passed-append (SubsectionBody Capabilities) item more w = sym w
passed-append (Capability others) item more w = ap (λ (n : ℕ). 1 + n) (get_or_append_left item more 0 0 (omega arith)) ∙ sym w
passed-append (Address last) item more w = sym w
passed-append (Early before early.Head) item more w = ap (λ (n : ℕ). 13 + n) (get_or_append_left item more 0 4 (omega arith)) ∙ sym w
passed-append (Early before (early.Numbers id)) item more w = sym w
passed-append (Early before (early.Plugged id others)) item more w = sym w
passed-append (Early before (early.Footer id)) item more w = sym w

-- the length of a page size, or of the entry that is there, by its first byte
abbrev pub sized : ℕ → ℕ
sized n = cond (eqb n 0) 8 (9 + n)

-- a size in the list has at least 8 bytes
pub sized_some : (n : ℕ) → 8 ≤ sized n
sized_some n = cond_both (eqb n 0) 8 (9 + n) (λ (x : ℕ). 8 ≤ x) (λ _. omega arith) (λ _. omega arith)

-- the length of an item follows from the bytes that it has itself
pub size-take : (p : ℕ) (d : Due) (bytes : List ℕ) → size p d bytes ≤ length bytes → size p d (take (size p d bytes) bytes) ≡ size p d bytes
size-take p FileHeader bytes le = refl
size-take p (TypeByte b) bytes le = refl
size-take p ConfigLength bytes le = refl
size-take p (ConfigName n) bytes le = refl
size-take p StartHead bytes le = ap (λ (n : ℕ). 13 + n) (get_or-take (13 + get_or bytes 4 0) bytes 4 0 (omega arith))
size-take p SectionHead bytes le = refl
size-take p RecordHead bytes le = refl
size-take p ListEntry bytes le = ap (λ (n : ℕ). 9 + n) (get_or-take (9 + get_or bytes 0 0) bytes 0 0 (omega arith))
size-take p (PageSize true) bytes le = refl
size-take p (PageSize false) bytes le =
    let n : ℕ = get_or bytes 0 0 in
    let some : 8 ≤ sized n = sized_some n in
    ap sized (get_or-take (sized n) bytes 0 0 (omega (arith, some)))
size-take p (BlockName f page) bytes le = ap (λ (n : ℕ). 1 + n) (get_or-take (1 + get_or bytes 0 0) bytes 0 0 (omega arith))
size-take p (Content Zero place) bytes le = refl
size-take p (Content Normal place) bytes le = refl
size-take p Footer bytes le = refl
size-take p (Passed passed) bytes le = passed-take passed bytes le
size-take p Nothing bytes le = refl

-- bytes that are as long as the item that is due begin with that item
pub item_at : (p : ℕ) (d : Due) (rest : List ℕ) → d ≢ Nothing → size p d rest ≤ length rest → IsItem p d (take (size p d rest) rest)
item_at p d rest open_ le = record {
  is_due = open_;
  is_whole = omega (arith, length-take (size p d rest) rest, size-take p d rest le);
}

-- a complete item says its length, whatever follows it
pub size-append : (p : ℕ) (d : Due) (item more : List ℕ) → length item ≡ size p d item → size p d (item ++ more) ≡ length item
size-append p FileHeader item more w = sym w
size-append p (TypeByte b) item more w = sym w
size-append p ConfigLength item more w = sym w
size-append p (ConfigName n) item more w = sym w
size-append p StartHead item more w = ap (λ (n : ℕ). 13 + n) (get_or_append_left item more 0 4 (omega arith)) ∙ sym w
size-append p SectionHead item more w = sym w
size-append p RecordHead item more w = sym w
size-append p ListEntry item more w = ap (λ (n : ℕ). 9 + n) (get_or_append_left item more 0 0 (omega arith)) ∙ sym w
size-append p (PageSize true) item more w = sym w
size-append p (PageSize false) item more w =
    let n : ℕ = get_or item 0 0 in
    let whole : length item ≡ sized n = w in
    let some : 8 ≤ sized n = sized_some n in
    ap sized (get_or_append_left item more 0 0 (omega (arith, whole, some))) ∙ sym w
size-append p (BlockName f page) item more w = ap (λ (n : ℕ). 1 + n) (get_or_append_left item more 0 0 (omega arith)) ∙ sym w
size-append p (Content Zero place) item more w = sym w
size-append p (Content Normal place) item more w = sym w
size-append p Footer item more w = sym w
size-append p (Passed passed) item more w = passed-append passed item more w
size-append p Nothing item more w = sym w

-- if the bytes are fewer than the item's, no front of them is the item
pub no_item : (p : ℕ) (d : Due) (rest : List ℕ) → length rest < size p d rest → (item more : List ℕ) → rest ≡ item ++ more → IsItem p d item → ⊥
no_item p d rest lt item more e is =
    let same : size p d rest ≡ length item = ap (size p d) e ∙ size-append p d item more is.is_whole in
    omega (arith, same, ap length e, length-append item more)

-- progress after one item more is progress after it, from the items before on
pub after_all-push : (c : StreamProgress) (items : List (List ℕ)) (item : List ℕ) → after_all c (items ++ item ∷ []) ≡ after (after_all c items) item
after_all-push c [] item = refl
after_all-push c (i ∷ items) item = after_all-push (after c i) items item

-- items without a fault stay so with one more that has none
pub AreFaultless-push : (c : StreamProgress) (items : List (List ℕ)) (item : List ℕ) → AreFaultless c items
    → IsItem (after_all c items).page_size (after_all c items).due item → first_fault (after_all c items) item ≡ None → AreFaultless c (items ++ item ∷ [])
AreFaultless-push c [] item free is none = (is, none, tt)
AreFaultless-push c (i ∷ items) item free is none = (free.0, free.1, AreFaultless-push (after c i) items item free.2 is none)

-- no item leaves the progress as it is
pub Front-none : (c : StreamProgress) → Front c [] c
Front-none c = record { items = []; has_bytes = refl; are_faultless = tt; leads_to = refl }

-- one item more
pub Front-push : (c d : StreamProgress) (bytes item : List ℕ) → Front c bytes d → IsItem d.page_size d.due item
    → first_fault d item ≡ None → Front c (bytes ++ item) (after d item)
Front-push c d bytes item f is none = record {
  items = f.items ++ item ∷ [];
  has_bytes = ap (λ (b : List ℕ). b ++ item) f.has_bytes ∙ ap (λ (x : List ℕ). concat f.items ++ x) (sym (append-nil item))
      ∙ sym (concat-append f.items (item ∷ []));
  are_faultless = AreFaultless-push c f.items item f.are_faultless
      (subst (λ (x : StreamProgress). IsItem x.page_size x.due item) f.leads_to is) (ap (λ (x : StreamProgress). first_fault x item) (sym f.leads_to) ∙ none);
  leads_to = ap (λ (x : StreamProgress). after x item) f.leads_to ∙ sym (after_all-push c f.items item);
}

-- ---- each item is a step forward

-- the one kind of item that may be empty is a name
abbrev pub work : Due → ℕ
work (ConfigName n) = 1
work d = 0

-- a loop that takes items: bytes is all of them, rest what was left before this item
pub goes_on : (from d new : StreamProgress) (bytes rest item more : List ℕ) → IsItem d.page_size d.due item → rest ≡ item ++ more
    → first_fault d item ≡ None → new ≡ after d item
    → (front : List ℕ) × (bytes ≡ front ++ rest) × Front from front d → (front : List ℕ) × (bytes ≡ front ++ more) × Front from front new
goes_on from d new bytes rest item more is e none new-is so_far = (
  so_far.0 ++ item,
  so_far.1 ∙ ap (λ (x : List ℕ). so_far.0 ++ x) e ∙ sym (append_assoc so_far.0 item more),
  subst (λ (x : StreamProgress). Front from (so_far.0 ++ item) x) (sym new-is) (Front-push from d so_far.0 item so_far.2 is none),
)

-- the front of the rest, as long as the item is
pub split_item : (p : ℕ) (d : Due) (rest item more : List ℕ) (n : ℕ) → d ≢ Nothing → n ≡ size p d rest → n ≤ length rest
    → item ≡ take n rest → more ≡ drop n rest → IsItem p d item × (rest ≡ item ++ more)
split_item p d rest item more n open_ n-is le item-is more-is =
    let whole : item ≡ take (size p d rest) rest = item-is ∙ ap (λ (k : ℕ). take k rest) n-is in (
      subst (λ (x : List ℕ). IsItem p d x) (sym whole) (item_at p d rest open_ (omega arith)),
      sym (take-append-drop n rest) ∙ ap (λ (x : List ℕ). x ++ drop n rest) (sym item-is) ∙ ap (λ (x : List ℕ). item ++ x) (sym more-is),
    )

-- ---- fronts put together

-- progress after items is progress after their front and then the rest
pub after_all-append : (c : StreamProgress) (xs ys : List (List ℕ)) → after_all c (xs ++ ys) ≡ after_all (after_all c xs) ys
after_all-append c [] ys = refl
after_all-append c (x ∷ xs) ys = after_all-append (after c x) xs ys

-- items without a fault, and more after them, are without a fault together
pub AreFaultless-append : (c : StreamProgress) (xs ys : List (List ℕ)) → AreFaultless c xs → AreFaultless (after_all c xs) ys → AreFaultless c (xs ++ ys)
AreFaultless-append c [] ys f g = g
AreFaultless-append c (x ∷ xs) ys f g = (f.0, f.1, AreFaultless-append (after c x) xs ys f.2 g)

-- items that follow one another are one front of the stream
pub Front-append : (a b c : StreamProgress) (x y : List ℕ) → Front a x b → Front b y c → Front a (x ++ y) c
Front-append a b c x y f g = record {
  items = f.items ++ g.items;
  has_bytes = ap (λ (u : List ℕ). u ++ y) f.has_bytes ∙ ap (λ (u : List ℕ). concat f.items ++ u) g.has_bytes ∙ sym (concat-append f.items g.items);
  are_faultless = AreFaultless-append a f.items g.items f.are_faultless (subst (λ (u : StreamProgress). AreFaultless u g.items) f.leads_to g.are_faultless);
  leads_to = g.leads_to ∙ ap (λ (u : StreamProgress). after_all u g.items) f.leads_to ∙ sym (after_all-append a f.items g.items);
}
