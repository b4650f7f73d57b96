-- Items that are taken one after another, and names.
use Rattle.std.proofs.Common.{ℕ, ◌≡◌, ◌+◌, ◌<◌, ◌≤◌, true, false, List, [], ◌∷◌, ◌++◌, length, drop}
use Rattle.std.proofs.Common.{Option, Some, None, refl, sym, ap, ap₂, subst, ◌∙◌, append_assoc, append-nil, arith}
use Rattle.std.specs.Prelude.{is_some, IfSome, IfNone, IfOk, Result, Ok, Err}
use Rattle.std.specs.List.{flat_map, AllByRecursion}
use Rattle.std.proofs.lemmas.List.{length-append, drop-drop}
use Rattle.std.proofs.lemmas.List.Concat.{flat_map-append}
use Rattle.mig_stream.specs.Fields.{counted}
use Rattle.mig_stream.specs.Format.{mapped_ram}
use Rattle.mig_stream.specs.Machine.{IsCapability}
use Rattle.mig_mapped.specs.declared.front.NameList.{NameList}
use Rattle.mig_mapped.specs.FrontParts.{Begins, BeginsWithNone, BeginsWithAll, names_at, IsNamed, MayBeNamed, AreNames, HasNames, HasNoNames}
use Rattle.mig_mapped.proofs.FrontItems.{counted_unique, names_longer, named_unique}
use Rattle.mig_mapped.proofs.FrontFound.{rest_of_item, not_all}

-- what holds of each element, and of one more
pub all_more : (X : Type 0) (P : X → Type 0) (xs : List X) (x : X) → AllByRecursion P xs → P x → AllByRecursion P (xs ++ x ∷ [])
all_more X P [] x all one = (one, tt)
all_more X P (y ∷ xs) x all one = (all.0, all_more X P xs x all.1 one)

-- the elements are spelled, and one more
spelled_more : (X : Type 0) (spelled : X → List ℕ) (xs : List X) (x : X) (rest : List ℕ)
    → flat_map spelled xs ++ (spelled x ++ rest) ≡ flat_map spelled (xs ++ x ∷ []) ++ rest
spelled_more X spelled xs x rest =
    sym (append_assoc (flat_map spelled xs) (spelled x) rest)
    ∙ ap (λ (l : List ℕ). (flat_map spelled xs ++ l) ++ rest) (sym (append-nil (spelled x)))
    ∙ ap (λ (l : List ℕ). l ++ rest) (sym (flat_map-append spelled xs (x ∷ [])))

length_more : (X : Type 0) (spelled : X → List ℕ) (xs : List X) (x : X)
    → length (flat_map spelled (xs ++ x ∷ [])) ≡ length (flat_map spelled xs) + length (spelled x)
length_more X spelled xs x =
    ap length (flat_map-append spelled xs (x ∷ [])) ∙ length-append (flat_map spelled xs) (spelled x ++ [])
    ∙ ap (λ (l : List ℕ). length (flat_map spelled xs) + length l) (append-nil (spelled x))

-- ---- items of one kind

-- those that were taken so far
pub record SoFar (X : Type 0) (spelled : X → List ℕ) (IsValid : X → Type 0) (bytes : List ℕ) (len : ℕ) : Type 0 where
  pub items : List X
  pub are_valid : AllByRecursion IsValid items
  pub is_spelled : bytes ≡ flat_map spelled items ++ drop len bytes
  pub has_len : len ≡ length (flat_map spelled items)

pub none_so_far : (X : Type 0) (spelled : X → List ℕ) (IsValid : X → Type 0) (bytes : List ℕ) → SoFar X spelled IsValid bytes 0
none_so_far X spelled IsValid bytes = record { items = []; are_valid = tt; is_spelled = refl; has_len = refl }

pub low_so_far : (X : Type 0) (spelled : X → List ℕ) (IsValid : X → Type 0) (bytes : List ℕ) (len : ℕ) → SoFar X spelled IsValid bytes len → len ≤ length bytes
low_so_far X spelled IsValid bytes len so =
    omega (arith, so.has_len, ap length so.is_spelled, length-append (flat_map spelled so.items) (drop len bytes))

pub more_so_far : (X : Type 0) (spelled : X → List ℕ) (IsValid : X → Type 0) (bytes : List ℕ) (len n : ℕ) → SoFar X spelled IsValid bytes len
    → Begins X spelled IsValid (drop len bytes) n → SoFar X spelled IsValid bytes (len + n)
more_so_far X spelled IsValid bytes len n so found =
    let rest : found.rest ≡ drop (len + n) bytes = sym (rest_of_item X spelled IsValid (drop len bytes) n found) ∙ drop-drop n len bytes in
    record {
      items = so.items ++ found.item ∷ [];
      are_valid = all_more X IsValid so.items found.item so.are_valid found.is_valid;
      is_spelled = so.is_spelled
          ∙ ap (λ (l : List ℕ). flat_map spelled so.items ++ l) (found.is_spelled ∙ ap (λ (l : List ℕ). spelled found.item ++ l) rest)
          ∙ spelled_more X spelled so.items found.item (drop (len + n) bytes);
      has_len = ap₂ (λ (a b : ℕ). a + b) so.has_len found.has_len ∙ sym (length_more X spelled so.items found.item);
    }

pub all_so_far : (X : Type 0) (spelled : X → List ℕ) (IsValid : X → Type 0) (bytes : List ℕ) (len : ℕ) → SoFar X spelled IsValid bytes len
    → BeginsWithNone X spelled IsValid (drop len bytes) → BeginsWithAll X spelled IsValid bytes len
all_so_far X spelled IsValid bytes len so none = record {
  items = so.items;
  rest = drop len bytes;
  are_valid = so.are_valid;
  is_spelled = so.is_spelled;
  has_len = so.has_len;
  are_all = none;
}

-- ---- names

-- those that were taken so far, and the place of `mapped-ram`
pub record NamesSoFar (bytes : List ℕ) (count len : ℕ) (mapped : Option ℕ) : Type 0 where
  pub names : List (List ℕ)
  pub has_count : length names ≡ count
  pub is_spelled : bytes ≡ flat_map counted names ++ drop len bytes
  pub has_len : len ≡ length (flat_map counted names)
  pub is_named : MayBeNamed names names_at mapped

pub no_names : (bytes : List ℕ) → NamesSoFar bytes 0 0 None
no_names bytes = record { names = []; has_count = refl; is_spelled = refl; has_len = refl; is_named = tt }

pub low_names : (bytes : List ℕ) (count len : ℕ) (mapped : Option ℕ) → NamesSoFar bytes count len mapped → len ≤ length bytes
low_names bytes count len mapped so =
    omega (arith, so.has_len, ap length so.is_spelled, length-append (flat_map counted so.names) (drop len bytes))

-- another name
named_more : (names : List (List ℕ)) (name : List ℕ) (mapped : Option ℕ) → MayBeNamed names names_at mapped → IsCapability name
    → MayBeNamed (names ++ name ∷ []) names_at mapped
named_more names name None named is = all_more (List ℕ) IsCapability names name named is
named_more names name (Some place) named is = record {
  before = named.before;
  after = named.after ++ name ∷ [];
  are_names = ap (λ (l : List (List ℕ)). l ++ name ∷ []) named.are_names ∙ append_assoc named.before (mapped_ram ∷ named.after) (name ∷ []);
  are_before = named.are_before;
  are_after = all_more (List ℕ) IsCapability named.after name named.are_after is;
  has_place = named.has_place;
}

-- what is known of the names with one more
taken : (bytes : List ℕ) (count len : ℕ) (mapped now : Option ℕ) (name : List ℕ) → (so : NamesSoFar bytes count len mapped)
    → drop len bytes ≡ counted name ++ drop (1 + length name) (drop len bytes) → MayBeNamed (so.names ++ name ∷ []) names_at now
    → NamesSoFar bytes (count + 1) (len + (1 + length name)) now
taken bytes count len mapped now name so e named = record {
  names = so.names ++ name ∷ [];
  has_count = omega (arith, length-append so.names (name ∷ []), so.has_count);
  is_spelled = so.is_spelled
      ∙ ap (λ (l : List ℕ). flat_map counted so.names ++ l) (e ∙ ap (λ (l : List ℕ). counted name ++ l) (drop-drop (1 + length name) len bytes))
      ∙ spelled_more (List ℕ) counted so.names name (drop (len + (1 + length name)) bytes);
  has_len = ap₂ (λ (a b : ℕ). a + b) so.has_len (omega arith) ∙ sym (length_more (List ℕ) counted so.names name);
  is_named = named;
}

pub other_taken : (bytes : List ℕ) (count len : ℕ) (mapped : Option ℕ) (name : List ℕ) → NamesSoFar bytes count len mapped
    → drop len bytes ≡ counted name ++ drop (1 + length name) (drop len bytes) → IsCapability name
    → NamesSoFar bytes (count + 1) (len + (1 + length name)) mapped
other_taken bytes count len mapped name so e is = taken bytes count len mapped mapped name so e (named_more so.names name mapped so.is_named is)

pub mapped_taken : (bytes : List ℕ) (count len : ℕ) (mapped : Option ℕ) (name : List ℕ) → is_some mapped ≡ false → NamesSoFar bytes count len mapped
    → drop len bytes ≡ counted name ++ drop (1 + length name) (drop len bytes) → name ≡ mapped_ram
    → NamesSoFar bytes (count + 1) (len + (1 + length name)) (Some (names_at + len))
mapped_taken bytes count len (Some place) name none so e is = absurd cc
mapped_taken bytes count len None name none so e is = taken bytes count len None (Some (names_at + len)) name so e
    (record {
      before = so.names;
      after = [];
      are_names = ap (λ (x : List ℕ). so.names ++ x ∷ []) is;
      are_before = so.is_named;
      are_after = tt;
      has_place = ap (λ (n : ℕ). names_at + n) so.has_len;
    })

pub all_names : (bytes : List ℕ) (count len : ℕ) (mapped : Option ℕ) → NamesSoFar bytes count len mapped
    → HasNames count bytes (record { len = names_at + len; count = count; mapped = mapped })
all_names bytes count len mapped so = (
  so.names,
  drop len bytes,
  so.has_count,
  record {
    is_spelled = so.is_spelled;
    has_len = ap (λ (n : ℕ). names_at + n) so.has_len;
    has_count = sym so.has_count;
    is_named = so.is_named;
  },
)

-- ---- where there are no such names

-- the names that are there, of which some were taken, go on with another one
record GoOn (names taken : List (List ℕ)) (bytes : List ℕ) (len : ℕ) : Type 0 where
  name : List ℕ
  others : List (List ℕ)
  rest : List ℕ
  are_names : names ≡ taken ++ name ∷ others
  is_spelled : drop len bytes ≡ counted name ++ rest

go_on_with : (names taken more : List (List ℕ)) (bytes rest : List ℕ) (len : ℕ) → length taken < length names → names ≡ taken ++ more
    → flat_map counted more ++ rest ≡ drop len bytes → GoOn names taken bytes len
go_on_with names taken [] bytes rest len lt e spelled = absurd (omega (arith, lt, ap length (e ∙ append-nil taken)))
go_on_with names taken (x ∷ more) bytes rest len lt e spelled = record {
  name = x;
  others = more;
  rest = flat_map counted more ++ rest;
  are_names = e;
  is_spelled = sym spelled ∙ append_assoc (counted x) (flat_map counted more) rest;
}

go_on : (bytes : List ℕ) (count i len : ℕ) (mapped : Option ℕ) (names : List (List ℕ)) (rest : List ℕ) (found : NameList) → i < count
    → (so : NamesSoFar bytes i len mapped) → length names ≡ count → AreNames names rest bytes found → GoOn names so.names bytes len
go_on bytes count i len mapped names rest found lt so long are =
    let more = names_longer names so.names rest (drop len bytes) (omega (arith, lt, so.has_count, long)) (sym are.is_spelled ∙ so.is_spelled) in
    go_on_with names so.names more.0 bytes rest len (omega (arith, lt, so.has_count, long)) more.1 more.2

pub ends_inside : (bytes : List ℕ) (count i len : ℕ) (mapped : Option ℕ) → i < count → NamesSoFar bytes i len mapped
    → ((name rest : List ℕ) → drop len bytes ≡ counted name ++ rest → ⊥) → HasNoNames count bytes
ends_inside bytes count i len mapped lt so none names rest found long are =
    let next : GoOn names so.names bytes len = go_on bytes count i len mapped names rest found lt so long are in
    none next.name next.rest next.is_spelled

-- `mapped-ram` isn't named twice
apart : (names before after others : List (List ℕ)) (mapped : Option ℕ) → MayBeNamed names names_at mapped → AllByRecursion IsCapability before
    → names ≡ before ++ mapped_ram ∷ (after ++ mapped_ram ∷ others) → ⊥
apart names before after others None named caps e =
    not_all before (after ++ mapped_ram ∷ others) (subst (AllByRecursion IsCapability) e named)
apart names before after others (Some place) named caps e =
    let same = named_unique named.before before named.after (after ++ mapped_ram ∷ others) named.are_before caps (sym named.are_names ∙ e) in
    not_all after others (subst (AllByRecursion IsCapability) same.1 named.are_after)

pub named_twice : (bytes : List ℕ) (count i len : ℕ) (mapped : Option ℕ) (name : List ℕ) → is_some mapped ≡ true → i < count → NamesSoFar bytes i len mapped
    → drop len bytes ≡ counted name ++ drop (1 + length name) (drop len bytes) → name ≡ mapped_ram → HasNoNames count bytes
named_twice bytes count i len None name some lt so e is names rest found long are = absurd cc
named_twice bytes count i len (Some place) name some lt so e is names rest found long are =
    let next : GoOn names so.names bytes len = go_on bytes count i len (Some place) names rest found lt so long are in
    let same : next.name ≡ mapped_ram =
    (counted_unique next.name name next.rest (drop (1 + length name) (drop len bytes)) (sym next.is_spelled ∙ e)).0 ∙ is in
    let first : IsNamed so.names names_at place = so.is_named in
    let all : names ≡ first.before ++ mapped_ram ∷ (first.after ++ mapped_ram ∷ next.others) =
    next.are_names ∙ ap (λ (x : List ℕ). so.names ++ x ∷ next.others) same
    ∙ ap (λ (l : List (List ℕ)). l ++ mapped_ram ∷ next.others) first.are_names
    ∙ append_assoc first.before (mapped_ram ∷ first.after) (mapped_ram ∷ next.others) in
    apart names first.before first.after next.others found.mapped are.is_named first.are_before all

-- ---- answers

-- what holds of a value that is there, and where none is
pub if_some : (X : Type 0) (r : Option X) (P Q : X → Type 0) → ((x : X) → P x → Q x) → IfSome r P → IfSome r Q
if_some X None P Q step h = tt
if_some X (Some x) P Q step h = step x h

pub if_none : (X : Type 0) (r : Option X) (P Q : Type 0) → (P → Q) → IfNone r P → IfNone r Q
if_none X None P Q step h = step h
if_none X (Some x) P Q step h = tt

pub if_ok : (X E : Type 0) (r : Result X E) (P Q : X → Type 0) → ((x : X) → P x → Q x) → IfOk r P → IfOk r Q
if_ok X E (Ok x) P Q step h = step x h
if_ok X E (Err e) P Q step h = tt
