-- A part of virtio-mem's early state without a fault goes in front of what is left after it.
use Rattle.std.proofs.Common.{◌≡◌, ◌≢◌, ℕ, zero, suc, ◌+◌, ◌-◌, ◌^◌, ◌<◌, Bool, true, false, not, cond, eqb, List, [], ◌∷◌, ◌++◌, length, get_or, take, None}
use Rattle.std.proofs.Common.{refl, sym, ap, subst, ◌∙◌, append_assoc, arith}
use Rattle.std.specs.Prelude.{◌&&◌, nat_eq}
use Rattle.std.specs.List.{flat_map, ends_with}
use Rattle.std.proofs.lemmas.Slice.Eq.{ends_is}
use Rattle.std.proofs.lemmas.Bool.{not-false, eqb-true, eqb-false, and_parts}
use Rattle.std.proofs.lemmas.Bool.Decides.{Decides-eqb}
use Rattle.mig_stream.specs.declared.item.Before.{Before}
use Rattle.mig_stream.specs.declared.item.EarlyPart.{EarlyPart}
use Rattle.mig_stream.specs.declared.item.EarlyPart.TheVariants as early
use Rattle.mig_stream.specs.declared.item.PassedItem.TheVariants as pass
use Rattle.mig_stream.specs.declared.item.Due.TheVariants.{TypeByte, Passed}
use Rattle.mig_stream.specs.declared.fault.StreamFault.TheVariants as fault
use Rattle.mig_stream.specs.Fields.{be32, be64, counted, be32_at, be64_at}
use Rattle.mig_stream.specs.Format.{footer_type, early_name, early_version}
use Rattle.mig_stream.specs.Progress.{StreamProgress}
use Rattle.mig_mem.specs.First.{first_of}
use Rattle.mig_stream.specs.Items.{early_size, early_faults, is_early, name_of_section, plugged_words, behind_early}
use Rattle.mig_stream.specs.Text.{footer}
use Rattle.mig_stream.specs.Machine.{EarlyState, early_head, early_numbers}
use Rattle.mig_stream.proofs.FoundFields.{IsBytes, be64_found}
use Rattle.mig_stream.proofs.FoundParts.{length_slice, be32_small, be64_fits, footer_found, section_found, numbers_found}
use Rattle.mig_stream.proofs.FoundRest.{RestOfWords, RestOfNumbers, RestOfEarly, RestAt, RestAtEarly}
use Rattle.mig_stream.proofs.Steps.{passed}

-- ---- words, and the footer

more : (k : ℕ) → k ≢ 0 → k - 1 + 1 ≡ k
more zero e = absurd (e refl)
more (suc k) e = omega arith

-- after the numbers, or after a word, stand the other words, or the footer
words_behind : (to c : StreamProgress) (b : Before) (id n : ℕ) (bytes : List ℕ) (part : EarlyPart) (none : Bool) → eqb n 0 ≡ none
    → RestAtEarly to (record c { due = Passed (pass.Early b part) }) b (cond none (early.Footer id) (early.Plugged id (n - 1))) bytes
    → RestOfWords to c b id n bytes
words_behind to c b id n bytes part true test q = record {
  words = q.words;
  has_length = q.has_length ∙ sym (eqb-true n 0 test);
  tail = q.tail;
  has_bytes = q.has_bytes;
  rest = q.rest;
}
words_behind to c b id n bytes part false test q = record {
  words = q.words;
  has_length = q.has_length ∙ more n (eqb-false n 0 test);
  tail = q.tail;
  has_bytes = q.has_bytes;
  rest = q.rest;
}

-- a word in front of others
word_back : (to c : StreamProgress) (b : Before) (id n : ℕ) (item bytes : List ℕ) → length item ≡ 8 → IsBytes item
    → RestOfWords to c b id n bytes → RestOfWords to c b id (n + 1) (item ++ bytes)
word_back to c b id n item bytes len all q =
    let word : ℕ = be64_at 0 item in
    record {
      words = word ∷ q.words;
      has_length = omega (arith, q.has_length);
      tail = q.tail;
      has_bytes = ap (λ (x : List ℕ). x ++ bytes) (sym (be64_found item len all)) ∙ ap (λ (x : List ℕ). be64 word ++ x) q.has_bytes
          ∙ sym (append_assoc (be64 word) (flat_map be64 q.words) (footer id ++ q.tail));
      rest = q.rest;
    }

-- the footer in front of the next type byte
footer_back : (to c : StreamProgress) (b : Before) (id : ℕ) (item bytes : List ℕ) → length item ≡ 5 → IsBytes item
    → first_of (early_faults (early.Footer id) item) ≡ None → RestAt to (record c { due = TypeByte b }) (TypeByte b) bytes
    → RestOfWords to c b id 0 (item ++ bytes)
footer_back to c b id item bytes len all free r =
    let mark : Bool = eqb (get_or item 0 0) footer_type in
    let own : Bool = eqb (be32_at 1 item) id in
    let both = and_parts mark own (not-false (mark && own) (passed (not (mark && own)) fault.Footer [] free).0) in
    record {
      words = [];
      has_length = refl;
      tail = bytes;
      has_bytes = ap (λ (x : List ℕ). x ++ bytes) (footer_found item id len all (eqb-true _ _ both.0) (eqb-true _ _ both.1));
      rest = r;
    }

-- ---- numbers

positive : (n : ℕ) → n ≢ 0 → 0 < n
positive zero some = absurd (some refl)
positive (suc n) some = omega arith

regroup_numbers : (a b c d e : List ℕ) → a ++ (b ++ (c ++ (d ++ e))) ≡ a ++ b ++ c ++ d ++ e
regroup_numbers a b c d e = simp append_assoc

-- the numbers in front of the words
numbers_back : (to c : StreamProgress) (b : Before) (id : ℕ) (item bytes : List ℕ) → length item ≡ 36 → IsBytes item
    → first_of (early_faults (early.Numbers id) item) ≡ None
    → RestOfWords to c b id (plugged_words (be64_at 8 item) (be64_at 16 item)) bytes → RestOfNumbers to c b id (item ++ bytes)
numbers_back to c b id item bytes len all free q =
    let none : Bool = eqb (be64_at 16 item) 0 in
    let some : none ≡ false = (passed none fault.Length [] free).0 in
    record {
      address = be64_at 0 item;
      region = be64_at 8 item;
      block_size = be64_at 16 item;
      node = be32_at 24 item;
      plugged = be64_at 28 item;
      has_region = be64_fits item 8 (omega (arith, len)) all;
      has_blocks = positive (be64_at 16 item) (eqb-false (be64_at 16 item) 0 some);
      has_block_size = be64_fits item 16 (omega (arith, len)) all;
      behind = bytes;
      has_bytes = ap (λ (x : List ℕ). x ++ bytes) (numbers_found item len all ∙ regroup_numbers (be64 (be64_at 0 item)) (be64 (be64_at 8 item))
          (be64 (be64_at 16 item)) (be32 (be32_at 24 item)) (be64 (be64_at 28 item)));
      rest = q;
    }

-- ---- the head

regroup_head : (a b c d : List ℕ) → a ++ (b ++ (c ++ d)) ≡ a ++ b ++ c ++ d
regroup_head a b c d = simp append_assoc

regroup_early : (h n w f t : List ℕ) → h ++ (n ++ (w ++ (f ++ t))) ≡ (h ++ n ++ w ++ f) ++ t
regroup_early h n w f t = simp append_assoc

-- the head of virtio-mem's early state: how its name ends, and its version
pub record HeadOf (item : List ℕ) : Type 0 where
  pub path : List ℕ
  pub instance_id : ℕ
  pub has_name : length (path ++ early_name) < 2 ^ 8
  pub has_bytes : item ≡ be32 (be32_at 0 item) ++ counted (path ++ early_name) ++ be32 instance_id ++ be32 early_version

head_found : (item : List ℕ) → length item ≡ 13 + get_or item 4 0 → IsBytes item → first_of (early_faults early.Head item) ≡ None → HeadOf item
head_found item len all free =
    let n : ℕ = get_or item 4 0 in
    let name : List ℕ = name_of_section item in
    let tests = and_parts (ends_with nat_eq name early_name) (eqb (be32_at (9 + n) item) early_version)
    (not-false (is_early item) (passed (not (is_early item)) fault.SectionName [] free).0) in
    let path : List ℕ = take (length name - length early_name) name in
    let ends : name ≡ path ++ early_name = (ends_is Decides-eqb name early_name (ends_with nat_eq name early_name) refl).0 tests.0 in
    let long : length name ≡ n = length_slice item 5 n (omega (arith, len)) in
    let known : be32_at (9 + n) item ≡ early_version = eqb-true _ _ tests.1 in
    record {
      path = path;
      instance_id = be32_at (5 + n) item;
      has_name = subst (λ (x : List ℕ). length x < 2 ^ 8) ends (omega (arith, long, all 4));
      has_bytes = section_found item n refl len all
          ∙ regroup_head (be32 (be32_at 0 item)) (counted name) (be32 (be32_at (5 + n) item)) (be32 (be32_at (9 + n) item))
          ∙ ap (λ (x : List ℕ). be32 (be32_at 0 item) ++ counted x ++ be32 (be32_at (5 + n) item) ++ be32 (be32_at (9 + n) item)) ends
          ∙ ap (λ (v : ℕ). be32 (be32_at 0 item) ++ counted (path ++ early_name) ++ be32 (be32_at (5 + n) item) ++ be32 v) known;
    }

-- the head in front of the numbers
head_back : (to c : StreamProgress) (b : Before) (item bytes : List ℕ) → length item ≡ 13 + get_or item 4 0 → IsBytes item
    → first_of (early_faults early.Head item) ≡ None
    → RestOfNumbers to (record c { due = Passed (pass.Early b (early.Numbers (be32_at 0 item))) }) b (be32_at 0 item) bytes
    → RestOfEarly to c b (item ++ bytes)
head_back to c b item bytes len all free q =
    let head = head_found item len all free in
    let words = q.rest in
    let e : EarlyState = record {
      id = be32_at 0 item;
      path = head.path;
      instance_id = head.instance_id;
      address = q.address;
      region = q.region;
      block_size = q.block_size;
      node = q.node;
      plugged = q.plugged;
      words = words.words;
    } in
    let foot : List ℕ = footer e.id in
    record {
      early_is = e;
      is_early = record {
        has_id = be32_small item (omega (arith, len)) all;
        has_name = head.has_name;
        has_region = q.has_region;
        has_blocks = q.has_blocks;
        has_block_size = q.has_block_size;
        has_words = words.has_length;
      };
      tail = words.tail;
      has_bytes = ap (λ (x : List ℕ). x ++ bytes) head.has_bytes
          ∙ ap (λ (x : List ℕ). early_head e ++ x) (q.has_bytes ∙ ap (λ (x : List ℕ). early_numbers e ++ x) words.has_bytes)
          ∙ regroup_early (early_head e) (early_numbers e) (flat_map be64 e.words) foot words.tail;
      rest = words.rest;
    }

-- ---- each part

-- A part of virtio-mem's early state, in front of what is left after it.
pub early_back : (to c : StreamProgress) (b : Before) (part : EarlyPart) (item bytes : List ℕ) → length item ≡ early_size part item → IsBytes item
    → first_of (early_faults part item) ≡ None
    → RestAt to (record c { due = behind_early b part item }) (behind_early b part item) bytes → RestAtEarly to c b part (item ++ bytes)
early_back to c b early.Head item bytes len all free r = head_back to c b item bytes len all free r
early_back to c b (early.Numbers id) item bytes len all free r =
    let n : ℕ = plugged_words (be64_at 8 item) (be64_at 16 item) in
    numbers_back to c b id item bytes len all free (words_behind to c b id n bytes _ (eqb n 0) refl r)
early_back to c b (early.Plugged id others) item bytes len all free r =
    word_back to c b id others item bytes len all (words_behind to c b id others bytes _ (eqb others 0) refl r)
early_back to c b (early.Footer id) item bytes len all free r = footer_back to c b id item bytes len all free r
