-- Where the description is, in the bytes that are kept of a tail.
use Rattle.std.proofs.Common.{ℕ, ◌≡◌, ◌≢◌, ◌+◌, ◌-◌, ◌<◌, ◌≤◌, ◌^◌, ◌↔◌, inl, inr, List, [], ◌∷◌, ◌++◌, length, take, drop, replicate, get_or, Some}
use Rattle.std.proofs.Common.{refl, sym, ap, ◌∙◌, subst, arith, All}
use Rattle.std.specs.Prelude.{codes, slice_get}
use Rattle.std.specs.Int.{w32, to_be_bytes, from_be_bytes}
use Rattle.std.proofs.lemmas.Bool.{cases_lt}
use Rattle.std.proofs.lemmas.Nat.{from_be_bytes-to_be_bytes_4}
use Rattle.std.proofs.lemmas.List.{append-nil, append_assoc, drop_at, drop-drop, drop-take, get_or-append-add, get_or_at, get_or_past, get_or-drop}
use Rattle.std.proofs.lemmas.List.{get_or-replicate, length-append, length-drop, length-replicate, length-take, length-take-le, nil_from_length}
use Rattle.std.proofs.lemmas.List.{take_all, take_at, take-append-drop, take-append-le, take-take}
use Rattle.std.proofs.lemmas.List.Elements.{All-drop, All-same}
use Rattle.std.proofs.Math.Seq.{take-append-add}
use Rattle.zimgasol_reading.specs.Ending.{head, most_read, EndsDescribed, HasDescription, DescribesDevices, IsDescription}
use Rattle.zimgasol_reading.specs.TailSeen.{last_of, most_kept, HasDescriptionAt, HasSeen, IsHeaded, IsWindow}
use Rattle.zimgasol_reading.specs.declared.tail.Tail.{Tail}
use Rattle.zimgasol_reading.specs.declared.tail.Window.{Window}
use Rattle.zimgasol_reading.proofs.TailLists.{last_byte}

-- ---- the head of a description

length-head : (len : ℕ) → length (head len) ≡ 6
length-head len = refl

-- a head has one length
pub same_len : (len other : ℕ) (bytes : List ℕ) → len < 2 ^ 32 → other < 2 ^ 32 → IsHeaded len bytes → IsHeaded other bytes → len ≡ other
same_len len other bytes small fits this that =
    let heads : head len ≡ head other = sym (take_at (head len) this.text 6 refl) ∙ ap (λ (l : List ℕ). take 6 l) (sym this.is_text ∙ that.is_text)
    ∙ take_at (head other) that.text 6 refl in
    let fields : to_be_bytes w32 len ≡ to_be_bytes w32 other = ap (λ (l : List ℕ). drop 2 l) heads in
    sym (from_be_bytes-to_be_bytes_4 len small) ∙ ap (λ (l : List ℕ). from_be_bytes w32 l) fields ∙ from_be_bytes-to_be_bytes_4 other fits

two_bytes : (text : List ℕ) → take 2 text ≡ codes "{\"" → 2 ≤ length text
two_bytes text begins = let two : length (take 2 text) ≡ 2 = ap (λ (l : List ℕ). length l) begins in omega (arith, two, length-take 2 text)

-- ---- a head in the bytes that are kept

-- In the text, at the byte `at` of the bytes that are kept, is the head of a description, whose bytes
-- end with the text.
pub record Framed (text : List ℕ) (w : Window) (at len : ℕ) : Type 0 where
  pub described : List ℕ
  pub has_length : length described ≡ len
  pub is_text : text ≡ take (w.start + at) text ++ (head len ++ described)
  pub has_place : length (take (w.start + at) text) ≡ w.start + at
  pub begins : take 2 described ≡ codes "{\""
  pub has_no_zero : All (λ byte. byte ≢ 0) described
  pub is_kept : len ≤ most_read → take len (drop (at + 6) w.kept.items) ≡ described
  pub has_end : last_of 1 w.recent.items ≡ last_of 1 described

kept_from : (text : List ℕ) (w : Window) (at : ℕ) → at < 6 → IsWindow text w
    → drop at w.kept.items ≡ take (most_kept - at) (drop at (drop w.start text))
kept_from text w at near is =
    let all : most_kept ≡ at + (most_kept - at) = omega (arith, near) in
    ap (λ (l : List ℕ). drop at l) is.has_kept ∙ ap (λ (k : ℕ). drop at (take k (drop w.start text))) all
    ∙ drop-take at (most_kept - at) (drop w.start text)

pub framed : (text : List ℕ) (w : Window) (at len : ℕ) → at < 6 → IsWindow text w → IsHeaded len (drop at w.kept.items)
    → w.start + (at + 6) + len ≡ w.len → Framed text w at len
framed text w at len near is headed ends =
    let window : List ℕ = drop w.start text in
    let later : List ℕ = drop (most_kept - at) (drop at window) in
    let described : List ℕ = headed.text ++ later in
    let here : drop at window ≡ head len ++ described =
    sym (take-append-drop (most_kept - at) (drop at window)) ∙ ap (λ (l : List ℕ). l ++ later) (sym (kept_from text w at near is) ∙ headed.is_text)
    ∙ append_assoc (head len) headed.text later in
    let rest : drop (w.start + at) text ≡ head len ++ described = sym (drop-drop at w.start text) ∙ here in
    let count : length text - (w.start + at) ≡ 6 + length described =
    sym (length-drop (w.start + at) text) ∙ ap (λ (l : List ℕ). length l) rest ∙ length-append (head len) described in
    let has_length : length described ≡ len = omega (arith, count, ends, is.has_len) in
    let is_text : text ≡ take (w.start + at) text ++ (head len ++ described) =
    sym (take-append-drop (w.start + at) text) ∙ ap (λ (l : List ℕ). take (w.start + at) text ++ l) rest in
    let begins : take 2 described ≡ codes "{\"" = take-append-le 2 headed.text later (two_bytes headed.text headed.begins) ∙ headed.begins in
    let after : described ≡ drop at (drop (w.start + 6) text) =
    sym (drop_at (head len) described 6 refl) ∙ ap (λ (l : List ℕ). drop 6 l) (sym rest) ∙ drop-drop 6 (w.start + at) text
    ∙ ap (λ (k : ℕ). drop k text) (let same : w.start + at + 6 ≡ w.start + 6 + at = omega arith in same) ∙ sym (drop-drop at (w.start + 6) text) in
    record {
      described = described;
      has_length = has_length;
      is_text = is_text;
      has_place = length-take-le (w.start + at) text (omega (arith, count));
      begins = begins;
      has_no_zero = All-same (λ byte. byte ≢ 0) described (drop at (drop (w.start + 6) text)) after
          (All-drop (λ byte. byte ≢ 0) at (drop (w.start + 6) text) is.has_no_more);
      is_kept = λ short.
          let all : w.kept.items ≡ window = is.has_kept ∙ take_all most_kept window
          (omega (arith, short, near, ends, is.has_len, length-drop w.start text)) in
          ap (λ (l : List ℕ). take len (drop (at + 6) l)) all ∙ ap (λ (l : List ℕ). take len l) (sym (drop-drop 6 at window)
          ∙ ap (λ (l : List ℕ). drop 6 l) here ∙ drop_at (head len) described 6 refl) ∙ take_all len described (omega (arith, has_length));
      has_end = ap (λ (l : List ℕ). last_of 1 l) is.has_recent
          ∙ ap (λ (l : List ℕ). last_of 1 (last_of 6 l)) (is_text ∙ sym (append_assoc (take (w.start + at) text) (head len) described))
          ∙ last_byte 6 (take (w.start + at) text ++ head len) described (omega arith) (omega (arith, two_bytes described begins));
    }

-- such a text ends with a description exactly if those bytes are one
framed_is : (text : List ℕ) (w : Window) (at len : ℕ) (f : Framed text w at len)
    → DescribesDevices f.described ↔ HasDescriptionAt (w.start + at) text
framed_is text w at len f = (
  λ describing. (
    take (w.start + at) text,
    f.has_place,
    record {
      text = f.described;
      is_tail = f.is_text ∙ ap (λ (k : ℕ). take (w.start + at) text ++ (head k ++ f.described)) (sym f.has_length);
      describes = describing;
    },
  ),
  λ (sections, place, has).
      let rest : head (length has.text) ++ has.text ≡ head len ++ f.described =
      sym (drop_at sections (head (length has.text) ++ has.text) (w.start + at) place)
      ∙ ap (λ (l : List ℕ). drop (w.start + at) l) (sym has.is_tail ∙ f.is_text)
      ∙ drop_at (take (w.start + at) text) (head len ++ f.described) (w.start + at) f.has_place in
      let same : has.text ≡ f.described = sym (drop_at (head (length has.text)) has.text 6 refl) ∙ ap (λ (l : List ℕ). drop 6 l) rest
      ∙ drop_at (head len) f.described 6 refl in
      subst (λ (l : List ℕ). DescribesDevices l) same has.describes,
)

pub whole_short : (text : List ℕ) (w : Window) (at len : ℕ) → Framed text w at len → len < 2 ^ 32 → len ≤ most_read
    → IsDescription (take len (drop (at + 6) w.kept.items)) ↔ HasDescriptionAt (w.start + at) text
whole_short text w at len f small short =
    let is = framed_is text w at len f in
    let kept : take len (drop (at + 6) w.kept.items) ≡ f.described = f.is_kept short in (
      λ description. is.0 (record {
        has_length = omega (arith, small, f.has_length);
        begins = f.begins;
        has_no_zero = f.has_no_zero;
        is_description = λ _. subst (λ (l : List ℕ). IsDescription l) kept description;
        ends = λ long. absurd (omega (arith, long, short, f.has_length));
      }),
      λ has. subst (λ (l : List ℕ). IsDescription l) (sym kept) ((is.1 has).is_description (omega (arith, short, f.has_length))),
    )

pub whole_long : (text : List ℕ) (w : Window) (at len : ℕ) → Framed text w at len → len < 2 ^ 32 → most_read < len
    → (last_of 1 w.recent.items ≡ codes "}") ↔ HasDescriptionAt (w.start + at) text
whole_long text w at len f small long =
    let is = framed_is text w at len f in (
      λ closed. is.0 (record {
        has_length = omega (arith, small, f.has_length);
        begins = f.begins;
        has_no_zero = f.has_no_zero;
        is_description = λ short. absurd (omega (arith, long, short, f.has_length));
        ends = λ _. sym f.has_end ∙ closed;
      }),
      λ has. f.has_end ∙ (is.1 has).ends (omega (arith, long, f.has_length)),
    )

-- ---- a description with which the text ends

no_zeros : (before front end : List ℕ) (zeros : ℕ) → before ++ replicate zeros 0 ≡ front ++ end → 1 ≤ length end → All (λ byte. byte ≢ 0) end → zeros ≡ 0
no_zeros before front end zeros is there nonzero = elim (cases_lt 0 zeros) [
  | inl some ↦
      let count : length before + zeros ≡ length front + length end =
      sym (length-append before (replicate zeros 0) ∙ ap (λ (k : ℕ). length before + k) (length-replicate {A = ℕ} zeros 0))
      ∙ ap (λ (l : List ℕ). length l) is ∙ length-append front end in
      let place : length before + (zeros - 1) ≡ length front + (length end - 1) = omega (arith, count, some, there) in
      let zero : get_or end (length end - 1) 1 ≡ 0 =
      sym (get_or-append-add front end (length end - 1) 1) ∙ ap (λ (k : ℕ). get_or (front ++ end) k 1) (sym place)
      ∙ ap (λ (l : List ℕ). get_or l (length before + (zeros - 1)) 1) (sym is) ∙ get_or-append-add before (replicate zeros 0) (zeros - 1) 1
      ∙ get_or-replicate zeros (zeros - 1) 0 1 (omega (arith, some)) in
      absurd (nonzero (length end - 1) 1 (omega (arith, there)) zero)
  | inr none ↦ omega (arith, none)
]

-- no zeros follow it
pub ends_there : (text sections : List ℕ) (tail : Tail) → HasSeen text tail → HasDescription sections text → (tail.zeros ≡ 0) × IsWindow text tail.window
ends_there text sections tail seen has =
    let split : seen.before ++ replicate tail.zeros 0 ≡ (sections ++ head (length has.text)) ++ has.text =
    sym seen.is_text ∙ has.is_tail ∙ sym (append_assoc sections (head (length has.text)) has.text) in
    let none : tail.zeros ≡ 0 = no_zeros seen.before (sections ++ head (length has.text)) has.text tail.zeros split
    (omega (arith, two_bytes has.text has.describes.begins)) has.describes.has_no_zero in (
      none,
      subst (λ (l : List ℕ). IsWindow l tail.window)
          (sym (seen.is_text ∙ ap (λ (k : ℕ). seen.before ++ replicate k 0) none ∙ append-nil seen.before)) seen.has_window,
    )

-- What is found at the byte `at` of the bytes that are kept, if a description with which the text ends
-- begins there.
pub record Closing (tail : Tail) (at : ℕ) : Type 0 where
  pub no_zeros : tail.zeros ≡ 0
  pub len : ℕ
  pub is_small : len < 2 ^ 32
  pub is_headed : IsHeaded len (drop at tail.window.kept.items)
  pub ends : tail.window.start + (at + 6) + len ≡ tail.window.len

pub closing : (text : List ℕ) (tail : Tail) (at : ℕ) → at < 6 → HasSeen text tail → HasDescriptionAt (tail.window.start + at) text → Closing tail at
closing text tail at near seen (sections, place, has) =
    let w = tail.window in
    let there = ends_there text sections tail seen has in
    let rest : drop at (drop w.start text) ≡ head (length has.text) ++ has.text =
    drop-drop at w.start text ∙ ap (λ (l : List ℕ). drop (w.start + at) l) has.is_tail
    ∙ drop_at sections (head (length has.text) ++ has.text) (w.start + at) place in
    let room : most_kept - at ≡ 6 + (most_kept - at - 6) = omega (arith, near) in
    let count : length text ≡ (w.start + at) + (6 + length has.text) = ap (λ (l : List ℕ). length l) has.is_tail
    ∙ length-append sections (head (length has.text) ++ has.text)
    ∙ ap (λ (k : ℕ). k + length (head (length has.text) ++ has.text)) place
    ∙ ap (λ (k : ℕ). (w.start + at) + k) (length-append (head (length has.text)) has.text) in
    record {
      no_zeros = there.0;
      len = length has.text;
      is_small = has.describes.has_length;
      is_headed = record {
        text = take (most_kept - at - 6) has.text;
        is_text = kept_from text w at near there.1 ∙ ap (λ (l : List ℕ). take (most_kept - at) l) rest
            ∙ ap (λ (k : ℕ). take k (head (length has.text) ++ has.text)) room ∙ take-append-add (head (length has.text)) has.text (most_kept - at - 6);
        begins = take-take 2 (most_kept - at - 6) has.text (omega (arith, near)) ∙ has.describes.begins;
      };
      ends = omega (arith, count, (there.1).has_len);
    }

-- ---- the whole tail

-- the end byte of a description is near the last zero byte
pub near_zero : (text sections : List ℕ) (tail : Tail) → HasSeen text tail → HasDescription sections text
    → (tail.window.start ≤ length sections) × (length sections < tail.window.start + 6)
near_zero text sections tail seen has =
    let w = tail.window in
    let window = (ends_there text sections tail seen has).1 in
    let rest : List ℕ = 6 ∷ to_be_bytes w32 (length has.text) ++ has.text in
    let zero : get_or text (length sections) 1 ≡ 0 =
    ap (λ (l : List ℕ). get_or l (length sections) 1) has.is_tail ∙ get_or_at sections 0 rest 1 (length sections) refl in
    let count : length text ≡ length sections + (6 + length has.text) = ap (λ (l : List ℕ). length l) has.is_tail
    ∙ length-append sections (head (length has.text) ++ has.text)
    ∙ ap (λ (k : ℕ). length sections + k) (length-append (head (length has.text)) has.text) in
    let split : text ≡ (sections ++ head (length has.text)) ++ has.text = has.is_tail ∙ sym (append_assoc sections (head (length has.text)) has.text) in
    let place : length (sections ++ head (length has.text)) ≡ length sections + 6 = length-append sections (head (length has.text)) in (
      elim window.has_zero [
        | inl none ↦ omega (arith, none)
        | inr last ↦ elim (cases_lt (length sections) w.start) [
          | inl before ↦
              let at : ℕ = w.start + 5 - (length sections + 6) in
              let same : w.start + 5 ≡ length (sections ++ head (length has.text)) + at = omega (arith, place, before) in
              let byte : get_or has.text at 1 ≡ 0 = sym (get_or-append-add (sections ++ head (length has.text)) has.text at 1)
              ∙ ap (λ (k : ℕ). get_or ((sections ++ head (length has.text)) ++ has.text) k 1) (sym same)
              ∙ ap (λ (l : List ℕ). get_or l (w.start + 5) 1) (sym split) ∙ last in
              absurd (elim (cases_lt at (length has.text)) [
                | inl inside ↦ has.describes.has_no_zero at 1 inside byte
                | inr past ↦ let one : 1 ≡ 0 = sym (get_or_past has.text at 1 past) ∙ byte in omega (arith, one)
              ])
          | inr fine ↦ fine
        ]
      ],
      elim (cases_lt (length sections) (w.start + 6)) [
        | inl fine ↦ fine
        | inr past ↦
            let at : ℕ = length sections - (w.start + 6) in
            let same : w.start + 6 + at ≡ length sections = omega (arith, past) in
            let byte : get_or (drop (w.start + 6) text) at 1 ≡ 0 =
            get_or-drop (w.start + 6) text at 1 ∙ ap (λ (k : ℕ). get_or text k 1) same ∙ zero in
            absurd (window.has_no_more at 1 (omega (arith, past, count, length-drop (w.start + 6) text)) byte)
      ],
    )

-- the first byte of a text with a description
first_byte : (sections rest : List ℕ) → slice_get sections 0 ≢ Some 0 → slice_get (sections ++ 0 ∷ rest) 0 ≡ Some 0 → sections ≡ []
first_byte [] rest other is = refl
first_byte (s ∷ sections) rest other is = absurd (other is)

other_byte : (sections rest : List ℕ) → slice_get (sections ++ 0 ∷ rest) 0 ≢ Some 0 → slice_get sections 0 ≢ Some 0
other_byte [] rest other is = other refl
other_byte (s ∷ sections) rest other is = other is

-- What is known of a tail that ends with a description.
pub record Found (text : List ℕ) (tail : Tail) : Type 0 where
  pub at : ℕ
  pub is_near : at < 6
  pub has_description : HasDescriptionAt (tail.window.start + at) text
  pub is_first : tail.first ≡ Some 0 → (tail.window.start ≡ 0) × (at ≡ 0)

pub found : (text : List ℕ) (tail : Tail) → HasSeen text tail → EndsDescribed text → Found text tail
found text tail seen ends =
    let near = near_zero text ends.sections tail seen ends.has_description in
    let has = ends.has_description in
    let rest : List ℕ = 6 ∷ to_be_bytes w32 (length has.text) ++ has.text in
    record {
      at = length ends.sections - tail.window.start;
      is_near = omega (arith, near);
      has_description = (ends.sections, omega (arith, near), has);
      is_first = λ zero.
          let first : slice_get (ends.sections ++ 0 ∷ rest) 0 ≡ Some 0 =
          ap (λ (l : List ℕ). slice_get l 0) (sym has.is_tail) ∙ sym seen.has_first ∙ zero in
          let none : length ends.sections ≡ 0 = ap (λ (l : List ℕ). length l) (first_byte ends.sections rest ends.has_type first) in
          (omega (arith, near, none), omega (arith, none));
    }

pub described_first : (text : List ℕ) → HasDescriptionAt 0 text → EndsDescribed text
described_first text (sections, place, has) =
    record {
      sections = sections;
      has_type = subst (λ (l : List ℕ). slice_get l 0 ≢ Some 0) (sym (nil_from_length sections place)) (λ e. absurd cc);
      has_description = has;
    }

pub described_after : (text : List ℕ) (tail : Tail) (at : ℕ) → HasSeen text tail → tail.first ≢ Some 0 → HasDescriptionAt at text → EndsDescribed text
described_after text tail at seen other (sections, place, has) =
    let rest : List ℕ = 6 ∷ to_be_bytes w32 (length has.text) ++ has.text in
    record {
      sections = sections;
      has_type = other_byte sections rest (λ zero. other (seen.has_first ∙ ap (λ (l : List ℕ). slice_get l 0) has.is_tail ∙ zero));
      has_description = has;
    }

-- ---- by the place of a description

-- the place at which the kept bytes begin is a number of 63 bits
pub start_small : (text : List ℕ) (tail : Tail) → length text < 2 ^ 63 → HasSeen text tail → tail.window.start < 2 ^ 63
start_small text tail small seen = omega (
  arith,
  small,
  (seen.has_window).has_start,
  ap (λ (l : List ℕ). length l) seen.is_text,
  length-append seen.before (replicate tail.zeros 0),
)

pub ends_by : (text : List ℕ) (tail : Tail) (at len end : ℕ) → at < 6 → HasSeen text tail → len < 2 ^ 32 → IsHeaded len (drop at tail.window.kept.items)
    → end ≡ tail.window.start + (at + 6) + len → HasDescriptionAt (tail.window.start + at) text → (tail.zeros ≡ 0) × (end ≡ tail.window.len)
ends_by text tail at len end near seen small headed is_end has =
    let closed = closing text tail at near seen has in
    let same : len ≡ closed.len = same_len len closed.len (drop at tail.window.kept.items) small closed.is_small headed closed.is_headed in
    (closed.no_zeros, omega (arith, is_end, same, closed.ends))

pub framed_by : (text : List ℕ) (tail : Tail) (at len end : ℕ) → at < 6 → HasSeen text tail → IsHeaded len (drop at tail.window.kept.items)
    → end ≡ tail.window.start + (at + 6) + len → (tail.zeros ≡ 0) × (end ≡ tail.window.len) → Framed text tail.window at len
framed_by text tail at len end near seen headed is_end ends =
    framed text tail.window at len near (subst (λ (l : List ℕ). IsWindow l tail.window)
    (sym (seen.is_text ∙ ap (λ (k : ℕ). seen.before ++ replicate k 0) ends.0 ∙ append-nil seen.before)) seen.has_window) headed
    (omega (arith, is_end, ends.1))
