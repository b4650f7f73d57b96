-- A file that is read in pieces, and an older one beside it.
use Rattle.std.proofs.Common.{ℕ, ◌≡◌, ◌+◌, ◌-◌, ◌<◌, ◌≤◌, List, [], ◌++◌, length, take, drop, min}
use Rattle.std.proofs.Common.{Option, Some, None, refl, sym, ap, subst, ◌∙◌, arith}
use Rattle.std.specs.Prelude.{IfSome, IsSome}
use Rattle.std.specs.Option.{option_map}
use Rattle.std.specs.Io.KnownBytes.{Consumes, IsAtEnd}
use Rattle.std.proofs.lemmas.List.{length-append, length-take-le, take_at, drop_at}
use Rattle.zimgasol_files.specs.Differing.{Piece}
use Rattle.zimgasol_files.specs.ReadOn.{IsLeft, IsOldLeft, IsRead, IsReadTo, ReadsOn}
use Rattle.zimgasol_files.specs.declared.opened.Opened.{Opened}
use Rattle.zimgasol_files.specs.declared.pages.Reading.{Reading}

-- the bytes that were read are the first of those that were left
pub left_read : (u v : Option (List ℕ)) (count : ℕ) (rest old buffer : List ℕ) → u ≡ Some rest → count ≤ length old → length buffer ≡ length old
    → Consumes u v (take count buffer) → (count < length old → IsAtEnd v) → IsRead count rest buffer × (v ≡ Some (drop count rest))
left_read u None count rest old buffer is within len used end = absurd (subst (λ (o : Option (List ℕ)). Consumes o None (take count buffer)) is used)
left_read u (Some ys) count rest old buffer is within len used end =
    let e : rest ≡ take count buffer ++ ys = subst (λ (o : Option (List ℕ)). Consumes o (Some ys) (take count buffer)) is used in
    let front : length (take count buffer) ≡ count = length-take-le count buffer (omega (arith, within, len)) in
    let behind : drop count rest ≡ ys = ap (λ (l : List ℕ). drop count l) e ∙ drop_at (take count buffer) ys count front in
    let all : length rest ≡ count + length ys =
    ap (λ (l : List ℕ). length l) e ∙ length-append (take count buffer) ys ∙ ap (λ (n : ℕ). n + length ys) front in (
      record {
        fits = omega (arith, within, len);
        are_there = omega (arith, all);
        has_bytes = sym (ap (λ (l : List ℕ). take count l) e ∙ take_at (take count buffer) ys count front);
        is_end = λ short.
            let none : ys ≡ [] = end (omega (arith, short, len)) in
            omega (arith, all, ap (λ (l : List ℕ). length l) none);
      },
      ap (λ (l : List ℕ). Some l) (sym behind),
    )

-- as many as were asked for
pub wanted_read : (remaining now : Option (List ℕ)) (count wanted : ℕ) (rest buffer : List ℕ) → count ≡ wanted
    → IsRead count rest buffer × (now ≡ Some (drop count rest)) → IsRead wanted rest buffer × (now ≡ Some (drop wanted rest))
wanted_read remaining now count wanted rest buffer same read = subst (λ (n : ℕ). IsRead n rest buffer × (now ≡ Some (drop n rest))) same read

-- of the older file
pub old_read : {F : Type 0} (remaining : F → Option (List ℕ)) (file new : Opened F) (count : ℕ) (buffer : List ℕ) (old : Option (List ℕ))
    → ((rest : List ℕ) → IsLeft remaining file rest → IsRead count rest buffer × IsLeft remaining new (drop count rest))
    → IsOldLeft remaining (Some file) old
    → IfSome old (λ rest. IsRead count rest buffer) × IsOldLeft remaining (Some new) (option_map (λ rest. drop count rest) old)
old_read {F} remaining file new count buffer old read (rest, left, is) =
    let now = read rest left in
    subst (λ (o : Option (List ℕ)). IfSome o (λ r. IsRead count r buffer) × IsOldLeft remaining (Some new) (option_map (λ r. drop count r) o)) (sym is)
    (now.0, (drop count rest, now.1, refl))

-- there is none
pub old_none : {F : Type 0} (remaining : F → Option (List ℕ)) (before : Option (Opened F)) (count : ℕ) (buffer : List ℕ) (old : Option (List ℕ))
    → before ≡ None → IsOldLeft remaining before old
    → IfSome old (λ rest. IsRead count rest buffer) × IsOldLeft remaining before (option_map (λ rest. drop count rest) old)
old_none remaining None count buffer old none left =
    subst (λ (o : Option (List ℕ)). IfSome o (λ r. IsRead count r buffer) × (option_map (λ r. drop count r) o ≡ None)) (sym left) (tt, refl)
old_none remaining (Some file) count buffer old none left = absurd cc

-- the older bytes of the piece
old_piece : {F : Type 0} (remaining : F → Option (List ℕ)) (before : Option (Opened F)) (old : Option (List ℕ)) (count : ℕ) (buffer : List ℕ)
    → IfSome old (λ rest. IsRead count rest buffer) → IsOldLeft remaining before (option_map (λ rest. drop count rest) old)
    → option_map (λ _. take count buffer) before ≡ option_map (λ rest. take count rest) old
old_piece remaining None None count buffer read left = refl
old_piece remaining None (Some o) count buffer read left = absurd cc
old_piece remaining (Some file) None count buffer read (rest, is_left, is) = absurd cc
old_piece remaining (Some file) (Some o) count buffer read left = ap (λ (l : List ℕ). Some l) read.has_bytes

old_fits : {F : Type 0} (remaining : F → Option (List ℕ)) (before : Option (Opened F)) (old : Option (List ℕ)) (count : ℕ) (buffer : List ℕ)
    → IfSome old (λ rest. IsRead count rest buffer) → IsOldLeft remaining before (option_map (λ rest. drop count rest) old)
    → IsSome before → count ≤ length buffer
old_fits remaining None old count buffer read left some = absurd cc
old_fits remaining (Some file) None count buffer read (rest, is_left, is) some = absurd cc
old_fits remaining (Some file) (Some o) count buffer read left some = read.fits

old_there : (old : Option (List ℕ)) (count : ℕ) (buffer : List ℕ) → IfSome old (λ rest. IsRead count rest buffer) → IfSome old (λ rest. count ≤ length rest)
old_there None count buffer read = tt
old_there (Some o) count buffer read = read.are_there

-- a piece of these parts
abbrev piece_with : ℕ → List ℕ → Option (List ℕ) → Piece
piece_with size bytes before = record { size = size; bytes = bytes; before = before }

piece_is : (n m : ℕ) (a b : List ℕ) (x y : Option (List ℕ)) → n ≡ m → a ≡ b → x ≡ y → piece_with n a x ≡ piece_with m b y
piece_is n m a b x y e f g = rw (e, f, g) refl

-- ONE PIECE MORE of both was read
pub reads_on : {F : Type 0} (remaining : F → Option (List ℕ)) (size left : ℕ) (rest : List ℕ) (old : Option (List ℕ)) (r s : Reading F) (count : ℕ)
    → IsReadTo remaining size left rest old r → count ≡ min r.left (length r.bytes.items)
    → length s.bytes.items ≡ length r.bytes.items → length s.old_bytes.items ≡ length r.old_bytes.items
    → s.page_size ≡ r.page_size → s.len ≡ count → s.left ≡ r.left - count → (IsSome s.before → IsSome r.before)
    → IsRead count rest s.bytes.items × IsLeft remaining s.file (drop count rest)
    → IfSome old (λ o. IsRead count o s.old_bytes.items) × IsOldLeft remaining s.before (option_map (λ o. drop count o) old)
    → ReadsOn remaining size left rest old count s
reads_on {F} remaining size left rest old r s count at is_count room old_room same_size is_len is_left there read old_read = record {
  is_count = omega (arith, is_count, at.is_wanted, at.has_room);
  are_there = read.0.are_there;
  were_there = old_there old count s.old_bytes.items old_read.0;
  is_end = λ short. read.0.is_end (omega (arith, short, room, at.has_room));
  has_piece = record {
    fits = omega (arith, is_len, read.0.fits);
    old_fits = λ some. let fits : count ≤ length s.old_bytes.items = old_fits remaining s.before old count s.old_bytes.items old_read.0 old_read.1 some in
        omega (arith, is_len, fits);
    is_piece = piece_is s.page_size size (take s.len s.bytes.items) (take count rest) (option_map (λ (f : Opened F). take s.len s.old_bytes.items) s.before)
        (option_map (λ o. take count o) old) (same_size ∙ at.has_size)
        (ap (λ (n : ℕ). take n s.bytes.items) is_len ∙ read.0.has_bytes)
        (ap (λ (n : ℕ). option_map (λ (f : Opened F). take n s.old_bytes.items) s.before) is_len
        ∙ old_piece remaining s.before old count s.old_bytes.items old_read.0 old_read.1);
  };
  goes_on = record {
    has_size = same_size ∙ at.has_size;
    has_room = room ∙ at.has_room;
    has_old_room = λ some. old_room ∙ at.has_old_room (there some);
    is_wanted = is_left ∙ ap (λ (n : ℕ). n - count) at.is_wanted;
    is_left = read.1;
    is_old_left = old_read.1;
  };
}
