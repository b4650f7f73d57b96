-- What is sent of a piece, page after page, and how many pages that are.
use Rattle.std.proofs.Common.{◌≡◌, ℕ, ◌+◌, ◌<◌, ◌^◌, ◌++◌, ◌∷◌, [], List, length, length-append, refl, subst, sym, add-one, inl, inr, arith}
use Rattle.std.specs.Prelude.{◌⊎◌}
use Rattle.mig_mem.specs.Image.{Page}
use Rattle.mig_stream.specs.Writer.{PartSoFar, HasPut}
use Rattle.zimgasol_files.specs.Differing.{Piece, Differs, AreSent, IsCountedTo, page_of, page_sent}

-- of no page nothing is sent
pub sent_none : (block first : ℕ) (piece : Piece) → AreSent block first piece 0 []
unfolding AreSent
sent_none block first piece = refl

-- one page more was looked at
pub sent_more : (block first : ℕ) (piece : Piece) (page : ℕ) (rest more : List Page) → AreSent block first piece page rest
    → ((Differs piece page × (more ≡ rest ++ page_sent block first piece page ∷ [])) ⊎ ((Differs piece page → ⊥) × (more ≡ rest)))
    → AreSent block first piece (page + 1) more
unfolding AreSent
sent_more block first piece page rest more are step =
    subst (λ n. AreSent block first piece n more) (sym (add-one page)) (rest, are, step)

-- a page that was put is the one that is sent
pub put_is_sent : (round : PartSoFar) (sent : List Page) (block first page n : ℕ) (piece : Piece) (bytes : List ℕ)
    → n ≡ first + page → bytes ≡ page_of piece.size piece.bytes page
    → HasPut round (sent ++ record { place = record { block = block; page = n }; content = bytes } ∷ [])
    → HasPut round (sent ++ page_sent block first piece page ∷ [])
put_is_sent round sent block first page n piece bytes e f h =
    subst (λ b. HasPut round (sent ++ record { place = record { block = block; page = first + page }; content = b } ∷ [])) f
    (subst (λ m. HasPut round (sent ++ record { place = record { block = block; page = m }; content = bytes } ∷ [])) e h)

-- ---- counted

-- no page was counted
pub counted_none : (first : ℕ) (piece : Piece) (start : ℕ) → IsCountedTo first piece 0 start start
counted_none first piece start = ([], sent_none 0 first piece, λ _. omega arith)

-- a page more, which doesn't differ
pub counted_same : (first : ℕ) (piece : Piece) (page start count : ℕ) → IsCountedTo first piece page start count
    → (Differs piece page → ⊥) → IsCountedTo first piece (page + 1) start count
counted_same first piece page start count (sent, are, same) is_same =
    (sent, sent_more 0 first piece page sent sent are (inr (is_same, refl)), same)

-- a number more, as long as it is small
one_more : (start len more count new : ℕ) → more ≡ len + 1 → (start + len < 2 ^ 64 → count ≡ start + len)
    → (count + 1 < 2 ^ 64 → new ≡ count + 1) → start + more < 2 ^ 64 → new ≡ start + more
one_more start len more count new longer same grows small =
    let before : count ≡ start + len = same (omega (arith, longer, small)) in
    let after : new ≡ count + 1 = grows (omega (arith, longer, small, before)) in
    omega (arith, longer, before, after)

-- a page more, which differs
pub counted_more : (first : ℕ) (piece : Piece) (page start count new : ℕ) → IsCountedTo first piece page start count
    → Differs piece page → (count + 1 < 2 ^ 64 → new ≡ count + 1) → IsCountedTo first piece (page + 1) start new
counted_more first piece page start count new (sent, are, same) differs grows =
    let more = sent ++ page_sent 0 first piece page ∷ [] in (
      more,
      sent_more 0 first piece page sent more are (inl (differs, refl)),
      one_more start (length sent) (length more) count new (length-append sent (page_sent 0 first piece page ∷ [])) same grows,
    )
