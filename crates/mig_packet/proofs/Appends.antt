-- Bytes that are appended one after another.
use Rattle.std.proofs.Common.{◌≡◌, ℕ, ◌-◌, ◌*◌, List, ◌++◌, length, sym, ap, ◌∙◌, replicate, append_assoc, arith}
use Rattle.std.specs.List.{flat_map}
use Rattle.std.proofs.lemmas.List.{length-append}
use Rattle.std.proofs.lemmas.List.Concat.{flat_map-append}
use Rattle.mig_packet.specs.Fields.{be64}

regroup : (a b c d : List ℕ) → ((a ++ b) ++ c) ++ d ≡ a ++ ((b ++ c) ++ d)
regroup a b c d = simp append_assoc

-- the offsets of both kinds and the zeros after them are written as one list
pub all_offsets : (room : ℕ) (old normal zeros : List ℕ)
    → ((old ++ flat_map be64 normal) ++ flat_map be64 zeros) ++ replicate (8 * ((room - length normal) - length zeros)) 0
    ≡ old ++ (flat_map be64 (normal ++ zeros) ++ replicate (8 * (room - length (normal ++ zeros))) 0)
all_offsets room old normal zeros =
    let n : (room - length normal) - length zeros ≡ room - length (normal ++ zeros) = omega (arith, length-append normal zeros) in
    ap (λ (k : ℕ). ((old ++ flat_map be64 normal) ++ flat_map be64 zeros) ++ replicate (8 * k) 0) n
    ∙ regroup old (flat_map be64 normal) (flat_map be64 zeros) (replicate (8 * (room - length (normal ++ zeros))) 0)
    ∙ ap (λ (x : List ℕ). old ++ (x ++ replicate (8 * (room - length (normal ++ zeros))) 0)) (sym (flat_map-append be64 normal zeros))

-- nine appends are one of all nine parts
pub regroup9 : (o a b c d e f g h i : List ℕ)
    → (((((((((o ++ a) ++ b) ++ c) ++ d) ++ e) ++ f) ++ g) ++ h) ++ i) ≡ o ++ (a ++ (b ++ (c ++ (d ++ (e ++ (f ++ (g ++ (h ++ i))))))))
regroup9 o a b c d e f g h i = simp append_assoc
