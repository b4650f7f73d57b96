-- The parts of a round's refusal, in the order in which they are judged: the numbers, where pages
-- lie, and what occurs twice.
use Rattle.std.proofs.Common.{ℕ, ◌≡◌, List, [], ◌∷◌, refl, sym, ◌∙◌, Option, Some, None}
use Rattle.std.specs.Prelude.{filter, nat_lt, nat_eq}
use Rattle.std.specs.Option.{option_map, option_or}
use Rattle.mig_mem.specs.declared.place.Place.{Place}
use Rattle.mig_mem.specs.First.{first_some}
use Rattle.mig_mem.specs.RamTable.{RamTable}
use Rattle.mig_mem.specs.Place.{place_eq, place_lt}
use Rattle.mig_mem.specs.Image.{Page}
use Rattle.mig_mem.proofs.Lists.{or_none, map_none}
use Rattle.mig_packet.specs.Packet.{Fields}
use Rattle.mig_assemble.specs.declared.fault.RoundFault.{RoundFault}
use Rattle.mig_assemble.specs.declared.fault.RoundFault.TheVariants.{Foreign, Doubled, Missing, DoublePage}
use Rattle.mig_assemble.specs.Judging.{least, twice, absent, numbers, least_place_fault, all_round_pages, places_of, refusal}
use Rattle.mig_assemble.specs.Sorted.{number_refusal}

-- the least place that occurs twice
abbrev pub double : RamTable → List Page → List Fields → Option Place
double table records packets = least place_lt (twice place_eq (places_of (all_round_pages table records packets)))

-- what is judged after the numbers
abbrev pub page_refusal : RamTable → List Page → List Fields → Option RoundFault
page_refusal table records packets = option_or (least_place_fault table packets) (option_or (option_map DoublePage (double table records packets)) None)

-- a round is refused for its numbers, or else for its pages
pub refusal-parts : (table : RamTable) (base : ℕ) (records : List Page) (packets : List Fields)
    → refusal table base records packets ≡ option_or (number_refusal base (numbers packets)) (page_refusal table records packets)
refusal-parts table base records packets =
    parts
    (option_map Foreign (least nat_lt (filter (λ n. nat_lt n base) (numbers packets))))
    (option_map Doubled (least nat_lt (twice nat_eq (numbers packets))))
    (option_map Missing (least nat_lt (absent base (numbers packets))))
    (least_place_fault table packets)
    (option_map DoublePage (double table records packets))
  where
    parts : (a b c d e : Option RoundFault) → first_some (a ∷ b ∷ c ∷ d ∷ e ∷ []) ≡ option_or (first_some (a ∷ b ∷ c ∷ [])) (option_or d (option_or e None))
    parts (Some x) b c d e = refl
    parts None (Some x) c d e = refl
    parts None None (Some x) d e = refl
    parts None None None d e = refl

-- if no number is wrong, none occurs twice
pub numbers_once : (base : ℕ) (ns : List ℕ) → number_refusal base ns ≡ None → least nat_lt (twice nat_eq ns) ≡ None
numbers_once base ns none =
    let foreign : Option RoundFault = option_map Foreign (least nat_lt (filter (λ n. nat_lt n base) ns)) in
    let doubled : Option RoundFault = option_map Doubled (least nat_lt (twice nat_eq ns)) in
    let missing : Option RoundFault = option_map Missing (least nat_lt (absent base ns)) in
    let later = or_none foreign (first_some (doubled ∷ missing ∷ [])) none in
    map_none Doubled (least nat_lt (twice nat_eq ns)) (or_none doubled (first_some (missing ∷ [])) later.1).0

module _ (table : RamTable) (base : ℕ) (records : List Page) (packets : List Fields) where
  pub by_numbers : (f : RoundFault) → number_refusal base (numbers packets) ≡ Some f → refusal table base records packets ≡ Some f
  by_numbers f e = refusal-parts table base records packets ∙ rw e refl

  pub by_places : (f : RoundFault) → number_refusal base (numbers packets) ≡ None → least_place_fault table packets ≡ Some f
      → refusal table base records packets ≡ Some f
  by_places f e g = refusal-parts table base records packets ∙ rw (e, g) refl

  pub by_double : (p : Place) → number_refusal base (numbers packets) ≡ None → least_place_fault table packets ≡ None → double table records packets ≡ Some p
      → refusal table base records packets ≡ Some (DoublePage p)
  by_double p e g h = refusal-parts table base records packets ∙ rw (e, g, h) refl

  pub by_none : number_refusal base (numbers packets) ≡ None → least_place_fault table packets ≡ None → double table records packets ≡ None
      → refusal table base records packets ≡ None
  by_none e g h = refusal-parts table base records packets ∙ rw (e, g, h) refl

  -- a lawful round has nothing wrong in any part
  pub lawful_parts : refusal table base records packets ≡ None
      → (number_refusal base (numbers packets) ≡ None) × (least_place_fault table packets ≡ None) × (double table records packets ≡ None)
  lawful_parts lawful =
      let twice_or : Option RoundFault = option_map DoublePage (double table records packets) in
      let a = or_none (number_refusal base (numbers packets)) (page_refusal table records packets) (sym (refusal-parts table base records packets) ∙ lawful) in
      let b = or_none (least_place_fault table packets) (option_or twice_or None) a.1 in
      (a.0, b.0, map_none DoublePage (double table records packets) (or_none twice_or None b.1).0)

pub ruleset wholes = (by_numbers, by_places, by_double, by_none)
