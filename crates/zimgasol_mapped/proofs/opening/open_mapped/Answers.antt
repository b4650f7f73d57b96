use Rattle.std.proofs.Common.{ℕ, List, Option, sym, ap, ◌∙◌}
use Rattle.std.specs.Option.{option_map}
use Rattle.zimgasol_mapped.specs.Plain.{plain_stream}
use Rattle.zimgasol_mapped.proofs.Opened.{front_bounds, before_within, opened_plain}
use Rattle.zimgasol_mapped.proofs.opening.open_mapped.Goals as goal

pub new-requires-clause-before : goal.new-requires-clause-before
new-requires-clause-before g c = λ file known.
    before_within file c.args.bytes.now c.args.before (c.requires.part file (sym c.read_heads.ensures.same ∙ known))
    (front_bounds c.args.bytes.now c.args.front c.requires.front).is_long

pub returns : goal.returns
returns g c = λ all known.
    let bytes : List ℕ = c.args.bytes.now in
    let plain : List ℕ = c.in_ok-plain.plain.items in
    let index = c.in_ok-index.index in (
      plain_stream all c.args.before plain index,
      c.in_ok-plain-2.ensures
          ∙ ap (λ (o : Option (List ℕ)). option_map (λ (file : List ℕ). plain_stream file c.args.before plain index) o) (c.read_heads.ensures.same ∙ known),
      opened_plain c.args.page_size all bytes plain c.args.before c.args.front index (c.requires.part all known) c.requires.front
          (c.in_ok-plain.ensures c.requires.front.0 c.requires.front.1) (c.in_ok-index.ensures.index all known),
    )
