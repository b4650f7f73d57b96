use Rattle.std.proofs.Common.{◌≡◌, ◌∙◌, ap, take, drop}
use Rattle.std.proofs.lemmas.List.{drop_min, take_min}
use Rattle.zimgasol_reading.proofs.front.part_of.Goals as goal

pub returns : goal.returns
returns c =
    let bytes = c.args.bytes.now in
    let front = c.split_at.result.0.now in
    let to_end : front ≡ take c.args.end bytes =
    c.split_at.ensures.front ∙ ap (λ n. take n bytes) c.min.ensures ∙ take_min c.args.end bytes in
    c.split_at-2.ensures.back ∙ ap (λ n. drop n front) c.min-2.ensures ∙ drop_min c.args.start front ∙ ap (λ l. drop c.args.start l) to_end
