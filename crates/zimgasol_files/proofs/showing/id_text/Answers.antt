use Rattle.std.proofs.Common.{◌≡◌, IfOk, IsAscii, Result, Ok, Err}
use Rattle.std.specs.Prelude.{string_bytes}
use Rattle.std.proofs.lemmas.Str.{IsUtf8-from_ascii}
use Rattle.zimgasol_files.proofs.showing.id_text.Goals as goal

-- what holds of each result holds of the one that there may be
if_absurd : {T E : Type 0} (r : Result T E) (P : T → Type 0) → ((x : T) → P x) → IfOk r P
if_absurd (Ok x) P all = all x
if_absurd (Err e) P all = tt

pub returns-in-Err : goal.returns-in-Err
returns-in-Err c = if_absurd c.shown.result (λ text. IsAscii c.args.id.now → string_bytes text ≡ c.args.id.now)
    (λ text ascii. absurd (c.in-Err.ensures.cases.0 (IsUtf8-from_ascii c.args.id.now ascii)))
