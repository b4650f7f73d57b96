-- What `ok` of a result says of it.
use Rattle.std.proofs.Common.{◌≡◌, refl}
use Rattle.std.specs.Prelude.{Result, Ok, Err, Some, OnOk}
use Rattle.std.specs.Result.{result_ok}

-- it has the value that `ok` gave
pub is_ok_of : {T E : Type 0} (r : Result T E) (x : T) → Some x ≡ result_ok r → r ≡ Ok x
is_ok_of (Ok y) x is = let same : x ≡ y = cc in rw same refl
is_ok_of (Err e) x is = absurd cc

-- what is said of a result that is Ok, where `ok` gave a value
pub on_ok_of : {T E : Type 0} (r : Result T E) (x : T) (P : Type 0) → Some x ≡ result_ok r → OnOk r P → P
on_ok_of (Ok y) x P is given = given
on_ok_of (Err e) x P is given = absurd cc
