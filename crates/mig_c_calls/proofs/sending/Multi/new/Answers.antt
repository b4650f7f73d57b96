use Rattle.std.proofs.Common.{[]}
use Rattle.mig_c_calls.proofs.sending.Multi.new.Goals as goal

pub returns : goal.returns
returns c =
    let made = c.in-Ok.ensures.made in (
      (
        [],
        c.none.ensures,
        (record { same_table = made.0; same_uuid = made.1; same_limit = made.2; as_many = made.3 }, c.in-Ok.ensures.none),
      ),
      tt,
    )
