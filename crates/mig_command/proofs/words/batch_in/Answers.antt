use Rattle.std.proofs.Common.{ℕ, ◌≡◌, ◌∙◌, ap, arith, codes, inl, inr}
use Rattle.std.specs.Prelude.{Ok}
use Rattle.std.specs.Option.{unwrap_or}
use Rattle.std.specs.Str.Parse.{ParsesUnsigned, ExplainsUnsignedError, HasUnsignedDigitsIfOk}
use Rattle.clap.specs.Words.{found_of}
use Rattle.mig_packet.specs.PageSize.{page_limit}
use Rattle.mig_scenario.specs.Layout.{bytes_in}
use Rattle.mig_command.proofs.CommandLine.{number_read, room_bound}
use Rattle.mig_command.proofs.words.batch_in.Goals as goal

pub returns-then-batch-eq0-clause-given : goal.returns-then-batch-eq0-clause-given
returns-then-batch-eq0-clause-given c = λ batch some fits gives.
    let most = page_limit (bytes_in c.args.page_size) in
    let bound = room_bound c.args.page_size in
    let read : c.unwrap_or-batch.result ≡ batch = c.unwrap_or-batch.ensures ∙ ap (λ (n : ℕ). unwrap_or c.get_one.result n) c.pages_of_a_packet-room.ensures
    ∙ number_read 64 (found_of c.args.matches.now) (codes "batch") most batch c.get_one.result
    (λ t v. ParsesUnsigned 64 10 t v × ExplainsUnsignedError 10 t v × HasUnsignedDigitsIfOk t v) (λ t v has. has.0)
    (omega (arith, fits, bound)) gives c.get_one.ensures.none c.get_one.ensures.value in
    elim c.then-batch-eq0.either [
      | inl none ↦ absurd (omega (arith, read, some, none))
      | inr beyond ↦ absurd (omega (arith, read, fits, c.pages_of_a_packet-room.ensures, beyond.1))
    ]

pub returns-clause-given : goal.returns-clause-given
returns-clause-given c = λ batch some fits gives.
    let most = page_limit (bytes_in c.args.page_size) in
    let bound = room_bound c.args.page_size in
    let read : c.unwrap_or-batch.result ≡ batch = c.unwrap_or-batch.ensures ∙ ap (λ (n : ℕ). unwrap_or c.get_one.result n) c.pages_of_a_packet-room.ensures
    ∙ number_read 64 (found_of c.args.matches.now) (codes "batch") most batch c.get_one.result
    (λ t v. ParsesUnsigned 64 10 t v × ExplainsUnsignedError 10 t v × HasUnsignedDigitsIfOk t v) (λ t v has. has.0)
    (omega (arith, fits, bound)) gives c.get_one.ensures.none c.get_one.ensures.value in
    ap (λ (n : ℕ). Ok n) read
