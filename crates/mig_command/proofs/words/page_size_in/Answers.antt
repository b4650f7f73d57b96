use Rattle.std.proofs.Common.{◌≡◌, ◌∙◌, ap, arith, codes}
use Rattle.std.specs.Prelude.{Ok}
use Rattle.std.specs.Str.Parse.{ParsesUnsigned, ExplainsUnsignedError, HasUnsignedDigitsIfOk}
use Rattle.clap.specs.Words.{found_of}
use Rattle.mig_scenario.specs.declared.layout.PageSize.{PageSize}
use Rattle.mig_scenario.specs.Layout.{bytes_in}
use Rattle.mig_command.proofs.CommandLine.{number_read, page_bytes, is_small, is_large, is_neither}
use Rattle.mig_command.proofs.words.page_size_in.Goals as goal

pub returns-then-bytes-eq-PAGE_SIZE_4K-clause-given : goal.returns-then-bytes-eq-PAGE_SIZE_4K-clause-given
returns-then-bytes-eq-PAGE_SIZE_4K-clause-given c = λ size gives.
    let bound = page_bytes size in
    let read : c.unwrap_or-bytes.result ≡ bytes_in size = c.unwrap_or-bytes.ensures
    ∙ number_read 64 (found_of c.args.matches.now) (codes "page") 4096 (bytes_in size) c.get_one.result
    (λ t v. ParsesUnsigned 64 10 t v × ExplainsUnsignedError 10 t v × HasUnsignedDigitsIfOk t v) (λ t v has. has.0)
    (omega (arith, bound)) gives c.get_one.ensures.none c.get_one.ensures.value in
    ap (λ (s : PageSize). Ok s) (is_small size c.unwrap_or-bytes.result read (omega arith))

pub returns-then-bytes-eq-PAGE_SIZE_8K-clause-given : goal.returns-then-bytes-eq-PAGE_SIZE_8K-clause-given
returns-then-bytes-eq-PAGE_SIZE_8K-clause-given c = λ size gives.
    let bound = page_bytes size in
    let read : c.unwrap_or-bytes.result ≡ bytes_in size = c.unwrap_or-bytes.ensures
    ∙ number_read 64 (found_of c.args.matches.now) (codes "page") 4096 (bytes_in size) c.get_one.result
    (λ t v. ParsesUnsigned 64 10 t v × ExplainsUnsignedError 10 t v × HasUnsignedDigitsIfOk t v) (λ t v has. has.0)
    (omega (arith, bound)) gives c.get_one.ensures.none c.get_one.ensures.value in
    ap (λ (s : PageSize). Ok s) (is_large size c.unwrap_or-bytes.result read (omega arith))

pub returns-clause-given : goal.returns-clause-given
returns-clause-given c = λ size gives.
    let bound = page_bytes size in
    let read : c.unwrap_or-bytes.result ≡ bytes_in size = c.unwrap_or-bytes.ensures
    ∙ number_read 64 (found_of c.args.matches.now) (codes "page") 4096 (bytes_in size) c.get_one.result
    (λ t v. ParsesUnsigned 64 10 t v × ExplainsUnsignedError 10 t v × HasUnsignedDigitsIfOk t v) (λ t v has. has.0)
    (omega (arith, bound)) gives c.get_one.ensures.none c.get_one.ensures.value in
    absurd (is_neither size c.unwrap_or-bytes.result read (λ is. absurd (omega (arith, is))) (λ is. absurd (omega (arith, is))))
