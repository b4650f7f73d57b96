use Rattle.std.proofs.Common.{◌≡◌, ◌+◌, List, ℕ, drop, Some, None, sym, ap, subst, ◌∙◌}
use Rattle.mig_stream.specs.Machine.{Command, command, IsCommand, SubsectionBody, subsection}
use Rattle.mig_mapped.specs.Front.{IsOther}
use Rattle.mig_mapped.specs.FrontParts.{BeginsWithNone, BeginsWithAll, Start, started, IsStart, HasTotal, HasCapabilities, HasNoCapabilities}
use Rattle.mig_mapped.proofs.FrontFields.{to_end}
use Rattle.mig_mapped.proofs.FrontFound.{machine_there, first_there, list_there, count_there, name_there, list_is_there, second_there, commands_there}
use Rattle.mig_mapped.proofs.FrontFound.{start_there, start_is_there, total_there, offsets_are, found_whole}
use Rattle.mig_mapped.proofs.front.front_in.Goals as goal

-- one value in two places
some_injective : (a b : ℕ) → Some a ≡ Some b → a ≡ b
some_injective a b e = cc

pub returns-in_err-before-clause-all : goal.returns-in_err-before-clause-all
returns-in_err-before-clause-all c = λ front has. absurd (machine_there has.0 c.args.bytes.now front has.1 c.in_err-before.ensures.none)

pub returns-in_err-capabilities-clause-all : goal.returns-in_err-capabilities-clause-all
returns-in_err-capabilities-clause-all c = λ front has.
    let bytes : List ℕ = c.args.bytes.now in
    let first : ℕ = c.in_ok-before.before in
    let others : ℕ = c.others_len.result in
    let at_first = first_there has.0 bytes front has.1 first c.in_ok-before.ensures.found in
    let at_list = list_there has.0 bytes front has.1 first others at_first
    (subst (λ (l : List ℕ). BeginsWithAll SubsectionBody subsection IsOther l others) (to_end bytes first) c.others_len.ensures) in
    absurd (list_is_there has.0 bytes front has.1 (first + others) at_list
    (subst HasNoCapabilities (to_end bytes (first + others)) c.in_err-capabilities.ensures.none))

pub returns-in_err-mapped-clause-all : goal.returns-in_err-mapped-clause-all
returns-in_err-mapped-clause-all c = λ front has.
    let bytes : List ℕ = c.args.bytes.now in
    let first : ℕ = c.in_ok-before.before in
    let others : ℕ = c.others_len.result in
    let list = c.in_ok-capabilities.capabilities in
    let at_first = first_there has.0 bytes front has.1 first c.in_ok-before.ensures.found in
    let at_list = list_there has.0 bytes front has.1 first others at_first
    (subst (λ (l : List ℕ). BeginsWithAll SubsectionBody subsection IsOther l others) (to_end bytes first) c.others_len.ensures) in
    let named = name_there has.0 bytes front has.1 (first + others) list at_list
    (subst (λ (l : List ℕ). HasCapabilities l list) (to_end bytes (first + others)) c.in_ok-capabilities.ensures.found) in
    let isnt : list.mapped ≡ None = c.in_err-mapped.was in
    absurd (let clash = sym isnt ∙ named in cc)

pub returns-in_err-total-clause-all : goal.returns-in_err-total-clause-all
returns-in_err-total-clause-all c = λ front has.
    let bytes : List ℕ = c.args.bytes.now in
    let first : ℕ = c.in_ok-before.before in
    let others : ℕ = c.others_len.result in
    let list = c.in_ok-capabilities.capabilities in
    let more : ℕ = c.others_len-2.result in
    let commands : ℕ = c.commands_len.result in
    let at_first = first_there has.0 bytes front has.1 first c.in_ok-before.ensures.found in
    let at_list = list_there has.0 bytes front has.1 first others at_first
    (subst (λ (l : List ℕ). BeginsWithAll SubsectionBody subsection IsOther l others) (to_end bytes first) c.others_len.ensures) in
    let at_second = second_there has.0 bytes front has.1 (first + others) list at_list
    (subst (λ (l : List ℕ). HasCapabilities l list) (to_end bytes (first + others)) c.in_ok-capabilities.ensures.found) in
    let at_commands = commands_there has.0 bytes front has.1 (first + others + list.len) more at_second
    (subst (λ (l : List ℕ). BeginsWithAll SubsectionBody subsection IsOther l more) (to_end bytes (first + others + list.len)) c.others_len-2.ensures) in
    let at_start = start_there has.0 bytes front has.1 (first + others + list.len + more) commands at_commands
    (subst (λ (l : List ℕ). BeginsWithAll Command command IsCommand l commands) (to_end bytes (first + others + list.len + more)) c.commands_len.ensures) in
    absurd (start_is_there has.0 bytes front has.1 (first + others + list.len + more + commands) at_start
    (subst (BeginsWithNone Start started IsStart) (to_end bytes (first + others + list.len + more + commands)) c.in_err-total.ensures.none))

pub returns-clause-found : goal.returns-clause-found
returns-clause-found c =
    let bytes : List ℕ = c.args.bytes.now in
    let first : ℕ = c.in_ok-before.before in
    let others : ℕ = c.others_len.result in
    let list = c.in_ok-capabilities.capabilities in
    let more : ℕ = c.others_len-2.result in
    let commands : ℕ = c.commands_len.result in
    found_whole bytes first others list c.in_ok-mapped.mapped more commands c.in_ok-total.total c.in_ok-before.ensures.found
    (subst (λ (l : List ℕ). BeginsWithAll SubsectionBody subsection IsOther l others) (to_end bytes first) c.others_len.ensures)
    (subst (λ (l : List ℕ). HasCapabilities l list) (to_end bytes (first + others)) c.in_ok-capabilities.ensures.found)
    c.in_ok-mapped.was
    (subst (λ (l : List ℕ). BeginsWithAll SubsectionBody subsection IsOther l more) (to_end bytes (first + others + list.len)) c.others_len-2.ensures)
    (subst (λ (l : List ℕ). BeginsWithAll Command command IsCommand l commands) (to_end bytes (first + others + list.len + more)) c.commands_len.ensures)
    (subst (λ (l : List ℕ). HasTotal l c.in_ok-total.total) (to_end bytes (first + others + list.len + more + commands)) c.in_ok-total.ensures.found)

pub returns-clause-all : goal.returns-clause-all
returns-clause-all c = λ front has.
    let bytes : List ℕ = c.args.bytes.now in
    let first : ℕ = c.in_ok-before.before in
    let others : ℕ = c.others_len.result in
    let list = c.in_ok-capabilities.capabilities in
    let place : ℕ = c.in_ok-mapped.mapped in
    let more : ℕ = c.others_len-2.result in
    let commands : ℕ = c.commands_len.result in
    let caps : HasCapabilities (drop (first + others) bytes) list =
    subst (λ (l : List ℕ). HasCapabilities l list) (to_end bytes (first + others)) c.in_ok-capabilities.ensures.found in
    let at_first = first_there has.0 bytes front has.1 first c.in_ok-before.ensures.found in
    let at_list = list_there has.0 bytes front has.1 first others at_first
    (subst (λ (l : List ℕ). BeginsWithAll SubsectionBody subsection IsOther l others) (to_end bytes first) c.others_len.ensures) in
    let at_second = second_there has.0 bytes front has.1 (first + others) list at_list caps in
    let at_commands = commands_there has.0 bytes front has.1 (first + others + list.len) more at_second
    (subst (λ (l : List ℕ). BeginsWithAll SubsectionBody subsection IsOther l more) (to_end bytes (first + others + list.len)) c.others_len-2.ensures) in
    let at_start = start_there has.0 bytes front has.1 (first + others + list.len + more) commands at_commands
    (subst (λ (l : List ℕ). BeginsWithAll Command command IsCommand l commands) (to_end bytes (first + others + list.len + more)) c.commands_len.ensures) in
    let total = total_there has.0 bytes front has.1 (first + others + list.len + more + commands) c.in_ok-total.total at_start
    (subst (λ (l : List ℕ). HasTotal l c.in_ok-total.total) (to_end bytes (first + others + list.len + more + commands)) c.in_ok-total.ensures.found) in
    let was : list.mapped ≡ Some place = c.in_ok-mapped.was in
    let named = sym was ∙ name_there has.0 bytes front has.1 (first + others) list at_list caps in
    let where_is = some_injective _ _ named in
    ap Some (offsets_are has.0 (first + others + list.len + more + commands) (first + others) list.count place c.in_ok-total.total at_start.is_at at_list.is_at
    (count_there has.0 bytes front has.1 (first + others) list at_list caps) where_is total ∙ sym has.1.has_offsets)
