-- What is printed of an input.
use Rattle.std.proofs.Common.{ℕ, ◌≡◌, List, refl, sym, ◌∙◌, inl, inr, Option, subst}
use Rattle.std.specs.Prelude.{◌⊎◌, ◌≢◌, MatchOption, IfSome}
use Rattle.std.specs.Io.KnownBytes.{Consumes, IsAtEnd, Appends}
use Rattle.mig_command.specs.declared.answer.Answer.{Answer}
use Rattle.mig_command.specs.declared.answer.Answer.TheVariants.{Checked, Sent, LoadedSections, LoadedRounds, Compared, Refused, Unloaded, Failed}
use Rattle.mig_scenario.specs.declared.fault.ScenarioFault.TheVariants as fault
use Rattle.mig_scenario.specs.declared.layout.Layout.{Layout}
use Rattle.mig_command.specs.declared.request.Request.{Request}
use Rattle.mig_command.specs.declared.request.Request.TheVariants as request
use Rattle.mig_command.specs.Words.{IfCheck}
use Rattle.mig_command.specs.Report.{Report, IsWantOfMemory}
use Rattle.mig_command.specs.Answer.{printed, status_of, IsUnread, Answers, IsReport, IsReportOf, AnswersInput, HasReported}

-- an answer on an input that wasn't read to its end answers that input
pub unread : (layout : Layout) (i o : Option (List ℕ)) (a : Answer) → IsUnread a → AnswersInput layout i o a
unread layout i o (Checked c) want = inr want
unread layout i o (Sent main channels) want = inr want
unread layout i o (LoadedSections n) want = inr want
unread layout i o (LoadedRounds n) want = inr want
unread layout i o (Compared c) want = inr want
unread layout i o (Refused f) want = inr want
unread layout i o (Unloaded e) want = inr want
unread layout i o (Failed f) is = is

-- a refused allocation answers any input
pub wants_memory : (layout : Layout) (i o : Option (List ℕ)) (a : Answer) → a ≡ Refused fault.NoMemory → AnswersInput layout i o a
wants_memory layout i o a is = rw is (unread layout i o (Refused fault.NoMemory) (refl, inl refl))

-- an answer to the bytes of an input that was read to its end answers that input
pub is_input : (layout : Layout) (i o : Option (List ℕ)) (text : List ℕ) (a : Answer) → Consumes i o text → IsAtEnd o
    → Answers layout text a → AnswersInput layout i o a
is_input layout i o text a read over answers =
    let r : Report = answers.0 in
    let said : IsReport layout text r ⊎ IsWantOfMemory r = answers.2 in
    subst (λ x. MatchOption x (status_of a ≡ 3) (IsReportOf layout i o)) (sym answers.1)
    (elim said [ inl is ↦ inl (text, read, over, is) | inr want ↦ inr want ])

-- what is said of a check that was asked for
pub of_check : (r : Request) (layout : Layout) (P : Layout → Type 0) → r ≡ request.Check layout → IfCheck r P → P layout
of_check r layout P is said = rw is at said

-- an answer on an input, written and with its exit status, is reported, if that status isn't 3
pub reported : (layout : Layout) (i o w v : Option (List ℕ)) (a : Answer) (status : ℕ) → AnswersInput layout i o a → status ≡ status_of a → status ≢ 3
    → IfSome (printed a) (λ r. Appends w v r.text) → HasReported layout i o w v status
reported layout i o w v (Checked c) status is same other put = record { report = _; is_report = is; is_written = put; has_status = same }
reported layout i o w v (Sent main channels) status is same other put = record { report = _; is_report = is; is_written = put; has_status = same }
reported layout i o w v (LoadedSections n) status is same other put = record { report = _; is_report = is; is_written = put; has_status = same }
reported layout i o w v (LoadedRounds n) status is same other put = record { report = _; is_report = is; is_written = put; has_status = same }
reported layout i o w v (Compared c) status is same other put = record { report = _; is_report = is; is_written = put; has_status = same }
reported layout i o w v (Refused f) status is same other put = record { report = _; is_report = is; is_written = put; has_status = same }
reported layout i o w v (Unloaded e) status is same other put = record { report = _; is_report = is; is_written = put; has_status = same }
reported layout i o w v (Failed f) status is same other put = absurd (other (same ∙ is))
