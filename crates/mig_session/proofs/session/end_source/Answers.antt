use Rattle.std.proofs.Common.{◌≡◌, ◌∙◌, Option, Some, None, refl, subst, sym}
use Rattle.mig_answer.specs.declared.verdict.Verdict.TheVariants.{Running}
use Rattle.mig_answer.specs.Texts.{over as text_over}
use Rattle.mig_session.specs.Sources.{FedSources, Holds}
use Rattle.mig_session.specs.Loading.{RoundLoad, Feeding, over}
use Rattle.mig_session.specs.Session.{Fed, IsRunning}
use Rattle.mig_session.specs.Advancing.{LoadsAfter}
use Rattle.mig_session.proofs.Advances.{takes_of, ran_on, waited_on}
use Rattle.mig_session.proofs.Parts.{there_after}
use Rattle.mig_session.proofs.session.end_source.Goals as goal

pub note-requires : goal.note-requires
note-requires g c =
    let f : Feeding = c.requires.0 in
    let i = c.fed.inside in
    let was : Fed = record { read = i.sources; waiting = i.waiting } in
    let runs : IsRunning f c.args.load.now Running was = subst (λ (x : Fed). IsRunning f c.args.load.now Running x) (sym c.fed.view_is) c.requires.2 in
    (over c.args.source f, c.end.ensures f.given f.uuid f.texts runs.holds, there_after c.args.source c.args.source text_over f.texts c.requires.3)

pub end_taken-requires : goal.end_taken-requires
end_taken-requires g c =
    let f : Feeding = c.requires.0 in
    let i = c.fed.inside in
    let was : Fed = record { read = i.sources; waiting = i.waiting } in
    let runs : IsRunning f c.args.load.now Running was = subst (λ (x : Fed). IsRunning f c.args.load.now Running x) (sym c.fed.view_is) c.requires.2 in
    (f, takes_of f i.waiting c.args.load.now Running runs.loads, c.requires.3)

pub verdict_without_table-requires : goal.verdict_without_table-requires
verdict_without_table-requires g c =
    let f : Feeding = c.requires.0 in
    let i = c.fed.inside in
    let was : Fed = record { read = i.sources; waiting = i.waiting } in
    let runs : IsRunning f c.args.load.now Running was = subst (λ (x : Fed). IsRunning f c.args.load.now Running x) (sym c.fed.view_is) c.requires.2 in
    let then : LoadsAfter (over c.args.source f) i.waiting None =
    subst (λ (o : Option RoundLoad). LoadsAfter (over c.args.source f) i.waiting o) c.in-None.is
    (c.end_taken.ensures.ended f Running runs.loads c.requires.3 refl) in
    (over c.args.source f, c.requires.1, c.end.ensures f.given f.uuid f.texts runs.holds, then.1)

pub returns-in-Some-clause-told : goal.returns-in-Some-clause-told
returns-in-Some-clause-told g c = λ f size running there.
    let i = c.fed.inside in
    let was : Fed = record { read = i.sources; waiting = i.waiting } in
    let runs : IsRunning f c.args.load.now Running was = subst (λ (x : Fed). IsRunning f c.args.load.now Running x) (sym c.fed.view_is) running in
    let then : LoadsAfter (over c.args.source f) i.waiting (Some c.in-Some.load) =
    subst (λ (o : Option RoundLoad). LoadsAfter (over c.args.source f) i.waiting o) c.in-Some.is (c.end_taken.ensures.ended f Running runs.loads there refl) in
    ran_on (over c.args.source f) (record { read = c.end.new.self; waiting = i.waiting }) (Some c.in-Some.load) c.in-Some.load c.verdict.result size refl
    c.verdict.ensures (c.end.ensures f.given f.uuid f.texts runs.holds) then

pub returns-in-None-clause-told : goal.returns-in-None-clause-told
returns-in-None-clause-told g c = λ f size running there.
    let i = c.fed.inside in
    let was : Fed = record { read = i.sources; waiting = i.waiting } in
    let runs : IsRunning f c.args.load.now Running was = subst (λ (x : Fed). IsRunning f c.args.load.now Running x) (sym c.fed.view_is) running in
    let g' : Feeding = over c.args.source f in
    let then : LoadsAfter g' i.waiting None =
    subst (λ (o : Option RoundLoad). LoadsAfter g' i.waiting o) c.in-None.is (c.end_taken.ensures.ended f Running runs.loads there refl) in
    let holds : Holds f.given f.uuid g'.texts c.end.new.self = c.end.ensures f.given f.uuid f.texts runs.holds in
    waited_on g' (record { read = c.verdict_without_table.new.sources; waiting = i.waiting }) c.end_taken.new.load c.verdict_without_table.result c.in-None.is
    (subst (λ (s : FedSources). Holds f.given f.uuid g'.texts s) (sym c.verdict_without_table.ensures.same) holds) then.0 then.1
    (c.verdict_without_table.ensures.told g' size holds then.1)
