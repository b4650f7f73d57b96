use Rattle.std.proofs.Common.{inr, ap, subst, sym, ◌∙◌}
use Rattle.mig_load_types.specs.Settings.{single_of}
use Rattle.mig_single_load.specs.SingleLoad.{verdict_of}
use Rattle.mig_single_load.specs.Loader.{loader, put_so_far, sections_loaded, HasAllSections}
use Rattle.mig_single_load.proofs.Sections.{all_there, none_there, judged}
use Rattle.mig_single_load.proofs.settle.verdict.Goals as goal

pub returns-in-Some-default : goal.returns-in-Some-default
returns-in-Some-default g c = λ given text ended loads.
    let r = c.args.reader.now in
    let o = c.args.target.now in
    let l = loader r o in
    let single = single_of given in
    judged given l text ended c.state.result c.verdict_at.result loads.is_page_size
    (all_there given r o c.in-Some-default.target text ended c.in-Some-default.is-0 loads)
    (c.state.ensures single (put_so_far text ended (sections_loaded l)) loads.stands)
    (c.verdict_at.ensures ∙ ap (λ n. verdict_of n c.state.result) (c.rounds.ensures ∙ ap (λ x. sections_loaded (loader r x)) (sym c.in-Some-default.is-0)))

pub returns-in-None-Some : goal.returns-in-None-Some
returns-in-None-Some g c = λ given text ended loads.
    let l = loader c.args.reader.now c.args.target.now in
    inr (
      record {
        table = c.in-None-Some.field-0-1.now;
        has_table = c.in-None-Some.ensures (single_of given) (put_so_far text ended (sections_loaded l)) loads.stands;
        has_no_memory = c.in-None-Some.is-0;
      },
      c.no_memory.ensures,
    )

pub returns-in-None-None : goal.returns-in-None-None
returns-in-None-None g c = λ given text ended loads.
    let r = c.args.reader.now in
    let l = loader r c.args.target.now in
    let none = c.in-None-None.is-0 in
    let single = single_of given in
    let all = none_there given text r loads.is_page_size (c.in-None-None.ensures single (put_so_far text ended (sections_loaded l)) loads.stands) in
    judged given l text ended c.state-in-None-None.result c.verdict_at-in-None-None.result loads.is_page_size
    (subst (λ x. HasAllSections given (loader r x) text) (sym none) all)
    (c.state-in-None-None.ensures single (put_so_far text ended (sections_loaded l)) loads.stands)
    (c.verdict_at-in-None-None.ensures ∙ ap (λ n. verdict_of n c.state-in-None-None.result) (ap (λ x. sections_loaded (loader r x)) (sym none)))
