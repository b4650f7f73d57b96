use Rattle.std.proofs.Common.{◌∙◌, ◌^◌, ℕ, length, refl, ap, subst}
use Rattle.std.proofs.lemmas.List.{length-replicate}
use Rattle.mig_mem.specs.Image.{Image}
use Rattle.mig_mem.specs.Lent.{lent_image}
use Rattle.mig_mem.proofs.Lents.{lent_is_image}
use Rattle.mig_answer.specs.Texts.{no_texts}
use Rattle.mig_sources.specs.Sources.{Counts, no_count}
use Rattle.mig_in_place.specs.Session.{StandsFor}
use Rattle.mig_c_loads.specs.Frames.{load_settings, with_round_end}
use Rattle.mig_c_loads.proofs.held_rounds.HeldRounds.new.Goals as goal

pub returns-clause-begins : goal.returns-clause-begins
returns-clause-begins c =
    let load = c.in_ok-load.load in
    record {
      same_table = c.in_ok-load.ensures.table;
      as_many = ap (λ (n : Counts). length n.channels) c.in_ok-load.ensures.counts ∙ length-replicate c.args.channels no_count;
      stands = λ blocks fit.
          let first : Image = lent_image c.args.table.now blocks in
          subst (λ (n : ℕ). StandsFor (with_round_end (load_settings n (2 ^ 40) c.args.waiting c.args.frame) c.args.round_end)
          c.args.uuid.now first (no_texts c.args.channels) first load) c.page_size.ensures
          (c.in_ok-load.ensures.stands first (lent_is_image c.args.table.now blocks fit) refl);
    }

pub returns-clause-alone : goal.returns-clause-alone
returns-clause-alone c = λ blocks fit.
    c.in_ok-load.ensures.alone (lent_image c.args.table.now blocks) (lent_is_image c.args.table.now blocks fit) refl
