use Rattle.std.proofs.Common.{refl}
use Rattle.mig_answer.specs.Texts.{no_texts}
use Rattle.mig_session.proofs.Sessions.{places_first, stands_at_first}
use Rattle.mig_session.proofs.session.Session.new_with.Goals as goal

pub invariant_of-result : goal.invariant_of-result
invariant_of-result g c = record {
  is_open = λ running none. absurd cc;
  is_settled = λ other. absurd (other refl);
  is_not_over = λ some. refl;
  stands = λ some. record {
    given = c.args.settings;
    uuid = c.args.uuid.now;
    texts = no_texts c.args.channels;
    stands = stands_at_first c.args.settings c.args.uuid.now c.args.channels (record { read = c.in_ok-sources.sources; waiting = c.in_ok-waiting.waiting })
        c.in_ok-counts.counts _ c.requires.page_size c.requires.channels c.requires.limit c.in_ok-counts.ensures c.in_ok-sources.ensures c.in_ok-waiting.ensures
        (places_first c.args.settings c.args.uuid.now c.args.channels c.in_ok-places.places c.in_ok-places.ensures);
  };
}

pub returns-clause-stands : goal.returns-clause-stands
returns-clause-stands g c =
    stands_at_first c.args.settings c.args.uuid.now c.args.channels (record { read = c.in_ok-sources.sources; waiting = c.in_ok-waiting.waiting })
    c.in_ok-counts.counts _ c.requires.page_size c.requires.channels c.requires.limit c.in_ok-counts.ensures c.in_ok-sources.ensures c.in_ok-waiting.ensures
    (places_first c.args.settings c.args.uuid.now c.args.channels c.in_ok-places.places c.in_ok-places.ensures)
