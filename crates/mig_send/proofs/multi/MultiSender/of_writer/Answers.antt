use Rattle.std.proofs.Common.{rules, refl, subst, arith}
use Rattle.mig_mem.specs.RamTable.{IsTable}
use Rattle.mig_send.specs.MultiSending.{texts_of}
use Rattle.mig_send.proofs.Channels.{hellos_long, hello_alone}
use Rattle.mig_send.proofs.multi.MultiSender.of_writer.Goals as goal

pub invariant_of-result : goal.invariant_of-result
invariant_of-result g c =
    let long = hellos_long c.args.uuid c.args.channels (texts_of c.in_ok-hellos.field-0.items) c.in_ok-hellos.ensures.texts in
    record {
      is_set = record {
        has_table = subst IsTable c.table.ensures c.keeps_limits.ensures;
        has_uuid = (search rules);
        has_channels = (omega (arith, long, c.requires.channels.0), omega (arith, long, c.requires.channels.1));
        has_limit = c.requires.limit;
      };
      has_rounds = omega arith;
      has_base = omega arith;
    }

pub returns-clause-made : goal.returns-clause-made
returns-clause-made g c =
    (refl, refl, refl, hellos_long c.args.uuid c.args.channels (texts_of c.in_ok-hellos.field-0.items) c.in_ok-hellos.ensures.texts)

pub returns-clause-none : goal.returns-clause-none
returns-clause-none g c = λ drained none. record {
  are_dealt = λ i d lt. absurd (omega (arith, lt));
  are_numbered = tt;
  has_main = none;
  has_texts = hello_alone c.args.uuid c.args.channels (texts_of c.in_ok-hellos.field-0.items) c.in_ok-hellos.ensures.texts;
  has_base = refl;
  has_rounds = refl;
}
