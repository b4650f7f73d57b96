use Rattle.std.proofs.Common.{subst}
use Rattle.mig_mem.specs.PlaceSet.{PlaceSet}
use Rattle.mig_send.specs.Finding.{IsWalk}
use Rattle.mig_send.proofs.finder.Finder.new.Goals as goal

pub returns-clause-finder : goal.returns-clause-finder
returns-clause-finder g c = record {
  has_limit = c.requires.limit;
  are_cut = c.requires.cut;
  is_walk = subst (λ (s : PlaceSet). IsWalk c.args.limit s.marked c.first_walk.result) c.dirty.ensures.value (c.first_walk.ensures.walk c.args.limit);
  has_room = c.requires.room;
}
