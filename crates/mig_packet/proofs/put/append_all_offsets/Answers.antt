use Rattle.std.proofs.Common.{◌≡◌, ◌++◌, ◌-◌, ◌*◌, length, replicate, ◌∙◌}
use Rattle.std.specs.List.{flat_map}
use Rattle.mig_packet.specs.Fields.{be64}
use Rattle.mig_packet.specs.PageSize.{page_limit}
use Rattle.mig_packet.specs.Written.{written_offsets}
use Rattle.mig_packet.proofs.Appends.{all_offsets}
use Rattle.mig_packet.proofs.put.append_all_offsets.Goals as goal

pub returns-clause-items : goal.returns-clause-items
unfolding written_offsets
returns-clause-items g c =
    let limit = page_limit c.args.page_size in
    let old = c.args.out.now.items in
    let e : c.append.new.out.items ≡ ((old ++ flat_map be64 c.args.normal.now) ++ flat_map be64 c.args.zero.now)
    ++ replicate (8 * ((limit - length c.args.normal.now) - length c.args.zero.now)) 0 =
    cc (c.append.ensures.items, c.zeros_of.ensures, c.page_limit.ensures, c.append_offsets.ensures.items, c.append_offsets-2.ensures.items) in
    e ∙ all_offsets limit old c.args.normal.now c.args.zero.now
