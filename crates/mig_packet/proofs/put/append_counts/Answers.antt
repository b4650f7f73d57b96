use Rattle.std.proofs.Common.{◌≡◌, ◌++◌, ◌*◌, replicate, ◌∙◌}
use Rattle.mig_packet.specs.Fields.{be32, be64}
use Rattle.mig_packet.specs.PageSize.{page_limit}
use Rattle.mig_packet.specs.Written.{written_counts, flags_of}
use Rattle.mig_packet.proofs.Appends.{regroup9}
use Rattle.mig_packet.proofs.put.append_counts.Goals as goal

pub returns-clause-items : goal.returns-clause-items
unfolding written_counts
returns-clause-items g c =
    let size = c.args.page_size in
    let old = c.args.out.now.items in
    let e : c.append.new.out.items ≡ ((((((((old ++ be32 0x11223344) ++ be32 1) ++ be32 (flags_of c.args.sync)) ++ be32 (page_limit size))
    ++ be32 c.args.normals) ++ be32 (c.args.normals * size)) ++ be64 c.args.number) ++ be32 c.args.zeros) ++ replicate 28 0 =
    cc (
      c.append.ensures.items,
      c.zeros_of.ensures,
      c.flags_of.ensures,
      c.page_limit.ensures,
      c.append_be32.ensures.items,
      c.append_be32-2.ensures.items,
      c.append_be32-3.ensures.items,
      c.append_be32-4.ensures.items,
      c.append_be32-5.ensures.items,
      c.append_be32-6.ensures.items,
      c.append_be64.ensures.items,
      c.append_be32-7.ensures.items,
    ) in
    e ∙ regroup9 old (be32 0x11223344) (be32 1) (be32 (flags_of c.args.sync)) (be32 (page_limit size)) (be32 c.args.normals) (be32 (c.args.normals * size))
    (be64 c.args.number) (be32 c.args.zeros) (replicate 28 0)
