use Rattle.std.proofs.Common.{◌≡◌, ◌<◌, length, sym, subst, arith}
use Rattle.mig_mem.specs.Place.{IsPlace}
use Rattle.mig_mapped.specs.Bitmap.{byte_of}
use Rattle.mig_mapped.specs.Block.{MappedBlock, mapped_block}
use Rattle.mig_mapped.specs.Write.{MappedWriting, written_table, PutsBit, PutsBlockBit}
use Rattle.mig_mapped.proofs.Blocks.{block_is}
use Rattle.mig_mapped.proofs.Marking.{place_in, place_block, bit_room, with_block, bit_puts, bit_keeps, mark_stands}
use Rattle.mig_mapped.proofs.write.MappedWriter.mark.Goals as goal

pub index_mut-requires : goal.index_mut-requires
index_mut-requires g c =
    let w : MappedWriting = record { given = c.self.inside.settings; place = c.self.inside.place; blocks = c.self.inside.blocks.items } in
    let place : IsPlace (written_table w) c.args.place = place_in w c.args.self.now c.args.place c.self.view_is c.requires in
    omega (arith, (place_block w c.args.place place).0, c.self.inside.blocks.ok.0)

pub put_bit-requires : goal.put_bit-requires
put_bit-requires g c =
    let w : MappedWriting = record { given = c.self.inside.settings; place = c.self.inside.place; blocks = c.self.inside.blocks.items } in
    let place : IsPlace (written_table w) c.args.place = place_in w c.args.self.now c.args.place c.self.view_is c.requires in
    let here : mapped_block w.blocks c.args.place.block ≡ c.index_mut.result.now =
    block_is w.blocks c.args.place.block c.index_mut.result.now (place_block w c.args.place place).0 c.index_mut.ensures.value in
    subst (λ (x : MappedBlock). byte_of w.given.order c.args.place.page < length x.bitmap) here (bit_room w c.args.place c.self.invariant place)

pub invariant_of-self : goal.invariant_of-self
invariant_of-self g c =
    let w : MappedWriting = record { given = c.self.inside.settings; place = c.self.inside.place; blocks = c.self.inside.blocks.items } in
    let place : IsPlace (written_table w) c.args.place = place_in w c.args.self.now c.args.place c.self.view_is c.requires in
    let here : mapped_block w.blocks c.args.place.block ≡ c.index_mut.result.now =
    block_is w.blocks c.args.place.block c.index_mut.result.now (place_block w c.args.place place).0 c.index_mut.ensures.value in
    bit_keeps w c.args.place c.args.bit c.put_bit.new.self c.self.invariant place
    (subst (λ (x : MappedBlock). PutsBlockBit w.given.order x c.args.place.page c.args.bit c.put_bit.new.self) (sym here) c.put_bit.ensures)

pub returns-clause-bit : goal.returns-clause-bit
returns-clause-bit g c =
    let w : MappedWriting = record { given = c.self.inside.settings; place = c.self.inside.place; blocks = c.self.inside.blocks.items } in
    let place : IsPlace (written_table w) c.args.place = place_in w c.args.self.now c.args.place c.self.view_is c.requires in
    let here : mapped_block w.blocks c.args.place.block ≡ c.index_mut.result.now =
    block_is w.blocks c.args.place.block c.index_mut.result.now (place_block w c.args.place place).0 c.index_mut.ensures.value in
    subst (λ (x : MappedWriting). PutsBit x c.args.place c.args.bit (with_block w c.args.place.block c.put_bit.new.self)) c.self.view_is
    (bit_puts w c.args.place c.args.bit c.put_bit.new.self place
    (subst (λ (x : MappedBlock). PutsBlockBit w.given.order x c.args.place.page c.args.bit c.put_bit.new.self) (sym here) c.put_bit.ensures))

pub returns-clause-memory : goal.returns-clause-memory
returns-clause-memory g c = λ m content stands len zeros.
    let w : MappedWriting = record { given = c.self.inside.settings; place = c.self.inside.place; blocks = c.self.inside.blocks.items } in
    let place : IsPlace (written_table w) c.args.place = place_in w c.args.self.now c.args.place c.self.view_is c.requires in
    let here : mapped_block w.blocks c.args.place.block ≡ c.index_mut.result.now =
    block_is w.blocks c.args.place.block c.index_mut.result.now (place_block w c.args.place place).0 c.index_mut.ensures.value in
    let puts : PutsBit c.args.self.now c.args.place c.args.bit (with_block w c.args.place.block c.put_bit.new.self) =
    subst (λ (x : MappedWriting). PutsBit x c.args.place c.args.bit (with_block w c.args.place.block c.put_bit.new.self)) c.self.view_is
    (bit_puts w c.args.place c.args.bit c.put_bit.new.self place
    (subst (λ (x : MappedBlock). PutsBlockBit w.given.order x c.args.place.page c.args.bit c.put_bit.new.self) (sym here) c.put_bit.ensures)) in
    mark_stands c.args.self.now (with_block w c.args.place.block c.put_bit.new.self) c.args.place c.args.bit m content puts stands c.requires len zeros
