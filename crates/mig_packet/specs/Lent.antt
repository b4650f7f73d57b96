-- The fields of a packet that borrows its bytes.
use Rattle.mig_packet.specs.declared.packet.Packet.{Packet}
use Rattle.mig_packet.specs.Packet.{Fields, fields_of}

abbrev pub fields : Packet → Fields
fields packet = fields_of packet.page_size packet.bytes.now
