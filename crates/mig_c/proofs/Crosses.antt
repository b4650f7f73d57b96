-- A handle owns nothing that belongs to one thread.
use Rattle.std.proofs.Common.{Option, Some, None}
use mir.Raw.{raw}
use base.Shift.{Keyless}
use denote.Memory.{lone}
use denote.RawPtr.{Ptr}
use denote.Builtin.{RawPtr}
use denote.Struct.Struct.{exits_of}
use denote.Struct.Owning.{shape, fields, to}
use denote.Param.Send.{IsSend, AllSend, owning_send, struct_send, sendable}
use Rattle.std.proofs.Crossing.{frees}
use Rattle.std_alloc.proofs.SendSync.{quiet, lies}
use Rattle.mig_c.specs.Owned.{heap, owned}
use Rattle.mig_c.specs.declared.object.Object.{Object}
use Rattle.mig_c.specs.contracts.object.Object as object
use Rattle.mig_c.specs.contracts.handle.Handle as handle
use Rattle.mig_c.proofs.object.Object.TheSendSync as sent

-- the memory of a handle, with its object, isn't tied to a thread
owned_keyless : (p : Ptr) (x : Option Object) → Keyless (owned p x)
owned_keyless p None = tt
owned_keyless p (Some x) = (lies object.the_row sent.the_send p x, frees.frees heap (raw (lone (object.the_row).mir)) p)

pointer_send : IsSend RawPtr
pointer_send = search sendable

-- so a handle may go to another thread
pub handle_send : IsSend handle.the_row
handle_send = let O = handle.the_type in let all : AllSend (fields O) = (pointer_send, tt) in
    owning_send O all (λ d. owned_keyless d.at d.value) (λ k. quiet (to O) (exits_of k (fields O)) ((struct_send (shape O) all).leaving k))
