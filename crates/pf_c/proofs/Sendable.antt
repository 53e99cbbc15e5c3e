-- A handle may cross to another thread, as its place may.
use denote.Param.Send.{IsSend, sendable, fixed_send}
use denote.Param.SendFields.{declared_send}
use Rattle.pf_c.proofs.place.Place.TheSendSync as place
use Rattle.pf_c.specs.contracts.handle.SagHub as SagHub
use Rattle.pf_c.specs.contracts.handle.SagHub.TheInside as in_handle
use Rattle.pf_c.specs.declared.handle.SagHub.TheView.{view, invariant}

in_handle_send : IsSend in_handle.the_row
in_handle_send = declared_send in_handle.the_type (place.the_send, (search sendable, tt))

pub handle_send : IsSend SagHub.the_row
handle_send = fixed_send in_handle.the_row _ _ _ view invariant in_handle_send
