-- The HTTP status for each reason why the program refuses a query or a command.
use Rattle.office_http.specs.declared.messages.status.Status.{Status}
use Rattle.office_http.specs.declared.messages.status.Status.TheVariants.{NotFound as NotThere, Conflict, Unprocessable, Unavailable}
use Rattle.office_events.specs.declared.refusals.Refusal.{Refusal}
use Rattle.office_events.specs.declared.refusals.Refusal.TheVariants as refusal

-- The HTTP status of the response that reports a refusal.
abbrev pub status_of : Refusal → Status
status_of refusal.NotFound = NotThere
status_of refusal.Exists = Conflict
status_of refusal.ClockBack = Conflict
status_of refusal.BadScale = Unprocessable
status_of refusal.NegativeStep = Unprocessable
status_of refusal.NotLater = Unprocessable
status_of refusal.SpanTooLong = Unprocessable
status_of refusal.TotalFull = Unprocessable
status_of refusal.Ended = Conflict
status_of refusal.Busy = Conflict
status_of refusal.Reused = Conflict
status_of refusal.Limit = Unprocessable
status_of (refusal.Store cause) = Unavailable
status_of refusal.Memory = Unavailable
status_of refusal.Stopped = Unavailable
status_of refusal.NotVoidable = Conflict
status_of (refusal.NotPlausible cause) = Unprocessable
