-- The outcome of a read from a socket or a write to the socket: a retry, a wait until the socket is
-- ready, or the end of the connection.
use Rattle.std.specs.declared.io.ErrorKind.{ErrorKind}
use Rattle.std.specs.declared.io.ErrorKind.TheVariants as kind
use Rattle.office_running.specs.declared.http.outbox.Went.{Went}
use Rattle.office_running.specs.declared.http.outbox.Went.TheVariants.{On, Waits, Over}

-- The outcome of a failed read or write. After `WouldBlock` the caller waits until the socket is
-- ready, and after `Interrupted` it retries at once. Any other error ends the connection.
abbrev pub went_of : ErrorKind → Went
went_of kind.WouldBlock = Waits
went_of kind.Interrupted = On
went_of _ = Over
