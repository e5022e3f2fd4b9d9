-- Defines the state of a new link (a connection to read and write), before the first read or write.
use Rattle.std.specs.Prelude.{◌≡◌, ℕ, None}
use Rattle.mb_wire.specs.declared.sockets.counts.Counts.{Counts}
use Rattle.mb_wire.specs.declared.sockets.deadline_link.DeadlineLink.{DeadlineLink}
use Rattle.mb_wire.specs.declared.sockets.socket.SocketLink.{SocketLink}

-- The deadline of a link (a byte connection), in seconds by the link's clock. Reads and writes
-- after the deadline fail.
abbrev pub until_of : {L C : Type 0} → DeadlineLink L C → ℕ
until_of link = link.until

-- True if all counts of a link (failures, reads, ends of the input) are 0 and no read was made, as
-- for a new link.
pub record CountsNothing (counts : Counts) : Type 0 where
  pub failures : counts.failures ≡ 0
  pub takes : counts.takes ≡ 0
  pub ends : counts.ends ≡ 0
  pub last : counts.last ≡ None

-- True if a link over a socket is new: no read or write was made over it yet.
abbrev pub IsFresh : {S : Type 0} → SocketLink S → Type 0
IsFresh link = CountsNothing link.counts

-- True if a link with a deadline is new: no read or write was made over it yet.
abbrev pub IsFreshHaste : {L C : Type 0} → DeadlineLink L C → Type 0
IsFreshHaste link = CountsNothing link.counts
