-- The bytes in the write buffer of a response.
use Rattle.std.specs.Prelude.{ℕ, List, take, Option}
use Rattle.office_http.specs.Messages.Sending.Sending.{Progress}
use Rattle.office_http.specs.declared.messages.sending.outbox.Outbox.{Outbox}

-- The bytes of a response that wait in the write buffer.
abbrev pub buffered_in : Outbox → List ℕ
buffered_in outbox = take outbox.filled outbox.buffered

-- The progress of a response: the bytes that were written to the client's connection, the bytes in
-- the write buffer, and whether a write failed.
abbrev pub progress : (given : Option (List ℕ)) → Outbox → Progress
progress given outbox = record {
  given = given;
  buffered = buffered_in outbox;
  failed = outbox.failed;
}
