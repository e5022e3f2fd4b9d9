use Rattle.std.proofs.Common.{take, arith}
use Rattle.office_http.proofs.MessagesLemmas.ReadingLemmas.Filling.{written, took_bytes, took_few}
use Rattle.office_http.proofs.messages.reading.inbox.Inbox.take_more.Goals as goal

pub returns-in-Ok-Bytes-clause-takes_on : goal.returns-in-Ok-Bytes-clause-takes_on
returns-in-Ok-Bytes-clause-takes_on g c =
    let old = c.args.self.now in
    let piece = c.take.new.piece in
    record {
      chunk = take c.in-Ok-Bytes.count piece;
      bytes = written old.filled _ c.in-Ok-Bytes.count old.room.now piece (omega arith) (took_few piece c.in-Ok-Bytes.field-0 c.in-Ok-Bytes.count c.in-Ok-Bytes.ensures.bound c.in-Ok-Bytes.field-0-is);
      consumed = took_bytes _ _ piece c.in-Ok-Bytes.field-0 c.in-Ok-Bytes.count c.in-Ok-Bytes.ensures.bytes c.in-Ok-Bytes.field-0-is;
    }
