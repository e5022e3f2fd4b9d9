-- A bounded queue of log lines that are still to be written.
use Rattle.std.specs.Prelude.{◌≡◌, ◌⊎◌, ◌==◌, ◌+◌, ◌-◌, ◌^◌, ℕ, nat_le, min, Bool, true, false, not, ◌&&◌, ◌||◌, if◌then◌else◌, List, [], ◌++◌, length, drop, codes, decimal}
use Rattle.std.specs.List.{filter}
use Rattle.run_http.specs.declared.status.monitor.line_queue.LineQueue.{LineQueue}

-- The model of a queue of log lines: the bytes added since the queue was last empty, how many of
-- these bytes were written to the log, and the number of dropped lines.
pub record Queue : Type 0 where
  pub put : List ℕ
  pub written : ℕ
  pub dropped : ℕ

-- The model of a line queue, from the fields of `LineQueue`.
abbrev pub queue_of : LineQueue → Queue
queue_of queue = record {
  put = queue.bytes.items;
  written = queue.written;
  dropped = queue.dropped;
}

-- The bytes of the queue of log lines that are still to be written.
abbrev pub waiting_in : Queue → List ℕ
waiting_in queue = drop queue.written queue.put

-- True if all bytes of the queue of log lines were written.
abbrev pub is_written : Queue → Bool
is_written queue = nat_le (length queue.put) queue.written

-- The number of lines in a text, counted by their line feeds.
abbrev pub line_count : List ℕ → ℕ
line_count text = length (filter (λ byte. byte == 10) text)

-- The log line that says how many lines were dropped up to the time `at`.
abbrev pub with_dropped : (at dropped : ℕ) → List ℕ → List ℕ
with_dropped at dropped text =
    text ++ decimal at ++ codes " - dropped " ++ decimal dropped ++ codes " lines\n"

-- The queue of log lines, cleared if all its bytes were written.
abbrev pub emptied : Queue → Queue
emptied queue =
    if is_written queue then record { put = []; written = 0; dropped = queue.dropped } else queue

-- True if the number of dropped log lines must now be reported, because lines were dropped and no
-- bytes wait to be written to the log.
abbrev pub is_due : Queue → Bool
is_due queue = not (queue.dropped == 0) && is_written queue

-- The line queue after the number of dropped lines was reported. The queue then has only the line
-- with that number.
abbrev pub reported : (at : ℕ) → Queue → Queue
reported at queue = record { put = with_dropped at queue.dropped []; written = 0; dropped = 0 }

-- States that, if `due` is true and memory suffices, a line that gives the number of dropped log
-- lines is added to the queue of log lines.
abbrev pub ReportsDroppedBy : (due : Bool) → (at : ℕ) → (old new : Queue) → Type 0
ReportsDroppedBy true at old new = (new ≡ reported at old) ⊎ (new ≡ emptied old)
ReportsDroppedBy false at old new = new ≡ old

-- States that, if log lines were dropped, no bytes wait to be written, and memory suffices, the
-- line with the number of dropped lines is added to the queue.
abbrev pub ReportsDropped : (at : ℕ) → (old new : Queue) → Type 0
ReportsDropped at old new = ReportsDroppedBy (is_due old) at old new

-- True if the queue of log lines has room for a text. The queue has room if no line was dropped,
-- and it is empty or has at most 65,536 bytes including the text.
abbrev pub has_room : (text : List ℕ) → Queue → Bool
has_room text queue =
    (queue.dropped == 0)
    && ((length queue.put == 0) || nat_le (length queue.put + length text) 65536)

-- The queue of log lines after the text was added at its end.
abbrev pub kept : (text : List ℕ) → Queue → Queue
kept text queue = record queue { put = queue.put ++ text }

-- The queue of log lines if the lines of the text are dropped: only the count of dropped lines
-- grows, by the number of these lines.
abbrev pub left_out : (text : List ℕ) → Queue → Queue
left_out text queue =
    record queue { dropped = min (queue.dropped + line_count text) (2 ^ 64 - 1) }

-- States that the text is added to the line queue if `room` is true and memory suffices. Otherwise
-- the lines of the text are dropped and counted.
abbrev pub PutsBy : (room : Bool) → (text : List ℕ) → (old new : Queue) → Type 0
PutsBy true text old new = (new ≡ kept text old) ⊎ (new ≡ left_out text old)
PutsBy false text old new = new ≡ left_out text old

-- States that the text is added to the queue of log lines if the queue has room and memory
-- suffices. Otherwise the lines of the text are dropped and counted.
abbrev pub PutsAfter : (text : List ℕ) → (old new : Queue) → Type 0
PutsAfter text old new = PutsBy (has_room text old) text old new

-- States that the line queue is first cleared if all its bytes were written. Then the text is
-- queued, or its lines are dropped and counted.
abbrev pub Puts : (text : List ℕ) → (old new : Queue) → Type 0
Puts text old new = PutsAfter text (emptied old) new
