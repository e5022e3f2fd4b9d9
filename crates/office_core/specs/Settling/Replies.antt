-- The Modbus register values in a response.
use Rattle.std.specs.Prelude.{ℕ, List}
use Rattle.mb_wire.specs.Replies.{answer_of}
use Rattle.mb_wire.specs.declared.replies.Reply.{Reply}
use Rattle.poll_core.specs.Settling.{words_in}

-- The 16-bit Modbus register values in the response, in order.
abbrev pub words_of : Reply → List ℕ
words_of reply = words_in (answer_of reply)
