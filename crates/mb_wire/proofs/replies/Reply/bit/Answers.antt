use Rattle.std.proofs.Common.{arith, inl, inr, sym}
use Rattle.mb_wire.proofs.Packing.{some_coil, no_coil}
use Rattle.mb_wire.proofs.replies.Reply.bit.Goals as goal
use Rattle.mb_wire.proofs.replies.Reply.bit.Goals.{else-i-from-via-then-i-from+else-i-bytes, else-i-from-via-else-i-from}

pub returns-then-i-bytes : goal.returns-then-i-bytes
returns-then-i-bytes c = rw c.in-Bits.is (sym (some_coil c.in-Bits.quantity c.in-Bits.bytes.now c.args.i (omega arith) (omega arith)))

pub returns-else-i-from : goal.returns-else-i-from
returns-else-i-from c =
    elim c.else-i-from.branch [
      | else-i-from-via-then-i-from+else-i-bytes w ↦ rw c.in-Bits.is (sym (no_coil c.in-Bits.quantity c.in-Bits.bytes.now c.args.i (inr (omega arith))))
      | else-i-from-via-else-i-from w ↦ rw c.in-Bits.is (sym (no_coil c.in-Bits.quantity c.in-Bits.bytes.now c.args.i (inl (omega arith))))
    ]
