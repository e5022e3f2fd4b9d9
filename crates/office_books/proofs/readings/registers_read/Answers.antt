use Rattle.std.proofs.Common.{sym, ap, ◌∙◌}
use Rattle.office_books.specs.Readings.{is_read_by}
use Rattle.office_books.proofs.Filtering.{taken, passed_by}
use Rattle.office_books.proofs.readings.registers_read.Goals as goal
use Rattle.office_books.proofs.readings.registers_read.Goals.{then-is_read_by+in_ok-push, else-is_read_by}

pub loop-register-preserved : goal.loop-register-preserved
loop-register-preserved c =
    elim c.if-is_read_by.branch [
      | then-is_read_by+in_ok-push w ↦
          taken (is_read_by c.args.span) c.args.registers.now c.loop-register.register-index c.register-item.result c.loop-register.read.items _
          c.loop-register-test.true c.register-item.is (sym c.is_read_by.ensures ∙ w.if-is_read_by.true) c.loop-register.invariant (ap (λ v. v.items) w.read-is ∙ w.in_ok-push.ensures.items)
      | else-is_read_by w ↦
          passed_by (is_read_by c.args.span) c.args.registers.now c.loop-register.register-index c.register-item.result c.loop-register.read.items _
          c.loop-register-test.true c.register-item.is (sym c.is_read_by.ensures ∙ w.if-is_read_by.false) c.loop-register.invariant (ap (λ v. v.items) w.read-is)
    ]
