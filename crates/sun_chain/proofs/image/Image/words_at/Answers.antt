use Rattle.std.proofs.Common.{◌≡◌, ◌+◌, ◌-◌, ◌∙◌, arith, sym, true, false}
use Rattle.sun_chain.proofs.Readings.{all_read, words_in-read, words_in-unread, words_in-past}
use Rattle.sun_chain.proofs.image.Image.words_at.Goals as goal
use Rattle.sun_chain.proofs.image.Image.words_at.Goals.{else-end-len-via-then-end-len+else-is_all_true, else-end-len-via-else-end-len}

pub returns-then-is_all_true-clause-words : goal.returns-then-is_all_true-clause-words
returns-then-is_all_true-clause-words c =
    let size : c.args.address + c.from.result - c.args.address ≡ c.args.count = omega (arith, c.from.ensures) in
    let all : all_read c.args.self.now.read.items c.args.address c.args.count ≡ true =
    rw (size, c.deref.ensures.value) at (sym c.is_all_true.ensures ∙ c.if-is_all_true.true) in
    rw (size, c.deref-then-is_all_true.ensures.value)
    (sym (words_in-read c.args.self.now.read.items c.args.self.now.words.items c.args.address c.args.count
    (omega (arith, c.from.ensures, c.len.ensures, c.if-end-len.true, c.args.self.now.read.ok.0))
    (omega (arith, c.args.self.now.read.ok.0, c.args.self.now.words.ok.0, c.args.self.now.sized))
    all))

pub returns-else-end-len-clause-words : goal.returns-else-end-len-clause-words
returns-else-end-len-clause-words c =
    let size : c.args.address + c.from.result - c.args.address ≡ c.args.count = omega (arith, c.from.ensures) in
    elim c.else-end-len.branch [
      | else-end-len-via-then-end-len+else-is_all_true w ↦
          let some : all_read c.args.self.now.read.items c.args.address c.args.count ≡ false =
          rw (size, w.deref.ensures.value) at (sym w.is_all_true.ensures ∙ w.if-is_all_true.false) in
          sym (words_in-unread c.args.self.now.read.items c.args.self.now.words.items c.args.address c.args.count
          (omega (arith, c.from.ensures, c.len.ensures, w.if-end-len.true, c.args.self.now.read.ok.0)) some)
      | else-end-len-via-else-end-len w ↦
          sym (words_in-past c.args.self.now.read.items c.args.self.now.words.items c.args.address c.args.count
          (omega arith)
          (omega (arith, c.from.ensures, c.len.ensures, w.if-end-len.false, c.args.self.now.read.ok.0)))
    ]
