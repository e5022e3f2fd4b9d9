use Rattle.std.proofs.Common.{rules, ◌≡◌, ℕ, ◌++◌, length, subst, sym, ap, ◌∙◌, Err}
use Rattle.mb_device.proofs.Framing.{garbled_piece, need_piece, piece_frames}
use Rattle.mb_wire.proofs.Giving.{from}
use Rattle.mb_device.proofs.Streams.{AllAnswered-cut, AllAnswered-same, Answered-then, all_then_all, course_cut, course_then, cut_reports, dealt_with, buffered_carried, buffered_fault, piece_fault, piece_then}
use Rattle.mb_device.specs.Tricks.{carried_out, is_cut}
use Rattle.mb_device.specs.Server.{Answered, PieceReports, around, course_after_all, own_frames, buffered_frames, stretch}
use Rattle.mb_device.proofs.server.+answer_piece.Goals as goal

pub returns-in_err-answered-clause-answered : goal.returns-in_err-answered-clause-answered
returns-in_err-answered-clause-answered g t c =
    let old = around (g.L.Link.remaining c.args.link.now) (g.L.Link.given c.args.link.now) c.args.bank.now in
    let new = around (g.L.Link.remaining c.answer_buffered.new.link) (g.L.Link.given c.answer_buffered.new.link) c.answer_buffered.new.bank in
    let buffered = c.feed-fed.new.self in
    let fault = c.in_err-answered.field-0.0 in
    let is : c.from_residual.result ≡ Err fault = search rules in
    let split = piece_frames c.feed-fed.result.what c.args.reader.now.rest c.args.piece.now c.feed-fed.result.taken buffered c.feed-fed.ensures.reports c.feed-fed.ensures.after in
    let off = buffered_fault fault c.args.sender.now buffered.frame (buffered_frames buffered.frame) (own_frames (buffered.rest ++ from c.feed-fed.result.taken c.args.piece.now)) old new c.in_err-answered.ensures.reports c.in_err-answered.ensures.answered in
    subst (λ x. Answered {X = ℕ} x c.args.sender.now (own_frames (c.args.reader.now.rest ++ c.args.piece.now)) old new) (sym is)
    (subst (λ fs. Answered {X = ℕ} (Err fault) c.args.sender.now fs old new) (sym split.0) off)

pub returns-then-is_cut-clause-answered : goal.returns-then-is_cut-clause-answered
returns-then-is_cut-clause-answered g t c =
    let split = piece_frames c.feed-fed.result.what c.args.reader.now.rest c.args.piece.now c.feed-fed.result.taken c.feed-fed.new.self c.feed-fed.ensures.reports c.feed-fed.ensures.after in
    let cut = sym (ap is_cut c.answer_buffered.ensures.after) ∙ sym c.is_cut.ensures ∙ c.if-is_cut.true in
    AllAnswered-same _ _ _ _ _ split.0 (AllAnswered-cut c.args.sender.now _ _ _ _ cut c.in_ok-answered.ensures.answered)

pub returns-then-is_cut-clause-reports : goal.returns-then-is_cut-clause-reports
returns-then-is_cut-clause-reports g t c =
    let split = piece_frames c.feed-fed.result.what c.args.reader.now.rest c.args.piece.now c.feed-fed.result.taken c.feed-fed.new.self c.feed-fed.ensures.reports c.feed-fed.ensures.after in
    let cut = sym (ap is_cut c.answer_buffered.ensures.after) ∙ sym c.is_cut.ensures ∙ c.if-is_cut.true in
    cut_reports c.in_ok-answered.answered c.args.sender.now c.args.bank.now _ _ _ c.feed-fed.new.self.rest split.0 cut
    (c.in_ok-answered.ensures.reports ∙ sym (ap length (buffered_carried c.args.sender.now c.args.bank.now c.feed-fed.new.self.frame c.requires)))

pub returns-then-is_cut-clause-after : goal.returns-then-is_cut-clause-after
returns-then-is_cut-clause-after g t c =
    let split = piece_frames c.feed-fed.result.what c.args.reader.now.rest c.args.piece.now c.feed-fed.result.taken c.feed-fed.new.self c.feed-fed.ensures.reports c.feed-fed.ensures.after in
    let cut = sym (ap is_cut c.answer_buffered.ensures.after) ∙ sym c.is_cut.ensures ∙ c.if-is_cut.true in
    let frames = buffered_frames c.feed-fed.new.self.frame in
    let others = own_frames (c.feed-fed.new.self.rest ++ from c.feed-fed.result.taken c.args.piece.now) in
    c.answer_buffered.ensures.after ∙ course_cut c.args.sender.now c.args.bank.now frames others cut ∙ ap (course_after_all c.args.sender.now c.args.bank.now) (sym split.0)

pub returns-in_err-more-in-Whole-clause-answered :
    goal.returns-in_err-more-in-Whole-clause-answered
returns-in_err-more-in-Whole-clause-answered g t c =
    let old = around (g.L.Link.remaining c.args.link.now) (g.L.Link.given c.args.link.now) c.args.bank.now in
    let mid = around (g.L.Link.remaining c.answer_buffered.new.link) (g.L.Link.given c.answer_buffered.new.link) c.answer_buffered.new.bank in
    let new = around (g.L.Link.remaining c.answer_piece.new.link) (g.L.Link.given c.answer_piece.new.link) c.answer_piece.new.bank in
    let buffered = c.feed-fed.new.self in
    let fault = c.in_err-more-in-Whole.field-0.0 in
    let is : c.from_residual-in_err-more-in-Whole.result ≡ Err fault = search rules in
    let split = piece_frames c.feed-fed.result.what c.args.reader.now.rest c.args.piece.now c.feed-fed.result.taken buffered c.feed-fed.ensures.reports c.feed-fed.ensures.after in
    let dealt = dealt_with c.args.sender.now c.answer_buffered.new.sender (buffered_frames buffered.frame) old mid c.in_ok-answered.ensures.answered c.answer_buffered.ensures.after (sym c.is_cut.ensures ∙ c.if-is_cut.false) in
    let all = Answered-then {X = ℕ} (Err fault) c.args.sender.now c.answer_buffered.new.sender (buffered_frames buffered.frame) _ old mid new c.in_ok-answered.ensures.answered dealt c.in_err-more-in-Whole.ensures.answered in
    subst (λ x. Answered {X = ℕ} x c.args.sender.now (own_frames (c.args.reader.now.rest ++ c.args.piece.now)) old new) (sym is)
    (subst (λ fs. Answered {X = ℕ} (Err fault) c.args.sender.now fs old new) (sym split.0) all)

pub returns-in_err-more-in-Whole-clause-reports : goal.returns-in_err-more-in-Whole-clause-reports
returns-in_err-more-in-Whole-clause-reports g t c =
    let old = around (g.L.Link.remaining c.args.link.now) (g.L.Link.given c.args.link.now) c.args.bank.now in
    let mid = around (g.L.Link.remaining c.answer_buffered.new.link) (g.L.Link.given c.answer_buffered.new.link) c.answer_buffered.new.bank in
    let buffered = c.feed-fed.new.self in
    let bytes = c.args.reader.now.rest ++ c.args.piece.now in
    let fault = c.in_err-more-in-Whole.field-0.0 in
    let is : c.from_residual-in_err-more-in-Whole.result ≡ Err fault = search rules in
    let split = piece_frames c.feed-fed.result.what c.args.reader.now.rest c.args.piece.now c.feed-fed.result.taken buffered c.feed-fed.ensures.reports c.feed-fed.ensures.after in
    let dealt = dealt_with c.args.sender.now c.answer_buffered.new.sender (buffered_frames buffered.frame) old mid c.in_ok-answered.ensures.answered c.answer_buffered.ensures.after (sym c.is_cut.ensures ∙ c.if-is_cut.false) in
    subst (λ x. PieceReports x (stretch c.args.sender.now c.args.bank.now bytes) c.answer_piece.new.reader.rest) (sym is)
    (piece_fault fault c.args.sender.now c.answer_buffered.new.sender c.args.bank.now c.answer_buffered.new.bank (buffered_frames buffered.frame) bytes _ _ _ dealt split.0 split.1 c.in_err-more-in-Whole.ensures.reports)

pub returns-in-Need-clause-answered : goal.returns-in-Need-clause-answered
returns-in-Need-clause-answered g t c =
    let last = need_piece c.feed-fed.result.what c.args.reader.now.rest c.args.piece.now c.feed-fed.result.taken c.feed-fed.new.self c.feed-fed.ensures.reports c.feed-fed.ensures.after c.in-Need.is (c.feed-fed.ensures.need c.in-Need.is) in
    AllAnswered-same _ _ _ _ _ last.0 c.in_ok-answered.ensures.answered

pub returns-in-Need-clause-reports : goal.returns-in-Need-clause-reports
returns-in-Need-clause-reports g t c =
    let last = need_piece c.feed-fed.result.what c.args.reader.now.rest c.args.piece.now c.feed-fed.result.taken c.feed-fed.new.self c.feed-fed.ensures.reports c.feed-fed.ensures.after c.in-Need.is (c.feed-fed.ensures.need c.in-Need.is) in
    let carried = ap (carried_out c.args.sender.now) last.0 ∙ buffered_carried c.args.sender.now c.args.bank.now c.feed-fed.new.self.frame c.requires in
    (record { counted = c.in_ok-answered.ensures.reports ∙ sym (ap length carried); is_open = λ _. last.1 }, λ _. last.2)

pub returns-in-Need-clause-after : goal.returns-in-Need-clause-after
returns-in-Need-clause-after g t c =
    let last = need_piece c.feed-fed.result.what c.args.reader.now.rest c.args.piece.now c.feed-fed.result.taken c.feed-fed.new.self c.feed-fed.ensures.reports c.feed-fed.ensures.after c.in-Need.is (c.feed-fed.ensures.need c.in-Need.is) in
    c.answer_buffered.ensures.after ∙ ap (course_after_all c.args.sender.now c.args.bank.now) (sym last.0)

pub returns-in-Garbled-clause-answered : goal.returns-in-Garbled-clause-answered
returns-in-Garbled-clause-answered g t c =
    let last = garbled_piece c.feed-fed.result.what c.args.reader.now.rest c.args.piece.now c.feed-fed.result.taken c.feed-fed.new.self c.feed-fed.ensures.reports c.feed-fed.ensures.after c.in-Garbled.is in
    AllAnswered-same _ _ _ _ _ last.0 c.in_ok-answered.ensures.answered

pub returns-in-Garbled-clause-reports : goal.returns-in-Garbled-clause-reports
returns-in-Garbled-clause-reports g t c =
    let last = garbled_piece c.feed-fed.result.what c.args.reader.now.rest c.args.piece.now c.feed-fed.result.taken c.feed-fed.new.self c.feed-fed.ensures.reports c.feed-fed.ensures.after c.in-Garbled.is in
    let same = ap (course_after_all c.args.sender.now c.args.bank.now) last.0 ∙ sym c.answer_buffered.ensures.after in
    record { going = ap is_cut same ∙ sym c.is_cut.ensures ∙ c.if-is_cut.false; bad = last.1 }

pub returns-in_ok-more-in-Whole-clause-answered : goal.returns-in_ok-more-in-Whole-clause-answered
returns-in_ok-more-in-Whole-clause-answered g t c =
    let old = around (g.L.Link.remaining c.args.link.now) (g.L.Link.given c.args.link.now) c.args.bank.now in
    let mid = around (g.L.Link.remaining c.answer_buffered.new.link) (g.L.Link.given c.answer_buffered.new.link) c.answer_buffered.new.bank in
    let buffered = c.feed-fed.new.self in
    let split = piece_frames c.feed-fed.result.what c.args.reader.now.rest c.args.piece.now c.feed-fed.result.taken buffered c.feed-fed.ensures.reports c.feed-fed.ensures.after in
    let dealt = dealt_with c.args.sender.now c.answer_buffered.new.sender (buffered_frames buffered.frame) old mid c.in_ok-answered.ensures.answered c.answer_buffered.ensures.after (sym c.is_cut.ensures ∙ c.if-is_cut.false) in
    AllAnswered-same _ _ _ _ _ split.0 (all_then_all _ _ _ _ _ mid _ c.in_ok-answered.ensures.answered dealt c.in_ok-more-in-Whole.ensures.answered)

pub returns-in_ok-more-in-Whole-clause-reports : goal.returns-in_ok-more-in-Whole-clause-reports
returns-in_ok-more-in-Whole-clause-reports g t c =
    let old = around (g.L.Link.remaining c.args.link.now) (g.L.Link.given c.args.link.now) c.args.bank.now in
    let mid = around (g.L.Link.remaining c.answer_buffered.new.link) (g.L.Link.given c.answer_buffered.new.link) c.answer_buffered.new.bank in
    let buffered = c.feed-fed.new.self in
    let split = piece_frames c.feed-fed.result.what c.args.reader.now.rest c.args.piece.now c.feed-fed.result.taken buffered c.feed-fed.ensures.reports c.feed-fed.ensures.after in
    let dealt = dealt_with c.args.sender.now c.answer_buffered.new.sender (buffered_frames buffered.frame) old mid c.in_ok-answered.ensures.answered c.answer_buffered.ensures.after (sym c.is_cut.ensures ∙ c.if-is_cut.false) in
    piece_then c.args.sender.now c.answer_buffered.new.sender c.args.bank.now c.answer_buffered.new.bank (buffered_frames buffered.frame) (c.args.reader.now.rest ++ c.args.piece.now) _ c.answer_piece.new.reader.rest c.in_ok-answered.answered c.in_ok-more-in-Whole.more dealt split.0 split.1 c.in_ok-answered.ensures.reports c.in_ok-more-in-Whole.ensures.reports

pub returns-in_ok-more-in-Whole-clause-after : goal.returns-in_ok-more-in-Whole-clause-after
returns-in_ok-more-in-Whole-clause-after g t c =
    let old = around (g.L.Link.remaining c.args.link.now) (g.L.Link.given c.args.link.now) c.args.bank.now in
    let mid = around (g.L.Link.remaining c.answer_buffered.new.link) (g.L.Link.given c.answer_buffered.new.link) c.answer_buffered.new.bank in
    let buffered = c.feed-fed.new.self in
    let split = piece_frames c.feed-fed.result.what c.args.reader.now.rest c.args.piece.now c.feed-fed.result.taken buffered c.feed-fed.ensures.reports c.feed-fed.ensures.after in
    let dealt = dealt_with c.args.sender.now c.answer_buffered.new.sender (buffered_frames buffered.frame) old mid c.in_ok-answered.ensures.answered c.answer_buffered.ensures.after (sym c.is_cut.ensures ∙ c.if-is_cut.false) in
    c.in_ok-more-in-Whole.ensures.after
    ∙ sym (course_then c.args.sender.now c.answer_buffered.new.sender c.args.bank.now c.answer_buffered.new.bank (buffered_frames buffered.frame) _ dealt)
    ∙ ap (course_after_all c.args.sender.now c.args.bank.now) (sym split.0)
