use Rattle.std.proofs.Common.{[], ◌∷◌, ◌++◌, inl, inr, refl, sym, ap, ◌∙◌}
use Rattle.std.proofs.KnownBytes.{Appends-nil, Appends-trans}
use Rattle.command_io.specs.Lines.{seen_line, speaking_lines}
use Rattle.office_books.specs.History.{Opened}
use Rattle.script_text.specs.AnswerText.{refused_line}
use Rattle.script_run.specs.Replaying.TextRun.{stage_of}
use Rattle.script_run.proofs.ReplayingLemmas.Replies.{same_stage}
use Rattle.script_run.proofs.ReplayingLemmas.Scripts.{empty_books, ended, from_start, one_more, refused_for_memory, stopped_by}
use Rattle.script_run.proofs.replaying.text_run.run_text.Goals as goal
use Rattle.script_run.proofs.replaying.text_run.run_text.Goals.{in-Ok-write_refusal, in-Err-write_refusal}

pub returns-in-Err : goal.returns-in-Err
returns-in-Err g c =
    let why = c.in-Err.why in
    let memory = refused_for_memory why _ _ refl refl c.in-Err.ensures.passed.not_stopped
    (c.in-Err.ensures.refused [] (empty_books c.new.result c.new.ensures.empty) tt) in
    let same = ap refused_line memory in
    elim c.match-write_refusal.branch [
      | in-Ok-write_refusal w ↦ rw w.result-is (refused_line why, w.in-Ok-write_refusal.ensures, inl (same, refl))
      | in-Err-write_refusal w ↦
          let got = w.in-Err-write_refusal.ensures in
          rw w.result-is (got.0, got.3, inl (got.1, sym same ∙ got.2))
    ]

pub loop-line-init : goal.loop-line-init
loop-line-init g c = record {
  printed = [];
  past = Opened 0 ∷ [];
  appended = Appends-nil _;
  stands = c.in-Ok.ensures.opened [] (empty_books c.new.result c.new.ensures.empty) tt;
  so_far = from_start c.args.zone (speaking_lines c.args.text.now) c.new-lines.result (stage_of (Opened 0 ∷ []) c.in-Ok.office) c.new-lines.ensures
      (same_stage _ _ _ _ _ c.in-Ok.ensures.fresh.goes (c.in-Ok.ensures.passed.zone ∙ c.new.ensures.zone));
}

pub loop-line-preserved : goal.loop-line-preserved
loop-line-preserved g c =
    let before = c.loop-line.invariant in
    let done = c.in-Ok-run_line.ensures before.past before.stands in
    record {
      printed = before.printed ++ done.printed;
      past = done.after;
      appended = Appends-trans _ _ _ before.printed done.printed before.appended done.appended;
      stands = done.stands;
      so_far = one_more c.args.zone (speaking_lines c.args.text.now) (stage_of before.past c.loop-line.office)
          (stage_of done.after c.run_line.new.office) c.loop-line.lines c.next_line.new.self (seen_line c.in-Some.line) before.printed done.printed
          c.in-Some.ensures done.prints before.so_far;
    }

pub returns-in-Err-run_line : goal.returns-in-Err-run_line
returns-in-Err-run_line g c =
    let before = c.loop-line.invariant in
    stopped_by c.args.zone c.args.text.now before.past (seen_line c.in-Some.line) c.loop-line.office c.run_line.new.office c.in-Err-run_line.status
    c.loop-line.lines c.next_line.new.self before.printed _ _ _ before.appended c.in-Some.ensures before.so_far
    (c.in-Err-run_line.ensures before.past before.stands)

pub returns : goal.returns
returns g c =
    let before = c.loop-line.invariant in (
      before.printed,
      before.appended,
      inr (ended c.args.zone (speaking_lines c.args.text.now) (stage_of before.past c.loop-line.office) c.loop-line.lines before.printed
          c.in_default.ensures.0 before.so_far),
    )
