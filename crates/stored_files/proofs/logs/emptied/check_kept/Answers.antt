use Rattle.std.proofs.Common.{◌≡◌, length, ap, subst, sym, ◌∙◌, inr, refl}
use Rattle.std.proofs.lemmas.Bool.{false≢true}
use Rattle.sqlite_wal.specs.PageSize.{bytes_of}
use Rattle.sqlite_wal.proofs.RecoveryLemmas.{replays_once}
use Rattle.stored_files.specs.Logs.Damage.{KeepsPages}
use Rattle.stored_files.proofs.LogFrames.{unread_refuses}
use Rattle.stored_files.proofs.logs.emptied.check_kept.Goals as goal

pub returns-in-Err-clause-cause : goal.returns-in-Err-clause-cause
returns-in-Err-clause-cause c = unread_refuses _ _ c.args.db.now c.in-Err.fault c.in-Err.ensures.cause

pub returns-clause-cause : goal.returns-clause-cause
returns-clause-cause c = inr (λ it.
    let size = bytes_of c.args.size in
    let same = replays_once size c.args.log.now it.taken _ it.replays c.in-Ok.ensures.taken.0 in
    let keeps = subst (KeepsPages size c.args.log.now c.args.db.now) same it.keeps in
    let all = c.has_all_pages.ensures.1 (rw (c.bytes-2.ensures.value, c.deref.ensures.value) keeps) in
    false≢true (sym c.if-has_all_pages.false ∙ all))
