use Rattle.std.proofs.Common.{ℕ, List, refl, subst}
use Rattle.std.specs.Prelude.{string_bytes}
use Rattle.stored_files.specs.Joins.Stored.{AreBefore}
use Rattle.stored_files.proofs.JoinsLemmas.Stored.{joins_in, refuses_in}
use Rattle.stored_files.proofs.joins.stored.join_in_zone.Goals as goal

pub returns-in-Ok-join_opened-clause-joins : goal.returns-in-Ok-join_opened-clause-joins
returns-in-Ok-join_opened-clause-joins g c = λ its facts has same.
    joins_in g.K.Keeping c.args.range c.args.register.now facts g.S.Store c.args.connection (string_bytes c.args.zone) c.args.before c.in-Ok.kept _
    (subst (λ (reported : List ℕ). AreBefore g.K.Keeping reported c.args.range c.args.before c.in-Ok.kept) c.deref.ensures c.in-Ok.ensures.are) same refl (c.in-Ok-join_opened.ensures.joins its facts has)

pub returns-in-Err-join_opened-clause-refuses : goal.returns-in-Err-join_opened-clause-refuses
returns-in-Err-join_opened-clause-refuses g c = λ its facts has.
    refuses_in g.K.Keeping c.args.range c.args.register.now facts g.S.Store c.args.connection (string_bytes c.args.zone) c.args.before c.in-Ok.kept
    c.in-Err-join_opened.why (subst (λ (reported : List ℕ). AreBefore g.K.Keeping reported c.args.range c.args.before c.in-Ok.kept) c.deref.ensures c.in-Ok.ensures.are) (c.in-Err-join_opened.ensures.unjoined its facts has)
