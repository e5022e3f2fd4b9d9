-- Proofs of the effect of each SQL statement that writes the table `intervals`.
use Rattle.std.proofs.Common.{ℕ, List, [], ◌∷◌, Result, OnOk}
use Rattle.sqlite.specs.declared.error.Error.{Error}
use Rattle.sqlite.specs.State.{State, Executes}
use Rattle.interval_core.specs.declared.shares.Share.{Share}
use Rattle.store_tables.specs.Steps.{Turns}
use Rattle.store_tables.proofs.StepLemmas.{on_ok}
use Rattle.office_store.specs.Intervals.StepShares.{BooksShares, AreSmall, with_shares}
use Rattle.office_store.proofs.IntervalsLemmas.Kept.{added_share, upserted, of_intervals, turns_weaker}
use Rattle.office_store.proofs.IntervalsLemmas.Upserts.{columns, upserts}
use Rattle.office_store.proofs.IntervalsLemmas.Texts as text

pub add_share : (meter : List ℕ) (share : Share) (old new : State) (r : Result ℕ Error) → Executes text.add_share (columns meter share.start share.mwh) old new r → OnOk r (Turns (BooksShares meter (share ∷ [])) old.now new.now)
add_share meter share old new r h =
    on_ok r (turns_weaker _ _ old.now new.now (λ content after. of_intervals (λ is. AreSmall (with_shares meter (share ∷ []) is)) (with_shares meter (share ∷ [])) (upserted meter share.start share.mwh) content after (added_share meter share)))
    (upserts meter share.start share.mwh old new r h)
