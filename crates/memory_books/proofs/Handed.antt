-- Lemmas: a query that passes exactly the requested rows to a sink (a visitor of rows) satisfies
-- the guarantees of a query for rows (`HandsOn`).
use Rattle.std.proofs.Common.{List, length, sym, subst, Ok, arith}
use Rattle.std.proofs.lemmas.List.{take_all}
use Rattle.interval_core.specs.declared.shares.Share.{Share}
use Rattle.memory_books.specs.Tables.IntervalRows.{TakesSome, TakesWithin}
use Rattle.memory_books.proofs.TablesLemmas.Spans.{takes_asked}
use Rattle.office_books.specs.declared.spans.Span.{Span}
use Rattle.office_books.specs.Ledgers.{Ledger}
use Rattle.office_books.specs.Rows.{TakesAll, HandsOn}
use Rattle.office_books.specs.Spans.{rows_within}
use Rattle.office_events.specs.declared.facts.Fact.{Fact}

-- If a query passes exactly the requested rows of the store's records to the sink (a visitor of
-- rows), then it satisfies the guarantees of row queries (`HandsOn`).
pub all_handed_on : {S T : Type 0} (takes : S → T → S → Type 0) (old new : Ledger) (before after : S) (rows : List Fact → List T)
    → ((known : List Fact) → old.holds known → TakesAll takes before (rows known) after) → ((some : List T) × TakesAll takes before some after)
    → HandsOn takes old new before after (Ok tt) rows
all_handed_on {S} {T} takes old new before after rows all some = record {
  begun = λ known holds clean.
      let P : List T → Type 0 = λ taken. TakesAll takes before taken after in
      (length (rows known), subst P (sym (take_all (length (rows known)) (rows known) (omega arith))) (all known holds));
  whole = λ known holds clean. all known holds;
  some = some;
}

-- If a query passes exactly the rows in the requested time span to the sink (a visitor of rows),
-- then it satisfies the guarantees of row queries (`HandsOn`).
pub handed_on : {S : Type 0} (takes : S → Share → S → Type 0) (span : Span) (old new : Ledger) (before after : S) (rows : List Fact → List Share)
    → ((known : List Fact) → old.holds known → TakesAll (TakesWithin takes span) before (rows known) after) → TakesSome (TakesWithin takes span) before after
    → HandsOn takes old new before after (Ok tt) (λ known. rows_within span (rows known))
handed_on takes span old new before after rows all some =
    all_handed_on takes old new before after (λ known. rows_within span (rows known))
    (λ known holds. takes_asked takes span before after (rows known) (all known holds)) (rows_within span some.0, takes_asked takes span before after some.0 some.1)
