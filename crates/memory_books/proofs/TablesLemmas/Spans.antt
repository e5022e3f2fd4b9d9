-- Lemmas: a query passes exactly the rows in the requested time span if it passes each row to a
-- sink only if the row's quarter hour is in the span.
use Rattle.std.proofs.Common.{◌≡◌, true, false, List, [], ◌∷◌, ◌++◌, refl, sym, subst}
use Rattle.std.proofs.lemmas.Bool.{cond-true, cond-false}
use Rattle.std.proofs.lemmas.List.Elements.{filter-append}
use Rattle.interval_core.specs.declared.shares.Share.{Share}
use Rattle.office_books.specs.declared.spans.Span.{Span}
use Rattle.office_books.specs.declared.spans.Span.TheVariants.{All, Between}
use Rattle.office_books.specs.Rows.{TakesAll}
use Rattle.office_books.specs.Spans.{is_within, rows_within}
use Rattle.office_books.proofs.Handing.{takes_both}
use Rattle.memory_books.specs.Tables.IntervalRows.{TakesWithin}

within_nil : (span : Span) → rows_within span [] ≡ []
within_nil All = refl
within_nil (Between from till) = refl

within_one : (span : Span) (row : Share) → is_within span row.start ≡ true → rows_within span (row ∷ []) ≡ row ∷ []
within_one All row is = refl
within_one (Between from till) row is = cond-true _ _ _ is

within_none : (span : Span) (row : Share) → is_within span row.start ≡ false → rows_within span (row ∷ []) ≡ []
within_none All row is = absurd (let e = is in cc)
within_none (Between from till) row is = cond-false _ _ _ is

within_append : (span : Span) (xs ys : List Share) → rows_within span (xs ++ ys) ≡ rows_within span xs ++ rows_within span ys
within_append All xs ys = refl
within_append (Between from till) xs ys = filter-append _ xs ys

-- If a row's quarter hour is in the requested time span, the sink (a consumer of rows) gets the
-- row. Otherwise the sink is unchanged.
pub took_one : {S : Type 0} (takes : S → Share → S → Type 0) (span : Span) (before after : S) (row : Share) → is_within span row.start ≡ true → takes before row after
    → TakesWithin takes span before row after
took_one takes span before after row is took =
    let P : List Share → Type 0 = λ rows. TakesAll takes before rows after in
    subst P (sym (within_one span row is)) (after, took, refl)

pub left_one : {S : Type 0} (takes : S → Share → S → Type 0) (span : Span) (before : S) (row : Share) → is_within span row.start ≡ false → TakesWithin takes span before row before
left_one takes span before row is =
    let P : List Share → Type 0 = λ rows. TakesAll takes before rows before in
    subst P (sym (within_none span row is)) refl

-- If a sink gets each row only if the row's quarter hour is in the time span, then the sink gets
-- exactly the rows in the span.
pub takes_asked : {S : Type 0} (takes : S → Share → S → Type 0) (span : Span) (before after : S) (rows : List Share)
    → TakesAll (TakesWithin takes span) before rows after → TakesAll takes before (rows_within span rows) after
takes_asked takes span before after [] h =
    let P : List Share → Type 0 = λ rows. TakesAll takes before rows after in
    subst P (sym (within_nil span)) h
takes_asked takes span before after (row ∷ rows) h =
    let P : List Share → Type 0 = λ taken. TakesAll takes before taken after in
    subst P (sym (within_append span (row ∷ []) rows))
    (takes_both takes before h.0 after (rows_within span (row ∷ [])) (rows_within span rows) h.1 (takes_asked takes span h.0 after rows h.2))
