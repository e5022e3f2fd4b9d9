-- Lemmas that building the list of a database file's meters row by row from the table
-- `installations` appends the meter of each row.
use Rattle.std.proofs.Common.{◌≡◌, ℕ, ◌+◌, ◌<◌, List, [], ◌∷◌, ◌++◌, take, length, get_or, drop, Some, sym, ap, subst, ◌∙◌, arith}
use Rattle.std.proofs.lemmas.List.{take_more}
use Rattle.meter_journal.specs.declared.audit.rows.TableRow.{TableRow}
use Rattle.sqlite.specs.Order.{Row}
use Rattle.store_tables.specs.Content.{Content}
use Rattle.table_seals.specs.declared.filed.FiledMeter.{FiledMeter}
use Rattle.table_seals.specs.Filing.{FilesRow, AreFiled}

-- If a list begins with `row`, then the list consists of `row` and the rows after `row`.
pub opened_by : (rows : List TableRow) (row : TableRow) → 0 < length rows → row ≡ get_or rows 0 row → rows ≡ row ∷ drop 1 rows
opened_by [] row lt is = absurd (omega (arith, lt))
opened_by (first ∷ rows) row lt is = ap (λ (r : TableRow). r ∷ rows) (sym is)

filed_more : (file : List ℕ) (content : Content) (rows : List Row) (meters : List FiledMeter) (row : Row) (filed : FiledMeter)
    → AreFiled file content rows meters → FilesRow file content row (Some filed) → AreFiled file content (rows ++ row ∷ []) (meters ++ filed ∷ [])
filed_more file content [] [] row filed h one = (one, tt)
filed_more file content (first ∷ rows) (m ∷ meters) row filed h one = (h.0, filed_more file content rows meters row filed h.1 one)
filed_more file content [] (m ∷ meters) row filed h one = absurd h
filed_more file content (first ∷ rows) [] row filed h one = absurd h

pub next_filed : (file : List ℕ) (content : Content) (rows : List Row) (i : ℕ) (row : Row) (meters next : List FiledMeter) (filed : FiledMeter)
    → i < length rows → row ≡ get_or rows i row → next ≡ meters ++ filed ∷ [] → AreFiled file content (take i rows) meters
    → FilesRow file content row (Some filed) → AreFiled file content (take (i + 1) rows) next
next_filed file content rows i row meters next filed lt is put before one =
    let grown : take i rows ++ row ∷ [] ≡ take (i + 1) rows = ap (λ (r : Row). take i rows ++ r ∷ []) is ∙ sym (take_more rows i row lt) in
    subst (λ (rs : List Row). AreFiled file content rs next) grown
    (subst (λ (ms : List FiledMeter). AreFiled file content (take i rows ++ row ∷ []) ms) (sym put)
    (filed_more file content (take i rows) meters row filed before one))
