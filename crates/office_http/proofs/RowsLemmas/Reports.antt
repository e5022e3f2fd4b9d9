-- Lemmas: the rows that a query returns are written as lines of a report in their order, with the
-- head of the HTTP response before the first line.
use Rattle.std.proofs.Common.{◌≡◌, ◌∙◌, ◌+◌, ◌<◌, ◌≤◌, ℕ, zero, suc, List, [], ◌∷◌, ◌++◌, length, refl, sym, ap, subst, arith, append_assoc}
use Rattle.std.specs.Prelude.{flat_map, min}
use Rattle.std.proofs.lemmas.Bool.Decides.{nat_tests}
use Rattle.office_books.specs.Rows.{TakesAll}
use Rattle.office_http.specs.Messages.Sending.Replies.{text_head}
use Rattle.office_http.specs.Messages.Sending.Sending.{Puts}
use Rattle.office_http.proofs.MessagesLemmas.SendingLemmas.Giving.{Puts-none, Puts-then}
use Rattle.office_http.specs.Rows.Reports.{PutsLine, Report, counted, head_before, rows_begun}

head_later : (count : ℕ) → 0 < count → head_before count ≡ []
head_later count h = grind (arith, nat_tests)

counted_none : (count : ℕ) → count ≤ 18446744073709551615 → count ≡ counted (count + 0)
counted_none count few = grind (arith, nat_tests)

some_counted : (count next : ℕ) → next ≡ counted (count + 1) → 0 < next
some_counted count next is = grind (arith, nat_tests)

few_counted : (count next : ℕ) → next ≡ counted (count + 1) → next ≤ 18446744073709551615
few_counted count next is = grind (arith, nat_tests)

counted_more : (count next more : ℕ) → next ≡ counted (count + 1) → counted (next + more) ≡ counted (count + suc more)
counted_more count next more is = grind (arith, nat_tests)

-- True if the lines `text` were written to a report, and the report's count of rows rose by
-- `count`.
pub record RowsPut (text : List ℕ) (count : ℕ) (before after : Report) : Type 0 where
  pub puts : Puts before.out after.out text
  pub counts : after.count ≡ counted (before.count + count)

none_put : (before after : Report) → before.count ≤ 18446744073709551615 → after ≡ before → RowsPut [] 0 before after
none_put before after few same = record {
  puts = subst (λ (r : Report). Puts before.out r.out []) (sym same) (Puts-none before.out);
  counts = ap (λ (r : Report). r.count) same ∙ counted_none before.count few;
}

-- If the first row of a report was already written, then later rows are written without the head of
-- the HTTP response.
pub later_put : {T : Type 0} (line : T → List ℕ) (before after : Report) (rows : List T) → 0 < before.count → before.count ≤ 18446744073709551615
    → TakesAll (λ old row new. PutsLine (line row) old new) before rows after → RowsPut (flat_map line rows) (length rows) before after
later_put line before after [] begun few took = none_put before after few took
later_put line before after (row ∷ rows) begun few took =
    let first = took.1 in
    let more = later_put line took.0 after rows (some_counted before.count took.0.count first.count) (few_counted before.count took.0.count first.count) took.2 in
    record {
      puts = Puts-then (subst (λ head. Puts before.out took.0.out (head ++ line row)) (head_later before.count begun) first.puts) more.puts;
      counts = more.counts ∙ counted_more before.count took.0.count (length rows) first.count;
    }

-- If a report has no row yet, then its first row is written after the head of the HTTP response.
pub first_put : {T : Type 0} (line : T → List ℕ) (before after : Report) (rows : List T) → before.count ≡ 0
    → TakesAll (λ old row new. PutsLine (line row) old new) before rows after → RowsPut (rows_begun line rows) (length rows) before after
first_put line before after [] none took = none_put before after (omega arith) took
first_put line before after (row ∷ rows) none took =
    let first = took.1 in
    let more = later_put line took.0 after rows (some_counted before.count took.0.count first.count) (few_counted before.count took.0.count first.count) took.2 in
    record {
      puts =
          subst (Puts before.out after.out) (append_assoc text_head (line row) (flat_map line rows))
          (Puts-then (subst (λ count. Puts before.out took.0.out (head_before count ++ line row)) none first.puts) more.puts);
      counts = more.counts ∙ counted_more before.count took.0.count (length rows) first.count;
    }
