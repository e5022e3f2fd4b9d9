-- Lemmas on the audit of `installations`, row by row: its findings and counts after the first rows.
use Rattle.std.proofs.Common.{◌≡◌, ◌↔◌, Bool, true, false, Ok, is_none, IsTrue, ◌+◌, ◌<◌, ◌≤◌, ℕ, suc, List, [], ◌∷◌, ◌++◌, take, length, get_or, Option, Some, None, option_to_list, refl, sym, ap, subst, ◌∙◌, arith}
use Rattle.std.specs.List.{AllByRecursion, cons_option}
use Rattle.std.proofs.lemmas.List.{take_all, take_more, length-map, length-take-le, map-append}
use Rattle.sqlite.specs.Order.{Row, column}
use Rattle.store_tables.specs.Content.{Content}
use Rattle.store_tables.specs.Meters.Rows.{installation_in}
use Rattle.store_tables.specs.declared.meters.rows.InstallationRow.{InstallationRow}
use Rattle.store_tables.proofs.ReadLemmas.{ok_is}
use Rattle.table_audit.specs.declared.differences.TheConstants.{MOST}
use Rattle.table_audit.specs.declared.findings.Counts.{Counts}
use Rattle.table_audit.specs.declared.findings.Findings.{Findings}
use Rattle.table_audit.specs.declared.rows.MeterRows.{MeterRows}
use Rattle.table_audit.specs.declared.spans.MeterSpan.{MeterSpan}
use Rattle.table_audit.specs.Fine.{IsFine}
use Rattle.table_audit.specs.Reading.{name_in}
use Rattle.table_audit.specs.Meters.{IsFineMeter, LookedAt, row_of, IsLookedUp, IsFineAt, AreFineFrom, none_counted, counted, counted_from, span_in, spans_in, ReportsRow, ReportsEach}

-- Lemmas about the audit of rows of `installations`: if the first rows have no fault or are counted
-- or reported correctly, and the next row also, then so are all these rows.

pub all_more : {X : Type 0} (P : X → Type 0) (xs : List X) (x : X) → AllByRecursion P xs → P x → AllByRecursion P (xs ++ x ∷ [])
all_more P [] x all one = (one, tt)
all_more P (y ∷ ys) x all one = (all.0, all_more P ys x all.1 one)

fine_more : (place : ℕ) (xs : List LookedAt) (x : LookedAt) → AreFineFrom place xs → IsFineAt (place + length xs) x.row x.rows
    → AreFineFrom place (xs ++ x ∷ [])
fine_more place [] x fine one =
    let there : place + length (let none : List LookedAt = [] in none) ≡ place = omega arith in
    (subst (λ (n : ℕ). IsFineAt n x.row x.rows) there one, tt)
fine_more place (y ∷ ys) x fine one =
    let there : place + length (y ∷ ys) ≡ suc place + length ys = omega arith in
    (fine.0, fine_more (suc place) ys x fine.1 (subst (λ (n : ℕ). IsFineAt n x.row x.rows) there one))

fine_less : (place : ℕ) (xs : List LookedAt) (x : LookedAt) → AreFineFrom place (xs ++ x ∷ [])
    → AreFineFrom place xs × IsFineAt (place + length xs) x.row x.rows
fine_less place [] x fine =
    let there : place ≡ place + length (let none : List LookedAt = [] in none) = omega arith in
    (tt, subst (λ (n : ℕ). IsFineAt n x.row x.rows) there fine.0)
fine_less place (y ∷ ys) x fine =
    let rest = fine_less (suc place) ys x fine.1 in
    let there : suc place + length ys ≡ place + length (y ∷ ys) = omega arith in
    ((fine.0, rest.0), subst (λ (n : ℕ). IsFineAt n x.row x.rows) there rest.1)

counted_more : (counts : Counts) (xs : List LookedAt) (x : LookedAt) → counted_from counts (xs ++ x ∷ []) ≡ counted x.rows (counted_from counts xs)
counted_more counts [] x = refl
counted_more counts (y ∷ ys) x = counted_more (counted y.rows counts) ys x

-- Lemmas on an audit of the rows of `installations`: its result satisfies the contract
-- `ReportsRows` before the first row, after each further row, and after the last row.

pub none_few : (found : Findings) → found.first.items ≡ [] → length found.first.items ≤ MOST
none_few found none = let long : length found.first.items ≡ 0 = ap length none in omega (arith, long)

pub none_reported : (rows : List Row) (content : Content) (found : Findings) (spans : List MeterSpan) → found.first.items ≡ [] → found.counts ≡ none_counted → spans ≡ []
    → ReportsEach (take 0 rows) content found spans
none_reported rows content found spans none counts empty = record {
  looked = [];
  each = refl;
  theirs = tt;
  reported = (λ _. tt, λ _. none);
  counts = counts;
  spans_are = empty;
}

consed_option : (o : Option MeterSpan) → cons_option o [] ≡ option_to_list o
consed_option None = refl
consed_option (Some span) = refl

consed_list : (o : Option MeterSpan) (ys zs : List MeterSpan) → cons_option o (ys ++ zs) ≡ cons_option o ys ++ zs
consed_list None ys zs = refl
consed_list (Some span) ys zs = refl

spans_more : (xs : List LookedAt) (x : LookedAt) → spans_in (xs ++ x ∷ []) ≡ spans_in xs ++ option_to_list (span_in x.row x.rows)
spans_more [] x = consed_option (span_in x.row x.rows)
spans_more (y ∷ ys) x =
    ap (λ (l : List MeterSpan). cons_option (span_in y.row y.rows) l) (spans_more ys x)
    ∙ consed_list (span_in y.row y.rows) (spans_in ys) (option_to_list (span_in x.row x.rows))

pub one_more_reported : (content : Content) (rows : List Row) (i place : ℕ) (row : Row) (span : Option MeterSpan) (old new : Findings) (before_spans spans : List MeterSpan)
    → i < length rows → row ≡ get_or rows i row → place ≡ i + 1 → ReportsEach (take i rows) content old before_spans → ReportsRow content place row span old new
    → spans ≡ before_spans ++ option_to_list span → ReportsEach (take (i + 1) rows) content new spans
one_more_reported content rows i place row span old new before_spans spans lt is placed before one appended =
    let x : LookedAt = record { row = row; rows = one.rows } in
    let long : length before.looked ≡ i =
    sym (length-map before.looked row_of) ∙ ap (λ (rs : List Row). length rs) before.each ∙ length-take-le i rows (omega (arith, lt)) in
    let there : place ≡ 1 + length before.looked = omega (arith, long, placed) in
    record {
      looked = before.looked ++ x ∷ [];
      each = map-append row_of before.looked (x ∷ []) ∙ ap (λ (rs : List Row). rs ++ row ∷ []) before.each
          ∙ ap (λ (r : Row). take i rows ++ r ∷ []) is ∙ sym (take_more rows i row lt);
      theirs = all_more (IsLookedUp content) before.looked x before.theirs one.theirs;
      reported = (
        λ none.
            let two = one.reported.0 none in
            fine_more 1 before.looked x (before.reported.0 two.0) (subst (λ (n : ℕ). IsFineAt n row one.rows) there two.1),
        λ fine.
            let two = fine_less 1 before.looked x fine in
            one.reported.1 (before.reported.1 two.0, subst (λ (n : ℕ). IsFineAt n row one.rows) (sym there) two.1),
      );
      counts = one.counts ∙ ap (counted one.rows) before.counts ∙ sym (counted_more none_counted before.looked x);
      spans_are = appended ∙ ap (λ (l : List MeterSpan). l ++ option_to_list span) before.spans_are
          ∙ ap (λ o. spans_in before.looked ++ option_to_list o) one.span_is ∙ sym (spans_more before.looked x);
    }

-- Lemma on a row of `installations` with the expected index and a register's name: its meter is
-- fine if and only if the meter's other rows are.
pub fine_meter : (place : ℕ) (row : Row) (rows : MeterRows) (installed : InstallationRow) (register : Option (List ℕ)) (fine placed : Bool)
    → installation_in row ≡ Ok installed → register ≡ name_in (column row 2) → is_none register ≡ false
    → IsTrue placed ↔ (installed.place ≡ place) → placed ≡ true → IsTrue fine ↔ IsFine installed rows → IsTrue fine ↔ IsFineMeter place row rows
fine_meter place row rows installed None fine placed read named some there is same = absurd (let f : true ≡ false = some in cc)
fine_meter place row rows installed (Some register) fine placed read named some there is same = (
  λ f. record { installation = installed; read = read; placed = there.0 is; register = register; register_named = sym named; fine = same.0 f },
  λ (h : IsFineMeter place row rows).
      let both : Ok h.installation ≡ Ok installed = sym h.read ∙ read in
      same.1 (subst (λ (i : InstallationRow). IsFine i rows) (ok_is both) h.fine),
)
