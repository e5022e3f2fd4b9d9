-- Lemmas: a meter's rows follow from a history that the rules for meter entries accept if and only
-- if these rows agree with the result of checking all the meter's entries.
use Rattle.std.proofs.Common.{◌≡◌, ℕ, ◌+◌, ◌-◌, ◌<◌, List, [], ◌∷◌, ◌++◌, reverse, take, drop, length, get_or, Option, Some, None, MatchOption, Err, refl, sym, ap, subst, ◌∙◌, arith}
use Rattle.std.proofs.lemmas.List.{reverse-append, take_all, take-append-drop, append_cancel_right}
use Rattle.energy_core.specs.declared.entries.Last.{Last}
use Rattle.interval_core.specs.declared.shares.Share.{Share}
use Rattle.meter_journal.specs.declared.lines.Installed.{Installed}
use Rattle.meter_journal.specs.declared.lines.EntryRow.{EntryRow}
use Rattle.meter_journal.specs.declared.audit.faults.RowFault.{RowFault}
use Rattle.meter_journal.specs.declared.audit.progress.Progress.{Progress}
use Rattle.meter_journal.specs.declared.audit.rows.TableRow.{TableRow}
use Rattle.meter_journal.specs.Audit.Rows.{opening_row, later_rows}
use Rattle.meter_journal.specs.Audit.Fitting.{AreReported, Tables, AreFine}
use Rattle.meter_journal.specs.Audit.Passing.{MayBeChecked, passed}
use Rattle.meter_journal.specs.Audit.Going.{HasGone, GoesOver, Agrees, FinishedIsFine, RefusedIsNotFine}
use Rattle.meter_journal.proofs.AuditLemmas.Apart.{same_head, reported_more}
use Rattle.store_tables.specs.declared.meters.rows.InstallationRow.{InstallationRow}
use Rattle.table_audit.specs.declared.rows.VoidRow.{VoidRow}
use Rattle.table_audit.specs.Lawful.{last_shown, IsOpenedBy, tables_from, IsLawful, RestAgrees}

-- Lemmas on splitting the list of a meter's entry rows at an index.

pub gone_more : (meter : Installed) (rows : List TableRow) (i : ℕ) (d : TableRow) (new : Progress) → i < length rows
    → HasGone meter (get_or rows i d ∷ reverse (take i rows)) [] new → HasGone meter (reverse (take (i + 1) rows)) [] new
gone_more meter rows i d new lt gone = subst (λ (reported : List TableRow). HasGone meter reported [] new) (sym (reported_more rows i d lt)) gone

-- Let `i` be the index of a row in a list. The reversed list is the reversed later rows, row `i`
-- and the reversed earlier rows.
split_at : (rows : List TableRow) (i : ℕ) (d : TableRow) → i < length rows
    → reverse rows ≡ reverse (drop (i + 1) rows) ++ get_or rows i d ∷ reverse (take i rows)
split_at rows i d lt =
    ap (λ (rs : List TableRow). reverse rs) (sym (take-append-drop (i + 1) rows)) ∙ reverse-append (take (i + 1) rows) (drop (i + 1) rows)
    ∙ ap (λ (rs : List TableRow). reverse (drop (i + 1) rows) ++ rs) (reported_more rows i d lt)

pub refused_there : RefusedIsNotFine → (meter : Installed) (rows : List TableRow) (i : ℕ) (d : TableRow) (progress : Progress) (fault : RowFault)
    → MayBeChecked meter → i < length rows → HasGone meter (reverse (take i rows)) [] progress
    → passed meter progress.check (get_or rows i d) ≡ Err fault → AreReported meter (reverse rows) → ⊥
refused_there law meter rows i d progress fault may lt gone refused reported =
    law meter (reverse (take i rows)) (reverse (drop (i + 1) rows)) [] progress (get_or rows i d) fault may.installed gone refused
    (subst (AreReported meter) (split_at rows i d lt) reported)

pub refused_so : RefusedIsNotFine → (meter : Installed) (rows : List TableRow) (i : ℕ) (d : TableRow) (old new : Progress) (o : Option RowFault)
    (fault : RowFault) → MayBeChecked meter → i < length rows → HasGone meter (reverse (take i rows)) [] old
    → o ≡ Some fault → GoesOver meter old (get_or rows i d) new o → AreReported meter (reverse rows) → ⊥
refused_so law meter rows i d old new o fault may lt gone is goes =
    refused_there law meter rows i d old fault may lt gone (subst (GoesOver meter old (get_or rows i d) new) is goes)

-- After its first row is removed, a list has as many rows as the list's original length minus 1.
pub all_later : (rows : List TableRow) → take (length rows - 1) (drop 1 rows) ≡ drop 1 rows
all_later [] = refl
all_later (row ∷ rows) = take_all (length (row ∷ rows) - 1) rows (omega (arith))

pub where_some : {A : Type 0} (P : Type 0) (Q : A → Type 0) (o : Option A) (a : A) → o ≡ Some a → MatchOption o P Q → Q a
where_some P Q o a is h = subst (λ q. MatchOption q P Q) is h

pub where_none : {A : Type 0} (P : Type 0) (Q : A → Type 0) (o : Option A) → o ≡ None → MatchOption o P Q → P
where_none P Q o is h = subst (λ q. MatchOption q P Q) is h

-- Lemmas: a meter is determined by its opening row (first entry), counter range and ceiling
-- (greatest power). A meter's rows are valid only if they begin with its opening.

abbrev meter_with : (range ceiling : ℕ) → Last → Installed
meter_with range ceiling opening = record { range = range; ceiling = ceiling; opening = opening }

pub shows_itself : (row : TableRow) (last : Last) → row ≡ opening_row last → row ≡ opening_row (last_shown row)
shows_itself row last is = let same : last_shown row ≡ last = ap last_shown is in is ∙ ap opening_row (sym same)

-- If two meters have the same opening row (first entry), counter range and ceiling (greatest
-- power), then the two meters are equal.
pub same_meter : (range ceiling : ℕ) (row : TableRow) (m n : Installed) → IsOpenedBy range ceiling row m → IsOpenedBy range ceiling row n → m ≡ n
same_meter range ceiling row m n h g =
    let opening : m.opening ≡ n.opening = ap last_shown (sym h.opening_is ∙ g.opening_is) in
    ap (λ r. meter_with r m.ceiling m.opening) (h.range_is ∙ sym g.range_is)
    ∙ ap (λ c. meter_with n.range c m.opening) (h.ceiling_is ∙ sym g.ceiling_is)
    ∙ ap (λ l. meter_with n.range n.ceiling l) opening

opening_last : (entries : List TableRow) (opening : TableRow) (later : List TableRow) (last : Last) → entries ≡ opening ∷ later
    → opening ≡ opening_row last → reverse entries ≡ reverse later ++ opening_row last ∷ []
opening_last entries opening later last first is =
    ap (λ (rs : List TableRow). reverse rs) first ∙ reverse-append (opening ∷ []) later
    ∙ ap (λ (r : TableRow). reverse later ++ r ∷ []) is

-- States that a meter's rows are those that the program would write for its entries. The entries
-- are the meter's opening (the first entry) and the entries `later`.
record HasOpened (range : ℕ) (row : InstallationRow) (voids : List VoidRow) (entries : List TableRow) (shares : List Share) (meter : Installed)
    (later : List TableRow) : Type 0 where
  fine : AreFine meter (tables_from entries shares row)
  reported : reverse entries ≡ reverse later ++ opening_row meter.opening ∷ []

has_opened : (range : ℕ) (row : InstallationRow) (voids : List VoidRow) (entries : List TableRow) (shares : List Share) (meter : Installed)
    (opening : TableRow) (later : List TableRow) → entries ≡ opening ∷ later → IsOpenedBy range row.ceiling opening meter
    → IsLawful range row voids entries shares → HasOpened range row voids entries shares meter later
has_opened range row voids entries shares meter opening later first opened lawful =
    let both : opening ∷ later ≡ lawful.opening ∷ lawful.later = sym first ∙ lawful.first in
    let head : opening ≡ lawful.opening = same_head opening lawful.opening later lawful.later both in
    let by : IsOpenedBy range row.ceiling opening lawful.meter = subst (λ (r : TableRow). IsOpenedBy range row.ceiling r lawful.meter) (sym head) lawful.opened in
    let same : lawful.meter ≡ meter = same_meter range row.ceiling opening lawful.meter meter by opened in
    record {
      fine = subst (λ (m : Installed). AreFine m (tables_from entries shares row)) same lawful.fine;
      reported = opening_last entries opening later meter.opening first opened.opening_is;
    }

pub not_opened : (range : ℕ) (row : InstallationRow) (voids : List VoidRow) (entries : List TableRow) (shares : List Share)
    (opening : TableRow) (later : List TableRow) → entries ≡ opening ∷ later
    → ((meter : Installed) → MayBeChecked meter → IsOpenedBy range row.ceiling opening meter → ⊥)
    → IsLawful range row voids entries shares → ⊥
not_opened range row voids entries shares opening later first none lawful =
    let both : lawful.opening ∷ lawful.later ≡ opening ∷ later = sym lawful.first ∙ first in
    let head : lawful.opening ≡ opening = same_head lawful.opening opening lawful.later later both in
    none lawful.meter lawful.may (subst (λ (r : TableRow). IsOpenedBy range row.ceiling r lawful.meter) head lawful.opened)

pub no_entry : (range : ℕ) (row : InstallationRow) (voids : List VoidRow) (entries : List TableRow) (shares : List Share)
    → entries ≡ [] → IsLawful range row voids entries shares → ⊥
no_entry range row voids entries shares none lawful =
    let both : [] ≡ lawful.opening ∷ lawful.later = sym none ∙ lawful.first in absurd (cc)

-- Suppose that no history that the rules for meter entries accept has a meter's entries after the
-- opening (the first entry). Then the rules do not accept the meter's rows either.
pub not_reported : (range : ℕ) (row : InstallationRow) (voids : List VoidRow) (entries : List TableRow) (shares : List Share) (meter : Installed)
    (opening : TableRow) (later : List TableRow) → entries ≡ opening ∷ later → IsOpenedBy range row.ceiling opening meter
    → (AreReported meter (reverse later) → ⊥) → IsLawful range row voids entries shares → ⊥
not_reported range row voids entries shares meter opening later first opened none lawful =
    let h = has_opened range row voids entries shares meter opening later first opened lawful in
    let rows : List EntryRow = h.fine.rows in
    let both : reverse later ++ opening_row meter.opening ∷ [] ≡ later_rows meter rows ++ opening_row meter.opening ∷ [] =
    sym h.reported ∙ ap (λ (t : Tables). t.entries) h.fine.are in
    none (record {
      rows = rows;
      fit = h.fine.fit;
      reported_is = append_cancel_right (reverse later) (later_rows meter rows) (opening_row meter.opening ∷ []) both;
    })

-- Lemmas that a meter's rows agree with the result of checking all its entries if and only if they
-- follow from a history that the rules for meter entries accept.

pub rest_is_lawful : FinishedIsFine → (range : ℕ) (row : InstallationRow) (voids : List VoidRow) (entries : List TableRow) (shares : List Share)
    (meter : Installed) (opening : TableRow) (later : List TableRow) (progress : Progress)
    → entries ≡ opening ∷ later → MayBeChecked meter → IsOpenedBy range row.ceiling opening meter
    → HasGone meter (reverse later) [] progress → RestAgrees progress row voids entries shares
    → IsLawful range row voids entries shares
rest_is_lawful law range row voids entries shares meter opening later progress first may opened gone agrees =
    let tables : Tables = tables_from entries shares row in
    let reported : tables.entries ≡ reverse later ++ opening_row meter.opening ∷ [] =
    opening_last entries opening later meter.opening first opened.opening_is in
    record {
      opening = opening;
      later = later;
      first = first;
      meter = meter;
      may = may;
      opened = opened;
      fine = (law meter (reverse later) [] progress tables gone reported).1 (record {
        intervals = agrees.intervals;
        last = agrees.stands.last;
        total = agrees.stands.total;
        ended = agrees.stands.ended;
      });
      named = agrees.named;
      timely = agrees.timely;
    }

pub lawful_rest : FinishedIsFine → (range : ℕ) (row : InstallationRow) (voids : List VoidRow) (entries : List TableRow) (shares : List Share)
    (meter : Installed) (opening : TableRow) (later : List TableRow) (progress : Progress)
    → entries ≡ opening ∷ later → IsOpenedBy range row.ceiling opening meter
    → HasGone meter (reverse later) [] progress → IsLawful range row voids entries shares
    → RestAgrees progress row voids entries shares
lawful_rest law range row voids entries shares meter opening later progress first opened gone lawful =
    let tables : Tables = tables_from entries shares row in
    let h = has_opened range row voids entries shares meter opening later first opened lawful in
    let agrees : Agrees tables [] progress = (law meter (reverse later) [] progress tables gone h.reported).0 h.fine in
    record {
      named = lawful.named;
      timely = lawful.timely;
      intervals = agrees.intervals;
      stands = record { last = agrees.last; total = agrees.total; ended = agrees.ended };
    }
