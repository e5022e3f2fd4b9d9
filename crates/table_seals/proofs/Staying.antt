-- Lemmas that the digested text of a meter's earlier entries is unchanged after later lines are
-- added to its journal (its history).
use Rattle.std.proofs.Common.{◌≡◌, ℕ, ◌==◌, Bool, true, false, not, ◌&&◌, ◌||◌, List, [], ◌∷◌, ◌++◌, map, reverse, take, length, ◌+◌, Some, None, append_assoc, refl, sym, ap, subst, ◌∙◌, inl, inr}
use Rattle.std.specs.Prelude.{ℤ}
use Rattle.std.specs.List.{flat_map, list_any}
use Rattle.std.proofs.lemmas.Bool.{cases_Bool, cond-true, cond-false}
use Rattle.std.proofs.lemmas.List.{reverse-append, map-append, length-map, take-map}
use Rattle.std.proofs.lemmas.List.Folds.{list_any-append, flat_map-map}
use Rattle.std.proofs.Math.Seq.{take-append_seam}
use Rattle.energy_core.specs.declared.entries.Entry.{Entry}
use Rattle.energy_core.specs.declared.entries.Entry.TheVariants.{Step, Change}
use Rattle.energy_core.specs.declared.entries.Last.{Last}
use Rattle.energy_core.specs.Account.{after, last_of}
use Rattle.meter_journal.specs.declared.lines.EntryKind.{EntryKind}
use Rattle.meter_journal.specs.declared.lines.EntryKind.TheVariants as kind
use Rattle.meter_journal.specs.declared.lines.EntryRow.{EntryRow}
use Rattle.meter_journal.specs.declared.lines.Installed.{Installed}
use Rattle.meter_journal.specs.Books.{last_after}
use Rattle.meter_journal.specs.Fitting.{AreFitting, is_free}
use Rattle.meter_journal.specs.Journal.{Entered, Held, Voided, Journal, Around, is_reading, is_read, entries_in, with_rolls, rolled, struck, with_void, rows_of, passed, row_at}
use Rattle.meter_journal.proofs.Keeping.{entries_standing, entries_struck, mapped_some, above, all_three}
use Rattle.meter_journal.specs.declared.audit.rows.TableRow.{TableRow}
use Rattle.meter_journal.specs.Audit.Rows.{scale_after, table_row, opening_row, later_rows, table_rows}
use Rattle.table_seals.specs.Laws.{entries_by, is_voided_at, FirstEntriesStay, VoidsStay}
use Rattle.table_seals.specs.Texts.{entry_line, entries_text}

-- Lemmas on the scale factor of a meter's counter after an entry of the meter.

sf_after : (stands : Bool) → Entry → ℤ → ℤ
sf_after false e sf = sf
sf_after true (Step at raw rolls) sf = sf
sf_after true (Change at before new scale) sf = scale

after_sf : (last : Last) (e : Entry) → (after last e).sf ≡ sf_after true e last.sf
unfolding sf_after
after_sf last (Step at raw rolls) = refl
after_sf last (Change at before new scale) = refl

none_after : (e : Entry) (sf : ℤ) → sf_after false e sf ≡ sf
unfolding sf_after
none_after e sf = refl

scale_more : (meter : Installed) (row : EntryRow) (rows : List EntryRow)
    → scale_after meter (row ∷ rows) ≡ sf_after row.stands row.entry (scale_after meter rows)
scale_more meter row rows =
    elim (cases_Bool row.stands) [
      | inl is ↦
          ap (λ es. (last_after meter es).sf) (entries_standing row rows is) ∙ after_sf (last_after meter (entries_in rows)) row.entry
          ∙ sym (ap (λ b. sf_after b row.entry (scale_after meter rows)) is)
      | inr is ↦
          ap (λ es. (last_after meter es).sf) (entries_struck row rows is) ∙ sym (none_after row.entry (scale_after meter rows))
          ∙ sym (ap (λ b. sf_after b row.entry (scale_after meter rows)) is)
    ]

-- After a reading, the scale factor of the meter's counter is the same as before the reading.
read_leaves : (k : EntryKind) (e : Entry) (stands : Bool) (sf : ℤ) → is_read k e ≡ true → sf_after stands e sf ≡ sf
unfolding sf_after
read_leaves k e false sf read = refl
read_leaves kind.Reading (Step at raw rolls) true sf read = refl
read_leaves kind.Reading (Change at before new scale) true sf read = absurd (cc)
read_leaves kind.Manual e true sf read = absurd (cc)
read_leaves kind.Closing e true sf read = absurd (cc)
read_leaves kind.Reset e true sf read = absurd (cc)
read_leaves kind.Rescale e true sf read = absurd (cc)

rolls_leave : (last : Last) (e : Entry) (stands : Bool) (sf : ℤ) → sf_after stands (with_rolls last e) sf ≡ sf_after stands e sf
unfolding sf_after
rolls_leave last e false sf = refl
rolls_leave last (Step at raw rolls) true sf = refl
rolls_leave last (Change at before new scale) true sf = refl

-- Lemmas on the digested line of an entry, the line that is part of the text that a seal digests.

-- The line of a meter's entry in the text that a seal digests. For a reading, the line omits the
-- number of counter rollovers.
line_of : (sf : ℤ) (place : ℕ) (k : EntryKind) (e : Entry) (stands : Bool) → List ℕ
line_of sf place k e stands = entry_line (table_row sf (record { place = place; kind = k; entry = e; stands = stands }))

reading_line : (sf : ℤ) (place : ℕ) (k : EntryKind) (last : Last) (e : Entry) (stands : Bool) → is_reading k ≡ true
    → line_of sf place k (with_rolls last e) stands ≡ line_of sf place k e stands
unfolding line_of
reading_line sf place kind.Reading last (Step at raw rolls) stands h = refl
reading_line sf place kind.Reading last (Change at before new scale) stands h = refl
reading_line sf place kind.Manual last e stands h = absurd (cc)
reading_line sf place kind.Closing last e stands h = absurd (cc)
reading_line sf place kind.Reset last e stands h = absurd (cc)
reading_line sf place kind.Rescale last e stands h = absurd (cc)

second_true : (a b : Bool) → a && b ≡ true → b ≡ true
second_true true b h = h
second_true false b h = absurd (cc)

-- States that two entries of a meter have equal lines in the text that a seal digests, and leave
-- the same scale factor for later entries.
record ReportsSame (row next : EntryRow) : Type 0 where
  line : (sf : ℤ) → entry_line (table_row sf next) ≡ entry_line (table_row sf row)
  scale : (sf : ℤ) → sf_after next.stands next.entry sf ≡ sf_after row.stands row.entry sf
  place : next.place ≡ row.place
  stands : next.stands ≡ row.stands

rolled_same : (last : Last) (row : EntryRow) → ReportsSame row (rolled last row)
unfolding line_of
rolled_same last row =
    elim (cases_Bool (row.stands && is_reading row.kind)) [
      | inl e ↦
          let made : rolled last row ≡ (let r : EntryRow = record row { entry = with_rolls last row.entry } in r) = cond-true _ _ _ e in
          subst (ReportsSame row) (sym made) (record {
            line = λ sf. reading_line sf row.place row.kind last row.entry row.stands (second_true row.stands (is_reading row.kind) e);
            scale = λ sf. rolls_leave last row.entry row.stands sf;
            place = refl;
            stands = refl;
          })
      | inr e ↦
          let made : rolled last row ≡ row = cond-false _ _ _ e in
          subst (ReportsSame row) (sym made) (record { line = λ sf. refl; scale = λ sf. refl; place = refl; stands = refl })
    ]

-- Lemmas that further entries and voids (cancellations) leave the digested lines of a meter's
-- earlier entries unchanged. The list of these lines begins with the latest entry.

abbrev pub lines_of : Installed → List EntryRow → List (List ℕ)
lines_of meter rows = map entry_line (later_rows meter rows)

-- States that a seal digests equal lines for two lists of entry rows, and that both lists leave the
-- same scale factor for later entries.
record SameLines (meter : Installed) (rows next : List EntryRow) : Type 0 where
  lines : lines_of meter next ≡ lines_of meter rows
  scale : scale_after meter next ≡ scale_after meter rows

line_more : (meter : Installed) (row : EntryRow) (rows : List EntryRow)
    → lines_of meter (row ∷ rows) ≡ entry_line (table_row (sf_after row.stands row.entry (scale_after meter rows)) row) ∷ lines_of meter rows
line_more meter row rows = ap (λ sf. entry_line (table_row sf row) ∷ lines_of meter rows) (scale_more meter row rows)

void_lines : (meter : Installed) (named : ℕ) (rows : List EntryRow) (a : Around) → row_at named rows ≡ Some a
    → is_read a.row.kind a.row.entry ≡ true → SameLines meter rows (with_void meter.opening named rows)
void_lines meter named [] a there read = absurd (cc)
void_lines meter named (row ∷ rows) a there read =
    elim (cases_Bool (row.place == named)) [
      | inl at ↦
          let found : Some (let x : Around = record { before = rows; row = row; next = None } in x) ≡ Some a = sym (cond-true _ _ _ at) ∙ there in
          let reads : is_read row.kind row.entry ≡ true = let is : row ≡ a.row = cc in subst (λ (r : EntryRow). is_read r.kind r.entry ≡ true) (sym is) read in
          let made : with_void meter.opening named (row ∷ rows) ≡ struck row ∷ rows = cond-true _ _ _ at in
          let old : scale_after meter (row ∷ rows) ≡ scale_after meter rows =
          scale_more meter row rows ∙ read_leaves row.kind row.entry row.stands (scale_after meter rows) reads in
          let new : scale_after meter (struck row ∷ rows) ≡ scale_after meter rows =
          scale_more meter (struck row) rows ∙ none_after row.entry (scale_after meter rows) in
          subst (SameLines meter (row ∷ rows)) (sym made) (record {
            lines = ap (λ sf. entry_line (table_row sf row) ∷ lines_of meter rows) (new ∙ sym old);
            scale = new ∙ sym old;
          })
      | inr off ↦
          let found = mapped_some (passed row) (row_at named rows) a (sym (cond-false _ _ _ off) ∙ there) in
          let x : Around = found.0 in
          let is : passed row x ≡ a = found.2 in
          let read_x : is_read x.row.kind x.row.entry ≡ true = ap (λ (y : Around). is_read y.row.kind y.row.entry) is ∙ read in
          let rest : List EntryRow = with_void meter.opening named rows in
          let below : SameLines meter rows rest = void_lines meter named rows x found.1 read_x in
          let next : EntryRow = rolled (last_of meter.opening (entries_in rest)) row in
          let reports : ReportsSame row next = rolled_same (last_of meter.opening (entries_in rest)) row in
          let scale : sf_after next.stands next.entry (scale_after meter rest) ≡ sf_after row.stands row.entry (scale_after meter rows) =
          reports.scale (scale_after meter rest) ∙ ap (sf_after row.stands row.entry) below.scale in
          subst (SameLines meter (row ∷ rows)) (sym (above meter.opening named row rows off)) (record {
            lines = line_more meter next rest ∙ ap (λ sf. entry_line (table_row sf next) ∷ lines_of meter rest) scale
                ∙ ap (λ ls. entry_line (table_row (sf_after row.stands row.entry (scale_after meter rows)) next) ∷ ls) below.lines
                ∙ ap (λ l. l ∷ lines_of meter rows) (reports.line (sf_after row.stands row.entry (scale_after meter rows)))
                ∙ sym (line_more meter row rows);
            scale = scale_more meter next rest ∙ scale ∙ sym (scale_more meter row rows);
          })
    ]

more_lines : (meter : Installed) (more lines : Journal) → AreFitting meter (more ++ lines)
    → (newer : List (List ℕ)) × (lines_of meter (rows_of meter.opening (more ++ lines)) ≡ newer ++ lines_of meter (rows_of meter.opening lines))
more_lines meter [] lines h = ([], refl)
more_lines meter (Entered k e ∷ more) lines h =
    let rest = more_lines meter more lines h.1 in
    let rows : List EntryRow = rows_of meter.opening (more ++ lines) in
    let row : EntryRow = record { place = length rows + 2; kind = k; entry = e; stands = true } in
    let line : List ℕ = entry_line (table_row (scale_after meter (row ∷ rows)) row) in
    (line ∷ rest.0, ap (λ ls. line ∷ ls) rest.1)
more_lines meter (Held reading cause ∷ more) lines h = more_lines meter more lines h.1
more_lines meter (Voided named ∷ more) lines h =
    let rest = more_lines meter more lines h.1 in
    let around : Around = h.0.around in
    let may = all_three around.row.stands (is_read around.row.kind around.row.entry) (is_free around.next) h.0.voidable in
    (rest.0, (void_lines meter named (rows_of meter.opening (more ++ lines)) around h.0.there may.1).lines ∙ rest.1)

-- Lemmas on the text of a meter's entries that a seal digests: the line of the opening (the first
-- entry), then the lines of the later entries in their order.

map_reverse : {A B : Type 0} (f : A → B) (xs : List A) → map f (reverse xs) ≡ reverse (map f xs)
map_reverse f [] = refl
map_reverse f (x ∷ xs) =
    ap (λ ys. map f ys) (reverse-append (x ∷ []) xs) ∙ map-append f (reverse xs) (x ∷ [])
    ∙ ap (λ ys. ys ++ f x ∷ []) (map_reverse f xs) ∙ sym (reverse-append (f x ∷ []) (map f xs))

entry_lines : (meter : Installed) (lines : Journal)
    → map entry_line (entries_by meter lines)
    ≡ reverse (lines_of meter (rows_of meter.opening lines) ++ entry_line (opening_row meter.opening) ∷ [])
entry_lines meter lines =
    map_reverse entry_line (table_rows meter (rows_of meter.opening lines))
    ∙ ap (λ ls. reverse ls) (map-append entry_line (later_rows meter (rows_of meter.opening lines)) (opening_row meter.opening ∷ []))

begins_so : (meter : Installed) (more lines : Journal) → AreFitting meter (more ++ lines)
    → (newer : List (List ℕ)) × (map entry_line (entries_by meter (more ++ lines)) ≡ map entry_line (entries_by meter lines) ++ newer)
begins_so meter more lines h =
    let all = more_lines meter more lines h in
    let first : List ℕ = entry_line (opening_row meter.opening) in
    let old : List (List ℕ) = lines_of meter (rows_of meter.opening lines) in (
      reverse all.0,
      entry_lines meter (more ++ lines) ∙ ap (λ ls. reverse (ls ++ first ∷ [])) all.1
          ∙ ap (λ (ls : List (List ℕ)). reverse ls) (append_assoc all.0 old (first ∷ [])) ∙ reverse-append all.0 (old ++ first ∷ [])
          ∙ ap (λ ls. ls ++ reverse all.0) (sym (entry_lines meter lines)),
    )

-- If two lists of entries have equal digested lines, then the lists have equal digested texts.
same_text : (xs ys : List TableRow) → map entry_line xs ≡ map entry_line ys → entries_text xs ≡ entries_text ys
same_text xs ys same =
    sym (flat_map-map (λ (l : List ℕ). l) entry_line xs) ∙ ap (λ ls. flat_map (λ (l : List ℕ). l) ls) same
    ∙ flat_map-map (λ (l : List ℕ). l) entry_line ys

pub first_entries : FirstEntriesStay
first_entries meter more lines well h =
    let all = begins_so meter more lines h in
    let old : List TableRow = entries_by meter lines in
    let now : List TableRow = entries_by meter (more ++ lines) in
    let many : length (map entry_line old) ≡ length old = length-map old entry_line in
    same_text (take (length old) now) old
    (sym (take-map entry_line (length old) now) ∙ ap (λ n. take n (map entry_line now)) (sym many)
    ∙ ap (λ ls. take (length (map entry_line old)) ls) all.1 ∙ take-append_seam (map entry_line old) all.0)

-- Lemmas that a voided (cancelled) entry is still voided after lines are added to the meter's
-- journal (its history).

or_keeps : (a b c d : Bool) → (a ≡ true → c ≡ true) → (b ≡ true → d ≡ true) → (a || b) ≡ true → (c || d) ≡ true
or_keeps a b true d f g h = refl
or_keeps true b false d f g h = absurd (let no : false ≡ true = f refl in cc)
or_keeps false b false d f g h = g h

abbrev at_place : ℕ → TableRow → Bool
at_place place entry = (entry.place == place) && entry.is_voided

-- Whether a list of entry rows has a voided (cancelled) entry at the index `place`.
abbrev struck_at : ℕ → List EntryRow → Bool
struck_at place rows = list_any (λ row. (row.place == place) && not row.stands) rows

later_struck : (meter : Installed) (place : ℕ) (rows : List EntryRow) → list_any (at_place place) (later_rows meter rows) ≡ struck_at place rows
later_struck meter place [] = refl
later_struck meter place (row ∷ rows) = ap (λ b. ((row.place == place) && not row.stands) || b) (later_struck meter place rows)

any_reversed : (p : TableRow → Bool) (xs : List TableRow) → list_any p (reverse xs) ≡ list_any p xs
any_reversed p [] = refl
any_reversed p (x ∷ xs) =
    ap (list_any p) (reverse-append (x ∷ []) xs) ∙ list_any-append p (reverse xs) (x ∷ [])
    ∙ ap (λ b. b || (p x || false)) (any_reversed p xs) ∙ swapped (list_any p xs) (p x)
  where
    swapped : (a b : Bool) → (a || (b || false)) ≡ (b || a)
    swapped true true = refl
    swapped true false = refl
    swapped false true = refl
    swapped false false = refl

voided_by : (meter : Installed) (place : ℕ) (lines : Journal)
    → is_voided_at place (entries_by meter lines) ≡ (struck_at place (rows_of meter.opening lines) || (at_place place (opening_row meter.opening) || false))
voided_by meter place lines =
    any_reversed (at_place place) (table_rows meter (rows_of meter.opening lines))
    ∙ list_any-append (at_place place) (later_rows meter (rows_of meter.opening lines)) (opening_row meter.opening ∷ [])
    ∙ ap (λ b. b || (at_place place (opening_row meter.opening) || false)) (later_struck meter place (rows_of meter.opening lines))

struck_place : (b c : Bool) → b && c ≡ true → b && true ≡ true
struck_place true c h = refl
struck_place false c h = h

void_keeps : (opening : Last) (place named : ℕ) (rows : List EntryRow) → struck_at place rows ≡ true → struck_at place (with_void opening named rows) ≡ true
void_keeps opening place named [] h = h
void_keeps opening place named (row ∷ rows) h =
    elim (cases_Bool (row.place == named)) [
      | inl at ↦
          let made : with_void opening named (row ∷ rows) ≡ struck row ∷ rows = cond-true _ _ _ at in
          ap (struck_at place) made
          ∙ or_keeps ((row.place == place) && not row.stands) (struck_at place rows) ((row.place == place) && true) (struck_at place rows)
          (struck_place (row.place == place) (not row.stands)) (λ s. s) h
      | inr off ↦
          let rest : List EntryRow = with_void opening named rows in
          let next : EntryRow = rolled (last_of opening (entries_in rest)) row in
          let reports : ReportsSame row next = rolled_same (last_of opening (entries_in rest)) row in
          let head : ((next.place == place) && not next.stands) ≡ ((row.place == place) && not row.stands) =
          ap (λ n. (n == place) && not next.stands) reports.place ∙ ap (λ s. (row.place == place) && not s) reports.stands in
          ap (struck_at place) (above opening named row rows off)
          ∙ or_keeps ((row.place == place) && not row.stands) (struck_at place rows) ((next.place == place) && not next.stands) (struck_at place rest)
          (λ s. head ∙ s) (λ s. void_keeps opening place named rows s) h
    ]

or_right : (a b : Bool) → b ≡ true → (a || b) ≡ true
or_right true b h = refl
or_right false b h = h

struck_stays : (meter : Installed) (place : ℕ) (more lines : Journal) → struck_at place (rows_of meter.opening lines) ≡ true
    → struck_at place (rows_of meter.opening (more ++ lines)) ≡ true
struck_stays meter place [] lines h = h
struck_stays meter place (Entered k e ∷ more) lines h =
    let rows : List EntryRow = rows_of meter.opening (more ++ lines) in
    or_right ((length rows + 2 == place) && false) (struck_at place rows) (struck_stays meter place more lines h)
struck_stays meter place (Held reading cause ∷ more) lines h = struck_stays meter place more lines h
struck_stays meter place (Voided named ∷ more) lines h =
    void_keeps meter.opening place named (rows_of meter.opening (more ++ lines)) (struck_stays meter place more lines h)

pub voids_stay : VoidsStay
voids_stay meter more lines well h place voided =
    let opened : Bool = at_place place (opening_row meter.opening) || false in
    voided_by meter place (more ++ lines)
    ∙ or_keeps (struck_at place (rows_of meter.opening lines)) opened (struck_at place (rows_of meter.opening (more ++ lines))) opened
    (λ s. struck_stays meter place more lines s) (λ s. s) (sym (voided_by meter place lines) ∙ voided)
