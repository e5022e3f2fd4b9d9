-- Lemmas about voids (cancellations of entries) that were recorded after the seal of a meter. A
-- seal has digests of earlier records.
use Rattle.std.proofs.Common.{◌≡◌, ℕ, ◌+◌, ◌<◌, List, [], ◌∷◌, ◌++◌, take, length, get_or, Result, Ok, refl, sym, ap, subst, ◌∙◌}
use Rattle.std.proofs.lemmas.List.{take_more}
use Rattle.interval_core.specs.declared.zone.Zone.{Zone}
use Rattle.meter_journal.specs.declared.audit.rows.TableRow.{TableRow}
use Rattle.energy_core.specs.declared.limits.TheConstants.{MAX_SHOWN}
use Rattle.sqlite.specs.Order.{Row, column}
use Rattle.store_tables.specs.declared.faults.RowFault.{RowFault}
use Rattle.store_tables.specs.Columns.{whole_in, within, or_damaged, and_then}
use Rattle.store_tables.specs.Limits.{greatest_place, latest_moment}
use Rattle.store_tables.proofs.ReadLemmas.{ok_is, then_read}
use Rattle.table_audit.specs.declared.rows.MeterRows.{MeterRows}
use Rattle.table_audit.specs.declared.rows.VoidRow.{VoidRow}
use Rattle.table_audit.specs.Reading.{kind_in, is_named, entry_in, all_in}
use Rattle.table_seals.specs.declared.notes.VoidNote.{VoidNote}
use Rattle.table_seals.specs.Months.{HasMonths}
use Rattle.table_seals.specs.Notes.{IsNoteOf, AreNotesOf, IsUnlawful}
use Rattle.table_seals.specs.Sealed.{Sealed, SealedMonth}
use Rattle.table_seals.specs.Tables.{HasRead}

-- Lemmas for a loop over voids: the notes on the first voids, and then the note on the next one.

notes_more : (zone : Zone) (sealed : List TableRow) (voids : List VoidRow) (notes : List VoidNote) (void : VoidRow) (note : VoidNote)
    → AreNotesOf zone sealed voids notes → IsNoteOf zone sealed void note → AreNotesOf zone sealed (voids ++ void ∷ []) (notes ++ note ∷ [])
notes_more zone sealed [] [] void note h one = (one, tt)
notes_more zone sealed (v ∷ voids) (n ∷ notes) void note h one = (h.0, notes_more zone sealed voids notes void note h.1 one)
notes_more zone sealed [] (n ∷ notes) void note h one = absurd h
notes_more zone sealed (v ∷ voids) [] void note h one = absurd h

pub next_noted : (zone : Zone) (sealed : List TableRow) (voids : List VoidRow) (i : ℕ) (d : VoidRow) (notes next : List VoidNote) (note : VoidNote)
    → i < length voids → next ≡ notes ++ note ∷ [] → AreNotesOf zone sealed (take i voids) notes → IsNoteOf zone sealed (get_or voids i d) note
    → AreNotesOf zone sealed (take (i + 1) voids) next
next_noted zone sealed voids i d notes next note lt put before one =
    subst (λ (vs : List VoidRow). AreNotesOf zone sealed vs next) (sym (take_more voids i d lt))
    (subst (λ (ns : List VoidNote). AreNotesOf zone sealed (take i voids ++ get_or voids i d ∷ []) ns) (sym put)
    (notes_more zone sealed (take i voids) notes (get_or voids i d) note before one))

-- Lemmas that the rows of entries are valid whatever voids there are: a void only changes whether
-- an entry is marked as voided (cancelled).

also_then : {A B C : Type 0} (first : Result A RowFault) (f : A → Result B RowFault) (g : A → Result C RowFault) (b : B) → and_then first f ≡ Ok b
    → ((a : A) → f a ≡ Ok b → (c : C) × (g a ≡ Ok c)) → (c : C) × (and_then first g ≡ Ok c)
also_then {A = A} first f g b h more =
    let one = then_read first f b h in
    let two = more one.0 one.2 in
    (two.0, ap (λ (r : Result A RowFault). and_then r g) one.1 ∙ two.1)

also_entry : (voids others : List VoidRow) (row : Row) (entry : TableRow) → entry_in voids row ≡ Ok entry
    → (other : TableRow) × (entry_in others row ≡ Ok other)
also_entry voids others row entry read =
    also_then (or_damaged (whole_in 1 greatest_place (column row 0))) _ _ entry read (λ place h1.
    also_then (or_damaged (kind_in (column row 1))) _ _ entry h1 (λ kind h2.
    also_then (or_damaged (whole_in 0 latest_moment (column row 2))) _ _ entry h2 (λ moment h3.
    also_then (or_damaged (whole_in 0 MAX_SHOWN (column row 3))) _ _ entry h3 (λ raw h4.
    also_then (or_damaged (whole_in 0 255 (column row 4))) _ _ entry h4 (λ rolls h5.
    also_then (or_damaged (whole_in 0 MAX_SHOWN (column row 5))) _ _ entry h5 (λ after h6.
    also_then (or_damaged (within 3 (column row 6))) _ _ entry h6 (λ sf h7. (
      record {
        place = place;
        kind = kind;
        moment = moment;
        raw = raw;
        rolls = rolls;
        after = after;
        sf = sf;
        is_voided = is_named others place;
      },
      refl,
    ))))))))

also_read : (voids others : List VoidRow) (rows : List Row) (entries : List TableRow) → all_in (entry_in voids) rows ≡ Ok entries
    → (found : List TableRow) × (all_in (entry_in others) rows ≡ Ok found)
also_read voids others [] entries h = ([], refl)
also_read voids others (row ∷ rows) entries h =
    let one = then_read (entry_in voids row) _ entries h in
    let two = then_read (all_in (entry_in voids) rows) _ entries one.2 in
    let first = also_entry voids others row one.0 one.1 in
    let rest = also_read voids others rows two.0 two.1 in (
      first.0 ∷ rest.0,
      ap (λ (q : Result TableRow RowFault). and_then q (λ x. and_then (all_in (entry_in others) rows) (λ xs. Ok (x ∷ xs)))) first.1
          ∙ ap (λ (q : Result (List TableRow) RowFault). and_then q (λ xs. Ok (first.0 ∷ xs))) rest.1,
    )

pub never_unread : (rows : MeterRows) (range : ℕ) (voids others : List VoidRow) (entries : List TableRow) → HasRead rows range voids entries
    → ((found : List TableRow) → all_in (entry_in others) rows.entries.items ≡ Ok found → ⊥) → ⊥
never_unread rows range voids others entries read none =
    let found = also_read voids others rows.entries.items entries read.entries_read in none found.0 found.1

-- If no months follow from the entries that were read, then none follow from any entries that a
-- meter's rows may have.
pub unlawful : (zone : Zone) (rows : MeterRows) (seal : Sealed) (range : ℕ) (voids : List VoidRow) (entries : List TableRow)
    → HasRead rows range voids entries
    → ((months : List SealedMonth) → HasMonths zone seal.range seal.ceiling (take seal.entries entries) months → ⊥)
    → IsUnlawful zone rows seal
unlawful zone rows seal range voids entries read none = record {
  none = λ vs es months h has.
      let voided : vs ≡ voids = ok_is (sym h.voids_read ∙ read.voids_read) in
      let same : es ≡ entries =
      ok_is (sym h.entries_read ∙ ap (λ (v : List VoidRow). all_in (entry_in v) rows.entries.items) voided ∙ read.entries_read) in
      none months (subst (λ (e : List TableRow). HasMonths zone seal.range seal.ceiling (take seal.entries e) months) same has);
}
