-- Proofs that the queries for a meter's rejected readings, with or without a time span, return the
-- meter's rows of `holds`.
use Rattle.std.proofs.Common.{◌&&◌, nat_lt, pos, ℕ, List, [], ◌∷◌, Bool, true, bytes_eq, refl}
use Rattle.sqlite.specs.declared.types.Value.TheVariants.{Int, Text}
use Rattle.sqlite.specs.Order.{Row}
use Rattle.sqlite.specs.Effect.{Database}
use Rattle.sqlite.specs.Query.{IsAnswer}
use Rattle.sqlite.specs.Program.{overlay}
use Rattle.store_tables.specs.Schema.{books_schema, holds_table}
use Rattle.store_tables.specs.Content.{Content, AreTables}
use Rattle.store_tables.specs.Answer.{FirstFirst}
use Rattle.store_tables.proofs.Frames.{tree_at}
use Rattle.store_tables.proofs.Laid.{laid_from}
use Rattle.store_tables.proofs.Scans.{scan, text_is, and_true, no_limit}
use Rattle.store_tables.proofs.Selects.{selected, in_order}
use Rattle.store_tables.specs.Polls.Trees.{holds}
use Rattle.store_tables.specs.Polls.Rows.{Held, hold_columns, hold_place}
use Rattle.office_store.specs.Holds.{reading_shown, reading_of, HasSoundReading, HaveHolds, is_of, is_between, AreReadingsOf, AreReadingsBetween, AreSoundHolds}
use Rattle.office_store.proofs.HoldsLemmas.Texts as text
use Rattle.office_store.proofs.StreamsLemmas.Compared.{all_found, at_least_is, below_is}
use Rattle.office_store.proofs.StreamsLemmas.Shared.{Reports}

pub of_meter : (meter : List ℕ) (db : Database) (content : Content) (hs : List Held) (rows : List Row) → AreTables db content → HaveHolds hs content
    → IsAnswer (scan 12 text.meter_holds_tests text.project text.order no_limit) (overlay db.trees []) (Text meter ∷ []) rows
    → Reports reading_shown (reading_of meter) HasSoundReading (AreReadingsOf meter) AreSoundHolds hs rows
of_meter meter db content hs rows has have a =
    let there = tree_at books_schema.tables 7 holds_table refl in
    let apart = has.apart holds there in
    let it = selected holds text.meter_holds_tests text.project text.order no_limit (Text meter ∷ []) hold_columns (is_of meter) reading_shown (FirstFirst hold_place)
    (λ n h. rw (text_is h.meter meter, and_true (bytes_eq h.meter meter)) refl) (λ n h. refl) (λ m n h i le. in_order h.row.place i.row.place le)
    db.trees rows hs (laid_from true hold_columns (db.trees holds) (content holds) hs apart.keyed (has.rows holds there) have) a in
    record { found = it.0; shows = it.2; are = (it.0, it.1, refl); sound = λ sound. all_found HasSoundReading (is_of meter) hs it.0 it.1.all sound }

pub of_meter_between : (meter : List ℕ) (from till : ℕ) (db : Database) (content : Content) (hs : List Held) (rows : List Row) → AreTables db content → HaveHolds hs content
    → IsAnswer (scan 12 text.between_tests text.project text.order no_limit) (overlay db.trees []) (Text meter ∷ Int (pos from) ∷ Int (pos till) ∷ []) rows
    → Reports reading_shown (reading_of meter) HasSoundReading (AreReadingsBetween meter from till) AreSoundHolds hs rows
of_meter_between meter from till db content hs rows has have a =
    let there = tree_at books_schema.tables 7 holds_table refl in
    let apart = has.apart holds there in
    let asked : Held → Bool = λ h. is_of meter h && is_between from till h in
    let it = selected holds text.between_tests text.project text.order no_limit (Text meter ∷ Int (pos from) ∷ Int (pos till) ∷ []) hold_columns asked reading_shown (FirstFirst hold_place)
    (λ n h. rw (text_is h.meter meter, at_least_is h.row.moment from, below_is h.row.moment till, and_true (nat_lt h.row.moment till)) refl) (λ n h. refl) (λ m n h i le. in_order h.row.place i.row.place le)
    db.trees rows hs (laid_from true hold_columns (db.trees holds) (content holds) hs apart.keyed (has.rows holds there) have) a in
    record { found = it.0; shows = it.2; are = (it.0, it.1, refl); sound = λ sound. all_found HasSoundReading asked hs it.0 it.1.all sound }
