-- The SQL statements on `holds` (the table of rejected readings), and what SQLite's parser returns
-- for these statements.
use Rattle.std.proofs.Common.{◌≡◌, List, [], ◌∷◌, codes, ℕ, pos, false, refl}
use Rattle.sqlite.specs.declared.types.Value.TheVariants.{Int, Text}
use Rattle.sqlite.specs.Term.{Term, col}
use Rattle.sqlite.specs.Command.TheVariants.{Select}
use Rattle.sqlite_tied.specs.Compute.{everything}
use Rattle.sqlite_value.specs.declared.keys.Key.{Key}
use Rattle.sqlite.specs.Listing.{understood, reads_listing}
use Rattle.sqlite.proofs.Callers.{IsPlain, command_of}
use Rattle.store_tables.specs.Schema.{books_schema}
use Rattle.store_tables.proofs.Failures.{Suits, suits_scan}
use Rattle.store_tables.proofs.Scans.{scan, no_limit, is_param, rising}
use Rattle.office_store.proofs.StreamsLemmas.Compared.{is_at_least, is_below}

abbrev pub project : List Term
project = col 1 3 ∷ col 1 4 ∷ col 1 5 ∷ col 1 6 ∷ col 1 7 ∷ []

abbrev pub order : List (Term × Key)
order = (col 1 0, rising) ∷ []

abbrev pub names : List (List ℕ)
names = codes "poll" ∷ codes "moment" ∷ codes "raw" ∷ codes "sf" ∷ codes "cause" ∷ []

-- Lemmas on the SQL text of `meter_holds` (a SELECT of a meter's rejected readings), and on what
-- SQLite parses from this text.

abbrev pub meter_holds : List ℕ
meter_holds = codes "SELECT poll, moment, raw, sf, cause FROM holds WHERE meter = ?1 ORDER BY place"

abbrev pub meter_holds_tests : List Term
meter_holds_tests = is_param 2 0 ∷ []

pub meter_holds_is : command_of (understood books_schema meter_holds) ≡ Select (record { lets = []; body = scan 12 meter_holds_tests project order no_limit }) names
unfolding understood everything
meter_holds_is = refl

pub meter_holds_unlisted : reads_listing books_schema meter_holds ≡ false
unfolding understood everything
meter_holds_unlisted = refl

pub meter_holds_plain : IsPlain (understood books_schema meter_holds)
unfolding understood everything
meter_holds_plain = (refl, refl)

pub meter_holds_suits : (meter : List ℕ) → Suits books_schema meter_holds (Text meter ∷ [])
unfolding understood everything
meter_holds_suits meter = suits_scan 12 meter_holds_tests project order no_limit meter_holds names (Text meter ∷ []) (refl, refl, refl) meter_holds_plain meter_holds_unlisted meter_holds_is refl

-- Lemmas on the SQL text of `meter_holds_between` (a SELECT of a meter's rejected readings in a
-- time span), and on SQLite's parse of this text.

abbrev pub between : List ℕ
between = codes "SELECT poll, moment, raw, sf, cause FROM holds WHERE meter = ?1 AND moment >= ?2 AND moment < ?3 ORDER BY place"

abbrev pub between_tests : List Term
between_tests = is_param 2 0 ∷ is_at_least 1 4 1 ∷ is_below 1 4 2 ∷ []

pub between_is : command_of (understood books_schema between) ≡ Select (record { lets = []; body = scan 12 between_tests project order no_limit }) names
unfolding understood everything
between_is = refl

pub between_unlisted : reads_listing books_schema between ≡ false
unfolding understood everything
between_unlisted = refl

pub between_plain : IsPlain (understood books_schema between)
unfolding understood everything
between_plain = (refl, refl)

pub between_suits : (meter : List ℕ) (from till : ℕ) → Suits books_schema between (Text meter ∷ Int (pos from) ∷ Int (pos till) ∷ [])
unfolding understood everything
between_suits meter from till = suits_scan 12 between_tests project order no_limit between names (Text meter ∷ Int (pos from) ∷ Int (pos till) ∷ []) (refl, refl, refl) between_plain between_unlisted between_is refl
