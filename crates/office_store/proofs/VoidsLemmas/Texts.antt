-- The SQL statements that void a meter's entry (cancel a false reading), and what SQLite's parser
-- returns for these statements.
use Rattle.std.proofs.Common.{◌≡◌, List, [], ◌∷◌, codes, ℕ, pos, false, refl}
use Rattle.sqlite.specs.declared.types.Value.TheVariants.{Int, Text}
use Rattle.sqlite.specs.Term.{Term, col}
use Rattle.sqlite.specs.Command.TheVariants.{Select, Update, Delete}
use Rattle.sqlite_sql.specs.Term.{op2}
use Rattle.sqlite_sql.specs.declared.ops.BinaryOp.TheVariants.{Arith}
use Rattle.sqlite_sql.specs.declared.ops.ArithOp.TheVariants.{Sub}
use Rattle.sqlite_tied.specs.Compute.{everything}
use Rattle.sqlite.specs.Listing.{understood, reads_listing}
use Rattle.sqlite.proofs.Callers.{IsPlain, command_of}
use Rattle.store_tables.specs.Schema.{books_schema}
use Rattle.store_tables.proofs.Failures.{Suits, suits_scan}
use Rattle.store_tables.proofs.Scans.{scan, no_limit, one, is_param}
use Rattle.office_store.proofs.StreamsLemmas.Compared.{is_at_least}

-- Lemmas on the SQL text of `take_share` (an UPDATE that subtracts energy from a row of
-- `intervals`), and on what SQLite parses from this text.

abbrev pub take_share : List ℕ
take_share = codes "UPDATE intervals SET mwh = mwh - ?3 WHERE meter = ?1 AND start = ?2"

abbrev pub take_share_tests : List Term
take_share_tests = is_param 1 0 ∷ is_param 2 1 ∷ []

abbrev pub take_share_news : List Term
take_share_news = col 1 0 ∷ col 1 1 ∷ col 1 2 ∷ op2 (Arith Sub) (col 1 3) (col 0 2) ∷ []

pub take_share_is : command_of (understood books_schema take_share) ≡ Update 9 (record { lets = []; body = scan 14 take_share_tests (col 1 0 ∷ take_share_news) [] no_limit })
unfolding understood everything
take_share_is = refl

pub take_share_plain : IsPlain (understood books_schema take_share)
unfolding understood everything
take_share_plain = (refl, refl)

-- Lemmas on the SQL text of `drop_rows_from` (a DELETE of a meter's later rows of `intervals`), and
-- on what SQLite parses from this text.

abbrev pub drop_from : List ℕ
drop_from = codes "DELETE FROM intervals WHERE meter = ?1 AND start >= ?2"

abbrev pub drop_from_tests : List Term
drop_from_tests = is_param 1 0 ∷ is_at_least 1 2 1 ∷ []

pub drop_from_is : command_of (understood books_schema drop_from) ≡ Delete 9 (record { lets = []; body = scan 14 drop_from_tests (col 1 0 ∷ []) [] no_limit })
unfolding understood everything
drop_from_is = refl

pub drop_from_plain : IsPlain (understood books_schema drop_from)
unfolding understood everything
drop_from_plain = (refl, refl)

-- Lemmas on the SQL text of `void_rows_at` (a SELECT of the void of a meter's entry), and on what
-- SQLite parses from this text.

abbrev pub void_at : List ℕ
void_at = codes "SELECT place FROM voids WHERE meter = ?1 AND place = ?2 LIMIT 1"

abbrev pub void_at_tests : List Term
void_at_tests = is_param 1 0 ∷ is_param 2 1 ∷ []

abbrev pub void_at_project : List Term
void_at_project = col 1 2 ∷ []

abbrev pub void_at_names : List (List ℕ)
void_at_names = codes "place" ∷ []

pub void_at_is : command_of (understood books_schema void_at) ≡ Select (record { lets = []; body = scan 20 void_at_tests void_at_project [] one }) void_at_names
unfolding understood everything
void_at_is = refl

pub void_at_unlisted : reads_listing books_schema void_at ≡ false
unfolding understood everything
void_at_unlisted = refl

pub void_at_plain : IsPlain (understood books_schema void_at)
unfolding understood everything
void_at_plain = (refl, refl)

pub void_at_suits : (meter : List ℕ) (place : ℕ) → Suits books_schema void_at (Text meter ∷ Int (pos place) ∷ [])
unfolding understood everything
void_at_suits meter place = suits_scan 20 void_at_tests void_at_project [] one void_at void_at_names (Text meter ∷ Int (pos place) ∷ []) (refl, refl, refl) void_at_plain void_at_unlisted void_at_is refl
