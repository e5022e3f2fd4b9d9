-- The SQL statements on the tables `polls`, `outcomes`, `holds` and `replies`, and the commands
-- that SQLite's parser builds from their texts.
use Rattle.std.proofs.Common.{◌≡◌, pos, List, [], ◌∷◌, codes, ℕ, false, None, inl, inr, refl}
use Rattle.sqlite.specs.declared.types.Value.TheVariants.{Null, Int, Text}
use Rattle.sqlite.specs.Term.{Term, lit, col}
use Rattle.sqlite.specs.Query.{Query, inner, counted, end}
use Rattle.sqlite.specs.Source.TheVariants.{Values}
use Rattle.sqlite.specs.Command.TheVariants.{Insert, Select}
use Rattle.sqlite.specs.Collation.TheVariants.{Binary}
use Rattle.sqlite.specs.Program.{overlay}
use Rattle.sqlite.specs.Tree.{Trees}
use Rattle.sqlite_sql.specs.Program.{QueryOverflows}
use Rattle.sqlite_sql.specs.Term.{op1, op2}
use Rattle.sqlite_sql.specs.declared.ops.UnaryOp.TheVariants.{Not}
use Rattle.sqlite_sql.specs.declared.ops.BinaryOp.TheVariants.{Compare}
use Rattle.sqlite_sql.specs.declared.ops.CompareOp.TheVariants.{Eq}
use Rattle.sqlite_tied.specs.Compute.{everything}
use Rattle.sqlite.specs.Listing.{understood, reads_listing}
use Rattle.sqlite.proofs.Callers.{IsPlain, command_of}
use Rattle.store_tables.specs.Schema.{books_schema}
use Rattle.store_tables.proofs.Failures.{Suits, suits_scan}
use Rattle.store_tables.proofs.Scans.{scan, no_limit, one, is_param, rising, falling}

-- The text of the SQL statement `insert_poll`, which adds a row to `polls`, and the command that
-- SQLite's parser builds from this text.

abbrev pub insert_poll : List ℕ
insert_poll = codes "INSERT INTO polls (poll, device, unit, started, tid, function, address, count) VALUES (?1, ?2, ?3, ?4, ?5, ?6, ?7, ?8)"

abbrev pub insert_poll_terms : List Term
insert_poll_terms = col 0 0 ∷ lit Null ∷ col 0 1 ∷ col 0 2 ∷ col 0 3 ∷ col 0 4 ∷ col 0 5 ∷ col 0 6 ∷ col 0 7 ∷ []

pub insert_poll_is : command_of (understood books_schema insert_poll) ≡ Insert 6 (Values insert_poll_terms 9)
unfolding understood everything
insert_poll_is = refl

pub insert_poll_plain : IsPlain (understood books_schema insert_poll)
unfolding understood everything
insert_poll_plain = (refl, refl)

-- The text of the SQL statement `insert_outcome`, which adds a row to `outcomes`, and the command
-- that SQLite's parser builds from this text.

abbrev pub insert_outcome : List ℕ
insert_outcome = codes "INSERT INTO outcomes (poll, moment, outcome, code) VALUES (?1, ?2, ?3, ?4)"

abbrev pub insert_outcome_terms : List Term
insert_outcome_terms = col 0 0 ∷ lit Null ∷ col 0 1 ∷ col 0 2 ∷ col 0 3 ∷ []

pub insert_outcome_is : command_of (understood books_schema insert_outcome) ≡ Insert 8 (Values insert_outcome_terms 5)
unfolding understood everything
insert_outcome_is = refl

pub insert_outcome_plain : IsPlain (understood books_schema insert_outcome)
unfolding understood everything
insert_outcome_plain = (refl, refl)

-- The text of the SQL statement `insert_rejected`, which adds a rejected reading to `holds`, and
-- the command that SQLite's parser builds from this text.

abbrev pub insert_rejected : List ℕ
insert_rejected = codes "INSERT INTO holds (place, meter, poll, moment, raw, sf, cause) VALUES (?1, ?2, ?3, ?4, ?5, ?6, ?7)"

abbrev pub insert_hold_terms : List Term
insert_hold_terms = col 0 0 ∷ lit Null ∷ col 0 1 ∷ col 0 2 ∷ col 0 3 ∷ col 0 4 ∷ col 0 5 ∷ col 0 6 ∷ []

pub insert_hold_is : command_of (understood books_schema insert_rejected) ≡ Insert 7 (Values insert_hold_terms 8)
unfolding understood everything
insert_hold_is = refl

pub insert_hold_plain : IsPlain (understood books_schema insert_rejected)
unfolding understood everything
insert_hold_plain = (refl, refl)

-- The text of the SQL statement `insert_kept_request`, which adds a row to `replies`, and the
-- command that SQLite's parser builds from this text.

abbrev pub insert_kept_request : List ℕ
insert_kept_request = codes "INSERT INTO replies (caller, number, request, kind, moment) VALUES (?1, ?2, ?3, ?4, ?5)"

abbrev pub insert_reply_terms : List Term
insert_reply_terms = lit Null ∷ col 0 0 ∷ col 0 1 ∷ col 0 2 ∷ col 0 3 ∷ col 0 4 ∷ []

pub insert_reply_is : command_of (understood books_schema insert_kept_request) ≡ Insert 10 (Values insert_reply_terms 6)
unfolding understood everything
insert_reply_is = refl

pub insert_reply_plain : IsPlain (understood books_schema insert_kept_request)
unfolding understood everything
insert_reply_plain = (refl, refl)

-- The text of the SQL statement `poll_at`, which selects a poll by number, and the command that
-- SQLite's parser builds from this text.

abbrev pub poll_at : List ℕ
poll_at = codes "SELECT poll, device, unit, started, tid, function, address, count FROM polls WHERE poll = ?1 LIMIT 1"

abbrev pub poll_at_tests : List Term
poll_at_tests = is_param 0 0 ∷ []

abbrev pub poll_at_project : List Term
poll_at_project = col 1 0 ∷ col 1 2 ∷ col 1 3 ∷ col 1 4 ∷ col 1 5 ∷ col 1 6 ∷ col 1 7 ∷ col 1 8 ∷ []

abbrev pub poll_at_names : List (List ℕ)
poll_at_names = codes "poll" ∷ codes "device" ∷ codes "unit" ∷ codes "started" ∷ codes "tid" ∷ codes "function" ∷ codes "address" ∷ codes "count" ∷ []

pub poll_at_is : command_of (understood books_schema poll_at) ≡ Select (record { lets = []; body = scan 11 poll_at_tests poll_at_project [] one }) poll_at_names
unfolding understood everything
poll_at_is = refl

pub poll_at_unlisted : reads_listing books_schema poll_at ≡ false
unfolding understood everything
poll_at_unlisted = refl

pub poll_at_plain : IsPlain (understood books_schema poll_at)
unfolding understood everything
poll_at_plain = (refl, refl)

pub poll_at_suits : (number : ℕ) → Suits books_schema poll_at (Int (pos number) ∷ [])
unfolding understood everything
poll_at_suits number = suits_scan 11 poll_at_tests poll_at_project [] one poll_at poll_at_names (Int (pos number) ∷ []) (refl, refl, refl) poll_at_plain poll_at_unlisted poll_at_is refl

-- The text of the SQL statement `last_poll`, which selects the greatest number in `polls`, and the
-- command that SQLite's parser builds from this text.

abbrev pub last_poll : List ℕ
last_poll = codes "SELECT poll FROM polls ORDER BY poll DESC LIMIT 1"

abbrev pub last_poll_tests : List Term
last_poll_tests = []

abbrev pub last_poll_project : List Term
last_poll_project = col 1 0 ∷ []

abbrev pub last_poll_names : List (List ℕ)
last_poll_names = codes "poll" ∷ []

pub last_poll_is : command_of (understood books_schema last_poll) ≡ Select (record { lets = []; body = scan 11 last_poll_tests last_poll_project ((col 1 0, falling) ∷ []) one }) last_poll_names
unfolding understood everything
last_poll_is = refl

pub last_poll_unlisted : reads_listing books_schema last_poll ≡ false
unfolding understood everything
last_poll_unlisted = refl

pub last_poll_plain : IsPlain (understood books_schema last_poll)
unfolding understood everything
last_poll_plain = (refl, refl)

pub last_poll_suits : Suits books_schema last_poll ([])
unfolding understood everything
last_poll_suits = suits_scan 11 last_poll_tests last_poll_project ((col 1 0, falling) ∷ []) one last_poll last_poll_names ([]) (refl, refl, refl) last_poll_plain last_poll_unlisted last_poll_is refl

-- The text of the SQL statement `outcome_of`, which selects the outcome of a poll, and the command
-- that SQLite's parser builds from this text.

abbrev pub outcome_of : List ℕ
outcome_of = codes "SELECT poll, moment, outcome, code FROM outcomes WHERE poll = ?1 LIMIT 1"

abbrev pub outcome_of_tests : List Term
outcome_of_tests = is_param 0 0 ∷ []

abbrev pub outcome_of_project : List Term
outcome_of_project = col 1 0 ∷ col 1 2 ∷ col 1 3 ∷ col 1 4 ∷ []

abbrev pub outcome_of_names : List (List ℕ)
outcome_of_names = codes "poll" ∷ codes "moment" ∷ codes "outcome" ∷ codes "code" ∷ []

pub outcome_of_is : command_of (understood books_schema outcome_of) ≡ Select (record { lets = []; body = scan 13 outcome_of_tests outcome_of_project [] one }) outcome_of_names
unfolding understood everything
outcome_of_is = refl

pub outcome_of_unlisted : reads_listing books_schema outcome_of ≡ false
unfolding understood everything
outcome_of_unlisted = refl

pub outcome_of_plain : IsPlain (understood books_schema outcome_of)
unfolding understood everything
outcome_of_plain = (refl, refl)

pub outcome_of_suits : (poll : ℕ) → Suits books_schema outcome_of (Int (pos poll) ∷ [])
unfolding understood everything
outcome_of_suits poll = suits_scan 13 outcome_of_tests outcome_of_project [] one outcome_of outcome_of_names (Int (pos poll) ∷ []) (refl, refl, refl) outcome_of_plain outcome_of_unlisted outcome_of_is refl

-- The text of the SQL statement `last_hold`, which selects the greatest index in `holds`, and the
-- command that SQLite's parser builds from this text.

abbrev pub last_hold : List ℕ
last_hold = codes "SELECT place FROM holds ORDER BY place DESC LIMIT 1"

abbrev pub last_hold_tests : List Term
last_hold_tests = []

abbrev pub last_hold_project : List Term
last_hold_project = col 1 0 ∷ []

abbrev pub last_hold_names : List (List ℕ)
last_hold_names = codes "place" ∷ []

pub last_hold_is : command_of (understood books_schema last_hold) ≡ Select (record { lets = []; body = scan 12 last_hold_tests last_hold_project ((col 1 0, falling) ∷ []) one }) last_hold_names
unfolding understood everything
last_hold_is = refl

pub last_hold_unlisted : reads_listing books_schema last_hold ≡ false
unfolding understood everything
last_hold_unlisted = refl

pub last_hold_plain : IsPlain (understood books_schema last_hold)
unfolding understood everything
last_hold_plain = (refl, refl)

pub last_hold_suits : Suits books_schema last_hold ([])
unfolding understood everything
last_hold_suits = suits_scan 12 last_hold_tests last_hold_project ((col 1 0, falling) ∷ []) one last_hold last_hold_names ([]) (refl, refl, refl) last_hold_plain last_hold_unlisted last_hold_is refl

-- The text of the SQL statement `repeat_of`, which selects a stored request by its idempotency key,
-- and the command that SQLite's parser builds from this text.

abbrev pub repeat_of : List ℕ
repeat_of = codes "SELECT request, kind FROM replies WHERE caller = ?1 AND number = ?2 LIMIT 1"

abbrev pub repeat_of_tests : List Term
repeat_of_tests = is_param 1 0 ∷ is_param 2 1 ∷ []

abbrev pub repeat_of_project : List Term
repeat_of_project = col 1 3 ∷ col 1 4 ∷ []

abbrev pub repeat_of_names : List (List ℕ)
repeat_of_names = codes "request" ∷ codes "kind" ∷ []

pub repeat_of_is : command_of (understood books_schema repeat_of) ≡ Select (record { lets = []; body = scan 16 repeat_of_tests repeat_of_project [] one }) repeat_of_names
unfolding understood everything
repeat_of_is = refl

pub repeat_of_unlisted : reads_listing books_schema repeat_of ≡ false
unfolding understood everything
repeat_of_unlisted = refl

pub repeat_of_plain : IsPlain (understood books_schema repeat_of)
unfolding understood everything
repeat_of_plain = (refl, refl)

pub repeat_of_suits : (caller : List ℕ) (number : ℕ) → Suits books_schema repeat_of (Text caller ∷ Int (pos number) ∷ [])
unfolding understood everything
repeat_of_suits caller number = suits_scan 16 repeat_of_tests repeat_of_project [] one repeat_of repeat_of_names (Text caller ∷ Int (pos number) ∷ []) (refl, refl, refl) repeat_of_plain repeat_of_unlisted repeat_of_is refl

-- The text of the SQL statement `latest_start`, which selects the latest timestamp in `polls`, and
-- the command that SQLite's parser builds from this text.

abbrev pub latest_start : List ℕ
latest_start = codes "SELECT started FROM polls ORDER BY started DESC LIMIT 1"

abbrev pub latest_start_tests : List Term
latest_start_tests = []

abbrev pub latest_start_project : List Term
latest_start_project = col 1 4 ∷ []

abbrev pub latest_start_names : List (List ℕ)
latest_start_names = codes "started" ∷ []

pub latest_start_is : command_of (understood books_schema latest_start) ≡ Select (record { lets = []; body = scan 11 latest_start_tests latest_start_project ((col 1 4, falling) ∷ []) one }) latest_start_names
unfolding understood everything
latest_start_is = refl

pub latest_start_unlisted : reads_listing books_schema latest_start ≡ false
unfolding understood everything
latest_start_unlisted = refl

pub latest_start_plain : IsPlain (understood books_schema latest_start)
unfolding understood everything
latest_start_plain = (refl, refl)

pub latest_start_suits : Suits books_schema latest_start ([])
unfolding understood everything
latest_start_suits = suits_scan 11 latest_start_tests latest_start_project ((col 1 4, falling) ∷ []) one latest_start latest_start_names ([]) (refl, refl, refl) latest_start_plain latest_start_unlisted latest_start_is refl

-- The text of the SQL statement `latest_outcome`, which selects the latest timestamp in `outcomes`,
-- and the command that SQLite's parser builds from this text.

abbrev pub latest_outcome : List ℕ
latest_outcome = codes "SELECT moment FROM outcomes ORDER BY moment DESC LIMIT 1"

abbrev pub latest_outcome_tests : List Term
latest_outcome_tests = []

abbrev pub latest_outcome_project : List Term
latest_outcome_project = col 1 2 ∷ []

abbrev pub latest_outcome_names : List (List ℕ)
latest_outcome_names = codes "moment" ∷ []

pub latest_outcome_is : command_of (understood books_schema latest_outcome) ≡ Select (record { lets = []; body = scan 13 latest_outcome_tests latest_outcome_project ((col 1 2, falling) ∷ []) one }) latest_outcome_names
unfolding understood everything
latest_outcome_is = refl

pub latest_outcome_unlisted : reads_listing books_schema latest_outcome ≡ false
unfolding understood everything
latest_outcome_unlisted = refl

pub latest_outcome_plain : IsPlain (understood books_schema latest_outcome)
unfolding understood everything
latest_outcome_plain = (refl, refl)

pub latest_outcome_suits : Suits books_schema latest_outcome ([])
unfolding understood everything
latest_outcome_suits = suits_scan 13 latest_outcome_tests latest_outcome_project ((col 1 2, falling) ∷ []) one latest_outcome latest_outcome_names ([]) (refl, refl, refl) latest_outcome_plain latest_outcome_unlisted latest_outcome_is refl

-- The text of the SQL statement `latest_hold`, which selects the latest timestamp in `holds`, and
-- the command that SQLite's parser builds from this text.

abbrev pub latest_hold : List ℕ
latest_hold = codes "SELECT moment FROM holds ORDER BY moment DESC LIMIT 1"

abbrev pub latest_hold_tests : List Term
latest_hold_tests = []

abbrev pub latest_hold_project : List Term
latest_hold_project = col 1 4 ∷ []

abbrev pub latest_hold_names : List (List ℕ)
latest_hold_names = codes "moment" ∷ []

pub latest_hold_is : command_of (understood books_schema latest_hold) ≡ Select (record { lets = []; body = scan 12 latest_hold_tests latest_hold_project ((col 1 4, falling) ∷ []) one }) latest_hold_names
unfolding understood everything
latest_hold_is = refl

pub latest_hold_unlisted : reads_listing books_schema latest_hold ≡ false
unfolding understood everything
latest_hold_unlisted = refl

pub latest_hold_plain : IsPlain (understood books_schema latest_hold)
unfolding understood everything
latest_hold_plain = (refl, refl)

pub latest_hold_suits : Suits books_schema latest_hold ([])
unfolding understood everything
latest_hold_suits = suits_scan 12 latest_hold_tests latest_hold_project ((col 1 4, falling) ∷ []) one latest_hold latest_hold_names ([]) (refl, refl, refl) latest_hold_plain latest_hold_unlisted latest_hold_is refl

-- The text of the SQL statement `latest_reply`, which selects the latest timestamp in `replies`,
-- and the command that SQLite's parser builds from this text.

abbrev pub latest_reply : List ℕ
latest_reply = codes "SELECT moment FROM replies ORDER BY moment DESC LIMIT 1"

abbrev pub latest_reply_tests : List Term
latest_reply_tests = []

abbrev pub latest_reply_project : List Term
latest_reply_project = col 1 5 ∷ []

abbrev pub latest_reply_names : List (List ℕ)
latest_reply_names = codes "moment" ∷ []

pub latest_reply_is : command_of (understood books_schema latest_reply) ≡ Select (record { lets = []; body = scan 16 latest_reply_tests latest_reply_project ((col 1 5, falling) ∷ []) one }) latest_reply_names
unfolding understood everything
latest_reply_is = refl

pub latest_reply_unlisted : reads_listing books_schema latest_reply ≡ false
unfolding understood everything
latest_reply_unlisted = refl

pub latest_reply_plain : IsPlain (understood books_schema latest_reply)
unfolding understood everything
latest_reply_plain = (refl, refl)

pub latest_reply_suits : Suits books_schema latest_reply ([])
unfolding understood everything
latest_reply_suits = suits_scan 16 latest_reply_tests latest_reply_project ((col 1 5, falling) ∷ []) one latest_reply latest_reply_names ([]) (refl, refl, refl) latest_reply_plain latest_reply_unlisted latest_reply_is refl

-- The text of the SQL statement `pending_rows`, which selects the polls without an outcome, and the
-- command that SQLite's parser builds from this text.

abbrev pub pending : List ℕ
pending = codes "SELECT poll, device, unit, started, tid, function, address, count FROM polls WHERE NOT EXISTS (SELECT 1 FROM outcomes WHERE outcomes.poll = polls.poll) ORDER BY poll"

-- The WHERE clause of the subquery in `pending_rows`: the poll number of an outcome equals the
-- number of the outer query's poll.
abbrev pub names_poll : List Term
names_poll = op2 (Compare Eq Binary) (col 2 0) (col 1 0) ∷ []

abbrev pub none_names : List Term
none_names = op1 Not (col 2 0) ∷ []

abbrev pub pending_project : List Term
pending_project = col 1 0 ∷ col 1 2 ∷ col 1 3 ∷ col 1 4 ∷ col 1 5 ∷ col 1 6 ∷ col 1 7 ∷ col 1 8 ∷ []

abbrev pub pending_names : List (List ℕ)
pending_names = codes "poll" ∷ codes "device" ∷ codes "unit" ∷ codes "started" ∷ codes "tid" ∷ codes "function" ∷ codes "address" ∷ codes "count" ∷ []

abbrev pub pending_query : Query
pending_query = record {
  from = inner 11 (counted 1 (inner 13 end) names_poll end);
  filter = none_names;
  group = None;
  project = pending_project;
  distinct = false;
  collations = [];
  order = (col 1 0, rising) ∷ [];
  limit = no_limit;
  offset = lit (Int (pos 0));
}

pub pending_is : command_of (understood books_schema pending) ≡ Select (record { lets = []; body = pending_query }) pending_names
unfolding understood everything
pending_is = refl

pub pending_unlisted : reads_listing books_schema pending ≡ false
unfolding understood everything
pending_unlisted = refl

pub pending_plain : IsPlain (understood books_schema pending)
unfolding understood everything
pending_plain = (refl, refl)

pending_flows : (db : Trees) → QueryOverflows pending_query (overlay db []) [] → ⊥
pending_flows db (inl sum) = sum
pending_flows db (inr row) = elim row.4 [ inl none ↦ none.4 | inr none ↦ none ]

pub pending_suits : Suits books_schema pending []
unfolding understood everything
pending_suits = record {
  query = pending_query;
  names = pending_names;
  whole = (refl, refl, refl);
  plain = pending_plain;
  unlisted = pending_unlisted;
  is = pending_is;
  typed = refl;
  flows = pending_flows;
}
