-- The request targets for rows of a meter. `/meters/NAME/intervals/FROM/TILL` returns the quarter
-- hours that start at FROM or later and before TILL. `/meters/NAME/entries/PLACE` returns the
-- entries from the sequence number PLACE on. `/meters/NAME/voids` returns the voided (withdrawn)
-- entries.
use Rattle.std.specs.Prelude.{ℕ, ◌+◌, ◌==◌, List, length, take, drop, position, bytes_eq, is_some, if◌then◌else◌, Option, Some, None, codes}
use Rattle.office_http.specs.Messages.Values.{digits_in}
use Rattle.office_http.specs.declared.messages.status.Status.TheVariants.{BadRequest}
use Rattle.office_events.specs.Names.{named}
use Rattle.office_books.specs.declared.spans.Span.{Span}
use Rattle.office_books.specs.declared.spans.Span.TheVariants.{Between}
use Rattle.run_http.specs.declared.route.RunRoute.{RunRoute}
use Rattle.run_http.specs.declared.route.RunRoute.TheVariants.{Own, Intervals, Entries, Voids}
use Rattle.run_http.specs.declared.route.StatusRoute.TheVariants.{Rejected}

-- The part of a text after the prefix `word`, or None if the text does not begin with `word`.
abbrev pub after : (word text : List ℕ) → Option (List ℕ)
after word text =
    if bytes_eq (take (length word) text) word then Some (drop (length word) text) else None

-- The index of the first slash (47) in a text.
abbrev pub slash_in : List ℕ → Option ℕ
slash_in text = position (λ byte. byte == 47) text

-- The time span between two timestamps, or None if one of the timestamps is missing.
abbrev pub span_till : (from till : Option ℕ) → Option Span
span_till None till = None
span_till (Some from) None = None
span_till (Some from) (Some till) = Some (Between from till)

-- The time span between the timestamps in two texts. None unless each text is a timestamp of one to
-- nineteen digits.
abbrev pub span_of : (from till : List ℕ) → Option Span
span_of from till = span_till (digits_in from) (digits_in till)

-- The route to the quarter hours of a meter in a time span, or status 400 if the target has no
-- valid span. An invalid name matches no meter.
abbrev pub intervals_asked : (name : List ℕ) → Option Span → RunRoute
intervals_asked name None = Own (Rejected BadRequest)
intervals_asked name (Some span) = Intervals (named name) span

-- The route to quarter hours between two timestamps. If the second text has a slash, the target has
-- too many segments, and no route.
abbrev pub intervals_till : (name from till : List ℕ) → Option RunRoute
intervals_till name from till =
    if is_some (slash_in till) then None else Some (intervals_asked name (span_of from till))

-- The route to the quarter hours of a meter, for the text `FROM/TILL` of a target. The text is
-- split at its first slash.
abbrev pub intervals_cut : (name text : List ℕ) → Option ℕ → Option RunRoute
intervals_cut name text None = None
intervals_cut name text (Some at) = intervals_till name (take at text) (drop (at + 1) text)

-- The route of a request target to quarter hours, given its text after `intervals/`.
abbrev pub intervals_in : (name text : List ℕ) → Option RunRoute
intervals_in name text = intervals_cut name text (slash_in text)

-- The route to the entries of a meter from a sequence number on, or status 400 if the target has no
-- valid number.
abbrev pub entries_asked : (name : List ℕ) → (place : Option ℕ) → RunRoute
entries_asked name None = Own (Rejected BadRequest)
entries_asked name (Some place) = Entries (named name) place

-- The route to entries of a meter, given the target's text after `entries/`. A text with a slash
-- has no route.
abbrev pub entries_at : (name place : List ℕ) → Option RunRoute
entries_at name place =
    if is_some (slash_in place) then None else Some (entries_asked name (digits_in place))

-- The route for a target that continues with `intervals/` or `entries/` after the meter's name, or
-- none for any other target.
abbrev pub rows_asked : (name : List ℕ) → (intervals entries : Option (List ℕ))
    → Option RunRoute
rows_asked name None None = None
rows_asked name None (Some text) = entries_at name text
rows_asked name (Some text) entries = intervals_in name text

-- The route of a request target, given its text after `/meters/NAME/`.
abbrev pub rows_in : (name text : List ℕ) → Option RunRoute
rows_in name text =
    if bytes_eq text (codes "voids") then Some (Voids (named name))
    else rows_asked name (after (codes "intervals/") text) (after (codes "entries/") text)

-- The route of a request target, given its text after `/meters/`, which is split at its first
-- slash. A text without a slash has no route.
abbrev pub meter_cut : (text : List ℕ) → Option ℕ → Option RunRoute
meter_cut text None = None
meter_cut text (Some at) = rows_in (take at text) (drop (at + 1) text)

-- The route of a request target, given its text after `/meters/`.
abbrev pub meter_in : List ℕ → Option RunRoute
meter_in text = meter_cut text (slash_in text)

-- The route of a target that begins with `/meters/`. Other targets have no route of this kind.
abbrev pub meter_asked : Option (List ℕ) → Option RunRoute
meter_asked None = None
meter_asked (Some text) = meter_in text

-- The route of a request target for quarter hours, entries or voided (withdrawn) entries of a
-- meter. Other targets have no route of this kind.
abbrev pub meter_target : (target : List ℕ) → Option RunRoute
meter_target target = meter_asked (after (codes "/meters/") target)
