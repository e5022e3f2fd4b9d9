-- Time spans, and the quarter hours in a span.
use Rattle.std.specs.Prelude.{ℕ, nat_le, nat_lt, Bool, true, ◌&&◌, List}
use Rattle.std.specs.List.{filter}
use Rattle.interval_core.specs.declared.shares.Share.{Share}
use Rattle.office_books.specs.declared.spans.Span.{Span}
use Rattle.office_books.specs.declared.spans.Span.TheVariants.{All, Between}

-- True if the timestamp lies in the time span. The end of the span is excluded.
abbrev pub is_within : Span → (moment : ℕ) → Bool
is_within All moment = true
is_within (Between from till) moment = nat_le from moment && nat_lt moment till

-- The rows of a list whose quarter hours begin in the time span, in order.
abbrev pub rows_within : Span → List Share → List Share
rows_within All rows = rows
rows_within (Between from till) rows =
    filter (λ row. nat_le from row.start && nat_lt row.start till) rows
