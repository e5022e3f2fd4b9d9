-- Defines when the HTTP server answers from its cache: a cached response is sent only to an equal
-- request, and unchanged.
use Rattle.std.specs.Prelude.{◌≡◌, ℕ, true, List, Option, Some, None}
use Rattle.std.specs.Str.{bytes_eq}
use Rattle.office_running.specs.declared.http.repeats.Replied.{Replied}

-- States that the cache entry `it` has the request `request` and the response `reply`.
pub record IsOf (request reply : List ℕ) (it : Replied) : Type 0 where
  pub request_is : it.request.items ≡ request
  pub reply_is : it.reply.items ≡ reply

-- States that `request` is equal to the request of the cache entry `it`, and that `reply` is the
-- cached response.
pub record IsSame (it : Replied) (request reply : List ℕ) : Type 0 where
  pub same : bytes_eq it.request.items request ≡ true
  pub reply_is : reply ≡ it.reply.items

abbrev pub WasReplied : Option Replied → (request reply : List ℕ) → Type 0
WasReplied None request reply = ⊥
WasReplied (Some it) request reply = IsSame it request reply
