-- Limits the bytes of commands that clients may add to the store, because the store keeps every
-- executed command.
use Rattle.std.specs.Prelude.{◌≡◌, ◌==◌, ◌&&◌, ◌||◌, ◌-◌, if◌then◌else◌, List, ℕ, Bool, false, Option, Some, None, length, nat_lt, codes}
use Rattle.std.specs.List.{starts_with}
use Rattle.std.specs.Str.{bytes_eq}
use Rattle.httparse.specs.Spans.{span_bytes}
use Rattle.office_http.specs.Messages.Head.Heads.{Looks}
use Rattle.office_http.specs.declared.messages.head.head.HeadState.{HeadState}
use Rattle.office_http.specs.declared.messages.head.head.HeadState.TheVariants.{Open, TooLarge, NoHead, Whole}
use Rattle.run_http.specs.declared.answer.ClientResponse.{ClientResponse}
use Rattle.run_http.specs.declared.answer.ClientResponse.TheVariants as reply

-- True if the bytes hold a complete HTTP head with the method POST. Each POST is a command.
abbrev pub is_command_in : (bytes : List ℕ) → HeadState → Bool
is_command_in bytes Open = false
is_command_in bytes TooLarge = false
is_command_in bytes NoHead = false
is_command_in bytes (Whole at) = bytes_eq (span_bytes bytes at.method) (codes "POST")

-- States that `result` is true exactly if the bytes hold a complete HTTP head of a command (a
-- POST).
pub record IsCommand (bytes : List ℕ) (result : Bool) : Type 0 where
  pub head_state : HeadState
  pub looks : Looks bytes head_state
  pub is : result ≡ is_command_in bytes head_state

-- True if the response has status 200, so the request's command was executed, now or for an earlier
-- request with the same idempotency key.
abbrev pub has_acted : ClientResponse → Bool
has_acted reply.Open = false
has_acted (reply.Replied text) = starts_with (λ a b. a == b) text.items (codes "HTTP/1.1 200 ")
has_acted reply.Failed = false

-- The bytes of commands that may still be stored: the limit `most` less the `taken` bytes that are
-- already stored. Without a limit, 2^64 - 1 bytes remain.
abbrev pub room_of : (most : Option ℕ) → (taken : ℕ) → ℕ
room_of None taken = 18446744073709551615
room_of (Some most) taken = most - taken

-- States that `result` is true exactly if the bytes are a command with more than `left` bytes.
-- `left` is the number of bytes that may still be stored.
pub record Lacks (left : ℕ) (bytes : List ℕ) (result : Bool) : Type 0 where
  pub is_command : Bool
  pub finds : IsCommand bytes is_command
  pub is : result ≡ (is_command && nat_lt left (length bytes))

-- States that `result` is true exactly if the HTTP server rejects the request. The server rejects a
-- command with more bytes than may still be stored (`left`), and every command while a file of the
-- store is missing.
pub record Rejects (left : ℕ) (is_lost : Bool) (bytes : List ℕ) (result : Bool) : Type 0 where
  pub is_command : Bool
  pub finds : IsCommand bytes is_command
  pub is : result ≡ (is_command && (nat_lt left (length bytes) || is_lost))

-- States how a request changes the number of bytes of commands that may still be stored. An
-- executed command reduces the number by the length of its request. Any other request leaves the
-- number unchanged.
pub record Counts (left later : ℕ) (bytes : List ℕ) (reply : ClientResponse) : Type 0 where
  pub is_command : Bool
  pub finds : IsCommand bytes is_command
  pub is : later ≡ if is_command && has_acted reply then left - length bytes else left

-- States that `result` is true exactly if the response acknowledges a command: the request is a
-- command and the response has status 200.
pub record Acknowledges (bytes : List ℕ) (reply : ClientResponse) (result : Bool) : Type 0 where
  pub is_command : Bool
  pub finds : IsCommand bytes is_command
  pub is : result ≡ (is_command && has_acted reply)
