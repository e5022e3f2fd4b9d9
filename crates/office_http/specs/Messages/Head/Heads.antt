-- Defines when bytes begin with the head of an HTTP request that is within the limits of size and
-- number of headers.
use Rattle.std.specs.Prelude.{◌≡◌, ◌≤◌, ◌<◌, ◌⊎◌, ◌||◌, ℕ, nat_lt, Bool, true, false, not, List, length, take, drop, All}
use Rattle.httparse.specs.Grammar.{ReadsRequest, RequestHead}
use Rattle.httparse.specs.Spans.{AreFieldsAt, IsHeaderWithin, IsWithin, span_bytes}
use Rattle.office_http.specs.Messages.Head.Lines.{has_head_end, lines_of_head}
use Rattle.office_http.specs.declared.messages.head.head.Head.{Head}
use Rattle.office_http.specs.declared.messages.head.head.HeadState.{HeadState}
use Rattle.office_http.specs.declared.messages.head.head.HeadState.TheVariants.{Open, TooLarge, NoHead, Whole}

-- True if the first `n` bytes are the given request head, with at most 64 headers in at most 8,192
-- bytes.
pub record IsHead (bytes : List ℕ) (n : ℕ) (h : RequestHead) : Type 0 where
  pub reads : ReadsRequest bytes h (drop n bytes)
  pub inside : n ≤ length bytes
  pub size : n ≤ 8192
  pub count : length h.fields ≤ 64

-- True if the bytes do not begin with a request head of at most 8,192 bytes and 64 headers.
abbrev pub HasNoHead : List ℕ → Type 0
HasNoHead bytes = (n : ℕ) (h : RequestHead) → IsHead bytes n h → ⊥

-- The first 8,192 bytes of the received bytes. A request head within the limits ends in these
-- bytes.
abbrev pub front_of : List ℕ → List ℕ
front_of bytes = take 8192 bytes

-- True if the bytes do not begin with a request head within the limits, and more bytes cannot
-- complete one. Either the first 8,192 bytes have the empty line that ends a head, or there are
-- 8,192 bytes without that line.
pub record IsBadHead (bytes : List ℕ) : Type 0 where
  pub none : HasNoHead bytes
  pub over : (has_head_end (front_of bytes) ≡ true) ⊎ (8192 ≤ length bytes)

-- True if the bytes have no end of a request head, but are fewer than 8,192 bytes, the limit of a
-- head. More bytes can therefore complete a head.
pub record IsOpenHead (bytes : List ℕ) : Type 0 where
  pub none : HasNoHead bytes
  pub goes_on : has_head_end (front_of bytes) ≡ false
  pub size : length bytes < 8192

-- True if the first 8,192 bytes have no end of a request head, or more than 64 lines follow the
-- request line.
abbrev pub is_past_limits : List ℕ → Bool
is_past_limits bytes =
    not (has_head_end (front_of bytes)) || nat_lt 65 (length (lines_of_head (front_of bytes)))

-- True if the spans (byte ranges) of the parsed head `at` select the method, the target and the
-- headers of the request head `h` from the bytes.
pub record Covers (bytes : List ℕ) (at : Head) (h : RequestHead) : Type 0 where
  pub method : span_bytes bytes at.method ≡ h.method
  pub target : span_bytes bytes at.target ≡ h.target
  pub headers : AreFieldsAt bytes at.headers at.count h.fields

-- True if all spans of the parsed request head lie within the bytes.
pub record IsPlaced (bytes : List ℕ) (at : Head) : Type 0 where
  pub method : IsWithin (length bytes) at.method
  pub target : IsWithin (length bytes) at.target
  pub count : at.count ≤ 64
  pub len : at.len ≤ length bytes
  pub headers : All (IsHeaderWithin (length bytes)) (take at.count at.headers)

-- True if the bytes begin with a request head within the limits for its size and number of headers,
-- and `at` has the spans of the head's parts.
abbrev pub IsHeadAt : List ℕ → Head → Type 0
IsHeadAt bytes at =
    ((h : RequestHead) × (IsHead bytes at.len h × Covers bytes at h)) × IsPlaced bytes at

-- True if the state is the result of parsing the bytes: an incomplete head, a head past the limits,
-- a malformed head, or a complete head.
abbrev pub Looks : List ℕ → HeadState → Type 0
Looks bytes Open = IsOpenHead bytes
Looks bytes TooLarge = IsBadHead bytes × (is_past_limits bytes ≡ true)
Looks bytes NoHead = IsBadHead bytes × (is_past_limits bytes ≡ false)
Looks bytes (Whole at) = IsHeadAt bytes at

-- True if the request head is still incomplete.
abbrev pub is_open : HeadState → Bool
is_open Open = true
is_open TooLarge = false
is_open NoHead = false
is_open (Whole at) = false
