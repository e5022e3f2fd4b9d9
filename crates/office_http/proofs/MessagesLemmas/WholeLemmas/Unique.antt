-- Lemmas: the received bytes begin with at most one request.
use Rattle.std.proofs.Common.{◌≡◌, ◌∙◌, ℕ, List, length, take, drop, refl, sym, ap, arith, length-drop}
use Rattle.httparse.specs.Grammar.{RequestHead}
use Rattle.httparse.proofs.GrammarLemmas.{request_unique}
use Rattle.office_http.specs.Messages.Head.Heads.{IsHead, IsHeadAt, IsOpenHead}
use Rattle.office_http.specs.declared.messages.head.head.Head.{Head}
use Rattle.office_http.specs.Messages.HeadTests.{Start, start_at, start_of}
use Rattle.office_http.specs.Messages.Routing.Routes.{Table}
use Rattle.office_http.specs.Messages.Whole.Whole.{HoldsRequest, IsOneRequest, IsWhole, LacksBody, body_of, body_size}

pub head_unique : (bytes : List ℕ) (m n : ℕ) (h k : RequestHead) → IsHead bytes m h → IsHead bytes n k → (h ≡ k) × (m ≡ n)
head_unique bytes m n h k x y =
    let same = request_unique bytes h k (drop m bytes) (drop n bytes) x.reads y.reads in
    let rest : length (drop m bytes) ≡ length (drop n bytes) = ap length same.1 in
    (same.0, omega (arith, rest, x.inside, y.inside, length-drop m bytes, length-drop n bytes))

pub start_is : (bytes : List ℕ) (at : Head) (x : IsHeadAt bytes at) → start_at bytes at ≡ start_of x.0.0
start_is bytes at x =
    let method = x.0.1.1.method in
    let target = x.0.1.1.target in
    let headers = x.0.1.1.headers in
    λ i. record { method = method i; target = target i; headers = headers i }

-- Two request heads that were parsed from equal bytes have equal methods, targets, headers and
-- sizes.
pub start_one : (bytes : List ℕ) (a b : Head) → IsHeadAt bytes a → IsHeadAt bytes b → (start_at bytes a ≡ start_at bytes b) × (a.len ≡ b.len)
start_one bytes a b x y =
    let same = head_unique bytes a.len b.len x.0.0 y.0.0 x.0.1.0 y.0.1.0 in
    (start_is bytes a x ∙ ap start_of same.0 ∙ sym (start_is bytes b y), same.1)

-- Received bytes with only a part of the request's body contain no complete request.
pub lacks_not_whole : (table : Table) (bytes : List ℕ) (at : Head) → LacksBody table bytes → IsWhole table bytes at → ⊥
lacks_not_whole table bytes at l w =
    let one = start_one bytes l.at at l.head w.head in
    let size : body_size table (start_at bytes l.at) ≡ body_size table (start_at bytes at) = ap (body_size table) one.0 in
    omega (arith, l.body, w.body, one.1, size)

-- Received bytes with an incomplete head contain no complete request.
pub open_not_whole : (table : Table) (bytes : List ℕ) (at : Head) → IsOpenHead bytes → IsWhole table bytes at → ⊥
open_not_whole table bytes at o w = o.none at.len w.head.0.0 w.head.0.1.0

-- Received bytes with a complete head and body contain the request with this head and this body.
pub request_of_whole : (table : Table) (bytes : List ℕ) (at : Head) → IsWhole table bytes at → HoldsRequest table bytes (start_at bytes at) (body_of table bytes at)
request_of_whole table bytes at w = record {
  head = w.head.0.0;
  len = at.len;
  begins = w.head.0.1.0;
  is = start_is bytes at w.head;
  whole = w.body;
  body_is = refl;
}

-- Two requests that the same received bytes contain are equal.
pub one_request : (table : Table) (bytes : List ℕ) (start other_start : Start) (body other_body : List ℕ) → HoldsRequest table bytes start body → HoldsRequest table bytes other_start other_body
    → IsOneRequest start other_start body other_body
one_request table bytes start other_start body other_body x y =
    let same = head_unique bytes x.len y.len x.head y.head x.begins y.begins in
    let starts : start ≡ other_start = x.is ∙ ap start_of same.0 ∙ sym y.is in
    let bodies : take (body_size table start) (drop x.len bytes) ≡ take (body_size table other_start) (drop y.len bytes) =
    ap (λ s. take (body_size table s) (drop x.len bytes)) starts ∙ ap (λ n. take (body_size table other_start) (drop n bytes)) same.1 in
    record { one_start = starts; one_body = x.body_is ∙ bodies ∙ sym y.body_is }
