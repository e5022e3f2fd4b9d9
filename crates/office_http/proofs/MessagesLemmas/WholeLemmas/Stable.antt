-- Lemmas: a complete request head does not change when more bytes arrive.
use Rattle.std.proofs.Common.{◌≡◌, ◌∙◌, ℕ, ◌+◌, ◌-◌, ◌<◌, ◌≤◌, List, [], ◌∷◌, ◌++◌, length, take, drop, map, Option, inl, inr, refl, sym, ap, subst, arith, append_assoc, length-drop, length-append}
use Rattle.std.specs.Prelude.{All}
use Rattle.std.proofs.lemmas.List.{drop-append-le, take-append-le}
use Rattle.std.proofs.lemmas.List.Elements.{All-head, All-tail}
use Rattle.httparse.specs.Grammar.{ReadsRequest}
use Rattle.httparse.specs.Spans.{IsHeaderWithin, IsWithin, header_bytes, span_bytes}
use Rattle.httparse.specs.declared.spans.HeaderSpan.{HeaderSpan}
use Rattle.httparse.specs.declared.spans.Span.{Span}
use Rattle.httparse.proofs.GrammarLemmas.{ReadsRequest-append}
use Rattle.office_http.specs.Messages.Head.Heads.{IsHeadAt, IsOpenHead}
use Rattle.office_http.specs.declared.messages.head.head.Head.{Head}
use Rattle.office_http.proofs.MessagesLemmas.ReadingLemmas.Coming.{Came-then}
use Rattle.office_http.specs.Messages.Reading.HeadAndBody.{StopsAtOnce}
use Rattle.office_http.specs.Messages.Reading.Taking.{Came, brought, bytes_in}
use Rattle.office_http.specs.declared.messages.reading.inbox.Inbox.{Inbox}
use Rattle.mb_wire.specs.declared.link.LastTake.{LastTake}
use Rattle.office_http.specs.Messages.HeadTests.{start_at}
use Rattle.office_http.specs.Messages.Routing.Routes.{Table}
use Rattle.office_http.specs.Messages.Whole.Whole.{IsUnfinished, IsWhole, LacksBody, body_size}

span_stays : (a b : List ℕ) (s : Span) → IsWithin (length a) s → span_bytes (a ++ b) s ≡ span_bytes a s
span_stays a b s h =
    let from : s.start ≤ length a = omega (arith, h.0, h.1) in
    let few : s.end - s.start ≤ length (drop s.start a) = omega (arith, h.0, h.1, length-drop s.start a) in
    ap (take (s.end - s.start)) (drop-append-le s.start a b from) ∙ take-append-le (s.end - s.start) (drop s.start a) b few

headers_stay : (a b : List ℕ) (hs : List HeaderSpan) → All (IsHeaderWithin (length a)) hs → map (header_bytes (a ++ b)) hs ≡ map (header_bytes a) hs
headers_stay a b [] h = refl
headers_stay a b (x ∷ hs) h =
    let here = All-head (IsHeaderWithin (length a)) x hs h in
    let name = span_stays a b x.name here.0 in
    let value = span_stays a b x.value here.1 in
    let one : header_bytes (a ++ b) x ≡ header_bytes a x = λ i. (name i, value i) in
    ap (λ p. p ∷ map (header_bytes (a ++ b)) hs) one ∙ ap (λ t. header_bytes a x ∷ t) (headers_stay a b hs (All-tail (IsHeaderWithin (length a)) x hs h))

within_more : (m n : ℕ) (s : Span) → m ≤ n → IsWithin m s → IsWithin n s
within_more m n s le h = (h.0, omega (arith, h.1))

pub start_stays : (a b : List ℕ) (at : Head) → IsHeadAt a at → start_at (a ++ b) at ≡ start_at a at
start_stays a b at x =
    let method = span_stays a b at.method x.1.method in
    let target = span_stays a b at.target x.1.target in
    let headers = headers_stay a b (take at.count at.headers) x.1.headers in
    λ i. record { method = method i; target = target i; headers = headers i }

pub head_stays : (a b : List ℕ) (at : Head) → IsHeadAt a at → IsHeadAt (a ++ b) at
head_stays a b at x =
    let h = x.0.0 in
    let longer : length a ≤ length (a ++ b) = omega (arith, length-append a b) in
    let rest : drop at.len (a ++ b) ≡ drop at.len a ++ b = drop-append-le at.len a b x.1.len in (
      (
        h,
        (
          record {
            reads = subst (λ r. ReadsRequest (a ++ b) h r) (sym rest) (ReadsRequest-append a h (drop at.len a) b x.0.1.0.reads);
            inside = omega (arith, x.1.len);
            size = x.0.1.0.size;
            count = x.0.1.0.count;
          },
          record {
            method = span_stays a b at.method x.1.method ∙ x.0.1.1.method;
            target = span_stays a b at.target x.1.target ∙ x.0.1.1.target;
            headers = headers_stay a b (take at.count at.headers) x.1.headers ∙ x.0.1.1.headers;
          },
        ),
      ),
      record {
        method = within_more _ _ at.method longer x.1.method;
        target = within_more _ _ at.target longer x.1.target;
        count = x.1.count;
        len = omega (arith, x.1.len);
        headers = λ k d lt. (within_more _ _ _ longer (x.1.headers k d lt).0, within_more _ _ _ longer (x.1.headers k d lt).1);
      },
    )

-- The size of a request's body does not change when more bytes arrive.
size_stays : (table : Table) (mid new seen : List ℕ) (s t : Option (List ℕ)) (at : Head) (size : ℕ) → seen ≡ mid → size ≡ body_size table (start_at seen at) → IsHeadAt mid at → Came mid new s t → size ≡ body_size table (start_at new at)
size_stays table mid new seen s t at size same is head came =
    is ∙ ap (λ b. body_size table (start_at b at)) same ∙ ap (body_size table) (sym (start_stays mid came.chunk at head)) ∙ ap (λ b. body_size table (start_at b at)) (sym came.bytes)

pub whole : (table : Table) (old mid new seen : List ℕ) (r s t : Option (List ℕ)) (at : Head) (size : ℕ) → Came old mid r s → IsHeadAt mid at → seen ≡ mid → size ≡ body_size table (start_at seen at)
    → Came mid new s t → at.len + size ≤ length new → Came old new r t × IsWhole table new at
whole table old mid new seen r s t at size first head same is came enough = (
  Came-then old mid new r s t first came,
  record {
    head = subst (λ b. IsHeadAt b at) (sym came.bytes) (head_stays mid came.chunk at head);
    body = subst (λ n. at.len + n ≤ length new) (size_stays table mid new seen s t at size same is head came) enough;
  },
)

pub lacks : (table : Table) (old mid new seen : List ℕ) (r s t : Option (List ℕ)) (at : Head) (size : ℕ) → Came old mid r s → IsHeadAt mid at → seen ≡ mid → size ≡ body_size table (start_at seen at)
    → Came mid new s t → length new < at.len + size → LacksBody table new
lacks table old mid new seen r s t at size first head same is came few = record {
  at = at;
  head = subst (λ b. IsHeadAt b at) (sym came.bytes) (head_stays mid came.chunk at head);
  body = subst (λ n. length new < at.len + n) (size_stays table mid new seen s t at size same is head came) few;
}

-- If received bytes have a complete request head, but fewer bytes follow than the request's body
-- has, then they lack a part of the body.
lacks_still : (table : Table) (mid earlier seen : List ℕ) (at : Head) (size : ℕ) → seen ≡ mid → size ≡ body_size table (start_at seen at) → IsHeadAt mid at
    → length (mid ++ earlier) < at.len + size → LacksBody table (mid ++ earlier)
lacks_still table mid earlier seen at size same is head few =
    let start : body_size table (start_at (mid ++ earlier) at) ≡ size = ap (body_size table) (start_stays mid earlier at head) ∙ ap (λ b. body_size table (start_at b at)) (sym same) ∙ sym is in
    record { at = at; head = head_stays mid earlier at head; body = omega (arith, few, start) }

-- If a request has no body, the buffer makes no further read after the request's head is complete.
pub stops_at_head : (table : Table) (old new : Inbox) (was now : Option LastTake) → StopsAtOnce IsOpenHead old new was now → StopsAtOnce (IsUnfinished table) old new was now
stops_at_head table old new was now (inl none) = inl none
stops_at_head table old new was now (inr some) = inr record {
  earlier = some.earlier;
  chunk = some.chunk;
  goes_on = inl some.goes_on;
  bytes = some.bytes;
  size = some.size;
}

-- Suppose that the buffer makes no read after the request's head is complete, and none after the
-- body is complete. Then it makes none after the complete request.
pub stops_at_body : (table : Table) (old mid new : Inbox) (seen chunk : List ℕ) (was then now : Option LastTake) (at : Head) (size : ℕ) → bytes_in mid ≡ bytes_in old ++ chunk → IsHeadAt (bytes_in mid) at
    → seen ≡ bytes_in mid → size ≡ body_size table (start_at seen at) → StopsAtOnce IsOpenHead old mid was then → StopsAtOnce (λ bytes. length bytes < at.len + size) mid new then now
    → StopsAtOnce (IsUnfinished table) old new was now
stops_at_body table old mid new seen chunk was then now at size came head same is (inl none) (inl also) = inl record {
  takes = also.takes ∙ none.takes;
  bytes = also.bytes ∙ none.bytes;
  last = also.last ∙ none.last;
}
stops_at_body table old mid new seen chunk was then now at size came head same is (inr some) (inl also) = inr record {
  earlier = some.earlier;
  chunk = some.chunk;
  goes_on = inl some.goes_on;
  bytes = also.bytes ∙ some.bytes;
  size = some.size ∙ ap brought (sym also.last);
}
stops_at_body table old mid new seen chunk was then now at size came head same is first (inr last) =
    let order : bytes_in mid ++ last.earlier ≡ bytes_in old ++ (chunk ++ last.earlier) = ap (λ t. t ++ last.earlier) came ∙ append_assoc (bytes_in old) chunk last.earlier in
    inr record {
      earlier = chunk ++ last.earlier;
      chunk = last.chunk;
      goes_on = subst (IsUnfinished table) order (inr (lacks_still table (bytes_in mid) last.earlier seen at size same is head last.goes_on));
      bytes = last.bytes ∙ ap (λ t. t ++ last.chunk) order;
      size = last.size;
    }
