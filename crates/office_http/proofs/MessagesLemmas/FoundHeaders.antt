-- Lemmas: the code and the specification agree on how often a request has a header: never, once or
-- more often.
use Rattle.std.proofs.Common.{◌≡◌, ◌≤◌, ℕ, List, [], ◌∷◌, length, refl, sym, ap, arith}
use Rattle.std.specs.Prelude.{codes}
use Rattle.office_http.specs.Messages.Head.Headers.{Gives, values_of}
use Rattle.office_http.specs.declared.messages.head.headers.Given.{Given}
use Rattle.office_http.specs.declared.messages.head.headers.Given.TheVariants.{Never, Once, Often}
use Rattle.office_http.specs.Messages.Seen.{seen, seen_headers}
use Rattle.office_http.specs.Messages.Tests.{Repeated, post_headers_of, times}

often : (values : List (List ℕ)) → 2 ≤ length values → Repeated ≡ times values
often [] h = absurd (omega arith)
often (v ∷ []) h = absurd (omega arith)
often (v ∷ w ∷ values) h = refl

pub times_is : (given : Given) (values : List (List ℕ)) → Gives given values → seen given ≡ times values
times_is Never values h = sym (ap times h)
times_is (Once value) values h = sym (ap times h)
times_is Often values h = often values h

pub headers_are : (t s c n : Given) (headers : List (List ℕ × List ℕ)) → Gives t (values_of (codes "transfer-encoding") headers) → Gives s (values_of (codes "content-length") headers)
    → Gives c (values_of (codes "office-caller") headers) → Gives n (values_of (codes "office-request") headers) → seen_headers t s c n ≡ post_headers_of headers
headers_are t s c n headers ht hs hc hn =
    let pt = times_is t _ ht in
    let ps = times_is s _ hs in
    let pc = times_is c _ hc in
    let pn = times_is n _ hn in
    λ i. record { transfer = pt i; size = ps i; caller = pc i; number = pn i }
