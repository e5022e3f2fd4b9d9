-- The lemma that appending the JSON objects of an audit one by one gives all of its JSON
-- objects.
use Rattle.std.proofs.Common.{◌≡◌, ◌+◌, ◌<◌, ◌≤◌, ℕ, suc, List, drop, length, get_or, sym, ap, ◌∙◌, add-one}
use Rattle.std.proofs.Math.Seq.{drop-cons}
use Rattle.std.proofs.Math.ListN.{drop_of_length-le}
use Rattle.table_audit.specs.declared.findings.Finding.{Finding}
use Rattle.table_audit.specs.JsonTexts.{with_object, with_objects}

pub one_object : (findings : List Finding) (i : ℕ) (finding : Finding) (text next all : List ℕ) → i < length findings → finding ≡ get_or findings i finding
    → with_objects text (drop i findings) ≡ all → next ≡ with_object text finding → with_objects next (drop (i + 1) findings) ≡ all
one_object findings i finding text next all inside is so_far put =
    ap (λ (t : List ℕ). with_objects t (drop (i + 1) findings)) put
    ∙ ap (λ n. with_objects (with_object text finding) (drop n findings)) (add-one i)
    ∙ ap (λ (f : Finding). with_objects (with_object text f) (drop (suc i) findings)) is
    ∙ ap (λ (fs : List Finding). with_objects text fs) (sym (drop-cons findings i finding inside)) ∙ so_far

pub all_objects : (findings : List Finding) (i : ℕ) (text all : List ℕ) → length findings ≤ i → with_objects text (drop i findings) ≡ all → text ≡ all
all_objects findings i text all past so_far =
    sym (ap (λ (fs : List Finding). with_objects text fs) (drop_of_length-le findings past)) ∙ so_far
