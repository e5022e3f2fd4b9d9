-- The lemma that appending the printed lines of an audit one by one gives the complete printed
-- text.
use Rattle.std.proofs.Common.{◌≡◌, ◌+◌, ◌<◌, ◌≤◌, ℕ, suc, List, drop, length, get_or, sym, ap, ◌∙◌, add-one}
use Rattle.std.proofs.Math.Seq.{drop-cons}
use Rattle.std.proofs.Math.ListN.{drop_of_length-le}
use Rattle.table_audit.specs.declared.findings.Finding.{Finding}
use Rattle.table_audit.specs.Texts.{with_line, with_lines}

pub one_line : (findings : List Finding) (i : ℕ) (finding : Finding) (text next all : List ℕ) → i < length findings → finding ≡ get_or findings i finding
    → with_lines text (drop i findings) ≡ all → next ≡ with_line text finding → with_lines next (drop (i + 1) findings) ≡ all
one_line findings i finding text next all inside is so_far put =
    ap (λ (t : List ℕ). with_lines t (drop (i + 1) findings)) put
    ∙ ap (λ n. with_lines (with_line text finding) (drop n findings)) (add-one i)
    ∙ ap (λ (f : Finding). with_lines (with_line text f) (drop (suc i) findings)) is
    ∙ ap (λ (fs : List Finding). with_lines text fs) (sym (drop-cons findings i finding inside)) ∙ so_far

pub all_lines : (findings : List Finding) (i : ℕ) (text all : List ℕ) → length findings ≤ i → with_lines text (drop i findings) ≡ all → text ≡ all
all_lines findings i text all past so_far =
    sym (ap (λ (fs : List Finding). with_lines text fs) (drop_of_length-le findings past)) ∙ so_far
