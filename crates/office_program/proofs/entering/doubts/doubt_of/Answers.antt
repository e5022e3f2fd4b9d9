use Rattle.std.proofs.Common.{◌≡◌, inl, inr, refl, false, not, List, ℕ, Ok, ap, sym, ◌∙◌}
use Rattle.std.specs.Prelude.{is_some}
use Rattle.std.specs.Option.{option_and_then}
use Rattle.office_books.specs.History.{corrected_at, facts_of}
use Rattle.office_books.specs.Repeats.{repeat_of}
use Rattle.office_program.specs.Entering.Doubts.{doubted_in}
use Rattle.office_program.specs.Entering.Marks.{is_marked}
use Rattle.office_program.proofs.EnteringLemmas.Doubts.{doubt_is, entryless_undoubted, kept_undoubted, marked_undoubted, row_failed, row_found, row_missing, reported_on}
use Rattle.office_program.proofs.entering.doubts.doubt_of.Goals as goal

pub returns-then-is_marked-clause-reports : goal.returns-then-is_marked-clause-reports
returns-then-is_marked-clause-reports g c = λ past stands clean.
    let asked = c.args.asked.now in
    let marked = sym (ap is_marked c.as_slice.ensures) ∙ sym c.is_marked.ensures.marked ∙ c.if-is_marked.true in
    record { stands = stands; reported = inl (ap Ok (sym (marked_undoubted (facts_of past) c.args.at asked marked)), refl) }

pub returns-then-is_none-clause-reports : goal.returns-then-is_none-clause-reports
returns-then-is_none-clause-reports g c = λ past stands clean.
    let asked = c.args.asked.now in
    let none : is_some (corrected_at asked.command) ≡ false =
    sym (ap is_some c.corrected_at-register.ensures) ∙ c.is_none.ensures ∙ ap not c.if-is_none.true in
    record { stands = stands; reported = inl (ap Ok (sym (entryless_undoubted (facts_of past) c.args.at asked none)), refl) }

pub returns-in-Ok-clause-reports : goal.returns-in-Ok-clause-reports
returns-in-Ok-clause-reports g c = λ past stands clean.
    let asked = c.args.asked.now in
    let facts = facts_of past in
    let found = row_found _ _ _ _ (c.in-Ok.ensures.found past stands clean) in
    let kept = sym (ap (λ (bytes : List ℕ). option_and_then (λ name. repeat_of facts name asked.number bytes) asked.caller) c.as_slice-2.ensures) ∙ found.0 in
    record { stands = c.in-Ok.ensures.asks.stands past stands; reported = inl (ap Ok (sym (kept_undoubted facts c.args.at asked _ kept)), found.1) }

pub returns-in-NotFound-clause-reports : goal.returns-in-NotFound-clause-reports
returns-in-NotFound-clause-reports g c = λ past stands clean.
    let asked = c.args.asked.now in
    let facts = facts_of past in
    let was = c.doubted_in.ensures.lasts.clean clean in
    let none = row_missing _ _ _ c.in-Err.why c.in-NotFound.is (c.in-Err.ensures.found past stands was) in
    let new = sym (ap (λ (bytes : List ℕ). option_and_then (λ name. repeat_of facts name asked.number bytes) asked.caller) c.as_slice-2.ensures) ∙ none.0 in
    let unmarked = sym (ap is_marked c.as_slice.ensures) ∙ sym c.is_marked.ensures.marked ∙ c.if-is_marked.false in
    let same = ap (doubted_in facts c.args.at asked.command) c.corrected_at-register.ensures ∙ sym (doubt_is facts c.args.at asked new unmarked) in
    reported_on g.B.Books.ledger past _ _ _ c.doubted_in.new.office _ _ c.doubted_in.result none.1 same
    (c.doubted_in.ensures.reports past (c.in-Err.ensures.asks.stands past stands) clean)

pub returns-in-NotFound-clause-lasts : goal.returns-in-NotFound-clause-lasts
returns-in-NotFound-clause-lasts g c =
    let asks = c.in-Err.ensures.asks in
    let lasts = c.doubted_in.ensures.lasts in
    record { clean = λ clean. asks.clean (lasts.clean clean); zone = lasts.zone ∙ asks.zone }

pub returns-in_default-clause-reports : goal.returns-in_default-clause-reports
returns-in_default-clause-reports g c = λ past stands clean.
    record {
      stands = c.in-Err.ensures.asks.stands past stands;
      reported = inr (row_failed _ _ _ c.in-Err.why c.in_default.not-NotFound (c.in-Err.ensures.found past stands clean));
    }
