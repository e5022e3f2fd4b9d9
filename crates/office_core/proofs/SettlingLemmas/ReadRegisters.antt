-- Proof that the response to a Modbus read adds no records for an accounting register (a named
-- energy counter) whose Modbus registers the read does not cover.
use Rattle.std.proofs.Common.{◌≡◌, ℕ, List, [], ◌∷◌, ◌++◌, inl, inr, refl, sym, ap, ◌∙◌}
use Rattle.std.specs.List.{filter}
use Rattle.std.proofs.lemmas.Bool.{cases_Bool, cond-true, cond-false}
use Rattle.office_events.specs.declared.facts.Fact.{Fact}
use Rattle.office_events.specs.declared.facts.Poll.{Poll}
use Rattle.office_events.specs.declared.facts.Register.{Register}
use Rattle.office_events.specs.declared.answers.Note.{Note}
use Rattle.office_books.specs.Readings.{is_read_by, with_register, with_registers}
use Rattle.office_books.specs.Notes.{register_notes, registers_notes}

-- The readings in a response, over all accounting registers (named energy counters) of the device,
-- equal the readings of the registers that the read covers.
pub with_read : (at : ℕ) (poll : Poll) (words : List ℕ) (registers : List Register) (facts : List Fact)
    → with_registers at poll words (filter (is_read_by poll.span) registers) facts ≡ with_registers at poll words registers facts
with_read at poll words [] facts = refl
with_read at poll words (r ∷ rs) facts =
    elim (cases_Bool (is_read_by poll.span r)) [
      | inl e ↦
          let chosen : filter (is_read_by poll.span) (r ∷ rs) ≡ r ∷ filter (is_read_by poll.span) rs = cond-true _ _ _ e in
          ap (λ (xs : List Register). with_registers at poll words xs facts) chosen ∙ with_read at poll words rs (with_register at poll words r facts)
      | inr e ↦
          let dropped : filter (is_read_by poll.span) (r ∷ rs) ≡ filter (is_read_by poll.span) rs = cond-false _ _ _ e in
          let unread : with_register at poll words r facts ≡ facts = cond-false _ _ _ e in
          ap (λ (xs : List Register). with_registers at poll words xs facts) dropped ∙ with_read at poll words rs facts
          ∙ ap (λ (fs : List Fact). with_registers at poll words rs fs) (sym unread)
    ]

-- The notifications for a response, over all accounting registers (named energy counters) of the
-- device, equal the notifications for the registers that the read covers.
pub reported_read : (at : ℕ) (poll : Poll) (words : List ℕ) (registers : List Register) (facts : List Fact)
    → registers_notes at poll words (filter (is_read_by poll.span) registers) facts ≡ registers_notes at poll words registers facts
reported_read at poll words [] facts = refl
reported_read at poll words (r ∷ rs) facts =
    elim (cases_Bool (is_read_by poll.span r)) [
      | inl e ↦
          let chosen : filter (is_read_by poll.span) (r ∷ rs) ≡ r ∷ filter (is_read_by poll.span) rs = cond-true _ _ _ e in
          ap (λ (xs : List Register). registers_notes at poll words xs facts) chosen
          ∙ ap (λ (ns : List Note). register_notes at poll words r facts ++ ns) (reported_read at poll words rs (with_register at poll words r facts))
      | inr e ↦
          let dropped : filter (is_read_by poll.span) (r ∷ rs) ≡ filter (is_read_by poll.span) rs = cond-false _ _ _ e in
          let unread : with_register at poll words r facts ≡ facts = cond-false _ _ _ e in
          let untold : register_notes at poll words r facts ≡ [] = cond-false _ _ _ e in
          ap (λ (xs : List Register). registers_notes at poll words xs facts) dropped ∙ reported_read at poll words rs facts
          ∙ ap (λ (fs : List Fact). registers_notes at poll words rs fs) (sym unread)
          ∙ ap (λ (ns : List Note). ns ++ registers_notes at poll words rs (with_register at poll words r facts)) (sym untold)
    ]
