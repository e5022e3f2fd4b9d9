-- Lemmas: entries that are added after a meter's last entry leave the energy of all quarter hours
-- before that of the last entry unchanged.
use Rattle.std.proofs.Common.{◌≡◌, ℕ, ◌+◌, ◌<◌, ◌≤◌, ◌==◌, nat_lt, nat_le, Bool, true, false, cond, ◌&&◌, List, [], ◌∷◌, ◌++◌, refl, sym, ap, ◌∙◌, inl, inr, arith}
use Rattle.std.specs.Prelude.{All}
use Rattle.std.proofs.lemmas.Bool.{cases_Bool, cond-true, cond-false, eqb-true}
use Rattle.std.proofs.lemmas.Bool.Decides.{nat_tests}
use Rattle.std.proofs.lemmas.List.Elements.{All-head, All-tail}
use Rattle.energy_core.specs.declared.entries.Entry.{Entry}
use Rattle.energy_core.specs.declared.entries.Step.{Step}
use Rattle.energy_core.specs.Account.{step_to, AllFollow}
use Rattle.interval_core.specs.declared.shares.Share.{Share}
use Rattle.interval_core.specs.Share.{shares_of}
use Rattle.interval_core.specs.Account.{SharesAddUp}
use Rattle.meter_journal.specs.declared.lines.Installed.{Installed}
use Rattle.meter_journal.specs.Books.{last_after, steps_after}
use Rattle.meter_journal.specs.Changes.{LiesWithin}
use Rattle.meter_journal.specs.Intervals.{with_shares, rows_of_steps}
use Rattle.meter_journal.proofs.Chains.{last_moment}
use Rattle.meter_journal.proofs.Merging.{Above, Among, Rising, contains_of}
use Rattle.office_books.specs.Spans.{rows_within}
use Rattle.office_books.specs.declared.spans.Span.TheVariants.{Between}
use Rattle.run_http.specs.Copies.{rows_before, quarter_of}

-- States that all interval rows (energies of quarter hours) start at the time `moment` or later.
abbrev pub StartFrom : (moment : ℕ) → List Share → Type 0
StartFrom moment [] = Unit {0}
StartFrom moment (share ∷ shares) = (moment ≤ share.start) × StartFrom moment shares

pub not_before : (moment start : ℕ) → moment ≤ start → nat_lt start moment ≡ false
not_before moment start le = grind (arith, nat_tests, le)

none_before : (moment : ℕ) (shares : List Share) → StartFrom moment shares → rows_before moment shares ≡ []
none_before moment [] h = refl
none_before moment (share ∷ shares) h = cond-false _ _ _ (not_before moment share.start h.0) ∙ none_before moment shares h.1

joined_after : (moment : ℕ) (row share : Share) (shares : List Share) (b : Bool) → row.start == share.start ≡ b → StartFrom moment (share ∷ shares)
    → rows_before moment (cond b (record { start = row.start; mwh = row.mwh + share.mwh } ∷ shares) (row ∷ share ∷ shares)) ≡ rows_before moment (row ∷ [])
joined_after moment row share shares true e h =
    let is : row.start ≡ share.start = eqb-true row.start share.start e in
    let le : nat_lt row.start moment ≡ false = not_before moment row.start (omega (arith, is, h.0)) in
    cond-false _ _ _ le ∙ none_before moment shares h.1 ∙ sym (cond-false _ _ _ le)
joined_after moment row share shares false e h =
    ap (λ rs. cond (nat_lt row.start moment) (row ∷ rs) rs) (none_before moment (share ∷ shares) h)

-- If added interval rows (energies of quarter hours) all start at the time `moment` or later, then
-- the existing rows before `moment` are unchanged.
shares_leave : (moment : ℕ) (rows shares : List Share) → StartFrom moment shares → rows_before moment (with_shares rows shares) ≡ rows_before moment rows
shares_leave moment [] shares h = none_before moment shares h
shares_leave moment (row ∷ []) [] h = refl
shares_leave moment (row ∷ []) (share ∷ shares) h = joined_after moment row share shares (row.start == share.start) refl h
shares_leave moment (row ∷ next ∷ rows) shares h =
    ap (λ rs. cond (nat_lt row.start moment) (row ∷ rs) rs) (shares_leave moment (next ∷ rows) shares h)

all_from : (moment : ℕ) (shares : List Share) → ((s : ℕ) → Among s shares → moment ≤ s) → StartFrom moment shares
all_from moment [] h = tt
all_from moment (share ∷ shares) h = (h share.start (inl refl), all_from moment shares (λ s there. h s (inr there)))

-- If a step (the time between two entries) begins at `moment` or later, its interval rows start at
-- the quarter hour of `moment` or later.
shares_start : SharesAddUp → (step : Step) (moment : ℕ) → step.from < step.till → moment ≤ step.from → StartFrom (quarter_of moment) (shares_of step)
shares_start law step moment forward le =
    all_from (quarter_of moment) (shares_of step) (λ s there.
    let touches = ((law step forward).touched s).0 (contains_of s (shares_of step) there) in
    omega (arith, touches.0, touches.2, le))

pub last_later : (meter : Installed) (es base : List Entry) → AllFollow meter.range meter.opening (es ++ base)
    → (last_after meter base).at ≤ (last_after meter (es ++ base)).at
last_later meter [] base h = omega arith
last_later meter (e ∷ es) base h = omega (arith, h.0.later, last_moment meter e (es ++ base), last_later meter es base h.1)

-- If entries are added after a meter's last entry, then the interval rows before the quarter hour
-- of that last entry are unchanged.
pub entries_leave : SharesAddUp → (meter : Installed) (es base : List Entry) → AllFollow meter.range meter.opening (es ++ base)
    → let moment = quarter_of (last_after meter base).at in
    rows_before moment (rows_of_steps (steps_after meter (es ++ base))) ≡ rows_before moment (rows_of_steps (steps_after meter base))
entries_leave law meter [] base h = refl
entries_leave law meter (e ∷ es) base h =
    let step : Step = step_to meter.range (last_after meter (es ++ base)) e in
    shares_leave (quarter_of (last_after meter base).at) (rows_of_steps (steps_after meter (es ++ base))) (shares_of step)
    (shares_start law step (last_after meter base).at h.0.later (last_later meter es base h.1))
    ∙ entries_leave law meter es base h.1

before_row : (moment from : ℕ) (row : Share) (rows : List Share) → from ≤ moment
    → rows_before from (cond (nat_lt row.start moment) (row ∷ rows) rows) ≡ cond (nat_lt row.start from) (row ∷ rows_before from rows) (rows_before from rows)
before_row moment from row rows le =
    elim (cases_Bool (nat_lt row.start moment)) [
      | inl e ↦ ap (rows_before from) (cond-true _ _ _ e)
      | inr e ↦
          let ge : moment ≤ row.start = grind (arith, nat_tests, e) in
          ap (rows_before from) (cond-false _ _ _ e) ∙ sym (cond-false _ _ _ (not_before from row.start (omega (arith, ge, le))))
    ]

-- If only the interval rows (energies of quarter hours) before the time `moment` are kept, then no
-- row before an earlier time is lost.
pub before_earlier : (moment from : ℕ) (rows : List Share) → from ≤ moment → rows_before from (rows_before moment rows) ≡ rows_before from rows
before_earlier moment from [] le = refl
before_earlier moment from (row ∷ rows) le =
    before_row moment from row (rows_before moment rows) le
    ∙ ap (λ rs. cond (nat_lt row.start from) (row ∷ rs) rs) (before_earlier moment from rows le)

-- Lemmas: interval rows (energies of quarter hours) in order of time are split at a given time into
-- earlier and later rows.

pub none_start : (moment start : ℕ) (rows : List Share) → moment ≤ start → Above start rows → StartFrom moment rows
none_start moment start [] le h = tt
none_start moment start (row ∷ rows) le h = (omega (arith, le, h.0), none_start moment start rows le h.1)

-- States that all interval rows (energies of quarter hours) start before the time `till`.
abbrev pub StartBefore : (till : ℕ) → List Share → Type 0
StartBefore till [] = Unit {0}
StartBefore till (row ∷ rows) = (row.start < till) × StartBefore till rows

is_within : (from till start : ℕ) → from ≤ start → start < till → nat_le from start && nat_lt start till ≡ true
is_within from till start le lt =
    let low : nat_le from start ≡ true = grind (arith, nat_tests, le) in
    let high : nat_lt start till ≡ true = grind (arith, nat_tests, lt) in ap (λ b. b && nat_lt start till) low ∙ high

all_others : (moment till : ℕ) (rows : List Share) → StartFrom moment rows → StartBefore till rows → rows_within (Between moment till) rows ≡ rows
all_others moment till [] h before = refl
all_others moment till (row ∷ rows) h before =
    cond-true _ _ _ (is_within moment till row.start h.0 before.0) ∙ ap (λ rs. row ∷ rs) (all_others moment till rows h.1 before.1)

pub rows_part : (moment till : ℕ) (rows : List Share) → Rising rows → StartBefore till rows
    → rows ≡ rows_before moment rows ++ rows_within (Between moment till) rows
rows_part moment till [] h before = refl
rows_part moment till (row ∷ rows) h before =
    elim (cases_Bool (nat_lt row.start moment)) [
      | inl e ↦
          let low : nat_le moment row.start ≡ false = grind (arith, nat_tests, e) in
          let off : nat_le moment row.start && nat_lt row.start till ≡ false = ap (λ b. b && nat_lt row.start till) low in
          ap (λ rs. row ∷ rs) (rows_part moment till rows h.1 before.1)
          ∙ ap (λ rs. row ∷ rows_before moment rows ++ rs) (sym (cond-false _ _ _ off))
          ∙ ap (λ rs. rs ++ rows_within (Between moment till) (row ∷ rows)) (sym (cond-true _ _ _ e))
      | inr e ↦
          let le : moment ≤ row.start = grind (arith, nat_tests, e) in
          let from : StartFrom moment (row ∷ rows) = (le, none_start moment row.start rows le h.0) in
          sym (all_others moment till (row ∷ rows) from before)
          ∙ ap (λ rs. rs ++ rows_within (Between moment till) (row ∷ rows)) (sym (none_before moment (row ∷ rows) from))
    ]

pub all_before : (opened last till : ℕ) (rows : List Share) → All (LiesWithin opened last) rows → last ≤ till → StartBefore till rows
all_before opened last till [] h le = tt
all_before opened last till (row ∷ rows) h le =
    let within = (All-head (LiesWithin opened last) row rows h).before in
    (omega (arith, within, le), all_before opened last till rows (All-tail (LiesWithin opened last) row rows h) le)
