-- Proofs that a command that opens an office (the event engine) and enters an input (a text of
-- request lines) satisfies its contract `ReportsEntering`.
use Rattle.std.proofs.Common.{◌≡◌, inl, inr, ℕ, List, [], ◌∷◌, Option, Some, sym, ap, subst, ◌∙◌}
use Rattle.command_io.specs.Lines.{speaking_lines}
use Rattle.command_io.specs.declared.status.ExitStatus.{ExitStatus}
use Rattle.mb_wire.specs.Sockets.Clocks.{ReportsMoment, next_moment}
use Rattle.office_events.specs.Names.{named}
use Rattle.office_books.specs.History.{History, Opened}
use Rattle.office_books.specs.Ledgers.{Ledger}
use Rattle.office_core.specs.Standing.{After, books_in}
use Rattle.office_core.specs.Taking.{failures_of}
use Rattle.office_core.specs.declared.office.Office.{Office}
use Rattle.office_program.specs.Rounds.{round_state}
use Rattle.office_program.specs.Texts.OpenedOffice.{Opens, ReportsUnopened}
use Rattle.office_program.specs.Entering.Entered.{EntersLines, ReportsEntering}
use Rattle.office_program.specs.Entering.Lines.{Reporting}

-- The first timestamp of an input (a text of request lines) equals the clock's time when the event
-- engine was opened.
reported_at : (moments then : Option (List ℕ)) (listed : List ℕ) (following : Option (List ℕ)) (first at : ℕ) → ReportsMoment moments then first
    → listed ≡ first ∷ [] → ReportsMoment (Some listed) following at → at ≡ first
reported_at moments then listed following first at reported is opens = opens.0 ∙ ap next_moment is

-- If opening the event engine was refused, then entering an input (a text of request lines) prints
-- only the refusal.
pub unopened : {B : Type 0} (ledger : B → Ledger) (reports : Reporting) (past : History) (caller text : List ℕ) (moments then : Option (List ℕ)) (listed : List ℕ)
    (following : Option (List ℕ)) (first : ℕ) (books back : B) (had holds : Option (List ℕ)) (status : ExitStatus) → ReportsMoment moments then first → listed ≡ first ∷ []
    → ReportsUnopened past (Some listed) following (ledger books) (ledger back) status had holds
    → ReportsEntering ledger past reports caller text moments then books back had holds status
unopened ledger reports past caller text moments then listed following first books back had holds status reported is refused =
    let same = reported_at moments then listed following first refused.at reported is refused.timed in
    let P : ℕ → Type 0 = λ at. ReportsMoment moments then at in
    inl (record {
      at = refused.at;
      timed = subst P (sym same) reported;
      why = refused.why;
      refused = refused.refused;
      reported = refused.reported;
    })

kept : {B : Type 0} (ledger : B → Ledger) (left : Office B) (back : B) → back ≡ books_in left → (ledger back).is_clean
    → (ledger (books_in left)).is_clean
kept {B = B} ledger left back is clean = let P : B → Type 0 = λ b. (ledger b).is_clean in subst P is clean

-- If the event engine was opened and an input (a text of request lines) was entered, then the
-- command's contract `ReportsEntering` holds: the engine is in the state after these lines.
pub entered : {B W : Type 0} (ledger : B → Ledger) (contents : W → Option (List ℕ)) (reports : Reporting) (past : History) (caller text : List ℕ) (name : Option (List ℕ))
    (moments then later : Option (List ℕ)) (listed : List ℕ) (following : Option (List ℕ)) (first : ℕ) (books back : B) (opened left : Office B) (before silent : W)
    (holds : Option (List ℕ)) (status : ExitStatus) → name ≡ named caller → ReportsMoment moments then first → listed ≡ first ∷ []
    → ((ledger (books_in opened)).is_clean → Opens ledger past (Some listed) following opened) → silent ≡ before
    → ((ledger (books_in left)).is_clean → (ledger (books_in opened)).is_clean)
    → After ledger opened left (EntersLines ledger reports name (speaking_lines text) first (round_state (contents silent) then (failures_of ledger opened))
    (round_state holds later (failures_of ledger left)) left status)
    → back ≡ books_in left → (ledger back).is_clean
    → ReportsEntering ledger past reports caller text moments later books back (contents before) holds status
entered {W = W} ledger contents reports past caller text name moments then later listed following first books back opened left before silent holds status names reported is opens same lasts enters handed clean =
    let whole = kept ledger left back handed clean in
    let opening = opens (lasts whole) in
    let at_first = reported_at moments then listed following first opening.at reported is opening.timed in
    let done = enters (Opened opening.at ∷ past) opening.stands whole in
    let P : Option (List ℕ) → Type 0 = λ n. EntersLines ledger reports n (speaking_lines text) first (round_state (contents silent) then (failures_of ledger opened))
    (round_state holds later (failures_of ledger left)) left status (Opened opening.at ∷ past) in
    let Q : ℕ → Type 0 = λ m. EntersLines ledger reports (named caller) (speaking_lines text) m (round_state (contents silent) then (failures_of ledger opened))
    (round_state holds later (failures_of ledger left)) left status (Opened opening.at ∷ past) in
    let R : W → Type 0 = λ w. EntersLines ledger reports (named caller) (speaking_lines text) opening.at (round_state (contents w) then (failures_of ledger opened))
    (round_state holds later (failures_of ledger left)) left status (Opened opening.at ∷ past) in
    let S : ℕ → Type 0 = λ m. ReportsMoment moments then m in
    inr (record {
      then = then;
      opened = opened;
      opens = record { at = opening.at; timed = subst S (sym at_first) reported; stands = opening.stands };
      left = left;
      does = subst R same (subst Q (sym at_first) (subst P names done));
      handed = handed;
    })
