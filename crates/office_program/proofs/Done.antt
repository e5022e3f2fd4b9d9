-- Lemmas: if a command of `sunreg` (such as a report) opened an office (the event engine) over a
-- store and used it, the store and the output satisfy the command's contract.
use Rattle.std.proofs.Common.{◌≡◌, inr, ℕ, List, Option, ◌∷◌, subst}
use Rattle.command_io.specs.declared.status.ExitStatus.{ExitStatus}
use Rattle.office_events.specs.Names.{named}
use Rattle.office_books.specs.History.{History, Opened}
use Rattle.office_books.specs.Ledgers.{Ledger}
use Rattle.office_core.specs.Reopening.{asking_moment}
use Rattle.office_core.specs.Standing.{After, books_in}
use Rattle.office_core.specs.Taking.{failures_of}
use Rattle.office_core.specs.declared.office.Office.{Office}
use Rattle.office_program.specs.Texts.AskedOffice.{OpensToAsk}
use Rattle.office_program.specs.Texts.OpenedOffice.{Opens}
use Rattle.office_program.specs.Texts.Reports.{Asks, ReportPrints}
use Rattle.office_program.specs.Texts.EndTexts.{ReportsEnd}
use Rattle.office_program.specs.Report.{ReportsReport}
use Rattle.energy_report.specs.declared.form.ReportForm.{ReportForm}
use Rattle.office_program.specs.RangedReport.{AnswersRange}
use Rattle.office_program.specs.Texts.RangedReports.{RangePrints}
use Rattle.energy_report.specs.declared.form.StatementForm.{StatementForm}
use Rattle.interval_core.specs.declared.zone.Zone.{Zone}
use Rattle.office_program.specs.Statement.{ReportsStatement}
use Rattle.office_program.specs.Texts.Statements.{StatementPrints}
use Rattle.office_program.specs.HttpPort.{Port, ServesPort, ReportsServing}
use Rattle.office_program.specs.declared.http_port.ServeEnd.{ServeEnd}
use Rattle.office_program.specs.declared.http_port.ServeEnd.TheVariants.{Served, Unopened, NoPort, Broken}
use Rattle.office_program.specs.PortRound.{PollsPort, ReportsPolling}
use Rattle.office_program.specs.declared.port_round.PollEnd.{PollEnd}
use Rattle.office_program.specs.declared.port_round.PollEnd.TheVariants as polling

-- Suppose that the store that a command of `sunreg` returns is clean: no wrong result of the store
-- was used. Then the store was also clean directly after the command used the office (the event
-- engine).
kept : {B : Type 0} (ledger : B → Ledger) (left : Office B) (back : B) → back ≡ books_in left → (ledger back).is_clean
    → (ledger (books_in left)).is_clean
kept {B = B} ledger left back is clean = let P : B → Type 0 = λ b. (ledger b).is_clean in subst P is clean

pub as_reported : {B W : Type 0} (ledger : B → Ledger) (contents : W → Option (List ℕ)) (past : History) (register : List ℕ)
    (name : Option (List ℕ)) (moments later : Option (List ℕ)) (books back : B) (opened left : Office B) (before silent : W)
    (holds : Option (List ℕ)) (status : ExitStatus)
    → name ≡ named register
    → ((ledger (books_in opened)).is_clean → OpensToAsk ledger past moments later opened)
    → silent ≡ before
    → After ledger opened left (λ following. ReportsEnd (ReportPrints (ledger (books_in opened)).zone following name
    (failures_of ledger opened) (failures_of ledger left)) status (contents silent) holds)
    → Asks ledger opened left → back ≡ books_in left → (ledger back).is_clean
    → ReportsReport ledger past register moments later books back (contents before) holds status
as_reported {W = W} ledger contents past register name moments later books back opened left before silent holds status names opens same prints asks is clean =
    let whole = kept ledger left back is clean in
    let following = opens (asks.only.clean whole) in
    let P : W → Type 0 = λ w. ReportsEnd (ReportPrints (ledger (books_in opened)).zone (Opened (asking_moment past following.reported) ∷ past) name
    (failures_of ledger opened) (failures_of ledger left)) status (contents w) holds in
    let Q : Option (List ℕ) → Type 0 = λ n. ReportsEnd (ReportPrints (ledger (books_in opened)).zone (Opened (asking_moment past following.reported) ∷ past) n
    (failures_of ledger opened) (failures_of ledger left)) status (contents before) holds in
    inr (record {
      opened = opened;
      opens = following;
      left = left;
      does = record {
        prints = subst Q names (subst P same (prints _ following.stands whole));
        stands = asks.only.stands _ following.stands;
      };
      handed = is;
    })

pub range_reported : {B W : Type 0} (ledger : B → Ledger) (contents : W → Option (List ℕ)) (past : History) (register : List ℕ)
    (name : Option (List ℕ)) (form : ReportForm) (moments later : Option (List ℕ)) (books back : B) (opened left : Office B) (before silent : W)
    (holds : Option (List ℕ)) (status : ExitStatus)
    → name ≡ named register
    → ((ledger (books_in opened)).is_clean → OpensToAsk ledger past moments later opened)
    → silent ≡ before
    → After ledger opened left (λ following. ReportsEnd (RangePrints (ledger (books_in opened)).zone following name form
    (failures_of ledger opened) (failures_of ledger left)) status (contents silent) holds)
    → Asks ledger opened left → back ≡ books_in left → (ledger back).is_clean
    → AnswersRange ledger past register form moments later books back (contents before) holds status
range_reported {W = W} ledger contents past register name form moments later books back opened left before silent holds status names opens same prints asks is clean =
    let whole = kept ledger left back is clean in
    let following = opens (asks.only.clean whole) in
    let P : W → Type 0 = λ w. ReportsEnd (RangePrints (ledger (books_in opened)).zone (Opened (asking_moment past following.reported) ∷ past) name form
    (failures_of ledger opened) (failures_of ledger left)) status (contents w) holds in
    let Q : Option (List ℕ) → Type 0 = λ n. ReportsEnd (RangePrints (ledger (books_in opened)).zone (Opened (asking_moment past following.reported) ∷ past) n form
    (failures_of ledger opened) (failures_of ledger left)) status (contents before) holds in
    inr (record {
      opened = opened;
      opens = following;
      left = left;
      does = record {
        prints = subst Q names (subst P same (prints _ following.stands whole));
        stands = asks.only.stands _ following.stands;
      };
      handed = is;
    })

pub stated : {B W : Type 0} (ledger : B → Ledger) (contents : W → Option (List ℕ)) (past : History) (register : List ℕ)
    (name : Option (List ℕ)) (form : StatementForm) (zone : Zone) (moments later : Option (List ℕ)) (books back : B) (opened left : Office B)
    (before silent : W) (holds : Option (List ℕ)) (status : ExitStatus)
    → name ≡ named register → zone ≡ (ledger books).zone
    → ((ledger (books_in opened)).is_clean → OpensToAsk ledger past moments later opened)
    → silent ≡ before
    → After ledger opened left (λ following. ReportsEnd (StatementPrints zone following name form
    (failures_of ledger opened) (failures_of ledger left)) status (contents silent) holds)
    → Asks ledger opened left → back ≡ books_in left → (ledger back).is_clean
    → ReportsStatement ledger past register form moments later books back (contents before) holds status
stated {W = W} ledger contents past register name form zone moments later books back opened left before silent holds status names clocks opens same prints asks is clean =
    let whole = kept ledger left back is clean in
    let following = opens (asks.only.clean whole) in
    let P : W → Type 0 = λ w. ReportsEnd (StatementPrints zone (Opened (asking_moment past following.reported) ∷ past) name form
    (failures_of ledger opened) (failures_of ledger left)) status (contents w) holds in
    let Q : Option (List ℕ) → Type 0 = λ n. ReportsEnd (StatementPrints zone (Opened (asking_moment past following.reported) ∷ past) n form
    (failures_of ledger opened) (failures_of ledger left)) status (contents before) holds in
    let R : Zone → Type 0 = λ z. ReportsEnd (StatementPrints z (Opened (asking_moment past following.reported) ∷ past) (named register) form
    (failures_of ledger opened) (failures_of ledger left)) status (contents before) holds in
    inr (record {
      opened = opened;
      opens = following;
      left = left;
      does = record {
        prints = subst R clocks (subst Q names (subst P same (prints _ following.stands whole)));
        stands = asks.only.stands _ following.stands;
      };
      handed = is;
    })

pub served : {B : Type 0} (ledger : B → Ledger) (past : History) (at : Port) (moments then later : Option (List ℕ))
    (books back : B) (opened left : Office B) (had holds : Option (List ℕ)) (end : ServeEnd)
    → ((ledger (books_in opened)).is_clean → Opens ledger past moments then opened)
    → ((ledger (books_in left)).is_clean → (ledger (books_in opened)).is_clean)
    → After ledger opened left (λ following. ServesPort at then later ledger following opened left end)
    → holds ≡ had → back ≡ books_in left → (ledger back).is_clean
    → ReportsServing ledger past at moments later books back had holds end
served ledger past at moments then later books back opened left had holds Served opens lasts serves silent is clean =
    let whole = kept ledger left back is clean in
    let following = opens (lasts whole) in
    record {
      then = then;
      opened = opened;
      opens = following;
      left = left;
      handed = is;
      does = record { serves = serves _ following.stands whole; silent = silent };
    }
served ledger past at moments then later books back opened left had holds NoPort opens lasts serves silent is clean =
    let whole = kept ledger left back is clean in
    let following = opens (lasts whole) in
    record {
      then = then;
      opened = opened;
      opens = following;
      left = left;
      handed = is;
      does = record { serves = serves _ following.stands whole; silent = silent };
    }
served ledger past at moments then later books back opened left had holds Broken opens lasts serves silent is clean =
    let whole = kept ledger left back is clean in
    let following = opens (lasts whole) in
    record {
      then = then;
      opened = opened;
      opens = following;
      left = left;
      handed = is;
      does = record { serves = serves _ following.stands whole; silent = silent };
    }
served ledger past at moments then later books back opened left had holds (Unopened status) opens lasts serves silent is clean =
    let whole = kept ledger left back is clean in
    let following = opens (lasts whole) in absurd (serves _ following.stands whole)

pub polled : {B W : Type 0} (ledger : B → Ledger) (contents : W → Option (List ℕ)) (past : History) (device : List ℕ)
    (moments then later : Option (List ℕ)) (books back : B) (opened left : Office B) (before silent : W)
    (holds : Option (List ℕ)) (end : PollEnd)
    → ((ledger (books_in opened)).is_clean → Opens ledger past moments then opened)
    → silent ≡ before
    → ((ledger (books_in left)).is_clean → (ledger (books_in opened)).is_clean)
    → After ledger opened left (λ following. PollsPort ledger device later (contents silent) holds end following then opened left)
    → back ≡ books_in left → (ledger back).is_clean
    → ReportsPolling ledger past device moments later books back (contents before) holds end
polled {W = W} ledger contents past device moments then later books back opened left before silent holds (polling.Polled done) opens same lasts polls is clean =
    let whole = kept ledger left back is clean in
    let following = opens (lasts whole) in
    let P : W → Type 0 = λ w. PollsPort ledger device later (contents w) holds (polling.Polled done) (Opened following.at ∷ past) then opened left in
    record { then = then; opened = opened; opens = following; left = left; handed = is; does = subst P same (polls _ following.stands whole) }
polled {W = W} ledger contents past device moments then later books back opened left before silent holds polling.Unconnected opens same lasts polls is clean =
    let whole = kept ledger left back is clean in
    let following = opens (lasts whole) in
    let P : W → Type 0 = λ w. PollsPort ledger device later (contents w) holds polling.Unconnected (Opened following.at ∷ past) then opened left in
    record { then = then; opened = opened; opens = following; left = left; handed = is; does = subst P same (polls _ following.stands whole) }
polled {W = W} ledger contents past device moments then later books back opened left before silent holds (polling.Unopened status) opens same lasts polls is clean =
    let whole = kept ledger left back is clean in
    let following = opens (lasts whole) in absurd (polls _ following.stands whole)
