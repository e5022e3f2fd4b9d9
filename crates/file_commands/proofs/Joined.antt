-- Lemmas: if the command `report` over several database files ends with success, then the files
-- were opened one after another, and their data were added to the report.
use Rattle.std.proofs.Common.{◌≡◌, ◌⊎◌, inl, inr, ℕ, Bool, true, false, List, [], ◌∷◌, Option, Some, None, ◌≤◌, ◌-◌, length, get_or, drop, take, arith, subst, sym, ap, ◌∙◌, Result, Ok, Err, IfOk, refl}
use Rattle.std.specs.Prelude.{unwrap_or, if◌then◌else◌}
use Rattle.std.specs.Borrow.{Bor}
use Rattle.std.specs.Io.KnownBytes.{Keeps}
use Rattle.std.proofs.lemmas.List.{take_all}
use Rattle.sqlite.specs.Store.{Ghosts}
use Rattle.sqlite.specs.Held.{Held}
use Rattle.interval_core.specs.declared.day_range.DayRange.{DayRange}
use Rattle.command_words.specs.declared.line.FormWords.{FormWords}
use Rattle.office_events.specs.Names.{is_name, named}
use Rattle.carried_books.specs.declared.joining.keeping.Keeping as keepings
use Rattle.stored_files.specs.declared.ends.ending.Ending.{Ending}
use Rattle.stored_files.specs.declared.ends.ending.Ending.TheVariants.{Fine, Refused, Wrong, NoText, NoZone, NoDay, Backward, NoSeal, Twice, Failed}
use Rattle.stored_files.specs.declared.ends.failure.Failure.TheVariants.{Streams}
use Rattle.stored_files.specs.declared.joins.stored.JoinedOffice.{JoinedOffice}
use Rattle.file_commands.specs.Forms.{IsNoRange}
use Rattle.file_commands.specs.JoinedReports.{EndsReportFiles, IfFine, JoinsPath, JoinsPaths, PrintsForm, files_kept, statement_kept}

-- If a text is converted to a name, then the name equals the text.
pub same_name : (text name : List ℕ) → Some name ≡ named text → name ≡ text
same_name text name is = by (is_name text) (sym is)
  where
    by : (b : Bool) → (if b then Some text else None) ≡ Some name → name ≡ text
    by true is = sym (ap (λ (o : Option (List ℕ)). unwrap_or o text) is)
    by false is = absurd (cc)

-- If a claim is true whenever a command ends with success (`Fine`), then `IfFine` (the claim,
-- stated only for success) is true of any ending.
pub if_fine : (claim : Type 0) (ending : Ending) → (ending ≡ Fine → claim) → IfFine claim ending
if_fine claim Fine it = it refl
if_fine claim Refused it = tt
if_fine claim (Wrong text) it = tt
if_fine claim NoText it = tt
if_fine claim (NoZone zone) it = tt
if_fine claim (NoDay option word) it = tt
if_fine claim Backward it = tt
if_fine claim (NoSeal file) it = tt
if_fine claim (Twice file) it = tt
if_fine claim (Failed failure) it = tt

pub fine_of : (claim : Type 0) (ending : Ending) → IfFine claim ending → ending ≡ Fine → claim
fine_of claim ending it is = subst (λ (e : Ending). IfFine claim e) is it

-- If the options `--from` and `--till` select no range of days, then the command does not end with
-- success (`Fine`).
pub no_range_is_no_success : (from till : Option (Bor (List ℕ))) (ending : Ending) → IsNoRange from till ending → ending ≡ Fine → ⊥
no_range_is_no_success from till ending it is = subst (λ (e : Ending). IsNoRange from till e) is it

module _ {K : Type 0} (k : keepings.Ghosts K) {S : Type 0} (g : Ghosts S) (range : DayRange) (register : List ℕ) where
  -- If the data of the first file were added to a report, and then those of the other files, then
  -- the data of all files were added in order.
  pub paths_joined : {E : Type 0} (opens : List ℕ → Held S → Type 0) (paths : List (Bor (List ℕ))) (other : Bor (List ℕ)) (before : Option (JoinedOffice K)) (next : JoinedOffice K)
      (r : Result (Option (JoinedOffice K)) E) → 1 ≤ length paths → JoinsPath k g opens range register (get_or paths 0 other).now before next
      → IfOk r (JoinsPaths k g opens range register (take (length paths - 1) (drop 1 paths)) (Some next)) → IfOk r (JoinsPaths k g opens range register paths before)
  paths_joined opens [] other before next r some one rest = absurd (omega (arith, some))
  paths_joined opens (path ∷ paths) other before next (Ok after) some one rest =
      (next, one, subst (λ (ps : List (Bor (List ℕ))). JoinsPaths k g opens range register ps (Some next) after) (take_all (length (path ∷ paths) - 1) paths (omega arith)) rest)
  paths_joined opens (path ∷ paths) other before next (Err why) some one rest = tt

  -- Suppose that the condition `all` on connections allows every connection that the condition
  -- `some` allows. Then files that were opened under `some` were also opened under `all`.
  module _ (some all : List ℕ → Held S → Type 0) (to_all : (p : List ℕ) (h : Held S) → some p h → all p h) where
    path_of : (path : List ℕ) (before : Option (JoinedOffice K)) (next : JoinedOffice K) → JoinsPath k g some range register path before next → JoinsPath k g all range register path before next
    path_of path before next it = record { opened = it.opened; is_opened = to_all path it.opened it.is_opened; joins = it.joins }

    pub paths_of : (paths : List (Bor (List ℕ))) (before after : Option (JoinedOffice K)) → JoinsPaths k g some range register paths before after → JoinsPaths k g all range register paths before after
    paths_of [] before after it = it
    paths_of (path ∷ paths) before after it = (it.0, path_of path.now before it.0 it.1, paths_of paths (Some it.0) after it.2)

-- Lemmas: the command `report` over several files ends with success only if it printed the
-- requested output.
module _ {S : Type 0} (g : Ghosts S) (some all : List ℕ → Held S → Type 0) (to_all : (p : List ℕ) (h : Held S) → some p h → all p h)
    (paths : List (Bor (List ℕ))) (register : List ℕ) (words : FormWords) where
  form_of_all : (had printed : Option (List ℕ)) → PrintsForm g some paths register words had printed → PrintsForm g all paths register words had printed
  form_of_all had printed it = record {
    range = it.range;
    is_range = it.is_range;
    report = λ no. let r = it.report no in record {
      joined = r.joined;
      joins = paths_of files_kept g it.range register some all to_all paths None r.joined r.joins;
      reports = r.reports;
    };
    statement = λ yes. let s = it.statement yes in record {
      joined = s.joined;
      joins = paths_of statement_kept g it.range register some all to_all paths None s.joined s.joins;
      states = s.states;
    };
  }

  -- The command `report` over several files ends with success only if its output was printed, and
  -- then flushed.
  pub ends_files : (had printed holds : Option (List ℕ)) (ending flushed : Ending) → IfFine (PrintsForm g some paths register words had printed) ending
      → (flushed ≡ ending) ⊎ (flushed ≡ Failed Streams) → Keeps printed holds → EndsReportFiles g all paths register words had holds flushed
  ends_files had printed holds ending flushed it (inl same) keeps = if_fine _ flushed (λ fine. record {
    printed = printed;
    prints = form_of_all had printed (fine_of _ ending it (sym same ∙ fine));
    flushed = keeps;
  })
  ends_files had printed holds ending flushed it (inr failed) keeps = if_fine _ flushed (λ fine. absurd (let e : Failed Streams ≡ Fine = sym failed ∙ fine in cc))
