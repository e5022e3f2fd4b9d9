-- Defines the content of the HTTP response of `/site`: the accounting registers (named energy
-- counters), with meters of the current and earlier database files.
use Rattle.std.specs.Prelude.{◌≡◌, ℕ, List, [], map, Option, Some, None, Result, Ok, Err, codes}
use Rattle.std.specs.declared.alloc.Global.{Global}
use Rattle.std.specs.declared.vec.Vec.{Vec}
use Rattle.office_http.specs.declared.messages.status.Status.TheVariants.{Fine}
use Rattle.office_core.specs.declared.site.SiteRow.{SiteRow}
use Rattle.office_events.specs.declared.facts.Register.{Register}
use Rattle.office_events.specs.declared.questions.Installation.{Installation}
use Rattle.office_events.specs.declared.refusals.Refusal.{Refusal}
use Rattle.carried_books.specs.Joining.Sites.{earlier_meters, latest_meter}
use Rattle.carried_books.specs.declared.joining.earlier.EarlierRegister.{EarlierRegister}
use Rattle.carried_books.specs.declared.joining.sites.LatestMeter.{LatestMeter}
use Rattle.run_http.specs.SiteReply.{with_refusal}
use Rattle.run_http.specs.StatusRoute.{with_reply}
use Rattle.run_http.specs.Texts.SiteText.{with_site}
use Rattle.run_http.specs.declared.texts.site.SiteLine.{SiteLine}

-- The entry for an accounting register in the HTTP response of `/site`, with the register's latest
-- meter, if any, in all database files (earlier and current).
abbrev pub line_of : Register → Option LatestMeter → SiteLine
line_of register None =
    record { row = record { register = register; meter = None }; earlier = None }
line_of register (Some reported) = record {
  row = record { register = register; meter = Some reported.meter };
  earlier = reported.earlier;
}

-- The entry for an accounting register (a named energy counter) in the HTTP response of `/site`,
-- with the register's latest meter in all database files. `earlier` has the register's meters in
-- the earlier files.
abbrev pub line_after : (earlier : List Installation) → SiteRow → SiteLine
line_after earlier row = line_of row.register (latest_meter earlier row.meter)

-- The entry for an accounting register (a named energy counter) in the HTTP response of `/site`,
-- with the register's latest meter in all database files (earlier and current).
abbrev pub line_over : List EarlierRegister → SiteRow → SiteLine
line_over earlier row = line_after (earlier_meters earlier row.register.name) row

-- States that the entries in the HTTP response of `/site` match the queried rows: one entry for
-- each accounting register (a named energy counter). If the program refused the query, the result
-- is the same refusal.
abbrev pub IsReported : List EarlierRegister → Result (Vec SiteRow Global) Refusal
    → Result (Vec SiteLine Global) Refusal → Type 0
IsReported earlier (Ok rows) (Ok lines) = lines.items ≡ map (line_over earlier) rows.items
IsReported earlier (Ok rows) (Err why) = ⊥
IsReported earlier (Err why) (Ok lines) = ⊥
IsReported earlier (Err why) (Err reported) = reported ≡ why

-- The response of `/site` with the accounting registers (named energy counters), or an error
-- response if the program refused the query.
abbrev pub with_site_over : List EarlierRegister → (at : ℕ) → Result (Vec SiteRow Global) Refusal
    → List ℕ → List ℕ
with_site_over earlier at (Ok rows) text =
    with_reply Fine (codes "application/json")
    (with_site [] at (map (line_over earlier) rows.items)) text
with_site_over earlier at (Err why) text = with_refusal why text
