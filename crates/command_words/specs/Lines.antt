-- Defines the command that results from the program's parsed arguments.
use Rattle.std.specs.Prelude.{ℕ, Bool, true, false, ◌&&◌, ◌||◌, is_some, is_none, length, nat_lt, List, [], Option, Some, None, codes, map, option_map, if◌then◌else◌}
use Rattle.std.specs.Str.{bytes_eq}
use Rattle.clap.specs.Words.{Row, Text}
use Rattle.energy_report.specs.Words.{format_of, period_of, unit_of}
use Rattle.energy_report.specs.declared.form.EnergyUnit.{EnergyUnit}
use Rattle.energy_report.specs.declared.form.Format.{Format}
use Rattle.energy_report.specs.declared.form.Period.{Period}
use Rattle.energy_report.specs.declared.form.Period.TheVariants.{Month, Year}
use Rattle.command_words.specs.Values.Devices.{Place, devices_in, place_of}
use Rattle.command_words.specs.Values.Given.{given}
use Rattle.command_words.specs.ClapTable.Table.{texts}
use Rattle.command_words.specs.Options.{host_names_of, if_some, is_set, number_at, number_if, number_or, or_else, several_at, text_at, text_or, texts_at}
use Rattle.command_words.specs.declared.line.CommandLine.{CommandLine}
use Rattle.command_words.specs.declared.line.CommandLine.TheVariants as line
use Rattle.command_words.specs.declared.line.FormWords.{FormWords}
use Rattle.command_words.specs.declared.line.Sealing.{Sealing}
use Rattle.command_words.specs.declared.line.Sealing.TheVariants as sealing

-- The options that determine what a report shows: days, period, unit, output format, and whether
-- the report is a statement (a list of meters for checking a bill).
pub record Form : Type 0 where
  pub from : Option Text
  pub till : Option Text
  pub period : Option Period
  pub unit : Option EnergyUnit
  pub format : Option Format
  pub statement : Bool

-- What an audit of a database file prints, and what it does with a seal, a stored digest of the
-- file's past. The audit uses no seal and prints lines of text or JSON, prints a new seal, or
-- compares the file with a stored seal.
pub data Seal : Type 0 where
  Nothing : Seal
  Json : Seal
  Print : Seal
  Against : (file : Text) → Seal

-- The logical model of a command line: a command with the values of its options.
pub data Line : Type 0 where
  Replay : (zone : Text) → Line
  ReplayFile : (db : Text) → Line
  Plan : Line
  Chain : Line
  Create : (db zone : Text) → Line
  Enter : (db caller : Text) (devices : List Place) (only_read : Bool) → Line
  Serve : (db : Text) (port connections : ℕ) (hosts : List Text) → Line
  Round : (db device host : Text) (port : ℕ) → Line
  Report : (db register : Text) (form : Form) → Line
  ReportFiles : (files : List Text) (register : Text) (form : Form) → Line
  Backup : (db to : Text) → Line
  Recover : (db to : Text) → Line
  Carry : (from to : Text) (until : Option ℕ) → Line
  Audit : (dbs : List Text) (seal : Seal) → Line
  Scan : (host : Text) (port unit timeout : ℕ) (list : Bool) (setup : Option Text) → Line
  StandIn : (host : Text) (port connections : ℕ) → Line
  Loop : (zone : Text) → Line
  Run : (dbs : List Text) (listen every : ℕ) (devices : List Place) (lasts : Option ℕ)
      (carry : Option Period) (earlier : Option ℕ) (hosts : List Text) (most_kept : Option ℕ)
      (verbose : Bool) → Line
  Explain : (what number : Text) → Line
  Completions : Line

-- Converts the options of a report from the program's type to the type in contracts.
abbrev pub seen_form : FormWords → Form
seen_form form = record {
  from = option_map (λ text. text.now) form.from;
  till = option_map (λ text. text.now) form.till;
  period = form.period;
  unit = form.unit;
  format = form.format;
  statement = form.statement;
}

-- Converts what an audit does with a seal (a digest of a file's past) from the program's type to
-- the type in contracts.
abbrev pub seen_sealing : Sealing → Seal
seen_sealing sealing.Nothing = Nothing
seen_sealing sealing.Json = Json
seen_sealing sealing.Print = Print
seen_sealing (sealing.Against file) = Against file.now

-- Converts a parsed command line from the program's type to the type in contracts.
abbrev pub seen : CommandLine → Line
seen (line.Replay zone) = Replay zone.now
seen (line.ReplayFile db) = ReplayFile db.now
seen line.Plan = Plan
seen line.Chain = Chain
seen (line.Create db zone) = Create db.now zone.now
seen (line.Enter db caller devices only_read) =
    Enter db.now caller.now (map place_of devices.items) only_read
seen (line.Serve db port connections hosts) =
    Serve db.now port connections (texts hosts.items)
seen (line.Round db device host port) = Round db.now device.now host.now port
seen (line.Report db register form) = Report db.now register.now (seen_form form)
seen (line.ReportFiles files register form) =
    ReportFiles (texts files.items) register.now (seen_form form)
seen (line.Backup db to) = Backup db.now to.now
seen (line.Recover db to) = Recover db.now to.now
seen (line.Carry from to until) = Carry from.now to.now until
seen (line.Audit dbs seal) = Audit (texts dbs.items) (seen_sealing seal)
seen (line.Scan host port unit timeout list setup) =
    Scan host.now port unit timeout list (option_map (λ text. text.now) setup)
seen (line.StandIn host port connections) = StandIn host.now port connections
seen (line.Loop zone) = Loop zone.now
seen (line.Run dbs listen every devices lasts carry earlier hosts most_kept verbose) =
    Run (texts dbs.items) listen every (map place_of devices.items) lasts carry earlier
    (texts hosts.items) most_kept verbose
seen (line.Explain what number) = Explain what.now number.now
seen line.Completions = Completions

-- Definitions of the options that several commands have.

-- The time zone from the option `--zone`, by default `UTC0`.
abbrev pub zone_in : List Row → Text
zone_in rows = text_or (codes "UTC0") (codes "zone") rows

-- The host from the option `--host`, by default `127.0.0.1`.
abbrev pub host_in : List Row → Text
host_in rows = text_or (codes "127.0.0.1") (codes "host") rows

-- The path of the database file, from the option `--db`.
abbrev pub db_in : List Row → Option Text
db_in rows = text_at (codes "db") rows

-- The port from the option `--port`, from 1 to 65,535. None if the option is missing or its port is
-- out of range.
abbrev pub port_in : List Row → Option ℕ
port_in rows = number_at 65535 (codes "port") rows

-- The number from the option `--connections`, from 1 to 1,000,000. None if the option is missing or
-- its number is out of range.
abbrev pub connections_in : List Row → Option ℕ
connections_in rows = number_at 1000000 (codes "connections") rows

-- The values of `--host-name`, which are further names that an HTTP request's Host header may have.
-- None if one of them is not a host name.
abbrev pub hosts_in : List Row → Option (List Text)
hosts_in rows = host_names_of (texts_at (codes "host-name") rows)

-- For each command, a definition that converts its option values to the parsed command line.

-- The command `replay` with a time zone or a file. None if both are given, because the file has its
-- own zone.
abbrev pub replay_of : (has_zone : Bool) → (zone : Text) → (db : Option Text) → Option Line
replay_of has_zone zone None = Some (Replay zone)
replay_of has_zone zone (Some db) = if has_zone then None else Some (ReplayFile db)

-- Parses the options of the command `replay`. None if both a file and a time zone are given.
abbrev pub replay_in : List Row → Option Line
replay_in rows =
    replay_of (is_some (text_at (codes "zone") rows)) (zone_in rows) (db_in rows)

-- Parses the options of the command `create`. None if an option is missing or invalid.
abbrev pub create_in : List Row → Option Line
create_in rows =
    given (db_in rows) (λ db.
    given (text_at (codes "zone") rows) (λ zone. Some (Create db zone)))

-- Parses the options of the command `serve`. None if an option is missing or invalid.
abbrev pub serve_in : List Row → Option Line
serve_in rows =
    given (db_in rows) (λ db.
    given (port_in rows) (λ port.
    given (connections_in rows) (λ connections.
    given (hosts_in rows) (λ hosts. Some (Serve db port connections hosts)))))

-- Parses the options of the command `round`. None if an option is missing or invalid.
abbrev pub round_in : List Row → Option Line
round_in rows =
    given (db_in rows) (λ db.
    given (text_at (codes "device") rows) (λ device.
    given (port_in rows) (λ port. Some (Round db device (host_in rows) port))))

-- The options of a report. None for a statement (a list of meters for checking a bill) with a
-- period, because a statement has no periods.
abbrev pub unless_by : (statement : Bool) → Option Period → Form → Option Form
unless_by statement period form = if statement && is_some period then None else Some form

-- Parses the options of a report: days, period, unit and output format. None if an option is
-- invalid.
abbrev pub form_in : List Row → Option Form
form_in rows =
    let from = text_at (codes "from") rows in
    let till = text_at (codes "till") rows in
    let statement = is_set (codes "statement") rows in
    given (if_some period_of (text_at (codes "by") rows)) (λ period.
    given (if_some unit_of (text_at (codes "unit") rows)) (λ unit.
    given (if_some format_of (text_at (codes "format") rows)) (λ format.
    unless_by statement period (record {
      from = from;
      till = till;
      period = period;
      unit = unit;
      format = format;
      statement = statement;
    }))))

-- The command `report` over one database file, or over several successive files.
abbrev pub report_of : (db : Text) → (files : List Text) → (register : Text) → Form → Line
report_of db files register form =
    if nat_lt 1 (length files) then ReportFiles files register form else Report db register form

-- Parses the options of the command `report`. None if an option is missing or invalid.
abbrev pub report_in : List Row → Option Line
report_in rows =
    given (db_in rows) (λ db.
    given (text_at (codes "register") rows) (λ register.
    given (form_in rows) (λ form.
    Some (report_of db (texts_at (codes "db") rows) register form))))

-- Parses the options of the command `backup`. None if an option is missing or invalid.
abbrev pub backup_in : List Row → Option Line
backup_in rows =
    given (db_in rows) (λ db.
    given (text_at (codes "to") rows) (λ to. Some (Backup db to)))

-- Parses the options of the command `recover`. None if an option is missing or invalid.
abbrev pub recover_in : List Row → Option Line
recover_in rows =
    given (db_in rows) (λ db.
    given (text_at (codes "to") rows) (λ to. Some (Recover db to)))

-- Parses the options of the command `carry`. None if an option is missing or invalid.
abbrev pub carry_in : List Row → Option Line
carry_in rows =
    given (text_at (codes "from") rows) (λ from.
    given (text_at (codes "to") rows) (λ to.
    given (number_if 4294967295 (codes "until") rows) (λ until. Some (Carry from to until))))

-- Parses the output format of an audit, `text` or `json`, as whether it is JSON.
abbrev pub json_word : Text → Option Bool
json_word word =
    if bytes_eq word (codes "text") then Some false
    else (if bytes_eq word (codes "json") then Some true else None)

-- Parses the option `--format` of the command `audit`. The default format is text.
abbrev pub is_json_in : List Row → Option Bool
is_json_in rows = or_else false json_word (text_at (codes "format") rows)

-- What an audit does with a seal (a digest of a file's past). None if the audit should both print a
-- seal and compare the file with a seal.
abbrev pub sealing_of : (prints : Bool) → (against : Option Text) → Option Seal
sealing_of prints None = Some (if prints then Print else Nothing)
sealing_of prints (Some file) = if prints then None else Some (Against file)

-- What an audit prints, if its format is JSON or not. None if JSON is requested together with a
-- seal (a digest of a file's past).
abbrev pub printed_as : (is_json : Bool) → Seal → Option Seal
printed_as true Nothing = Some Json
printed_as true seal = None
printed_as false seal = Some seal

-- Parses the options `--format`, `--seal` and `--against` of the command `audit`. None if JSON, a
-- new seal and a comparison with a seal (a digest of a file's past) are not requested one by one.
abbrev pub sealing_in : List Row → Option Seal
sealing_in rows =
    given (is_json_in rows) (λ is_json.
    given (sealing_of (is_set (codes "seal") rows) (text_at (codes "against") rows)) (λ seal.
    printed_as is_json seal))

-- True if an audit can have only one file: it prints JSON or a seal (a digest of a file's past), or
-- compares the file with a stored seal.
abbrev pub needs_one_file : Seal → Bool
needs_one_file Nothing = false
needs_one_file Json = true
needs_one_file Print = true
needs_one_file (Against file) = true

-- The command `audit` for the given files. None if several files are given for JSON or a seal (a
-- digest of a file's past).
abbrev pub one_sealed : (dbs : List Text) → Seal → Option Line
one_sealed dbs seal =
    if needs_one_file seal && nat_lt 1 (length dbs) then None else Some (Audit dbs seal)

-- Parses the options of the command `audit`. None if an option is missing or invalid.
abbrev pub audit_in : List Row → Option Line
audit_in rows =
    given (several_at (codes "db") rows) (λ dbs.
    given (sealing_in rows) (λ seal. one_sealed dbs seal))

-- The command `scan`. None if the command should print both a point list and the script lines that
-- set the device up.
abbrev pub one_of : (list : Bool) (setup : Option Text) → Line → Option Line
one_of list setup line = if list && is_some setup then None else Some line

-- Parses the options of the command `scan`. None if an option is missing or invalid.
abbrev pub scan_in : List Row → Option Line
scan_in rows =
    let list = is_set (codes "list") rows in
    let setup = text_at (codes "setup") rows in
    given (port_in rows) (λ port.
    given (number_or 1 255 (codes "unit") rows) (λ unit.
    given (number_or 5 60 (codes "timeout") rows) (λ timeout.
    one_of list setup (Scan (host_in rows) port unit timeout list setup))))

-- Parses the options of the command `stand-in`, a device simulator. None if an option is missing or
-- invalid.
abbrev pub stand_in_in : List Row → Option Line
stand_in_in rows =
    given (port_in rows) (λ port.
    given (connections_in rows) (λ connections. Some (StandIn (host_in rows) port connections)))

-- Parses the required option `--devices`, a list of devices. None if it is missing or invalid.
abbrev pub devices_at : List Row → Option (List Place)
devices_at rows = given (text_at (codes "devices") rows) devices_in

-- Parses the option `--devices`, a list of devices, by default empty. None if the list is invalid.
abbrev pub devices_if : List Row → Option (List Place)
devices_if rows = or_else [] devices_in (text_at (codes "devices") rows)

-- Parses the options of the command `enter`. None if an option is missing or invalid.
abbrev pub enter_in : List Row → Option Line
enter_in rows =
    given (db_in rows) (λ db.
    given (text_at (codes "caller") rows) (λ caller.
    given (devices_if rows) (λ devices.
    Some (Enter db caller devices (is_set (codes "only-read") rows)))))

-- Parses the period after which `run` begins a new file: `month` or `year`.
abbrev pub carried_by : Text → Option Period
carried_by word =
    if bytes_eq word (codes "month") then Some Month
    else (if bytes_eq word (codes "year") then Some Year else None)

-- Parses the number of earlier files whose energy the command `run` also reports. The option
-- requires `--carry` and a single database file.
abbrev pub earlier_in : (are_several : Bool) → (carry : Option Period) → List Row
    → Option (Option ℕ)
earlier_in are_several carry rows =
    given (number_if 1200 (codes "earlier") rows) (λ earlier.
    if is_some earlier && (are_several || is_none carry) then None else Some earlier)

-- Parses the options of the command `run`. None if an option is missing or invalid.
abbrev pub run_in : List Row → Option Line
run_in rows =
    given (several_at (codes "db") rows) (λ dbs.
    given (number_at 65535 (codes "listen") rows) (λ listen.
    given (number_at 86400 (codes "every") rows) (λ every.
    given (number_if 4000000000 (codes "for") rows) (λ lasts.
    given (devices_at rows) (λ devices.
    given (if_some carried_by (text_at (codes "carry") rows)) (λ carry.
    given (earlier_in (nat_lt 1 (length dbs)) carry rows) (λ earlier.
    given (hosts_in rows) (λ hosts.
    given (number_if 1000000 (codes "most-kept") rows) (λ most_kept.
    Some (Run dbs listen every devices lasts carry earlier hosts most_kept
    (is_set (codes "verbose") rows)))))))))))

-- Parses the arguments of the command `explain`. None if an argument is missing.
abbrev pub explain_in : List Row → Option Line
explain_in rows =
    given (text_at (codes "what") rows) (λ what.
    given (text_at (codes "number") rows) (λ number. Some (Explain what number)))

-- The command `completions` for the named shell. None unless this shell is bash.
abbrev pub completions_in : List Row → Option Line
completions_in rows =
    given (text_at (codes "shell") rows)
    (λ shell. if bytes_eq shell (codes "bash") then Some Completions else None)

-- Parses the options of the command with the given name. None if no such command exists, or an
-- option is missing or invalid.
unfoldable pub command_in : Text → List Row → Option Line
command_in name rows =
    if bytes_eq name (codes "replay") then replay_in rows
    else (if bytes_eq name (codes "plan") then Some Plan
    else (if bytes_eq name (codes "chain") then Some Chain
    else (if bytes_eq name (codes "create") then create_in rows
    else (if bytes_eq name (codes "serve") then serve_in rows
    else (if bytes_eq name (codes "round") then round_in rows
    else (if bytes_eq name (codes "report") then report_in rows
    else (if bytes_eq name (codes "stand-in") then stand_in_in rows
    else (if bytes_eq name (codes "loop") then Some (Loop (zone_in rows))
    else (if bytes_eq name (codes "run") then run_in rows
    else (if bytes_eq name (codes "scan") then scan_in rows
    else (if bytes_eq name (codes "enter") then enter_in rows
    else (if bytes_eq name (codes "backup") then backup_in rows
    else (if bytes_eq name (codes "recover") then recover_in rows
    else (if bytes_eq name (codes "carry") then carry_in rows
    else (if bytes_eq name (codes "audit") then audit_in rows
    else (if bytes_eq name (codes "explain") then explain_in rows
    else (if bytes_eq name (codes "completions") then completions_in rows
    else None)))))))))))))))))

-- The command line with the given command's name and options. Without a command, the command line
-- is `replay` without options.
abbrev pub line_in : Option (Text × List Row) → Option Line
line_in None = Some (Replay (codes "UTC0"))
line_in (Some p) = command_in p.0 p.1
