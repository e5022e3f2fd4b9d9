-- Defines the table of the commands and options of `sunreg`.
use Rattle.std.specs.Prelude.{ℕ, List, [], ◌∷◌, codes}
use Rattle.clap.specs.Words.{App}
use Rattle.command_words.specs.ClapTable.Table.{command_with, flag, lettered_flag, optional_option, program_with, repeated_option, required_option, several_option, word}

-- The character code of the letter n, the short form of the flag `-n`.
abbrev pub letter_n : ℕ
letter_n = 110

-- The first of two lists with the commands of `sunreg`, in the order of the help text.
abbrev pub commands : List App
commands =
    command_with (codes "replay")
    (optional_option (codes "db") ∷ optional_option (codes "zone") ∷ [])
    ∷ command_with (codes "plan") []
    ∷ command_with (codes "chain") []
    ∷ command_with (codes "scan")
    (optional_option (codes "host") ∷ required_option (codes "port")
    ∷ optional_option (codes "unit") ∷ optional_option (codes "timeout")
    ∷ flag (codes "list") ∷ optional_option (codes "setup") ∷ [])
    ∷ command_with (codes "create")
    (required_option (codes "db") ∷ required_option (codes "zone") ∷ [])
    ∷ command_with (codes "enter")
    (required_option (codes "db") ∷ required_option (codes "caller")
    ∷ optional_option (codes "devices") ∷ lettered_flag letter_n (codes "only-read") ∷ [])
    ∷ command_with (codes "serve")
    (required_option (codes "db") ∷ required_option (codes "port")
    ∷ required_option (codes "connections") ∷ repeated_option (codes "host-name") ∷ [])
    ∷ command_with (codes "round")
    (required_option (codes "db") ∷ required_option (codes "device")
    ∷ optional_option (codes "host") ∷ required_option (codes "port") ∷ [])
    ∷ command_with (codes "report")
    (several_option (codes "db") ∷ required_option (codes "register")
    ∷ optional_option (codes "from") ∷ optional_option (codes "till") ∷ optional_option (codes "by")
    ∷ optional_option (codes "unit") ∷ optional_option (codes "format")
    ∷ flag (codes "statement") ∷ [])
    ∷ []

-- The second of two lists with the commands of `sunreg`, in the order of the help text.
abbrev pub later_commands : List App
later_commands =
    command_with (codes "backup")
    (required_option (codes "db") ∷ required_option (codes "to") ∷ [])
    ∷ command_with (codes "recover")
    (required_option (codes "db") ∷ required_option (codes "to") ∷ [])
    ∷ command_with (codes "carry")
    (required_option (codes "from") ∷ required_option (codes "to")
    ∷ optional_option (codes "until") ∷ [])
    ∷ command_with (codes "audit")
    (several_option (codes "db") ∷ flag (codes "seal") ∷ optional_option (codes "against")
    ∷ optional_option (codes "format") ∷ [])
    ∷ command_with (codes "stand-in")
    (optional_option (codes "host") ∷ required_option (codes "port")
    ∷ required_option (codes "connections") ∷ [])
    ∷ command_with (codes "loop") (optional_option (codes "zone") ∷ [])
    ∷ command_with (codes "run")
    (several_option (codes "db") ∷ required_option (codes "listen")
    ∷ required_option (codes "every") ∷ required_option (codes "devices")
    ∷ optional_option (codes "for") ∷ optional_option (codes "carry")
    ∷ optional_option (codes "earlier") ∷ repeated_option (codes "host-name")
    ∷ optional_option (codes "most-kept") ∷ flag (codes "verbose") ∷ [])
    ∷ command_with (codes "explain") (word (codes "what") ∷ word (codes "number") ∷ [])
    ∷ command_with (codes "completions") (word (codes "shell") ∷ [])
    ∷ []

-- The definition of `sunreg` with all its commands.
abbrev pub program : App
program = program_with (codes "sunreg") commands later_commands
