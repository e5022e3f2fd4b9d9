-- The description of a metric in Prometheus's text format: its HELP line and its TYPE line.
use Rattle.std.specs.Prelude.{ℕ, List, ◌++◌, codes}
use Rattle.run_http.specs.declared.texts.families.MetricKind.{MetricKind}
use Rattle.run_http.specs.declared.texts.families.MetricKind.TheVariants.{Counter, Gauge}

-- The name of a metric's type in Prometheus's text format.
abbrev pub kind_word : MetricKind → List ℕ
kind_word Counter = codes "counter"
kind_word Gauge = codes "gauge"

-- The two lines that describe a metric: its HELP line and its TYPE line.
abbrev pub family_text : (name help : List ℕ) → MetricKind → List ℕ
family_text name help kind =
    codes "# HELP " ++ name ++ codes " " ++ help
    ++ codes "\n# TYPE " ++ name ++ codes " " ++ kind_word kind
