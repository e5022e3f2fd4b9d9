-- The JSON bodies of responses that report a refusal or another error by a numeric code.
use Rattle.std.specs.Prelude.{ℕ, List, ◌++◌, codes, decimal}
use Rattle.office_http.specs.Messages.Status.Statuses.{number_of_status}
use Rattle.office_http.specs.declared.messages.status.Status.{Status}

-- The JSON body that reports a refusal by the numeric code of its reason.
abbrev pub refused_text : ℕ → List ℕ
refused_text number = codes "{\"refused\":" ++ decimal number ++ codes "}"

-- The JSON body that reports an error by the response's HTTP status code.
abbrev pub fault_text : Status → List ℕ
fault_text status = codes "{\"fault\":" ++ decimal (number_of_status status) ++ codes "}"
