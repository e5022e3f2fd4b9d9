-- The status lines and heads of HTTP responses.
use Rattle.std.specs.Prelude.{ℕ, List, ◌++◌, length, codes, decimal}
use Rattle.office_http.specs.Messages.Status.Statuses.{number_of_status, reason_of_status}
use Rattle.office_http.specs.declared.messages.status.Status.{Status}
use Rattle.office_http.specs.declared.messages.status.Status.TheVariants.{Fine}

-- The status line of a response (RFC 9112, section 4).
abbrev pub status_line : Status → List ℕ
status_line status =
    codes "HTTP/1.1 " ++ decimal (number_of_status status) ++ codes " " ++ reason_of_status status
    ++ codes "\r\n"

-- The head of a JSON response whose body has the given size in bytes.
abbrev pub json_head : Status → ℕ → List ℕ
json_head status size =
    status_line status ++ codes "Content-Type: application/json\r\nContent-Length: " ++ decimal size
    ++ codes "\r\nConnection: close\r\n\r\n"

-- The bytes of a JSON response with the given status and body.
abbrev pub json_reply : Status → List ℕ → List ℕ
json_reply status body = json_head status (length body) ++ body

-- The head of a plain-text response. The end of the connection marks the end of the body.
abbrev pub text_head : List ℕ
text_head = status_line Fine ++ codes "Content-Type: text/plain\r\nConnection: close\r\n\r\n"
