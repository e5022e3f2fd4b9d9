-- The statuses of responses (RFC 9110, section 15; RFC 6585, section 5).
use Rattle.std.specs.Prelude.{ℕ, List, codes}
use Rattle.office_http.specs.declared.messages.status.Status.{Status}
use Rattle.office_http.specs.declared.messages.status.Status.TheVariants.{Fine, BadRequest, Forbidden, NotFound, MethodNotAllowed, Conflict, LengthRequired, ContentTooLarge, Misdirected, Unprocessable, FieldsTooLarge, Unavailable}

-- The three-digit code of an HTTP status.
abbrev pub number_of_status : Status → ℕ
number_of_status Fine = 200
number_of_status BadRequest = 400
number_of_status Forbidden = 403
number_of_status NotFound = 404
number_of_status MethodNotAllowed = 405
number_of_status Conflict = 409
number_of_status LengthRequired = 411
number_of_status ContentTooLarge = 413
number_of_status Misdirected = 421
number_of_status Unprocessable = 422
number_of_status FieldsTooLarge = 431
number_of_status Unavailable = 503

-- The reason phrase of an HTTP status.
abbrev pub reason_of_status : Status → List ℕ
reason_of_status Fine = codes "OK"
reason_of_status BadRequest = codes "Bad Request"
reason_of_status Forbidden = codes "Forbidden"
reason_of_status NotFound = codes "Not Found"
reason_of_status MethodNotAllowed = codes "Method Not Allowed"
reason_of_status Conflict = codes "Conflict"
reason_of_status LengthRequired = codes "Length Required"
reason_of_status ContentTooLarge = codes "Content Too Large"
reason_of_status Misdirected = codes "Misdirected Request"
reason_of_status Unprocessable = codes "Unprocessable Content"
reason_of_status FieldsTooLarge = codes "Request Header Fields Too Large"
reason_of_status Unavailable = codes "Service Unavailable"
