-- The numeric codes that the program prints for refusals, rejected readings, lost and malformed
-- polls, exceptions, faults and exit statuses.
use Rattle.std.specs.Prelude.{◌≡◌, ℕ, Bool, ◌==◌, ◌&&◌, ◌||◌, IfSome, Option, is_some, nat_le}
use Rattle.std.specs.Borrow.{Bor}
use Rattle.printed_numbers.specs.declared.kind.Kind.{Kind}
use Rattle.printed_numbers.specs.declared.kind.Kind.TheVariants.{Refused, Held, Lost, Malformed, Exception, RowFault, ChainFault, HttpFault, Status}
use Rattle.printed_numbers.specs.declared.meaning.Meaning.{Meaning}

-- True if the number is from `first` to `last`, both included.
abbrev pub is_from : (first last number : ℕ) → Bool
is_from first last number = nat_le first number && nat_le number last

-- True for an exception code that the Modbus standard defines: 1 to 6, 8, 10 and 11.
abbrev pub is_exception_code : ℕ → Bool
is_exception_code number = is_from 1 6 number || number == 8 || is_from 10 11 number

-- True for an HTTP status whose response has the body `{"fault":N}`.
abbrev pub is_fault_status : ℕ → Bool
is_fault_status number =
    number == 400 || is_from 403 405 number || number == 411 || number == 413 || number == 421
    || number == 431 || number == 503

-- True if the program can print the given numeric code for the given kind: for example, the codes 1
-- to 17 for `Refused`.
abbrev pub has_number : Kind → ℕ → Bool
has_number Refused number = is_from 1 17 number
has_number Held number = is_from 1 8 number
has_number Lost number = is_from 1 4 number
has_number Malformed number = is_from 1 5 number
has_number Exception number = is_exception_code number
has_number RowFault number = is_from 1 12 number
has_number ChainFault number = is_from 1 4 number
has_number HttpFault number = is_fault_status number
has_number Status number = nat_le number 3

-- States that a meaning explains the given numeric code of the given kind.
abbrev pub IsMeaningOf : Kind → ℕ → Bor Meaning → Type 0
IsMeaningOf kind number meaning = (meaning.now.kind ≡ kind) × (meaning.now.number ≡ number)

-- States that a lookup returns the meaning of the given numeric code if the kind has this code, and
-- otherwise `None`.
abbrev pub Answers : Kind → ℕ → Option (Bor Meaning) → Type 0
Answers kind number result =
    (is_some result ≡ has_number kind number) × IfSome result (IsMeaningOf kind number)
