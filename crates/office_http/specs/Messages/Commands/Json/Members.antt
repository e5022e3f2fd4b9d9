-- Members of a JSON object, and their required types.
use Rattle.std.specs.Prelude.{◌≡◌, ℕ, ℤ, pos, negsuc, Bool, true, false, ◌||◌, if◌then◌else◌, List, Option, Some, None, is_none, is_some, option_and_then, Result, Ok, Err}
use Rattle.std.specs.List.{list_all, list_any}
use Rattle.serde_json.specs.Data.{Data}
use Rattle.serde_json.specs.Find.{get, as_number, as_i64, as_str}
use Rattle.office_http.specs.declared.messages.commands.json.body.BodyFault.{BodyFault}
use Rattle.office_http.specs.declared.messages.commands.json.body.BodyFault.TheVariants.{Malformed, Negative}

-- The text in a member of a JSON object, if the member is a string.
abbrev pub text : List ℕ → Data → Option (List ℕ)
text name d = option_and_then as_str (get name d)

-- The integer in a member of a JSON object, if it is from -2^63 to 2^63 - 1.
abbrev pub whole : List ℕ → Data → Option ℤ
whole name d = option_and_then as_i64 (option_and_then as_number (get name d))

-- The required type of a member: a text, an integer, an integer that is not negative, or an
-- optional integer that is not negative.
pub data Want : Type 0 where
  Text : Want
  Whole : Want
  Natural : Want
  Optional : Want

-- The name of a member of a JSON object, with its required type.
pub record Member : Type 0 where
  pub name : List ℕ
  pub want : Want

-- True if the member of the JSON object has the required type. A negative number also has the type
-- Natural (an integer that is not negative), since another test rejects it.
abbrev pub is_of_kind : Want → List ℕ → Data → Bool
is_of_kind Text name d = is_some (text name d)
is_of_kind Whole name d = is_some (whole name d)
is_of_kind Natural name d = is_some (whole name d)
is_of_kind Optional name d = is_none (get name d) || is_some (whole name d)

-- True if the optional number exists and is negative.
abbrev pub is_below_zero : Option ℤ → Bool
is_below_zero None = false
is_below_zero (Some (pos n)) = false
is_below_zero (Some (negsuc n)) = true

-- True if the member of the JSON object is negative, although its required type excludes negative
-- numbers.
abbrev pub is_too_low : Want → List ℕ → Data → Bool
is_too_low Text name d = false
is_too_low Whole name d = false
is_too_low Natural name d = is_below_zero (whole name d)
is_too_low Optional name d = is_below_zero (whole name d)

-- True if all members in the list `members` have their required types in the JSON body.
abbrev pub have_kinds : List Member → Data → Bool
have_kinds members d = list_all (λ m. is_of_kind m.want m.name d) members

-- True if at least one of the listed members of the JSON body is negative, although its required
-- type excludes negative numbers.
abbrev pub have_negative : List Member → Data → Bool
have_negative members d = list_any (λ m. is_too_low m.want m.name d) members

-- The fault of a JSON body, from two flags: whether all members have their required types, and
-- whether a member is negative. A wrong type takes precedence over a negative number.
abbrev pub fault_in : Bool → Bool → Option BodyFault
fault_in kinds negative =
    if kinds then (if negative then Some Negative else None) else Some Malformed

-- True if the specification allows the result of parsing a JSON body. `Ok` requires a body without
-- a fault, and the values of its members. An error must be the body's fault.
abbrev pub Reads : {X : Type 0} → Option BodyFault → (X → Type 0) → Result X BodyFault → Type 0
Reads fault IsIn (Ok x) = (fault ≡ None) × IsIn x
Reads fault IsIn (Err e) = fault ≡ Some e
