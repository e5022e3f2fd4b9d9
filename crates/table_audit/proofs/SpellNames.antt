-- Lemmas: a valid name of a meter is ASCII text, so it is also valid UTF-8.
use Rattle.std.proofs.Common.{◌≡◌, ◌<◌, ℕ, zero, suc, true, ◌&&◌, nat_le, List, [], ◌∷◌, length, IsUtf8, IsAscii, arith}
use Rattle.std.specs.List.{list_all}
use Rattle.std.proofs.lemmas.Bool.{and_parts}
use Rattle.std.proofs.lemmas.Bool.Decides.{nat_tests}
use Rattle.std.proofs.lemmas.Str.{IsUtf8-from_ascii}
use Rattle.office_events.specs.Names.{begins_with_letter, is_name_byte, is_name}
use Rattle.office_events.specs.declared.limits.TheConstants.{MAX_NAME}

name_byte_is_ascii : (byte : ℕ) → is_name_byte byte ≡ true → byte < 128
name_byte_is_ascii byte is = grind (arith, nat_tests)

name_bytes_are_ascii : (text : List ℕ) → list_all is_name_byte text ≡ true → IsAscii text
name_bytes_are_ascii [] all i = omega arith
name_bytes_are_ascii (byte ∷ bytes) all zero = name_byte_is_ascii byte (and_parts (is_name_byte byte) (list_all is_name_byte bytes) all).0
name_bytes_are_ascii (byte ∷ bytes) all (suc i) = name_bytes_are_ascii bytes (and_parts (is_name_byte byte) (list_all is_name_byte bytes) all).1 i

pub name_is_utf8 : (text : List ℕ) → is_name text ≡ true → IsUtf8 text
name_is_utf8 text is =
    let tests = and_parts (nat_le (length text) MAX_NAME && begins_with_letter text) (list_all is_name_byte text) is in
    IsUtf8-from_ascii text (name_bytes_are_ascii text tests.1)
