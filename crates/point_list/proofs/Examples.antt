-- Checks the definitions of valid point lists at each limit, with the last valid value and the
-- first invalid value.
use Rattle.std.proofs.Common.{◌≡◌, ℕ, pos, negsuc, true, false, List, [], ◌∷◌, replicate, Some, None, refl}
use Rattle.std.specs.Prelude.{codes}
use Rattle.mb_wire.specs.declared.span.ReadFunction.TheVariants.{HoldingRegisters}
use Rattle.sun_points.specs.declared.point_type.PointType.TheVariants as kind
use Rattle.point_list.specs.declared.fault.RowFault.TheVariants.{TooMany}
use Rattle.point_list.specs.declared.point.ListedPoint.{ListedPoint}
use Rattle.point_list.specs.declared.point.PointScale.TheVariants.{Unscaled}
use Rattle.point_list.specs.ChainPoints.{chain_faults}
use Rattle.point_list.specs.Faults.{RowText, conditions_where, first_of, reaches_past}
use Rattle.point_list.specs.Fields.{fixed_scale_of, function_of, number_within, type_of}
use Rattle.point_list.specs.Lists.{is_one_group}
use Rattle.point_list.specs.Names.{is_name}

-- Point names of 1 to 32 letters are valid.

abbrev letters : ℕ → List ℕ
letters count = replicate count 65

no_letter : is_name [] ≡ false
no_letter = refl

one_letter : is_name (letters 1) ≡ true
one_letter = refl

longest_name : is_name (letters 32) ≡ true
longest_name = refl

name_too_long : is_name (letters 33) ≡ false
name_too_long = refl

digit_first : is_name (codes "1A") ≡ false
digit_first = refl

-- Examples of the greatest and least numbers that the fields of a point list's row may have.

last_address : number_within 0 65535 (codes "65535") ≡ Some 65535
last_address = refl

after_the_last_address : number_within 0 65535 (codes "65536") ≡ None
after_the_last_address = refl

one_register_at_the_last_address : reaches_past (Some 65535) (Some kind.Uint16) ≡ false
one_register_at_the_last_address = refl

two_registers_at_the_last_address : reaches_past (Some 65535) (Some kind.Uint32) ≡ true
two_registers_at_the_last_address = refl

longest_text : type_of (codes "string125") ≡ Some (kind.Text 125)
longest_text = refl

text_too_long : type_of (codes "string126") ≡ None
text_too_long = refl

text_of_none : type_of (codes "string0") ≡ None
text_of_none = refl

least_scale : fixed_scale_of (codes "-10") ≡ Some (negsuc 9)
least_scale = refl

below_the_least_scale : fixed_scale_of (codes "-11") ≡ None
below_the_least_scale = refl

greatest_scale : fixed_scale_of (codes "10") ≡ Some (pos 10)
greatest_scale = refl

past_the_greatest_scale : fixed_scale_of (codes "11") ≡ None
past_the_greatest_scale = refl

function_2 : function_of (codes "2") ≡ None
function_2 = refl

function_3 : function_of (codes "3") ≡ Some HoldingRegisters
function_3 = refl

function_5 : function_of (codes "5") ≡ None
function_5 = refl

-- A point and its scale point (SunSpec scale factor) may span 125 registers, and not 126.

abbrev word_at : ℕ → ListedPoint
word_at address = record {
  name = codes "A";
  function = HoldingRegisters;
  area = 0;
  address = address;
  kind = kind.Uint16;
  scale = Unscaled;
}

widest_group : is_one_group (word_at 0) (word_at 124) ≡ true
widest_group = refl

group_too_wide : is_one_group (word_at 0) (word_at 125) ≡ false
group_too_wide = refl

-- A point list may have 512 points. One more point is a fault on row 514, because the header is row
-- 1.

abbrev good_row : RowText
good_row = record {
  name = codes "A";
  function = codes "3";
  area = codes "255";
  address = codes "65535";
  kind = codes "uint16";
  scale = [];
}

row_of_the_512th : first_of (conditions_where false 511 good_row) ≡ None
row_of_the_512th = refl

row_of_the_513th : first_of (conditions_where false 512 good_row) ≡ Some TooMany
row_of_the_513th = refl

chain_of_512_points : chain_faults (replicate 512 (word_at 0)) ≡ []
chain_of_512_points = refl

chain_of_513_points : chain_faults (replicate 513 (word_at 0)) ≡ record { row = 514; fault = TooMany } ∷ []
chain_of_513_points = refl
