-- Defines the identity of a device: the fields of its first common model (model 1).
use Rattle.std.specs.Prelude.{ℕ, ◌==◌, List, [], Some, None, option_map, option_and_then, find}
use Rattle.std.specs.declared.option.Option.{Option}
use Rattle.sun_points.specs.Point.{Value, Absent, Signed, Unsigned, Bits, value_of}
use Rattle.sun_points.specs.Point.{Text as WordsOf}
use Rattle.sun_points.specs.declared.point_type.PointType.TheVariants.{Uint16, Text}
use Rattle.sun_chain.specs.Image.{Words}
use Rattle.sun_chain.specs.Points.{registers_in}
use Rattle.sun_chain.specs.declared.model.Model.{Model}
use Rattle.sun_chain.specs.declared.common.Common.{Common}

-- The fields of a common model (model 1) as values that borrow no memory, with each text as a list
-- of registers.
pub record Said : Type 0 where
  pub manufacturer : List ℕ
  pub model : List ℕ
  pub options : List ℕ
  pub version : List ℕ
  pub serial : List ℕ
  pub device_address : Option ℕ

-- The fields of a `Common` (the fields of model 1) as values, without the memory image that a
-- `Common` borrows.
abbrev pub said : Common → Said
said common = record {
  manufacturer = common.manufacturer.words.now;
  model = common.model.words.now;
  options = common.options.words.now;
  version = common.version.words.now;
  serial = common.serial.words.now;
  device_address = common.device_address;
}

-- The registers of a text point. The list is empty for a value of another type.
abbrev pub text_words : Value → List ℕ
text_words Absent = []
text_words (Signed value) = []
text_words (Unsigned value) = []
text_words (Bits bits) = []
text_words (WordsOf words) = words

-- The registers of a text point, or an empty list if the point is missing.
abbrev pub words_or_none : Option Value → List ℕ
words_or_none None = []
words_or_none (Some value) = text_words value

-- The registers of a text point at an offset of a model. The list is empty if the registers are not
-- fully inside the model or were not read.
abbrev pub text_in : Words → Model → ℕ → ℕ → List ℕ
text_in word model offset count =
    words_or_none (option_map (value_of (Text count)) (registers_in word model offset count))

-- The number in an unsigned value, or `None` for a value of another kind.
abbrev pub number_of : Value → Option ℕ
number_of Absent = None
number_of (Signed value) = None
number_of (Unsigned value) = Some value
number_of (Bits bits) = None
number_of (WordsOf words) = None

-- The device address at offset 66 of model 1, or `None` if the address is missing or not
-- implemented.
abbrev pub device_address_in : Words → Model → Option ℕ
device_address_in word model =
    option_and_then (λ words. number_of (value_of Uint16 words)) (registers_in word model 66 1)

-- The fields of a common model (model 1), at the offsets of the SunSpec Information Model
-- Reference.
abbrev pub common_in : Words → Model → Said
common_in word model = record {
  manufacturer = text_in word model 2 16;
  model = text_in word model 18 16;
  options = text_in word model 34 8;
  version = text_in word model 42 8;
  serial = text_in word model 50 16;
  device_address = device_address_in word model;
}

-- The first model of a chain with ID 1, or `None`.
abbrev pub first_common : List Model → Option Model
first_common models = find (λ model. model.id == 1) models
