-- Defines the tables of the known models, from the SunSpec Information Model Reference: 1, 101 to
-- 103, and 201 to 204.
use Rattle.std.specs.Prelude.{ℕ, ◌==◌, ◌&&◌, nat_le, if◌then◌else◌, List, [], ◌∷◌, codes, find, Some, None}
use Rattle.std.specs.Option.{option_and_then, option_map}
use Rattle.std.specs.Str.{bytes_eq}
use Rattle.std.specs.declared.option.Option.{Option}
use Rattle.sun_points.specs.declared.point_type.PointType.{PointType}
use Rattle.sun_points.specs.declared.point_type.PointType.TheVariants.{Int16, Uint16, Enum16, Bitfield32, Acc32, Sunssf, Text}
use Rattle.sun_chain.specs.declared.tables.Entry.{Entry}
use Rattle.sun_chain.specs.declared.tables.EntryType.{EntryType}
use Rattle.sun_chain.specs.declared.tables.EntryType.TheVariants as entry

-- A point of a model: its name, its offset in registers from the model's ID register, its type, and
-- the offset of its scale point.
pub record Row : Type 0 where
  pub name : List ℕ
  pub offset : ℕ
  pub ty : PointType
  pub scale : Option ℕ

-- The row of a model's table with the given name, offset, type and offset of the scale point.
abbrev pub row : List ℕ → ℕ → PointType → Option ℕ → Row
row name offset ty scale = record { name = name; offset = offset; ty = ty; scale = scale }

-- The points of model 1 (common), which identify a device.
abbrev pub common_table : List Row
common_table =
    row (codes "Mn") 2 (Text 16) None
    ∷ row (codes "Md") 18 (Text 16) None
    ∷ row (codes "Opt") 34 (Text 8) None
    ∷ row (codes "Vr") 42 (Text 8) None
    ∷ row (codes "SN") 50 (Text 16) None
    ∷ row (codes "DA") 66 Uint16 None
    ∷ []

-- The points of models 101 to 103: single-, split- and three-phase inverters.
abbrev pub inverter_table : List Row
inverter_table =
    row (codes "A") 2 Uint16 (Some 6)
    ∷ row (codes "AphA") 3 Uint16 (Some 6)
    ∷ row (codes "AphB") 4 Uint16 (Some 6)
    ∷ row (codes "AphC") 5 Uint16 (Some 6)
    ∷ row (codes "A_SF") 6 Sunssf None
    ∷ row (codes "PPVphAB") 7 Uint16 (Some 13)
    ∷ row (codes "PPVphBC") 8 Uint16 (Some 13)
    ∷ row (codes "PPVphCA") 9 Uint16 (Some 13)
    ∷ row (codes "PhVphA") 10 Uint16 (Some 13)
    ∷ row (codes "PhVphB") 11 Uint16 (Some 13)
    ∷ row (codes "PhVphC") 12 Uint16 (Some 13)
    ∷ row (codes "V_SF") 13 Sunssf None
    ∷ row (codes "W") 14 Int16 (Some 15)
    ∷ row (codes "W_SF") 15 Sunssf None
    ∷ row (codes "Hz") 16 Uint16 (Some 17)
    ∷ row (codes "Hz_SF") 17 Sunssf None
    ∷ row (codes "VA") 18 Int16 (Some 19)
    ∷ row (codes "VA_SF") 19 Sunssf None
    ∷ row (codes "VAr") 20 Int16 (Some 21)
    ∷ row (codes "VAr_SF") 21 Sunssf None
    ∷ row (codes "PF") 22 Int16 (Some 23)
    ∷ row (codes "PF_SF") 23 Sunssf None
    ∷ row (codes "WH") 24 Acc32 (Some 26)
    ∷ row (codes "WH_SF") 26 Sunssf None
    ∷ row (codes "DCA") 27 Uint16 (Some 28)
    ∷ row (codes "DCA_SF") 28 Sunssf None
    ∷ row (codes "DCV") 29 Uint16 (Some 30)
    ∷ row (codes "DCV_SF") 30 Sunssf None
    ∷ row (codes "DCW") 31 Int16 (Some 32)
    ∷ row (codes "DCW_SF") 32 Sunssf None
    ∷ row (codes "TmpCab") 33 Int16 (Some 37)
    ∷ row (codes "TmpSnk") 34 Int16 (Some 37)
    ∷ row (codes "TmpTrns") 35 Int16 (Some 37)
    ∷ row (codes "TmpOt") 36 Int16 (Some 37)
    ∷ row (codes "Tmp_SF") 37 Sunssf None
    ∷ row (codes "St") 38 Enum16 None
    ∷ row (codes "StVnd") 39 Enum16 None
    ∷ row (codes "Evt1") 40 Bitfield32 None
    ∷ row (codes "Evt2") 42 Bitfield32 None
    ∷ row (codes "EvtVnd1") 44 Bitfield32 None
    ∷ row (codes "EvtVnd2") 46 Bitfield32 None
    ∷ row (codes "EvtVnd3") 48 Bitfield32 None
    ∷ row (codes "EvtVnd4") 50 Bitfield32 None
    ∷ []

-- The points of models 201 to 204: meters.
abbrev pub meter_table : List Row
meter_table =
    row (codes "A") 2 Int16 (Some 6)
    ∷ row (codes "AphA") 3 Int16 (Some 6)
    ∷ row (codes "AphB") 4 Int16 (Some 6)
    ∷ row (codes "AphC") 5 Int16 (Some 6)
    ∷ row (codes "A_SF") 6 Sunssf None
    ∷ row (codes "PhV") 7 Int16 (Some 15)
    ∷ row (codes "PhVphA") 8 Int16 (Some 15)
    ∷ row (codes "PhVphB") 9 Int16 (Some 15)
    ∷ row (codes "PhVphC") 10 Int16 (Some 15)
    ∷ row (codes "PPV") 11 Int16 (Some 15)
    ∷ row (codes "PPVphAB") 12 Int16 (Some 15)
    ∷ row (codes "PPVphBC") 13 Int16 (Some 15)
    ∷ row (codes "PPVphCA") 14 Int16 (Some 15)
    ∷ row (codes "V_SF") 15 Sunssf None
    ∷ row (codes "Hz") 16 Int16 (Some 17)
    ∷ row (codes "Hz_SF") 17 Sunssf None
    ∷ row (codes "W") 18 Int16 (Some 22)
    ∷ row (codes "WphA") 19 Int16 (Some 22)
    ∷ row (codes "WphB") 20 Int16 (Some 22)
    ∷ row (codes "WphC") 21 Int16 (Some 22)
    ∷ row (codes "W_SF") 22 Sunssf None
    ∷ row (codes "VA") 23 Int16 (Some 27)
    ∷ row (codes "VAphA") 24 Int16 (Some 27)
    ∷ row (codes "VAphB") 25 Int16 (Some 27)
    ∷ row (codes "VAphC") 26 Int16 (Some 27)
    ∷ row (codes "VA_SF") 27 Sunssf None
    ∷ row (codes "VAR") 28 Int16 (Some 32)
    ∷ row (codes "VARphA") 29 Int16 (Some 32)
    ∷ row (codes "VARphB") 30 Int16 (Some 32)
    ∷ row (codes "VARphC") 31 Int16 (Some 32)
    ∷ row (codes "VAR_SF") 32 Sunssf None
    ∷ row (codes "PF") 33 Int16 (Some 37)
    ∷ row (codes "PFphA") 34 Int16 (Some 37)
    ∷ row (codes "PFphB") 35 Int16 (Some 37)
    ∷ row (codes "PFphC") 36 Int16 (Some 37)
    ∷ row (codes "PF_SF") 37 Sunssf None
    ∷ row (codes "TotWhExp") 38 Acc32 (Some 54)
    ∷ row (codes "TotWhExpPhA") 40 Acc32 (Some 54)
    ∷ row (codes "TotWhExpPhB") 42 Acc32 (Some 54)
    ∷ row (codes "TotWhExpPhC") 44 Acc32 (Some 54)
    ∷ row (codes "TotWhImp") 46 Acc32 (Some 54)
    ∷ row (codes "TotWhImpPhA") 48 Acc32 (Some 54)
    ∷ row (codes "TotWhImpPhB") 50 Acc32 (Some 54)
    ∷ row (codes "TotWhImpPhC") 52 Acc32 (Some 54)
    ∷ row (codes "TotWh_SF") 54 Sunssf None
    ∷ row (codes "TotVAhExp") 55 Acc32 (Some 71)
    ∷ row (codes "TotVAhExpPhA") 57 Acc32 (Some 71)
    ∷ row (codes "TotVAhExpPhB") 59 Acc32 (Some 71)
    ∷ row (codes "TotVAhExpPhC") 61 Acc32 (Some 71)
    ∷ row (codes "TotVAhImp") 63 Acc32 (Some 71)
    ∷ row (codes "TotVAhImpPhA") 65 Acc32 (Some 71)
    ∷ row (codes "TotVAhImpPhB") 67 Acc32 (Some 71)
    ∷ row (codes "TotVAhImpPhC") 69 Acc32 (Some 71)
    ∷ row (codes "TotVAh_SF") 71 Sunssf None
    ∷ row (codes "TotVArhImpQ1") 72 Acc32 (Some 104)
    ∷ row (codes "TotVArhImpQ1PhA") 74 Acc32 (Some 104)
    ∷ row (codes "TotVArhImpQ1PhB") 76 Acc32 (Some 104)
    ∷ row (codes "TotVArhImpQ1PhC") 78 Acc32 (Some 104)
    ∷ row (codes "TotVArhImpQ2") 80 Acc32 (Some 104)
    ∷ row (codes "TotVArhImpQ2PhA") 82 Acc32 (Some 104)
    ∷ row (codes "TotVArhImpQ2PhB") 84 Acc32 (Some 104)
    ∷ row (codes "TotVArhImpQ2PhC") 86 Acc32 (Some 104)
    ∷ row (codes "TotVArhExpQ3") 88 Acc32 (Some 104)
    ∷ row (codes "TotVArhExpQ3PhA") 90 Acc32 (Some 104)
    ∷ row (codes "TotVArhExpQ3PhB") 92 Acc32 (Some 104)
    ∷ row (codes "TotVArhExpQ3PhC") 94 Acc32 (Some 104)
    ∷ row (codes "TotVArhExpQ4") 96 Acc32 (Some 104)
    ∷ row (codes "TotVArhExpQ4PhA") 98 Acc32 (Some 104)
    ∷ row (codes "TotVArhExpQ4PhB") 100 Acc32 (Some 104)
    ∷ row (codes "TotVArhExpQ4PhC") 102 Acc32 (Some 104)
    ∷ row (codes "TotVArh_SF") 104 Sunssf None
    ∷ row (codes "Evt") 105 Bitfield32 None
    ∷ []

-- The table of points of the model with the given ID, or an empty list for an unknown model.
abbrev pub table_of : ℕ → List Row
table_of id =
    if id == 1 then common_table
    else if nat_le 101 id && nat_le id 103 then inverter_table
    else if nat_le 201 id && nat_le id 204 then meter_table
    else []

-- The SunSpec point type that an `EntryType` (a type in the program's model tables) represents.
abbrev pub type_of : EntryType → PointType
type_of entry.Int16 = Int16
type_of entry.Uint16 = Uint16
type_of entry.Enum16 = Enum16
type_of entry.Bitfield32 = Bitfield32
type_of entry.Acc32 = Acc32
type_of entry.Sunssf = Sunssf
type_of entry.String8 = Text 8
type_of entry.String16 = Text 16

-- The row of a model's table, as the contracts use it, with the name, offset, type and scale of an
-- entry of the program's table of points.
abbrev pub row_of : Entry → Row
row_of found = row found.name.now found.offset (type_of found.ty) found.scale

-- The offset of the scale point of the first point with the given name in a model's table, or
-- `None`.
abbrev pub scale_offset_in : List Row → List ℕ → Option ℕ
scale_offset_in rows name =
    option_and_then (λ scaled. scaled.scale) (find (λ scaled. bytes_eq scaled.name name) rows)

-- The name of the first point at the given offset in a model's table, or `None`.
abbrev pub name_at_in : List Row → ℕ → Option (List ℕ)
name_at_in rows offset =
    option_map (λ scaling. scaling.name) (find (λ scaling. scaling.offset == offset) rows)

-- The name of the scale point of the first point with the given name in a model's table, or `None`.
abbrev pub scale_name_in : List Row → List ℕ → Option (List ℕ)
scale_name_in rows name = option_and_then (name_at_in rows) (scale_offset_in rows name)
