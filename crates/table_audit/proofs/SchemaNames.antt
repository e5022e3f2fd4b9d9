-- A lemma on the comparison of a file's tables with the program's tables. It proves the result
-- `Objects` (missing or surplus tables) for the case that no table of the program differs.
use Rattle.std.proofs.Common.{List, [], ◌∷◌, ◌<◌, length, map, refl, arith}
use Rattle.sqlite.specs.Table.{Table}
use Rattle.table_audit.specs.SchemaForms.{NamesFirst, table_of}
use Rattle.table_audit.specs.declared.schema.SchemaFault.TheVariants.{Objects}
use Rattle.table_audit.specs.declared.schema.forms.TableForm.{TableForm}

-- If a comparison of schemas has no table of the program left to compare, then no table of the
-- program differs, and the fault is `Objects` (missing or surplus tables).
pub surplus_named : (tables : List Table) (forms : List TableForm) → length forms < 1
    → NamesFirst tables (map table_of forms) (map (λ (form : TableForm). form.fault) forms) Objects
surplus_named [] forms none = refl
surplus_named (table ∷ tables) [] none = refl
surplus_named (table ∷ tables) (form ∷ forms) none = absurd (omega (arith, none))
