use Rattle.std.proofs.Common.{refl}
use Rattle.table_seals.specs.Sealed.{sealed_of}
use Rattle.table_seals.specs.declared.tables.Terms.{Terms}
use Rattle.table_seals.proofs.InstalledTerms.{installed_by}
use Rattle.table_seals.proofs.installed.is_installed.Goals as goal

pub returns : goal.returns
returns c =
    let terms : Terms = record { place = c.args.seal.now.place; meter = c.in_ok-clone.field-0; register = c.in_ok-clone-2.field-0; ceiling = c.args.seal.now.ceiling } in
    installed_by c.args.known.now terms (sealed_of c.args.seal.now) c.contains.result c.contains.ensures c.in_ok-clone.ensures.cases
    c.in_ok-clone-2.ensures.cases refl refl
