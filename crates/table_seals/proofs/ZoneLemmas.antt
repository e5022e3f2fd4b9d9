-- Lemmas on the time zone of a file: a file is sealed, and checked against a seal, in the time zone
-- whose text is in the table `meta`.
use Rattle.std.proofs.Common.{◌≡◌, ℕ, List, Option, Some, None, String, string_bytes, inr, subst}
use Rattle.interval_core.specs.Zone.{HasRule}
use Rattle.interval_core.specs.declared.zone.Zone.{Zone}
use Rattle.store_tables.specs.Content.{Content}
use Rattle.table_audit.specs.FileMark.{FindsZone, IsZoneOf}
use Rattle.table_seals.specs.declared.checks.Checked.{Checked}
use Rattle.table_seals.specs.declared.seals.Seal.{Seal}
use Rattle.table_seals.specs.Checking.{ReportsIfZone, ReportsInZone}
use Rattle.table_seals.specs.Sealed.{SealedTables}
use Rattle.table_seals.specs.Sealing.{HasNoZone, SealsInZone, SealsTables}

pub no_zone : {Z : Type 0} (content : Content) (found : Option (String Z)) → found ≡ None → FindsZone content found → HasNoZone content
no_zone {Z} content found is h = subst (λ (o : Option (String Z)). FindsZone content o) is h

pub is_zone : {Z : Type 0} (content : Content) (found : Option (String Z)) (text : String Z) → found ≡ Some text → FindsZone content found
    → IsZoneOf content (string_bytes text)
is_zone {Z} content found text is h = subst (λ (o : Option (String Z)). FindsZone content o) is h

pub sealed_in : (content : Content) (text : List ℕ) (zone : Zone) (found : Option Seal) → IsZoneOf content text → HasRule text zone
    → SealsInZone zone text content found → SealsTables content found
sealed_in content text zone None is rule sealed = inr (record { text = text; zone = zone; in_zone = record { is_zone = is; has_rule = rule }; sealed = sealed })
sealed_in content text zone (Some seal) is rule sealed = record { text = text; zone = zone; in_zone = record { is_zone = is; has_rule = rule }; sealed = sealed }

pub reported_in : (seal : SealedTables) (content : Content) (text : List ℕ) (zone : Zone) (checked : Checked) → IsZoneOf content text → HasRule text zone
    → ReportsInZone zone text seal content checked → ReportsIfZone seal content (Some checked)
reported_in seal content text zone checked is rule reported = record { text = text; zone = zone; in_zone = record { is_zone = is; has_rule = rule }; reported = reported }
