-- Lemmas: the seal of a file's tables consists of the lines of its time zone, devices and
-- registers, the seals (digests) of all meters and the seal of the polls. If one of these is
-- missing, the tables have no seal.
use Rattle.std.proofs.Common.{◌≡◌, List, ℕ, Option, Some, None, Vec, map, inl, inr, subst}
use Rattle.interval_core.specs.declared.zone.Zone.{Zone}
use Rattle.store_tables.specs.Content.{Content}
use Rattle.table_seals.specs.declared.seals.MeterSeal.{MeterSeal}
use Rattle.table_seals.specs.declared.seals.PollSeal.{PollSeal}
use Rattle.table_seals.specs.declared.seals.Seal.{Seal}
use Rattle.table_seals.specs.PollSealing.{SealsPolls}
use Rattle.table_seals.specs.Sealed.{line_bytes}
use Rattle.table_seals.specs.Sealing.{SealsMeters, SealsInZone, SealsRows}
use Rattle.table_seals.specs.Setup.{HasSetup}

pub no_meters : {Z : Type 0} (zone : Zone) (text : List ℕ) (content : Content) (found : Option (Vec MeterSeal Z)) → found ≡ None
    → SealsMeters zone content found → SealsInZone zone text content None
no_meters {Z} zone text content found is h = inl (record {
  rows = h.rows;
  shown = h.shown;
  unsealed = subst (λ (o : Option (Vec MeterSeal Z)). SealsRows zone h.rows content o) is h.sealed;
})

pub no_polls : (zone : Zone) (text : List ℕ) (content : Content) (found : Option PollSeal) → found ≡ None → SealsPolls content found
    → SealsInZone zone text content None
no_polls zone text content found is h = inr (subst (λ (o : Option PollSeal). SealsPolls content o) is h)

pub all_sealed : {Z : Type 0} (zone : Zone) (text : List ℕ) (content : Content) (found : Option (Vec MeterSeal Z)) (polls : Option PollSeal)
    (meters : Vec MeterSeal Z) (poll_seal : PollSeal) → found ≡ Some meters → polls ≡ Some poll_seal → SealsMeters zone content found → SealsPolls content polls
    → SealsMeters zone content (Some meters) × SealsPolls content (Some poll_seal)
all_sealed {Z} zone text content found polls meters poll_seal m p h g = (
  subst (λ (o : Option (Vec MeterSeal Z)). SealsMeters zone content o) m h,
  subst (λ (o : Option PollSeal). SealsPolls content o) p g,
)
