-- Proofs that a row of a table determines the record that it encodes.
use Rattle.std.proofs.Common.{◌≡◌, ℕ, ◌+◌, ◌≤◌, refl, subst, Option, Some}
use Rattle.std.proofs.Math.Bridge.{le_prop}
use Rattle.mb_wire.specs.declared.span.ReadFunction.{ReadFunction}
use Rattle.mb_wire.specs.declared.span.ReadSpan.{ReadSpan}
use Rattle.office_events.specs.declared.facts.Device.{Device}
use Rattle.office_events.specs.declared.facts.Register.{Register}
use Rattle.office_events.specs.declared.facts.ScaleSource.{ScaleSource}
use Rattle.office_events.specs.declared.facts.ScaleSource.TheVariants as source
use Rattle.office_events.specs.declared.facts.HeldReading.{HeldReading}
use Rattle.store_tables.specs.declared.devices.rows.RegisterScale.{RegisterScale}
use Rattle.store_tables.specs.declared.devices.rows.RegisterScale.TheVariants as scale
use Rattle.office_store.specs.Rows.{added, scale_as, registered, voided, started, outcome_row, held_row, kept}
use Rattle.office_store.proofs.LawsLemmas.Lists.{IsInjective, undone}

pub one_device : (m n : ℕ) (a b : Device) → added m a ≡ added n b → a ≡ b
one_device m n a b e = λ i. record { name = (e i).name; unit = (e i).row.unit; timeout = (e i).row.timeout; window = (e i).row.window }

source_of : RegisterScale → Option ScaleSource
source_of (scale.Fixed sf) = Some (source.Fixed sf)
source_of (scale.At address) = Some (source.Register address)

source_back : (s : ScaleSource) → source_of (scale_as s) ≡ Some s
unfolding source_of
source_back (source.Fixed sf) = refl
source_back (source.Register address) = refl

pub one_register : (m n : ℕ) (a b : Register) → registered m a ≡ registered n b → a ≡ b
one_register m n a b e =
    let scale : a.scale ≡ b.scale = undone scale_as source_of source_back _ _ (λ i. (e i).row.scale) in
    λ i. record { name = (e i).name; device = (e i).device; function = (e i).row.function; address = (e i).row.address; scale = scale i }

pub one_hold : (m n : ℕ) (a b : HeldReading) → held_row m a ≡ held_row n b → a ≡ b
one_hold m n a b e =
    λ i. record { meter = (e i).meter; poll = (e i).row.poll; at = (e i).row.moment; raw = (e i).row.raw; sf = (e i).row.sf; cause = (e i).row.cause }

pub one_void : IsInjective voided
one_void a b e = λ i. record { meter = (e i).meter; place = (e i).place; at = (e i).moment }

pub one_end : IsInjective outcome_row
one_end a b e = λ i. record { poll = (e i).poll; at = (e i).moment; outcome = (e i).outcome }

pub one_reply : IsInjective kept
one_reply a b e = λ i. record { caller = (e i).caller; number = (e i).number; request = (e i).request; kind = (e i).kind; at = (e i).moment }

-- The span of a Modbus read of 1 to 125 Modbus registers that ends at or below address 65535.
abbrev span : (f : ReadFunction) → (a c : ℕ) → (1 ≤ c) × (c ≤ 125) × (a + c ≤ 65536) → ReadSpan
span f a c h = record { function = f; address = a; count = c; some = h.0; few = h.1; inside = h.2 }

one_span : (f g : ReadFunction) (a b c d : ℕ) (h : (1 ≤ c) × (c ≤ 125) × (a + c ≤ 65536)) (k : (1 ≤ d) × (d ≤ 125) × (b + d ≤ 65536))
    → f ≡ g → a ≡ b → c ≡ d → span f a c h ≡ span g b d k
one_span f g a b c d h k ef ea ec =
    subst (λ d. (k : (1 ≤ d) × (d ≤ 125) × (b + d ≤ 65536)) → span f a c h ≡ span g b d k) ec
    (subst (λ b. (k : (1 ≤ c) × (c ≤ 125) × (b + c ≤ 65536)) → span f a c h ≡ span g b c k) ea
    (λ k i. span (ef i) a c (le_prop h.0 k.0 i, le_prop h.1 k.1 i, le_prop h.2 k.2 i))) k

pub one_poll : IsInjective started
one_poll a b e =
    let same : a.span ≡ b.span =
    one_span a.span.function b.span.function a.span.address b.span.address a.span.count b.span.count
    (a.span.some, a.span.few, a.span.inside) (b.span.some, b.span.few, b.span.inside)
    (λ i. (e i).row.function) (λ i. (e i).row.address) (λ i. (e i).row.count) in
    λ i. record { number = (e i).row.number; device = (e i).device; unit = (e i).row.unit; at = (e i).row.started; id = (e i).row.id; span = same i }
