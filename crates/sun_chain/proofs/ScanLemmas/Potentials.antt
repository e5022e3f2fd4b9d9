-- Bounds the number of reads that a scan for SunSpec models can still make.
use Rattle.std.proofs.Common.{◌≡◌, ℕ, ◌+◌, ◌-◌, ◌*◌, ◌<◌, ◌≤◌, Bool, true, false, ◌==◌, ◌&&◌, nat_le, nat_lt, if◌then◌else◌, Option, None, Some, refl, sym, ap, arith}
use Rattle.std.specs.Prelude.{option_and_then}
use Rattle.std.specs.Option.{option_map_or}
use Rattle.std.proofs.lemmas.Bool.{and_parts, leb-true, ltb-true}
use Rattle.mb_wire.specs.Spans.{Span}
use Rattle.sun_chain.specs.Image.{Words}
use Rattle.sun_chain.specs.Chain.{is_marked, next_after}
use Rattle.sun_chain.specs.declared.model.Model.{Model}
use Rattle.sun_chain.specs.Scanning.Stages.{after_head, checked, head_at, in_model, is_known, may_stand, model_at, model_in, other_mark, stage_after, wanted}
use Rattle.sun_chain.specs.declared.scans.stage.Stage.{Stage}
use Rattle.sun_chain.specs.declared.scans.stage.Stage.TheVariants.{Mark, Head, Ending, Registers, Over}

-- A number that is at least 125 times the number of reads that may still follow in a scan. The
-- number counts 1 for each address that may still be read, and 250 for each model that may still be
-- found.
abbrev pub potential : Stage → ℕ
potential (Mark address) = if address == 40000 then 82161 else if address == 50000 then 82036 else 81911
potential (Head address models) = 250 + 250 * (64 - models) + (65536 - address)
potential (Ending address) = 125
potential (Registers model asked models) = (model.length - asked) + 375 + 250 * (64 - models) + (65536 - next_after model)
potential Over = 0

head_potential : (models address : ℕ) → potential (head_at models address) ≤ 250 + 250 * (64 - models) + (65536 - address)
head_potential models address =
    elim (nat_le address 65535) as (λ b. potential (if b then Head address models else Over) ≤ 250 + 250 * (64 - models) + (65536 - address))
    [ true ↦ omega arith | false ↦ omega arith ]

mark_potential : (address : ℕ) → potential (other_mark address) + 125 ≤ potential (Mark address)
mark_potential address =
    elim (address == 40000) as (λ b. potential (if b then Mark 50000 else if address == 50000 then Mark 0 else Over) + 125 ≤ (if b then 82161 else if address == 50000 then 82036 else 81911)) [
      | true ↦ omega arith
      | false ↦ elim (address == 50000) as (λ b. potential (if b then Mark 0 else Over) + 125 ≤ (if b then 82036 else 81911)) [ true ↦ omega arith | false ↦ omega arith ]
    ]

marked_potential : (address : ℕ) → potential (Head (address + 2) 0) + 125 ≤ potential (Mark address)
marked_potential address =
    elim (address == 40000) as (λ b. 250 + 250 * 64 + (65536 - (address + 2)) + 125 ≤ (if b then 82161 else if address == 50000 then 82036 else 81911)) [
      | true ↦ omega arith
      | false ↦ elim (address == 50000) as (λ b. 250 + 250 * 64 + (65536 - (address + 2)) + 125 ≤ (if b then 82036 else 81911)) [ true ↦ omega arith | false ↦ omega arith ]
    ]

-- True if the model at the address may follow `models` earlier models: fewer than 64 models precede
-- it, and it ends within 65536 addresses.
pub record Standing (models address : ℕ) (model : Model) : Type 0 where
  pub at : model.address ≡ address
  pub few : models < 64
  pub inside : next_after model ≤ 65536

checked_stands : (models : ℕ) (tried model : Model) (b : Bool) → may_stand models tried ≡ b → (if b then Some tried else None) ≡ Some model → Standing models tried.address model
checked_stands models tried model true may is =
    let same : tried ≡ model = cc in
    let outer = and_parts _ _ may in
    let inner = and_parts _ _ outer.0 in
    let inside : next_after tried ≤ 65536 = leb-true _ _ outer.1 in
    record {
      at = ap (λ (m : Model). m.address) (sym same);
      few = ltb-true _ _ inner.1;
      inside = rw (← same) inside;
    }
checked_stands models tried model false may is = cc

found_stands : (models address : ℕ) (found second : Option ℕ) (model : Model) → option_and_then (λ id. option_and_then (λ length. checked models (model_at address id length)) second) found ≡ Some model → Standing models address model
found_stands models address None second model is = cc
found_stands models address (Some id) None model is = cc
found_stands models address (Some id) (Some length) model is = checked_stands models (model_at address id length) model (may_stand models (model_at address id length)) refl is

pub model_stands : (word : Words) (models address : ℕ) (model : Model) → model_in word models address ≡ Some model → Standing models address model
model_stands word models address model is = found_stands models address (word address) (word (address + 1)) model is

model_potential : (models address : ℕ) (model : Model) → Standing models address model → potential (in_model (models + 1) model) + 125 ≤ potential (Head address models)
model_potential models address model stands =
    let at : model.address ≡ address = stands.at in
    let few : models < 64 = stands.few in
    let inside : model.address + 2 + model.length ≤ 65536 = stands.inside in
    let following : potential (head_at (models + 1) (next_after model)) ≤ 250 + 250 * (64 - (models + 1)) + (65536 - next_after model) = head_potential (models + 1) (next_after model) in
    elim (is_known model.id && nat_lt 0 model.length) as (λ b. potential (if b then Registers model 0 (models + 1) else head_at (models + 1) (next_after model)) + 125 ≤ 250 + 250 * (64 - models) + (65536 - address))
    [ true ↦ omega arith | false ↦ omega (arith, following) ]

found_potential : (models address : ℕ) (found : Option Model) → ((model : Model) → found ≡ Some model → Standing models address model) → potential (option_map_or (in_model (models + 1)) found Over) + 125 ≤ potential (Head address models)
found_potential models address None stands = omega arith
found_potential models address (Some model) stands = model_potential models address model (stands model refl)

head_step : (word : Words) (models address : ℕ) (found : Option ℕ) → potential (after_head word models address found) + 125 ≤ potential (Head address models)
head_step word models address None =
    elim (nat_lt address 65535) as (λ b. potential (if b then Ending address else Over) + 125 ≤ 250 + 250 * (64 - models) + (65536 - address)) [ true ↦ omega arith | false ↦ omega arith ]
head_step word models address (Some id) =
    found_potential models address (model_in word models address) (λ model. model_stands word models address model)

-- Each read of a scan (the search for a device's SunSpec models) lowers the number `potential`,
-- which bounds the remaining reads, by at least 125.
pub less_potential : (word : Words) (stage : Stage) (span : Span) → wanted stage ≡ Some span → potential (stage_after word stage) + 125 ≤ potential stage
less_potential word (Mark address) span is =
    elim (is_marked word address) as (λ b. potential (if b then Head (address + 2) 0 else other_mark address) + 125 ≤ potential (Mark address))
    [ true ↦ marked_potential address | false ↦ mark_potential address ]
less_potential word (Head address models) span is =
    head_step word models address (word address)
less_potential word (Registers model asked models) span is =
    let following : potential (head_at models (next_after model)) ≤ 250 + 250 * (64 - models) + (65536 - next_after model) = head_potential models (next_after model) in
    let more : (b : Bool) → nat_lt (asked + 125) model.length ≡ b → potential (if b then Registers model (asked + 125) models else head_at models (next_after model)) + 125 ≤ potential (Registers model asked models) =
    λ b. elim b as (λ b. nat_lt (asked + 125) model.length ≡ b → potential (if b then Registers model (asked + 125) models else head_at models (next_after model)) + 125 ≤ potential (Registers model asked models))
    [ true ↦ λ e. let below : asked + 125 < model.length = ltb-true _ _ e in omega arith | false ↦ λ e. omega (arith, following) ] in
    more (nat_lt (asked + 125) model.length) refl
less_potential word (Ending address) span is = omega arith
less_potential word Over span is = cc
