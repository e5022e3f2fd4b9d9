use Rattle.std.proofs.Common.{◌≡◌, [], ◌∷◌, ◌++◌, List, map, ap, ◌∙◌}
use Rattle.std.specs.List.{flat_map}
use Rattle.std.proofs.lemmas.List.{map-append}
use Rattle.table_seals.specs.declared.seals.MeterSeal.{MeterSeal}
use Rattle.table_seals.specs.Sealed.{Sealed, sealed_of}
use Rattle.table_seals.specs.Texts.{meter_text, month_line}
use Rattle.table_seals.proofs.Following.{no_more_meters, first_meter, months_then, so_far, all_done}
use Rattle.table_seals.proofs.parsing.meters.Goals as goal

pub loop-line-preserved : goal.loop-line-preserved
loop-line-preserved c = record {
  reads = λ seals rest is.
      let before = c.loop-line.invariant.reads seals rest is in
      let first = first_meter before.0 rest c.loop-line.rest.now c.in-Some.line c.in-Some.after.now c.in-Some.ensures.reads c.in-Some.ensures.begins before.2 in
      let voided = c.in_ok-voids.ensures.reads first.seal.meter first.seal.voids (flat_map (month_line first.seal.meter) first.seal.months ++ (flat_map meter_text first.others ++ rest)) first.voids in
      let counted = c.in_ok-months.ensures.reads first.seal.meter first.seal.months (flat_map meter_text first.others ++ rest)
      (months_then before.0 rest c.in-Some.line c.in-Some.after.now _ first voided.1) in
      let made : sealed_of c.in_ok-seal.seal ≡ first.seal = c.in_ok-seal.ensures first.seal first.line_is voided.0 counted.0 in
      let put : map sealed_of c.push.new.self.items ≡ map sealed_of c.loop-line.seals.items ++ first.seal ∷ [] =
      ap (λ (ss : List MeterSeal). map sealed_of ss) c.in_ok-push.ensures.items ∙ map-append sealed_of c.loop-line.seals.items (c.in_ok-seal.seal ∷ [])
      ∙ ap (λ (s : Sealed). map sealed_of c.loop-line.seals.items ++ s ∷ []) made in (
        first.others,
        so_far (map sealed_of c.loop-line.seals.items) (map sealed_of c.push.new.self.items) before.0 first.others seals first.seal put first.is before.1,
        record { fit = first.fit; no_meter = before.2.no_meter; no_void = before.2.no_void; no_month = before.2.no_month; is = counted.1 },
      );
  text = c.in_ok-months.ensures.utf8;
}

pub returns-clause-reads : goal.returns-clause-reads
returns-clause-reads c =
    λ seals rest is.
    let before = c.loop-line.invariant.reads seals rest is in
    let last = no_more_meters before.0 rest c.loop-line.rest.now c.in_default.ensures.reads before.2 in
    (all_done (map sealed_of c.loop-line.seals.items) before.0 seals last.0 before.1, last.1)
