use Rattle.std.proofs.Common.{rules, ◌≡◌, List, ℕ, [], ◌∷◌, ◌++◌, map, ap, ◌∙◌}
use Rattle.std.proofs.lemmas.List.{map-append}
use Rattle.table_seals.specs.Reading.{BeginsSetup, IsSetupLine}
use Rattle.table_seals.specs.Sealed.{line_bytes}
use Rattle.table_seals.specs.Texts.{setup_line}
use Rattle.table_seals.proofs.Following.{no_more, next_item, so_far, all_done}
use Rattle.table_seals.proofs.parsing.setup.Goals as goal

pub loop-line-preserved : goal.loop-line-preserved
loop-line-preserved c = record {
  reads = λ lines rest is.
      let before = c.loop-line.invariant.reads lines rest is in
      let next = next_item IsSetupLine setup_line BeginsSetup before.0 rest c.loop-line.rest.now (λ l. c.in-Some.line.now ≡ l) c.in-Some.after.now
      c.in-Some.ensures.reads c.in-Some.ensures.begins before.2 in
      let same : c.as_bytes.result.now ≡ c.in-Some.line.now = search rules in
      let made : line_bytes c.in_ok-bytes.bytes ≡ next.0 = c.in_ok-bytes.ensures.items_if_clones_equal (λ x y h. h) ∙ same ∙ next.3 in
      let put : map line_bytes c.push.new.self.items ≡ map line_bytes c.loop-line.lines.items ++ next.0 ∷ [] =
      ap (λ ls. map line_bytes ls) c.in_ok-push.ensures.items ∙ map-append line_bytes c.loop-line.lines.items (c.in_ok-bytes.bytes ∷ [])
      ∙ ap (λ (l : List ℕ). map line_bytes c.loop-line.lines.items ++ l ∷ []) made in (
        next.1,
        so_far (map line_bytes c.loop-line.lines.items) (map line_bytes c.push.new.self.items) before.0 next.1 lines next.0 put next.2 before.1,
        next.4,
      );
  text = c.in-Some.ensures.utf8;
}

pub returns-clause-reads : goal.returns-clause-reads
returns-clause-reads c =
    λ lines rest is.
    let before = c.loop-line.invariant.reads lines rest is in
    let last = no_more IsSetupLine setup_line BeginsSetup before.0 rest c.loop-line.rest.now c.in_default.ensures.reads before.2 in
    (all_done (map line_bytes c.loop-line.lines.items) before.0 lines last.0 before.1, last.1)
