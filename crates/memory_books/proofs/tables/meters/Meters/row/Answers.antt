use Rattle.std.proofs.Common.{◌∙◌, Some, sym, ap, subst, IsTrue, false}
use Rattle.std.specs.Option.{option_map}
use Rattle.office_books.specs.Ranges.{IsSound}
use Rattle.office_books.specs.Meters.{installation_of}
use Rattle.office_events.specs.declared.questions.Installation.{Installation}
use Rattle.memory_books.proofs.TablesLemmas.MetersComing.{stands_at, sound_so}
use Rattle.memory_books.proofs.tables.meters.Meters.row.Goals as goal

pub returns-then-is_sound-clause-found : goal.returns-then-is_sound-clause-found
returns-then-is_sound-clause-found c = λ known lawful are.
    let stands = stands_at known c.args.self.now c.args.name.now c.named-key.result c.in-Some.meter.now c.named-key.ensures c.in-Some.ensures.value are in
    ap (λ (row : Installation). Some row) stands.row ∙ sym (ap (option_map (installation_of known)) stands.there)

pub returns-else-is_sound-clause-found : goal.returns-else-is_sound-clause-found
returns-else-is_sound-clause-found c = λ known lawful are.
    let stands = stands_at known c.args.self.now c.args.name.now c.named-key.result c.in-Some.meter.now c.named-key.ensures c.in-Some.ensures.value are in
    let row : Installation = installation_of known stands.opening in
    let sound : IsSound c.in-Some.meter.now.row =
    subst IsSound (sym stands.row)
    (sound_so row ((c.installations_are_in_range.ensures known lawful).by_name c.args.name.now row (ap (option_map (installation_of known)) stands.there))) in
    absurd (let bad : IsTrue false = c.if-is_sound.ensures.if_so sound in cc)
