use Rattle.std.proofs.Common.{◌≡◌, ◌++◌, ℕ, List, ap, ◌∙◌}
use Rattle.std.specs.Prelude.{codes}
use Rattle.energy_report.specs.declared.form.Format.TheVariants.{Json}
use Rattle.energy_report.specs.StatementTexts.{count_members, held_text, stand_members}
use Rattle.energy_report.specs.Texts.{energy_text, unit_word}
use Rattle.energy_report.proofs.StatementLemmas.{pushed}
use Rattle.energy_report.proofs.statement_text.push_object.Goals as goal

pub returns : goal.returns
returns c =
    let page = c.args.page.now in
    let unit = c.args.unit in
    let row = c.args.row.now in
    let energy : c.bytes.result.now ≡ energy_text unit row.mwh = c.bytes.ensures ∙ c.energy.ensures.bytes in
    let meter : c.push-2.new.self ≡ c.push.new.self ++ row.meter =
    c.push-2.ensures.bytes ∙ ap (λ (text : List ℕ). c.push.new.self ++ text) c.as_bytes.ensures.bytes in
    let word : c.push-5.new.self ≡ c.push-4.new.self ++ unit_word unit =
    c.push-5.ensures.bytes ∙ ap (λ (text : List ℕ). c.push-4.new.self ++ text) c.unit_word.ensures.word in
    let mwh : c.push-7.new.self ≡ c.push-6.new.self ++ energy_text unit row.mwh =
    c.push-7.ensures.bytes ∙ ap (λ (text : List ℕ). c.push-6.new.self ++ text) energy in
    let t1 = codes "{\"meter\":\"" in
    let e1 : c.push.new.self ≡ page ++ t1 = c.push.ensures.bytes in
    let t2 = t1 ++ row.meter in
    let e2 : c.push-2.new.self ≡ page ++ t2 =
    pushed page c.push.new.self c.push-2.new.self t1 row.meter e1 meter in
    let t3 = t2 ++ codes "\"," in
    let e3 : c.push-3.new.self ≡ page ++ t3 =
    pushed page c.push-2.new.self c.push-3.new.self t2 (codes "\",") e2 c.push-3.ensures.bytes in
    let t4 = t3 ++ stand_members unit (codes "first") row.entries.first in
    let e4 : c.push_counter_members.new.page ≡ page ++ t4 =
    pushed page c.push-3.new.self c.push_counter_members.new.page t3 (stand_members unit (codes "first") row.entries.first) e3 c.push_counter_members.ensures.bytes in
    let t5 = t4 ++ stand_members unit (codes "last") row.entries.last in
    let e5 : c.push_counter_members-2.new.page ≡ page ++ t5 =
    pushed page c.push_counter_members.new.page c.push_counter_members-2.new.page t4 (stand_members unit (codes "last") row.entries.last) e4 c.push_counter_members-2.ensures.bytes in
    let t6 = t5 ++ codes "\"energy_" in
    let e6 : c.push-4.new.self ≡ page ++ t6 =
    pushed page c.push_counter_members-2.new.page c.push-4.new.self t5 (codes "\"energy_") e5 c.push-4.ensures.bytes in
    let t7 = t6 ++ unit_word unit in
    let e7 : c.push-5.new.self ≡ page ++ t7 =
    pushed page c.push-4.new.self c.push-5.new.self t6 (unit_word unit) e6 word in
    let t8 = t7 ++ codes "\":\"" in
    let e8 : c.push-6.new.self ≡ page ++ t8 =
    pushed page c.push-5.new.self c.push-6.new.self t7 (codes "\":\"") e7 c.push-6.ensures.bytes in
    let t9 = t8 ++ energy_text unit row.mwh in
    let e9 : c.push-7.new.self ≡ page ++ t9 =
    pushed page c.push-6.new.self c.push-7.new.self t8 (energy_text unit row.mwh) e8 mwh in
    let t10 = t9 ++ codes "\"" in
    let e10 : c.push-8.new.self ≡ page ++ t10 =
    pushed page c.push-7.new.self c.push-8.new.self t9 (codes "\"") e9 c.push-8.ensures.bytes in
    let t11 = t10 ++ count_members row.entries in
    let e11 : c.push_count_members.new.page ≡ page ++ t11 =
    pushed page c.push-8.new.self c.push_count_members.new.page t10 (count_members row.entries) e10 c.push_count_members.ensures.bytes in
    let t12 = t11 ++ codes ",\"held\":" in
    let e12 : c.push-9.new.self ≡ page ++ t12 =
    pushed page c.push_count_members.new.page c.push-9.new.self t11 (codes ",\"held\":") e11 c.push-9.ensures.bytes in
    let t13 = t12 ++ held_text Json row.held in
    let e13 : c.push_held.new.page ≡ page ++ t13 =
    pushed page c.push-9.new.self c.push_held.new.page t12 (held_text Json row.held) e12 c.push_held.ensures.bytes in
    pushed page c.push_held.new.page c.push-10.new.self t13 (codes "}") e13 c.push-10.ensures.bytes
