use Rattle.std.proofs.Common.{◌∙◌}
use Rattle.table_seals.proofs.Opened.{meter_opened}
use Rattle.table_seals.proofs.parsing.meter_line.Goals as goal

pub returns-in-None-clause-reads : goal.returns-in-None-clause-reads
returns-in-None-clause-reads c =
    λ seal rest fit is.
    c.in-None.ensures.reads seal.meter _ fit.meter_word (is ∙ meter_opened seal rest)

pub returns-in-None-number-clause-reads : goal.returns-in-None-number-clause-reads
returns-in-None-number-clause-reads c =
    λ seal rest fit is.
    let one = c.in-Some.ensures.reads seal.meter _ fit.meter_word (is ∙ meter_opened seal rest) in
    c.in-None-number.ensures.reads seal.place _ fit.place_fits one.1

pub returns-in-None-field-clause-reads : goal.returns-in-None-field-clause-reads
returns-in-None-field-clause-reads c =
    λ seal rest fit is.
    let one = c.in-Some.ensures.reads seal.meter _ fit.meter_word (is ∙ meter_opened seal rest) in
    let two = c.in-Some-number.ensures.reads seal.place _ fit.place_fits one.1 in
    c.in-None-field.ensures.reads seal.register _ fit.register_word two.1

pub returns-in-None-number-2-clause-reads : goal.returns-in-None-number-2-clause-reads
returns-in-None-number-2-clause-reads c =
    λ seal rest fit is.
    let one = c.in-Some.ensures.reads seal.meter _ fit.meter_word (is ∙ meter_opened seal rest) in
    let two = c.in-Some-number.ensures.reads seal.place _ fit.place_fits one.1 in
    let three = c.in-Some-field.ensures.reads seal.register _ fit.register_word two.1 in
    c.in-None-number-2.ensures.reads seal.range _ fit.range_fits three.1

pub returns-in-None-number-3-clause-reads : goal.returns-in-None-number-3-clause-reads
returns-in-None-number-3-clause-reads c =
    λ seal rest fit is.
    let one = c.in-Some.ensures.reads seal.meter _ fit.meter_word (is ∙ meter_opened seal rest) in
    let two = c.in-Some-number.ensures.reads seal.place _ fit.place_fits one.1 in
    let three = c.in-Some-field.ensures.reads seal.register _ fit.register_word two.1 in
    let four = c.in-Some-number-2.ensures.reads seal.range _ fit.range_fits three.1 in
    c.in-None-number-3.ensures.reads seal.ceiling _ fit.ceiling_fits four.1

pub returns-in-None-number-4-clause-reads : goal.returns-in-None-number-4-clause-reads
returns-in-None-number-4-clause-reads c =
    λ seal rest fit is.
    let one = c.in-Some.ensures.reads seal.meter _ fit.meter_word (is ∙ meter_opened seal rest) in
    let two = c.in-Some-number.ensures.reads seal.place _ fit.place_fits one.1 in
    let three = c.in-Some-field.ensures.reads seal.register _ fit.register_word two.1 in
    let four = c.in-Some-number-2.ensures.reads seal.range _ fit.range_fits three.1 in
    let five = c.in-Some-number-3.ensures.reads seal.ceiling _ fit.ceiling_fits four.1 in
    c.in-None-number-4.ensures.reads seal.entries _ fit.entries_fit five.1

pub returns-in-None-digest-clause-reads : goal.returns-in-None-digest-clause-reads
returns-in-None-digest-clause-reads c =
    λ seal rest fit is.
    let one = c.in-Some.ensures.reads seal.meter _ fit.meter_word (is ∙ meter_opened seal rest) in
    let two = c.in-Some-number.ensures.reads seal.place _ fit.place_fits one.1 in
    let three = c.in-Some-field.ensures.reads seal.register _ fit.register_word two.1 in
    let four = c.in-Some-number-2.ensures.reads seal.range _ fit.range_fits three.1 in
    let five = c.in-Some-number-3.ensures.reads seal.ceiling _ fit.ceiling_fits four.1 in
    let six = c.in-Some-number-4.ensures.reads seal.entries _ fit.entries_fit five.1 in
    c.in-None-digest.ensures.reads seal.digest _ fit.digest_long fit.digest_bytes six.1

pub returns-clause-reads : goal.returns-clause-reads
returns-clause-reads c =
    λ seal rest fit is.
    let one = c.in-Some.ensures.reads seal.meter _ fit.meter_word (is ∙ meter_opened seal rest) in
    let two = c.in-Some-number.ensures.reads seal.place _ fit.place_fits one.1 in
    let three = c.in-Some-field.ensures.reads seal.register _ fit.register_word two.1 in
    let four = c.in-Some-number-2.ensures.reads seal.range _ fit.range_fits three.1 in
    let five = c.in-Some-number-3.ensures.reads seal.ceiling _ fit.ceiling_fits four.1 in
    let six = c.in-Some-number-4.ensures.reads seal.entries _ fit.entries_fit five.1 in
    let seven = c.in-Some-digest.ensures.reads seal.digest _ fit.digest_long fit.digest_bytes six.1 in
    (record { meter = one.0; place = two.0; register = three.0; range = four.0; ceiling = five.0; entries = six.0; digest = seven.0 }, seven.1)
