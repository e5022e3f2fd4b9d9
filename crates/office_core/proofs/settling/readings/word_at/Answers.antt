use Rattle.std.proofs.Common.{ℕ, ◌-◌, get_or, ap, ◌∙◌}
use Rattle.std.specs.Option.{unwrap_or}
use Rattle.mb_wire.specs.Replies.{answer_of}
use Rattle.poll_core.specs.Settling.{words_in}
use Rattle.office_core.proofs.SettlingLemmas.Words.{word_or_none}
use Rattle.office_core.proofs.settling.readings.word_at.Goals as goal

pub returns : goal.returns
returns c =
    c.unwrap_or.ensures ∙ ap (λ w. unwrap_or w 0) c.word.ensures
    ∙ word_or_none (answer_of c.args.reply.now) c.saturating_sub-place.result
    ∙ ap (λ (i : ℕ). get_or (words_in (answer_of c.args.reply.now)) i 0) c.saturating_sub-place.ensures
    ∙ ap (λ (n : ℕ). get_or (words_in (answer_of c.args.reply.now)) (c.args.address - n) 0) c.from.ensures
