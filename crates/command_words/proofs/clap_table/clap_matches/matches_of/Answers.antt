use Rattle.std.proofs.Common.{◌≡◌, ◌&&◌, map, refl, subst, Bool, false, true}
use Rattle.std.proofs.lemmas.Result.{IfOk-weaker}
use Rattle.clap.specs.Words.{App, FailsBy, HasMatchesOf, fault_of, is_simple_and_free}
use Rattle.command_words.proofs.clap_table.clap_matches.matches_of.Goals as goal

left_of : (x y : Bool) → (x && y) ≡ true → x ≡ true
left_of true y both = refl
left_of false y both = both

pub returns-clause-found : goal.returns-clause-found
returns-clause-found c =
    IfOk-weaker c.try_get_matches_from.result _ _
    (λ m h. (subst (λ (a : App). HasMatchesOf a (map (λ w. w.now) c.args.words.now) m) c.in_ok-command.ensures h (left_of _ _ c.requires)).1) c.try_get_matches_from.ensures.matches

pub returns-clause-fails : goal.returns-clause-fails
returns-clause-fails c =
    subst (λ (a : App). is_simple_and_free a ≡ true → FailsBy (fault_of a (map (λ w. w.now) c.args.words.now)) c.try_get_matches_from.result) c.in_ok-command.ensures
    c.try_get_matches_from.ensures.kinds c.requires
