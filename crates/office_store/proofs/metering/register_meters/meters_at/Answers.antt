use Rattle.std.proofs.Common.{[], IsUtf8, sym, ap, subst, ◌∙◌}
use Rattle.office_books.specs.Entries.{installations_of}
use Rattle.office_books.specs.Intervals.{installations_at}
use Rattle.office_store.specs.Metering.RegisterMeters.{AreRowsOf}
use Rattle.office_store.specs.Metering.Sound.{HasReadableMeters}
use Rattle.office_store.proofs.FindingLemmas.Found.{found_then}
use Rattle.office_store.proofs.metering.register_meters.meters_at.Goals as goal

pub standing_all-requires : goal.standing_all-requires
standing_all-requires g c = (c.in_ok-installed.ensures.looks []).mode c.requires

pub returns : goal.returns
returns g c =
    found_then g.S.Store c.args.conn.now c.installed_at.new.conn c.standing_all.new.conn c.in_ok-installed.installed c.standing_all.result _ _ _ _ _ (λ facts. IsUtf8 c.args.register.now × HasReadableMeters facts) c.in_ok-installed.ensures c.standing_all.ensures
    (λ facts are s. (s.1, installations_at facts c.in_ok-register.register.now, subst (AreRowsOf facts (installations_at facts c.in_ok-register.register.now)) (sym c.deref.ensures.value) are))
    (λ facts v are stand.
    stand (installations_at facts c.in_ok-register.register.now) (subst (AreRowsOf facts (installations_at facts c.in_ok-register.register.now)) (sym c.deref.ensures.value) are) ∙ ap (installations_of facts) c.in_ok-register.ensures.text)
