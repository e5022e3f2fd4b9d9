-- The lemma that a store with an empty cache has the same model (abstract state) as the underlying
-- store whose lookup results it caches.
use Rattle.std.proofs.Common.{List, refl}
use Rattle.office_events.specs.declared.facts.Fact.{Fact}
use Rattle.office_books.specs.Ledgers.{Ledger}
use Rattle.memory_books.specs.declared.kept.known.Known.{Known}
use Rattle.memory_books.specs.Kept.Known.{AreTrue}
use Rattle.memory_books.specs.Kept.Keeping.{keeping, StandsAs}

pub begins : (under : Ledger) (kept : Known) → ((facts : List Fact) → AreTrue kept facts) → StandsAs under (keeping kept under)
begins under kept are = record {
  facts = λ facts holds. (holds, λ clean. are facts);
  left = λ left may. may;
  clean = (λ clean. clean, λ clean. clean);
  is_open = (λ there. there, λ there. there);
  failures = refl;
  zone = refl;
}

pub ends : (under : Ledger) (kept : Known) → StandsAs (keeping kept under) under
ends under kept = record {
  facts = λ facts holds. holds.0;
  left = λ left may. may;
  clean = (λ clean. clean, λ clean. clean);
  is_open = (λ there. there, λ there. there);
  failures = refl;
  zone = refl;
}
