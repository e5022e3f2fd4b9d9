-- Proofs that if several records are stored one after another, the store's SQL tables encode all of
-- them.
use Rattle.std.proofs.Common.{◌≡◌, ℕ, List, [], ◌∷◌, ◌++◌, refl, sym, ap, subst, ◌∙◌}
use Rattle.std.specs.Prelude.{reverse}
use Rattle.std.proofs.lemmas.List.{reverse-append}
use Rattle.office_events.specs.declared.facts.Fact.{Fact}
use Rattle.office_books.specs.Lawful.{AreLawful}
use Rattle.store_tables.specs.Content.{Content}
use Rattle.office_store.specs.Tables.{AreOf}
use Rattle.office_store.specs.Recording.{Records, RecordsAll}

pub none_recorded : (content : Content) → RecordsAll [] content content
none_recorded content zone facts a lawful = a

following : (fs : List Fact) (f : Fact) (facts : List Fact) → reverse (fs ++ f ∷ []) ++ facts ≡ f ∷ (reverse fs ++ facts)
following fs f facts = ap (λ l. l ++ facts) (reverse-append fs (f ∷ []))

pub one_recorded : (fs : List Fact) (f : Fact) (content mid after : Content) → RecordsAll fs content mid → Records f mid after → RecordsAll (fs ++ f ∷ []) content after
one_recorded fs f content mid after all one zone facts a lawful =
    let here : AreLawful (f ∷ (reverse fs ++ facts)) = subst AreLawful (following fs f facts) lawful in
    subst (λ l. AreOf zone l after) (sym (following fs f facts)) (one zone (reverse fs ++ facts) (all zone facts a here.1) here)
