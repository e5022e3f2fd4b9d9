use Rattle.std.proofs.Common.{◌∷◌, ◌∙◌, List, ℕ, reverse, sym, ap}
use Rattle.std.specs.BTreeMap.{get}
use Rattle.memory_books.specs.declared.tables.keys.Key.{Key}
use Rattle.memory_books.specs.declared.tables.places.Kind.{Kind}
use Rattle.memory_books.specs.Tables.Keys.{key_cmp}
use Rattle.memory_books.specs.Tables.Places.{has_key, places_of, under}
use Rattle.memory_books.proofs.TablesLemmas.PlacesComing.{place_comes, on_ok_then, on_err_then}
use Rattle.memory_books.proofs.tables.places.PlacesTable.apply_record.Goals as goal

pub returns-in-Some-clause-ok : goal.returns-in-Some-clause-ok
returns-in-Some-clause-ok c = λ known lawful long says.
    let before : Key → List ℕ = λ key. under (get key_cmp c.args.self.now.places key) in
    let after : Key → List ℕ = λ key. under (get key_cmp c.add.new.self.places key) in
    on_ok_then c.add.result
    (λ adds key.
    place_comes c.args.self.now.kind known c.args.fact.now c.in-Some.key c.args.place before after long (sym c.in-Some.ensures) says adds key
    ∙ ap (λ (kind : Kind). reverse (places_of (has_key kind key) (c.args.fact.now ∷ known))) (sym c.add.ensures.kind))
    c.add.ensures.ok

pub returns-in-Some-clause-err : goal.returns-in-Some-clause-err
returns-in-Some-clause-err c = λ known says.
    on_err_then c.add.result
    (λ same key. same key ∙ says key ∙ ap (λ (kind : Kind). reverse (places_of (has_key kind key) known)) (sym c.add.ensures.kind))
    c.add.ensures.err
