-- Proofs that the caller's sink receives the values that the result rows of a query encode.
use Rattle.std.proofs.Common.{◌≡◌, inl, inr, List, [], ◌∷◌, ◌++◌, length, take, map, ℕ, false, Ok, Err, Result, IfOk, IfErr, refl, sym, ap, ap₂, subst, ◌∙◌}
use Rattle.std.specs.List.{AllByRecursion}
use Rattle.sqlite.specs.declared.types.Value.TheVariants.{Null}
use Rattle.sqlite.specs.Order.{Row}
use Rattle.sqlite.specs.Store.{Ghosts}
use Rattle.sqlite.specs.Held.{Held, state}
use Rattle.sqlite.specs.State.{HasCleanDisk, IsUnchanged, Shown}
use Rattle.sqlite.specs.Effect.{Database}
use Rattle.sqlite.specs.Query.{Query, IsAnswer}
use Rattle.sqlite.specs.Program.{overlay}
use Rattle.sqlite.specs.Given.{IsPlain}
use Rattle.sqlite.specs.Listing.{understood, reads_listing}
use Rattle.sqlite.specs.Command.TheVariants.{Select}
use Rattle.sqlite.proofs.Callers.{command_of, begins_as, reads_as}
use Rattle.office_books.specs.Rows.{TakesAll}
use Rattle.store_tables.specs.declared.faults.RowFault.{RowFault}
use Rattle.store_tables.specs.declared.faults.RowFault.TheVariants.{Sql, Damaged}
use Rattle.store_tables.specs.Failing.{IsRowFault}
use Rattle.store_tables.proofs.Failures.{Suits, query_fails, later_error, on_err}
use Rattle.store_tables.specs.Schema.{books_schema}
use Rattle.store_tables.specs.Content.{Content, AreTables}
use Rattle.store_tables.specs.Asking.{Asks}
use Rattle.store_tables.proofs.ReadLemmas.{IsFair}
use Rattle.store_tables.proofs.StepLemmas.{on_ok, plain_in}
use Rattle.office_store.specs.Handing.{TookSome, AreRead, IsAsked, HandsOn, HandsOnQuery, IsReadFault, IsStreamFault}

-- If one row is read successfully, the value that was read satisfies the contract of the row's
-- reader.

if_read : {T : Type 0} (r : Result T RowFault) (P : T → Type 0) (t : T) → IfOk r P → r ≡ Ok t → P t
if_read (Ok x) P t h is = let same : x ≡ t = cc in subst P same h
if_read (Err f) P t h is = absurd (let e = is in cc)

if_damaged : {T : Type 0} (Sound : Type 0) (r : Result T RowFault) → IfErr r (IsRowFault Sound) → r ≡ Err Damaged → ¬ Sound
if_damaged Sound (Ok x) h is = absurd (let e = is in cc)
if_damaged Sound (Err f) h is = subst (IsRowFault Sound) (let e : f ≡ Damaged = cc in e) h

-- Lemmas that, if a query returns certain columns of each row, the reader of the rows converts
-- these columns to the values that the rows encode.
module _ {X T : Type 0} (shown : X → Row) (of : X → T) (Sound : X → Type 0) (reads : Row → Result T RowFault) (fair : (x : X) → IsFair (Sound x) (λ t. t ≡ of x) (reads (shown x))) where
  read_as : (x : X) (row : Row) (t : T) → row ≡ shown x → reads row ≡ Ok t → t ≡ of x
  read_as x row t is read = if_read (reads (shown x)) (λ y. y ≡ of x) t (fair x).read (sym (ap reads is) ∙ read)

  not_damaged : (x : X) (row : Row) → Sound x → row ≡ shown x → reads row ≡ Err Damaged → ⊥
  not_damaged x row sound is read = if_damaged (Sound x) (reads (shown x)) (fair x).fault (sym (ap reads is) ∙ read) sound

  first_read : (given tail : List Row) (rows : List T) (found : List X) → AreRead reads given rows → given ++ tail ≡ map shown found → take (length rows) (map of found) ≡ rows
  first_read [] tail [] found zip is = refl
  first_read [] tail (t ∷ rows) found zip is = absurd zip
  first_read (r ∷ given) tail [] found zip is = absurd zip
  first_read (r ∷ given) tail (t ∷ rows) [] zip is = absurd (let e = is in cc)
  first_read (r ∷ given) tail (t ∷ rows) (x ∷ found) zip is =
      let head : r ≡ shown x = cc in
      let rest : given ++ tail ≡ map shown found = cc in
      ap₂ ◌∷◌ (sym (read_as x r t head zip.0)) (first_read given tail rows found zip.1 rest)

  all_read : (given : List Row) (rows : List T) (found : List X) → AreRead reads given rows → given ≡ map shown found → rows ≡ map of found
  all_read [] [] [] zip is = refl
  all_read [] [] (x ∷ found) zip is = absurd (let e = is in cc)
  all_read [] (t ∷ rows) found zip is = absurd zip
  all_read (r ∷ given) [] found zip is = absurd zip
  all_read (r ∷ given) (t ∷ rows) [] zip is = absurd (let e = is in cc)
  all_read (r ∷ given) (t ∷ rows) (x ∷ found) zip is =
      let head : r ≡ shown x = cc in
      let rest : given ≡ map shown found = cc in
      ap₂ ◌∷◌ (read_as x r t head zip.0) (all_read given rows found zip.1 rest)

  none_damaged : (given : List Row) (row : Row) (tail : List Row) (found : List X) → AllByRecursion Sound found → (given ++ row ∷ []) ++ tail ≡ map shown found → reads row ≡ Err Damaged → ⊥
  none_damaged [] row tail [] sound is bad = let e = is in cc
  none_damaged [] row tail (x ∷ found) sound is bad = not_damaged x row sound.0 (let head : row ≡ shown x = cc in head) bad
  none_damaged (r ∷ given) row tail [] sound is bad = let e = is in cc
  none_damaged (r ∷ given) row tail (x ∷ found) sound is bad = none_damaged given row tail found sound.1 (let rest : (given ++ row ∷ []) ++ tail ≡ map shown found = cc in rest) bad

nothing : {K T : Type 0} (reads : Row → Result T RowFault) (takes : K → T → K → Type 0) (before after : K) (given : List Row) (rows : List T) → given ≡ [] → AreRead reads given rows → TakesAll takes before rows after → after ≡ before
nothing reads takes before after [] [] is zip taken = taken
nothing reads takes before after [] (t ∷ rows) is zip taken = absurd zip
nothing reads takes before after (r ∷ given) rows is zip taken = absurd (let e = is in cc)

-- Lemmas that a streaming query whose result rows are known passes the values that these rows
-- encode to the caller's sink, a visitor of rows.

-- True if the result rows of a query encode, in order, the values that the tables must give for
-- this query. If the values in the tables are in their ranges, the encoded values are in their
-- ranges too.
pub record Reports {X T Tables : Type 0} (shown : X → Row) (of : X → T) (Sound : X → Type 0) (Are : Tables → List T → Type 0) (AreSound : Tables → Type 0) (tables : Tables) (rows : List Row) : Type 0 where
  pub found : List X
  pub shows : rows ≡ map shown found
  pub are : Are tables (map of found)
  pub sound : AreSound tables → AllByRecursion Sound found

module _ {S K X T Tables : Type 0} (g : Ghosts S) (sql : List ℕ) (params : Row) (q : Query) (names : List (List ℕ)) (old new : Held S) (takes : K → T → K → Type 0) (before after : K) (result : Result (Unit {0}) RowFault)
    (shown : X → Row) (of : X → T) (Sound : X → Type 0) (reads : Row → Result T RowFault) (fair : (x : X) → IsFair (Sound x) (λ t. t ≡ of x) (reads (shown x)))
    (IsRow : T → Type 0) (Have : Tables → Content → Type 0) (Are : Tables → List T → Type 0) (AreSound : Tables → Type 0)
    (is : command_of (understood books_schema sql) ≡ Select (record { lets = []; body = q }) names) (unlisted : reads_listing books_schema sql ≡ false) (plain : IsPlain (understood books_schema sql)) (suits : Suits books_schema sql params)
    (finds : (db : Database) (content : Content) (t : Tables) (rows : List Row) → AreTables db content → Have t content → IsAnswer q (overlay db.trees []) params rows → Reports shown of Sound Are AreSound t rows) where
  begins_with : (asked : Held S) (given : List Row) (content : Content) (t : Tables) → AreTables (state g old).now content → Have t content → IsAsked g sql params old asked given
      → (tail : List Row) × Reports shown of Sound Are AreSound t (given ++ tail)
  begins_with asked given content t has have h =
      let here : AreTables (state g asked).now content = subst (λ d. AreTables d content) (sym h.0.0.now_is) has in
      let first = begins_as sql params (state g asked) (state g asked) books_schema here.schema _ is plain unlisted given h.1 in
      (first.1.0, finds (state g asked).now content t (given ++ first.1.0) here have (first.1.1 Null))

  shows_all : (asked end : Held S) (given : List Row) (content : Content) (t : Tables) → AreTables (state g old).now content → Have t content → IsUnchanged (state g old) (state g asked) → Shown sql params (state g asked) (state g end) given
      → Reports shown of Sound Are AreSound t given
  shows_all asked end given content t has have same shows =
      let here : AreTables (state g asked).now content = subst (λ d. AreTables d content) (sym same.0.now_is) has in
      let read = reads_as sql params (state g asked) (state g end) books_schema here.schema _ is plain unlisted given shows in
      finds (state g asked).now content t given here have (read.answer Null)

  stream_fault : (f : RowFault) (content : Content) (t : Tables) → AreTables (state g old).now content → Have t content → (given : List Row) (rows : List T) → TakesAll takes before rows after
      → IsReadFault g sql params reads old new given rows f → IsStreamFault (state g old) (state g new) takes before after (AreSound t) f
  stream_fault (Sql e) content t has have given rows taken (inl stopped) =
      inl (later_error (state g old) (state g stopped.asked) (state g new) e stopped.goes stopped.counts (query_fails books_schema sql params suits (state g stopped.asked) (state g new) (ap (λ (d : Database). d.schema) stopped.same ∙ has.schema) e stopped.fails))
  stream_fault (Sql e) content t has have given rows taken (inr late) = inr (ap Sql late.0, (rows, late.1, taken))
  stream_fault Damaged content t has have given rows taken bad = inl (λ sound.
      let it = begins_with bad.0 (given ++ bad.1 ∷ []) content t has have bad.2 in
      none_damaged shown of Sound reads fair given bad.1 it.0 it.1.found (it.1.sound sound) it.1.shows bad.3)

  pub hands_on : (IsPlain (understood books_schema sql) → Asks g old new) → TookSome IsRow takes before after
      → (HasCleanDisk (state g new) → IsPlain (understood old.schema sql) → HandsOnQuery g sql params reads old new takes before after result) → HandsOn g old new takes before after result IsRow Have Are AreSound
  hands_on asks some hands = record {
    asks = asks plain;
    begun = λ clean content has t have.
        let it = hands clean (plain_in books_schema sql (state g old).now has.schema plain) in
        elim it.begun [
          | inl none ↦ inl (nothing reads takes before after it.given it.rows none it.read it.taken)
          | inr on ↦ (
              let reported = begins_with on.0 it.given content t has have on.1 in
              let first = first_read shown of Sound reads fair it.given reported.0 it.rows reported.1.found it.read reported.1.shows in
              inr (map of reported.1.found, reported.1.are, (length it.rows, subst (λ ts. TakesAll takes before ts after) (sym first) it.taken))
              )
        ];
    whole = λ clean content has t have.
        let it = hands clean (plain_in books_schema sql (state g old).now has.schema plain) in
        on_ok result (λ w.
        let reported = shows_all w.0 w.1 it.given content t has have w.2 w.3 in
        (map of reported.found, reported.are, subst (λ ts. TakesAll takes before ts after) (all_read shown of Sound reads fair it.given it.rows reported.found it.read reported.shows) it.taken)) it.whole;
    some = some;
    fault = λ clean content has t have.
        let it = hands clean (plain_in books_schema sql (state g old).now has.schema plain) in
        on_err result (λ f why. stream_fault f content t has have it.given it.rows it.taken why) it.fault;
  }
