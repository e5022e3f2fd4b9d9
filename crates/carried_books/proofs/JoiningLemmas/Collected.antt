-- Lemmas: after a database file was added, the collected accounting registers (named counters) are
-- those of all files that were added so far.
use Rattle.std.proofs.Common.{◌≡◌, ◌≢◌, ℕ, ◌+◌, ◌<◌, Bool, true, false, ◌||◌, inl, inr, None, List, [], ◌∷◌, ◌++◌, take, length, get_or, reverse, refl, sym, ap, subst, ◌∙◌, arith, drop, set}
use Rattle.std.specs.Prelude.{All, Contains, bytes_eq}
use Rattle.std.specs.List.{AllZip}
use Rattle.std.proofs.lemmas.Bool.{cases_Bool, false≢true, or_parts}
use Rattle.std.proofs.lemmas.List.{drop-set-lt, drop_more, take_more, take_more_set}
use Rattle.std.proofs.lemmas.List.Elements.{All-cons, All-contains, All-head, All-more, All-nil, All-push, All-tail, All-weaker, AllZip-get_or, AllZip-push, length_all_zip}
use Rattle.std.proofs.lemmas.List.Quantifiers.{all_pairs_push}
use Rattle.std.proofs.lemmas.Slice.Eq.{bytes_eq-Decides}
use Rattle.interval_core.specs.Fold.{FoldState, HasTaken}
use Rattle.interval_core.specs.declared.shares.Share.{Share}
use Rattle.interval_core.specs.declared.zone.Zone.{Zone}
use Rattle.office_events.specs.declared.facts.Device.{Device}
use Rattle.office_events.specs.declared.facts.Fact.{Fact}
use Rattle.office_events.specs.declared.facts.Register.{Register}
use Rattle.office_books.specs.Facts.{devices_in, registers_of}
use Rattle.office_books.specs.Intervals.{rows_of_register}
use Rattle.office_books.specs.Lawful.{AreLawful}
use Rattle.office_books.specs.declared.spans.Span.TheVariants as span
use Rattle.carried_books.specs.Joining.Days.{HasNumber}
use Rattle.carried_books.specs.Joining.Earlier.{AddsDevices, AddsFile, AddsMore, AddsRegisters, AreKept, CollectedDaysAreSums, Collects, HasNext, HasRegisters, NewDoesNotJoin, is_kept}
use Rattle.carried_books.specs.Joining.Files.{AllJoin, HasJoined, is_recorded, is_recorded_in, rows_over, rows_over_within}
use Rattle.carried_books.specs.declared.joining.earlier.KeptRegister.{KeptRegister}
use Rattle.carried_books.specs.declared.joining.files.JoinedFiles.{JoinedFiles}
use Rattle.carried_books.specs.declared.joining.files.Unjoined.{Unjoined}
use Rattle.carried_books.proofs.JoiningLemmas.Recorded.{each_recorded_is_kept}
use Rattle.carried_books.proofs.JoiningLemmas.Unrecorded.{has_unrecorded}

or_true : (b : Bool) → (b || true) ≡ true
or_true true = refl
or_true false = refl

-- An accounting register (a named counter) is among the registers collected from several database
-- files after it was appended to them.
pub kept_last : (name : List ℕ) (kept : List KeptRegister) (one : KeptRegister) → bytes_eq one.name name ≡ true → is_kept name (kept ++ one ∷ []) ≡ true
kept_last name [] one same = ap (λ b. b || false) same
kept_last name (other ∷ kept) one same = ap (λ b. bytes_eq other.name name || b) (kept_last name kept one same) ∙ or_true (bytes_eq other.name name)

kept_still : (name : List ℕ) (kept : List KeptRegister) (one : KeptRegister) → is_kept name kept ≡ true → is_kept name (kept ++ one ∷ []) ≡ true
kept_still name [] one is = absurd (cc)
kept_still name (other ∷ kept) one is = elim (cases_Bool (bytes_eq other.name name)) [
  | inl here ↦ ap (λ b. b || is_kept name (kept ++ one ∷ [])) here
  | inr isnt ↦
      let rest : is_kept name kept ≡ true = sym (ap (λ b. b || is_kept name kept) isnt) ∙ is in
      ap (λ b. bytes_eq other.name name || b) (kept_still name kept one rest) ∙ or_true (bytes_eq other.name name)
]

others_differ : (name : List ℕ) (kept : List KeptRegister) → is_kept name kept ≡ false → All (λ (one : KeptRegister). one.name ≢ name) kept
others_differ name [] isnt = All-nil (λ (one : KeptRegister). one.name ≢ name)
others_differ name (one ∷ kept) isnt =
    let parts = or_parts (bytes_eq one.name name) (is_kept name kept) isnt in
    All-cons (λ (it : KeptRegister). it.name ≢ name) one kept
    (λ same. false≢true (sym parts.0 ∙ (bytes_eq-Decides one.name name).1 same)) (others_differ name kept parts.1)

-- If two lists of one length are equal from the index `i` on, then they have the same element at
-- `i`.
pub same_next : {X : Type 0} (old now : List X) (i : ℕ) (d : X) → i < length now → length now ≡ length old → drop i now ≡ drop i old
    → get_or now i d ≡ get_or old i d
same_next old now i d inside long rest =
    let here : i < length old = omega arith in
    let a = drop_more now i d inside in
    let b = drop_more old i d here in
    cc

pub contains_next : {X : Type 0} (old now : List X) (i : ℕ) (x : X) → i < length now → length now ≡ length old → drop i now ≡ drop i old
    → x ≡ get_or now i x → Contains old x
contains_next old now i x inside long rest at =
    let here : i < length old = omega arith in
    (i, here, sym (at ∙ same_next old now i x inside long rest))

-- The list `new` is the list `now` with the element at the index `i` replaced by `one`. From the
-- index `i` on, the list `now` has the elements of the list `old`.
module _ {X : Type 0} (old now new : List X) (i : ℕ) (one : X) (inside : i < length now) (long : length now ≡ length old)
    (rest : drop i now ≡ drop i old) (is : new ≡ set now i one) where
  pub rest_after : drop (i + 1) new ≡ drop (i + 1) old
  rest_after =
      let here : i < length old = omega arith in
      let a = drop_more now i one inside in
      let b = drop_more old i one here in
      let tail : drop (i + 1) now ≡ drop (i + 1) old = cc in
      let after : i < i + 1 = omega arith in
      ap (drop (i + 1)) is ∙ drop-set-lt (i + 1) now i one after ∙ tail

  pub zip_after : (R : X → X → Type 0) → AllZip R (take i old) (take i now) → R (get_or now i one) one → AllZip R (take (i + 1) old) (take (i + 1) new)
  zip_after R all step =
      let here : i < length old = omega arith in
      let more = AllZip-push R (take i old) (take i now) (get_or old i one) one all (subst (λ (x : X). R x one) (same_next old now i one inside long rest) step) in
      let left : take (i + 1) old ≡ take i old ++ get_or old i one ∷ [] = take_more old i one here in
      let right : take (i + 1) new ≡ take i now ++ one ∷ [] = ap (take (i + 1)) is ∙ take_more_set now i one inside in
      subst (λ (xs : List X). AllZip R xs (take (i + 1) new)) (sym left) (subst (λ (ys : List X). AllZip R (take i old ++ get_or old i one ∷ []) ys) (sym right) more)

recorded_still : (facts : List Fact) (files : List (List Fact)) (name : List ℕ) → is_recorded_in name files ≡ true → is_recorded_in name (facts ∷ files) ≡ true
recorded_still facts files name is = ap (λ b. is_recorded name facts || b) is ∙ or_true (is_recorded name facts)

-- If each element of a list has a property, then the element at the index `i` has the property.
pub here_read : {X : Type 0} (P : X → Type 0) (xs : List X) (i : ℕ) (x : X) → i < length xs → x ≡ get_or xs i x → All P xs → P x
here_read P xs i x inside at all = subst P (sym at) (all i x inside)

module _ (facts : List Fact) where
  same_kept : (name : List ℕ) (old new : List KeptRegister) → AllZip (HasNext facts) old new → is_kept name new ≡ is_kept name old
  same_kept name [] [] all = refl
  same_kept name [] (y ∷ ys) all = absurd all
  same_kept name (x ∷ xs) [] all = absurd all
  same_kept name (x ∷ xs) (y ∷ ys) all =
      ap (λ (text : List ℕ). bytes_eq text name || is_kept name ys) all.0.name
      ∙ ap (λ b. bytes_eq x.name name || b) (same_kept name xs ys all.1)

  -- Suppose that the data (meters and energies by day) of the next database file were added to each
  -- collected accounting register (a named counter). Then each of these registers has the data of
  -- this file and of the earlier files.
  pub each_has_next : (zone : Zone) (files : List (List Fact)) (old new : List KeptRegister) → AllZip (HasNext facts) old new
      → HasRegisters zone files old → Collects zone files (facts ∷ files) new
  each_has_next zone files old new all has =
      let long = length_all_zip (HasNext facts) old new all in
      let next = λ (i : ℕ) (d : KeptRegister) (inside : i < length new). AllZip-get_or (HasNext facts) old new i d d all (subst (λ (n : ℕ). i < n) (sym long) inside) in
      record {
        each = λ i d inside.
            let one = next i d inside in
            let joined = one.files zone files (has.each i d (subst (λ (n : ℕ). i < n) (sym long) inside)) in
            subst (λ (name : List ℕ). HasJoined zone span.All name (facts ∷ files) (get_or new i d).files) (sym one.name) joined;
        only = λ i d inside.
            let one = next i d inside in
            let was = has.only i d (subst (λ (n : ℕ). i < n) (sym long) inside) in
            recorded_still facts files (get_or new i d).name (subst (λ (name : List ℕ). is_recorded_in name files ≡ true) (sym one.name) was);
        complete = λ name is. same_kept name old new all ∙ has.complete name is;
        once = λ i j d before inside same.
            let earlier : i < length new = omega (arith, before, inside) in
            let a = next i d earlier in
            let b = next j d inside in
            has.once i j d before (subst (λ (n : ℕ). j < n) (sym long) inside) (sym a.name ∙ same ∙ b.name);
      }

module _ (zone : Zone) (facts : List Fact) where
  unrecorded : (files : List (List Fact)) (kept : List KeptRegister) (name : List ℕ) → Collects zone files (facts ∷ files) kept
      → is_kept name kept ≡ false → is_recorded_in name files ≡ false
  unrecorded files kept name has isnt = elim (cases_Bool (is_recorded_in name files)) [
    | inl is ↦ absurd (false≢true (sym isnt ∙ has.complete name is))
    | inr fails ↦ fails
  ]

  -- An accounting register (a named counter) that was not collected yet is appended to the
  -- collected registers, with its data (meters and energies by day) in the database file.
  pub adds_new : (old new : List KeptRegister) (one : KeptRegister) (none : JoinedFiles) → new ≡ old ++ one ∷ [] → is_kept one.name old ≡ false
      → is_recorded one.name facts ≡ true → HasJoined zone span.All one.name [] none → AllJoin span.All one.name facts none one.files None → AddsMore zone facts old new
  adds_new old new one none is isnt recorded empty joins = record {
    adds = λ files lawful has.
        let joined = joins zone files (has_unrecorded one.name zone files none lawful (unrecorded files old one.name has isnt) empty) in
        let Data : KeptRegister → Type 0 = λ it. HasJoined zone span.All it.name (facts ∷ files) it.files in
        subst (Collects zone files (facts ∷ files)) (sym is) (record {
          each = All-push Data old one has.each joined;
          only = All-push (λ (it : KeptRegister). is_recorded_in it.name (facts ∷ files) ≡ true) old one has.only
              (ap (λ b. b || is_recorded_in one.name files) recorded);
          complete = λ name so. kept_still name old one (has.complete name so);
          once = all_pairs_push (λ (a b : KeptRegister). a.name ≢ b.name) old one has.once (others_differ one.name old isnt);
        });
    stays = λ name kept. ap (is_kept name) is ∙ kept_still name old one kept;
  }

  pub adds_nothing : (old new : List KeptRegister) → new ≡ old → AddsMore zone facts old new
  adds_nothing old new is = record {
    adds = λ files lawful has. subst (Collects zone files (facts ∷ files)) (sym is) has;
    stays = λ name kept. ap (is_kept name) is ∙ kept;
  }

  pub adds_both : (old mid new : List KeptRegister) → AddsMore zone facts old mid → AddsMore zone facts mid new → AddsMore zone facts old new
  adds_both old mid new first next = record {
    adds = λ files lawful has. next.adds files lawful (first.adds files lawful has);
    stays = λ name kept. next.stays name (first.stays name kept);
  }

  pub no_registers : (old : List KeptRegister) → AddsRegisters zone facts [] old old
  no_registers old = record { more = adds_nothing old old refl; listed = All-nil (λ (it : Register). is_kept it.name old ≡ true) }

  still_kept : (registers : List Register) (old new : List KeptRegister) → AddsMore zone facts old new → AreKept registers old → AreKept registers new
  still_kept registers old new more kept =
      All-weaker (λ (it : Register). is_kept it.name old ≡ true) (λ (it : Register). is_kept it.name new ≡ true) (λ it is. more.stays it.name is) registers kept

  pub one_register_more : (registers : List Register) (i : ℕ) (register : Register) (old mid new : List KeptRegister) → i < length registers
      → register ≡ get_or registers i register → AddsRegisters zone facts (take i registers) old mid → AddsMore zone facts mid new
      → is_kept register.name new ≡ true → AddsRegisters zone facts (take (i + 1) registers) old new
  one_register_more registers i register old mid new inside at first next kept =
      let Kept : Register → Type 0 = λ it. is_kept it.name new ≡ true in
      record {
        more = adds_both old mid new first.more next;
        listed = All-more Kept registers i register inside (still_kept (take i registers) mid new next first.listed) (subst Kept at kept);
      }

  pub no_devices : (old : List KeptRegister) → AddsDevices zone facts [] old old
  no_devices old = record { more = adds_nothing old old refl; listed = All-nil (λ (it : Device). AreKept (registers_of facts it.name) old) }

  pub one_device_more : (devices : List Device) (i : ℕ) (device : Device) (old mid new : List KeptRegister) → i < length devices
      → device ≡ get_or devices i device → AddsDevices zone facts (take i devices) old mid
      → AddsRegisters zone facts (registers_of facts device.name) mid new → AddsDevices zone facts (take (i + 1) devices) old new
  one_device_more devices i device old mid new inside at first next =
      let Before : Device → Type 0 = λ it. AreKept (registers_of facts it.name) mid in
      let Kept : Device → Type 0 = λ it. AreKept (registers_of facts it.name) new in
      record {
        more = adds_both old mid new first.more next.more;
        listed = All-more Kept devices i device inside
            (All-weaker Before Kept (λ it kept. still_kept (registers_of facts it.name) mid new next.more kept) (take i devices) first.listed)
            (subst Kept at next.listed);
      }

  -- Suppose that accounting registers (named counters) were appended to those collected from
  -- earlier database files. If a register is not among the collected registers after this, then it
  -- was not among them before.
  pub new_before : (old mid : List KeptRegister) (why : Unjoined) → AddsMore zone facts old mid → NewDoesNotJoin zone facts mid why
      → NewDoesNotJoin zone facts old why
  new_before old mid why more it = record {
    name = it.name;
    recorded = it.recorded;
    new = elim (cases_Bool (is_kept it.name old)) [
      | inl is ↦ absurd (false≢true (sym it.new ∙ more.stays it.name is))
      | inr isnt ↦ isnt
    ];
    none = it.none;
    empty = it.empty;
    parts = it.parts;
  }

  pub new_at_first : (old mid : List KeptRegister) (why : Unjoined) → AllZip (HasNext facts) old mid → NewDoesNotJoin zone facts mid why
      → NewDoesNotJoin zone facts old why
  new_at_first old mid why all it = record {
    name = it.name;
    recorded = it.recorded;
    new = sym (same_kept facts it.name old mid all) ∙ it.new;
    none = it.none;
    empty = it.empty;
    parts = it.parts;
  }

  recorded_cases : (name : List ℕ) (files : List (List Fact)) (kept : List KeptRegister) → (is_recorded name facts ≡ true → is_kept name kept ≡ true)
      → (is_recorded_in name files ≡ true → is_kept name kept ≡ true) → is_recorded_in name (facts ∷ files) ≡ true → is_kept name kept ≡ true
  recorded_cases name files kept here before is = elim (cases_Bool (is_recorded name facts)) [
    | inl so ↦ here so
    | inr isnt ↦ before (sym (ap (λ b. b || is_recorded_in name files) isnt) ∙ is)
  ]

  -- A database file is added in two steps. First, its data are added to each collected accounting
  -- register (a named counter). Then its registers that were not collected before are appended.
  pub adds_file : (old mid new : List KeptRegister) → AllZip (HasNext facts) old mid → AddsDevices zone facts (reverse (devices_in facts)) mid new
      → AddsFile zone facts old new
  adds_file old mid new all adds = λ files lawful has.
      let rest = All-tail AreLawful facts files lawful in
      let now = adds.more.adds files rest (each_has_next facts zone files old mid all has) in
      record {
        each = now.each;
        only = now.only;
        complete = λ name is.
            recorded_cases name files new (each_recorded_is_kept facts new adds.listed (All-head AreLawful facts files lawful) name)
            (now.complete name) is;
        once = now.once;
      }

over_all : (register : List ℕ) (files : List (List Fact)) → rows_over_within span.All register files ≡ rows_over register files
over_all register [] = refl
over_all register (facts ∷ files) = ap (λ (rows : List Share). rows ++ rows_of_register facts register) (over_all register files)

-- The energies by day of a collected accounting register (a named counter) are the sum of its
-- quarter hours in all files.
pub collected_days : CollectedDaysAreSums
collected_days zone files kept one days has among same = λ number.
    let joined : HasJoined zone span.All one.name files one.files = All-contains (λ (it : KeptRegister). HasJoined zone span.All it.name files it.files) kept one has.each among in
    let over = over_all one.name files in
    subst (λ (fold : FoldState). HasTaken zone (rows_over one.name files) fold) (sym same)
    (subst (λ (rows : List Share). HasTaken zone rows one.files.days.fold) over (joined.days (subst HasNumber (sym over) number)))
