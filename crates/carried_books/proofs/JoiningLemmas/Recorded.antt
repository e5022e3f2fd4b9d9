-- The lemma that each accounting register (a named counter) of a lawful database file belongs to a
-- device of the file. Lawful means that the rules for records accept each record after the earlier
-- ones.
use Rattle.std.proofs.Common.{◌≡◌, ℕ, Bool, true, false, cond, inl, inr, Option, Some, None, List, [], ◌∷◌, reverse, refl, sym, ap, subst, ◌∙◌}
use Rattle.std.specs.Prelude.{All}
use Rattle.std.specs.List.{filter, find}
use Rattle.std.specs.Option.{is_some}
use Rattle.std.proofs.lemmas.Bool.{cases_Bool, cond-false, cond-true, false≢true}
use Rattle.std.proofs.lemmas.List.{reverse-reverse}
use Rattle.std.proofs.lemmas.List.Elements.{All-cons, All-filter, All-head, All-nil, All-tail, All-weaker}
use Rattle.std.proofs.lemmas.List.Sorted.{All-permutation, IsPermutation-reverse}
use Rattle.std.proofs.lemmas.Option.{same_Some}
use Rattle.std.proofs.lemmas.Slice.Eq.{bytes_eq-Decides}
use Rattle.office_events.specs.declared.facts.Device.{Device}
use Rattle.office_events.specs.declared.facts.Fact.{Fact}
use Rattle.office_events.specs.declared.facts.Fact.TheVariants as fact
use Rattle.office_events.specs.declared.facts.Register.{Register}
use Rattle.office_books.specs.Facts.{device_of, devices_in, register_of, registers_in, registers_of, same}
use Rattle.office_books.specs.Lawful.{AreLawful}
use Rattle.office_books.proofs.Lookups.{find_passes, same_itself, same_text}
use Rattle.carried_books.specs.Joining.Earlier.{AreKept, AreRecorded, is_kept}
use Rattle.carried_books.specs.Joining.Files.{is_recorded}
use Rattle.carried_books.specs.declared.joining.earlier.KeptRegister.{KeptRegister}

some_or : {X : Type 0} (b : Bool) (x : X) (o : Option X) → is_some o ≡ true → is_some (cond b (Some x) o) ≡ true
some_or true x o is = refl
some_or false x o is = is

found_cases : {X : Type 0} (P : X → Type 0) (b : Bool) (x y : X) (o : Option X) → cond b (Some x) o ≡ Some y → P x → (o ≡ Some y → P y) → P y
found_cases P true x y o is here later = subst P (same_Some x y is) here
found_cases P false x y o is here later = later is

found_holds : {X : Type 0} (P : X → Type 0) (p : X → Bool) (xs : List X) (x : X) → find p xs ≡ Some x → All P xs → P x
found_holds P p [] x is all = absurd (cc)
found_holds P p (y ∷ ys) x is all =
    found_cases P (p y) y x (find p ys) is (All-head P y ys all) (λ before. found_holds P p ys x before (All-tail P y ys all))

unfiltered : {X : Type 0} (P : X → Type 0) (p : X → Bool) (xs : List X) → All P (filter p xs) → All (λ (x : X). p x ≡ true → P x) xs
unfiltered {X} P p [] all = All-nil (λ (x : X). p x ≡ true → P x)
unfiltered {X} P p (x ∷ xs) all = elim (cases_Bool (p x)) [
  | inl passes ↦
      let here : All P (x ∷ filter p xs) = subst (All P) (cond-true _ _ _ passes) all in
      All-cons (λ (y : X). p y ≡ true → P y) x xs (λ is. All-head P x (filter p xs) here) (unfiltered P p xs (All-tail P x (filter p xs) here))
  | inr fails ↦
      let rest : All P (filter p xs) = subst (All P) (cond-false _ _ _ fails) all in
      All-cons (λ (y : X). p y ≡ true → P y) x xs (λ is. absurd (false≢true (sym fails ∙ is))) (unfiltered P p xs rest)
]

unreversed : {X : Type 0} (P : X → Type 0) (xs : List X) → All P (reverse xs) → All P xs
unreversed P xs all = subst (All P) (reverse-reverse xs) (All-permutation P (reverse xs) (reverse (reverse xs)) (IsPermutation-reverse (reverse xs)) all)

device_known : (facts : List Fact) (name : List ℕ) (r : Register) → AreLawful facts → register_of facts name ≡ Some r → is_some (device_of facts r.device) ≡ true
device_known [] name r h is = absurd (cc)
device_known (fact.Device d ∷ facts) name r h is = some_or (same d.name r.device) d (device_of facts r.device) (device_known facts name r h.1 is)
device_known (fact.List l ∷ facts) name r h is = device_known facts name r h.1 is
device_known (fact.Register x ∷ facts) name r h is =
    found_cases (λ (it : Register). is_some (device_of facts it.device) ≡ true) (same x.name name) x r (register_of facts name) is h.0.0.device
    (λ before. device_known facts name r h.1 before)
device_known (fact.Opening p ∷ facts) name r h is = device_known facts name r h.1 is
device_known (fact.Entry b ∷ facts) name r h is = device_known facts name r h.1 is
device_known (fact.Hold b ∷ facts) name r h is = device_known facts name r h.1 is
device_known (fact.Void v ∷ facts) name r h is = device_known facts name r h.1 is
device_known (fact.Poll p ∷ facts) name r h is = device_known facts name r h.1 is
device_known (fact.Outcome x ∷ facts) name r h is = device_known facts name r h.1 is
device_known (fact.Reply x ∷ facts) name r h is = device_known facts name r h.1 is

module _ (facts : List Fact) (kept : List KeptRegister) (listed : All (λ (it : Device). AreKept (registers_of facts it.name) kept) (reverse (devices_in facts))) where
  kept_of_device : (name : List ℕ) (r : Register) (d : Device) → register_of facts name ≡ Some r → device_of facts r.device ≡ Some d → is_kept name kept ≡ true
  kept_of_device name r d found device =
      let Kept : Register → Type 0 = λ it. is_kept it.name kept ≡ true in
      let Listed : Device → Type 0 = λ it. AreKept (registers_of facts it.name) kept in
      let own : Register → Bool = λ it. same it.device d.name in
      let registers : AreKept (registers_of facts d.name) kept =
      found_holds Listed (λ it. same it.name r.device) (devices_in facts) d device (unreversed Listed (devices_in facts) listed) in
      let all = unfiltered Kept own (registers_in facts) (unreversed Kept (filter own (registers_in facts)) registers) in
      let of_device : d.name ≡ r.device = same_text d.name r.device (find_passes (λ (it : Device). same it.name r.device) (devices_in facts) d device) in
      let named : r.name ≡ name = same_text r.name name (find_passes (λ (it : Register). same it.name name) (registers_in facts) r found) in
      let is : is_kept r.name kept ≡ true =
      found_holds (λ (it : Register). own it ≡ true → Kept it) (λ it. same it.name name) (registers_in facts) r found all
      ((bytes_eq-Decides r.device d.name).1 (sym of_device)) in
      subst (λ (text : List ℕ). is_kept text kept ≡ true) named is

  kept_of_found : (name : List ℕ) (r : Register) (found : Option Device) → register_of facts name ≡ Some r → device_of facts r.device ≡ found
      → is_some found ≡ true → is_kept name kept ≡ true
  kept_of_found name r None is device there = absurd (cc)
  kept_of_found name r (Some d) is device there = kept_of_device name r d is device

  kept_of_register : AreLawful facts → (name : List ℕ) (found : Option Register) → register_of facts name ≡ found → is_some found ≡ true → is_kept name kept ≡ true
  kept_of_register lawful name None is there = absurd (cc)
  kept_of_register lawful name (Some r) is there = kept_of_found name r (device_of facts r.device) is refl (device_known facts name r lawful is)

  -- If the accounting registers (named counters) of all devices of a database file were collected,
  -- then each register that the file records was collected.
  pub each_recorded_is_kept : AreLawful facts → (name : List ℕ) → is_recorded name facts ≡ true → is_kept name kept ≡ true
  each_recorded_is_kept lawful name is = kept_of_register lawful name (register_of facts name) refl is

-- Each accounting register (a named counter) in a list is found in the list by the register's name.
each_named : (registers : List Register) → All (λ (it : Register). is_some (find (λ (r : Register). same r.name it.name) registers) ≡ true) registers
each_named [] = All-nil (λ (it : Register). is_some (find (λ (r : Register). same r.name it.name) []) ≡ true)
each_named (x ∷ xs) =
    let Later : Register → Type 0 = λ it. is_some (find (λ (r : Register). same r.name it.name) xs) ≡ true in
    let Named : Register → Type 0 = λ it. is_some (find (λ (r : Register). same r.name it.name) (x ∷ xs)) ≡ true in
    All-cons Named x xs (ap is_some (cond-true _ (Some x) (find (λ (r : Register). same r.name x.name) xs) (same_itself x.name)))
    (All-weaker Later Named (λ it is. some_or (same x.name it.name) x (find (λ (r : Register). same r.name it.name) xs) is) xs (each_named xs))

-- The accounting registers (named counters) of a device in a database file are recorded in this
-- file.
pub registers_recorded : (facts : List Fact) (device : List ℕ) → AreRecorded (registers_of facts device) facts
registers_recorded facts device =
    let Named : Register → Type 0 = λ it. is_recorded it.name facts ≡ true in
    let own : Register → Bool = λ it. same it.device device in
    let listed = filter own (registers_in facts) in
    All-permutation Named listed (reverse listed) (IsPermutation-reverse listed) (All-filter own Named (registers_in facts) (each_named (registers_in facts)))
