-- Proves that the rows that the CSV reader returns are the first records of the text that it reads.
use Rattle.std.specs.Prelude.{◌==◌, Bool, true, false, zero, suc}
use Rattle.std.proofs.Common.{◌≡◌, ◌≤◌, ◌<◌, ◌+◌, ◌-◌, ◌∙◌, ℕ, List, [], ◌∷◌, ◌++◌, Some, None, length, take, refl, sym, ap, arith, inl, inr, zero-add}
use Rattle.std.proofs.lemmas.Bool.{cases_Bool}
use Rattle.std.proofs.lemmas.List.{append-nil, take-append-le, take_all}
use Rattle.std.proofs.lemmas.Option.{same_Some}
use Rattle.csv.specs.Machine.{Read, after_end, ends_at_end, ends_with, in_field, is_end, next_record, start_field, start_record, step}
use Rattle.csv.specs.Reading.{Reached, default_config, records, records_from}
use Rattle.csv.specs.declared.parser.State.{State}
use Rattle.csv.specs.declared.parser.State.TheVariants as st
use Rattle.csv.specs.declared.parser.Terminator.TheVariants as term

after_end-rests : (c : ℕ) → ends_at_end (after_end term.CRLF c) ≡ false
after_end-rests c = elim (cases_Bool (c == 13)) [ inl e ↦ rw e refl | inr n ↦ rw n refl ]

in_field-rests : (c : ℕ) → is_end (in_field default_config c).1 ≡ true → ends_at_end (in_field default_config c).0 ≡ false
in_field-rests c h = elim (cases_Bool (c == 44)) [
  | inl d ↦ cc (rw d at h)
  | inr n ↦ elim (cases_Bool (ends_with term.CRLF c)) [
    | inl e ↦ rw (n, e) (after_end-rests c)
    | inr m ↦ cc (rw (n, m) at h)
  ]
]

start_field-rests : (c : ℕ) → is_end (start_field default_config c).1 ≡ true → ends_at_end (start_field default_config c).0 ≡ false
start_field-rests c h = elim (cases_Bool (c == 34)) [
  | inl q ↦ cc (rw q at h)
  | inr n ↦ rw n (in_field-rests c (rw n at h))
]

-- A byte that is not part of a line end does not end a CSV record.
no-end : (c : ℕ) → ends_with term.CRLF c ≡ false → is_end (start_field default_config c).1 ≡ true → ⊥
no-end c n h = elim (cases_Bool (c == 34)) [
  | inl q ↦ cc (rw q at h)
  | inr m ↦ elim (cases_Bool (c == 44)) [ inl d ↦ cc (rw (m, d) at h) | inr o ↦ cc (rw (m, o, n) at h) ]
]

start_record-ends : (c : ℕ) → is_end (start_record default_config c).1 ≡ true → ⊥
start_record-ends c h = by (ends_with term.CRLF c) refl
  where
    by : (b : Bool) → ends_with term.CRLF c ≡ b → ⊥
    by true e = cc (rw e at h)
    by false e = elim (cases_Bool (c == 34)) [
      | inl q ↦ cc (rw (e, q) at h)
      | inr m ↦ elim (cases_Bool (c == 44)) [ inl d ↦ cc (rw (e, m, d) at h) | inr o ↦ cc (rw (e, m, o) at h) ]
    ]

after_cr-ends : (c : ℕ) → is_end (step default_config st.AfterCr c).1 ≡ true → ⊥
after_cr-ends c h = elim (cases_Bool (c == 10)) [
  | inl e ↦ cc (rw e at h)
  | inr n ↦ elim (cases_Bool (c == 13)) [
    | inl q ↦ cc (rw (n, q) at h)
    | inr m ↦ elim (cases_Bool (c == 34)) [
      | inl q ↦ cc (rw (n, m, q) at h)
      | inr k ↦ elim (cases_Bool (c == 44)) [ inl d ↦ cc (rw (n, m, k, d) at h) | inr o ↦ cc (rw (n, m, k, o) at h) ]
    ]
  ]
]

-- A byte that ends a CSV record leaves the reader between records.
step-rests : (s : State) (c : ℕ) → is_end (step default_config s c).1 ≡ true → ends_at_end (step default_config s c).0 ≡ false
step-rests st.StartRecord c h = absurd (start_record-ends c h)
step-rests st.StartField c h = start_field-rests c h
step-rests st.InField c h = in_field-rests c h
step-rests st.InQuoted c h = elim (cases_Bool (c == 34)) [ inl e ↦ cc (rw e at h) | inr n ↦ cc (rw n at h) ]
step-rests st.InEscape c h = cc h
step-rests st.AfterQuote c h = elim (cases_Bool (c == 34)) [ inl e ↦ cc (rw e at h) | inr n ↦ rw n (in_field-rests c (rw n at h)) ]
step-rests st.InComment c h = elim (cases_Bool (c == 10)) [ inl e ↦ cc (rw e at h) | inr n ↦ cc (rw n at h) ]
step-rests st.AfterCr c h = absurd (after_cr-ends c h)

-- Reading a CSV record consumes at least one byte, and leaves the reader between records.
pub next-shrinks : (s : State) (fields : List (List ℕ)) (field xs : List ℕ) (p : Read) → next_record default_config s fields field xs ≡ Some p
    → (length p.2 ≤ length xs) × (ends_at_end p.1 ≡ false) × (ends_at_end s ≡ false → length p.2 < length xs)
unfolding next_record
next-shrinks s fields field [] p h = elim (cases_Bool (ends_at_end s)) [
  | inl e ↦
      let q = same_Some _ _ (rw e at h) in
      rw (← q) (omega arith, refl, (λ no. cc (sym no ∙ e)))
  | inr n ↦ cc (rw n at h)
]
next-shrinks s fields field (c ∷ rest) p h = elim (cases_Bool (is_end (step default_config s c).1)) [
  | inl e ↦
      let q = same_Some _ _ (rw e at h) in
      rw (← q) (omega arith, step-rests s c e, (λ no. omega arith))
  | inr n ↦
      let r = next-shrinks (step default_config s c).0 _ _ rest p (rw n at h) in
      (omega (arith, r.0), r.1, (λ no. omega (arith, r.0)))
]

-- If the CSV reader has read the records `rows` of a text, the text's records are `rows` followed
-- by the records of the remaining bytes.
pub reached-records : (s s2 : State) (xs ys : List ℕ) (rows : List (List (List ℕ))) (k : ℕ) → Reached default_config s xs rows s2 ys
    → records_from default_config (length rows + k) s xs ≡ rows ++ records_from default_config k s2 ys
unfolding Reached records_from
reached-records s s2 xs ys [] k h = rw (h.0, h.1, zero-add k) refl
reached-records s s2 xs ys (r ∷ rs) k h =
    let e : length (r ∷ rs) + k ≡ suc (length rs + k) = omega arith in
    ap (λ (n : ℕ). records_from default_config n s xs) e ∙ rw (h.1, h.2) (ap (λ (t : List (List (List ℕ))). h.0.0 ∷ t) (reached-records h.0.1 s2 h.0.2 ys rs k h.3))

-- Each CSV record that was read consumed at least one byte.
pub reached-shrinks : (s s2 : State) (xs ys : List ℕ) (rows : List (List (List ℕ))) → ends_at_end s ≡ false → Reached default_config s xs rows s2 ys
    → length ys + length rows ≤ length xs
unfolding Reached
reached-shrinks s s2 xs ys [] e h = rw (h.1) (omega arith)
reached-shrinks s s2 xs ys (r ∷ rs) e h =
    let one = next-shrinks s [] [] xs h.0 h.1 in
    let less = one.2 e in
    let more = reached-shrinks h.0.1 s2 h.0.2 ys rs one.1 h.3 in
    omega (arith, less, more)

none-left : (k : ℕ) (s : State) (ys : List ℕ) → next_record default_config s [] [] ys ≡ None → records_from default_config k s ys ≡ []
unfolding records_from
none-left zero s ys h = refl
none-left (suc k) s ys h = rw h refl

-- The CSV rows that the reader has read so far are the first records of the text.
pub rows-begin : (s2 : State) (xs ys : List ℕ) (rows : List (List (List ℕ))) → Reached default_config st.StartRecord xs rows s2 ys
    → (more : List (List (List ℕ))) × (records default_config xs ≡ rows ++ more) × (next_record default_config s2 [] [] ys ≡ None → more ≡ [])
rows-begin s2 xs ys rows h =
    let less = reached-shrinks st.StartRecord s2 xs ys rows refl h in
    let k = length xs + 1 - length rows in
    let e : length xs + 1 ≡ length rows + k = omega (arith, less) in
    (records_from default_config k s2 ys, ap (λ (n : ℕ). records_from default_config n st.StartRecord xs) e ∙ reached-records st.StartRecord s2 xs ys rows k h, none-left k s2 ys)

-- If `n` CSV rows were read, they are the first `n` records of the text.
pub rows-full : (n : ℕ) (s2 : State) (xs ys : List ℕ) (rows : List (List (List ℕ))) → Reached default_config st.StartRecord xs rows s2 ys → length rows ≡ n
    → rows ≡ take n (records default_config xs)
rows-full n s2 xs ys rows h e =
    let b = rows-begin s2 xs ys rows h in
    rw (b.1, ← e) (sym (take-append-le (length rows) rows b.0 (omega arith) ∙ take_all (length rows) rows (omega arith)))

-- Suppose that at most `n` CSV rows were read and no record follows. Then the rows are the first
-- `n` records of the text (all records, if there are fewer).
pub rows-all : (n : ℕ) (s2 : State) (xs ys : List ℕ) (rows : List (List (List ℕ))) → Reached default_config st.StartRecord xs rows s2 ys → length rows ≤ n
    → next_record default_config s2 [] [] ys ≡ None → rows ≡ take n (records default_config xs)
rows-all n s2 xs ys rows h e stop =
    let b = rows-begin s2 xs ys rows h in
    rw (b.1, b.2 stop, append-nil rows) (sym (take_all n rows e))
