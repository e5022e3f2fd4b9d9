-- Lemmas that collecting the voided (withdrawn) entries of each chunk of a meter's entries collects
-- those of all the entries.
use Rattle.std.proofs.Common.{◌≡◌, ◌⊎◌, ℕ, ◌+◌, ◌<◌, true, Option, Some, None, List, ◌∷◌, [], ◌++◌, take, drop, length, get_or, refl, sym, ap, subst, ◌∙◌, append_assoc}
use Rattle.std.specs.Prelude.{Ok, Err}
use Rattle.std.specs.Option.{option_map, option_and_then}
use Rattle.std.specs.declared.alloc.Global.{Global}
use Rattle.std.specs.declared.vec.Vec.{Vec}
use Rattle.std.proofs.lemmas.List.{take_more}
use Rattle.std.proofs.lemmas.List.Elements.{filter-append}
use Rattle.office_events.specs.declared.facts.Fact.{Fact}
use Rattle.office_events.specs.declared.facts.Opening.{Opening}
use Rattle.office_events.specs.declared.refusals.Refusal.{Refusal}
use Rattle.office_events.specs.declared.refusals.Refusal.TheVariants as refusal
use Rattle.office_books.specs.Facts.{opening_of}
use Rattle.office_books.specs.History.{facts_of}
use Rattle.office_books.specs.declared.entries.MeterEntry.{MeterEntry}
use Rattle.office_books.specs.declared.failures.Failures.{Failures}
use Rattle.office_books.specs.Entries.{entries_at, first_from}
use Rattle.office_books.specs.Ledgers.{Ledger}
use Rattle.office_core.specs.Asking.{OnlyAsks}
use Rattle.office_core.specs.Failing.{IsOutside}
use Rattle.office_core.specs.Parts.{IsListed, ListsAccepted, entries_within}
use Rattle.office_core.specs.Standing.{After, is_stopped}
use Rattle.office_core.specs.Taking.{failures_of}
use Rattle.office_core.specs.declared.office.Office.{Office}
use Rattle.run_http.specs.MeterReplies.{AsksRows}
use Rattle.office_core.specs.Several.{Keeps}
use Rattle.run_http.specs.Voids.{is_voided, voided_in, voids_of}
use Rattle.office_core.proofs.SeveralAsked.{answered_as, asked, asked_after, goes_on, kept_on, without_memory}
use Rattle.office_books.proofs.Pieces.{last_piece, one_piece_more, piece_at}

-- Lemmas about a loop over one chunk of a meter's entries, which collects exactly the voided
-- (cancelled) entries of the chunk.

-- Suppose that a list has the voided (withdrawn) entries among a chunk's first `i` entries. If the
-- next entry is appended exactly if it is voided, then the list has those among the first `i + 1`
-- entries.
pub one_more : (piece : List MeterEntry) (i : ℕ) (any : MeterEntry) (before mid after : List MeterEntry) → i < length piece
    → mid ≡ before ++ voided_in (take i piece) → after ≡ mid ++ voided_in (get_or piece i any ∷ []) → after ≡ before ++ voided_in (take (i + 1) piece)
one_more piece i any before mid after lt kept more =
    let entry = get_or piece i any in
    let next : take (i + 1) piece ≡ take i piece ++ entry ∷ [] = take_more piece i any lt in
    more ∙ ap (λ front. front ++ voided_in (entry ∷ [])) kept ∙ append_assoc before (voided_in (take i piece)) (voided_in (entry ∷ []))
    ∙ ap (λ back. before ++ back) (sym (filter-append is_voided (take i piece) (entry ∷ [])) ∙ ap voided_in (sym next))

-- Lemmas: the voided (cancelled) entries of two consecutive chunks of a meter's entries are those
-- of the first chunk, followed by those of the second chunk.

some_same : {X : Type 0} (x y : X) → Some x ≡ Some y → x ≡ y
some_same x y is = cc is

-- If `option_map f o` has the value `y`, then `o` has a value that `f` maps to `y`.
pub mapped : {X Y : Type 0} (f : X → Y) (o : Option X) (y : Y) → option_map f o ≡ Some y → (x : X) × (o ≡ Some x) × (f x ≡ y)
mapped f None y is = absurd (cc is)
mapped f (Some x) y is = (x, refl, some_same (f x) y is)

-- Suppose that the program refuses a query for one list of a meter (such as its entries). Then it
-- refuses queries for other lists of the meter for the same reason.
refused_as : {X T U : Type 0} (f : X → List T) (g : X → List U) (o : Option X) (before mid after : Failures) (why : Refusal) → mid ≡ before
    → IsListed (option_map f o) mid after (Err why) → IsListed (option_map g o) before after (Err why)
refused_as f g None before mid after why is listed = subst (λ was. ((why ≡ refusal.NotFound) × (after ≡ was)) ⊎ IsOutside ⊥ was after why) is listed
refused_as f g (Some x) before mid after why is listed = subst (λ was. IsOutside ⊥ was after why) is listed

module _ {B : Type 0} (ledger : B → Ledger) where
  -- States that `kept` has the voided (withdrawn) entries among the first `n` entries of the meter.
  abbrev pub AreKept : (a b : Office B) → (meter : Option (List ℕ)) → (n : ℕ) → List MeterEntry → Type 0
  AreKept a b meter n kept = After ledger a b (λ past. (opening : Opening)
      → option_and_then (opening_of (facts_of past)) meter ≡ Some opening
      → kept ≡ voided_in (take n (entries_at (facts_of past) (Some opening))))

  abbrev from_place : List Fact → (n : ℕ) → Opening → List MeterEntry
  from_place facts n opening = first_from (n + 1) 65536 (entries_at facts (Some opening))

  abbrev all_voided : List Fact → Opening → List MeterEntry
  all_voided facts opening = voided_in (entries_at facts (Some opening))

  -- The voided entries of two consecutive chunks of a meter's entries are the voided entries of the
  -- first chunk, followed by those of the second chunk.
  of_both : (es piece : List MeterEntry) (n : ℕ) (kept more : List MeterEntry) → more ≡ kept ++ voided_in piece → kept ≡ voided_in (take n es)
      → more ≡ voided_in (take n es ++ piece)
  of_both es piece n kept more took reported =
      took ∙ ap (λ front. front ++ voided_in piece) reported ∙ sym (filter-append is_voided (take n es) piece)

  pub more_kept : (a b d : Office B) (meter : Option (List ℕ)) (n : ℕ) (kept more : List MeterEntry) (v : Vec MeterEntry Global)
      → Keeps ledger a b → AreKept a b meter n kept → OnlyAsks ledger b d (Ok v)
      → ListsAccepted ledger b d (Ok v) (λ facts. entries_within facts meter (n + 1) 65536)
      → more ≡ kept ++ voided_in v.items → AreKept a d meter (n + 65536) more
  more_kept a b d meter n kept more v keeps reported asks lists took = λ past stands clean opening is.
      let facts = facts_of past in
      let es = entries_at facts (Some opening) in
      let known = subst (λ o. IsListed (option_map (from_place facts n) o) (failures_of ledger b) (failures_of ledger d) (Ok v)) is
      (lists past (keeps.stands past stands) clean) in
      let items : v.items ≡ take 65536 (drop n es) = sym (some_same (from_place facts n opening) v.items known.0) ∙ piece_at facts opening n 65536 in
      of_both es v.items n kept more took (reported past stands (asks.clean clean) opening is)
      ∙ ap voided_in (ap (λ (piece : List MeterEntry). take n es ++ piece) items ∙ one_piece_more n 65536 es)

  pub all_kept : (a b d : Office B) (meter : Option (List ℕ)) (n : ℕ) (kept : List MeterEntry) (v w : Vec MeterEntry Global)
      → Keeps ledger a b → AreKept a b meter n kept → OnlyAsks ledger b d (Ok v)
      → ListsAccepted ledger b d (Ok v) (λ facts. entries_within facts meter (n + 1) 65536)
      → w.items ≡ kept ++ voided_in v.items → length v.items < 65536 → ListsAccepted ledger a d (Ok w) (λ facts. voids_of facts meter)
  all_kept a b d meter n kept v w keeps reported asks lists took few = λ past stands clean.
      let facts = facts_of past in
      let known = lists past (keeps.stands past stands) clean in
      let found = mapped (from_place facts n) (option_and_then (opening_of facts) meter) v.items known.0 in
      let opening = found.0 in
      let es = entries_at facts (Some opening) in
      let items : v.items ≡ take 65536 (drop n es) = sym found.2 ∙ piece_at facts opening n 65536 in
      let last : length (take 65536 (drop n es)) < 65536 = subst (λ (piece : List MeterEntry). length piece < 65536) items few in
      let all : w.items ≡ voided_in es =
      of_both es v.items n kept w.items took (reported past stands (asks.clean clean) opening found.1)
      ∙ ap voided_in (ap (λ (piece : List MeterEntry). take n es ++ piece) items ∙ last_piece n 65536 es last) in
      (ap (option_map (all_voided facts)) found.1 ∙ ap Some (sym all), known.1 ∙ keeps.failures)

  -- Lemmas: the collected list has all voided (cancelled) entries of a meter, unless the query was
  -- refused or memory ran out.

  pub reported : {E : Type 0} (a b d : Office B) (meter : Option (List ℕ)) (n : ℕ) (kept : List MeterEntry) (v w : Vec MeterEntry Global)
      → Keeps ledger a b → AreKept a b meter n kept → OnlyAsks ledger b d (Ok v)
      → ListsAccepted ledger b d (Ok v) (λ facts. entries_within facts meter (n + 1) 65536)
      → w.items ≡ kept ++ voided_in v.items → length v.items < 65536 → AsksRows ledger a d (λ facts. voids_of facts meter) {E = E} (Ok (Ok w))
  reported a b d meter n kept v w keeps are asks lists took few = record {
    answer = Ok w;
    asks = answered_as ledger a d w (λ stopped. goes_on ledger b d v asks (keeps.stays ∙ stopped)) (kept_on ledger a b d keeps (asked ledger b d v asks));
    gives = refl;
    lists = all_kept a b d meter n kept v w keeps are asks lists took few;
  }

  pub refused : {E : Type 0} (a b d : Office B) (meter : Option (List ℕ)) (n : ℕ) (why : Refusal) → Keeps ledger a b
      → OnlyAsks {T = Vec MeterEntry Global} ledger b d (Err why)
      → ListsAccepted {T = MeterEntry} ledger b d (Err why) (λ facts. entries_within facts meter (n + 1) 65536)
      → AsksRows ledger a d (λ facts. voids_of facts meter) {E = E} (Ok (Err why))
  refused a b d meter n why keeps asks lists = record {
    answer = Err why;
    asks = asked_after ledger a b d (Err why) keeps asks;
    gives = refl;
    lists = λ past stands clean.
        let facts = facts_of past in
        refused_as (from_place facts n) (all_voided facts) (option_and_then (opening_of facts) meter) (failures_of ledger a) (failures_of ledger b)
        (failures_of ledger d) why keeps.failures (lists past (keeps.stands past stands) clean);
  }

  -- Lemma on the function `ask_voids`, which collects the voided (withdrawn) entries of a meter. If
  -- memory for the entries runs out, the function returns an error, which its contract `AsksRows`
  -- allows.
  pub no_room : {E : Type 0} (a b : Office B) (meter : Option (List ℕ)) (fault : E) → (is_stopped a ≡ true → ⊥) → Keeps ledger a b
      → AsksRows ledger a b (λ facts. voids_of facts meter) (Err fault)
  no_room a b meter fault goes keeps = record {
    answer = Err refusal.Memory;
    asks = without_memory ledger a b goes keeps;
    gives = tt;
    lists = tt;
  }
