-- Lemmas on streamed responses, which send the energy of a meter's quarter hours in chunks.
use Rattle.std.proofs.Common.{◌≡◌, inl, inr, ℕ, ◌+◌, ◌<◌, ◌≤◌, max, min, List, [], ◌∷◌, ◌++◌, length, Option, Some, Result, Ok, Err, true, refl, sym, ap, subst, ◌∙◌, append_assoc, length-append, zero-add, arith}
use Rattle.std.specs.Prelude.{IsErr, OnOk, flat_map}
use Rattle.std.specs.Option.{option_map, option_and_then}
use Rattle.std.specs.declared.alloc.Global.{Global}
use Rattle.std.specs.declared.vec.Vec.{Vec}
use Rattle.std.proofs.lemmas.Bool.{cases_lt}
use Rattle.std.proofs.lemmas.List.Concat.{flat_map-append}
use Rattle.office_http.specs.Messages.Sending.Replies.{text_head}
use Rattle.interval_core.specs.Account.{SharesAddUp}
use Rattle.interval_core.specs.Lines.{end_line, intervals_text, share_line}
use Rattle.interval_core.specs.declared.shares.Share.{Share}
use Rattle.office_books.specs.Ledgers.{Ledger}
use Rattle.office_books.specs.Rows.{TakesAll}
use Rattle.office_books.specs.Spans.{rows_within}
use Rattle.office_books.specs.declared.failures.Failures.{Failures}
use Rattle.office_books.specs.declared.spans.Span.TheVariants.{Between}
use Rattle.office_core.specs.Asking.{IsRowFound, OnlyAsks, ReportsRows, is_there, rows_in}
use Rattle.office_core.specs.Failing.{IsOutside}
use Rattle.office_core.specs.Parts.{IsListed, intervals_within}
use Rattle.office_core.specs.Standing.{After, Stands}
use Rattle.office_core.specs.Taking.{failures_of}
use Rattle.office_core.specs.declared.office.Office.{Office}
use Rattle.office_events.specs.declared.facts.Fact.{Fact}
use Rattle.office_events.specs.declared.facts.Opening.{Opening}
use Rattle.office_events.specs.declared.questions.Installation.{Installation}
use Rattle.office_events.specs.declared.refusals.Refusal.{Refusal}
use Rattle.office_books.specs.Facts.{opening_of}
use Rattle.office_books.specs.History.{History, facts_of}
use Rattle.office_books.specs.Intervals.{rows_of_opening}
use Rattle.office_books.specs.Lawful.{AreLawful}
use Rattle.office_books.specs.Lawfulness.{FactsAreLawful}
use Rattle.office_books.specs.Meters.{installation_of, meter_of}
use Rattle.run_http.specs.Copies.{quarter_of}
use Rattle.run_http.specs.MeterReplies.{AsksRows}
use Rattle.run_http.specs.Pieces.{ArePieces, AreSizes, BeginsReply, IsBegun, IsSettled, Piece, PiecesAreWhole, SizesRow, SizesRows, MovesOn, ReportsOn, ReportsRest, TextStays, body_size, last_quarter, left_after, rows_between, rows_left, text_after, text_left, with_all_rows, with_head, with_rows}
use Rattle.run_http.specs.declared.pieces.RemainingRows.{RemainingRows}
use Rattle.run_http.specs.declared.row_sizes.RowSizes.{RowSizes}
use Rattle.run_http.specs.declared.row_sizes.Sizes.{Sizes}
use Rattle.run_http.proofs.Copies.Parts.{a_piece, all_parts, none_between, rows_stay}
use Rattle.office_core.proofs.SeveralAsked.{asked, asked_after, now_as, refused_as}
use Rattle.run_http.proofs.ReplyLemmas.Voids.{mapped}

-- Lemmas: the text lines of a response's interval rows (energies of quarter hours) can be written
-- chunk by chunk.

-- The text lines of interval rows (energies of quarter hours), and the last line with the number of
-- rows. This number also counts the `reported` rows that were written earlier.
abbrev text_of : (reported : ℕ) → List Share → List ℕ
text_of reported rows = flat_map share_line rows ++ end_line (reported + length rows)

-- The text that a streamed response still has to send before a chunk consists of the lines of the
-- chunk, and then the text still to be sent after it.
pub reported_on : (from to : List ℕ) (piece others : List Share) (reported later : ℕ) → to ≡ from ++ flat_map share_line piece → later ≡ reported + length piece
    → to ++ text_of later others ≡ from ++ text_of reported (piece ++ others)
reported_on from to piece others reported later put counted =
    let count : later + length others ≡ reported + length (piece ++ others) = omega (arith, counted, length-append piece others) in
    ap (λ t. t ++ text_of later others) put
    ∙ append_assoc from (flat_map share_line piece) (text_of later others)
    ∙ ap (λ t. from ++ t) (sym (append_assoc (flat_map share_line piece) (flat_map share_line others) (end_line (later + length others))))
    ∙ ap (λ t. from ++ (t ++ end_line (later + length others))) (sym (flat_map-append share_line piece others))
    ∙ ap (λ n. from ++ (flat_map share_line (piece ++ others) ++ end_line n)) count

-- Lemmas: when a streamed response starts, its first bytes and the rows still to be sent form the
-- complete response.

end_settled : (first till last end : ℕ) → end ≡ max first (min till last) → first < end → end ≤ last
end_settled first till last end is lt = omega (arith, is, lt)

-- The result of a query for interval rows (energies of quarter hours), without the rows: success,
-- or the reason why the program refused the query.
abbrev without_rows : Result (Vec Share Global) Refusal → Result (Unit {0}) Refusal
without_rows (Ok rows) = Ok tt
without_rows (Err why) = Err why

module _ {B : Type 0} (ledger : B → Ledger) (old new : Office B) where
  asks_without : (answer : Result (Vec Share Global) Refusal) → OnlyAsks ledger old new answer → OnlyAsks ledger old new (without_rows answer)
  asks_without (Ok rows) asks = now_as ledger old new rows tt asks
  asks_without (Err why) asks = refused_as ledger old new why asks

  -- If the program reports the state `it` of a meter, the meter has an opening (the first entry),
  -- and its entries determine `it`.
  found : (facts : List Fact) (it : Installation) (meter : List ℕ) → meter_of facts meter ≡ Some it
      → (o : Opening) × (opening_of facts meter ≡ Some o) × (installation_of facts o ≡ it)
  found facts it meter there = mapped (installation_of facts) (opening_of facts meter) it there

  begun : (facts : List Fact) (it : Installation) (from till first end : ℕ) (last : List Share) (left : RemainingRows) → SharesAddUp → AreLawful facts
      → meter_of facts it.opening.meter ≡ Some it
      → first ≡ max from (quarter_of it.opening.at) → end ≡ max first (min till (quarter_of it.last.at))
      → rows_between facts (Some it.opening.meter) end till ≡ last
      → left.meter ≡ Some it.opening.meter → left.from ≡ first → left.till ≡ end → left.last.items ≡ last → left.reported ≡ 0
      → IsBegun facts it.opening.meter from till intervals_text [] left
  begun facts it from till first end last left law lawful there first_is end_is kept meter low high same none =
      let meter_is = found facts it it.opening.meter there in
      let o : Opening = meter_is.0 in
      let own : o ≡ it.opening = ap (λ (i : Installation). i.opening) meter_is.2 in
      let begins : first ≡ max from (quarter_of o.at) = first_is ∙ ap (λ (p : Opening). max from (quarter_of p.at)) (sym own) in
      let all : rows_between facts (Some it.opening.meter) from till
      ≡ rows_between facts (Some it.opening.meter) first end ++ last =
      all_parts law facts it.opening.meter o from first (quarter_of it.last.at) end till lawful meter_is.1 begins end_is
      ∙ ap (λ rs. rows_between facts (Some it.opening.meter) first end ++ rs) kept in
      let rows : rows_between facts left.meter left.from left.till ++ left.last.items ≡ rows_between facts (Some it.opening.meter) from till =
      ap (λ m. rows_between facts m left.from left.till ++ left.last.items) meter
      ∙ ap (λ n. rows_between facts (Some it.opening.meter) n left.till ++ left.last.items) low
      ∙ ap (λ n. rows_between facts (Some it.opening.meter) first n ++ left.last.items) high
      ∙ ap (λ rs. rows_between facts (Some it.opening.meter) first end ++ rs) same
      ∙ sym all in
      record {
        reports =
            ap (text_of left.reported) rows ∙ ap (λ n. text_of n (rows_between facts (Some it.opening.meter) from till)) none
            ∙ ap (λ n. flat_map share_line (rows_between facts (Some it.opening.meter) from till) ++ end_line n)
            (zero-add (length (rows_between facts (Some it.opening.meter) from till)));
        settled = λ lt.
            let known : option_and_then (meter_of facts) left.meter ≡ Some it = ap (option_and_then (meter_of facts)) meter ∙ there in
            let upto : end ≤ quarter_of it.last.at = end_settled first till (quarter_of it.last.at) end end_is (omega (arith, lt, low, high)) in
            subst (λ (i : Option Installation). left.till ≤ last_quarter i) (sym known) (omega (arith, upto, high));
      }

  -- If the program refuses a query for interval rows (energies of quarter hours) of an installed
  -- meter, then the store or memory failed.
  failed : (facts : List Fact) (it : Installation) (from till : ℕ) (before after : Failures) (why : Refusal) → meter_of facts it.opening.meter ≡ Some it
      → IsListed (intervals_within facts (Some it.opening.meter) (Between from till)) before after (Err why) → IsOutside ⊥ before after why
  failed facts it from till before after why there listed =
      let meter_is = found facts it it.opening.meter there in
      subst (λ (o : Option Opening). IsListed (option_map (rows_within (Between from till)) (option_map (rows_of_opening facts) o)) before after (Err why))
      meter_is.1 listed

  -- The interval rows (energies of quarter hours) that a query returns are the rows that the
  -- store's records define.
  listed_as : {F : Type 0} (says : List Fact → Option (List Share)) (reported : Result (Vec Share Global) Refusal) → AsksRows ledger old new says {E = F} (Ok reported)
      → After ledger old new (λ past. IsListed (says (facts_of past)) (failures_of ledger old) (failures_of ledger new) reported)
  listed_as says reported asked = λ past stands clean.
      subst (λ (a : Result (Vec Share Global) Refusal). IsListed (says (facts_of past)) (failures_of ledger old) (failures_of ledger new) a) (sym asked.gives)
      (asked.lists past stands clean)

  lawful_after : (past : History) → FactsAreLawful → Stands ledger past old → AreLawful (facts_of past)
  lawful_after past law stands = law past stands.books.is_past.accepted stands.books.is_past.planned

  asks_as : {F : Type 0} (says : List Fact → Option (List Share)) (reported : Result (Vec Share Global) Refusal) → AsksRows ledger old new says {E = F} (Ok reported)
      → OnlyAsks ledger old new reported
  asks_as says reported asked = subst (λ (a : Result (Vec Share Global) Refusal). OnlyAsks ledger old new a) (sym asked.gives) asked.asks

  pub begins_rows : {E F : Type 0} (it : Installation) (from till first end : ℕ) (last : Vec Share Global) (left : RemainingRows) → SharesAddUp → FactsAreLawful
      → first ≡ max from (quarter_of it.opening.at) → end ≡ max first (min till (quarter_of it.last.at))
      → AsksRows ledger old new (λ facts. intervals_within facts (Some it.opening.meter) (Between end till)) {E = F} (Ok (Ok last))
      → left.meter ≡ Some it.opening.meter → left.from ≡ first → left.till ≡ end → left.last ≡ last → left.reported ≡ 0
      → BeginsReply ledger old new it from till intervals_text [] {E = E} (Ok (Ok left))
  begins_rows it from till first end last left law lawful first_is end_is asked meter low high same none = record {
    answer = Ok tt;
    asks = now_as ledger old new last tt (asks_as (λ facts. intervals_within facts (Some it.opening.meter) (Between end till)) (Ok last) asked);
    begins = (
      refl,
      meter,
      λ past stands clean there.
          let rows = listed_as (λ facts. intervals_within facts (Some it.opening.meter) (Between end till)) (Ok last) asked past stands clean in
          begun (facts_of past) it from till first end last.items left law (lawful_after past lawful stands) there first_is end_is (ap rows_in rows.0) meter low high
          (ap (λ (v : Vec Share Global). v.items) same) none,
    );
  }

  pub begins_refused : {E F : Type 0} (it : Installation) (from till end : ℕ) (why : Refusal)
      → AsksRows ledger old new (λ facts. intervals_within facts (Some it.opening.meter) (Between end till)) {E = F} (Ok (Err why))
      → BeginsReply ledger old new it from till intervals_text [] {E = E} (Ok (Err why))
  begins_refused it from till end why asked = record {
    answer = Err why;
    asks = refused_as ledger old new why (asks_as (λ facts. intervals_within facts (Some it.opening.meter) (Between end till)) (Err why) asked);
    begins = (
      refl,
      λ past stands clean there.
          failed (facts_of past) it end till (failures_of ledger old) (failures_of ledger new) why there
          (listed_as (λ facts. intervals_within facts (Some it.opening.meter) (Between end till)) (Err why) asked past stands clean),
    );
  }

  -- If memory for the interval rows (energies of quarter hours) runs out, then the function
  -- `begin_rows` returns an error, which its contract `BeginsReply` allows.
  pub begins_lacked : {E F : Type 0} (it : Installation) (from till end : ℕ) (fault : F) (result : Result (Result RemainingRows Refusal) E)
      → AsksRows ledger old new (λ facts. intervals_within facts (Some it.opening.meter) (Between end till)) (Err fault) → IsErr result
      → BeginsReply ledger old new it from till intervals_text [] result
  begins_lacked it from till end fault (Ok reported) asked is = cc is
  begins_lacked it from till end fault (Err why) asked is = record { answer = without_rows asked.answer; asks = asks_without asked.answer asked.asks; begins = tt }

  -- Lemmas: a chunk of a streamed response does not change the written text and the text still to
  -- be sent, taken together.

  pub reports_on : {E F : Type 0} (left later : RemainingRows) (seconds till : ℕ) (from to : List ℕ) (rows : Vec Share Global) (shown : List Share) → SharesAddUp
      → FactsAreLawful → (left.from ≤ left.till → left.from ≤ till) → till ≤ left.till → (left.till ≤ left.from → till ≡ left.till)
      → (left.from < left.till → 0 < seconds → left.from < till) → till ≤ left.from + seconds
      → AsksRows ledger old new (λ facts. intervals_within facts left.meter (Between left.from till)) {E = F} (Ok (Ok rows))
      → shown ≡ rows.items → to ≡ from ++ flat_map share_line shown → later ≡ record left { from = till; reported = left.reported + length shown }
      → ReportsOn ledger old new left later seconds from to {E = E} (Ok (Ok tt))
  reports_on left later seconds till from to rows shown law lawful low high none some few asked same put is = record {
    answer = asked.answer;
    asks = asked.asks;
    reports = (
      record {
        meter = ap (λ (l : RemainingRows). l.meter) is;
        till = ap (λ (l : RemainingRows). l.till) is;
        some = λ lt pos. let at : later.from ≡ till = ap (λ (l : RemainingRows). l.from) is in omega (arith, some lt pos, at);
        none = λ ge.
            let at : later.from ≡ till = ap (λ (l : RemainingRows). l.from) is in
            let upto : later.till ≡ left.till = ap (λ (l : RemainingRows). l.till) is in omega (arith, none ge, at, upto);
        few = let at : later.from ≡ till = ap (λ (l : RemainingRows). l.from) is in omega (arith, few, at);
      },
      λ past stands clean.
          let facts : List Fact = facts_of past in
          let reported = listed_as (λ facts. intervals_within facts left.meter (Between left.from till)) (Ok rows) asked past stands clean in
          let piece : rows_between facts left.meter left.from till ≡ shown = ap rows_in reported.0 ∙ sym same in
          let parts : rows_between facts left.meter left.from left.till ≡ shown ++ rows_between facts left.meter till left.till =
          a_piece law facts left.meter left.from till left.till (lawful_after past lawful stands) low high none
          ∙ ap (λ rs. rs ++ rows_between facts left.meter till left.till) piece in
          let others : List Share = rows_between facts left.meter till left.till ++ left.last.items in
          let all : rows_left facts left ≡ shown ++ others =
          ap (λ rs. rs ++ left.last.items) parts ∙ append_assoc shown (rows_between facts left.meter till left.till) left.last.items in
          let after : rows_left facts later ≡ others = ap (λ (l : RemainingRows). rows_left facts l) is in
          ap (λ rs. to ++ text_of later.reported rs) after
          ∙ reported_on from to shown others left.reported later.reported put (ap (λ (l : RemainingRows). l.reported) is)
          ∙ ap (λ rs. from ++ text_of left.reported rs) (sym all),
    );
  }

  pub reports_refused : {E F : Type 0} (left later : RemainingRows) (seconds till : ℕ) (from to : List ℕ) (why : Refusal)
      → AsksRows ledger old new (λ facts. intervals_within facts left.meter (Between left.from till)) {E = F} (Ok (Err why))
      → ReportsOn ledger old new left later seconds from to {E = E} (Ok (Err why))
  reports_refused left later seconds till from to why asked = record { answer = asked.answer; asks = asked.asks; reports = sym asked.gives }

-- Lemmas: the size that is computed for a streamed response's body is the number of bytes of this
-- body.

failed_some : (before after : Failures) (why : Refusal) → IsRowFound {T = Unit {0}} (Some tt) before after (Err why) → IsOutside ⊥ before after why
failed_some before after why (inl is) = cc is.0
failed_some before after why (inr fault) = fault

-- If interval rows (energies of quarter hours) are measured one by one, then the result has the
-- number of all rows and the size of all their lines.
all_sized : (old new : RowSizes) (rows : List Share) → TakesAll SizesRow old rows new → new.is_whole ≡ true
    → (old.is_whole ≡ true) × (new.sizes.bytes ≡ old.sizes.bytes + length (flat_map share_line rows)) × (new.sizes.count ≡ old.sizes.count + length rows)
all_sized old new [] is whole = (
  sym (ap (λ (s : RowSizes). s.is_whole) is) ∙ whole,
  omega (arith, ap (λ (s : RowSizes). s.sizes.bytes) is),
  omega (arith, ap (λ (s : RowSizes). s.sizes.count) is),
)
all_sized old new (row ∷ rows) (next, first, rest) whole =
    let later = all_sized next new rows rest whole in
    let one = first later.0 in
    let line : length (flat_map share_line (row ∷ rows)) ≡ length (share_line row) + length (flat_map share_line rows) =
    length-append (share_line row) (flat_map share_line rows) in
    (one.0, omega (arith, later.1, one.1, line), omega (arith, later.2, one.2))

-- The computed size of a streamed response's body equals the size of the text that is still to be
-- sent.
body_is : (facts : List Fact) (left : RemainingRows) (sizes : Sizes) → AreSizes sizes (rows_between facts left.meter left.from left.till)
    → body_size left sizes ≡ length (text_left facts left)
body_is facts left sizes are =
    let rows : List Share = rows_between facts left.meter left.from left.till in
    let last : List Share = left.last.items in
    let count : left.reported + sizes.count + length last ≡ left.reported + length (rows ++ last) = omega (arith, are.1, length-append rows last) in
    let ends : end_line (left.reported + sizes.count + length last) ≡ end_line (left.reported + length (rows ++ last)) = ap end_line count in
    omega (
      arith,
      are.0,
      ap (λ (t : List ℕ). length t) ends,
      ap (λ (t : List ℕ). length t) (flat_map-append share_line rows last),
      length-append (flat_map share_line rows) (flat_map share_line last),
      length-append (flat_map share_line last) (end_line (left.reported + sizes.count + length last)),
      length-append (flat_map share_line (rows ++ last)) (end_line (left.reported + length (rows ++ last))),
    )

there_is : (facts : List Fact) (it : Installation) (meter : Option (List ℕ)) (from till : ℕ) → meter ≡ Some it.opening.meter
    → meter_of facts it.opening.meter ≡ Some it → is_there (intervals_within facts meter (Between from till)) ≡ Some tt
there_is facts it meter from till named there =
    let found = mapped (installation_of facts) (opening_of facts it.opening.meter) it there in
    let shown : Option Opening → Option (Unit {0}) =
    λ o. is_there (option_map (rows_within (Between from till)) (option_map (rows_of_opening facts) o)) in
    ap (λ m. is_there (intervals_within facts m (Between from till))) named ∙ ap shown found.1

outside : (found : Option (Unit {0})) (before mid after : Failures) (answer : Result (Unit {0}) Refusal) (why : Refusal) → found ≡ Some tt → mid ≡ before
    → answer ≡ Err why → IsRowFound found mid after answer → IsOutside ⊥ before after why
outside found before mid after answer why there same is reported =
    let at_some = subst (λ f. IsRowFound f mid after answer) there reported in
    let at_why = subst (λ (a : Result (Unit {0}) Refusal). IsRowFound (Some tt) mid after a) is at_some in
    subst (λ was. IsOutside ⊥ was after why) same (failed_some mid after why at_why)

module _ {B : Type 0} (ledger : B → Ledger) (old mid new : Office B) where
  pub sized : {E : Type 0} (left : RemainingRows) (from to : RowSizes) (reported : Sizes) → from.sizes ≡ record { bytes = 0; count = 0 } → to.is_whole ≡ true
      → reported ≡ to.sizes
      → ReportsRows SizesRow ledger mid new from to (Ok tt) (λ facts. intervals_within facts left.meter (Between left.from left.till))
      → OnlyAsks {T = Unit {0}} ledger mid new (Ok tt) → SizesRows ledger mid new left {E = E} (Ok (Ok reported))
  sized left from to reported none whole is reports asks = record {
    answer = Ok tt;
    asks = asks;
    sizes = (
      refl,
      λ past stands clean.
          let rows : List Share = rows_between (facts_of past) left.meter left.from left.till in
          let all = all_sized from to rows (reports past stands clean).whole whole in
          let bytes : from.sizes.bytes ≡ 0 = ap (λ (s : Sizes). s.bytes) none in
          let count : from.sizes.count ≡ 0 = ap (λ (s : Sizes). s.count) none in (
            ap (λ (s : Sizes). s.bytes) is ∙ all.1 ∙ ap (λ n. n + length (flat_map share_line rows)) bytes ∙ zero-add (length (flat_map share_line rows)),
            ap (λ (s : Sizes). s.count) is ∙ all.2 ∙ ap (λ n. n + length rows) count ∙ zero-add (length rows),
          ),
    );
  }

  pub sized_refused : {E : Type 0} (left : RemainingRows) (from to : RowSizes) (why : Refusal)
      → ReportsRows SizesRow ledger mid new from to (Err why) (λ facts. intervals_within facts left.meter (Between left.from left.till))
      → OnlyAsks {T = Unit {0}} ledger mid new (Err why) → SizesRows ledger mid new left {E = E} (Ok (Err why))
  sized_refused left from to why reports asks = record {
    answer = Err why;
    asks = asks;
    sizes = (refl, λ past stands clean. (reports past stands clean).answer);
  }

  -- Lemma on the function `ask_sizes`, which computes the number and the size of the remaining rows
  -- of a streamed response. If memory for the line of a row runs out, the function returns an
  -- error, which its contract `SizesRows` allows.
  pub sizes_none : {E : Type 0} (left : RemainingRows) (answer : Result (Unit {0}) Refusal) (result : Result (Result Sizes Refusal) E)
      → OnlyAsks ledger mid new answer → IsErr result → SizesRows ledger mid new left result
  sizes_none left answer (Ok reported) asks is = cc is
  sizes_none left answer (Err why) asks is = record { answer = answer; asks = asks; sizes = tt }

  -- Lemmas: a streamed response starts with a head that contains the size of the body, unless the
  -- store or memory fails.

  first_asks : {E : Type 0} (it : Installation) (from till : ℕ) (reply : List Share → List ℕ) (put : List ℕ) (left : RemainingRows)
      → BeginsReply ledger old mid it from till reply put {E = E} (Ok (Ok left)) → OnlyAsks {T = Unit {0}} ledger old mid (Ok tt)
  first_asks it from till reply put left begins = subst (λ (a : Result (Unit {0}) Refusal). OnlyAsks ledger old mid a) begins.begins.0 begins.asks

  -- If the function that begins a streamed response queries the store twice, then both queries
  -- together change no record of the store.
  pub then_asks : {E : Type 0} (it : Installation) (from till : ℕ) (reply : List Share → List ℕ) (put : List ℕ) (left : RemainingRows)
      (answer : Result (Unit {0}) Refusal) → BeginsReply ledger old mid it from till reply put {E = E} (Ok (Ok left)) → OnlyAsks ledger mid new answer
      → OnlyAsks ledger old new answer
  then_asks it from till reply put left answer begins asks =
      asked_after ledger old mid new answer (asked ledger old mid tt (first_asks it from till reply put left begins)) asks

  pub begins_sized : {E F G : Type 0} (it : Installation) (from till size : ℕ) (text put : List ℕ) (left : RemainingRows) (sizes : Sizes)
      → BeginsReply ledger old mid it from till intervals_text [] {E = E} (Ok (Ok left)) → SizesRows ledger mid new left {E = F} (Ok (Ok sizes))
      → size ≡ body_size left sizes → put ≡ with_head size text
      → BeginsReply ledger old new it from till (with_rows text) put {E = G} (Ok (Ok left))
  begins_sized it from till size text put left sizes begins sized size_is write_is =
      let asks : OnlyAsks {T = Unit {0}} ledger mid new (Ok tt) =
      subst (λ (a : Result (Unit {0}) Refusal). OnlyAsks ledger mid new a) sized.sizes.0 sized.asks in
      record {
        answer = Ok tt;
        asks = then_asks it from till intervals_text [] left (Ok tt) begins asks;
        begins = (
          refl,
          begins.begins.1,
          λ past stands clean there.
              let facts : List Fact = facts_of past in
              let begun = begins.begins.2 past stands (asks.clean clean) there in
              let are = sized.sizes.1 past (begins.asks.stands past stands) clean in
              let bytes : size ≡ length (text_left facts left) = size_is ∙ body_is facts left sizes are in
              record {
                reports =
                    ap (λ t. t ++ text_left facts left) (write_is ∙ ap (λ n. with_head n text) bytes)
                    ∙ ap (λ t. with_head (length t) text ++ t) begun.reports;
                settled = begun.settled;
              },
        );
      }

  pub sized_not : {E F G : Type 0} (it : Installation) (from till : ℕ) (text put : List ℕ) (left : RemainingRows) (why : Refusal)
      → BeginsReply ledger old mid it from till intervals_text [] {E = E} (Ok (Ok left)) → SizesRows ledger mid new left {E = F} (Ok (Err why))
      → BeginsReply ledger old new it from till (with_rows text) put {E = G} (Ok (Err why))
  sized_not it from till text put left why begins sized =
      let kept = asked ledger old mid tt (first_asks it from till intervals_text [] left begins) in
      record {
        answer = sized.answer;
        asks = then_asks it from till intervals_text [] left sized.answer begins sized.asks;
        begins = (
          sized.sizes.0,
          λ past stands clean there.
              let facts : List Fact = facts_of past in
              outside (is_there (intervals_within facts left.meter (Between left.from left.till))) (failures_of ledger old) (failures_of ledger mid)
              (failures_of ledger new) sized.answer why (there_is facts it left.meter left.from left.till begins.begins.1 there) kept.failures sized.sizes.0
              (sized.sizes.1 past (begins.asks.stands past stands) clean),
        );
      }

  -- If memory runs out while interval rows (energies of quarter hours) are measured, then the
  -- function `begin_intervals` returns an error, which its contract `BeginsReply` allows.
  pub sizes_lacked : {E F : Type 0} (it : Installation) (from till : ℕ) (text put : List ℕ) (left : RemainingRows) (answer : Result (Unit {0}) Refusal)
      (result : Result (Result RemainingRows Refusal) F) → BeginsReply ledger old mid it from till intervals_text [] {E = E} (Ok (Ok left))
      → OnlyAsks ledger mid new answer → IsErr result → BeginsReply ledger old new it from till (with_rows text) put result
  sizes_lacked it from till text put left answer (Ok reported) begins asks is = cc is
  sizes_lacked it from till text put left answer (Err why) begins asks is =
      record { answer = answer; asks = then_asks it from till intervals_text [] left answer begins asks; begins = tt }

-- If the program refuses a query while a streamed response begins, then the starting function's
-- contract `BeginsReply` holds for any response and any written bytes.
module _ {B : Type 0} (ledger : B → Ledger) (old new : Office B) where
  pub refused_so : {E F : Type 0} (it : Installation) (from till : ℕ) (reply other : List Share → List ℕ) (put text : List ℕ) (why : Refusal)
      → BeginsReply ledger old new it from till reply put {E = E} (Ok (Err why)) → BeginsReply ledger old new it from till other text {E = F} (Ok (Err why))
  refused_so it from till reply other put text why begins = record { answer = begins.answer; asks = begins.asks; begins = begins.begins }

  pub lacked_so : {E F : Type 0} (it : Installation) (from till : ℕ) (reply other : List Share → List ℕ) (put text : List ℕ) (fault : E)
      (result : Result (Result RemainingRows Refusal) F) → BeginsReply ledger old new it from till reply put (Err fault) → IsErr result
      → BeginsReply ledger old new it from till other text result
  lacked_so it from till reply other put text fault (Ok reported) begins is = cc is
  lacked_so it from till reply other put text fault (Err why) begins is = record { answer = begins.answer; asks = begins.asks; begins = tt }

  -- If the head without Content-Length is written, then the streamed response with all quarter
  -- hours of the meter has started as the contract `BeginsReply` requires.
  pub with_text_head : {E F : Type 0} (it : Installation) (from till : ℕ) (text put : List ℕ) (left : RemainingRows)
      → BeginsReply ledger old new it from till intervals_text [] {E = E} (Ok (Ok left)) → put ≡ text ++ text_head
      → BeginsReply ledger old new it from till (with_all_rows text) put {E = F} (Ok (Ok left))
  with_text_head it from till text put left begins write_is = record {
    answer = begins.answer;
    asks = begins.asks;
    begins = (
      begins.begins.0,
      begins.begins.1,
      λ past stands clean there.
          let facts : List Fact = facts_of past in
          let begun = begins.begins.2 past stands clean there in
          record {
            reports =
                ap (λ t. t ++ text_left facts left) write_is ∙ append_assoc text text_head (text_left facts left)
                ∙ ap (λ t. text ++ (text_head ++ t)) begun.reports;
            settled = begun.settled;
          },
    );
  }

-- Suppose that the last rows (which were copied when the streamed response began) and the number of
-- all rows are written. Then the response is complete, as the contract `ReportsRest` requires.
rest_reported : (left : RemainingRows) (from between to : List ℕ) (count : ℕ) → between ≡ from ++ flat_map share_line left.last.items → count ≡ left.reported + length left.last.items
    → to ≡ between ++ end_line count → ReportsRest left from to
rest_reported left from between to count lines counted put = λ facts le.
    put ∙ ap (λ t. t ++ end_line count) lines ∙ append_assoc from (flat_map share_line left.last.items) (end_line count)
    ∙ ap (λ n. from ++ (flat_map share_line left.last.items ++ end_line n)) counted
    ∙ ap (λ rs. from ++ text_of left.reported (rs ++ left.last.items)) (sym (none_between facts left.meter left.from left.till le))

pub rest_on : {E : Type 0} (left : RemainingRows) (from between to : List ℕ) (count : ℕ) (result : Result (Unit {0}) E)
    → between ≡ from ++ flat_map share_line left.last.items → count ≡ left.reported + length left.last.items
    → OnOk result (to ≡ between ++ end_line count) → OnOk result (ReportsRest left from to)
rest_on left from between to count (Ok x) lines counted put = rest_reported left from between to count lines counted put
rest_on left from between to count (Err why) lines counted put = tt

-- Lemmas: records that are added between the chunks of a streamed response do not change it, if
-- they void (withdraw) no entry that the meter had at the beginning.

pub text_stays : SharesAddUp → TextStays
text_stays law further facts meter o left h there named settled void =
    let known : option_and_then (meter_of facts) left.meter ≡ Some (installation_of facts o) =
    ap (option_and_then (meter_of facts)) named ∙ ap (option_map (installation_of facts)) there in
    let same : rows_between (further ++ facts) left.meter left.from left.till ≡ rows_between facts left.meter left.from left.till =
    ap (λ m. rows_between (further ++ facts) m left.from left.till) named
    ∙ rows_stay law further facts meter o left.from left.till h there
    (λ lt. subst (λ (i : Option Installation). left.till ≤ last_quarter i) known (settled lt)) void
    ∙ ap (λ m. rows_between facts m left.from left.till) (sym named) in
    ap (λ rs. text_of left.reported (rs ++ left.last.items)) same

-- If new entries cannot change the rows of a streamed response that are still to be queried, this
-- is also true after the next chunk.
settled_on : (facts : List Fact) (left later : RemainingRows) (seconds : ℕ) → MovesOn left later seconds → IsSettled facts left → IsSettled facts later
settled_on facts left later seconds moves settled = λ lt.
    let last : ℕ = last_quarter (option_and_then (meter_of facts) left.meter) in
    let same : last_quarter (option_and_then (meter_of facts) later.meter) ≡ last = ap (λ m. last_quarter (option_and_then (meter_of facts) m)) moves.meter in
    let upto : left.till ≤ last =
    elim (cases_lt left.from left.till) [
      | inl low ↦ settled low
      | inr ge ↦ absurd (omega (arith, moves.none ge, lt))
    ] in
    omega (arith, upto, same, moves.till)

-- States the effect of some chunks of a streamed response. The written text and the text still to
-- be sent are together the same as before these chunks. New entries can't change rows that are
-- still to be queried.
record Goes (facts : List Fact) (meter : List ℕ) (left later : RemainingRows) (before after : List ℕ) : Type 0 where
  named : later.meter ≡ Some meter
  settled : IsSettled facts later
  reported : after ++ text_left facts later ≡ before ++ text_left facts left

goes : SharesAddUp → (facts : List Fact) (meter : List ℕ) (o : Opening) (left : RemainingRows) (text : List ℕ) (pieces : List Piece)
    → opening_of facts meter ≡ Some o → left.meter ≡ Some meter → IsSettled facts left → ArePieces facts meter o left text pieces
    → Goes facts meter left (left_after left pieces) text (text_after text pieces)
goes law facts meter o left text [] there named settled are = record { named = named; settled = settled; reported = refl }
goes law facts meter o left text (piece ∷ earlier) there named settled are =
    let before = goes law facts meter o left text earlier there named settled are.1 in
    let one = are.0 in
    let at : RemainingRows = left_after left earlier in
    let same : piece.later.meter ≡ Some meter = one.moves.meter ∙ before.named in
    let on : IsSettled facts piece.later = settled_on facts at piece.later one.seconds one.moves before.settled in
    let now : text_left (piece.further ++ facts) at ≡ text_left facts at =
    text_stays law piece.further facts meter o at one.lawful there before.named before.settled one.voids in
    let later : text_left (piece.further ++ facts) piece.later ≡ text_left facts piece.later =
    text_stays law piece.further facts meter o piece.later one.lawful there same on one.voids in
    record {
      named = same;
      settled = on;
      reported =
          ap (λ t. piece.text ++ t) (sym later) ∙ one.reports ∙ ap (λ t. text_after text earlier ++ t) now ∙ before.reported;
    }

pub chunks_form_response : SharesAddUp → PiecesAreWhole
chunks_form_response law facts meter o left text pieces there named settled are = (goes law facts meter o left text pieces there named settled are).reported
