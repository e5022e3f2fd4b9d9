-- Proofs that the latest timestamps that queries find in the tables equal the latest timestamps of
-- the records that the tables encode.
use Rattle.std.proofs.Common.{◌≡◌, ℕ, List, map, Option, unwrap_or, refl, ◌∙◌}
use Rattle.office_events.specs.declared.facts.Fact.{Fact}
use Rattle.office_events.specs.declared.facts.HeldReading.{HeldReading}
use Rattle.office_books.specs.Facts.{voids_in, holds_in, polls_in, ended_in, replies_in}
use Rattle.store_tables.specs.Answer.{IsLast, every}
use Rattle.store_tables.specs.Content.{Content}
use Rattle.store_tables.specs.Entries.Trees.{entries, voids}
use Rattle.store_tables.specs.Entries.Rows.{entry_columns, voided_columns, IsSoundEntered, is_of}
use Rattle.store_tables.specs.Entries.Latest.{entry_moment, HasEntryMoment, void_moment, HasVoidMoment, IsTimelyVoid}
use Rattle.store_tables.specs.Polls.Trees.{polls, outcomes, holds, replies}
use Rattle.store_tables.specs.Polls.Rows.{poll_columns, start_of, HasStart, IsSoundStarted, outcome_columns, outcome_moment, HasOutcomeMoment, IsSoundOutcome, hold_columns, hold_moment, HasHoldMoment, IsSoundHeld, reply_columns, reply_moment, HasReplyMoment, IsSoundKept}
use Rattle.office_store.specs.Rows.{placed, entries_of, voided, held_row, started, outcome_row, kept}
use Rattle.office_store.specs.Tables.{AreOf}
use Rattle.std.proofs.lemmas.List.Sorted.{IsPermutation-sym}
use Rattle.office_store.specs.Finding.Latest.{latest_entered, latest_voided, latest_held, latest_started, latest_ended, latest_replied, HasReadableMoments}
use Rattle.office_store.proofs.FindingLemmas.Greatest.{permuted, last_greatest, greatest_map, greatest_placed}
use Rattle.office_store.proofs.FindingLemmas.Moments.{by_meter, table_latest}
use Rattle.office_store.proofs.FindingLemmas.Looking.{IsReported}

-- True if a query's optional timestamp equals the latest timestamp of the store's records, as the
-- function `latest` computes it. None, the answer for an empty table, counts as 0.
abbrev pub IsMoment : (List Fact → ℕ) → List Fact → Option ℕ → Type 0
IsMoment latest facts found = unwrap_or found 0 ≡ latest facts

pub entries_tell : (zone : List ℕ) (facts : List Fact) (content : Content) → AreOf zone facts content
    → IsReported facts content entries entry_columns IsSoundEntered (IsLast every HasEntryMoment entry_moment) (IsMoment latest_entered) HasReadableMoments
entries_tell zone facts content are = record {
  rows = are.entries.rows;
  there = are.entries.there;
  reports = λ found last. last_greatest entry_moment are.entries.rows found last ∙ table_latest facts are.entries.rows are.lawful are.entries.each;
  sound = λ is. by_meter IsSoundEntered are.entries.rows (λ meter. permuted IsSoundEntered (entries_of facts meter) _ (IsPermutation-sym _ _ (are.entries.each meter)) (is.entries meter));
}

pub voids_tell : (zone : List ℕ) (facts : List Fact) (content : Content) → AreOf zone facts content
    → IsReported facts content voids voided_columns IsTimelyVoid (IsLast every HasVoidMoment void_moment) (IsMoment latest_voided) HasReadableMoments
voids_tell zone facts content are = record {
  rows = map voided (voids_in facts);
  there = are.voids;
  reports = λ found last. last_greatest void_moment (map voided (voids_in facts)) found last ∙ greatest_map voided void_moment (voids_in facts);
  sound = λ is. is.voids;
}

pub holds_tell : (zone : List ℕ) (facts : List Fact) (content : Content) → AreOf zone facts content
    → IsReported facts content holds hold_columns IsSoundHeld (IsLast every HasHoldMoment hold_moment) (IsMoment latest_held) HasReadableMoments
holds_tell zone facts content are = record {
  rows = placed held_row (holds_in facts);
  there = are.holds;
  reports = λ found last. last_greatest hold_moment (placed held_row (holds_in facts)) found last ∙ greatest_placed held_row hold_moment (λ (h : HeldReading). h.at) (λ place h. refl) (holds_in facts);
  sound = λ is. is.holds;
}

pub polls_tell : (zone : List ℕ) (facts : List Fact) (content : Content) → AreOf zone facts content
    → IsReported facts content polls poll_columns IsSoundStarted (IsLast every HasStart start_of) (IsMoment latest_started) HasReadableMoments
polls_tell zone facts content are = record {
  rows = map started (polls_in facts);
  there = are.polls;
  reports = λ found last. last_greatest start_of (map started (polls_in facts)) found last ∙ greatest_map started start_of (polls_in facts);
  sound = λ is. is.polls;
}

pub outcomes_tell : (zone : List ℕ) (facts : List Fact) (content : Content) → AreOf zone facts content
    → IsReported facts content outcomes outcome_columns IsSoundOutcome (IsLast every HasOutcomeMoment outcome_moment) (IsMoment latest_ended) HasReadableMoments
outcomes_tell zone facts content are = record {
  rows = map outcome_row (ended_in facts);
  there = are.outcomes;
  reports = λ found last. last_greatest outcome_moment (map outcome_row (ended_in facts)) found last ∙ greatest_map outcome_row outcome_moment (ended_in facts);
  sound = λ is. is.outcomes;
}

pub replies_tell : (zone : List ℕ) (facts : List Fact) (content : Content) → AreOf zone facts content
    → IsReported facts content replies reply_columns IsSoundKept (IsLast every HasReplyMoment reply_moment) (IsMoment latest_replied) HasReadableMoments
replies_tell zone facts content are = record {
  rows = map kept (replies_in facts);
  there = are.replies;
  reports = λ found last. last_greatest reply_moment (map kept (replies_in facts)) found last ∙ greatest_map kept reply_moment (replies_in facts);
  sound = λ is. is.replies;
}
