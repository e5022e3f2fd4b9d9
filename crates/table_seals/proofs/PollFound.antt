-- Lemmas on the seal (digest) of all polls in a file. It digests the polls with consecutive numbers
-- from 1 up to the greatest number. Also lemmas on the comparison of the polls with an earlier
-- seal.
use Rattle.std.proofs.Common.{◌≡◌, ◌↔◌, ℕ, ◌≤◌, Bool, false, List, [], Option, Some, None, Result, Ok, Err, unwrap_or, IfOk, IfSome, refl, sym, ap, subst, ◌∙◌, arith}
use Rattle.sha2.specs.Sha256.{sha256}
use Rattle.store_tables.specs.Content.{Content}
use Rattle.store_tables.specs.Limits.{greatest_place}
use Rattle.store_tables.specs.declared.faults.RowFault.{RowFault}
use Rattle.table_seals.specs.declared.seals.PollSeal.{PollSeal}
use Rattle.table_seals.specs.PollReading.{ReadPoll}
use Rattle.table_seals.specs.PollSealing.{ReadsRuns, ReadsUpTo, ArePollsSealed, SealsPolls, KeepsPolls, ReportsPolls, AreDigested, AreAsSealed, DigestsPolls}
use Rattle.table_seals.specs.Sealed.{SealedPolls}
use Rattle.sqlite.specs.Store.{Ghosts}
use Rattle.sqlite.specs.Held.{Held}
use Rattle.store_tables.specs.Columns.{first_in}
use Rattle.table_audit.specs.Looking.{Finds}
use Rattle.table_seals.proofs.PollNumbers.{AreNumbered, numbered, all_then}

-- Lemmas: reading all polls up to the greatest poll number in the tables gives the required result
-- (`ReadsUpTo`). This holds whether the query for this number succeeded or failed.

pub reads_runs : (found : Result (Option ℕ) RowFault) (o : Option ℕ) (greatest : ℕ) (content : Content) (polls : Option (List ReadPoll))
    → found ≡ Ok o → greatest ≡ unwrap_or o 0 → ReadsRuns greatest content polls → ReadsUpTo found content polls
reads_runs found o greatest content polls is n runs =
    subst (λ (r : Result (Option ℕ) RowFault). ReadsUpTo r content polls) (sym is)
    (subst (λ (k : ℕ). ReadsRuns k content polls) n runs)

pub reads_fault : (found : Result (Option ℕ) RowFault) (e : RowFault) (content : Content) → found ≡ Err e → ReadsUpTo found content None
reads_fault found e content is = subst (λ (r : Result (Option ℕ) RowFault). ReadsUpTo r content None) (sym is) refl

-- Lemmas that the digest of all polls in the tables is the seal of these polls.

-- If all polls were read without an error, then they have consecutive numbers from 1.
read_numbered : (r : Result (Option ℕ) RowFault) (content : Content) (polls : List ReadPoll) → ReadsUpTo r content (Some polls) → AreNumbered 1 polls
read_numbered (Ok last) content polls h = numbered h.runs polls h.read
read_numbered (Err e) content polls h = absurd (cc)

sealed_all : (polls : Option (List ReadPoll)) (found : Option PollSeal) → ((ps : List ReadPoll) → polls ≡ Some ps → AreNumbered 1 ps)
    → IfSome found (λ seal. seal.count ≤ greatest_place) → AreDigested greatest_place [] polls found → ArePollsSealed polls found
sealed_all None None h few digested = tt
sealed_all None (Some seal) h few digested = absurd digested
sealed_all (Some polls) None h few digested = absurd digested
sealed_all (Some polls) (Some seal) h few digested =
    let count = digested.0 in
    record {
      count = digested.0;
      digest_is =
          digested.1 ∙ ap sha256 (all_then 1 greatest_place polls (h polls refl) (omega (arith, few, count)));
      pending_are = digested.2;
    }

pub seals_all : (content : Content) (found : Option PollSeal) → IfSome found (λ seal. seal.count ≤ greatest_place)
    → DigestsPolls greatest_place [] content found → SealsPolls content found
seals_all content found few h = record {
  polls = h.polls;
  reads = h.reads;
  are_sealed =
      sealed_all h.polls found
      (λ ps is. read_numbered (first_in 1 greatest_place h.reads.rows) content ps (subst (λ (o : Option (List ReadPoll)). ReadsUpTo (first_in 1 greatest_place h.reads.rows) content o) is h.reads.reads))
      few h.digested;
}

-- Lemmas on comparing the polls in the tables with an earlier seal (digest).

kept_if : (polls : Option (List ReadPoll)) (found : Option PollSeal) (sealed : SealedPolls) → AreDigested sealed.count sealed.pending polls found
    → AreAsSealed found sealed ↔ KeepsPolls polls sealed
kept_if None None sealed h = (λ x. x, λ x. x)
kept_if None (Some seal) sealed h = absurd h
kept_if (Some polls) None sealed h = absurd h
kept_if (Some polls) (Some seal) sealed h =
    let count = h.0 in (
      λ is. let few = is.0 in record { enough = omega (arith, few, count); same = sym h.1 ∙ is.1 },
      λ kept. let enough = kept.enough in (omega (arith, enough, count), h.1 ∙ kept.same),
    )

pub reports_kept : (content : Content) (found : Option PollSeal) (sealed : SealedPolls) (differ : Bool)
    → (differ ≡ false) ↔ AreAsSealed found sealed → DigestsPolls sealed.count sealed.pending content found → ReportsPolls sealed content differ
reports_kept content found sealed differ reported h =
    let kept = kept_if h.polls found sealed h.digested in
    record {
      polls = h.polls;
      reads = h.reads;
      reported = (λ is. kept.0 (reported.0 is), λ keeps. reported.1 (kept.1 keeps));
    }

-- If a function digests all polls in the tables with all their present outcomes, then its result is
-- the seal of the polls.

pub seals_found : {S : Type 0} (g : Ghosts S) (old new : Held S) (r : Result (Option PollSeal) RowFault)
    → IfOk r (λ found. IfSome found (λ seal. seal.count ≤ greatest_place)) → Finds g old new r (DigestsPolls greatest_place [])
    → Finds g old new r SealsPolls
seals_found g old new (Ok found) few h = record {
  answer = λ content holds clean. seals_all content found few (h.answer content holds clean);
  fault = λ content holds clean. tt;
  looks = h.looks;
}
seals_found g old new (Err e) few h = record {
  answer = λ content holds clean. tt;
  fault = h.fault;
  looks = h.looks;
}
