-- Lemmas on reading and digesting consecutive runs of `RUN` polls each.
use Rattle.std.proofs.Common.{◌≡◌, ℕ, suc, ◌+◌, ◌*◌, ◌<◌, ◌≤◌, ◌/◌, ◌%◌, min, List, [], ◌∷◌, ◌++◌, length, Option, Some, None, refl, sym, ap, subst, ◌∙◌, arith}
use Rattle.std.specs.List.{fold}
use Rattle.std.proofs.lemmas.Grind.{flat_map-append, div_ceil_times}
use Rattle.std.proofs.lemmas.List.{length-append}
use Rattle.sha2.specs.declared.Sha256.{Sha256}
use Rattle.sha2.specs.Hashers.{Holds256}
use Rattle.sha2.specs.Sha256.{sha256}
use Rattle.store_tables.specs.Content.{Content}
use Rattle.table_audit.specs.declared.poll_rows.RunRows.{RunRows}
use Rattle.table_audit.specs.declared.poll_rows.TheConstants.{RUN}
use Rattle.table_audit.specs.PollShowing.{AreRowsOfRun}
use Rattle.table_audit.specs.Polls.{AreRuns}
use Rattle.table_seals.specs.PollReading.{ReadPoll, polls_in, after, with_run, polls_of}
use Rattle.table_seals.specs.PollSealing.{ReadsRuns, LooksAtRun, DigestsRuns}
use Rattle.table_seals.specs.PollTexts.{text_then, polls_text_then, pending_of, pending_among}
use Rattle.table_seals.specs.declared.seals.PollSeal.{PollSeal}

runs_more : (content : Content) (run : ℕ) (xs : List RunRows) (x : RunRows) → AreRuns content run xs → AreRowsOfRun (run + length xs) content x
    → AreRuns content run (xs ++ x ∷ [])
runs_more content run [] x theirs one =
    let there : run + length (let none : List RunRows = [] in none) ≡ run = omega arith in
    (subst (λ (n : ℕ). AreRowsOfRun n content x) there one, tt)
runs_more content run (y ∷ ys) x theirs one =
    let there : run + length (y ∷ ys) ≡ suc run + length ys = omega arith in
    (theirs.0, runs_more content (suc run) ys x theirs.1 (subst (λ (n : ℕ). AreRowsOfRun n content x) there one))

fold_more : (o : Option (List ReadPoll)) (xs : List RunRows) (x : RunRows) → fold with_run o (xs ++ x ∷ []) ≡ with_run (fold with_run o xs) x
fold_more o [] x = refl
fold_more o (y ∷ ys) x = fold_more (with_run o y) ys x

-- The state of a loop after the first `n` runs of `RUN` polls. The SHA-256 hasher has the text that
-- the polls of these runs had when they were sealed (digested).
pub record RunsSoFar (last : ℕ) (hidden : List ℕ) (n next : ℕ) (hasher : Sha256) (pending : List ℕ) (content : Content) : Type 0 where
  pub runs : List RunRows
  pub long : length runs ≡ n
  pub theirs : AreRuns content 0 runs
  pub polls : List ReadPoll
  pub read : polls_of runs ≡ Some polls
  pub next_is : next ≡ length polls + 1
  pub text : Holds256 hasher (polls_text_then last hidden polls)
  pub pending_are : pending ≡ pending_among polls

pub no_runs_yet : (last : ℕ) (hidden : List ℕ) (hasher : Sha256) (pending : List ℕ) (content : Content) → Holds256 hasher [] → pending ≡ []
    → RunsSoFar last hidden 0 1 hasher pending content
no_runs_yet last hidden hasher pending content holds none = record {
  runs = [];
  long = refl;
  theirs = tt;
  polls = [];
  read = refl;
  next_is = refl;
  text = holds;
  pending_are = none;
}

module _ (last : ℕ) (hidden : List ℕ) (n first : ℕ) (old new : Sha256) (old_pending new_pending : List ℕ) (content : Content)
    (before : RunsSoFar last hidden n first old old_pending content) where
  there : 0 + length before.runs ≡ n
  there = let long = before.long in omega (arith, long)

  looked : (rows : RunRows) → AreRowsOfRun n content rows → AreRuns content 0 (before.runs ++ rows ∷ [])
  looked rows theirs = runs_more content 0 before.runs rows before.theirs (subst (λ (k : ℕ). AreRowsOfRun k content rows) (sym there) theirs)

  -- After one more run of `RUN` polls is read, the polls are those of the earlier runs followed by
  -- those of the new run.
  read_more : (rows : RunRows) → polls_of (before.runs ++ rows ∷ []) ≡ after before.polls (polls_in first rows.polls.items rows.outcomes.items)
  read_more rows =
      fold_more (Some []) before.runs rows ∙ ap (λ (o : Option (List ReadPoll)). with_run o rows) before.read
      ∙ ap (λ (k : ℕ). after before.polls (polls_in k rows.polls.items rows.outcomes.items)) (sym before.next_is)

  pub one_unread : (greatest : ℕ) → LooksAtRun n last hidden first old new old_pending new_pending content None → ReadsRuns greatest content None
  one_unread greatest one = record {
    runs = before.runs ++ one.rows ∷ [];
    theirs = looked one.rows one.theirs;
    read = read_more one.rows ∙ ap (λ (o : Option (List ReadPoll)). after before.polls o) one.adds;
    all = tt;
  }

  pub one_more : (next : ℕ) → LooksAtRun n last hidden first old new old_pending new_pending content (Some next)
      → RunsSoFar last hidden (n + 1) next new new_pending content
  one_more next one =
      let more : List ReadPoll = one.adds.polls in
      record {
        runs = before.runs ++ one.rows ∷ [];
        long = let more = length-append before.runs (one.rows ∷ []) in let long = before.long in omega (arith, more, long);
        theirs = looked one.rows one.theirs;
        polls = before.polls ++ more;
        read = read_more one.rows ∙ ap (λ (o : Option (List ReadPoll)). after before.polls o) one.adds.read;
        next_is =
            let long = length-append before.polls more in
            let was = before.next_is in
            let is = one.adds.next_is in
            omega (arith, long, was, is);
        text =
            subst (λ (t : List ℕ). Holds256 new t) (sym (flat_map-append (text_then last hidden) before.polls more))
            (one.adds.text (polls_text_then last hidden before.polls) before.text);
        pending_are =
            one.adds.pending ∙ ap (λ (t : List ℕ). t ++ pending_among more) before.pending_are ∙ sym (flat_map-append pending_of before.polls more);
      }

-- If the polls of one run (`RUN` consecutive numbers) can't be parsed from their rows, then
-- digesting all runs returns None.
pub run_unread : (last : ℕ) (hidden : List ℕ) (n first : ℕ) (old new : Sha256) (old_pending new_pending : List ℕ) (content : Content) (greatest : ℕ)
    (found : Option ℕ) → found ≡ None → RunsSoFar last hidden n first old old_pending content
    → LooksAtRun n last hidden first old new old_pending new_pending content found → DigestsRuns greatest last hidden content None
run_unread last hidden n first old new old_pending new_pending content greatest found is before one = record {
  polls = None;
  reads =
      one_unread last hidden n first old new old_pending new_pending content before greatest
      (subst (λ (o : Option ℕ). LooksAtRun n last hidden first old new old_pending new_pending content o) is one);
  digested = tt;
}

pub run_added : (last : ℕ) (hidden : List ℕ) (n first : ℕ) (old new : Sha256) (old_pending new_pending : List ℕ) (content : Content) (next : ℕ)
    (found : Option ℕ) → found ≡ Some next → RunsSoFar last hidden n first old old_pending content
    → LooksAtRun n last hidden first old new old_pending new_pending content found → RunsSoFar last hidden (n + 1) next new new_pending content
run_added last hidden n first old new old_pending new_pending content next found is before one =
    one_more last hidden n first old new old_pending new_pending content before next
    (subst (λ (o : Option ℕ). LooksAtRun n last hidden first old new old_pending new_pending content o) is one)

-- Lemmas on reading all runs of `RUN` consecutive polls, up to the last poll.

pub all_digested : (greatest last : ℕ) (hidden : List ℕ) (n next : ℕ) (hasher : Sha256) (pending : List ℕ) (content : Content) (found : PollSeal)
    → greatest ≤ n * RUN → found.count + 1 ≡ next → ((m : List ℕ) → Holds256 hasher m → found.digest ≡ sha256 m) → found.pending.items ≡ pending
    → RunsSoFar last hidden n next hasher pending content → DigestsRuns greatest last hidden content (Some found)
all_digested greatest last hidden n next hasher pending content found reach count digest same before = record {
  polls = Some before.polls;
  reads = record {
    runs = before.runs;
    theirs = before.theirs;
    read = before.read;
    all = let long = before.long in subst (λ (k : ℕ). greatest ≤ k * RUN) (sym long) reach;
  };
  digested = (
    let is = before.next_is in omega (arith, count, is),
    digest (polls_text_then last hidden before.polls) before.text,
    same ∙ before.pending_are,
  );
}

pub runs_reach : (last runs : ℕ) → runs ≡ last / RUN + min 1 (last % RUN) → last ≤ runs * RUN
runs_reach last runs is = let times = div_ceil_times last RUN (omega arith) in subst (λ (n : ℕ). last ≤ n * RUN) (sym is) times.0

pub runs_few : (last runs : ℕ) → runs ≡ last / RUN + min 1 (last % RUN) → runs * RUN ≤ last + RUN
runs_few last runs is =
    let times = div_ceil_times last RUN (omega arith) in
    let few : runs * RUN < last + RUN = subst (λ (n : ℕ). n * RUN < last + RUN) (sym is) times.1 in omega (arith, few)
