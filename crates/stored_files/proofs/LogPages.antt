-- Lemmas that compare the pages of a database file with the pages after replaying a write-ahead
-- log.
use Rattle.std.proofs.Common.{◌≡◌, ◌≢◌, ℕ, zero, suc, ◌+◌, ◌-◌, ◌*◌, ◌/◌, ◌≤◌, ◌<◌, List, [], length, Option, Some, None, sym, refl, ◌∙◌, ap, subst, inl, inr, arith, add-one, eq-eqb, le_antisymm, le_refl}
use Rattle.std.proofs.lemmas.Bool.{cond-true, cond-false, ne_eqb, leb-true, le-leb, and_parts, and_from}
use Rattle.std.proofs.lemmas.Option.{none-some}
use Rattle.std.proofs.Math.Option.{some-injective}
use Rattle.sqlite_wal.specs.Format.{commit_size, content, page_number}
use Rattle.sqlite_wal.specs.Recovery.{frame, file_page, page_after, page_count, pages_after}
use Rattle.sqlite_wal.proofs.AppendLemmas.{page_from_pages}
use Rattle.stored_files.specs.Logs.Damage.{KeepsPages}

module _ (page_size : ℕ) (log db : List ℕ) (k : ℕ) where
  -- After `k` frames of a write-ahead log are replayed, each page with a number from 1 to the
  -- database's page count has a content.
  pub page_there : (n : ℕ) → 1 ≤ n → n ≤ page_count page_size log db k
      → pages_after page_size log db k n ≡ Some (page_after page_size log db n k)
  unfolding pages_after
  page_there n low high = cond-true _ _ _ (and_from _ _ (le-leb 1 n low) (le-leb n _ high))

-- Two optional page contents are equal if, whenever one of them exists, the other exists and has
-- the same bytes.
same_there : (o p : Option (List ℕ)) → ((x : List ℕ) → o ≡ Some x → p ≡ Some x) → ((x : List ℕ) → p ≡ Some x → o ≡ Some x) → o ≡ p
same_there None None left right = refl
same_there None (Some y) left right = right y refl
same_there (Some x) p left right = sym (left x refl)

module _ (page_size : ℕ) (log db : List ℕ) (k : ℕ) where
  -- If the database file has the page count and the page contents that replaying the write-ahead
  -- log would give, then replaying it changes no page.
  pub keeps_from : page_count page_size log db k ≡ length db / page_size
      → ((i : ℕ) → i < length db / page_size → page_after page_size log db (i + 1) k ≡ file_page page_size db (i + 1))
      → KeepsPages page_size log db k
  keeps_from count each n =
      same_there _ _
      (λ x there.
      let it = page_from_pages page_size log db k n x there in
      let here : n - 1 + 1 ≡ n = omega (arith, it.1) in
      let same = subst (λ m. page_after page_size log db m k ≡ file_page page_size db m) here (each (n - 1) (omega (arith, it.1, it.2, count))) in
      page_there page_size [] db 0 n it.1 (omega (arith, it.2, count)) ∙ ap Some (sym same ∙ it.0))
      (λ x there.
      let it = page_from_pages page_size [] db 0 n x there in
      let here : n - 1 + 1 ≡ n = omega (arith, it.1) in
      let same = subst (λ m. page_after page_size log db m k ≡ file_page page_size db m) here (each (n - 1) (omega (arith, it.1, it.2))) in
      page_there page_size log db k n it.1 (omega (arith, it.2, count)) ∙ ap Some (same ∙ it.0))

  -- If replaying the write-ahead log leaves the pages of the database file unchanged, then each
  -- page after the replay equals the page in the file.
  pub kept_page : KeepsPages page_size log db k → (n : ℕ) → 1 ≤ n → n ≤ page_count page_size log db k
      → page_after page_size log db n k ≡ file_page page_size db n
  kept_page keeps n low high =
      sym (page_from_pages page_size [] db 0 n _ (sym (keeps n) ∙ page_there page_size log db k n low high)).0

  kept_low : KeepsPages page_size log db k → (n : ℕ) → n ≤ page_count page_size log db k → n ≤ length db / page_size
  kept_low keeps zero high = omega arith
  kept_low keeps (suc i) high =
      (page_from_pages page_size [] db 0 (suc i) _ (sym (keeps (suc i)) ∙ page_there page_size log db k (suc i) (omega arith) high)).2

  kept_high : KeepsPages page_size log db k → (n : ℕ) → n ≤ length db / page_size → n ≤ page_count page_size log db k
  kept_high keeps zero high = omega arith
  kept_high keeps (suc i) high =
      (page_from_pages page_size log db k (suc i) _ (keeps (suc i) ∙ page_there page_size [] db 0 (suc i) (omega arith) high)).2

  pub kept_count : KeepsPages page_size log db k → page_count page_size log db k ≡ length db / page_size
  kept_count keeps =
      le_antisymm
      (kept_low keeps (page_count page_size log db k) (le_refl _))
      (kept_high keeps (length db / page_size) (le_refl _))

-- Replaying no frames of a write-ahead log leaves the pages of the database file unchanged.
pub keeps_none : (page_size : ℕ) (log db : List ℕ) → KeepsPages page_size log db 0
unfolding pages_after
keeps_none page_size log db n = refl

-- If at least one frame of a write-ahead log is replayed, then the database's page count is the
-- commit size in the last replayed frame.
pub count_behind : (page_size : ℕ) (log db : List ℕ) (k : ℕ) → 0 < k
    → page_count page_size log db k ≡ commit_size (frame page_size log (k - 1))
count_behind page_size log db zero some = absurd (omega arith)
count_behind page_size log db (suc j) some =
    let last : suc j - 1 ≡ j = omega arith in
    ap (λ i. commit_size (frame page_size log i)) (sym last)

-- If a replayed frame of a write-ahead log has page number `n`, then the frame replaces page `n`.
-- Other frames leave page `n` unchanged.
pub page_here : (page_size : ℕ) (log db : List ℕ) (n i : ℕ) → page_number (frame page_size log i) ≡ n
    → page_after page_size log db n (i + 1) ≡ content (frame page_size log i)
page_here page_size log db n i here =
    ap (page_after page_size log db n) (add-one i) ∙ cond-true _ _ _ (eq-eqb _ _ here)

pub page_elsewhere : (page_size : ℕ) (log db : List ℕ) (n i : ℕ) → page_number (frame page_size log i) ≢ n
    → page_after page_size log db n (i + 1) ≡ page_after page_size log db n i
page_elsewhere page_size log db n i other =
    ap (page_after page_size log db n) (add-one i) ∙ cond-false _ _ _ (ne_eqb _ _ other)
