-- Lemmas for a loop over the rows of `installations`: if the meters of the first rows were sealed
-- (digested) or checked against their seals, this is also true with the next row's meter.
use Rattle.std.proofs.Common.{◌≡◌, ℕ, ◌+◌, ◌<◌, Bool, List, [], ◌∷◌, ◌++◌, map, take, length, get_or, Some, refl, sym, ap, subst, ◌∙◌, flat_map, append_assoc, arith}
use Rattle.std.proofs.lemmas.List.{take_more, map-append}
use Rattle.std.proofs.lemmas.Option.{slice_get-get_or}
use Rattle.std.specs.List.{slice_get}
use Rattle.interval_core.specs.declared.zone.Zone.{Zone}
use Rattle.sqlite.specs.Order.{Row}
use Rattle.store_tables.specs.Content.{Content}
use Rattle.table_audit.proofs.Named.{append_none}
use Rattle.table_seals.specs.declared.seals.MeterSeal.{MeterSeal}
use Rattle.table_seals.specs.Checking.{CheckedMeter, MeterChecks, ReportsKept, AreReported, ReportsMeter, ReportsNames, unless_kept, differing}
use Rattle.table_seals.specs.Sealed.{Sealed, sealed_of}
use Rattle.table_seals.specs.Sealing.{SealsRow, AreSealed}

sealed_more : (zone : Zone) (content : Content) (rows : List Row) (seals : List MeterSeal) (row : Row) (seal : MeterSeal) → AreSealed zone content rows seals
    → SealsRow zone content row (Some seal) → AreSealed zone content (rows ++ row ∷ []) (seals ++ seal ∷ [])
sealed_more zone content [] [] row seal h one = (one, tt)
sealed_more zone content (first ∷ rows) (s ∷ seals) row seal h one = (h.0, sealed_more zone content rows seals row seal h.1 one)
sealed_more zone content [] (s ∷ seals) row seal h one = absurd h
sealed_more zone content (first ∷ rows) [] row seal h one = absurd h

pub next_sealed : (zone : Zone) (content : Content) (rows : List Row) (i : ℕ) (row : Row) (seals next : List MeterSeal) (seal : MeterSeal) → i < length rows
    → row ≡ get_or rows i row → next ≡ seals ++ seal ∷ [] → AreSealed zone content (take i rows) seals → SealsRow zone content row (Some seal)
    → AreSealed zone content (take (i + 1) rows) next
next_sealed zone content rows i row seals next seal lt is put before one =
    let grown : take i rows ++ row ∷ [] ≡ take (i + 1) rows = ap (λ (r : Row). take i rows ++ r ∷ []) is ∙ sym (take_more rows i row lt) in
    subst (λ (rs : List Row). AreSealed zone content rs next) grown
    (subst (λ (ss : List MeterSeal). AreSealed zone content (take i rows ++ row ∷ []) ss) (sym put) (sealed_more zone content (take i rows) seals row seal before one))

pub there_at : (rows : List Row) (i : ℕ) (row : Row) → i < length rows → row ≡ get_or rows i row → slice_get rows i ≡ Some row
there_at rows i row lt is = slice_get-get_or rows i row lt ∙ ap (λ (r : Row). let o : _ = Some r in o) (sym is)

-- Lemmas that add the check of one more meter against its seal (a digest of earlier entries) to the
-- results for the earlier meters.

names_and : (seals : List Sealed) (checked : List CheckedMeter) (seal : Sealed) (one : CheckedMeter) → length checked ≡ length seals
    → differing (seals ++ seal ∷ []) (checked ++ one ∷ []) ≡ differing seals checked ++ unless_kept one.kept seal.meter
names_and [] [] seal one same = append_none (unless_kept one.kept seal.meter)
names_and [] (k ∷ checked) seal one same = absurd (omega (arith, same))
names_and (s ∷ seals) [] seal one same = absurd (omega (arith, same))
names_and (s ∷ seals) (k ∷ checked) seal one same =
    ap (λ ns. unless_kept k.kept s.meter ++ ns) (names_and seals checked seal one (omega (arith, same)))
    ∙ sym (append_assoc (unless_kept k.kept s.meter) (differing seals checked) (unless_kept one.kept seal.meter))

reported_and : (zone : Zone) (installed : List Row) (content : Content) (seals : List Sealed) (checked : List CheckedMeter) (seal : Sealed) (one : CheckedMeter)
    → AreReported zone installed content seals checked → ReportsKept zone installed seal content one
    → AreReported zone installed content (seals ++ seal ∷ []) (checked ++ one ∷ [])
reported_and zone installed content [] [] seal one h reports = (reports, tt)
reported_and zone installed content (s ∷ seals) (k ∷ checked) seal one h reports = (h.0, reported_and zone installed content seals checked seal one h.1 reports)
reported_and zone installed content [] (k ∷ checked) seal one h reports = absurd h
reported_and zone installed content (s ∷ seals) [] seal one h reports = absurd h

as_many : (zone : Zone) (installed : List Row) (content : Content) (seals : List Sealed) (checked : List CheckedMeter)
    → AreReported zone installed content seals checked → length checked ≡ length seals
as_many zone installed content [] [] h = refl
as_many zone installed content (s ∷ seals) (k ∷ checked) h = omega (arith, as_many zone installed content seals checked h.1)
as_many zone installed content [] (k ∷ checked) h = absurd h
as_many zone installed content (s ∷ seals) [] h = absurd h

notes_and : (checked : List CheckedMeter) (one : CheckedMeter)
    → flat_map (λ (meter : CheckedMeter). meter.notes) (checked ++ one ∷ []) ≡ flat_map (λ (meter : CheckedMeter). meter.notes) checked ++ one.notes
notes_and [] one = append_none one.notes
notes_and (k ∷ checked) one =
    ap (λ ns. k.notes ++ ns) (notes_and checked one)
    ∙ sym (append_assoc k.notes (flat_map (λ (meter : CheckedMeter). meter.notes) checked) one.notes)

pub next_reported : (zone : Zone) (installed : List Row) (content : Content) (seals : List MeterSeal) (i : ℕ) (seal : MeterSeal) (old new : MeterChecks)
    → i < length seals → seal ≡ get_or seals i seal → ReportsNames zone installed (map sealed_of (take i seals)) content old
    → ReportsMeter zone installed (sealed_of seal) content old new → ReportsNames zone installed (map sealed_of (take (i + 1) seals)) content new
next_reported zone installed content seals i seal old new lt is before one =
    let earlier : List Sealed = map sealed_of (take i seals) in
    let grown : earlier ++ sealed_of seal ∷ [] ≡ map sealed_of (take (i + 1) seals) =
    sym (map-append sealed_of (take i seals) (seal ∷ [])) ∙ ap (λ (s : MeterSeal). map sealed_of (take i seals ++ s ∷ [])) is
    ∙ ap (map sealed_of) (sym (take_more seals i seal lt)) in
    subst (λ (ss : List Sealed). ReportsNames zone installed ss content new) grown (record {
      checked = before.checked ++ one.checked ∷ [];
      reported = reported_and zone installed content earlier before.checked (sealed_of seal) one.checked before.reported one.reported;
      names_are = one.appended.names ∙ ap (λ ns. ns ++ unless_kept one.checked.kept (sealed_of seal).meter) before.names_are
          ∙ sym (names_and earlier before.checked (sealed_of seal) one.checked (as_many zone installed content earlier before.checked before.reported));
      notes_are = one.appended.notes ∙ ap (λ ns. ns ++ one.checked.notes) before.notes_are ∙ sym (notes_and before.checked one.checked);
    })

pub none_reported : (zone : Zone) (installed : List Row) (content : Content) (checks : MeterChecks) → checks.names ≡ [] → checks.notes ≡ []
    → ReportsNames zone installed [] content checks
none_reported zone installed content checks names notes = record { checked = []; reported = tt; names_are = names; notes_are = notes }

-- If an index is less than the length of a list, then a lookup at this index returns the same row
-- for any default value.
pub not_this : (rows : List Row) (i : ℕ) (row x : Row) → i < length rows → row ≡ get_or rows i row → get_or rows i x ≡ x → row ≡ x
not_this rows i row x lt is at =
    let one : Some (get_or rows i row) ≡ Some (get_or rows i x) = sym (slice_get-get_or rows i row lt) ∙ slice_get-get_or rows i x lt in
    let same : get_or rows i row ≡ get_or rows i x = cc in
    is ∙ same ∙ at
