-- Lemmas on the check that each database file continues the meters of the files before it: its
-- printed lines, and the limit of a meter's total energy over all files.
use Rattle.std.proofs.Common.{◌≡◌, ℕ, ◌+◌, ◌-◌, ◌<◌, ◌≤◌, ◌==◌, Bool, true, false, not, ◌&&◌, if◌then◌else◌, List, [], ◌∷◌, ◌++◌, map, take, drop, length, get_or, Option, Some, None, Vec, refl, sym, ap, ◌∙◌, append_assoc, eq-eqb}
use Rattle.std.specs.Prelude.{string_bytes, bytes_eq}
use Rattle.std.specs.List.{flat_map}
use Rattle.std.specs.Option.{option_map, option_map_or, option_to_list}
use Rattle.std.specs.Ordering.{int_eq}
use Rattle.std.proofs.lemmas.Bool.{eqb-true, not-false}
use Rattle.std.proofs.lemmas.Bool.Decides.{Decides-int_eq}
use Rattle.std.proofs.lemmas.List.{map-append, drop_more, drop_all}
use Rattle.std.proofs.lemmas.Slice.Eq.{bytes_eq-Decides}
use Rattle.energy_core.specs.declared.entries.Last.{Last}
use Rattle.table_seals.specs.declared.filed.FiledMeter.{FiledMeter}
use Rattle.table_seals.specs.declared.join_faults.JoinFault.{JoinFault}
use Rattle.table_seals.specs.declared.join_faults.JoinFault.TheVariants.{Closed, Register, Range, Ceiling, Opening, Energy}
use Rattle.table_seals.specs.Joins.{Join, Known, Differs, is_same, is_within, left_after, stay_within, fault_between, joins_of, joins_between, missing_of, zone_of}
use Rattle.table_seals.specs.JoinLaws.{MeterGoesOn, JoinedMetersGoOn}
use Rattle.table_audit.specs.declared.differences.TheConstants.{MOST}
use Rattle.table_seals.specs.JoinTexts.{all_lines, join_line, joined_text, lines_of, more_lines, text_in}

-- Lemmas that the check that each database file continues the meters of the files before it appends
-- the printed lines of all differences, in order.

pub lines_of_each : {X : Type 0} (f : X → List Join) (xs : List X) → flat_map (λ x. map join_line (f x)) xs ≡ map join_line (flat_map f xs)
lines_of_each f [] = refl
lines_of_each f (x ∷ xs) =
    ap (λ ls. map join_line (f x) ++ ls) (lines_of_each f xs) ∙ sym (map-append join_line (f x) (flat_map f xs))

-- Appending the printed lines of three lists of differences between files, one after another, has
-- the same result as appending the printed lines of the concatenated list.
pub all_reported : (old one two three : List (List ℕ)) (a b c : List Join) → one ≡ old ++ map join_line a → two ≡ one ++ map join_line b
    → three ≡ two ++ map join_line c → three ≡ old ++ map join_line (a ++ b ++ c)
all_reported old one two three a b c first second third =
    third ∙ ap (λ ls. ls ++ map join_line c) (second ∙ ap (λ ls. ls ++ map join_line b) first)
    ∙ ap (λ ls. ls ++ map join_line c) (append_assoc old (map join_line a) (map join_line b) ∙ ap (λ ls. old ++ ls) (sym (map-append join_line a b)))
    ∙ append_assoc old (map join_line (a ++ b)) (map join_line c)
    ∙ ap (λ ls. old ++ ls) (sym (map-append join_line (a ++ b) c))

pub joins_reported : (known next : Known) (meters news latest : List FiledMeter) (old one two three : List (List ℕ)) → meters ≡ known.meters
    → news ≡ next.meters → latest ≡ take known.latest known.meters → one ≡ old ++ lines_of (zone_of known next)
    → two ≡ one ++ flat_map (λ new. lines_of (joins_of meters new)) news → three ≡ two ++ flat_map (λ o. lines_of (missing_of next o)) latest
    → three ≡ old ++ lines_of (joins_between known next)
joins_reported known next meters news latest old one two three meters_are news_are latest_are first second third =
    all_reported old one two three (zone_of known next) (flat_map (joins_of known.meters) next.meters)
    (flat_map (missing_of next) (take known.latest known.meters)) first
    (second ∙ ap (λ (ms : List FiledMeter). one ++ flat_map (λ new. lines_of (joins_of ms new)) news) meters_are
    ∙ ap (λ (ns : List FiledMeter). one ++ flat_map (λ new. lines_of (joins_of known.meters new)) ns) news_are
    ∙ ap (λ ls. one ++ ls) (lines_of_each (joins_of known.meters) next.meters))
    (third ∙ ap (λ (ms : List FiledMeter). two ++ flat_map (λ o. lines_of (missing_of next o)) ms) latest_are
    ∙ ap (λ ls. two ++ ls) (lines_of_each (missing_of next) (take known.latest known.meters)))

-- The printed text of the check that each database file continues the meters of the files before
-- it. The text consists of the first lines, the number of omitted lines and the last line, in this
-- order.
pub lines_put : {Z : Type 0} (lines shown : List (Vec ℕ Z)) (old one two three : List ℕ) (more : ℕ) → shown ≡ take MOST lines
    → more ≡ length lines - MOST → one ≡ old ++ flat_map text_in shown → two ≡ one ++ more_lines more
    → three ≡ two ++ all_lines (length lines) → three ≡ old ++ joined_text lines
lines_put {Z} lines shown old one two three more shown_are more_is first second third =
    let f : List ℕ = flat_map text_in (take MOST lines) in
    let m : List ℕ = more_lines (length lines - MOST) in
    let a : List ℕ = all_lines (length lines) in
    let put : one ≡ old ++ f = first ∙ ap (λ (ls : List (Vec ℕ Z)). old ++ flat_map text_in ls) shown_are in
    let both : two ≡ old ++ f ++ m = second ∙ ap (λ n. one ++ more_lines n) more_is ∙ ap (λ t. t ++ m) put in
    third ∙ ap (λ t. t ++ a) (both ∙ append_assoc old f m) ∙ append_assoc old (f ++ m) a

-- Lemmas on checking, one meter after another, whether the total energy of a meter in several files
-- is within the limit of one meter's energy.

abbrev stays_by : (name : List ℕ) → List FiledMeter → Option ℕ → Bool
stays_by name meters left = option_map_or (λ l. stay_within l name meters) left false

opened_at : (most : ℕ) (name : List ℕ) (meters : List FiledMeter) (i : ℕ) (m : FiledMeter) → i < length meters → m ≡ get_or meters i m
    → stay_within most name (drop i meters) ≡ stays_by name (drop (i + 1) meters) (left_after most name m)
opened_at most name meters i m lt is =
    ap (stay_within most name) (drop_more meters i m lt ∙ ap (λ x. x ∷ drop (i + 1) meters) (sym is))

pub goes_within : (left next most : ℕ) (name : List ℕ) (meters : List FiledMeter) (i : ℕ) (m : FiledMeter) → i < length meters
    → m ≡ get_or meters i m → left_after left name m ≡ Some next → stay_within left name (drop i meters) ≡ stay_within most name meters
    → stay_within next name (drop (i + 1) meters) ≡ stay_within most name meters
goes_within left next most name meters i m lt is more so_far =
    sym (ap (stays_by name (drop (i + 1) meters)) more) ∙ sym (opened_at left name meters i m lt is) ∙ so_far

pub goes_past : (left most : ℕ) (name : List ℕ) (meters : List FiledMeter) (i : ℕ) (m : FiledMeter) → i < length meters
    → m ≡ get_or meters i m → left_after left name m ≡ None → stay_within left name (drop i meters) ≡ stay_within most name meters
    → false ≡ stay_within most name meters
goes_past left most name meters i m lt is more so_far =
    sym (ap (stays_by name (drop (i + 1) meters)) more) ∙ sym (opened_at left name meters i m lt is) ∙ so_far

pub goes_to_end : (left most : ℕ) (name : List ℕ) (meters : List FiledMeter) (i : ℕ) → length meters ≤ i
    → stay_within left name (drop i meters) ≡ stay_within most name meters → true ≡ stay_within most name meters
goes_to_end left most name meters i le so_far = sym (ap (stay_within left name) (drop_all i meters le)) ∙ so_far

-- Lemmas that a meter continues in the next file if and only if the check of this continuation
-- prints no difference for the meter.

nothing_reported : (known : List FiledMeter) (old new : FiledMeter) (found : Option JoinFault)
    → option_to_list (option_map (λ fault. Differs fault old new) found) ≡ [] → found ≡ None
nothing_reported known old new None h = refl
nothing_reported known old new (Some fault) h = absurd (cc)

passed_by : (test : Bool) (fault : JoinFault) (rest : Option JoinFault) → (if test then Some fault else rest) ≡ None
    → (test ≡ false) × (rest ≡ None)
passed_by true fault rest h = absurd (cc)
passed_by false fault rest h = (refl, h)

passes : (test : Bool) (fault : JoinFault) (rest : Option JoinFault) → test ≡ false → rest ≡ None → (if test then Some fault else rest) ≡ None
passes true fault rest off h = absurd (cc)
passes false fault rest off h = h

both_true : (a b : Bool) → a && b ≡ true → (a ≡ true) × (b ≡ true)
both_true true b h = (refl, h)
both_true false b h = absurd (cc)

all_true : (a b : Bool) → a ≡ true → b ≡ true → a && b ≡ true
all_true true b h g = g
all_true false b h g = absurd (cc)

same_last : (a b : Last) → is_same a b ≡ true → a ≡ b
same_last a b h =
    let two = both_true ((a.at == b.at) && (a.raw == b.raw)) (int_eq a.sf b.sf) h in
    let one = both_true (a.at == b.at) (a.raw == b.raw) two.0 in
    ap (λ n. let l : Last = record { at = n; raw = a.raw; sf = a.sf } in l) (eqb-true a.at b.at one.0)
    ∙ ap (λ n. let l : Last = record { at = b.at; raw = n; sf = a.sf } in l) (eqb-true a.raw b.raw one.1)
    ∙ ap (λ z. let l : Last = record { at = b.at; raw = b.raw; sf = z } in l) ((Decides-int_eq a.sf b.sf).0 two.1)

last_same : (a b : Last) → a ≡ b → is_same a b ≡ true
last_same a b h =
    all_true ((a.at == b.at) && (a.raw == b.raw)) (int_eq a.sf b.sf)
    (all_true (a.at == b.at) (a.raw == b.raw) (eq-eqb a.at b.at (ap (λ (l : Last). l.at) h)) (eq-eqb a.raw b.raw (ap (λ (l : Last). l.raw) h)))
    ((Decides-int_eq a.sf b.sf).1 (ap (λ (l : Last). l.sf) h))

goes_on : (known : List FiledMeter) (old new : FiledMeter) → fault_between (is_within known new) old new ≡ None → MeterGoesOn known old new
goes_on known old new h =
    let open_then = passed_by old.standing.is_ended Closed _ h in
    let register = passed_by (not (bytes_eq (string_bytes new.register) (string_bytes old.register))) Register _ open_then.1 in
    let range = passed_by (not (new.installed.range == old.installed.range)) Range _ register.1 in
    let ceiling = passed_by (not (new.installed.ceiling == old.installed.ceiling)) Ceiling _ range.1 in
    let opening = passed_by (not (is_same new.installed.opening old.standing.last)) Opening _ ceiling.1 in
    let within = passed_by (not (is_within known new)) Energy None opening.1 in
    record {
      goes_on = record {
        unended = open_then.0;
        range = eqb-true _ _ (not-false _ range.0);
        ceiling = eqb-true _ _ (not-false _ ceiling.0);
        opening = same_last _ _ (not-false _ opening.0);
      };
      register = (bytes_eq-Decides _ _).0 (not-false _ register.0);
      within = not-false _ within.0;
    }

reported_nothing : (known : List FiledMeter) (old new : FiledMeter) → MeterGoesOn known old new → fault_between (is_within known new) old new ≡ None
reported_nothing known old new h =
    passes old.standing.is_ended Closed _ h.goes_on.unended
    (passes (not (bytes_eq (string_bytes new.register) (string_bytes old.register))) Register _ (ap not ((bytes_eq-Decides _ _).1 h.register))
    (passes (not (new.installed.range == old.installed.range)) Range _ (ap not (eq-eqb _ _ h.goes_on.range))
    (passes (not (new.installed.ceiling == old.installed.ceiling)) Ceiling _ (ap not (eq-eqb _ _ h.goes_on.ceiling))
    (passes (not (is_same new.installed.opening old.standing.last)) Opening _ (ap not (last_same _ _ h.goes_on.opening))
    (passes (not (is_within known new)) Energy None (ap not h.within) refl)))))

pub joined_meters_go_on : JoinedMetersGoOn
joined_meters_go_on known old new = (
  λ h. goes_on known old new (nothing_reported known old new (fault_between (is_within known new) old new) h),
  λ h. ap (λ found. option_to_list (option_map (λ fault. Differs fault old new) found)) (reported_nothing known old new h),
)
