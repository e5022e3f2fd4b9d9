-- Lemmas: a command prints only what its contract allows, also if it could not read its input or if
-- a write failed.
use Rattle.std.proofs.Common.{◌≡◌, ◌⊎◌, inl, inr, ◌<◌, ◌≤◌, ℕ, List, [], length, Option, None, Some, IfSome, refl, sym, subst}
use Rattle.std.specs.Prelude.{◌≢◌}
use Rattle.std.specs.Io.KnownBytes.{Appends}
use Rattle.std.proofs.KnownBytes.{Appends-nil}
use Rattle.command_io.specs.Input.{EndsUnread, LeavesUnread, most_bytes, too_long}
use Rattle.command_io.specs.Printing.{EndsAs, PrintsAs, PrintsOn}
use Rattle.command_io.specs.declared.printer.Printer as printers
use Rattle.command_io.specs.declared.status.ExitStatus.{ExitStatus}
use Rattle.command_io.specs.declared.status.ExitStatus.TheVariants.{Fine, Refused, Failed}
use Rattle.sun_points.specs.Writing.{GotPart}

-- If every output that the predicate `Prints` allows is also allowed by `Other`, then a command
-- that prints according to `Prints` prints according to `Other`.
pub prints_in : {P : Type 0} (p : printers.Ghosts P) (Prints Other : List ℕ → ExitStatus → Type 0) (status : ExitStatus) (old new : P)
    → ((printed : List ℕ) (meant : ExitStatus) → Prints printed meant → Other printed meant)
    → PrintsOn p Prints status old new → PrintsOn p Other status old new
prints_in p Prints Other Fine old new turn prints = (prints.0, prints.1, turn prints.0 Fine prints.2)
prints_in p Prints Other Refused old new turn prints = (prints.0, prints.1, turn prints.0 Refused prints.2)
prints_in p Prints Other Failed old new turn (inl none) = inl none
prints_in p Prints Other Failed old new turn (inr broke) = inr (broke.0, broke.1, broke.2, turn broke.0 broke.1 broke.3)

pub input_prints : {P : Type 0} (p : printers.Ghosts P) (input : Option (List ℕ)) (text whole : List ℕ)
    (Text Input : List ℕ → List ℕ → ExitStatus → Type 0) (status : ExitStatus) (old from new : P)
    → text ≡ whole → IfSome input (λ all. whole ≡ all) → length whole ≤ most_bytes → from ≡ old
    → ((all printed : List ℕ) (meant : ExitStatus) → length all ≤ most_bytes → Text all printed meant → Input all printed meant)
    → PrintsOn p (Text text) status from new → IfSome input (λ all. PrintsOn p (Input all) status old new)
input_prints p None text whole Text Input status old from new is read fits same turn prints = tt
input_prints p (Some all) text whole Text Input status old from new is read fits same turn prints =
    let From : _ → Type 0 = λ o. PrintsOn p (Input all) status o new in
    let short : length whole ≤ most_bytes = fits in
    subst From same (prints_in p (Text text) (Input all) status from new
    (λ printed meant reported.
    let Of : List ℕ → Type 0 = λ t. Text t printed meant in
    let Reported : List ℕ → Type 0 = λ t. Input t printed meant in
    subst Reported read (turn whole printed meant short (subst Of is reported)))
    prints)

-- A command that fails while it reports an input that is too long has printed nothing or a
-- beginning of the line `too long`.
long_reported : {P : Type 0} (p : printers.Ghosts P) (Prints : List ℕ → ExitStatus → Type 0) (old new : P)
    → p.has_failed new ⊎ (new ≡ old) → GotPart too_long (p.contents old) (p.contents new) → Prints too_long Refused
    → PrintsOn p Prints Failed old new
long_reported p Prints old new (inl failed) part prints = inr (too_long, Refused, (failed, part), prints)
long_reported p Prints old new (inr same) part prints =
    let Left : _ → Type 0 = λ o. Appends (p.contents old) (p.contents o) [] in
    inl (subst Left (sym same) (Appends-nil (p.contents old)))

unread_reported : {P : Type 0} (p : printers.Ghosts P) (Prints : List ℕ → ExitStatus → Type 0) (all : List ℕ) (status : ExitStatus) (old new : P)
    → EndsUnread all status (p.contents old) (p.contents new) → (status ≡ Failed → p.has_failed new ⊎ (new ≡ old))
    → (most_bytes < length all → Prints too_long Refused) → PrintsOn p Prints status old new
unread_reported p Prints all Fine old new (inl reported) failed long = absurd reported.1
unread_reported p Prints all Fine old new (inr none) failed long = absurd (let e : Fine ≡ Failed = none.0 in cc)
unread_reported p Prints all Refused old new (inl reported) failed long = (too_long, reported.1, long reported.0)
unread_reported p Prints all Refused old new (inr none) failed long = absurd (let e : Refused ≡ Failed = none.0 in cc)
unread_reported p Prints all Failed old new (inl reported) failed long = long_reported p Prints old new (failed refl) reported.1 (long reported.0)
unread_reported p Prints all Failed old new (inr none) failed long = inl none.1

-- A command that could not read its input prints the line `too long`, a beginning of this line, or
-- nothing.
pub unread_prints : {P : Type 0} (p : printers.Ghosts P) (input : Option (List ℕ)) (Input : List ℕ → List ℕ → ExitStatus → Type 0)
    (status : ExitStatus) (old new : P) → LeavesUnread input (p.contents old) (p.contents new) status
    → (status ≡ Failed → p.has_failed new ⊎ (new ≡ old)) → ((all : List ℕ) → most_bytes < length all → Input all too_long Refused)
    → IfSome input (λ all. PrintsOn p (Input all) status old new)
unread_prints p None Input status old new unread failed long = tt
unread_prints p (Some all) Input status old new unread failed long = unread_reported p (Input all) all status old new unread failed (long all)

-- Suppose that a command builds its complete text in an empty buffer, and its intended exit status
-- is not `Failed`. Then the text satisfies the predicate `Prints` (the command's allowed output).
is_made : (Prints : List ℕ → ExitStatus → Type 0) (meant : ExitStatus) (begun made : List ℕ) → meant ≢ Failed → begun ≡ []
    → PrintsAs Prints meant (Some begun) (Some made) → Prints made meant
is_made Prints meant begun made goes none prints =
    let Made : List ℕ → Type 0 = λ b. (printed : List ℕ) × Appends (Some b) (Some made) printed × Prints printed meant in
    let reported = subst Made none (prints goes) in
    let Reported : List ℕ → Type 0 = λ t. Prints t meant in
    subst Reported (sym reported.1) reported.2

pub made_prints : {P : Type 0} (p : printers.Ghosts P) (Prints : List ℕ → ExitStatus → Type 0) (begun made text : List ℕ)
    (meant status : ExitStatus) (old new : P) → begun ≡ [] → text ≡ made → PrintsAs Prints meant (Some begun) (Some made)
    → EndsAs p text meant status old new → PrintsOn p Prints status old new
made_prints p Prints begun made text Fine Fine old new none same prints ends =
    let Reported : List ℕ → Type 0 = λ t. Prints t Fine in
    (text, ends, subst Reported (sym same) (is_made Prints Fine begun made (λ e. let f : Fine ≡ Failed = e in cc) none prints))
made_prints p Prints begun made text Fine Refused old new none same prints ends = absurd ends
made_prints p Prints begun made text Fine Failed old new none same prints ends =
    let Reported : List ℕ → Type 0 = λ t. Prints t Fine in
    inr (text, Fine, ends, subst Reported (sym same) (is_made Prints Fine begun made (λ e. let f : Fine ≡ Failed = e in cc) none prints))
made_prints p Prints begun made text Refused Fine old new none same prints ends = absurd ends
made_prints p Prints begun made text Refused Refused old new none same prints ends =
    let Reported : List ℕ → Type 0 = λ t. Prints t Refused in
    (text, ends, subst Reported (sym same) (is_made Prints Refused begun made (λ e. let f : Refused ≡ Failed = e in cc) none prints))
made_prints p Prints begun made text Refused Failed old new none same prints ends =
    let Reported : List ℕ → Type 0 = λ t. Prints t Refused in
    inr (text, Refused, ends, subst Reported (sym same) (is_made Prints Refused begun made (λ e. let f : Refused ≡ Failed = e in cc) none prints))
made_prints p Prints begun made text Failed Fine old new none same prints ends = absurd ends
made_prints p Prints begun made text Failed Refused old new none same prints ends = absurd ends
made_prints p Prints begun made text Failed Failed old new none same prints ends =
    let Left : _ → Type 0 = λ o. Appends (p.contents old) (p.contents o) [] in
    inl (subst Left (sym ends) (Appends-nil (p.contents old)))
