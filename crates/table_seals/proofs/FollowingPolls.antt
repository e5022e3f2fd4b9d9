-- Lemmas on parsing the `polls` line and consecutive `pending` lines (of polls without an outcome)
-- in the text of a seal (digests of earlier records).
use Rattle.std.proofs.Common.{◌≡◌, ℕ, List, [], ◌∷◌, ◌++◌, ap, ◌∙◌, append_assoc, arith}
use Rattle.std.specs.Prelude.{codes, decimal}
use Rattle.std.specs.List.{flat_map}
use Rattle.hex.specs.Hex.{encode_lower}
use Rattle.table_seals.specs.Lines.{AreSetup, ArePending, ArePolls, AreMeters, AreTables}
use Rattle.table_seals.specs.Reading.{Begins, BeginsSetup}
use Rattle.table_seals.specs.Sealed.{Sealed, SealedPolls, SealedTables}
use Rattle.table_seals.specs.Texts.{meter_text, polls_line, pending_line, polls_part, setup_text, last_line}
use Rattle.table_seals.proofs.Opened.{first_byte, no_setup}

polls_pieces : (a b rest : List ℕ) → (codes "polls " ++ a ++ codes " sha256 " ++ b ++ codes "\n") ++ rest
    ≡ codes "polls " ++ (a ++ 32 ∷ (codes "sha256 " ++ (b ++ 10 ∷ rest)))
polls_pieces a b rest = simp append_assoc

pub polls_opened : (s : SealedPolls) (rest : List ℕ) → polls_line s ++ rest
    ≡ codes "polls " ++ (decimal s.count ++ 32 ∷ (codes "sha256 " ++ (encode_lower s.digest ++ 10 ∷ rest)))
polls_opened s rest = polls_pieces (decimal s.count) (encode_lower s.digest) rest

pending_pieces : (a rest : List ℕ) → (codes "pending " ++ a ++ codes "\n") ++ rest ≡ codes "pending " ++ (a ++ 10 ∷ rest)
pending_pieces a rest = simp append_assoc

pub pending_opened : (poll : ℕ) (rest : List ℕ) → pending_line poll ++ rest ≡ codes "pending " ++ (decimal poll ++ 10 ∷ rest)
pending_opened poll rest = pending_pieces (decimal poll) rest

-- Lemmas that the text of the polls' seal (digests of polls) begins with the `polls` line, which
-- the `pending` lines (of polls without an outcome) follow.

pub polls_first : (s : SealedPolls) (rest text : List ℕ) → ArePolls s rest text → text ≡ polls_line s ++ (flat_map pending_line s.pending ++ rest)
polls_first s rest text h = h.is ∙ append_assoc (polls_line s) (flat_map pending_line s.pending) rest

pub pending_then : (s : SealedPolls) (rest text follows : List ℕ) → ArePolls s rest text → follows ≡ flat_map pending_line s.pending ++ rest
    → ArePending s.pending rest follows
pending_then s rest text follows h is = record { fit = h.fit.pending_fit; ends = h.ends; is = is }

-- Lemmas on the text of a seal. The lines of the time zone, the devices and the registers come
-- first, then the seals (digests) of all meters, and then the seal of the polls.

three_parts : (a b c rest : List ℕ) → (a ++ b ++ c) ++ rest ≡ a ++ (b ++ (c ++ rest))
three_parts a b c rest = simp append_assoc

meters_no_setup : (seals : List Sealed) (polls : SealedPolls) (rest : List ℕ) → BeginsSetup (flat_map meter_text seals ++ (polls_part polls ++ rest)) → ⊥
meters_no_setup [] polls rest h = no_setup 112 _ (omega arith) (omega arith) h
meters_no_setup (s ∷ seals) polls rest h = no_setup 109 _ (omega arith) (omega arith) h

pub setup_first : (s : SealedTables) (rest text : List ℕ) → AreTables s rest text
    → AreSetup s.setup (flat_map meter_text s.meters ++ (polls_part s.polls ++ rest)) text
setup_first s rest text h = record {
  fit = h.fit.setup;
  ends = meters_no_setup s.meters s.polls rest;
  is = h.is ∙ three_parts (setup_text s.setup) (flat_map meter_text s.meters) (polls_part s.polls) rest;
}

pub meters_then : (s : SealedTables) (rest text follows : List ℕ) → AreTables s rest text
    → follows ≡ flat_map meter_text s.meters ++ (polls_part s.polls ++ rest) → AreMeters s.meters (polls_part s.polls ++ rest) follows
meters_then s rest text follows h is = record {
  fit = h.fit.meters;
  no_meter = λ b. let same : 112 ≡ 109 = first_byte 112 109 _ _ b.1 in omega (arith, same);
  no_void = λ b. let same : 112 ≡ 118 = first_byte 112 118 _ _ b.1 in omega (arith, same);
  no_month = λ b. let same : 112 ≡ 109 = first_byte 112 109 _ _ b.1 in omega (arith, same);
  is = is;
}

pub polls_then : (s : SealedTables) (rest text follows : List ℕ) → AreTables s rest text → follows ≡ polls_part s.polls ++ rest → ArePolls s.polls rest follows
polls_then s rest text follows h is = record { fit = h.fit.polls; ends = h.ends; is = is }

pub last_no_pending : (body : List ℕ) → Begins (codes "pending ") (last_line body) → ⊥
last_no_pending body h = let same : 115 ≡ 112 = first_byte 115 112 _ _ h.1 in omega (arith, same)

-- Lemmas that two seals (digests of earlier records) with the same parts are the same.

pub same_polls : (count : ℕ) (digest pending : List ℕ) (seal : SealedPolls) → count ≡ seal.count → digest ≡ seal.digest → pending ≡ seal.pending
    → (let read : SealedPolls = record { count = count; digest = digest; pending = pending } in read) ≡ seal
same_polls count digest pending seal c d p =
    ap (λ (n : ℕ). let read : SealedPolls = record { count = n; digest = digest; pending = pending } in read) c
    ∙ ap (λ (x : List ℕ). let read : SealedPolls = record { count = seal.count; digest = x; pending = pending } in read) d
    ∙ ap (λ (x : List ℕ). let read : SealedPolls = record { count = seal.count; digest = seal.digest; pending = x } in read) p

pub same_tables : (setup : List (List ℕ)) (meters : List Sealed) (polls : SealedPolls) (seal : SealedTables)
    → setup ≡ seal.setup → meters ≡ seal.meters → polls ≡ seal.polls
    → (let read : SealedTables = record { setup = setup; meters = meters; polls = polls } in read) ≡ seal
same_tables setup meters polls seal s m p =
    ap (λ (x : List (List ℕ)). let read : SealedTables = record { setup = x; meters = meters; polls = polls } in read) s
    ∙ ap (λ (x : List Sealed). let read : SealedTables = record { setup = seal.setup; meters = x; polls = polls } in read) m
    ∙ ap (λ (x : SealedPolls). let read : SealedTables = record { setup = seal.setup; meters = seal.meters; polls = x } in read) p
