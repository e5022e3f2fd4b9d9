-- Lemmas that a read of a counter over a new link to a device returns the count and the power of
-- ten that are decoded from the device's words.
use Rattle.std.proofs.Common.{◌≡◌, ℕ, List, [], Option, Some, Result, refl, ap, ◌∙◌, subst}
use Rattle.mb_wire.specs.Spans.{Span}
use Rattle.sun_chain.specs.Scanning.Counters.{AsksCounter, ShowsCounter, shown_by, decode_counter}
use Rattle.sun_chain.specs.Scanning.Lines.{Line, OnlyRequests, Reads}
use Rattle.sun_chain.specs.Scanning.Scans.{fresh}
use Rattle.sun_chain.specs.declared.scans.counter.CounterScale.{CounterScale}
use Rattle.sun_chain.specs.declared.scans.counter.Shown.{Shown}
use Rattle.sun_chain.proofs.ScanLemmas.Talking.{standing}

-- If a client has no buffered bytes, and its next transaction identifier is 1, then its link to a
-- device is in the state `fresh` of a new link.
begun_here : (bytes given : Option (List ℕ)) (open_bytes : List ℕ) (next : ℕ) → open_bytes ≡ [] → next ≡ 1 → standing bytes given open_bytes next ≡ fresh bytes given
begun_here bytes given open_bytes next nothing first =
    ap (λ (o : List ℕ). standing bytes given o next) nothing ∙ ap (λ (n : ℕ). standing bytes given [] n) first

pub shows_read : (unit asked : ℕ) (wanted : Option Span) (span : Span) (bytes given : Option (List ℕ)) (open_bytes : List ℕ) (next : ℕ) (end : Line) (words : Option (List ℕ)) (address : ℕ) (scale : CounterScale) (shown : Option Shown) →
    Some span ≡ wanted → asked ≡ unit → open_bytes ≡ [] → next ≡ 1 → Reads asked (standing bytes given open_bytes next) end span words → shown ≡ shown_by span.address words address scale →
    ShowsCounter unit wanted bytes given end.bytes end.given address scale shown
shows_read unit asked wanted span bytes given open_bytes next end words address scale shown is same nothing first reads shows =
    subst (λ (w : Option Span). ShowsCounter unit w bytes given end.bytes end.given address scale shown) is
    (record {
      words = words;
      end = end;
      read =
          subst (λ (l : Line). Reads unit l end span words) (begun_here bytes given open_bytes next nothing first)
          (subst (λ (u : ℕ). Reads u (standing bytes given open_bytes next) end span words) same reads);
      bytes = refl;
      given = refl;
      shows = shows;
    })

-- If a read returns words, the reported value of a counter is the value decoded from these words.
pub shows_words : (first : ℕ) (read words : List ℕ) (address : ℕ) (scale : CounterScale) (shown : Option Shown) → shown ≡ decode_counter first read address scale → read ≡ words → shown ≡ shown_by first (Some words) address scale
shows_words first read words address scale shown shows same =
    shows ∙ ap (λ (all : List ℕ). decode_counter first all address scale) same

pub asks_read : {X E : Type 0} (unit asked : ℕ) (wanted : Option Span) (span : Span) (result : Result X E) (old new : Option (List ℕ)) → Some span ≡ wanted → asked ≡ unit → OnlyRequests asked span result old new → AsksCounter unit wanted result old new
asks_read unit asked wanted span result old new is same requests =
    subst (λ (w : Option Span). AsksCounter unit w result old new) is (subst (λ (u : ℕ). OnlyRequests u span result old new) same requests)
