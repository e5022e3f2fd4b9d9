-- Defines a scan of a device: a list of reads, one after another, and the words that the reads
-- return.
use Rattle.std.specs.Prelude.{◌≡◌, ℕ, ◌≤◌, List, [], ◌∷◌, length, Some, None}
use Rattle.std.specs.declared.option.Option.{Option}
use Rattle.mb_wire.specs.Spans.{Span}
use Rattle.sun_chain.specs.Image.{Words, add_words, word_in}
use Rattle.sun_chain.specs.Scanning.Stages.{begun, stage_after, wanted}
use Rattle.sun_chain.specs.Scanning.Lines.{Line, Reads}
use Rattle.sun_chain.specs.declared.scans.scan.Scan.{Scan}
use Rattle.sun_chain.specs.declared.scans.stage.Stage.{Stage}
use Rattle.sun_chain.specs.declared.scans.scanning.TheConstants.{MOST_READS}

-- The words that a scan has received until now, by address.
abbrev pub words_of : Scan → Words
words_of scan = word_in scan.image

-- The stage of a scan of a device, which determines the scan's next read.
abbrev pub stage_of : Scan → Stage
stage_of scan = scan.stage

-- One read of a scan: the requested registers, and their words, or `None` if the device returned
-- none.
pub record Exchange : Type 0 where
  pub span : Span
  pub words : Option (List ℕ)

-- The words of a device from which nothing has been read: none at any address.
abbrev pub nothing : Words
nothing address = None

-- The words of a device by address after a read from the given address, given the words before the
-- read. The words of the response replace earlier words, and `None` changes nothing.
abbrev pub append_answer : Words → ℕ → Option (List ℕ) → Words
append_answer word address None = word
append_answer word address (Some words) = add_words word address words

-- The words of a device by address after one more read, given the words before the read.
abbrev pub words_after : Words → Exchange → Words
words_after word exchange = append_answer word exchange.span.address exchange.words

-- The words of a device by address after a list of reads, given the words before these reads.
abbrev pub words_reported : Words → List Exchange → Words
words_reported word [] = word
words_reported word (exchange ∷ exchanges) = words_reported (words_after word exchange) exchanges

-- True if a scan requires each read of a list in turn, given the words read until then, and
-- requires no read after the last.
abbrev pub AsksInTurn : Words → Stage → List Exchange → Type 0
AsksInTurn word stage [] = wanted stage ≡ None
AsksInTurn word stage (exchange ∷ exchanges) =
    (wanted stage ≡ Some exchange.span)
    × AsksInTurn (words_after word exchange)
    (stage_after (words_after word exchange) stage)
    exchanges

-- States how a list of Modbus reads, executed one after another, changes the state of the link to
-- the device from `old` to `new`.
abbrev pub Talks : (unit : ℕ) → Line → List Exchange → Line → Type 0
Talks unit old [] new = old ≡ new
Talks unit old (exchange ∷ exchanges) new =
    (mid : Line) × Reads unit old mid exchange.span exchange.words × Talks unit mid exchanges new

-- The state of a new link to a device: no incomplete frame is buffered, and the next transaction
-- identifier is 1.
abbrev pub fresh : (bytes given : Option (List ℕ)) → Line
fresh bytes given = record { bytes = bytes; given = given; open_bytes = []; next = 1 }

-- The effect of a scan over a new link to a device: the scan executes a list of reads, and `word`
-- has the words that they return.
pub record Scans (unit : ℕ) (old_bytes old_given new_bytes new_given : Option (List ℕ))
    (word : Words) : Type 0 where
  pub exchanges : List Exchange
  pub few : length exchanges ≤ MOST_READS
  pub asked : AsksInTurn nothing begun exchanges
  pub words : (address : ℕ) → word address ≡ words_reported nothing exchanges address
  pub end : Line
  pub talk : Talks unit (fresh old_bytes old_given) exchanges end
  pub bytes : end.bytes ≡ new_bytes
  pub given : end.given ≡ new_given
