-- The progress of a response: how many of its bytes were written to the client's connection.
use Rattle.std.specs.Prelude.{◌≡◌, ℕ, Bool, true, false, not, ◌&&◌, List, ◌++◌, Option}
use Rattle.std.specs.Io.KnownBytes.{Appends, Keeps}
use base.Fml.{GName}
use Rattle.mb_wire.specs.Links.{risen}
use Rattle.mb_wire.specs.declared.link.LastTake.{LastTake}

-- True if a prefix of the response `all` was written to the client's connection, after the bytes
-- `base` of the time before the response. If no write failed, the write buffer has exactly the
-- remaining bytes of `all`.
pub record Sends (base given : Option (List ℕ)) (buffered : List ℕ) (failed : Bool) (all : List ℕ) :
    Type 0 where
  pub sent : List ℕ
  pub left : List ℕ
  pub in_order : all ≡ sent ++ left
  pub came : Appends base given sent
  pub whole : failed ≡ false → left ≡ buffered

-- The progress of a response: the bytes that were written to the client's connection, the bytes in
-- the write buffer, and whether a write failed.
pub record Progress : Type 0 where
  pub given : Option (List ℕ)
  pub buffered : List ℕ
  pub failed : Bool

-- True if the writer sends the bytes after all earlier bytes of the response.
abbrev pub PutsAfter : Progress → Progress → List ℕ → Type 0
PutsAfter old new bytes =
    (base : Option (List ℕ)) (all : List ℕ) → Sends base old.given old.buffered old.failed all
    → Sends base new.given new.buffered new.failed (all ++ bytes)

-- True if the writer adds no bytes to the response. The writer may write bytes from its buffer to
-- the client's connection.
abbrev pub PutsNothing : Progress → Progress → Type 0
PutsNothing old new =
    (base : Option (List ℕ)) (all : List ℕ) → Sends base old.given old.buffered old.failed all
    → Sends base new.given new.buffered new.failed all

-- The model of a response writer: the client's connection and its state, the buffered bytes, and
-- whether a write failed.
pub record Outgoing : Type 0 where
  pub link : GName
  pub given : Option (List ℕ)
  pub remaining : Option (List ℕ)
  pub failures : ℕ
  pub takes : ℕ
  pub last : Option LastTake
  pub buffered : List ℕ
  pub failed : Bool

-- True if `all` are the bytes of the response so far, which were written to the client's connection
-- after the bytes `base`. The last bytes may still be in the write buffer.
abbrev pub HasPut : Option (List ℕ) → Outgoing → List ℕ → Type 0
HasPut base out all = Sends base out.given out.buffered out.failed all

-- True if the writer has the same connection as before, and reads nothing from it. A failed write
-- increases the connection's count of failures once, and no write follows it.
pub record OnlyGives (old new : Outgoing) : Type 0 where
  pub link : new.link ≡ old.link
  pub stays : old.failed ≡ true → new.failed ≡ true
  pub failures : new.failures ≡ risen (new.failed && not old.failed) old.failures
  pub remaining : Keeps old.remaining new.remaining
  pub takes : new.takes ≡ old.takes
  pub last : new.last ≡ old.last

-- True if the writer sends the bytes after all earlier bytes of the response, and reads nothing
-- from the client's connection.
pub record Puts (old new : Outgoing) (bytes : List ℕ) : Type 0 where
  pub put : (base : Option (List ℕ)) (all : List ℕ) → HasPut base old all
      → HasPut base new (all ++ bytes)
  pub link : OnlyGives old new
