-- Defines exchanges: the bytes that a device's server reads and writes on a connection over several
-- turns. A turn is one read, followed by the responses to the frames that the read completed.
use Rattle.std.specs.Prelude.{◌≡◌, ℕ, false, List, [], ◌∷◌, ◌++◌, Ok}
use Rattle.std.specs.List.{flat_map}
use Rattle.std.specs.Io.KnownBytes.{Appends, Consumes}
use Rattle.mb_wire.specs.Frames.{IsOpen, rest}
use Rattle.mb_device.specs.Maps.{Maps}
use Rattle.mb_device.specs.Tricks.{Course, carried_out, is_cut}
use Rattle.mb_device.specs.Server.{Around, Holds, Serves, Standing, Turns, course_after_all, maps_after_all, own_frames, sent_to, standing_on}
use Rattle.mb_device.specs.declared.server.Turned.{Turned}

-- An exchange: the bytes that a device read, and the bytes that it wrote.
pub record Exchange : Type 0 where
  pub taken : List ℕ
  pub given : List ℕ

-- Joins two consecutive exchanges (bytes read and bytes written) to one exchange.
abbrev pub joined : Exchange → Exchange → Exchange
joined first next = record { taken = first.taken ++ next.taken; given = first.given ++ next.given }

-- Joins a list of consecutive exchanges (bytes read and bytes written) to one exchange.
abbrev pub in_all : List Exchange → Exchange
in_all exchanges =
    record {
      taken = flat_map (λ exchange. exchange.taken) exchanges;
      given = flat_map (λ exchange. exchange.given) exchanges;
    }

-- True if the bytes written are the responses to those Modbus frames that are complete after the
-- bytes read. Also requires that the new register map and connection state are those after these
-- frames.
pub record Exchanges (buffered : List ℕ) (course : Course) (exchange : Exchange) (old new : Maps)
    (standing : Standing) : Type 0 where
  pub given : exchange.given ≡ sent_to course old (own_frames (buffered ++ exchange.taken))
  pub maps : new ≡ maps_after_all old (carried_out course (own_frames (buffered ++ exchange.taken)))
  pub stands : standing
      ≡ standing_on (rest (buffered ++ exchange.taken))
      (course_after_all course old (own_frames (buffered ++ exchange.taken)))
  pub is_open : is_cut (course_after_all course old (own_frames (buffered ++ exchange.taken))) ≡ false
      → IsOpen (rest (buffered ++ exchange.taken))

-- True if a device read the bytes of an exchange from its connection, and wrote the responses to
-- the connection.
pub record ExchangesOver (buffered : List ℕ) (course : Course) (old new : Around)
    (standing : Standing) : Type 0 where
  pub exchange : Exchange
  pub consumed : Consumes old.remaining new.remaining exchange.taken
  pub given : Appends old.given new.given exchange.given
  pub exchanges : Exchanges buffered course exchange old.maps new.maps standing

-- True if each exchange (bytes read and written) begins with the register map and connection state
-- that the previous exchange left. The bytes waiting on the connection may change in between.
abbrev pub InOrder : List ℕ → Course → List Exchange → Maps → Maps → Standing → Type 0
InOrder buffered course [] old new standing =
    (new ≡ old) × (standing ≡ standing_on buffered course) × IsOpen buffered
InOrder buffered course (first ∷ later) old new standing =
    (mid : Maps) × (left : List ℕ) × (next : Course)
    × Exchanges buffered course first old mid (Holds left next)
    × InOrder left next later mid new standing

-- The statement that each successful turn (one read and its responses) writes exactly the responses
-- to the frames that the device read.
abbrev pub TurnExchanges : Type 0
TurnExchanges =
    (buffered : List ℕ) (course : Course) (turned : Turned) (old new : Around)
    (standing : Standing) → Turns buffered course (Ok turned) old new standing →
    ExchangesOver buffered course old new standing

-- The statement that each successful call of `serve` writes exactly the responses to the frames
-- that the device read. The function `serve` repeats reads until the input ends.
abbrev pub ServingExchanges : Type 0
ServingExchanges =
    (buffered : List ℕ) (course : Course) (count : ℕ) (old new : Around)
    (standing : Standing) → Serves buffered course (Ok count) old new standing →
    ExchangesOver buffered course old new standing

-- The statement that two consecutive exchanges of bytes on a connection form one exchange.
abbrev pub TwoAreOne : Type 0
TwoAreOne =
    (buffered left : List ℕ) (course mid_course : Course) (first next : Exchange)
    (old mid new : Maps) (standing : Standing) →
    Exchanges buffered course first old mid (Holds left mid_course) →
    Exchanges left mid_course next mid new standing →
    Exchanges buffered course (joined first next) old new standing

-- The statement that any number of consecutive exchanges of bytes on a connection form one
-- exchange.
abbrev pub AllAreOne : Type 0
AllAreOne =
    (buffered : List ℕ) (course : Course) (exchanges : List Exchange) (old new : Maps)
    (standing : Standing) → InOrder buffered course exchanges old new standing →
    Exchanges buffered course (in_all exchanges) old new standing
