-- Lemmas: if a simulated device executed some frames, and then further frames, the register map
-- afterwards is that of executing all these frames.
use Rattle.std.proofs.Common.{◌≡◌, ◌∙◌, ◌++◌, ℕ, List, [], ◌∷◌, Option, refl, ap, sym}
use Rattle.std.specs.Prelude.{Ok, Err, true, false}
use Rattle.std.specs.declared.result.Result.{Result}
use Rattle.mb_device.proofs.Streams.{maps_after_all-append}
use Rattle.mb_device.specs.Maps.{Maps}
use Rattle.mb_device.specs.Server.{Answered, Around, Faulted, Holds, Over, Standing, Turns, around, maps_after_all, own_frames}
use Rattle.mb_device.specs.Tricks.{Course, carried_out}
use Rattle.mb_device.specs.declared.server.ServeFault.{ServeFault}
use Rattle.mb_device.specs.declared.server.ServeFault.TheVariants.{Read, Write, Garbled, TurnsUsed}
use Rattle.mb_device.specs.declared.server.Turned.{Turned}
use Rattle.mb_device.specs.StandIn.Exchanges.{Exchanged}

pub nothing_done : (maps maps' : Maps) → maps' ≡ maps → Exchanged maps maps'
nothing_done maps maps' same = ([], same)

pub both_done : (old mid new : Maps) → Exchanged old mid → Exchanged mid new → Exchanged old new
both_done old mid new first later = (
  first.0 ++ later.0,
  later.1 ∙ ap (λ m. maps_after_all m later.0) first.1 ∙ sym (maps_after_all-append old first.0 later.0),
)

pub answered : {X : Type 0} (result : Result X ServeFault) (course : Course) (frames : List (List ℕ)) (old new : Around)
    → Answered result course frames old new → Exchanged old.maps new.maps
answered (Ok x) course frames old new all = (carried_out course frames, all.maps)
answered (Err Read) course frames old new all = (carried_out course frames, all.maps)
answered (Err Write) course frames old new broken = (broken.earlier ++ broken.frame ∷ [], broken.maps)
answered (Err Garbled) course frames old new all = (carried_out course frames, all.maps)
answered (Err TurnsUsed) course frames old new all = (carried_out course frames, all.maps)

pub turned : (standing standing' : Standing) (result : Result Turned ServeFault) (r g r' g' : Option (List ℕ)) (maps maps' : Maps)
    → ((buffered : List ℕ) (course : Course) → standing ≡ Holds buffered course → Turns buffered course result (around r g maps) (around r' g' maps') standing')
    → (standing ≡ Over → maps' ≡ maps) → (standing ≡ Faulted → maps' ≡ maps) → Exchanged maps maps'
turned (Holds buffered course) standing' result r g r' g' maps maps' serving over faulted =
    answered result course _ (around r g maps) (around r' g' maps') (serving buffered course refl).answered
turned Over standing' result r g r' g' maps maps' serving over faulted = nothing_done maps maps' (over refl)
turned Faulted standing' result r g r' g' maps maps' serving over faulted = nothing_done maps maps' (faulted refl)
