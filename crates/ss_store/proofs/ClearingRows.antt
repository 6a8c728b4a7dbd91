-- What clearing and settling say, at one answer each and field by field, where nothing else would tell if they said less.
use Rattle.ss_store.proofs.Common.{◌≡◌, ◌⊎◌, ℕ, List, [], ◌∷◌, ◌++◌, Err, IsPermutation, Ok, Option, LeavesOnly, OnlyReads, NothingPending, Told, SlotMap}
use Rattle.ss_store.proofs.Common.{StandsFor, changed, Put, AreKept, RecordsState, shown_by, Record, closed_state, IsState, Stream, GoInTurn, AllAgree}
use Rattle.ss_store.proofs.Common.{occupied, records_held, carried, carries, Parts, StreamParts, StandsLike, OpensAs, ClearsSlots, HasDoomed, StagesChange}
use Rattle.ss_store.proofs.Common.{StagesClearing, HasRebuilt, HasRebuiltBeside, IsRebuilt, Recovers, SettlesAll, OpenError}
use Rattle.std.specs.Prelude.{flat_map, map, zip}
use Rattle.ss_parts.specs.declared.read_error.ReadError.TheVariants as fault
use Rattle.ss_store.specs.Rebuilt.{ReadsAll}

-- the slots of records
abbrev slots_of : List (ℕ × Option Record) → List ℕ
slots_of doomed = map (λ (e : ℕ × Option Record). e.0) doomed

-- what a change that is staged says
module _ (puts : List Put) (was is : RecordsState) (old new : Told) (found : SlotMap) where
  change-shown : StagesChange {T = ℕ} {E = ℕ} puts was is (Ok 1) old new → StandsFor (shown_by was old.content) found →
      StandsFor (shown_by is new.content) (changed found puts)
  change-shown stages shown = (stages found).content shown

  change-crash : StagesChange {T = ℕ} {E = ℕ} puts was is (Err 1) old new → NothingPending old → StandsFor (shown_by was old.content) found →
      LeavesOnly old new (StandsLike (λ image. (image ≡ old.content) ⊎ StandsFor image found))
  change-crash stages none shown = (stages found).any_moment none shown

  change-durable : StagesChange {T = ℕ} {E = ℕ} puts was is (Ok 1) old new → NothingPending old → NothingPending new
  change-durable stages none = (stages found).durable none

-- records of dropped streams beside others
module _ (doomed held : List (ℕ × Option Record)) (streams : List Stream) where
  module _ (image : List ℕ) (has : HasDoomed doomed held streams image) where
    doomed-map : StandsFor image has.found
    doomed-map = has.map

    doomed-occupied : IsPermutation (doomed ++ held) (occupied has.found)
    doomed-occupied = has.occupied

    doomed-carried : carried has.found ≡ carries streams
    doomed-carried = has.carried

    doomed-in_turn : GoInTurn doomed held
    doomed-in_turn = has.in_turn

  -- their clearing, staged, and on the disk
  module _ (was is : RecordsState) (old new : Told) (same : slots_of doomed ≡ 3 ∷ 5 ∷ []) where
    clearing-shown : StagesClearing {T = ℕ} {E = ℕ} (3 ∷ 5 ∷ []) was is (Ok 1) old new → HasDoomed doomed held streams (shown_by was old.content) →
        HasDoomed [] held streams (shown_by is new.content)
    clearing-shown stages has = (stages doomed held streams same).content has

    clearing-crash : StagesClearing {T = ℕ} {E = ℕ} (3 ∷ 5 ∷ []) was is (Err 1) old new → NothingPending old →
        HasDoomed doomed held streams (shown_by was old.content) →
        LeavesOnly old new (StandsLike (λ image. (image ≡ old.content) ⊎ Recovers (closed_state streams) image))
    clearing-crash stages none has = (stages doomed held streams same).any_moment none has

    clears-content : ClearsSlots {T = ℕ} {E = ℕ} (3 ∷ 5 ∷ []) (Ok 1) old new → HasDoomed doomed held streams old.content → HasDoomed [] held streams new.content
    clears-content clears has = (clears doomed held streams same).content has

    clears-crash : ClearsSlots {T = ℕ} {E = ℕ} (3 ∷ 5 ∷ []) (Err 1) old new → NothingPending old → HasDoomed doomed held streams old.content →
        LeavesOnly old new (Recovers (closed_state streams))
    clears-crash clears none has = (clears doomed held streams same).any_moment none has

    clears-durable : ClearsSlots {T = ℕ} {E = ℕ} (3 ∷ 5 ∷ []) (Ok 1) old new → NothingPending old → NothingPending new
    clears-durable clears none = (clears doomed held streams same).durable none

-- what was rebuilt
module _ (slots : List ℕ) (parts : List StreamParts) where
  beside-slots : (streams : List Stream) (image : List ℕ) (has : HasRebuiltBeside slots parts streams image) → slots_of has.doomed ≡ slots
  beside-slots streams image has = has.lie_in

  beside-records : (streams : List Stream) (image : List ℕ) (has : HasRebuiltBeside slots parts streams image) →
      HasDoomed has.doomed (flat_map records_held (zip parts streams)) streams image
  beside-records streams image has = has.records

  rebuilt-state : (content : List ℕ) (is : IsRebuilt slots parts content) → IsState is.streams
  rebuilt-state content is = is.state

  rebuilt-agree : (content : List ℕ) (is : IsRebuilt slots parts content) → AllAgree parts is.streams
  rebuilt-agree content is = is.agree

  rebuilt-records : (content : List ℕ) (is : IsRebuilt slots parts content) → HasRebuiltBeside slots parts is.streams content
  rebuilt-records content is = is.records

  -- what settling it says
  module _ (now : List StreamParts) (records : RecordsState) (old new : Told) (all : List Stream) (state : IsState all) (agree : AllAgree parts all) where
    settles-content : SettlesAll slots parts now records (Ok tt) old new → HasRebuiltBeside slots parts all old.content →
        HasRebuilt now (closed_state all) new.content
    settles-content settles has = (settles.turns all state agree).content has

    settles-crash : SettlesAll slots parts now records (Err fault.Disk) old new → NothingPending old → HasRebuiltBeside slots parts all old.content →
        LeavesOnly old new (Recovers (closed_state all))
    settles-crash settles none has = (settles.turns all state agree).any_moment none has

    settles-agree : SettlesAll slots parts now records (Ok tt) old new → HasRebuiltBeside slots parts all old.content → AllAgree now (closed_state all)
    settles-agree settles has = settles.agree all state agree has

    settles-firm : (slot : ℕ) → SettlesAll slots parts now records (Err (fault.Changed slot)) old new → HasRebuiltBeside slots parts all old.content → ⊥
    settles-firm slot settles has = settles.firm all state agree has

    settles-kept : SettlesAll slots parts now records (Ok tt) old new → AreKept records new.content
    settles-kept settles = settles.kept

-- what reading all says
module _ (records : RecordsState) (parts : Parts) (why : OpenError) (old new : Told) where
  reads-rebuilt : ReadsAll (Ok (records, parts)) old new → IsRebuilt parts.doomed.items parts.streams.items old.content
  reads-rebuilt reads = reads.rebuilt

  reads-opens : ReadsAll (Err why) old new → OpensAs old.content (Err why)
  reads-opens reads = reads.opens

  reads-kept : ReadsAll (Ok (records, parts)) old new → AreKept records new.content
  reads-kept reads = reads.kept

  reads-only : ReadsAll (Err why) old new → OnlyReads old new
  reads-only reads = reads.reads
