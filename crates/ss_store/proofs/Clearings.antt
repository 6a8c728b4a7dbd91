-- The records of dropped streams are cleared: what each that goes leaves, and what the seal makes of it.
use Rattle.ss_store.proofs.Common.{◌≡◌, ◌∙◌, ℕ, suc, ◌<◌, ◌≤◌, List, [], ◌∷◌, ◌++◌, length, get_or, map, take, drop, ap, arith, refl, subst, sym}
use Rattle.ss_store.proofs.Common.{append_assoc, Bool, Ok, Option, None, Some, Result, length-map, on_ok_weaker, IsErr, OnOk, reads-none}
use Rattle.ss_store.proofs.Common.{weaker, KnowsNow, Told, KeepsShown, IsSealed, SlotMap, StandsFor, changed, RecordsState, Record, closed_state, Stream}
use Rattle.ss_store.proofs.Common.{occupied-freed, HasWholeSlots-StandsFor, TurnsShown, ClearsSlots, HasDoomed, StagesChange, StagesClearing, Recovers}
use Rattle.ss_store.proofs.Common.{recovered_of, AreSomeLive, LiveSlotsGo, zeros_put, StaysOr}
use Rattle.std.proofs.Math.Seq.{drop-cons, take-suc}
use Rattle.std.proofs.lemmas.List.{drop_all, get_or-map, take-append-drop}
use Rattle.ss_recover.proofs.DroppedMaps.{carried-goes}
use Rattle.ss_stream.proofs.ShownCalls.{IsOfMap, StaysOr-weaker, Turns-not_sealed, Turns-sealed, TurnsShown-failed, TurnsShown-reads, TurnsShown-then}
use Rattle.ss_store.proofs.Among.{recover-StandsFor}
use Rattle.ss_store.proofs.KeptStates.{Recovers-of_map}

-- whatever of them is left, the image recovers to the streams that it carries
pub Recovers-doomed : (doomed held : List (ℕ × Option Record)) (streams : List Stream) (image : List ℕ) → HasDoomed doomed held streams image →
    Recovers (closed_state streams) image
Recovers-doomed doomed held streams image has = recover-StandsFor image has.found has.map ∙ ap recovered_of has.carried

pub HasDoomed-of_map : (doomed held : List (ℕ × Option Record)) (streams : List Stream) → IsOfMap (HasDoomed doomed held streams)
HasDoomed-of_map doomed held streams image has = (
  has.found,
  has.map,
  λ other is. record { found = has.found; map = is; occupied = has.occupied; carried = has.carried; in_turn = has.in_turn },
)

-- the first of them goes
HasDoomed-gone : (slot : ℕ) (was : Option Record) (rest held : List (ℕ × Option Record)) (streams : List Stream) (image now : List ℕ)
    (has : HasDoomed ((slot, was) ∷ rest) held streams image) → StandsFor now (changed has.found (zeros_put slot ∷ [])) → HasDoomed rest held streams now
HasDoomed-gone slot None rest held streams image now has is = absurd (let never = has.in_turn.0 in cc)
HasDoomed-gone slot (Some gone) rest held streams image now has is = record {
  found = changed has.found (zeros_put slot ∷ []);
  map = is;
  occupied = occupied-freed has.found (zeros_put slot) (Some gone) (rest ++ held) has.occupied refl;
  carried = carried-goes has.found (zeros_put slot) streams gone (rest ++ held) (HasWholeSlots-StandsFor image has.found has.map) refl has.carried
      has.in_turn.0 has.occupied;
  in_turn = has.in_turn.1;
}

no_slots : SlotMap
no_slots = record { extent = 0; bytes = λ slot. [] }

TurnsShown-gone : {T E : Type 0} (e : ℕ × Option Record) (rest held : List (ℕ × Option Record)) (streams : List Stream) (was is : RecordsState)
    (old new : Told) (result : Result T E) → StagesChange (zeros_put e.0 ∷ []) was is result old new →
    TurnsShown was is (HasDoomed (e ∷ rest) held streams) (Recovers (closed_state streams)) (HasDoomed rest held streams) old new result
TurnsShown-gone e rest held streams was is old new result change = record {
  content = λ has.
      on_ok_weaker result (λ now. HasDoomed-gone e.0 e.1 rest held streams _ _ has now) ((change has.found).content has.map);
  any_moment = λ none has.
      weaker old new (StaysOr old (λ image. StandsFor image has.found)) (StaysOr old (Recovers (closed_state streams)))
      (StaysOr-weaker old (λ image. StandsFor image has.found) (Recovers (closed_state streams))
      (λ image stands. recover-StandsFor image has.found stands ∙ ap recovered_of has.carried))
      ((change has.found).any_moment none has.map);
  durable = (change no_slots).durable;
}

-- the first of these slots, so many, are cleared
abbrev pub StagesFirst : {T E : Type 0} → ℕ → List ℕ → RecordsState → RecordsState → Result T E → Told → Told → Type 0
StagesFirst k slots was is result old new =
    (doomed held : List (ℕ × Option Record)) (streams : List Stream) → map (λ (e : ℕ × Option Record). e.0) doomed ≡ slots →
    TurnsShown was is (HasDoomed doomed held streams) (Recovers (closed_state streams)) (HasDoomed (drop k doomed) held streams) old new result

pub StagesFirst-none : {E : Type 0} (slots : List ℕ) (records : RecordsState) (disk : Told) → KnowsNow disk →
    StagesFirst {T = Unit {0}} {E = E} 0 slots records records (Ok tt) disk disk
StagesFirst-none slots records disk knows doomed held streams same =
    TurnsShown-reads records records (HasDoomed doomed held streams) (Recovers (closed_state streams)) disk disk (Ok tt) knows (reads-none disk) refl

pub StagesFirst-more : {S F T E : Type 0} (k : ℕ) (slots : List ℕ) (was between is : RecordsState) (old mid new : Told) (value : S) (result : Result T E) →
    k < length slots → KnowsNow mid → StagesFirst {T = S} {E = F} k slots was between (Ok value) old mid →
    StagesChange (zeros_put (get_or slots k 0) ∷ []) between is result mid new → StagesFirst (suc k) slots was is result old new
StagesFirst-more {F} k slots was between is old mid new value result inside knows first change doomed held streams same =
    let none : ℕ × Option Record = (0, None) in
    let slot_of : ℕ × Option Record → ℕ = λ e. e.0 in
    let long : length doomed ≡ length slots = sym (length-map doomed slot_of) ∙ ap length same in
    let within : k < length doomed = omega (arith, long, inside) in
    let e = get_or doomed k none in
    let rest = drop (suc k) doomed in
    let at : get_or slots k 0 ≡ e.0 = ap (λ (l : List ℕ). get_or l k 0) (sym same) ∙ get_or-map slot_of doomed k none 0 within in
    let recovers = Recovers (closed_state streams) in
    TurnsShown-then {F = F} was between is (HasDoomed doomed held streams) recovers (HasDoomed (e ∷ rest) held streams) recovers
    (HasDoomed rest held streams) recovers old mid new value result knows (rw (drop-cons doomed k none within) at (first doomed held streams same))
    (TurnsShown-gone e rest held streams between is mid new result
    (subst (λ (n : ℕ). StagesChange (zeros_put n ∷ []) between is result mid new) at change)) (λ image left. left) (λ image left. left)

-- all of them are
pub StagesClearing-all : {T E : Type 0} (k : ℕ) (slots : List ℕ) (was is : RecordsState) (old new : Told) (result : Result T E) → length slots ≤ k →
    StagesFirst k slots was is result old new → StagesClearing slots was is result old new
StagesClearing-all k slots was is old new result end first doomed held streams same =
    let long : length doomed ≡ length slots = sym (length-map doomed (λ (e : ℕ × Option Record). e.0)) ∙ ap length same in
    let none : drop k doomed ≡ [] = drop_all k doomed (omega (arith, long, end)) in
    rw none at (first doomed held streams same)

-- or a call failed
pub StagesClearing-failed : {S F T E : Type 0} (k : ℕ) (slots : List ℕ) (was between is : RecordsState) (old new : Told) (step : Result S F)
    (result : Result T E) → IsErr result → StagesFirst k slots was between step old new → StagesClearing slots was is result old new
StagesClearing-failed k slots was between is old new step result failed first doomed held streams same =
    TurnsShown-failed was between is (HasDoomed doomed held streams) (Recovers (closed_state streams)) (HasDoomed (drop k doomed) held streams)
    (HasDoomed [] held streams) old new step result failed (first doomed held streams same)

-- What was staged since nothing was is sealed.
module _ (slots : List ℕ) (was : RecordsState) (old : Told) (at_rest : IsSealed was.journal) where
  -- it was not, since the call failed
  pub ClearsSlots-not_sealed : {S F T E : Type 0} (between : RecordsState) (mid : Told) (step : Result S F) (result : Result T E) → IsErr result →
      StagesClearing slots was between step old mid → ClearsSlots slots result old mid
  ClearsSlots-not_sealed between mid step result failed stages doomed held streams same =
      let recovers = Recovers (closed_state streams) in
      Turns-not_sealed was (HasDoomed doomed held streams) recovers recovers old at_rest (Recovers-doomed doomed held streams) (λ image left. left)
      (Recovers-of_map (closed_state streams)) between between (HasDoomed [] held streams) mid mid step result (HasDoomed [] held streams) failed
      (stages doomed held streams same)

  -- the seal, whatever it answers
  pub ClearsSlots-sealed : {S F T E : Type 0} (between is : RecordsState) (mid new : Told) (value : S) (result : Result T E) → KnowsNow mid →
      OnOk result (IsSealed is.journal) → StagesClearing {T = S} {E = F} slots was between (Ok value) old mid →
      KeepsShown between.journal is.journal mid new result → ClearsSlots slots result old new
  ClearsSlots-sealed between is mid new value result knows sealed stages keeps doomed held streams same =
      let recovers = Recovers (closed_state streams) in
      Turns-sealed was (HasDoomed doomed held streams) recovers recovers old at_rest (Recovers-doomed doomed held streams) (λ image left. left)
      (Recovers-of_map (closed_state streams)) between is (HasDoomed [] held streams) mid new value result (HasDoomed-of_map [] held streams)
      (Recovers-doomed [] held streams) knows sealed (stages doomed held streams same) keeps

-- the next slot is live, and one more went
pub AreSomeLive-next : (k : ℕ) (slots : List ℕ) (live mid : List Bool) → k < length slots → AreSomeLive slots live →
    LiveSlotsGo (take k slots) [] live mid → AreSomeLive (get_or slots k 0 ∷ []) mid
AreSomeLive-next k slots live mid inside some gone =
    let slot = get_or slots k 0 in
    let rest = drop (suc k) slots in
    let parts : slots ≡ take k slots ++ slot ∷ rest = sym (take-append-drop k slots) ∙ ap (λ (l : List ℕ). take k slots ++ l) (drop-cons slots k 0 inside) in
    let all : slots ++ some.0 ≡ take k slots ++ slot ∷ (rest ++ some.0) =
    ap (λ (l : List ℕ). l ++ some.0) parts ∙ append_assoc (take k slots) (slot ∷ rest) some.0 in
    (rest ++ some.0, gone (slot ∷ (rest ++ some.0)) (rw all at some.1))

pub LiveSlotsGo-more : (k : ℕ) (slots : List ℕ) (live mid now : List Bool) → k < length slots → LiveSlotsGo (take k slots) [] live mid →
    LiveSlotsGo (get_or slots k 0 ∷ []) [] mid now → LiveSlotsGo (take (suc k) slots) [] live now
LiveSlotsGo-more k slots live mid now inside first second others is =
    let slot = get_or slots k 0 in
    let parts : take (suc k) slots ++ others ≡ take k slots ++ slot ∷ others =
    ap (λ (l : List ℕ). l ++ others) (take-suc slots k 0 inside) ∙ append_assoc (take k slots) (slot ∷ []) others in
    second others (first (slot ∷ others) (rw parts at is))
