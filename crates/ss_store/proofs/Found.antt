-- The stream at the place where it was found by its name.
use Rattle.ss_store.proofs.Common.{◌≡◌, ◌∙◌, ℕ, ◌<◌, List, get_or, length, refl, sym, ap, subst, None, Some, length-map, same_Some, slice_get_read, HeldStream}
use Rattle.ss_store.proofs.Common.{StreamParts, held_parts, slots_in_turn, part_named, IsPlaceOf}
use Rattle.std.specs.Prelude.{Option}
use Rattle.ss_store.proofs.IndexedStreams.{parts-read}
use Rattle.ss_store.proofs.Named.{IsAtPlace}

-- none was found, so none is held
pub none-found : {found : Option ℕ} (parts : List StreamParts) (name : List ℕ) → found ≡ None → IsPlaceOf name parts found → part_named name parts ≡ None
none-found parts name is place = rw is at place

-- the streams that are held have the place
pub inside-found : (held : List HeldStream) {parts : List StreamParts} {found : Option ℕ} {place : ℕ} (name : List ℕ) → held_parts held ≡ parts →
    found ≡ Some place → IsPlaceOf name parts found → place < length held
inside-found held {parts} {found} {place} name same is at =
    rw (ap length (sym same) ∙ length-map held (λ (h : HeldStream). h.part)) at (subst (IsPlaceOf name parts) is at).0

-- what is read there is the stream of the name
pub IsAtPlace-found : (held : List HeldStream) {parts : List StreamParts} {found : Option ℕ} {place : ℕ} {stream : HeldStream} (name : List ℕ) →
    held_parts held ≡ parts → found ≡ Some place → IsPlaceOf name parts found → stream ≡ get_or held place stream →
    IsAtPlace name place parts stream.part
IsAtPlace-found held {parts} {found} {place} {stream} name same is place_is read =
    let it = rw is at place_is in
    let at = slice_get_read parts (length parts) place stream.part refl it.0
    (rw same at (parts-read held place read)) in
    record { named = sym it.1 ∙ at; at = at }

-- the stream that is taken out of its place, with the slots that were read of it there
pub record IsTakenOut (name : List ℕ) (place : ℕ) (parts : List StreamParts) (part : StreamParts) (listed : List ℕ) : Type 0 where
  pub stands : IsAtPlace name place parts part
  pub slots : listed ≡ slots_in_turn part

pub IsTakenOut-found : (held : List HeldStream) {parts : List StreamParts} {found : Option ℕ} {place : ℕ} {read stream : HeldStream} {slots : List ℕ}
    (name : List ℕ) → held_parts held ≡ parts → found ≡ Some place → IsPlaceOf name parts found → read ≡ get_or held place read →
    stream ≡ get_or held place stream → slots ≡ slots_in_turn read.part → IsTakenOut name place (held_parts held) stream.part slots
IsTakenOut-found held {parts} {found} {place} {read} {stream} {slots} name same is place_is first second all =
    let here = rw (← same) at place_is in
    let at = IsAtPlace-found held name refl is here second in
    let was = IsAtPlace-found held name refl is here first in
    record { stands = at; slots = all ∙ ap slots_in_turn (same_Some read.part stream.part (sym was.at ∙ at.at)) }
