-- A look at a store: the part that is read, and what a failure leaves.
use Rattle.ss_store.proofs.Common.{◌≡◌, ◌∙◌, ℕ, true, false, List, get_or, sym, ap, Some, None, Err, IsTrue, IsSome, slice_get, DiskView, IfChanged}
use Rattle.ss_store.proofs.Common.{IsFirm, HeldStream, StreamParts, held_parts, verdict_of_read, ReadError, Looks, ask_of_fault, verdict_of_ask, StoreState}
use Rattle.ss_store.proofs.Common.{part_numbered, AskError}
use Rattle.std.specs.Prelude.{Option}
use Rattle.ss_parts.specs.declared.read_error.ReadError.TheVariants as error
use Rattle.ss_store.proofs.Spared.{part-read}
use Rattle.ss_store.proofs.IndexedStreams.{parts-read}

-- what is read at the place of a stream that stands
read-at : (parts : List StreamParts) (place : ℕ) (o : Option StreamParts) (read : StreamParts) → slice_get parts place ≡ o → IsSome o →
    read ≡ get_or parts place read → o ≡ Some read
read-at parts place None read at some is = (let wrong : false ≡ true = some in cc)
read-at parts place (Some part) read at some is = ap (λ (p : StreamParts). Some p) (part-read parts place part read at is)

-- the part of a number, at its place
pub record IsPartAt (parts : List StreamParts) (number place : ℕ) (part : StreamParts) : Type 0 where
  pub numbered : part_numbered number parts ≡ Some part
  pub at : slice_get parts place ≡ Some part

pub IsPartAt-read : (held : List HeldStream) {parts : List StreamParts} {number place : ℕ} {stream : HeldStream} → held_parts held ≡ parts →
    slice_get parts place ≡ part_numbered number parts → IsSome (part_numbered number parts) → stream ≡ get_or held place stream →
    IsPartAt parts number place stream.part
IsPartAt-read held {parts} {number} {place} {stream} same at stands read =
    let is : stream.part ≡ get_or parts place stream.part = rw same at (parts-read held place read) in
    let numbered = read-at parts place (part_numbered number parts) stream.part at stands is in
    record { numbered = numbered; at = at ∙ numbered }

-- an error of reading, as a store answers it: no other verdict
pub IfChanged-ask : (T U : Type 0) (P : ℕ → Type 0) (why : ReadError) (e : AskError) → e ≡ ask_of_fault why →
    IfChanged (verdict_of_read {T = T} (Err why)) P → IfChanged (verdict_of_ask {T = U} (Err e)) P
IfChanged-ask T U P error.Disk e is changed = rw is tt
IfChanged-ask T U P (error.Changed slot) e is changed = rw is changed

-- what is left where a look failed: the store has stopped
pub Looks-failed : {before after : DiskView} (T : Type 0) (why : ReadError) (e : AskError) (old new : StoreState) → e ≡ ask_of_fault why →
    new.stopped ≡ true → new.streams ≡ old.streams → new.records.live ≡ old.records.live →
    (IsTrue before.tells → IsFirm (verdict_of_read {T = T} (Err why))) → Looks (verdict_of_ask {T = T} (Err e)) old new before after
Looks-failed {before} {after} T error.Disk e old new is stopped streams live firm = rw is (record {
  stands = λ runs. (let wrong : true ≡ false = sym stopped ∙ runs in cc);
  streams = streams;
  live = live;
  journal = tt;
  stops = stopped;
  firm = λ told. tt;
})
Looks-failed {before} {after} T (error.Changed slot) e old new is stopped streams live firm = rw is (record {
  stands = λ runs. (let wrong : true ≡ false = sym stopped ∙ runs in cc);
  streams = streams;
  live = live;
  journal = tt;
  stops = stopped;
  firm = λ told. absurd (firm told);
})
