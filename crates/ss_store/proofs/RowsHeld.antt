-- The row of a stream that is held.
use Rattle.ss_store.proofs.Common.{◌≡◌, ℕ, List, map, refl, ap, sym, ◌∙◌, Some, slice_get, option_map, slice_get-map, StreamId, IsState, IsStream, Stream}
use Rattle.ss_store.proofs.Common.{StreamRow, AllAgree, Agrees, StreamParts, row_of_held}
use Rattle.ss_model.specs.Shown.{row_of}
use Rattle.ss_stream.proofs.HeldCounts.{length-Agrees, values_held-Agrees}
use Rattle.ss_store.proofs.Among.{Agrees-at, IsStream-at}

pub row_of_held-Agrees : (part : StreamParts) (s : Stream) → IsStream s → Agrees part s → row_of_held part ≡ row_of s
row_of_held-Agrees part s is agrees =
    let id : StreamId = record { 0 = s.number } in
    let number : part.id ≡ id = ap (λ m. let i : StreamId = record { 0 = m } in i) agrees.number in
    rw (number, agrees.name, agrees.params, values_held-Agrees part s is agrees, length-Agrees part s agrees, agrees.landmarks) refl

-- the row at a place is that of the stream there
pub row-at : (parts : List StreamParts) (streams : List Stream) (place : ℕ) (part : StreamParts) (r : StreamRow) → IsState streams →
    AllAgree parts streams → slice_get parts place ≡ Some part → r ≡ row_of_held part → slice_get (map row_of streams) place ≡ Some r
row-at parts streams place part r state each at is =
    let found = Agrees-at parts streams place part each at in
    let stream = IsStream-at streams place found.0 state found.1 in
    slice_get-map row_of streams place ∙ ap (option_map row_of) found.1
    ∙ ap (λ (x : StreamRow). Some x) (sym (row_of_held-Agrees part found.0 stream found.2) ∙ sym is)
