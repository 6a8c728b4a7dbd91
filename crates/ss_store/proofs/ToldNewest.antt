-- What a look for the newest value of a stream tells, of what a store shows.
use Rattle.ss_store.proofs.Common.{◌≡◌, ◌∙◌, ℕ, ◌+◌, false, List, length, map, sym, ap, Some, None, Ok, option_map, slice_get}
use Rattle.ss_store.proofs.Common.{DiskView, Step, fine, reads-none, step-none, newest_value, index_of, At, Happened, known_exactly, newest_in, newest_of}
use Rattle.ss_store.proofs.Common.{newest_told, IsState, Stream, state, stream_named, stream_numbered, placed_of, Newest, Placed, shown_by, AllAgree, Agrees}
use Rattle.ss_store.proofs.Common.{StreamParts, ShowsWindow, StandsOn, StoreState, part_named, part_numbered, TellsNewest, newest_place, Recovers, Stands}
use Rattle.std.specs.Prelude.{IsTrue}
use Rattle.ss_model.proofs.NewestLemmas.{HoldsOf, newest_in-holds}
use Rattle.ss_store.proofs.KeptStates.{AllAgree-recovered}
use Rattle.ss_store.proofs.Named.{AreFound-named, AreFound-numbered, numbers-AllAgree}
use Rattle.ss_store.proofs.NewestWindows.{known_placed, newest_of-kept, newest_of-read}
use Rattle.ss_store.proofs.PlaceLemmas.{places-same}

-- a stream that both its name and its number find
record IsFound (parts : List StreamParts) (streams : List Stream) (name : List ℕ) (number : ℕ) (part : StreamParts) : Type 0 where
  stream : Stream
  named : stream_named name streams ≡ Some stream
  numbered : stream_numbered number streams ≡ Some stream
  agrees : Agrees part stream

IsFound-both : (parts : List StreamParts) (streams : List Stream) (name : List ℕ) (number : ℕ) (part : StreamParts) → AllAgree parts streams → IsState streams →
    part_named name parts ≡ Some part → part_numbered number parts ≡ Some part → IsFound parts streams name number part
IsFound-both parts streams name number part agree state by_name by_number =
    let first = AreFound-named parts streams name part agree state by_name in
    let second = AreFound-numbered parts streams number part agree state by_number in
    let rising = rw (← numbers-AllAgree parts streams agree) at state.numbers in
    let place = places-same parts second.place first.place part rising second.at first.at in
    record {
      stream = first.stream;
      named = first.found_is;
      numbered = second.found_is ∙ sym second.here ∙ ap (λ k. slice_get streams k) place ∙ first.here;
      agrees = first.agrees;
    }

module _ (before : DiskView) (store : StoreState) (name : List ℕ) (number : ℕ) (part : StreamParts) (kept : StandsOn store before)
    (runs : store.stopped ≡ false) (by_number : part_numbered number store.streams ≡ Some part)
    (same : part_numbered number store.streams ≡ part_named name store.streams) where
  found : IsTrue before.tells → (streams : List Stream) → Recovers streams (shown_by store.records before.told.content)
      → IsFound store.streams streams name number part
  found told streams recovers =
      let both = AllAgree-recovered store (shown_by store.records before.told.content) streams (kept runs told).shown recovers in
      IsFound-both store.streams streams name number part both.0 both.1 (sym same ∙ by_number) by_number

  -- what is told in the state that is shown holds of its histories
  told-true : (tale : Newest) → ((streams : List Stream) → Recovers streams (shown_by store.records before.told.content) → newest_in streams name ≡ Some tale)
      → (history : List Happened) → Stands history (shown_by store.records before.told.content) → HoldsOf history name tale
  told-true tale newest history stands = newest_in-holds history name tale stands.is_history (newest (state history) stands.state)

  -- without a look at the disk
  pub tells-kept : newest_place part ≡ None → (tale : Newest)
      → tale ≡ newest_told part.last_time (option_map known_exactly (newest_value part.landmarks.landmarks))
      → Step fine before before (TellsNewest store.records name (Ok tale))
  tells-kept none tale is =
      step-none before (TellsNewest store.records name (Ok tale)) (λ told.
      let newest : (streams : List Stream) → Recovers streams (shown_by store.records before.told.content) → newest_in streams name ≡ Some tale =
      λ streams recovers.
      let at = found told streams recovers in
      ap (option_map newest_of) at.named ∙ ap (λ (n : Newest). Some n) (newest_of-kept part at.stream at.agrees none ∙ sym is) in
      record { newest = newest; truth = told-true tale newest; reads = reads-none before.told })

  -- by the newest window
  pub tells-read : (after : DiskView) (at : At) → newest_place part ≡ Some at → index_of part.line.entries at + 1 ≡ length part.line.entries
      → (placed : Placed) → Step fine before after (ShowsWindow number at store (Ok placed)) → (tale : Newest)
      → tale ≡ newest_told part.last_time (Some (known_placed placed)) → Step fine before after (TellsNewest store.records name (Ok tale))
  tells-read after at some last placed step tale is = record {
    tells = step.tells;
    counted = step.counted;
    told = λ told.
        let shows = step.told told in
        let newest : (streams : List Stream) → Recovers streams (shown_by store.records before.told.content) → newest_in streams name ≡ Some tale =
        λ streams recovers.
        let here = found told streams recovers in
        let shown = shows.window streams recovers in
        let window : slice_get (map placed_of here.stream.windows) (index_of part.line.entries at) ≡ Some placed = rw (by_number, here.numbered) at shown in
        ap (option_map newest_of) here.named
        ∙ ap (λ (n : Newest). Some n) (newest_of-read part here.stream here.agrees at some last placed window ∙ sym is) in
        record { newest = newest; truth = told-true tale newest; reads = shows.reads };
  }
