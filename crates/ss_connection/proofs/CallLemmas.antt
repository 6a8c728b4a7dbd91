-- What calls of a connection answer.
use Rattle.ss_connection.specs.Calls.{Called, OnStarved, stop_of}
use Rattle.ss_connection.proofs.HoldsLemmas.{first-none}
use Rattle.ss_connection.specs.Holds.{ConnectionState, IsGoing, IsUsable}
use Rattle.ss_connection.specs.declared.text.TheConstants.{MOST_SAID}
use Rattle.ss_connection.specs.Opens.{OpensHeld, store_of}
use Rattle.ss_program.specs.declared.status.Status.{Status}
use Rattle.ss_outside.specs.Verdict.{no_memory}
use Rattle.ss_store.specs.Applied.{OpensStore}
use Rattle.ss_store.specs.Causes.{OpensAs}
use Rattle.ss_store.specs.Errors.{verdict_of_opening}
use Rattle.ss_store.specs.declared.error.OpenError.TheVariants as opening
use Rattle.ss_program.proofs.Common.{[], ℕ, List, Bool, IsDiskStop, arith, common_steps, append-nil, at_start, of_content, reads-none, shown-sealed, IsSealed, IsTrue, KnowsNow, OpenError, Stands}
use Rattle.ss_program.proofs.Common.{◌≡◌, None, Some, Ok, Err, IfErr, OnOk, Result, refl, sym, DiskView, Told, Step, IsServing, IsApplyStop}
use Rattle.ss_program.proofs.Common.{disk_verdict, ended, IsOpen, StoreState, length, on_ok_weaker, ◌≤◌}

-- one that has ended answers why
pub Called-over : {T : Type 0} {stops : Bool → Status → Type 0} {was : ConnectionState} {untouched : Type 0} {disk : DiskView} {R : Told → Told → Type 0} (status : Status) →
    was.ended ≡ Some status → untouched → IsUsable disk was → Called {T = T} stops was was untouched (Err status) disk disk R
Called-over status is none usable = record {
  over = rw is (refl, none);
  goes = λ going. cc;
  cause = λ going. cc;
  ends = is;
  usable = usable;
}

usable-after : {T : Type 0} (disk : DiskView) (is : ConnectionState) (result : Result T Status) → is.ended ≡ stop_of result →
    OnOk result (IsGoing disk is) → IsUsable disk is
usable-after disk is (Ok value) ends goes going = goes
usable-after disk is (Err status) ends goes going = cc

-- and one that goes on does its work
pub Called-made : {T : Type 0} {stops : Bool → Status → Type 0} {was is : ConnectionState} {untouched : Type 0} {old new : DiskView} {R : Told → Told → Type 0} (result : Result T Status) →
    was.ended ≡ None → Step (disk_verdict (ended result)) old new R → IfErr result (stops old.tells) → is.ended ≡ stop_of result →
    OnOk result (IsGoing new is) → Called stops was is untouched result old new R
Called-made {is = is} {new = new} result going step cause ends goes = record {
  over = rw going tt;
  goes = λ _. step;
  cause = λ _. cause;
  ends = ends;
  usable = usable-after new is result ends goes;
}

-- the verdict of an error is the same, whatever would have been opened
pub opening-same : (T S : Type 0) (error : OpenError) → verdict_of_opening {T = T} (Err error) ≡ verdict_of_opening {T = S} (Err error)
opening-same T S opening.Disk = refl
opening-same T S opening.NotAStore = refl
opening-same T S (opening.BadEntry n) = refl
opening-same T S (opening.BadSlot n) = refl
opening-same T S (opening.BadStream id) = refl
opening-same T S opening.OutOfMemory = refl
opening-same T S (opening.Changed slot) = refl

-- and so is what it says of the content
opening-why : (content : List ℕ) (error : OpenError) → OpensAs content (Err error) → OpensAs content (store_of (Err error))
opening-why content error why = why

module _ {old new : Told} where
  -- a store was opened, and nothing is staged
  pub Opens-held : (store : StoreState) (connection : ConnectionState) → connection.store ≡ store → IsSealed store.records.journal →
      OpensStore (Ok store) old new → OpensHeld (Ok connection) old new
  Opens-held store connection is sealed opens = record {
    holds = λ none history stands.
        let turns = opens.history history in
        let has : Stands history new.content = turns.content stands in
        rw is (record {
          shown = rw (append-nil, shown-sealed store.records.journal new.content sealed) has;
          within = first-none history [] new.content has;
          durable = turns.durable none;
        });
    any_moment = λ none history stands. (opens.history history).any_moment none stands;
    opens = rw is opens.opens;
    judged = opens.judged;
    unwritten = tt;
  }

  -- or it wasn't
  pub Opens-unheld : (error : OpenError) → OpensStore (Err error) old new → OpensHeld (Err error) old new
  Opens-unheld error opens = record {
    holds = λ none history stands. tt;
    any_moment = λ none history stands. (opens.history history).any_moment none stands;
    opens = opening-why old.content error opens.opens;
    judged = opens.judged;
    unwritten = rw (sym (opening-same StoreState ConnectionState error)) opens.unwritten;
  }

-- there was no memory for a connection
pub Opens-starved : {disk : DiskView} → (IsTrue disk.tells → KnowsNow disk.told) → Step no_memory disk disk (OpensHeld (Err opening.OutOfMemory))
Opens-starved {disk = disk} knows = record {
  tells = refl;
  counted = refl;
  told = λ told. record {
    holds = λ none history stands. tt;
    any_moment = λ none history stands. at_start disk.told (Stands history) (knows told) (of_content disk.told (Stands history) none stands);
    opens = tt;
    judged = λ none. reads-none disk.told;
    unwritten = reads-none disk.told;
  };
}

-- what ends a call that reads ends one that applies an event
pub disk-apply : {T : Type 0} (tells : Bool) (result : Result T Status) → IfErr result (IsDiskStop tells) → IfErr result (IsApplyStop tells)
disk-apply tells result stop = grind (arith, common_steps)

-- a call that reads doesn't want memory
pub unstarved : {T : Type 0} (P : Type 0) (tells : Bool) (result : Result T Status) → IfErr result (IsDiskStop tells) → OnStarved result P
unstarved P tells (Ok value) stop = tt
unstarved P tells (Err status) stop = λ is. absurd (rw is at stop)

-- where no rows are left, the store can be called and that is all
pub goes-on : {T : Type 0} (disk : DiskView) (is : ConnectionState) (result : Result T Status) → is.rows ≡ None → length is.said ≤ MOST_SAID →
    OnOk result (IsServing disk is.store) → OnOk result (IsGoing disk is)
goes-on disk is result none fits serves =
    on_ok_weaker result (λ (serving : IsServing disk is.store). record {
      serves = serving;
      rows = rw none tt;
      piece = record { fits = fits; full = rw none tt };
    }) serves

pub opens-serve : {T : Type 0} (disk : DiskView) (store : StoreState) (result : Result T Status) → OnOk result (IsOpen disk store) →
    OnOk result (IsServing disk store)
opens-serve disk store result opens = on_ok_weaker result (λ (is_open : IsOpen disk store). is_open.serves) opens
