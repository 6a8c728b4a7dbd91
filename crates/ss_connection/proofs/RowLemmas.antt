-- Rows that are said, as many at a time as there is room for.
use Rattle.std.specs.Prelude.{Bool, IfErr, IfOk, IfSome}
use Rattle.std.proofs.lemmas.Result.{IfOk-weaker}
use Rattle.ss_connection.proofs.HoldsLemmas.{Adds-read, stands-open}
use Rattle.ss_connection.proofs.SaysLemmas.{Says-read}
use Rattle.ss_connection.specs.Calls.{SaysFurther, SaysOpen}
use Rattle.ss_connection.specs.Holds.{CanBeTaken, IsPiece, text_left}
use Rattle.ss_connection.specs.Showing.{Fills, IsFilled}
use Rattle.ss_journal.specs.Kept.{IsSealed}
use Rattle.ss_parts.specs.declared.parts.StreamParts.{StreamParts}
use Rattle.ss_program.proofs.Common.{◌≡◌, ◌∙◌, ◌++◌, ◌∷◌, [], ℕ, List, None, Some, Ok, Err, OnOk, Option, Result, ap, append_assoc, flat_map, on_ok_weaker, reads-joined, refl}
use Rattle.ss_program.proofs.Common.{reads-none, shown-sealed, sym, Command, DiskView, HasRows, IsOpen, KnowsNow, ReadsAnswer, Reply}
use Rattle.ss_program.proofs.Common.{Stands, StoreState, Told, command_brings, reply_line, shown_by, text_brought}
use Rattle.ss_program.proofs.AnswerLemmas.{rows-event}
use Rattle.ss_program.specs.Rows.{AreBrought}
use Rattle.ss_program.specs.Status.{IsDiskStop}
use Rattle.ss_program.specs.declared.rows.Rows.{Rows}
use Rattle.ss_program.specs.declared.status.Status.{Status}

-- one more row stands behind the text
pub fills-more : (all said : List ℕ) (before after : List Reply) (row : Reply) → before ≡ row ∷ after → all ≡ said ++ flat_map reply_line before →
    all ≡ (said ++ reply_line row) ++ flat_map reply_line after
fills-more all said before after row first is =
    is ∙ ap (λ (rs : List Reply). said ++ flat_map reply_line rs) first ∙ sym (append_assoc said (reply_line row) (flat_map reply_line after))

-- none is left
pub fills-all : (all said : List ℕ) (before : List Reply) → before ≡ [] → all ≡ said ++ flat_map reply_line before → all ≡ said ++ []
fills-all all said before none is = is ∙ ap (λ (rs : List Reply). said ++ flat_map reply_line rs) none

-- where the store can be called with nothing staged, its records show the content
pub shows-opened : {T : Type 0} (disk : DiskView) (store : StoreState) (result : Result T Status) → OnOk result (IsOpen disk store) →
    OnOk result (shown_by store.records disk.told.content ≡ disk.told.content)
shows-opened disk store result opens =
    on_ok_weaker result (λ (is_open : IsOpen disk store). shown-sealed store.records.journal disk.told.content is_open.sealed) opens

-- A command has begun to be shown: its head is said, and then rows.
pub Says-begun : {was is : StoreState} {after : List ℕ} {old mid new : Told} (command : Command) (head : Reply) (rows : Rows)
    (tells : Bool) (result : Result (Option Rows) Status) → IfErr result (IsDiskStop tells) → HasRows command → KnowsNow old → is.streams ≡ was.streams →
    OnOk result (shown_by is.records new.content ≡ new.content) → ReadsAnswer (AreBrought command was.streams) (Ok (head, rows)) old mid →
    Fills was.streams rows (reply_line head) after result mid new → SaysOpen (λ history. command_brings history command) was is after result old new
Says-begun {was = was} {is = is} {after = after} {old = old} {mid = mid} {new = new} command head rows tells result stop has knows streams same begins fills =
    Says-read tells result stop knows (λ history. rows-event history command has) same (reads-joined old mid new begins.reads fills.reads)
    (λ history held.
    let stands = stands-open held in
    let brought : text_brought (command_brings history command) ≡ reply_line head ++ text_left (Some rows) was.streams history =
    ap (λ (rs : List Reply). flat_map reply_line rs) (begins.answer history stands) in
    IfOk-weaker result _ _ (λ left (is_left : reply_line head ++ text_left (Some rows) was.streams history ≡ after ++ text_left left was.streams history).
    rw streams (brought ∙ is_left)) (fills.says history (rw begins.reads.same.content stands)))

-- Further rows are said in place of what was.
pub Says-further : {was is : StoreState} {after : List ℕ} {old new : Told} (rows : Rows) (result : Result (Option Rows) Status) → KnowsNow old →
    is.streams ≡ was.streams → IsSealed was.records.journal → OnOk result (shown_by is.records new.content ≡ new.content) →
    Fills was.streams rows [] after result old new → SaysFurther (Some rows) was is after result old new
Says-further {was = was} {is = is} {after = after} {old = old} {new = new} rows result knows streams sealed same fills = record {
  each = λ history staged held.
      let shows = shown-sealed was.records.journal old.content sealed in
      let stands : Stands (history ++ staged) old.content = rw shows at held.shown in (
        Adds-read result knows held (on_ok_weaker result (λ (is_shown : shown_by is.records new.content ≡ new.content).
            is_shown ∙ fills.reads.same.content ∙ sym shows) same) fills.reads,
        IfOk-weaker result _ _ (λ left (is_left : text_left (Some rows) was.streams (history ++ staged) ≡ after ++ text_left left was.streams (history ++ staged)).
            rw streams is_left) (fills.says (history ++ staged) stands),
      );
  reads = fills.reads;
}

-- no row is left to be said
pub Says-none : {was is : StoreState} {disk : Told} → KnowsNow disk → is.records ≡ was.records → SaysFurther None was is [] (Ok None) disk disk
Says-none {was = was} {is = is} {disk = disk} knows same = record {
  each = λ history staged held.
      let result : Result (Option Rows) Status = Ok None in
      let none : Option Rows = None in
      (rw same (Adds-read result knows held refl (reads-none disk)), refl);
  reads = reads-none disk;
}

-- the rows that are left can be taken
pub can-be-taken : (disk : DiskView) (store : StoreState) (parts : List StreamParts) (said : List ℕ) (result : Result (Option Rows) Status) →
    store.streams ≡ parts → OnOk result (IsOpen disk store) → IfOk result (IsFilled parts said) → IfOk result (λ left. IfSome left (CanBeTaken store))
can-be-taken disk store parts said (Ok None) streams opens filled = tt
can-be-taken disk store parts said (Ok (Some rows)) streams opens filled = record { stand = rw streams filled.stand; sealed = opens.sealed }
can-be-taken disk store parts said (Err status) streams opens filled = tt

pub filled-piece : (parts : List StreamParts) (said : List ℕ) (result : Result (Option Rows) Status) → IfOk result (IsFilled parts said) →
    IfOk result (IsPiece said)
filled-piece parts said result filled = IfOk-weaker result _ _ (λ left is. is.piece) filled
