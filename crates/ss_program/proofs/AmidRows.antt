-- What each field says of where a run stopped and of what is owed, and bounds that are false just past them.
use Rattle.ss_program.proofs.Common.{◌≡◌, ℕ, ◌+◌, ◌<◌, ◌≤◌, ◌++◌, List, [], ◌∷◌, length, take, Option, Some, refl, arith, IsTrue, false, IsSealed}
use Rattle.ss_program.proofs.Common.{DiskView, OfContent, Told, StoreIsKept, StoreState, AreOwed, IsReadyToServe, owed_by, with_text, IsOpen, IsServing}
use Rattle.ss_program.proofs.Common.{HoldsAcked}
use Rattle.ss_program.proofs.Common.{HoldsBy, steps_within, HoldsTalk, BeginsWithWant, HasTaken, NoneWait, InputRunState, StandsBeyond, StopsAmong, sealing_by}
use Rattle.ss_program.proofs.Common.{appended, after_lines, text_of, Talk, turn_of, Sealing, Each, Shared, Status, OutOfMemory, steps, Cursors, TalkState}
use Rattle.ss_program.specs.declared.replies.Seals.TheVariants as seal

-- the lines that were read are those of the bytes that were
holds-read : (sealing : Sealing) (talk : Talk) (input bytes_read rest image : List ℕ) (bytes : ℕ) (status : Status) → bytes_read ++ rest ≡ input →
    HoldsAcked sealing talk (steps talk.form input) (steps_within talk.form bytes_read rest) bytes status image →
    HoldsBy sealing talk input (Some rest) bytes status image
holds-read sealing talk input bytes_read rest image bytes status all h = (bytes_read, rest, all, refl, h)

-- where a run stopped
module _ (sealing : Sealing) (talk : Talk) (ls : List (List ℕ)) (before after : Option (List ℕ)) (disk : Told) where
  among-are : (status : Status) (at : StopsAmong sealing talk ls before after disk status) → ls ≡ at.out ++ (at.now ++ at.others)
  among-are status at = at.are

  among-few : (status : Status) (at : StopsAmong sealing talk ls before after disk status) → at.bytes ≤ length (text_of (after_lines talk at.out) at.now)
  among-few status at = at.few

  among-sent : (status : Status) (at : StopsAmong sealing talk ls before after disk status) →
      after ≡ appended before (text_of talk at.out ++ take at.bytes (text_of (after_lines talk at.out) at.now))
  among-sent status at = at.sent

  among-left : (status : Status) (at : StopsAmong sealing talk ls before after disk status) (image : List ℕ) → disk.may_leave image →
      StandsBeyond (after_lines talk at.out) at.now at.bytes image
  among-left status at image may = at.left image may

  among-starved : (at : StopsAmong sealing talk ls before after disk OutOfMemory) → (at.bytes ≡ 0) × BeginsWithWant (after_lines talk at.out) at.now
      × ((image : List ℕ) → disk.may_leave image → HoldsTalk (after_lines talk at.out) image)
  among-starved at = at.starved refl

  -- one byte more than is said is too many
  among-one_more : (status : Status) (at : StopsAmong sealing talk ls before after disk status) →
      at.bytes ≡ length (text_of (after_lines talk at.out) at.now) + 1 → ⊥
  among-one_more status at is = omega (arith, at.few, is)

-- where each event is sealed by itself: at one line, and not at two; and less than all was sent of what is said to it
module _ (talk : Talk) (ls : List (List ℕ)) (before after : Option (List ℕ)) (disk : Told) (status : Status)
    (at : StopsAmong Each talk ls before after disk status) where
  alone-one : length at.now ≡ 1
  alone-one = at.alone.0

  alone-two : length at.now ≡ 2 → ⊥
  alone-two is = omega (arith, at.alone.0, is)

  alone-less : at.bytes < length (text_of (after_lines talk at.out) at.now)
  alone-less = at.alone.1

  alone-all : at.bytes ≡ length (text_of (after_lines talk at.out) at.now) → ⊥
  alone-all is = omega (arith, at.alone.1, is)

-- to the lines that an image holds as many bytes are said as were sent, and not one less
module _ (talk : Talk) (done others : List (List ℕ)) (bytes : ℕ) (image : List ℕ) where
  beyond-holds : bytes ≤ length (text_of talk done) → HoldsTalk (after_lines talk done) image → StandsBeyond talk (done ++ others) bytes image
  beyond-holds few stands = (done, others, refl, few, stands)

  beyond-one_less : (b : StandsBeyond talk (done ++ others) bytes image) → length (text_of talk b.0) + 1 ≡ bytes → ⊥
  beyond-one_less b is = omega (arith, b.3, is)

-- a line that may want memory begins with one, and no line doesn't
begins-none : (talk : Talk) → BeginsWithWant talk [] → ⊥
begins-none talk begins = begins

begins-line : (talk : Talk) (line : List ℕ) (ls : List (List ℕ)) → BeginsWithWant talk (line ∷ ls) → IsTrue (turn_of talk line).wants_memory
begins-line talk line ls begins = begins

-- what is owed: the replies that wait, or what is said to one line; none waits where each event is sealed by itself
owed-each : AreOwed Each (owed_by seal.Each).lines []
owed-each = refl

owed-one : AreOwed Each (with_text (owed_by seal.Each) (65 ∷ [])).lines ([] ∷ [])
owed-one = refl

owed-two : AreOwed Each (with_text (owed_by seal.Each) (65 ∷ [])).lines ([] ∷ [] ∷ []) → ⊥
owed-two owed = cc

owed-shared : AreOwed Shared (owed_by (seal.Shared (65 ∷ []))).lines ([] ∷ [] ∷ [])
owed-shared = tt

owed-never : AreOwed Each (owed_by (seal.Shared [])).lines [] → ⊥
owed-never owed = owed

-- a session at the start of a call has no reply that waits
module _ (sealing : Sealing) (talk : Talk) (disk : Told) (session : InputRunState) (taken : List ℕ) (has : HasTaken sealing talk disk session taken) where
  taken-unsaid : NoneWait session.waiting
  taken-unsaid = has.unsaid

  taken-seals : sealing_by session.waiting ≡ sealing
  taken-seals = has.seals

  taken-form : session.form ≡ talk.form
  taken-form = has.form

-- a store that can be called, and one in which nothing is staged
module _ (disk : DiskView) (store : StoreState) where
  serving-runs : IsServing disk store → store.stopped ≡ false
  serving-runs is = is.runs

  serving-kept : IsServing disk store → OfContent disk (StoreIsKept store)
  serving-kept is = is.kept

  open-serves : IsOpen disk store → IsServing disk store
  open-serves is = is.serves

  open-sealed : IsOpen disk store → IsSealed store.records.journal
  open-sealed is = is.sealed

-- between two lines nothing is staged where each event is sealed by itself
module _ (disk : DiskView) (talk : TalkState) where
  ready-serves : IsReadyToServe disk talk → IsServing disk talk.store
  ready-serves is = is.serves

  ready-sealed : (cursors : Cursors) (store : StoreState) →
      IsReadyToServe disk (record { sessions = cursors; store = store; waiting = seal.Each }) → IsSealed store.records.journal
  ready-sealed cursors store is = is.staged
