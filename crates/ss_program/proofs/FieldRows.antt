-- What each field of the records of a run says, in fixed form, and bounds that are false just past them.
use Rattle.ss_program.proofs.Common.{false, true, ◌≡◌, ◌⊎◌, ℕ, ◌+◌, ◌<◌, ◌≤◌, ◌++◌, List, [], ◌∷◌, length, take, drop, ◌^◌, Option, Some, None, refl, lit≤}
use Rattle.ss_program.proofs.Common.{arith, IsTrue, Mode, Lines, Sessions, Frames, Follow, Serve, Check, Gen, Stream, LeavesOnly, OnlyReads, DiskView}
use Rattle.ss_program.proofs.Common.{NothingPending, Told, Rose, StandsShort, Stands, recover, survey_of, Checks, survey_line, Devices, Ends, IsRefusedContent}
use Rattle.ss_program.proofs.Common.{Refuses, served_by, serving, Generates, StandsForAll, StandsForGenerated, summary, HoldsAcked, StandsForFirst, acks}
use Rattle.ss_program.proofs.Common.{History, NotBegun, Reads, Reports, Stopped, TakesFew, Took, NoneWait, sealing_by, RefusesStore, SaysRefusal, refusal_line}
use Rattle.ss_program.proofs.Common.{appended, AppendsFront, SaysLine, accepted, report, report_so_far, Talk, LONGEST_INPUT, Form, Sealing, Each, Shared}
use Rattle.ss_program.proofs.Common.{Status, Done, Usage, RefusedStore, DiskFault, SourceFault, SinkFault, OutOfMemory, InputLimit, RecordChanged}
use Rattle.ss_program.specs.Promises.{BeginsOver}
use Rattle.ss_program.specs.declared.replies.Seals.TheVariants as seal

-- The acknowledged events are held, and no more than those of the lines that were read; at most one more where each event is sealed by
-- itself. All are where the run is done, and no more where memory ran out.
module _ (sealing : Sealing) (talk : Talk) (ls read : List (List ℕ)) (bytes : ℕ) (image : List ℕ) where
  acked-stands : (status : Status) (h : HoldsAcked sealing talk ls read bytes status image) →
      StandsShort talk.used (talk.history ++ take h.j (accepted talk ls)) image
  acked-stands status h = h.stands

  acked-few : (status : Status) (h : HoldsAcked sealing talk ls read bytes status image) → h.j ≤ length (accepted talk ls)
  acked-few status h = h.few

  acked-all_of_them : (status : Status) (h : HoldsAcked sealing talk ls read bytes status image) → acks talk ls bytes ≤ h.j
  acked-all_of_them status h = h.acked

  acked-within : (status : Status) (h : HoldsAcked sealing talk ls read bytes status image) → h.j ≤ length (accepted talk read)
  acked-within status h = h.within

  acked-one_more : (status : Status) (h : HoldsAcked Each talk ls read bytes status image) → h.j ≤ acks talk ls bytes + 1
  acked-one_more status h = h.at_most refl

  acked-done : (h : HoldsAcked sealing talk ls read bytes Done image) → h.j ≡ length (accepted talk ls)
  acked-done h = h.all refl

  acked-starved : (h : HoldsAcked sealing talk ls read bytes OutOfMemory image) → h.j ≡ acks talk ls bytes
  acked-starved h = h.starved refl

  -- two more are too many, one less is too few, and so is one more than were read
  acked-two_more : (status : Status) (h : HoldsAcked Each talk ls read bytes status image) → h.j ≡ acks talk ls bytes + 2 → ⊥
  acked-two_more status h is = omega (arith, h.at_most refl, is)

  acked-one_less : (status : Status) (h : HoldsAcked sealing talk ls read bytes status image) → h.j + 1 ≡ acks talk ls bytes → ⊥
  acked-one_less status h is = omega (arith, h.acked, is)

  acked-unread : (status : Status) (h : HoldsAcked sealing talk ls read bytes status image) → h.j ≡ length (accepted talk read) + 1 → ⊥
  acked-unread status h is = omega (arith, h.within, is)

  first-few : (h : StandsForFirst talk.history (accepted talk ls) image) → h.0 ≤ length (accepted talk ls)
  first-few h = h.1

-- the report of a run over an input, by its status
module _ (sealing : Sealing) (talk : Talk) (input : List ℕ) (left before after : Option (List ℕ)) (disk : Told) where
  reports-front : (status : Status) → Reports sealing talk input left before after disk status → AppendsFront before after (report talk input)
  reports-front status r = r.front

  reports-whole : Reports sealing talk input left before after disk Done → after ≡ appended before (report talk input)
  reports-whole r = r.whole refl

  reports-broken : Reports sealing talk input left before after disk DiskFault →
      NotBegun input left before after ⊎ Stopped sealing talk input left before after disk DiskFault
  reports-broken r = r.broken refl

  reports-faulted : Reports sealing talk input left before after disk SourceFault →
      (taken : List ℕ) × (rest : List ℕ) × Took input left taken rest × (after ≡ appended before (report_so_far talk taken))
  reports-faulted r = r.faulted refl

  reports-cut : Reports sealing talk input left before after disk SinkFault → Stopped sealing talk input left before after disk SinkFault
  reports-cut r = r.cut refl

  reports-starved : Reports sealing talk input left before after disk OutOfMemory →
      NotBegun input left before after ⊎ Stopped sealing talk input left before after disk OutOfMemory
  reports-starved r = r.starved refl

  reports-limited : Reports sealing talk input left before after disk InputLimit →
      after ≡ appended before (report_so_far talk (take LONGEST_INPUT input))
  reports-limited r = r.limited refl

-- what was taken and read of an input
module _ (input : List ℕ) (left : Option (List ℕ)) where
  took-all : (taken rest : List ℕ) → Took input left taken rest → taken ++ rest ≡ input
  took-all taken rest t = t.all

  took-others : (taken rest : List ℕ) → Took input left taken rest → left ≡ Some rest
  took-others taken rest t = t.others

  took-few : (taken rest : List ℕ) → Took input left taken rest → length taken ≤ LONGEST_INPUT
  took-few taken rest t = t.few

  reads-few : (status : Status) (r : Reads input left status) → r.few.count ≤ LONGEST_INPUT + 1
  reads-few status r = r.few.few

  reads-others : (status : Status) (r : Reads input left status) → left ≡ Some (drop r.few.count input)
  reads-others status r = r.few.others

  reads-whole : Reads input left Done → (length input ≤ LONGEST_INPUT) × (left ≡ Some [])
  reads-whole r = r.whole refl

  reads-limit : Reads input left InputLimit → (LONGEST_INPUT < length input) × (left ≡ Some (drop (LONGEST_INPUT + 1) input))
  reads-limit r = r.limit refl

-- how many bytes a run takes over every source: at the limit, at the status of an input that is too long, and at no status one more
takes_few-limit : TakesFew 3 (3 + (2 ^ 36 + 1)) InputLimit
takes_few-limit = record { few = lit≤ tt; whole = λ is. cc; limit = λ _. (lit≤ tt, lit≤ tt) }

takes_few-beyond : (status : Status) → TakesFew 3 (3 + (2 ^ 36 + 2)) status → ⊥
takes_few-beyond status t = omega (arith, t.few)

-- done, all that an input may have, and no more
takes_few-whole : TakesFew 3 (3 + 2 ^ 36) Done
takes_few-whole = record { few = lit≤ tt; whole = λ _. lit≤ tt; limit = λ is. cc }

takes_few-longer : TakesFew 3 (3 + (2 ^ 36 + 1)) Done → ⊥
takes_few-longer t = omega (arith, t.whole refl)

-- an input of no more isn't too long
takes_few-short : TakesFew 3 (3 + 2 ^ 36) InputLimit → ⊥
takes_few-short t = omega (arith, (t.limit refl).0)

-- a check
module _ (streams : List Stream) (before after : Option (List ℕ)) where
  checks-front : (status : Status) → Checks streams before after status → AppendsFront before after (survey_line (survey_of streams))
  checks-front status c = c.front

  checks-whole : Checks streams before after Done → after ≡ appended before (survey_line (survey_of streams))
  checks-whole c = c.whole refl

  checks-starved : Checks streams before after OutOfMemory → after ≡ before
  checks-starved c = c.silent (λ w. cc) (λ w. cc)

  checks-broken : Checks streams before after DiskFault → after ≡ before
  checks-broken c = c.silent (λ w. cc) (λ w. cc)

-- a generated file
module _ (used : Option ℕ) (history : History) (seed count : ℕ) (before after : Option (List ℕ)) (old new : Told) where
  generates-front : (status : Status) → Generates used history seed count before after old new status → AppendsFront before after (summary history seed count)
  generates-front status g = g.front

  generates-whole : Generates used history seed count before after old new Done → after ≡ appended before (summary history seed count)
  generates-whole g = g.whole refl

  generates-starved : Generates used history seed count before after old new OutOfMemory → after ≡ before
  generates-starved g = g.silent (λ w. cc) (λ w. cc)

  generates-any_moment : (status : Status) → Generates used history seed count before after old new status →
      LeavesOnly old new (StandsForGenerated used history seed count)
  generates-any_moment status g = g.any_moment

  generates-kept : (status : Status) → Generates used history seed count before after old new status → (image : List ℕ) → new.may_leave image →
      StandsForGenerated used history seed count image
  generates-kept status g = g.kept

  generates-done : Generates used history seed count before after old new Done → StandsForAll used history seed count new.content
  generates-done g = g.done refl

  generates-all : Generates used history seed count before after old new Done → (image : List ℕ) → new.may_leave image →
      StandsForAll used history seed count image
  generates-all g = g.all refl

-- how a run ends: the devices that are blamed
module _ (old new : Devices) where
  ends-known : Ends old new Usage → ⊥
  ends-known e = e.known refl

  ends-disk : Ends old new DiskFault → Rose old.disk.faults new.disk.faults
  ends-disk e = e.disk.counted.1

  ends-disk_fine : Ends old new Done → new.disk.faults ≡ old.disk.faults
  ends-disk_fine e = e.disk.counted

  ends-sink : Ends old new SinkFault → Rose old.faults new.faults
  ends-sink e = (e.sink (λ w. cc)).1

  ends-sink_fine : Ends old new Done → new.faults ≡ old.faults
  ends-sink_fine e = e.sink (λ w. cc)

  ends-refused : Ends old new RefusedStore → IsTrue old.disk.tells →
      RefusesStore old.disk.told new.disk.told old.held new.held old.faults new.faults
  ends-refused e = e.refused refl

  ends-said : Ends old new RefusedStore → SaysRefusal old.held new.held old.faults new.faults
  ends-said e = e.said refl

  ends-refuses : (status : Status) → Ends old new status → IsTrue old.disk.tells → IsRefusedContent old.disk.told.content →
      Refuses old.held new.held status old.disk.told new.disk.told
  ends-refuses status e told refused = e.disk.told told refused

  ends-firm : Ends old new RecordChanged → IsTrue old.disk.tells → ⊥
  ends-firm e = e.firm refl

-- a store that is refused
module _ (before after : Option (List ℕ)) (old new : Told) where
  refuses-how : (status : Status) → Refuses before after status old new → (status ≡ RefusedStore) ⊎ (status ≡ DiskFault) ⊎ (status ≡ OutOfMemory)
  refuses-how status r = r.how

  refuses-unwritten : (status : Status) → Refuses before after status old new → OnlyReads old new
  refuses-unwritten status r = r.unwritten

  refuses-starved : Refuses before after OutOfMemory old new → after ≡ before
  refuses-starved r = r.silent (λ w. cc)

  refuses-broken : Refuses before after DiskFault old new → after ≡ before
  refuses-broken r = r.silent (λ w. cc)

  refuses_store-line : (had has : ℕ) (r : RefusesStore old new before after had has) → refusal_line (recover old.content) ≡ Some r.line
  refuses_store-line had has r = r.is_line

  refuses_store-said : (had has : ℕ) (r : RefusesStore old new before after had has) → SaysLine r.line before after had has
  refuses_store-said had has r = r.said

  refuses_store-unwritten : (had has : ℕ) → RefusesStore old new before after had has → OnlyReads old new
  refuses_store-unwritten had has r = r.unwritten

-- a line that is said
module _ (line : List ℕ) (before after : Option (List ℕ)) (had has : ℕ) where
  says-front : SaysLine line before after had has → AppendsFront before after line
  says-front s = s.front

  says-whole : SaysLine line before after had has → (Rose had has → ⊥) → after ≡ appended before line
  says-whole s = s.whole

-- a promise begins wherever a run over a source does
begins-run : (form : Form) (sealing : Sealing) (mode : Option Mode) (disk : DiskView) (left : Option (List ℕ)) (history : History) (input : List ℕ) →
    served_by mode ≡ Some (serving form sealing) → IsTrue disk.tells → NothingPending disk.told → Stands history disk.told.content →
    left ≡ Some input → BeginsOver form sealing mode disk left history input
begins-run form sealing mode disk left history input asked tells durable stands source =
    record { asked = asked; tells = tells; durable = durable; stands = stands; source = source }

-- which modes are runs over a source, what form their input has, and how each seals
served-run : served_by (Some (Serve (Lines false) Each)) ≡ Some (serving (Lines false) Each)
served-run = refl

served-batch : served_by (Some (Serve (Lines true) Shared)) ≡ Some (serving (Lines true) Shared)
served-batch = refl

served-sessions : served_by (Some (Serve (Sessions false) Each)) ≡ Some (serving (Sessions false) Each)
served-sessions = refl

served-sessions_batch : served_by (Some (Serve (Sessions true) Shared)) ≡ Some (serving (Sessions true) Shared)
served-sessions_batch = refl

served-frames : served_by (Some (Serve Frames Each)) ≡ Some (serving Frames Each)
served-frames = refl

served-follow : served_by (Some (Serve Follow Shared)) ≡ Some (serving Follow Shared)
served-follow = refl

served-check : served_by (Some Check) ≡ None
served-check = refl

served-gen : served_by (Some (Gen 1 1)) ≡ None
served-gen = refl

served-none : served_by None ≡ None
served-none = refl

-- a session seals each event by itself where no reply can wait
sealing_by-each : sealing_by seal.Each ≡ Each
sealing_by-each = refl

sealing_by-shared : sealing_by (seal.Shared (65 ∷ [])) ≡ Shared
sealing_by-shared = refl

-- none waits there, nor in an empty text; and one does in any other
none_wait-each : NoneWait seal.Each
none_wait-each = tt

none_wait-empty : NoneWait (seal.Shared [])
none_wait-empty = refl

none_wait-some : NoneWait (seal.Shared (65 ∷ [])) → ⊥
none_wait-some waits = cc

-- no more was read than there is
reads-within : (input : List ℕ) (left : Option (List ℕ)) (status : Status) (r : Reads input left status) → r.few.count ≤ length input
reads-within input left status r = r.few.within
