-- With which statuses a run ends by what it was asked, and what each field says of that, in fixed form.
use Rattle.ss_program.proofs.Common.{◌≡◌, ℕ, List, Option, Some, refl, Stream, OnlyReads, Told, Rose, Recovers, recovers, survey_of, ChecksStore}
use Rattle.ss_program.proofs.Common.{survey_line, Devices, Completes, Feeds, IsUnfed, Rejects, Unfed, TakesFew, SaysRefusal, refusal_line, appended, SaysLine}
use Rattle.ss_program.proofs.Common.{usage, Status, Done, Usage, RefusedStore, DiskFault, SourceFault, SinkFault, OutOfMemory, InputLimit, RecordChanged}

-- over a disk that tells nothing one of four lines is said
module _ (before after : Option (List ℕ)) (had has : ℕ) where
  says_refusal-line : (r : SaysRefusal before after had has) → refusal_line r.found ≡ Some r.line
  says_refusal-line r = r.is_line

  says_refusal-said : (r : SaysRefusal before after had has) → SaysLine r.line before after had has
  says_refusal-said r = r.said

  -- none of a content that recovers
  says_refusal-recovers : (r : SaysRefusal before after had has) (streams : List Stream) → r.found ≡ recovers streams → ⊥
  says_refusal-recovers r streams is = let none : refusal_line (recovers streams) ≡ Some r.line = rw is at r.is_line in cc

-- statuses with which a run doesn't end
rejects-disk : (old new : Devices) → Rejects old new DiskFault → ⊥
rejects-disk old new r = r

rejects-starved : (old new : Devices) → Rejects old new OutOfMemory → (new.held ≡ old.held) × (new.faults ≡ old.faults)
rejects-starved old new r = r

rejects-done : (old new : Devices) → Rejects old new Done → ⊥
rejects-done old new r = r

rejects-refused : (old new : Devices) → Rejects old new RefusedStore → ⊥
rejects-refused old new r = r

rejects-source : (old new : Devices) → Rejects old new SourceFault → ⊥
rejects-source old new r = r

rejects-sink : (old new : Devices) → Rejects old new SinkFault → ⊥
rejects-sink old new r = r

rejects-limit : (old new : Devices) → Rejects old new InputLimit → ⊥
rejects-limit old new r = r

rejects-changed : (old new : Devices) → Rejects old new RecordChanged → ⊥
rejects-changed old new r = r

-- the two with which a run completes, and each of the others
completes-done : Completes Done
completes-done = tt

completes-starved : Completes OutOfMemory
completes-starved = tt

completes-usage : Completes Usage → ⊥
completes-usage c = c

completes-refused : Completes RefusedStore → ⊥
completes-refused c = c

completes-disk : Completes DiskFault → ⊥
completes-disk c = c

completes-source : Completes SourceFault → ⊥
completes-source c = c

completes-sink : Completes SinkFault → ⊥
completes-sink c = c

completes-limit : Completes InputLimit → ⊥
completes-limit c = c

completes-changed : Completes RecordChanged → ⊥
completes-changed c = c

-- what a run leaves of its source
module _ (same : Type 0) where
  feeds-source : (had has taken takes : ℕ) → Feeds same had has taken takes SourceFault → Rose had has
  feeds-source had has taken takes f = f.counted.1

  feeds-fine : (had has taken takes : ℕ) → Feeds same had has taken takes Done → has ≡ had
  feeds-fine had has taken takes f = f.counted

  feeds-refused : (had has taken takes : ℕ) → Feeds same had has taken takes RefusedStore → same
  feeds-refused had has taken takes f = f.unserved refl

  feeds-takes : (had has taken takes : ℕ) (status : Status) → Feeds same had has taken takes status → TakesFew taken takes status
  feeds-takes had has taken takes status f = f.takes

  unfed-unread : (before after : Option (List ℕ)) (status : Status) → Unfed same before after status → same
  unfed-unread before after status u = u.unread

  unfed-silent : (before after : Option (List ℕ)) → Unfed same before after OutOfMemory → after ≡ before
  unfed-silent before after u = u.silent

-- what a check leaves, whatever the content is
module _ (before after : Option (List ℕ)) (old new : Told) where
  checks_store-unwritten : (status : Status) → ChecksStore before after status old new → OnlyReads old new
  checks_store-unwritten status c = c.unwritten

  checks_store-says : (streams : List Stream) → Recovers streams old.content → ChecksStore before after Done old new →
      after ≡ appended before (survey_line (survey_of streams))
  checks_store-says streams is c = (c.says streams is).whole refl

module _ (before after : Option (List ℕ)) where
  unfed-source : IsUnfed before after SourceFault → ⊥
  unfed-source u = u

  unfed-limit : IsUnfed before after InputLimit → ⊥
  unfed-limit u = u

  unfed-disk : IsUnfed before after DiskFault → after ≡ before
  unfed-disk u = u

  unfed-starved : IsUnfed before after OutOfMemory → after ≡ before
  unfed-starved u = u

  unfed-changed : IsUnfed before after RecordChanged → after ≡ before
  unfed-changed u = u

rejects-usage : (old new : Devices) → Rejects old new Usage → SaysLine usage old.held new.held old.faults new.faults
rejects-usage old new r = r
