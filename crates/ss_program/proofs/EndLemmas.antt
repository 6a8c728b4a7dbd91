-- How a run ends.
use Rattle.ss_program.proofs.Common.{◌≡◌, ◌⊎◌, inl, inr, ℕ, List, Option, Some, None, Err, Bool, IsSome, cond, nat_eq, refl, sym, ap, ◌∙◌, subst, IsTrue, arith}
use Rattle.ss_program.proofs.Common.{common_steps, mode_of, Mode, Serve, Check, Gen, Stream, reads-none, step-none, step-then, OnlyReads, DiskView, Told, Step}
use Rattle.ss_program.proofs.Common.{Counted, Rose, fine, OpensAs, Recovered, Recovers, damaged_entry, damaged_slot, damaged_stream, no_store, recover}
use Rattle.ss_program.proofs.Common.{recovers, SurveysAs, OpenError, Devices, over, Completes, Ends, HasNumbers, IsRefusedContent, IsUnfed, Refuses, served_by}
use Rattle.ss_program.proofs.Common.{AsRefused, refusal_line, status_of_open, SaysLine, EndsAs, EndsServing, IsStop, disk_verdict, exit_number, sink_verdict}
use Rattle.ss_program.proofs.Common.{source_verdict, IsApplyStop, Status, Done, Usage, RefusedStore, DiskFault, SourceFault, SinkFault, OutOfMemory, InputLimit}
use Rattle.ss_program.proofs.Common.{RecordChanged}
use Rattle.ss_arguments.proofs.ModeLemmas.{mode_of-gen}
use Rattle.ss_store.specs.Errors.{verdict_of_opening}
use Rattle.ss_store.specs.declared.error.OpenError.TheVariants as opening

-- a content that is refused recovers to nothing, and one that recovers isn't refused
unrefused : (found : Recovered) (streams : List Stream) → found ≡ recovers streams → IsSome (refusal_line found) → ⊥
unrefused found streams is some = let none = rw is at some in cc

pub not-refused : (content : List ℕ) (streams : List Stream) → Recovers streams content → IsRefusedContent content → ⊥
not-refused content streams is some = unrefused (recover content) streams is some

pub judged-refused : (content : List ℕ) → IsRefusedContent content → (streams : List Stream) → Recovers streams content → ⊥
judged-refused content some streams is = not-refused content streams is some

refused-refuses : (before after : Option (List ℕ)) (old new : Told) → OnlyReads old new → Refuses before after RefusedStore old new
refused-refuses before after old new reads = record { how = inl refl; unwritten = reads; silent = λ other. absurd (other refl) }

-- Opening, or surveying, answered an error, of which nothing or a line was said.
open-refuses : (error : OpenError) (old new : Told) (before after : Option (List ℕ)) (had has : ℕ) → OpensAs old.content (Err error) →
    OnlyReads old new → AsRefused error before after had has → Refuses before after (status_of_open error) old new
open-refuses opening.Disk old new before after had has opens reads said = record { how = inr (inl refl); unwritten = reads; silent = λ _. said.0 }
open-refuses opening.OutOfMemory old new before after had has opens reads said = record { how = inr (inr refl); unwritten = reads; silent = λ _. said.0 }
open-refuses opening.NotAStore old new before after had has opens reads said = refused-refuses before after old new reads
open-refuses (opening.BadEntry n) old new before after had has opens reads said = refused-refuses before after old new reads
open-refuses (opening.BadSlot n) old new before after had has opens reads said = refused-refuses before after old new reads
open-refuses (opening.BadStream id) old new before after had has opens reads said = refused-refuses before after old new reads
open-refuses (opening.Changed slot) old new before after had has opens reads said = absurd opens

module _ (T : Type 0) (error : OpenError) {old new : DiskView} {before after : Option (List ℕ)} {had has : ℕ} (tells : new.tells ≡ old.tells)
    (counted : Counted (verdict_of_opening {T = T} (Err error)) old.faults new.faults) (opens : IsTrue old.tells → OpensAs old.told.content (Err error))
    (reads : IsTrue old.tells → IsRefusedContent old.told.content → OnlyReads old.told new.told) (said : AsRefused error before after had has) where
  Ends-refused : (found : Recovered) (line : List ℕ) → refusal_line found ≡ Some line →
      (IsTrue old.tells → refusal_line (recover old.told.content) ≡ Some line) → SaysLine line before after had has →
      status_of_open error ≡ RefusedStore → new.faults ≡ old.faults →
      Ends (over old before had) (over new after has) RefusedStore
  Ends-refused found line is_found is_line says status still =
      let refused = λ (told : IsTrue old.tells). subst (λ o. IsSome o) (sym (is_line told)) refl in
      record {
        known = λ w. cc;
        disk = record {
          tells = tells;
          counted = still;
          told = λ told some. rw status at (open-refuses error old.told new.told before after had has (opens told) (reads told some) said);
        };
        sink = λ other. absurd (other refl);
        refused = λ _ told. record { line = line; is_line = is_line told; said = says; unwritten = reads told (refused told) };
        said = λ _. record { found = found; line = line; is_line = is_found; said = says };
        firm = λ w. cc;
      }

  -- no line is said, where the disk failed, or memory ran out, or a slot had changed
  Ends-silent : Counted (disk_verdict (status_of_open error)) old.faults new.faults → (status_of_open error ≡ Usage → ⊥) →
      (status_of_open error ≡ RefusedStore → ⊥) → Counted (sink_verdict (status_of_open error)) had has →
      (status_of_open error ≡ RecordChanged → IsTrue old.tells → ⊥) → Ends (over old before had) (over new after has) (status_of_open error)
  Ends-silent cause known other unsaid firm = record {
    known = known;
    disk = record {
      tells = tells;
      counted = cause;
      told = λ told some. open-refuses error old.told new.told before after had has (opens told) (reads told some) said;
    };
    sink = λ _. unsaid;
    refused = λ is. absurd (other is);
    said = λ is. absurd (other is);
    firm = firm;
  }

-- The store wasn't opened: nothing but the line of a refusal is said.
pub Ends-unopened : (T : Type 0) (error : OpenError) {old new : DiskView} {before after : Option (List ℕ)} {had has : ℕ} → new.tells ≡ old.tells →
    Counted (verdict_of_opening {T = T} (Err error)) old.faults new.faults → (IsTrue old.tells → OpensAs old.told.content (Err error)) →
    (IsTrue old.tells → IsRefusedContent old.told.content → OnlyReads old.told new.told) → AsRefused error before after had has →
    Ends (over old before had) (over new after has) (status_of_open error)
Ends-unopened T opening.Disk tells counted opens reads said =
    Ends-silent T opening.Disk tells counted opens reads said counted (λ w. cc) (λ w. cc) said.1 (λ w. cc)
Ends-unopened T opening.OutOfMemory tells counted opens reads said =
    Ends-silent T opening.OutOfMemory tells counted opens reads said counted (λ w. cc) (λ w. cc) said.1 (λ w. cc)
Ends-unopened T (opening.Changed slot) tells counted opens reads said =
    Ends-silent T (opening.Changed slot) tells counted opens reads said counted (λ w. cc) (λ w. cc) said.1 (λ _ told. opens told)
Ends-unopened T opening.NotAStore tells counted opens reads said =
    Ends-refused T opening.NotAStore tells counted opens reads said no_store _ refl (λ told. ap (λ f. refusal_line f) (opens told)) said refl counted
Ends-unopened T (opening.BadEntry n) tells counted opens reads said =
    Ends-refused T (opening.BadEntry n) tells counted opens reads said (damaged_entry n) _ refl (λ told. ap (λ f. refusal_line f) (opens told)) said refl
    counted
Ends-unopened T (opening.BadSlot n) tells counted opens reads said =
    Ends-refused T (opening.BadSlot n) tells counted opens reads said (damaged_slot n) _ refl (λ told. ap (λ f. refusal_line f) (opens told)) said refl counted
Ends-unopened T (opening.BadStream id) tells counted opens reads said =
    Ends-refused T (opening.BadStream id) tells counted opens reads said (damaged_stream id) _ refl (λ told. ap (λ f. refusal_line f) (opens told)) said refl
    counted

-- how a run ends whose store was opened
serving-other : (tells : Bool) (status : Status) → EndsServing tells status →
    (status ≡ Usage → ⊥) × (status ≡ RefusedStore → ⊥) × (status ≡ RecordChanged → IsTrue tells → ⊥)
serving-other tells status ends = (λ w. grind (arith, common_steps), λ w. grind (arith, common_steps), λ w told. grind (arith, common_steps))

pub serving-stop : (tells : Bool) (status : Status) → (status ≡ Done) ⊎ IsStop tells status → EndsServing tells status
serving-stop tells status how = grind (arith, common_steps)

-- a run over a generated file that stops at a command has said nothing
pub unfed-stop : (tells : Bool) (held : Option (List ℕ)) (status : Status) → IsApplyStop tells status → IsUnfed held held status
unfed-stop tells held status stop = grind (arith, common_steps)

-- there was no memory, and no device was called
pub Ends-starved : (disk : DiskView) (held : Option (List ℕ)) (faults : ℕ) → Ends (over disk held faults) (over disk held faults) OutOfMemory
Ends-starved disk held faults = record {
  known = λ w. cc;
  disk = step-none disk (λ a b. IsRefusedContent a.content → Refuses held held OutOfMemory a b) (λ _ _.
      record { how = inr (inr refl); unwritten = reads-none disk.told; silent = λ _. refl });
  sink = λ _. refl;
  refused = λ w. cc;
  said = λ w. cc;
  firm = λ w. cc;
}

pub Ends-opened : {R Q : Told → Told → Type 0} {old mid new : DiskView} {before after : Option (List ℕ)} {had has : ℕ} (status : Status) →
    Step fine old mid R → (R old.told mid.told → (streams : List Stream) × Recovers streams old.told.content) → Step (disk_verdict status) mid new Q →
    EndsServing old.tells status → Counted (sink_verdict status) had has → Ends (over old before had) (over new after has) status
Ends-opened {old = old} status first found second ends counted =
    let other = serving-other old.tells status ends in
    record {
      known = other.0;
      disk = step-then first second (λ opened served refused. let some = found opened in absurd (not-refused old.told.content some.0 some.1 refused));
      sink = λ _. counted;
      refused = λ is. absurd (other.1 is);
      said = λ is. absurd (other.1 is);
      firm = other.2;
    }

-- a run whose source didn't fail, or that reads none, doesn't end by it
pub source-calm : (asked : Option Mode) (mode : Mode) (before after : Option (List ℕ)) (status : Status) (s t : ℕ) → asked ≡ Some mode →
    (served_by (Some mode) ≡ None → IsUnfed before after status) → Counted (source_verdict status) s t → (IsSome (served_by asked) → Rose s t → ⊥) →
    status ≡ SourceFault → ⊥
source-calm asked (Serve form sealing) before after status s t is unfed counted calm same =
    let rose : Counted (source_verdict SourceFault) s t = rw same at counted in
    calm (rw is) rose.1
source-calm asked Check before after status s t is unfed counted calm same = rw same at (unfed refl)
source-calm asked (Gen a b) before after status s t is unfed counted calm same = rw same at (unfed refl)

-- how a run that no device failed ends
pub Completes-calm : (old new : Devices) (status : Status) → Ends old new status → (status ≡ SourceFault → ⊥) → IsTrue old.disk.tells →
    (IsRefusedContent old.disk.told.content → ⊥) → (status ≡ InputLimit → ⊥) → (Rose old.disk.faults new.disk.faults → ⊥) →
    (Rose old.faults new.faults → ⊥) → Completes status
Completes-calm old new Done ends fed told fits limit calm_disk calm_sink = tt
Completes-calm old new OutOfMemory ends fed told fits limit calm_disk calm_sink = tt
Completes-calm old new Usage ends fed told fits limit calm_disk calm_sink = absurd (ends.known refl)
Completes-calm old new RefusedStore ends fed told fits limit calm_disk calm_sink = absurd (fits (rw (ends.refused refl told).is_line))
Completes-calm old new DiskFault ends fed told fits limit calm_disk calm_sink = absurd (calm_disk ends.disk.counted.1)
Completes-calm old new SourceFault ends fed told fits limit calm_disk calm_sink = absurd (fed refl)
Completes-calm old new SinkFault ends fed told fits limit calm_disk calm_sink = absurd (calm_sink (ends.sink (λ w. cc)).1)
Completes-calm old new InputLimit ends fed told fits limit calm_disk calm_sink = absurd (limit refl)
Completes-calm old new RecordChanged ends fed told fits limit calm_disk calm_sink = absurd (ends.firm refl told)

-- the status of a number, and only one
status_at : ℕ → Status
status_at n =
    cond (nat_eq n 0) Done (cond (nat_eq n 2) Usage (cond (nat_eq n 3) RefusedStore (cond (nat_eq n 4) DiskFault (cond (nat_eq n 5) SourceFault
    (cond (nat_eq n 6) SinkFault (cond (nat_eq n 7) OutOfMemory (cond (nat_eq n 8) InputLimit RecordChanged)))))))

status_at-number : (status : Status) → status_at (exit_number status) ≡ status
unfolding status_at
status_at-number status = grind (arith, common_steps)

pub one-status : (number : ℕ) (a b : Status) → EndsAs number a → EndsAs number b → a ≡ b
one-status number a b is_a is_b = sym (status_at-number a) ∙ ap (λ n. status_at n) (sym is_a ∙ is_b) ∙ status_at-number b

pub by-number : (P : Status → Type 0) (number : ℕ) (actual : Status) → EndsAs number actual → P actual → (status : Status) →
    EndsAs number status → P status
by-number P number actual is has status other = rw (one-status number actual status is other) at has

-- what a survey answers where it is refused
pub surveys-opens : (content : List ℕ) (error : OpenError) → SurveysAs content (Err error) → OpensAs content (Err error)
surveys-opens content error is = grind (arith, common_steps)

-- a run that reads no input doesn't end by it, where the store wasn't opened
pub unfed-unopened : (error : OpenError) (before after : Option (List ℕ)) (had has : ℕ) → AsRefused error before after had has →
    IsUnfed before after (status_of_open error)
unfed-unopened error before after had has as_refused = grind (arith, common_steps)

-- a mode that was asked for has the numbers that it may have
pub has-numbers : (words : List (List ℕ)) (mode : Mode) → mode_of words ≡ Some mode → HasNumbers mode
has-numbers words (Serve form sealing) is = tt
has-numbers words Check is = tt
has-numbers words (Gen seed count) is = let range = mode_of-gen words seed count is in (range.1, range.2)
