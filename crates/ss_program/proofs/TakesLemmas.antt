-- What a line does to the devices: what is shown, and what is added and replied.
use Rattle.ss_program.proofs.Common.{◌≡◌, ℕ, Bool, List, Option, Ok, Err, Result, IfErr, refl, IsErr, arith, common_steps, reads-none}
use Rattle.ss_program.proofs.Common.{step-none, OnlyReads, DiskView, OfContent, Step, Counted, fine, verdict, Failed}
use Rattle.ss_program.proofs.Common.{StoreState, Stands, IsOpen, Shows, at_sink, over, History, appended}
use Rattle.ss_program.proofs.Common.{AppendsLess, Puts, Sends, IsApplyStop, IsDiskStop, IsShowStop, disk_verdict, ended, sink_verdict, Status, Done, Usage}
use Rattle.ss_program.proofs.AnswerLemmas.{IsStop-apply, IsStop-show}
use Rattle.ss_program.proofs.Common.{Continues, IsStop, RefusedStore, DiskFault, SourceFault, SinkFault, OutOfMemory, InputLimit, RecordChanged, OnOk}

-- the disk was only read, and then a text was sent
pub Shows-sent : (text : History → List ℕ → Type 0) (old new : DiskView) (store : StoreState) (before after : Option (List ℕ)) (had has : ℕ)
    (sent : Result Unit Failed) → Step fine old new OnlyReads → IsOpen new store → Counted (verdict sent) had has →
    OfContent old (λ content. (history : History) → Stands history content → (bytes : List ℕ) → text history bytes →
    Sends before after bytes sent) →
    Shows text (over old before had) (over new after has) store (at_sink sent)
Shows-sent text old new store before after had has (Ok u) reads opens counted sends =
    record { reads = reads; sends = sends; counted = counted; opens = opens; status = tt }
Shows-sent text old new store before after had has (Err e) reads opens counted sends =
    record { reads = reads; sends = sends; counted = counted; opens = tt; status = tt }

-- the disk wasn't called
pub still : (disk : DiskView) → Step fine disk disk OnlyReads
still disk = step-none disk OnlyReads (λ _. reads-none disk.told)

-- what was sent, where the sink didn't fail
pub sent-all : {text : List ℕ} {before after : Option (List ℕ)} {had has : ℕ} (sent : Result Unit Failed) (u : Unit {0}) → Ok u ≡ at_sink sent →
    Puts text before had after has sent → (after ≡ appended before text) × (has ≡ had)
sent-all (Ok v) u is puts = (puts.sends, puts.counted)
sent-all (Err e) u is puts = cc

-- and where it did
pub failed-err : (sent : Result Unit Failed) (status : Status) → Err status ≡ at_sink sent → IsErr sent
failed-err (Ok u) status is = cc
failed-err (Err e) status is = refl

-- what was sent then is less than the text
pub less-sent : (before after : Option (List ℕ)) (text : List ℕ) (sent : Result Unit Failed) → IsErr sent → Sends before after text sent →
    AppendsLess before after text
less-sent before after text (Ok u) failed sends = cc
less-sent before after text (Err e) failed less = less

pub sends-less : (before after : Option (List ℕ)) (text : List ℕ) (sent : Result Unit Failed) → IsErr sent → AppendsLess before after text →
    Sends before after text sent
sends-less before after text (Ok u) failed less = cc
sends-less before after text (Err e) failed less = less

-- What is shown is a text that goes by the history: it was sent, or less than it, where the sink failed at a part of it.
module _ (says : History → List ℕ) {old new : DiskView} {store : StoreState} {before after : Option (List ℕ)} {had has : ℕ} (sent : Result Unit Failed) where
  pub Said-sent : Step fine old new OnlyReads → IsOpen new store → Counted (verdict sent) had has →
      OfContent old (λ content. (history : History) → Stands history content → Sends before after (says history) sent) →
      Shows (λ history bytes. bytes ≡ says history) (over old before had) (over new after has) store (at_sink sent)
  Said-sent reads opens counted sends =
      Shows-sent (λ history bytes. bytes ≡ says history) old new store before after had has sent reads opens counted
      (λ told history stands bytes is. rw is (sends told history stands))

  pub Said-cut : {held : Option (List ℕ)} {text : List ℕ} (status : Status) → Err status ≡ at_sink sent → Step fine old new OnlyReads → IsOpen new store →
      Puts text held had after has sent →
      OfContent old (λ content. (history : History) → Stands history content → AppendsLess held after text → AppendsLess before after (says history)) →
      Shows (λ history bytes. bytes ≡ says history) (over old before had) (over new after has) store (Err status)
  Said-cut {held = held} {text = text} status is reads opens puts less =
      let failed = failed-err sent status is in
      rw is (Said-sent reads opens puts.counted (λ told history stands.
      sends-less before after (says history) sent failed (less told history stands (less-sent held after text sent failed puts.sends))))

-- the run stopped at a call that reads
pub Shows-stopped : (text : History → List ℕ → Type 0) {old new : DiskView} {store : StoreState} {before held : Option (List ℕ)} {had has : ℕ}
    (status : Status) → IsDiskStop old.tells status → Step (disk_verdict status) old new OnlyReads → has ≡ had →
    OfContent old (λ content. (history : History) → Stands history content → (bytes : List ℕ) → text history bytes →
    AppendsLess before held bytes) →
    Shows text (over old before had) (over new held has) store (Err status)
Shows-stopped text DiskFault stop reads same less = record { reads = reads; sends = less; counted = same; opens = tt; status = tt }
Shows-stopped text RecordChanged stop reads same less = record { reads = reads; sends = less; counted = same; opens = tt; status = stop }
Shows-stopped text Done stop reads same less = absurd stop
Shows-stopped text Usage stop reads same less = absurd stop
Shows-stopped text RefusedStore stop reads same less = absurd stop
Shows-stopped text SourceFault stop reads same less = absurd stop
Shows-stopped text SinkFault stop reads same less = absurd stop
Shows-stopped text OutOfMemory stop reads same less = absurd stop
Shows-stopped text InputLimit stop reads same less = absurd stop

pub Said-stopped : (says : History → List ℕ) {old new : DiskView} {store : StoreState} {before held : Option (List ℕ)} {had has : ℕ} (status : Status) →
    IsDiskStop old.tells status → Step (disk_verdict status) old new OnlyReads → has ≡ had →
    OfContent old (λ content. (history : History) → Stands history content → AppendsLess before held (says history)) →
    Shows (λ history bytes. bytes ≡ says history) (over old before had) (over new held has) store (Err status)
Said-stopped says {before = before} {held = held} status stop reads same less =
    Shows-stopped (λ history bytes. bytes ≡ says history) status stop reads same (λ told history stands bytes is. rw is (less told history stands))

-- what a call of the sink does, by the status of it
pub sink-memory : (sent : Result Unit Failed) → ended (at_sink sent) ≡ OutOfMemory → ⊥
sink-memory (Ok u) is = cc
sink-memory (Err e) is = cc

pub sink-ok : (P : Type 0) (sent : Result Unit Failed) → OnOk sent P → OnOk (at_sink sent) P
sink-ok P (Ok u) is = is
sink-ok P (Err e) is = tt

-- memory doesn't run out where something is shown
pub show-memory : (tells : Bool) (result : Result Unit Status) → IfErr result (IsShowStop tells) → ended result ≡ OutOfMemory → ⊥
show-memory tells result stop is = grind (arith, common_steps)

-- the sink's count where a call of the store stopped the run
pub apply-counted : (tells : Bool) (n : ℕ) (status : Status) → IsApplyStop tells status → Counted (sink_verdict status) n n
apply-counted tells n status stop = grind (arith, common_steps)

-- so the run stops there
pub Continues-apply : {T then : Type 0} (tells : Bool) (n : ℕ) (status : Status) → IsApplyStop tells status →
    Continues {T = T} IsStop tells n n then (Err status)
Continues-apply tells n status stop = record { ready = tt; status = IsStop-apply tells status stop; counted = apply-counted tells n status stop }

-- what stops the run where something is said stops it where an event is done
pub Continues-shown : {then : Type 0} {had has : ℕ} (result : Result (Unit {0}) Status) (mid old : Bool) → mid ≡ old →
    Continues IsShowStop mid had has then result → Continues IsStop old had has then result
Continues-shown (Ok u) mid old same goes = record { ready = goes.ready; status = tt; counted = goes.counted }
Continues-shown (Err status) mid old same goes = record {
  ready = tt;
  status = IsStop-show old status (rw same at goes.status);
  counted = goes.counted;
}
