-- What is said to a line, and what the line does.
use Rattle.ss_connection.proofs.CallLemmas.{unstarved}
use Rattle.ss_connection.proofs.HoldsLemmas.{Brings-read, first-behind, first-more, shows-open}
use Rattle.ss_connection.specs.Calls.{AppliesHeld, Brings, SaysHeld, SaysOpen, SealsHeld}
use Rattle.ss_connection.specs.Holds.{Holds, text_left}
use Rattle.ss_program.proofs.Common.{◌≡◌, ◌∙◌, ◌++◌, ◌∷◌, [], ℕ, List, None, Ok, Err, OnOk, Option, Result, ap, append_assoc, append-nil, joined, on_ok_weaker}
use Rattle.ss_program.proofs.Common.{sym, Brought, History, IsOneReply, KnowsNow, OnlyReads, ReadsAnswer, RecordsState, Reply, StandsForFirst, StoreState}
use Rattle.ss_program.proofs.Common.{Told, flat_map, reply_line, shown_by, text_brought, the_event, weaker}
use Rattle.ss_program.specs.declared.rows.Rows.{Rows}
use Rattle.ss_program.specs.Status.{IsDiskStop}
use Rattle.std.specs.Prelude.{Bool, IfErr, IfOk, true}
use Rattle.ss_program.specs.declared.status.Status.{Status}

-- the text of one reply
pub said-one : {said : List ℕ} (brought : Brought) (reply : Reply) → said ≡ reply_line reply → brought.replies ≡ reply ∷ [] → text_brought brought ≡ said
said-one brought reply says is =
    ap (λ (rs : List Reply). flat_map reply_line rs) is ∙ append-nil (reply_line reply) ∙ sym says

-- what is brought by another name
pub Applies-as : {a b : History → Brought} {was is : RecordsState} {old new : Told} (result : Result Reply Status) → ((history : History) → a history ≡ b history) →
    AppliesHeld a was is result old new → AppliesHeld b was is result old new
Applies-as result same applies = record {
  each = λ history staged held. rw (same (history ++ staged)) at (applies.each history staged held);
  starves = λ history staged held. rw (same (history ++ staged)) at (applies.starves history staged held);
}

module _ {brought : History → Brought} {was is : StoreState} {said : List ℕ} {old new : Told} where
  -- an event was done, and its reply is said
  pub Says-applied : (reply : Reply) → said ≡ reply_line reply → AppliesHeld brought was.records is.records (Ok reply) old new →
      SaysOpen brought was is said (Ok None) old new
  Says-applied reply says applies = record {
    each = λ history held.
        let did = applies.each history [] held in
        let result : Result Reply Status = Ok reply in
        let brings : Brings history (the_event (brought history).event) is.records old new result = rw append-nil at did.0 in (
          record { holds = brings.holds; any_moment = brings.any_moment },
          said-one (brought history) reply says (rw append-nil at did.1) ∙ sym (append-nil said),
        );
    starves = λ history held. tt;
  }

  pub Says-unapplied : (status : Status) → AppliesHeld brought was.records is.records (Err status) old new → SaysOpen brought was is said (Err status) old new
  Says-unapplied status applies = record {
    each = λ history held.
        let did = applies.each history [] held in
        let result : Result Reply Status = Err status in
        let brings : Brings history (the_event (brought history).event) is.records old new result = rw append-nil at did.0 in
        (record { holds = tt; any_moment = brings.any_moment }, tt);
    starves = λ history held. rw append-nil at (applies.starves history [] held);
  }

  -- what only reads brings no event
  pub Says-read : (tells : Bool) (result : Result (Option Rows) Status) → IfErr result (IsDiskStop tells) → KnowsNow old → ((history : History) → (brought history).event ≡ None) →
      OnOk result (shown_by is.records new.content ≡ new.content) → OnlyReads old new →
      ((history : History) → Holds history [] was.records old →
      IfOk result (λ rows. text_brought (brought history) ≡ said ++ text_left rows is.streams history)) → SaysOpen brought was is said result old new
  Says-read tells result stop knows none same reads says = record {
    starves = λ history held. unstarved _ tells result stop;
    each = λ history held. (
      rw (none history) (Brings-read result knows held same reads),
      rw (none history, append-nil) (says history held),
    );
  }

  -- a question was asked, and its answer is said
  pub Says-asked : (reply : Reply) → KnowsNow old → ((history : History) → (brought history).event ≡ None) →
      shown_by is.records new.content ≡ new.content → said ≡ reply_line reply → ReadsAnswer (IsOneReply was.records brought) (Ok reply) old new →
      SaysOpen brought was is said (Ok None) old new
  Says-asked reply knows none same says asks =
      Says-read true (Ok None) tt knows none same asks.reads
      (λ history held. said-one (brought history) reply says (asks.answer history (shows-open held)) ∙ sym (append-nil said))

-- What is staged came to the disk, and then what a line brings.
module _ {brought : History → Brought} {was mid is : StoreState} {said : List ℕ} {old then new : Told} where
  pub Says-sealed : (result : Result (Option Rows) Status) → SealsHeld was.records mid.records (Ok tt) old then →
      SaysOpen brought mid is said result then new → SaysHeld brought was is said result old new
  Says-sealed result seals says = record {
    each = λ history staged held.
        let before = seals.each history staged held in
        let more = the_event (brought (history ++ staged)).event in
        let did = says.each (history ++ staged) before.holds in
        let P = StandsForFirst history (staged ++ more) in (
          record {
            holds = on_ok_weaker result (λ (holds : Holds ((history ++ staged) ++ more) [] is.records new). rw append_assoc at holds) did.0.holds;
            any_moment = joined old then new P
                (weaker old then (StandsForFirst history staged) P (λ image some. first-more history staged more image some) before.any_moment)
                (weaker then new (StandsForFirst (history ++ staged) more) P (λ image some. first-behind history staged more image some)
                did.0.any_moment);
          },
          did.1,
        );
    starves = λ history staged held. says.starves (history ++ staged) (seals.each history staged held).holds;
  }

pub Says-unsealed : {brought : History → Brought} {was is : StoreState} {said : List ℕ} {old new : Told} (tells : Bool) (status : Status) →
    IsDiskStop tells status → SealsHeld was.records is.records (Err status) old new → SaysHeld brought was is said (Err status) old new
Says-unsealed {brought = brought} {old = old} {new = new} tells status stop seals = record {
  starves = λ history staged held.
      let result : Result (Option Rows) Status = Err status in unstarved _ tells result stop;
  each = λ history staged held.
      let before = seals.each history staged held in
      let more = the_event (brought (history ++ staged)).event in (
        record {
          holds = tt;
          any_moment = weaker old new (StandsForFirst history staged) (StandsForFirst history (staged ++ more))
              (λ image some. first-more history staged more image some) before.any_moment;
        },
        tt,
      );
}
