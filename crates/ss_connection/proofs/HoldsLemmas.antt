-- What a connection holds, from call to call.
use Rattle.ss_connection.specs.Calls.{Adds, AsksHeld, Brings, OnStarved, SealsHeld, StagesHeld}
use Rattle.ss_connection.specs.Holds.{Holds}
use Rattle.ss_journal.specs.Kept.{shown}
use Rattle.ss_program.specs.declared.status.Status.{Status}
use Rattle.std.proofs.lemmas.Result.{IfOk-weaker}
use Rattle.ss_program.proofs.Common.{◌≡◌, ◌∙◌, ◌⊎◌, ⊎_elim, ◌+◌, ◌++◌, [], ℕ, List, None, Ok, Err, OnOk, Result, ap, append_assoc, append-nil, arith}
use Rattle.ss_program.proofs.Common.{Brought, Happened, History, IsShort, KnowsNow, LeavesOnly, NothingPending, RecordsState, SealsHistory, StagesBrought, Stands}
use Rattle.ss_program.proofs.Common.{StandsAround, StandsForFirst, StandsShort, Told, TurnsHistory, history_after, joined, length, length-append}
use Rattle.ss_program.proofs.Common.{now, on_ok_weaker, shown_by, sym, take, take-append-add, take-append-le, take_all, the_event, weaker, Reply}
use Rattle.ss_program.proofs.Common.{IsOneReply, OnlyReads, ReadsAnswer, of_content, read_leaves, nothing_pending-same}

module _ (history : History) (events more : List Happened) (image : List ℕ) where
  -- an image for some first of the events is one for some first of more
  pub first-more : StandsForFirst history events image → StandsForFirst history (events ++ more) image
  first-more some = (
    some.0,
    omega (arith, some.1, length-append events more),
    rw (take-append-le some.0 events more some.1) some.2,
  )

  -- and so is one for some first of those that come behind the events
  pub first-behind : StandsForFirst (history ++ events) more image → StandsForFirst history (events ++ more) image
  first-behind some = (
    length events + some.0,
    omega (arith, some.1, length-append events more),
    rw (take-append-add events more some.0) (rw append_assoc at some.2),
  )

-- an image for all of the events, and one for none
pub first-all : (history : History) (events : List Happened) (image : List ℕ) → Stands (history ++ events) image → StandsForFirst history events image
first-all history events image stands = (length events, omega arith, rw (take_all (length events) events (omega arith)) stands)

pub first-none : (history : History) (events : List Happened) (image : List ℕ) → Stands history image → StandsForFirst history events image
first-none history events image stands = (0, omega arith, rw append-nil stands)

-- both of two facts of what was answered
pub ok-both : {T E : Type 0} (A B : Type 0) (result : Result T E) → OnOk result A → OnOk result B → OnOk result (A × B)
ok-both A B (Ok value) a b = (a, b)
ok-both A B (Err e) a b = tt

-- A call that turns the history that records show, with events staged behind it, adds others behind these.
pub turns-adds : {T S E : Type 0} {history : History} {staged more : List Happened} {was is : RecordsState} {old new : Told} (step : Result T E)
    (result : Result S Status) (M : List ℕ → Type 0) (then : History) → ((X : Type 0) → OnOk step X → OnOk result X) → Holds history staged was old →
    KnowsNow new → then ≡ history ++ (staged ++ more) → ((image : List ℕ) → M image → StandsForFirst history (staged ++ more) image) →
    TurnsHistory was is (history ++ staged) M then old new step → Adds history staged more is old new result
turns-adds {history = history} {staged = staged} {more = more} {was = was} {is = is} {old = old} {new = new} step result M then keeps held knows are gives
    turns =
    let first = held.within in
    let sealed = history ++ take first.0 staged in
    let P = StandsForFirst history (staged ++ more) in
    let run : LeavesOnly old new P =
    weaker old new (λ image. StandsShort None sealed image ⊎ (M image × IsShort None (history ++ staged) image)) P
    (λ image. ⊎_elim (λ before. first-more history staged more image (first.0, first.1, before.0)) (λ then. gives image then.0))
    (turns.any_moment held.durable None sealed (first.2, tt) (held.shown, tt)) in
    let here = now old new P knows run new.content knows.content_is_image in
    let stands : OnOk step (Stands then (shown_by is new.content)) = turns.content held.shown in
    let both = ok-both (Stands then (shown_by is new.content)) (NothingPending new) step stands (turns.durable held.durable) in
    record {
      holds = keeps (Holds history (staged ++ more) is new)
          (on_ok_weaker step (λ (has : Stands then (shown_by is new.content) × NothingPending new). record {
            shown = rw are at has.0;
            within = here;
            durable = has.1;
          }) both);
      any_moment = run;
    }

-- Where nothing is staged then, all of it has come to the disk.
settled : (history : History) (events : List Happened) (is : RecordsState) (disk : Told) → shown_by is disk.content ≡ disk.content →
    Holds history events is disk → Holds (history ++ events) [] is disk
settled history events is disk same held = record {
  shown = rw append-nil held.shown;
  within = first-none (history ++ events) [] disk.content (rw same at held.shown);
  durable = held.durable;
}

pub Brings-sealed : {T : Type 0} {history : History} {staged more : List Happened} {is : RecordsState} {old new : Told} (result : Result T Status) →
    OnOk result (shown_by is new.content ≡ new.content) → Adds history staged more is old new result →
    Brings history (staged ++ more) is old new result
Brings-sealed {history = history} {staged = staged} {more = more} {is = is} {new = new} result same adds = record {
  holds = on_ok_weaker result
      (λ (has : (shown_by is new.content ≡ new.content) × Holds history (staged ++ more) is new). settled history (staged ++ more) is new has.0 has.1)
      (ok-both (shown_by is new.content ≡ new.content) (Holds history (staged ++ more) is new) result same adds.holds);
  any_moment = adds.any_moment;
}

-- what is brought is staged behind what a connection holds
pub Stages-held : {brought : History → Brought} {was is : RecordsState} {old new : Told} (result : Result Reply Status) → KnowsNow new →
    ((P : Type 0) → OnStarved result P) → StagesBrought brought was is result old new → StagesHeld brought was is result old new
Stages-held {brought = brought} result knows unstarved stages = record {
  starves = λ history staged held. unstarved _;
  each = λ history staged held.
      let here = brought (history ++ staged) in
      let more = the_event here.event in (
        turns-adds result result (StandsAround (history ++ staged) here) (history_after (history ++ staged) here) (λ X has. has) held knows
            (append_assoc history staged more)
            (λ image. ⊎_elim (λ before. first-more history staged more image (first-all history staged image before))
            (λ then. first-all history (staged ++ more) image (rw append_assoc at then))) (stages.turns (history ++ staged)),
        stages.reply (history ++ staged) held.shown,
      );
}

-- what is staged comes to the disk
pub Seals-held : {T E : Type 0} {was is : RecordsState} {old new : Told} (step : Result T E) (result : Result (Unit {0}) Status) →
    ((X : Type 0) → OnOk step X → OnOk result X) → KnowsNow new → OnOk result (shown_by is new.content ≡ new.content) →
    SealsHistory was is step old new → SealsHeld was is result old new
Seals-held {was = was} {is = is} {old = old} {new = new} step result keeps knows same seals = record {
  each = λ history staged held.
      let adds : Adds history staged [] is old new result =
      turns-adds step result (Stands (history ++ staged)) (history ++ staged) keeps held knows (ap (λ es. history ++ es) (sym (append-nil staged)))
      (λ image stands. rw append-nil (first-all history staged image stands)) (seals (history ++ staged)) in
      rw append-nil at (Brings-sealed result same adds);
}

-- a run before it
pub Brings-after : {T S : Type 0} {history : History} {events : List Happened} {is : RecordsState} {old mid new : Told} (step : Result T Status)
    (result : Result S Status) → ((X : Type 0) → OnOk step X → OnOk result X) → LeavesOnly old mid (StandsForFirst history events) →
    Brings history events is mid new step → Brings history events is old new result
Brings-after {history = history} {events = events} {is = is} {old = old} {mid = mid} {new = new} step result keeps run brings = record {
  holds = keeps (Holds (history ++ events) [] is new) brings.holds;
  any_moment = joined old mid new (StandsForFirst history events) run brings.any_moment;
}

-- with nothing staged the disk stands for the history, and records show it
pub stands-open : {history : History} {was : RecordsState} {disk : Told} → Holds history [] was disk → Stands history disk.content
stands-open held =
    let first = held.within in rw (take_all {A = Happened} first.0 [] (omega arith), append-nil) at first.2

pub shows-open : {history : History} {was : RecordsState} {disk : Told} → Holds history [] was disk → Stands history (shown_by was disk.content)
shows-open held = rw append-nil at held.shown

-- A call that only reads, where nothing is staged, leaves all as it is.
pub Brings-read : {T : Type 0} {history : History} {was is : RecordsState} {old new : Told} (result : Result T Status) → KnowsNow old →
    Holds history [] was old → OnOk result (shown_by is new.content ≡ new.content) → OnlyReads old new → Brings history [] is old new result
Brings-read {history = history} {is = is} {old = old} {new = new} result knows held same reads =
    let stands : Stands history new.content = rw reads.same.content (stands-open held) in
    let durable = nothing_pending-same old new reads.same held.durable in
    record {
      holds = on_ok_weaker result (λ (shows : shown_by is new.content ≡ new.content). record {
        shown = rw (append-nil, append-nil, shows) stands;
        within = first-none (history ++ []) [] new.content (rw append-nil stands);
        durable = durable;
      }) same;
      any_moment = weaker old new old.may_leave (StandsForFirst history [])
          (λ image left. of_content old (StandsForFirst history []) held.durable held.within image left) (read_leaves old new knows reads);
    }

-- A call that only reads leaves all as it is, whatever is staged.
pub Adds-read : {T : Type 0} {history : History} {staged : List Happened} {was is : RecordsState} {old new : Told} (result : Result T Status) →
    KnowsNow old → Holds history staged was old → OnOk result (shown_by is new.content ≡ shown_by was old.content) → OnlyReads old new →
    Adds history staged [] is old new result
Adds-read {history = history} {staged = staged} {was = was} {is = is} {old = old} {new = new} result knows held same reads = record {
  holds = on_ok_weaker result (λ (shows : shown_by is new.content ≡ shown_by was old.content). record {
    shown = rw (append-nil, shows) held.shown;
    within = rw (append-nil, reads.same.content) held.within;
    durable = nothing_pending-same old new reads.same held.durable;
  }) same;
  any_moment = rw append-nil (weaker old new old.may_leave (StandsForFirst history staged)
      (λ image left. of_content old (StandsForFirst history staged) held.durable held.within image left) (read_leaves old new knows reads));
}

-- so does a question
pub Asks-held : {brought : History → Brought} {was is : RecordsState} {old new : Told} (result : Result Reply Status) → KnowsNow old →
    OnOk result (is.journal ≡ was.journal) → ReadsAnswer (IsOneReply was brought) result old new → AsksHeld brought was is result old new
Asks-held {was = was} {is = is} {old = old} {new = new} result knows same asks = record {
  each = λ history staged held. (
    Adds-read result knows held (on_ok_weaker result (λ (journal : is.journal ≡ was.journal).
        ap (λ (bytes : List ℕ). shown_by is bytes) asks.reads.same.content ∙ ap (λ j. shown j old.content) journal) same) asks.reads,
    IfOk-weaker result _ _ (λ reply answers. answers (history ++ staged) held.shown) asks.answer,
  );
  reads = asks.reads;
}
