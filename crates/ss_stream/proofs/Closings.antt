-- Joins of a stream one after another, until none is due.
use Rattle.ss_stream.proofs.Common.{◌≡◌, ◌∙◌, ℕ, List, refl, subst, Option, Ok, Result, on_ok_weaker, KnowsNow, LeavesOnly, Told, now, reads-none, weaker}
use Rattle.ss_stream.proofs.Common.{RecordsState, shown_by, Record, params_of, closed, closed_stream, JoinsDue, rule_of, IsStream, Stream, values_in, Window}
use Rattle.ss_stream.proofs.Common.{taken-JoinsDue, entries_of, StreamParts, TurnsShown, IsPartlyJoined, IsSameStream, values_held, with_windows, IsHeldIn}
use Rattle.ss_stream.proofs.Common.{IsJoinedIn, NoEntriesAreDue, StaysOr}
use Rattle.ss_outside.proofs.CrashLemmas.{joined as run_joined}
use Rattle.ss_model.proofs.JoinLemmas.{JoinsDue-append, closed-only_end}
use Rattle.ss_stream.proofs.ShownCalls.{StaysOr-later, TurnsShown-reads, TurnsShown-weaker}
use Rattle.ss_stream.proofs.Joinings.{IsJoinedIn-none}
use Rattle.ss_stream.proofs.Spans.{NoneIsDue-entries, values_held-windows}

-- joins after joins, of windows that hold as many values
joins_more : (s : Stream) (between new : List Window) → JoinsDue (rule_of s.params) (values_in s) s.windows between →
    JoinsDue (rule_of s.params) (values_in (with_windows s between)) between new → JoinsDue (rule_of s.params) (values_in s) s.windows new
joins_more s between new first second =
    JoinsDue-append (rule_of s.params) (values_in s) s.windows between new first
    (rw (taken-JoinsDue (rule_of s.params) (values_in s) s.windows between first) at second)

module _ (others : List (ℕ × Option Record)) (s : Stream) (between : List Window) (first : JoinsDue (rule_of s.params) (values_in s) s.windows between) where
  IsJoinedIn-more : (part : StreamParts) (image : List ℕ) → IsJoinedIn others part (with_windows s between) image → IsJoinedIn others part s image
  IsJoinedIn-more part image is = record { windows = is.windows; joins = joins_more s between is.windows first is.joins; held = is.held }

  IsPartlyJoined-more : (image : List ℕ) → IsPartlyJoined others (with_windows s between) image → IsPartlyJoined others s image
  IsPartlyJoined-more image is = record { part = is.part; windows = is.windows; joins = joins_more s between is.windows first is.joins; held = is.held }

-- what a join makes of a stream, whichever it is and whatever lies beside it
abbrev pub JoinsEach : {E : Type 0} → RecordsState → RecordsState → StreamParts → StreamParts → Told → Told → Result (Unit {0}) E → Type 0
JoinsEach was is part new old after result =
    (others : List (ℕ × Option Record)) (s : Stream) →
    TurnsShown was is (IsHeldIn others part s) (IsPartlyJoined others s) (IsJoinedIn others new s) old after result

pub JoinsEach-none : {E : Type 0} (records : RecordsState) (part : StreamParts) (disk : Told) → KnowsNow disk →
    JoinsEach {E = E} records records part part disk disk (Ok tt)
JoinsEach-none records part disk knows others s =
    TurnsShown-weaker records records (IsHeldIn others part s) (IsHeldIn others part s) (IsPartlyJoined others s) (IsPartlyJoined others s)
    (IsHeldIn others part s) (IsJoinedIn others part s) disk disk (Ok tt) (λ held. held) (λ held image left. left)
    (λ held image is. IsJoinedIn-none others part s image is)
    (TurnsShown-reads records records (IsHeldIn others part s) (IsPartlyJoined others s) disk disk (Ok tt) knows (reads-none disk) refl)

pub JoinsEach-more : {E F : Type 0} (was between is : RecordsState) (part mid_part new : StreamParts) (old mid after : Told) (result : Result (Unit {0}) F) →
    KnowsNow mid → JoinsEach {E = E} was between part mid_part old mid (Ok tt) → JoinsEach between is mid_part new mid after result →
    JoinsEach was is part new old after result
JoinsEach-more was between is part mid_part new old mid after result knows first second others s = record {
  content = λ held.
      let left = (first others s).content held in
      on_ok_weaker result (IsJoinedIn-more others s left.windows left.joins new (shown_by is after.content))
      ((second others (with_windows s left.windows)).content left.held);
  any_moment = λ none held.
      let left = (first others s).content held in
      let before : LeavesOnly old mid (StaysOr old (IsPartlyJoined others s)) = (first others s).any_moment none held in
      let here : StaysOr old (IsPartlyJoined others s) mid.content =
      now old mid (StaysOr old (IsPartlyJoined others s)) knows before mid.content knows.content_is_image in
      run_joined old mid after (StaysOr old (IsPartlyJoined others s)) before
      (weaker mid after (StaysOr mid (IsPartlyJoined others (with_windows s left.windows))) (StaysOr old (IsPartlyJoined others s))
      (StaysOr-later old mid (IsPartlyJoined others (with_windows s left.windows)) (IsPartlyJoined others s)
      (IsPartlyJoined-more others s left.windows left.joins) here)
      ((second others (with_windows s left.windows)).any_moment ((first others s).durable none) left.held));
  durable = λ none. (second others s).durable ((first others s).durable none);
}

-- where none is due the windows are closed
closes : (others : List (ℕ × Option Record)) (part : StreamParts) (s : Stream) (n : ℕ) (image : List ℕ) → IsStream s → n ≡ values_held (entries_of part) →
    NoEntriesAreDue (rule_of (params_of part.target)) n (entries_of part) → IsJoinedIn others part s image →
    IsHeldIn others part (closed_stream s) image
closes others part s n image stream all none is =
    let rule = rule_of s.params in
    let params : params_of part.target ≡ s.params = is.held.agrees.params in
    let held : values_held (entries_of part) ≡ values_in (with_windows s is.windows) =
    values_held-windows is.windows (entries_of part) is.held.stream.windows is.held.agrees.positions in
    let count : n ≡ values_in s = all ∙ held ∙ taken-JoinsDue rule (values_in s) s.windows is.windows is.joins in
    let entries : NoEntriesAreDue rule (values_in s) (entries_of part) =
    rw count at (subst (λ p. NoEntriesAreDue (rule_of p) n (entries_of part)) params none) in
    let end : is.windows ≡ closed rule (values_in s) s.windows =
    closed-only_end rule (values_in s) s.windows is.windows stream.windows is.joins
    (NoneIsDue-entries rule (values_in s) (entries_of part) is.windows is.held.agrees.positions is.held.agrees.times entries) in
    rw end at is.held

pub TurnsShown-closes : {E : Type 0} (was is : RecordsState) (others : List (ℕ × Option Record)) (part now : StreamParts) (s : Stream) (n : ℕ)
    (old new : Told) → n ≡ values_held (entries_of now) →
    NoEntriesAreDue (rule_of (params_of now.target)) n (entries_of now) → JoinsEach {E = E} was is part now old new (Ok tt) →
    TurnsShown {T = Unit {0}} {E = E} was is (IsHeldIn others part s) (IsPartlyJoined others s) (IsHeldIn others now (closed_stream s)) old new (Ok tt)
TurnsShown-closes was is others part now s n old new all none joins =
    TurnsShown-weaker was is (IsHeldIn others part s) (IsHeldIn others part s) (IsPartlyJoined others s) (IsPartlyJoined others s)
    (IsJoinedIn others now s) (IsHeldIn others now (closed_stream s))
    old new (Ok tt) (λ held. held) (λ held image left. left) (λ held image joined. closes others now s n image held.stream all none joined) (joins others s)

pub IsSameStream-more : (part mid new : StreamParts) → IsSameStream part mid → IsSameStream mid new → IsSameStream part new
IsSameStream-more part mid new first second = record {
  id = second.id ∙ first.id;
  name = second.name ∙ first.name;
  target = second.target ∙ first.target;
  slot = second.slot ∙ first.slot;
  landmarks = second.landmarks ∙ first.landmarks;
}
