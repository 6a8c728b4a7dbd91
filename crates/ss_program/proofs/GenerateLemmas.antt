-- A session over a generated file: what was answered so far, what is counted of it, and how it ends.
use Rattle.ss_program.proofs.Common.{◌≡◌, ℕ, zero, suc, ◌+◌, ◌++◌, List, [], ◌∷◌, length, map, take, Bool, true, false, cond, Option, None, Ok, Err, Result}
use Rattle.ss_program.proofs.Common.{refl, sym, ap, ◌∙◌, subst, append_assoc, arith, count_by, ⊤, flat_map, append-nil, length-append, map-append}
use Rattle.ss_program.proofs.Common.{take-append-le, take-append-add, IsSayable, printed, Command, joined, now, of_content, weaker, KnowsNow, LeavesOnly}
use Rattle.ss_program.proofs.Common.{NothingPending, Told, reply_line, Reply, state, OpensAs, Stands, StandsShort, OpenError, SendsRows, GoesAmid, TakesFurther}
use Rattle.ss_program.proofs.Common.{TakesNone, StagesBrought, SealsHistory, amid, owed_by, with_text, said_line, turn_of, turn_brought, IsSealed, RecordsState}
use Rattle.ss_program.proofs.Common.{shown-sealed, no_cursors, Each, Talk, DiskFault, Generates, StandsForAll, StandsForGenerated, generated_lines, first_lines}
use Rattle.ss_program.proofs.Common.{is_done, is_refused, last_six, summary, summary_lines, Brought, History, brings, command_brings, history_after}
use Rattle.ss_program.proofs.Common.{meaning_brings, StandsWithin, AsRefused, status_of_open, appended, AppendsFront, AppendsLess, Sends, after_lines}
use Rattle.ss_program.proofs.Common.{plain_after, replies, plain_talk, plain_over, HasRun, IsSingle, Tallies, Status, Done, SinkFault, Failed}
use Rattle.ss_command.proofs.PrintLemmas.{meaning-printed}
use Rattle.ss_generator.specs.Commands.{commands, of_round, of_rounds, opening, queries}
use Rattle.ss_generator.specs.Numbers.{time, value}
use Rattle.ss_program.specs.declared.generate.Tally.{Tally}
use Rattle.ss_program.proofs.AmidLemmas.{GoesAmid-none, GoesAmid-then, IsAmid-begin}
use Rattle.ss_program.proofs.BroughtLemmas.{TakesBrought-owed, TakesTurn-said, TakesTurn-moments}
use Rattle.ss_program.proofs.OpeningLemmas.{unopened}
use Rattle.ss_program.proofs.HeldLemmas.{StandsShortForFirst-within}
use Rattle.ss_program.proofs.OverLemmas.{accepted-over}
use Rattle.ss_program.proofs.SealLemmas.{TakesNone-sent, TakesNone-unsealed, each-sent}
use Rattle.ss_program.proofs.SendLemmas.{AppendsFront-all, appended-appended, appended-nil}
use Rattle.ss_program.proofs.ReportLemmas.{after_lines-accepted, moments-more, replies-append}
use Rattle.ss_program.proofs.TextLemmas.{said_line-some}
use Rattle.ss_program.specs.declared.replies.Seals.TheVariants as seal

-- a printed command brings what the command does
pub brings-printed : (history : History) (command : Command) → IsSayable command → brings history (printed command) ≡ command_brings history command
brings-printed history command sayable = ap (λ m. meaning_brings history m) (meaning-printed command sayable)

-- each command of the file is a single one
abbrev pub AreSingle : List Command → Type 0
AreSingle [] = ⊤
AreSingle (command ∷ cs) = IsSingle command × AreSingle cs

single-append : (cs ds : List Command) → AreSingle cs → AreSingle ds → AreSingle (cs ++ ds)
single-append [] ds first second = second
single-append (c ∷ cs) ds first second = (first.0, single-append cs ds first.1 second)

one_or_none : (b : Bool) (command : Command) → IsSingle command → AreSingle (cond b (command ∷ []) [])
one_or_none true command single = (single, tt)
one_or_none false command single = tt

single-rounds : (seed count : ℕ) → AreSingle (of_rounds seed count)
single-rounds seed zero = tt
single-rounds seed (suc i) =
    single-append (of_rounds seed i) (of_round (suc i) (time seed (suc i)) (value seed (suc i))) (single-rounds seed i)
    (single-append (opening (suc i) (time seed (suc i))) _ (one_or_none _ _ tt) (tt, one_or_none _ _ tt))

pub single-commands : (seed count : ℕ) → AreSingle (commands seed count)
unfolding commands
single-commands seed count =
    (tt, single-append (of_rounds seed count) (queries (time seed count)) (single-rounds seed count) (tt, (tt, (tt, (tt, (tt, (tt, tt)))))))

-- a conversation of plain lines stays one
plain_over-lines : (used : Option ℕ) (history : History) (ls : List (List ℕ)) →
    after_lines (plain_over used history) ls ≡ plain_over used (plain_after history ls)
plain_over-lines used history [] = refl
plain_over-lines used history (line ∷ ls) = plain_over-lines used (history_after history (brings history line)) ls

-- so the turn of a printed command in it is what the command brings
turn-printed : (used : Option ℕ) (history : History) (ls : List (List ℕ)) (command : Command) → IsSayable command →
    turn_of (after_lines (plain_over used history) ls) (printed command)
    ≡ turn_brought None (after_lines (plain_over used history) ls) (command_brings (after_lines (plain_over used history) ls).history command)
turn-printed used history ls command sayable =
    rw plain_over-lines (ap (λ b. turn_brought None (plain_over used (plain_after history ls)) b) (brings-printed (plain_after history ls) command sayable))

-- The commands that were done, and those that are left, are all of the file. Those were taken as a session takes lines, each sealed by
-- itself, whose replies go to a sink that doesn't tell what it holds.
pub record IsAt (used : Option ℕ) (history : History) (seed count : ℕ) (left : List Command) (records : RecordsState) (old new : Told) (tally : Tally) : Type 0
  where
    pub done : List Command
    pub all : commands seed count ≡ done ++ left
    pub tallied : Tallies (length (map printed done)) (replies history (map printed done)) tally
    pub goes : GoesAmid Each (plain_over used history) (map printed done) None (amid records (owed_by seal.Each) None no_cursors) old new

pub IsAt-start : (used : Option ℕ) (history : History) (seed count : ℕ) (left : List Command) (records : RecordsState) (disk : Told) (tally : Tally) →
    left ≡ commands seed count → KnowsNow disk → NothingPending disk → IsSealed records.journal → StandsShort used history disk.content → Tallies 0 [] tally →
    IsAt used history seed count left records disk disk tally
IsAt-start used history seed count left records disk tally all knows none sealed stands tallies = record {
  done = [];
  all = sym all;
  tallied = tallies;
  goes = let at = amid records (owed_by seal.Each) None no_cursors in
      GoesAmid-none Each (plain_over used history) [] None at disk knows
      (IsAmid-begin Each (plain_over used history) [] None at disk refl refl (shown-sealed records.journal disk.content sealed) stands none refl refl);
}

-- A further command is done: its event, if any, is staged, and then it is sealed.
module _ {used : Option ℕ} {history : History} {seed count : ℕ} {left rest : List Command} {was : RecordsState} {old now : Told} {tally : Tally}
    (command : Command) (at : IsAt used history seed count left was old now tally) (next : left ≡ command ∷ rest) (sayable : IsSayable command) where
  abbrev ls : List (List ℕ)
  ls = map printed at.done

  abbrev talk : Talk
  talk = plain_over used history

  abbrev brought : History → Brought
  brought history = command_brings history command

  -- the moments before it and in it are among those of the whole file
  moments-file : {end : Told} → LeavesOnly now end (StandsWithin talk (ls ++ printed command ∷ [])) →
      LeavesOnly old end (StandsWithin talk (generated_lines seed count))
  moments-file {end = end} run =
      let all : generated_lines seed count ≡ (ls ++ printed command ∷ []) ++ map printed rest =
      ap (λ cs. map printed cs) (at.all ∙ ap (λ cs. at.done ++ cs) next) ∙ map-append printed at.done (command ∷ rest)
      ∙ sym (append_assoc ls (printed command ∷ []) (map printed rest)) in
      rw all (moments-more talk old end (ls ++ printed command ∷ []) (map printed rest) (joined old now end (StandsWithin talk (ls ++ printed command ∷ []))
      (moments-more talk old now ls (printed command ∷ []) at.goes.any_moment) run))

  -- the run stopped where it was staged
  pub IsAt-stop : {mid : RecordsState} {then : Told} (status : Status) → KnowsNow then → StagesBrought brought was mid (Err status) now then →
      LeavesOnly old then (StandsWithin talk (generated_lines seed count))
  IsAt-stop {mid = mid} {then = then} status knows stages =
      moments-file (TakesTurn-moments (λ here. turn_brought None here (brought here.history)) was mid seal.Each None no_cursors now then knows (Err status)
      (λ here. stages.turns here.history) Each talk ls None (printed command) (turn-printed used history ls command sayable) at.goes.amid)

  module _ {mid is : RecordsState} {then new : Told} (reply : Reply) (knows : KnowsNow then) (stages : StagesBrought brought was mid (Ok reply) now then)
      (new_knows : KnowsNow new) where
    takes : (result : Result (Unit {0}) Status) →
        TakesNone (amid mid (with_text (owed_by seal.Each) (said_line None reply)) None no_cursors) (amid is (owed_by seal.Each) None no_cursors)
        result then new →
        TakesFurther Each talk ls (printed command ∷ []) None (amid was (owed_by seal.Each) None no_cursors)
        (amid is (owed_by seal.Each) None no_cursors) result now new
    takes result seals =
        TakesTurn-said (λ here. turn_brought None here (brought here.history)) tt result
        (TakesBrought-owed None brought was mid seal.Each None no_cursors now then knows reply tt stages) seals
        Each talk ls None (printed command) (turn-printed used history ls command sayable)

    -- or where it was sealed
    pub IsAt-unsealed : (e : Failed) → SealsHistory {T = Unit {0}} mid is (Err e) then new →
        LeavesOnly old new (StandsWithin talk (generated_lines seed count))
    IsAt-unsealed e seals =
        moments-file ((takes (Err DiskFault)
        (TakesNone-unsealed mid is (with_text (owed_by seal.Each) (said_line None reply)) (owed_by seal.Each) None then new e new_knows seals
        (refl, said_line-some None reply) no_cursors)).stops at.goes.amid).any_moment

    -- or it was done
    pub IsAt-more : (u : Unit {0}) (after : Tally) → SealsHistory {E = Failed} mid is (Ok u) then new → IsSealed is.journal →
        ((lines : ℕ) (all : List Reply) → Tallies lines all tally → Tallies (lines + 1) (all ++ reply ∷ []) after) →
        IsAt used history seed count rest is old new after
    IsAt-more u after seals sealed tallies =
        let here = after_lines talk ls in
        let replied : replies history (ls ++ printed command ∷ []) ≡ replies history ls ++ reply ∷ [] =
        replies-append history ls (printed command ∷ [])
        ∙ ap (λ rs. replies history ls ++ rs) (append-nil (brings (plain_after history ls) (printed command)).replies
        ∙ ap (λ (b : Brought). b.replies) (brings-printed (plain_after history ls) command sayable)
        ∙ ap (λ (t : Talk). (brought t.history).replies) (sym (plain_over-lines used history ls)) ∙ stages.reply here.history at.goes.amid.shown.0) in
        let lines : map printed (at.done ++ command ∷ []) ≡ ls ++ printed command ∷ [] = map-append printed at.done (command ∷ []) in
        record {
          done = at.done ++ command ∷ [];
          all = at.all ∙ ap (λ cs. at.done ++ cs) next ∙ sym (append_assoc at.done (command ∷ []) rest);
          tallied = rw (lines, length-append, replied) (tallies (length ls) (replies history ls) at.tallied);
          goes = rw lines (GoesAmid-then Each talk ls (printed command ∷ []) None (amid was (owed_by seal.Each) None no_cursors) old now new
              (amid is (owed_by seal.Each) None no_cursors) at.goes ((takes (Ok tt)
              (TakesNone-sent mid is (with_text (owed_by seal.Each) (said_line None reply)) (owed_by seal.Each) None None then new u (Ok tt) new_knows
              (shown-sealed is.journal new.content sealed) seals refl (each-sent 1) (λ bytes less. (refl, less)) refl no_cursors)).goes at.goes.amid));
        }

-- all commands were done
pub IsAt-end : (used : Option ℕ) (history : History) (seed count : ℕ) (left : List Command) (records : RecordsState) (old new : Told) (tally : Tally) →
    IsAt used history seed count left records old new tally → IsSealed records.journal → left ≡ [] →
    HasRun used history (generated_lines seed count) old new tally
IsAt-end used history seed count left records old new tally at sealed none =
    let ls = map printed at.done in
    rw (at.all ∙ ap (λ cs. at.done ++ cs) none ∙ append-nil at.done) (record {
      tallied = at.tallied;
      stands = rw (shown-sealed, plain_over-lines) at at.goes.amid.shown;
      durable = at.goes.amid.durable;
      any_moment = at.goes.any_moment;
    })

-- a text was sent, and then another, or less than it
pub Sends-then : (before held after : Option (List ℕ)) (a b : List ℕ) (sent : Result (Unit {0}) Failed) → held ≡ appended before a →
    Sends held after b sent → Sends before after (a ++ b) sent
Sends-then before held after a b (Ok u) is sends = sends ∙ ap (λ o. appended o b) is ∙ appended-appended before a b
Sends-then before held after a b (Err e) is less = (
  length a + less.0,
  omega (arith, less.1, length-append a b),
  less.2 ∙ ap (λ o. appended o (take less.0 b)) is ∙ appended-appended before a (take less.0 b) ∙ ap (λ bs. appended before bs)
      (sym (take-append-add a b less.0)),
)

-- less than the first of two texts was sent
pub AppendsLess-longer : (before after : Option (List ℕ)) (a b : List ℕ) → AppendsLess before after a → AppendsLess before after (a ++ b)
AppendsLess-longer before after a b less = (
  less.0,
  omega (arith, less.1, length-append a b),
  less.2 ∙ ap (λ bs. appended before bs) (sym (take-append-le less.0 a b (omega (arith, less.1)))),
)

-- the counts of a tally are those of its replies
counts-tallied : (seed count lines : ℕ) (all : List Reply) (tally : Tally) → Tallies lines all tally →
    first_lines seed count tally.lines tally.done tally.refused ≡ first_lines seed count lines (count_by is_done all) (count_by is_refused all)
counts-tallied seed count lines all tally tallies =
    ap (λ n. first_lines seed count n tally.done tally.refused) tallies.lines
    ∙ ap (λ n. first_lines seed count lines n tally.refused) tallies.done
    ∙ ap (λ n. first_lines seed count lines (count_by is_done all) n) tallies.refused

-- the counts were sent, and then the last replies, or less than these
pub Sends-summary : (before held after : Option (List ℕ)) (seed count lines : ℕ) (all : List Reply) (tally : Tally) (sent : Result (Unit {0}) Failed) →
    Tallies lines all tally → held ≡ appended before (first_lines seed count tally.lines tally.done tally.refused) →
    SendsRows None held after tally.last.items sent → Sends before after (summary_lines seed count lines all) sent
Sends-summary before held after seed count lines all tally sent tallies is rows =
    Sends-then before held after (first_lines seed count lines (count_by is_done all) (count_by is_refused all)) (flat_map reply_line (last_six all)) sent
    (is ∙ ap (λ bs. appended before bs) (counts-tallied seed count lines all tally tallies)) (rw tallies.last at rows)

-- or less than the counts
pub Sends-less : (before after : Option (List ℕ)) (seed count lines : ℕ) (all : List Reply) (tally : Tally) → Tallies lines all tally →
    AppendsLess before after (first_lines seed count tally.lines tally.done tally.refused) → AppendsLess before after (summary_lines seed count lines all)
Sends-less before after seed count lines all tally tallies less =
    AppendsLess-longer before after (first_lines seed count lines (count_by is_done all) (count_by is_refused all)) (flat_map reply_line (last_six all))
    (subst (λ bs. AppendsLess before after bs) (counts-tallied seed count lines all tally tallies) less)

-- an image of the history after some first lines of the file
pub StandsForGenerated-within : (used : Option ℕ) (history : History) (seed count : ℕ) (image : List ℕ) →
    StandsWithin (plain_over used history) (generated_lines seed count) image →
    StandsForGenerated used history seed count image
StandsForGenerated-within used history seed count image within = rw (accepted-over used (plain_talk history) (generated_lines seed count)) at
    (StandsShortForFirst-within (plain_over used history) (generated_lines seed count) image within)

-- the run stopped at a command, or before the first, or the sink failed at the summary
pub Generates-stop : (used : Option ℕ) (history : History) (seed count : ℕ) (before after : Option (List ℕ)) (old new : Told) (status : Status) →
    (status ≡ Done → ⊥) →
    ((status ≡ SinkFault → ⊥) → after ≡ before) → KnowsNow new → AppendsFront before after (summary history seed count) →
    LeavesOnly old new (StandsWithin (plain_over used history) (generated_lines seed count)) → Generates used history seed count before after old new status
Generates-stop used history seed count before after old new status going silent knows front run =
    let weak = weaker old new (StandsWithin (plain_over used history) (generated_lines seed count)) (StandsForGenerated used history seed count)
    (StandsForGenerated-within used history seed count) run in
    record {
      front = front;
      whole = λ is. absurd (going is);
      silent = λ _. silent;
      any_moment = weak;
      kept = now old new (StandsForGenerated used history seed count) knows weak;
      done = λ is. absurd (going is);
      all = λ is. absurd (going is);
    }

-- all commands were done, and the summary was sent
pub Generates-done : (used : Option ℕ) (history : History) (seed count : ℕ) (before after : Option (List ℕ)) (old new : Told) (tally : Tally) → KnowsNow new →
    HasRun used history (generated_lines seed count) old new tally → after ≡ appended before (summary history seed count) →
    Generates used history seed count before after old new Done
Generates-done used history seed count before after old new tally knows ran sent =
    let weak = weaker old new (StandsWithin (plain_over used history) (generated_lines seed count)) (StandsForGenerated used history seed count)
    (StandsForGenerated-within used history seed count) ran.any_moment in
    let all : StandsForAll used history seed count new.content = rw after_lines-accepted at ran.stands in
    record {
      front = AppendsFront-all before after (summary history seed count) sent;
      whole = λ _. sent;
      silent = λ going. absurd (going refl);
      any_moment = weak;
      kept = now old new (StandsForGenerated used history seed count) knows weak;
      done = λ _. all;
      all = λ _. of_content new (StandsForAll used history seed count) ran.durable all;
    }

-- What opening the store left comes before.
pub Generates-opened : {used : Option ℕ} {history : History} {seed count : ℕ} {before after : Option (List ℕ)} {old mid new : Told} {status : Status} →
    LeavesOnly old mid (StandsShort used history) →
    Generates used history seed count before after mid new status → Generates used history seed count before after old new status
Generates-opened {used = used} {history = history} {seed = seed} {count = count} {old = old} {mid = mid} {new = new} opened run = record {
  front = run.front;
  whole = run.whole;
  silent = run.silent;
  any_moment = joined old mid new (StandsForGenerated used history seed count)
      (weaker old mid (StandsShort used history) (StandsForGenerated used history seed count)
      (λ image is. StandsForGenerated-within used history seed count image ([], generated_lines seed count, refl, is)) opened) run.any_moment;
  kept = run.kept;
  done = run.done;
  all = run.all;
}

-- the store wasn't opened
pub Generates-unopened : (used : Option ℕ) (history : History) (seed count : ℕ) {before after : Option (List ℕ)} {old new : Told} (had has : ℕ)
    (error : OpenError) → OpensAs old.content (Err error) → Stands history old.content → AsRefused error before after had has → KnowsNow new →
    LeavesOnly old new (StandsShort used history) → Generates used history seed count before after old new (status_of_open error)
Generates-unopened used history seed count {before = before} {after = after} {old = old} {new = new} had has error opens stands said knows opened =
    let un = unopened old.content (state history) had has error stands.state opens said in
    Generates-stop used history seed count before after old new (status_of_open error) un.1 (λ _. un.0) knows (0, un.0 ∙ sym (appended-nil before))
    (weaker old new (StandsShort used history) (StandsWithin (plain_over used history) (generated_lines seed count))
    (λ image is. ([], generated_lines seed count, refl, is)) opened)
