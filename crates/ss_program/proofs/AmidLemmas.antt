-- Between two lines of a session: how it begins, how it goes on, and where a run stops.
use Rattle.ss_program.proofs.Common.{◌≡◌, ℕ, ◌≤◌, ◌++◌, List, [], ◌∷◌, length, Option, Some, None, Result, Ok, Err, OnOk, refl, sym, ap, ◌∙◌, common_steps}
use Rattle.ss_program.proofs.Common.{append_assoc, arith, append-nil, length-append, at_start, joined, of_content, weaker, KnowsNow, LeavesOnly, DiskView}
use Rattle.ss_program.proofs.Common.{NothingPending, Told, shown_by, Amid, AreOwed, GoesAmid, IsAmid, IsAtRest, TakesFurther, TakesNone, one_line_more}
use Rattle.ss_program.proofs.Common.{owed_by, IsOpen, NoneWait, InputRunState, StandsBeyond, StandsWithin, StopsIn, sealing_by}
use Rattle.ss_program.proofs.Common.{HoldsTalk, appended, after_lines}
use Rattle.ss_program.proofs.Common.{text_of, Talk, Sealing, Each, Shared, Seals, Status}
use Rattle.ss_program.proofs.ReportLemmas.{after_lines-append, moments-more, text_of-append}
use Rattle.ss_program.specs.declared.replies.Seals.TheVariants as seal

-- where none wait, no line is owed anything; which tells how events come to the disk
pub AreOwed-none : (sealing : Sealing) (waiting : Seals) → sealing_by waiting ≡ sealing → AreOwed sealing (owed_by waiting).lines []
AreOwed-none sealing waiting is = grind (arith, common_steps)

pub sealing-owed : (sealing : Sealing) (waiting : Seals) (ls : List (List ℕ)) → AreOwed sealing (owed_by waiting).lines ls →
    sealing_by waiting ≡ sealing
sealing-owed sealing waiting ls few = grind (arith, common_steps)

pub owed-nothing : (waiting : Seals) → NoneWait waiting → (owed_by waiting).text ≡ []
owed-nothing seal.Each none = refl
owed-nothing (seal.Shared replies) none = none

-- one line more is
pub AreOwed-more : (sealing : Sealing) (lines : Option ℕ) (ls : List (List ℕ)) (line : List ℕ) → AreOwed sealing lines ls →
    AreOwed sealing (one_line_more lines) (ls ++ line ∷ [])
AreOwed-more Each None ls line few = few
AreOwed-more Each (Some n) ls line few = omega (arith, few, length-append ls (line ∷ []))
AreOwed-more Shared None ls line few = tt
AreOwed-more Shared (Some n) ls line few = few

-- a session whose store can be called, with nothing staged, and in which no reply waits is at rest
pub IsAtRest-ok : (result : Result (Unit {0}) Status) (disk : DiskView) (session : InputRunState) → OnOk result (IsOpen disk session.store) →
    OnOk result (NoneWait session.waiting) → OnOk result (IsAtRest disk session)
IsAtRest-ok (Ok u) disk session can_be_called none = record { is_open = can_be_called; unsaid = none }
IsAtRest-ok (Err status) disk session can_be_called none = tt

-- an image of some first lines of the rest is one of some first lines of all
StandsWithin-out : (talk : Talk) (out rest : List (List ℕ)) (image : List ℕ) → StandsWithin (after_lines talk out) rest image →
    StandsWithin talk (out ++ rest) image
StandsWithin-out talk out rest image some = (
  out ++ some.0,
  some.1,
  ap (λ ls. out ++ ls) some.2 ∙ sym (append_assoc out some.0 some.1),
  rw after_lines-append some.3,
)

-- and nothing need be sent of what is said to them
pub StandsBeyond-none : (talk : Talk) (ls : List (List ℕ)) (image : List ℕ) → StandsWithin talk ls image → StandsBeyond talk ls 0 image
StandsBeyond-none talk ls image some = (some.0, some.1, some.2, omega arith, some.3)

-- an image of all lines, to which so many bytes were sent
pub StandsBeyond-all : (talk : Talk) (ls : List (List ℕ)) (bytes : ℕ) (image : List ℕ) → bytes ≤ length (text_of talk ls) →
    HoldsTalk (after_lines talk ls) image → StandsBeyond talk ls bytes image
StandsBeyond-all talk ls bytes image few stands = (ls, [], sym (append-nil ls), few, stands)

-- the moments of the rest of some lines
pub moments-out : (talk : Talk) (old new : Told) (ls out rest : List (List ℕ)) → ls ≡ out ++ rest →
    LeavesOnly old new (StandsWithin (after_lines talk out) rest) → LeavesOnly old new (StandsWithin talk ls)
moments-out talk old new ls out rest are run =
    rw are (weaker old new (StandsWithin (after_lines talk out) rest) (StandsWithin talk (out ++ rest)) (StandsWithin-out talk out rest) run)

module _ (sealing : Sealing) (talk : Talk) (ls ms : List (List ℕ)) (before : Option (List ℕ)) (first : Amid) (old mid new : Told) where
  -- a session goes on from where it came to, or stops after it
  pub GoesAmid-then : (second : Amid) → GoesAmid sealing talk ls before first old mid → GoesAmid sealing talk (ls ++ ms) before second mid new →
      GoesAmid sealing talk (ls ++ ms) before second old new
  GoesAmid-then second one two = record {
    amid = two.amid;
    any_moment = joined old mid new (StandsWithin talk (ls ++ ms)) (moments-more talk old mid ls ms one.any_moment) two.any_moment;
  }

  pub StopsIn-after : (after : Option (List ℕ)) (status : Status) → GoesAmid sealing talk ls before first old mid →
      StopsIn sealing talk (ls ++ ms) mid new before after status → StopsIn sealing talk (ls ++ ms) old new before after status
  StopsIn-after after status one two = record {
    at = two.at;
    any_moment = joined old mid new (StandsWithin talk (ls ++ ms)) (moments-more talk old mid ls ms one.any_moment) two.any_moment;
  }

-- no line was taken
pub GoesAmid-none : (sealing : Sealing) (talk : Talk) (ls : List (List ℕ)) (before : Option (List ℕ)) (at : Amid) (disk : Told) → KnowsNow disk →
    IsAmid sealing talk ls before at disk → GoesAmid sealing talk ls before at disk disk
GoesAmid-none sealing talk ls before at disk knows is = record {
  amid = is;
  any_moment = at_start disk (StandsWithin talk ls) knows
      (of_content disk (StandsWithin talk ls) is.durable (rw is.are (StandsWithin-out talk is.out is.rest disk.content is.within)));
}

-- where nothing is owed and nothing is staged, the session is between two lines
pub IsAmid-begin : (sealing : Sealing) (talk : Talk) (ls : List (List ℕ)) (before : Option (List ℕ)) (at : Amid) (disk : Told) →
    at.owed.text ≡ [] → AreOwed sealing at.owed.lines [] → shown_by at.records disk.content ≡ disk.content →
    HoldsTalk (after_lines talk ls) disk.content → NothingPending disk → at.held ≡ appended before (text_of talk ls) →
    at.cursors ≡ (after_lines talk ls).cursors → IsAmid sealing talk ls before at disk
IsAmid-begin sealing talk ls before at disk none few same stands durable said cursors = record {
  out = ls;
  rest = [];
  are = sym (append-nil ls);
  said = said;
  owes = none;
  few = few;
  shown = rw same stands;
  within = ([], [], refl, stands);
  durable = durable;
  cursors = cursors;
}

-- where nothing is owed, all was sent
pub said-all : (sealing : Sealing) (talk : Talk) (ls : List (List ℕ)) (before : Option (List ℕ)) (at : Amid) (disk : Told) →
    at.owed.text ≡ [] → IsAmid sealing talk ls before at disk → at.held ≡ appended before (text_of talk ls)
said-all sealing talk ls before at disk none is =
    let here = text_of talk is.out in
    is.said
    ∙ ap (λ (t : List ℕ). appended before t) (sym (append-nil here))
    ∙ ap (λ (t : List ℕ). appended before (here ++ t)) (sym none ∙ is.owes)
    ∙ ap (λ (t : List ℕ). appended before t) (sym (text_of-append talk is.out is.rest))
    ∙ ap (λ l. appended before (text_of talk l)) (sym is.are)

module _ {sealing : Sealing} {talk : Talk} {ls : List (List ℕ)} {before : Option (List ℕ)} {from mid to : Amid} {old between new : Told} where
  -- lines are taken, and then others
  pub Takes-then : {more mores : List (List ℕ)} {u : Unit {0}} (result : Result (Unit {0}) Status) →
      TakesFurther sealing talk ls more before from mid (Ok u) old between → TakesFurther sealing talk (ls ++ more) mores before mid to result between new →
      TakesFurther sealing talk ls (more ++ mores) before from to result old new
  Takes-then {more = more} {mores = mores} (Ok u) first second = record {
    goes = λ at.
        let one = first.goes at in
        rw append_assoc at (GoesAmid-then sealing talk (ls ++ more) mores before mid old between new to one (second.goes one.amid));
    stops = tt;
  }
  Takes-then {more = more} {mores = mores} (Err status) first second = record {
    goes = tt;
    stops = λ at.
        let one = first.goes at in
        rw append_assoc at (StopsIn-after sealing talk (ls ++ more) mores before mid old between new to.held status one (second.stops one.amid));
  }

  -- or others alone
  pub Takes-next : {mores : List (List ℕ)} {u : Unit {0}} (result : Result (Unit {0}) Status) →
      TakesFurther sealing talk ls [] before from mid (Ok u) old between → TakesFurther sealing talk ls mores before mid to result between new →
      TakesFurther sealing talk ls mores before from to result old new
  Takes-next {mores = mores} result first second =
      Takes-then {more = []} {mores = mores} result first
      (rw append-nil second)

-- none are taken
pub TakesNone-still : (at : Amid) (disk : Told) (u : Unit {0}) → KnowsNow disk → TakesNone at at (Ok u) disk disk
TakesNone-still at disk u knows sealing talk ls before = record {
  goes = λ is. rw append-nil (GoesAmid-none sealing talk ls before at disk knows is);
  stops = tt;
}
