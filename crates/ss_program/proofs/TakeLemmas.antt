-- How a session goes on from piece to piece of its input.
use Rattle.ss_program.proofs.Common.{◌++◌, List, [], ℕ, Option, append-nil, at_start, joined, of_content, KnowsNow, LeavesOnly, Told, GoesOn}
use Rattle.ss_program.proofs.Common.{HasReplied, HasTaken, InputRunState, StandsWithin, StopsIn, Talk, Sealing, Status, steps_so_far}
use Rattle.ss_program.proofs.StepsLemmas.{steps-more}
use Rattle.ss_program.proofs.ReportLemmas.{StandsWithin-all, moments-more}

-- the lines of more input
any_moment-input : (talk : Talk) (old new : Told) (taken more : List ℕ) → LeavesOnly old new (StandsWithin talk (steps_so_far talk.form taken)) →
    LeavesOnly old new (StandsWithin talk (steps_so_far talk.form (taken ++ more)))
any_moment-input talk old new taken more run =
    let rest = steps-more talk.form taken more in
    rw rest.1 (moments-more talk old new (steps_so_far talk.form taken) rest.0 run)

-- a session that took no more bytes yet
pub GoesOn-start : (sealing : Sealing) (talk : Talk) (disk : Told) (session : InputRunState) (before held : Option (List ℕ)) (input : List ℕ) →
    KnowsNow disk → HasTaken sealing talk disk session input → HasReplied talk before held input →
    GoesOn sealing talk disk disk session before held (input ++ [])
GoesOn-start sealing talk disk session before held input knows at replied = rw append-nil (record {
  at = at;
  replied = replied;
  any_moment = at_start disk (StandsWithin talk (steps_so_far talk.form input)) knows
      (of_content disk (StandsWithin talk (steps_so_far talk.form input)) at.durable
      (StandsWithin-all talk (steps_so_far talk.form input) disk.content at.stands));
})

module _ (sealing : Sealing) (talk : Talk) (old mid new : Told) (first : InputRunState) (before held after : Option (List ℕ)) (taken more : List ℕ) where
  -- a session goes on from where it came to
  pub GoesOn-then : (second : InputRunState) → GoesOn sealing talk old mid first before held taken →
      GoesOn sealing talk mid new second before after (taken ++ more) → GoesOn sealing talk old new second before after (taken ++ more)
  GoesOn-then second one two = record {
    at = two.at;
    replied = two.replied;
    any_moment = joined old mid new (StandsWithin talk (steps_so_far talk.form (taken ++ more))) (any_moment-input talk old mid taken more one.any_moment)
        two.any_moment;
  }

  -- or stops after it
  pub StopsIn-then : (status : Status) → GoesOn sealing talk old mid first before held taken →
      StopsIn sealing talk (steps_so_far talk.form (taken ++ more)) mid new before after status →
      StopsIn sealing talk (steps_so_far talk.form (taken ++ more)) old new before after status
  StopsIn-then status one two = record {
    at = two.at;
    any_moment = joined old mid new (StandsWithin talk (steps_so_far talk.form (taken ++ more))) (any_moment-input talk old mid taken more one.any_moment)
        two.any_moment;
  }
