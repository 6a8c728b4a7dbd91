-- What a call answers.
use Rattle.std.specs.Prelude.{◌+◌, ℕ, Bool, true, false, List, Option, Some, None, Result, Ok, Err, if◌then◌else◌, nat_le}
use Rattle.ss_catalog.specs.declared.event.Event.{Event}
use Rattle.ss_catalog.specs.declared.event.Event.TheVariants.{Create}
use Rattle.ss_catalog.specs.declared.params.Params.{Params}
use Rattle.ss_catalog.specs.declared.query.Kind.{Kind}
use Rattle.ss_catalog.specs.declared.query.Query.{Query}
use Rattle.ss_base.specs.declared.limits.TheConstants.{LAST_TIME}
use Rattle.ss_catalog.specs.Names.{is_name}
use Rattle.ss_catalog.specs.declared.refusal.Refusal.{Refusal}
use Rattle.ss_catalog.specs.declared.refusal.Refusal.TheVariants as refusals
use Rattle.ss_model.specs.declared.newest.Newest.{Newest}
use Rattle.ss_model.specs.declared.outcome.Outcome.{Outcome}
use Rattle.ss_model.specs.declared.types.Ack.{Ack}
use Rattle.ss_program.specs.Status.{exit_number}
use Rattle.ss_program.specs.declared.status.Status.{Status}
use Rattle.ss_report.specs.declared.reply.Reply.{Reply}
use Rattle.ss_report.specs.declared.reply.Reply.TheVariants as replies
use Rattle.libsummarystore.specs.declared.answer.Why.{Why}
use Rattle.libsummarystore.specs.declared.answer.Why.TheVariants.{Stopped, Busy, Misuse, ReadOnly, Refused}

-- the place of a refusal among all
abbrev pub place : Refusal → ℕ
place refusals.Line = 0
place refusals.Syntax = 1
place refusals.Number = 2
place refusals.Name = 3
place refusals.Param = 4
place refusals.Exists = 5
place refusals.Streams = 6
place refusals.Unknown = 7
place refusals.Open = 8
place refusals.NotOpen = 9
place refusals.Time = 10
place refusals.Range = 11
place refusals.StreamFull = 12
place refusals.StoreFull = 13
place refusals.Busy = 14
place refusals.NoCursor = 15
place refusals.Frame = 16

-- the number of an answer in C; 0 says that a call is done
abbrev pub number : Why → ℕ
number (Stopped status) = exit_number status
number Busy = 5
number Misuse = 64
number ReadOnly = 65
number (Refused refusal) = 128 + place refusal

-- a time that is one
abbrev pub in_time : ℕ → Result ℕ Why
in_time time = if nat_le time LAST_TIME then Ok time else Err (Refused refusals.Number)

-- the name that bytes spell
abbrev pub name_of : List ℕ → Result (List ℕ) Why
name_of word = if is_name word then Ok word else Err (Refused refusals.Name)

-- what an event answers a connection that only looks
abbrev pub writing : {T : Type 0} → Bool → Result T Why → Result T Why
writing true meant = Err ReadOnly
writing false meant = meant

-- what any call answers a connection that has stopped
abbrev pub going : {T : Type 0} → Option Status → Result T Why → Result T Why
going (Some status) meant = Err (Stopped status)
going None meant = meant

-- where both are found
abbrev both : {S T U : Type 0} → (S → T → U) → Result S Why → Result T Why → Result U Why
both f (Err why) found = Err why
both f (Ok x) (Err why) = Err why
both f (Ok x) (Ok y) = Ok (f x y)

-- the event that makes a stream
abbrev made : Params → Result (List ℕ) Why → Result Event Why
made params (Ok name) = Ok (Create name params)
made params (Err why) = Err why

abbrev pub create_of : List ℕ → Params → Result Event Why
create_of word params = made params (name_of word)

-- a time and a name, of which the time is looked at first
abbrev pub placed_of : List ℕ → ℕ → Result (ℕ × List ℕ) Why
placed_of word time = both (λ t name. (t, name)) (in_time time) (name_of word)

-- a query, whose times are looked at first
abbrev pub query_of : List ℕ → Kind → ℕ → ℕ → Result Query Why
query_of word kind from to = both (λ (times : ℕ × ℕ) name. record { name = name; kind = kind; from = times.0; to = times.1 })
    (both (λ from to. (from, to)) (in_time from) (in_time to)) (name_of word)

-- a reply that a call of this kind doesn't have
abbrev pub other : Reply → Why
other (replies.Refused refusal) = Refused refusal
other reply = Misuse

-- what is acknowledged by the reply to an event
abbrev pub ack_of : Result Reply Status → Result Ack Why
ack_of (Ok (replies.Done ack)) = Ok ack
ack_of (Ok reply) = Err (other reply)
ack_of (Err status) = Err (Stopped status)

-- the answer to a query, by its reply
abbrev pub outcome_of : Result Reply Status → Result Outcome Why
outcome_of (Ok (replies.Answered outcome)) = Ok outcome
outcome_of (Ok reply) = Err (other reply)
outcome_of (Err status) = Err (Stopped status)

-- how far a stream has come, by the reply
abbrev pub newest_of : Result Reply Status → Result Newest Why
newest_of (Ok (replies.Last newest)) = Ok newest
newest_of (Ok reply) = Err (other reply)
newest_of (Err status) = Err (Stopped status)

-- the answer of a call that says nothing else
abbrev pub done_of : {T : Type 0} → Result T Status → Result T Why
done_of (Ok value) = Ok value
done_of (Err status) = Err (Stopped status)
