-- Worked rows of events that come as values, computed.
use Rattle.ss_base.specs.declared.limits.TheConstants.{LAST_TIME}
use Rattle.ss_catalog.specs.Names.{is_name}
use Rattle.ss_catalog.specs.declared.refusal.Refusal.TheVariants.{Number}
use Rattle.ss_command.specs.Grammar.{meaning}
use Rattle.ss_command.specs.Words.{words}
use Rattle.ss_connection.specs.Typed.{event_brings}
use Rattle.ss_fields.specs.Words.{is_number, number_of, number_up_to, signed_of}
use Rattle.ss_program.proofs.Common.{◌≡◌, ◌+◌, [], Value, brings, codes, pos, refl, refused}

-- a time that can't be said is refused as in a line
event-late : event_brings [] (Value (codes "a") (LAST_TIME + 1) (pos 0)) ≡ refused Number
event-late = refl

line-late : brings [] (codes "append a 4611686018427387905 0") ≡ refused Number
unfolding meaning words is_number number_of number_up_to signed_of is_name
line-late = refl
