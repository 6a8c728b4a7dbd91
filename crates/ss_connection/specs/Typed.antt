-- What an event brings that comes as a value.
use Rattle.std.specs.Prelude.{Bool, true, nat_le, if◌then◌else◌}
use Rattle.ss_base.specs.declared.limits.TheConstants.{LAST_TIME}
use Rattle.ss_catalog.specs.declared.event.Event.{Event}
use Rattle.ss_catalog.specs.declared.event.Event.TheVariants.{Create, Value, Open, Close, Drop}
use Rattle.ss_catalog.specs.declared.refusal.Refusal.TheVariants.{Number}
use Rattle.ss_command.specs.declared.command.Command.TheVariants.{Do}
use Rattle.ss_program.specs.Line.{Brought, History, command_brings, refused}

-- whether the time of an event can be said
abbrev pub is_in_time : Event → Bool
is_in_time (Create name params) = true
is_in_time (Value name t v) = nat_le t LAST_TIME
is_in_time (Open name t) = nat_le t LAST_TIME
is_in_time (Close name t) = nat_le t LAST_TIME
is_in_time (Drop name) = true

-- what an event brings: what a line of it would, and where its time can't be said it is refused as such a line is
abbrev pub event_brings : History → Event → Brought
event_brings history event = if is_in_time event then command_brings history (Do event) else refused Number
