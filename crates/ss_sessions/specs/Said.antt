-- What is true of all that is read.
use Rattle.std.specs.Prelude.{◌<◌, ◌≤◌, IfOk, IfSome, ⊤}
use Rattle.ss_command.specs.Printed.{IsCommandInTime}
use Rattle.ss_sessions.specs.declared.TheConstants.{MOST_ASKED}
use Rattle.ss_base.specs.declared.limits.TheConstants.{MOST_SESSIONS}
use Rattle.ss_sessions.specs.declared.order.Order.{Order}
use Rattle.ss_sessions.specs.declared.order.Order.TheVariants as orders
use Rattle.ss_sessions.specs.declared.order.Spoken.{Spoken}
use Rattle.ss_sessions.specs.declared.order.Spoken.TheVariants.{Nothing, Unaddressed, To}

-- the times of an order can be said, and it asks for some rows and not too many
abbrev pub IsOrderInTime : Order → Type 0
IsOrderInTime (orders.Command command) = IsCommandInTime command
IsOrderInTime (orders.Open name) = ⊤
IsOrderInTime (orders.Next count) = (0 < count) × (count ≤ MOST_ASKED)
IsOrderInTime orders.Close = ⊤

-- the same of what a line says, to a session that there is
abbrev pub IsSpokenInTime : Spoken → Type 0
IsSpokenInTime Nothing = ⊤
IsSpokenInTime Unaddressed = ⊤
IsSpokenInTime (To session said) = (session < MOST_SESSIONS) × IfOk said (λ o. IfSome o IsOrderInTime)
