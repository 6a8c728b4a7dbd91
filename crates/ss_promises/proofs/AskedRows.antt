-- Worked rows of what lines of sessions ask for, computed.
use Rattle.ss_program.proofs.Common.{◌≡◌, [], ◌∷◌, refl, codes, None, replicate}
use Rattle.ss_promises.specs.Asked.{IsOrder, heard_of, rows_asked}
use Rattle.ss_catalog.specs.Names.{is_name}
use Rattle.ss_command.specs.Grammar.{meaning}
use Rattle.ss_command.specs.Words.{words}
use Rattle.ss_command.specs.declared.command.Command.TheVariants.{List as ListAll}
use Rattle.ss_fields.specs.Words.{is_number, number_of, number_up_to}
use Rattle.ss_sessions.specs.declared.order.Order.TheVariants as orders

-- orders of a session
opens : IsOrder 1 (orders.Open (codes "a")) (codes "@1 cursor open a")
unfolding meaning words is_name
opens = refl

asks : IsOrder 7 (orders.Next 1000) (codes "@7 cursor next 1000")
unfolding meaning words is_number number_of number_up_to
asks = refl

lists : IsOrder 0 (orders.Command ListAll) (codes "@0 list")
unfolding meaning words
lists = refl

-- a line of more bytes than lines have isn't heard
long : heard_of (replicate 257 64) ≡ None
long = refl

-- only what the session itself asks for counts, and neither what is refused nor another order
asked : rows_asked 1 (codes "@1 cursor next 3" ∷ codes "@2 cursor next 4" ∷ codes "@1 list" ∷ codes "@1 cursor next 5" ∷ codes "@1 cursor next 1001"
    ∷ codes "@1 cursor close" ∷ codes "cursor next 6" ∷ []) ≡ 8
unfolding meaning words is_number number_of number_up_to
asked = refl

asked-none : rows_asked 1 [] ≡ 0
asked-none = refl
