-- Worked rows of cursors: what orders bring, as it is said to their sessions.
use Rattle.ss_program.proofs.Common.{◌≡◌, ◌++◌, [], ◌∷◌, refl, ℕ, true, false, List, Some, None, codes, flat_map, map, pos, negsuc, Create, Value, Drop, exp}
use Rattle.ss_program.proofs.Common.{Do, Happened, added, cursor_of, no_cursors, Ordered, order_brings, History, history_after, text_said}
use Rattle.std.specs.Fmt.{digits}
use Rattle.ss_command.specs.declared.command.Command.TheVariants.{List as ListAll}
use Rattle.ss_model.specs.Refusals.{refuses}
use Rattle.ss_model.specs.State.{state}
use Rattle.ss_targets.specs.Windowing.{window_index}
use Rattle.ss_sessions.specs.Cursors.{refuses_cursor}
use Rattle.ss_sessions.specs.declared.order.Order.TheVariants.{Command, Open, Next, Close}

abbrev text : List (List ℕ) → List ℕ
text ls = flat_map (λ line. line ++ 10 ∷ []) ls

-- a stream and seven readings
abbrev history : List Happened
history = map added (
    Create (codes "a") (exp 2 1 1) ∷ Value (codes "a") 10 (pos 5) ∷ Value (codes "a") 20 (negsuc 2) ∷ Value (codes "a") 30 (pos 8)
    ∷ Value (codes "a") 40 (pos 1) ∷ Value (codes "a") 50 (pos 9) ∷ Value (codes "a") 60 (pos 2) ∷ Value (codes "a") 70 (pos 7) ∷ [])

-- what is said to a session
abbrev said : ℕ → Ordered → List ℕ
said session ordered = text_said (Some session) ordered.brought

-- one session opens a cursor over the three windows; then another appends a value, which merges none of them away from it
abbrev opened : Ordered
opened = order_brings history no_cursors 1 (Open (codes "a"))

said-open : said 1 opened ≡ text (codes "@1 cursor 3" ∷ [])
unfolding state refuses refuses_cursor window_index digits
said-open = refl

memory-open : opened.wants_memory ≡ true
unfolding state refuses refuses_cursor window_index
memory-open = refl

abbrev append : Ordered
append = order_brings history opened.cursors 2 (Command (Do (Value (codes "a") 80 (pos 1))))

said-append : said 2 append ≡ text (codes "@2 ok 8 4" ∷ [])
unfolding state refuses refuses_cursor window_index digits
said-append = refl

memory-append : append.wants_memory ≡ true
unfolding state refuses refuses_cursor window_index
memory-append = refl

-- the first two rows of the cursor
abbrev first : Ordered
first = order_brings history append.cursors 1 (Next 2)

said-first : said 1 first ≡ text (codes "@1 rows 2" ∷ codes "@1 1 4 4 11 -3 8 10 40" ∷ codes "@1 5 6 2 11 2 9 50 60" ∷ [])
unfolding state refuses refuses_cursor window_index digits
said-first = refl

memory-first : first.wants_memory ≡ false
unfolding state refuses refuses_cursor window_index
memory-first = refl

-- the stream is dropped, and the cursor goes on
abbrev drop : Ordered
drop = order_brings history first.cursors 2 (Command (Do (Drop (codes "a"))))

abbrev dropped : History
dropped = history_after history drop.brought

abbrev second : Ordered
second = order_brings dropped drop.cursors 1 (Next 5)

said-second : said 1 second ≡ text (codes "@1 rows 1" ∷ codes "@1 7 7 1 7 7 7 70 70" ∷ [])
unfolding state refuses refuses_cursor window_index digits
said-second = refl

said-last : said 1 (order_brings dropped second.cursors 1 (Next 1)) ≡ text (codes "@1 rows 0" ∷ [])
unfolding state refuses refuses_cursor window_index digits
said-last = refl

-- a session without a cursor, and one that has one
said-none : said 3 (order_brings history opened.cursors 3 (Next 1)) ≡ text (codes "@3 refused NO_CURSOR" ∷ [])
unfolding state refuses refuses_cursor window_index
said-none = refl

said-unclosed : said 3 (order_brings history opened.cursors 3 Close) ≡ text (codes "@3 refused NO_CURSOR" ∷ [])
unfolding state refuses refuses_cursor window_index
said-unclosed = refl

abbrev busy : Ordered
busy = order_brings history opened.cursors 1 (Open (codes "a"))

said-busy : said 1 busy ≡ text (codes "@1 refused BUSY" ∷ [])
unfolding state refuses refuses_cursor window_index
said-busy = refl

memory-busy : busy.wants_memory ≡ false
unfolding state refuses refuses_cursor window_index
memory-busy = refl

-- UNKNOWN comes before BUSY
said-unknown : said 1 (order_brings history opened.cursors 1 (Open (codes "b"))) ≡ text (codes "@1 refused UNKNOWN" ∷ [])
unfolding state refuses refuses_cursor window_index
said-unknown = refl

-- it is closed, and then there is none
abbrev close : Ordered
close = order_brings history opened.cursors 1 Close

said-close : said 1 close ≡ text (codes "@1 closed" ∷ [])
unfolding state refuses refuses_cursor window_index
said-close = refl

cursors-close : close.cursors ≡ no_cursors
unfolding state refuses refuses_cursor window_index
cursors-close = refl

memory-close : close.wants_memory ≡ false
unfolding state refuses refuses_cursor window_index
memory-close = refl

-- opening it changes the cursor of its session alone
others-open : map (λ session. cursor_of opened.cursors session) (0 ∷ 2 ∷ 3 ∷ 4 ∷ 5 ∷ 6 ∷ 7 ∷ []) ≡ None ∷ None ∷ None ∷ None ∷ None ∷ None ∷ None ∷ []
unfolding state refuses refuses_cursor window_index
others-open = refl

-- `list` of a session, each line with its tag
said-list : said 7 (order_brings history no_cursors 7 (Command ListAll)) ≡ text (codes "@7 list 1" ∷ codes "@7 a exp 2 1 1 7 3 0 0" ∷ [])
unfolding state refuses window_index digits
said-list = refl
