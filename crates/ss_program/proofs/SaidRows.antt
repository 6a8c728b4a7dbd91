-- Worked rows of what is said to sessions, and the numbers of its rules.
use Rattle.ss_program.proofs.Common.{◌*◌, ◌≡◌, ◌+◌, ◌^◌, ◌++◌, [], ◌∷◌, arith, lit≤, refl, ℕ, List, Some, None, codes, flat_map, length, map, pos, negsuc}
use Rattle.ss_program.proofs.Common.{Create, Value, exp, Happened, added, HasRoomForReply, IsSpeaker, brings, text_said, Each, Shared, most_read}
use Rattle.std.specs.Fmt.{digits}
use Rattle.ss_catalog.specs.Names.{is_name}
use Rattle.ss_command.specs.Grammar.{meaning}
use Rattle.ss_command.specs.Words.{words}
use Rattle.ss_model.specs.Refusals.{refuses, refuses_reading}
use Rattle.ss_model.specs.State.{state}
use Rattle.ss_targets.specs.Windowing.{window_index}
use Rattle.ss_program.specs.declared.replies.TheConstants.{LONGEST_REPLY, MOST_WAITING_BYTES}
use Rattle.ss_program.specs.declared.replies.Seals.TheVariants as seal

-- two lines of at most 256 bytes, each behind at most four that say to which session it is said
longest_reply : LONGEST_REPLY ≡ 2 * (256 + 4)
longest_reply = refl

most_waiting : MOST_WAITING_BYTES ≡ 2 ^ 16
most_waiting = refl

-- one more can wait behind 65,016 bytes of replies, and not behind one byte more; and always where each event is sealed by itself
room-last : (replies : List ℕ) → length replies ≡ 65016 → HasRoomForReply (seal.Shared replies)
room-last replies long = omega (arith, long)

room-past : (replies : List ℕ) → length replies ≡ 65017 → HasRoomForReply (seal.Shared replies) → ⊥
room-past replies long room = omega (arith, long, room)

room-each : HasRoomForReply seal.Each
room-each = tt

-- how much one read of the input takes at the most: in batches what may share a seal
most_read-each : most_read Each ≡ 2 ^ 12
most_read-each = refl

most_read-shared : most_read Shared ≡ 2 ^ 16
most_read-shared = refl

-- a reply is said to one of eight sessions
speaker-last : IsSpeaker (Some 7)
speaker-last = lit≤ tt

speaker-past : IsSpeaker (Some 8) → ⊥
speaker-past below = omega (arith, below)

abbrev text : List (List ℕ) → List ℕ
text ls = flat_map (λ line. line ++ 10 ∷ []) ls

-- after a stream and three readings
abbrev history : List Happened
history = map added (
    Create (codes "a") (exp 2 1 1) ∷ Value (codes "a") 10 (pos 5) ∷ Value (codes "a") 20 (negsuc 2) ∷ Value (codes "a") 30 (pos 8) ∷ [])

-- each line of a reply to a session has its tag
said-windows : text_said (Some 0) (brings history (codes "windows a"))
    ≡ text (codes "@0 windows 2" ∷ codes "@0 1 2 2 2 -3 5 10 20" ∷ codes "@0 3 3 1 8 8 8 30 30" ∷ [])
unfolding meaning words is_name state refuses refuses_reading window_index digits
said-windows = refl

said-refused : text_said (Some 7) (brings history (codes "windows b")) ≡ text (codes "@7 refused UNKNOWN" ∷ [])
unfolding meaning words is_name state refuses refuses_reading window_index
said-refused = refl

-- one to none is as it is
said-none : text_said None (brings history (codes "windows a"))
    ≡ text (codes "windows 2" ∷ codes "1 2 2 2 -3 5 10 20" ∷ codes "3 3 1 8 8 8 30 30" ∷ [])
unfolding meaning words is_name state refuses refuses_reading window_index digits
said-none = refl
