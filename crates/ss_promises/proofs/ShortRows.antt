-- Worked rows of how many streams a history has at any time, and of how long a file may be, at both sides of each bound.
use Rattle.ss_program.proofs.Common.{◌≡◌, ◌++◌, ◌<◌, ◌≤◌, ℕ, List, [], ◌∷◌, length, refl, arith, lit≤, All, All-cons, All-head, All-nil, codes, pos, exp}
use Rattle.ss_program.proofs.Common.{⊤, Create, Value, Drop, Happened, added, Stream, state, History}
use Rattle.std.proofs.Common.{lit<}
use Rattle.ss_model.specs.State as State
use Rattle.ss_targets.specs.Windowing.{window_index}
use Rattle.ss_promises.specs.Short.{AlwaysHas, IsAsShort}

-- ---- how long a file may be

-- with nothing used and no record needed it has room for one slot and less than one more
short-least : (file : List ℕ) → length file ≡ 37119 → IsAsShort 0 0 file
short-least file is few = omega (arith, is)

short-one_byte : (file : List ℕ) → length file ≡ 37120 → IsAsShort 0 0 file → ⊥
short-one_byte file is short = let less : length file < 37120 = short (lit< tt) in omega (arith, is, less)

-- the slots that it used count where they are more than the records need, and the records and one more where these are
short-used : (file : List ℕ) → length file ≡ 37631 → IsAsShort 5 2 file
short-used file is few = omega (arith, is)

short-more_than_used : (file : List ℕ) → length file ≡ 37632 → IsAsShort 5 2 file → ⊥
short-more_than_used file is short = let less : length file < 37632 = short (lit< tt) in omega (arith, is, less)

short-records : (file : List ℕ) → length file ≡ 37759 → IsAsShort 2 5 file
short-records file is few = omega (arith, is)

short-more_than_records : (file : List ℕ) → length file ≡ 37760 → IsAsShort 2 5 file → ⊥
short-more_than_records file is short = let less : length file < 37760 = short (lit< tt) in omega (arith, is, less)

-- of a store that uses all slots it says nothing, and of one that uses one fewer it does
short-all_slots : (file : List ℕ) → IsAsShort 1048576 0 file
short-all_slots file few = absurd (omega (arith, few))

short-all_but_one : (file : List ℕ) → length file ≡ 134254592 → IsAsShort 1048575 0 file → ⊥
short-all_but_one file is short = let less : length file < 134254592 = short (lit< tt) in omega (arith, is, less)

-- ---- how many streams a history has at any time

abbrev created : Happened
created = added (Create (codes "a") (exp 2 1 1))

abbrev ten : Happened
ten = added (Value (codes "a") 10 (pos 5))

abbrev dropped : Happened
dropped = added (Drop (codes "a"))

-- whatever a stream is
abbrev Any : History → Stream → Type 0
Any front s = ⊤

any-all : (front : History) (streams : List Stream) → All (Any front) streams
any-all front [] = All-nil (Any front)
any-all front (s ∷ streams) = All-cons (Any front) s streams tt (any-all front streams)

-- after each beginning of this history there is one stream or none
one-stream : (front rest : History) → created ∷ ten ∷ dropped ∷ [] ≡ front ++ rest → length (state front) ≤ 1
unfolding State.state window_index
one-stream [] rest is = lit≤ tt
one-stream (e ∷ []) rest is = let one : created ≡ e = cc in rw (← one) (lit≤ tt)
one-stream (e ∷ f ∷ []) rest is =
    let one : created ≡ e = cc in
    let two : ten ≡ f = cc in
    rw (← one, ← two) (lit≤ tt)
one-stream (e ∷ f ∷ g ∷ []) rest is =
    let one : created ≡ e = cc in
    let two : ten ≡ f = cc in
    let three : dropped ≡ g = cc in
    rw (← one, ← two, ← three) (lit≤ tt)
one-stream (e ∷ f ∷ g ∷ h ∷ front) rest is = cc

always-one : AlwaysHas 1 Any (created ∷ ten ∷ dropped ∷ [])
always-one = record { streams = one-stream; each = λ front rest is. any-all front (state front) }

-- and so it doesn't always have none, though it has none in the end
always-none : AlwaysHas 0 Any (created ∷ ten ∷ dropped ∷ []) → ⊥
unfolding State.state window_index
always-none always = let few : 1 ≤ 0 = always.streams (created ∷ []) (ten ∷ dropped ∷ []) refl in omega (arith, few)

-- what its streams are like is asked of each beginning by itself: no window stands before the value, and one does after it
abbrev HasNoWindow : History → Stream → Type 0
HasNoWindow front s = s.windows ≡ []

unwindowed : All (HasNoWindow (created ∷ [])) (state (created ∷ []))
unfolding State.state window_index
unwindowed = All-cons (HasNoWindow (created ∷ [])) _ [] refl (All-nil (HasNoWindow (created ∷ [])))

always-unwindowed : AlwaysHas 1 HasNoWindow (created ∷ ten ∷ dropped ∷ []) → ⊥
unfolding State.state window_index
always-unwindowed always =
    let front = created ∷ ten ∷ [] in
    let none = All-head (HasNoWindow front) _ [] (always.each front (dropped ∷ []) refl) in cc
