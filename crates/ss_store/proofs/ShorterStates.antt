-- States of which a stream has other windows, no more than before.
use Rattle.ss_store.proofs.Common.{◌≡◌, ℕ, zero, suc, ◌≤◌, List, [], ◌∷◌, ◌++◌, length, slice_set, refl, ap, ◌∙◌, arith, Some, sum_by, length-set, All-set}
use Rattle.ss_store.proofs.Common.{sum_by-cons, none-some, same_Some, closed, joined_window, closed_stream, JoinsDue, Rule, rule_of, IsState, IsStream}
use Rattle.ss_store.proofs.Common.{Stream, records_of, values_in, AreWindows, taken, Window, JoinsDue-closed, taken-JoinsDue, with_windows}
use Rattle.std.proofs.Common.{slice_get}
use Rattle.std.proofs.lemmas.List.{length-append}
use Rattle.ss_model.specs.Joins.{Joins}
use Rattle.ss_model.proofs.JoinLemmas.{closed-JoinsDue}
use Rattle.ss_store.proofs.OneOfMany.{map-set_same}

-- a sum of which a part gets no greater
sum_by-set_le : {X : Type 0} (f : X → ℕ) (xs : List X) (i : ℕ) (x now : X) → slice_get xs i ≡ Some x → f now ≤ f x →
    sum_by f (slice_set xs i now) ≤ sum_by f xs
sum_by-set_le f [] i x now at less = absurd (none-some x at)
sum_by-set_le f (y ∷ ys) zero x now at less =
    let same = ap f (same_Some y x at) in
    omega (arith, sum_by-cons f now ys, sum_by-cons f y ys)
sum_by-set_le f (y ∷ ys) (suc i) x now at less =
    let rest = sum_by-set_le f ys i x now at less in
    omega (arith, sum_by-cons f y ys, sum_by-cons f y (slice_set ys i now))

pub IsState-shorter : (streams : List Stream) (place : ℕ) (s : Stream) (ws : List Window) → IsState streams → slice_get streams place ≡ Some s →
    IsStream (with_windows s ws) → length ws ≤ length s.windows → IsState (slice_set streams place (with_windows s ws))
IsState-shorter streams place s ws state at stream few =
    let now = with_windows s ws in
    record {
      each = All-set IsStream streams place now stream state.each;
      numbers = rw (map-set_same (λ (u : Stream). u.number) streams place s now at refl) state.numbers;
      names = rw (map-set_same (λ (u : Stream). u.name) streams place s now at refl) state.names;
      few = omega (arith, state.few, length-set streams place now);
      room = omega (arith, state.room, sum_by-set_le records_of streams place s now at (omega arith));
    }

-- joins leave no more windows than there were
length-joined : (before rest : List Window) (w v : Window) → length (before ++ joined_window w v ∷ rest) ≤ length (before ++ w ∷ v ∷ rest)
length-joined before rest w v = omega (arith, length-append before (joined_window w v ∷ rest), length-append before (w ∷ v ∷ rest))

length-joins : (rule : Rule) (n k : ℕ) (old new : List Window) → Joins rule n k old new → length new ≤ length old
length-joins rule n zero old new same = omega (arith, ap length same)
length-joins rule n (suc k) old new joins =
    let one = joins.1 in
    omega (
      arith,
      length-joins rule n k joins.0 new joins.2,
      ap length one.is,
      ap length one.was,
      length-joined one.before one.rest one.window one.next,
    )

pub length-JoinsDue : (rule : Rule) (n : ℕ) (old new : List Window) → JoinsDue rule n old new → length new ≤ length old
length-JoinsDue rule n old new joins = length-joins rule n joins.0 old new joins.1

-- a stream of which some windows were joined that are due closes to the same
pub closed_stream-joined : (s : Stream) (ws : List Window) → AreWindows s.windows → JoinsDue (rule_of s.params) (values_in s) s.windows ws →
    closed_stream (with_windows s ws) ≡ closed_stream s
closed_stream-joined s ws tiles joins =
    let rule = rule_of s.params in
    let same : closed rule (taken ws) ws ≡ closed rule (values_in s) s.windows =
    ap (λ n. closed rule n ws) (taken-JoinsDue rule (values_in s) s.windows ws joins) ∙ closed-JoinsDue rule (values_in s) s.windows ws tiles joins in
    ap (with_windows s) same

-- closing again changes nothing
pub closed_stream-again : (s : Stream) → IsStream s → closed_stream (closed_stream s) ≡ closed_stream s
closed_stream-again s is =
    let rule = rule_of s.params in
    closed_stream-joined s (closed rule (values_in s) s.windows) is.windows (JoinsDue-closed rule (values_in s) s.windows)
