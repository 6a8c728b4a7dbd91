-- A window that is read from the state of a history is within its target.
use Rattle.ss_model.proofs.Common.{◌≡◌, ℕ, zero, suc, Bool, List, [], ◌∷◌, map, None, Some, IfSome, sym, subst, inl, inr, All, cases_Bool, All-head, All-tail}
use Rattle.ss_model.proofs.Common.{lengths_of, Happened, IsWithinTarget, IsReadWithinTarget, IsHistory, placed_of, Stream, state, values_in, Window}
use Rattle.std.proofs.Common.{◌==◌, find, Option, slice_get}
use Rattle.ss_model.specs.State.{stream_numbered}
use Rattle.ss_model.specs.declared.types.Placed.{Placed}
use Rattle.ss_model.proofs.ReadLemmas.{within-state}

-- what holds of each element holds of the one that is found
pub IfSome-find : {X : Type 0} (P : X → Type 0) (test : X → Bool) (xs : List X) → All P xs → IfSome (find test xs) P
IfSome-find P test [] all = tt
IfSome-find P test (x ∷ xs) all = elim (cases_Bool (test x)) [
  | inl found ↦ rw found (All-head P x xs all)
  | inr other ↦ rw other (IfSome-find P test xs (All-tail P x xs all))
]

IfSome-both : {X : Type 0} (P Q R : X → Type 0) (found : Option X) → ((x : X) → P x → Q x → R x) → IfSome found P → IfSome found Q → IfSome found R
IfSome-both P Q R None both p q = tt
IfSome-both P Q R (Some x) both p q = both x p q

IsReadWithinTarget-windows : (len : ℕ → ℕ) (n : ℕ) (ws : List Window) (place : ℕ) (p : Placed) → All (IsWithinTarget len n) ws →
    slice_get (map placed_of ws) place ≡ Some p → IsReadWithinTarget len n p
IsReadWithinTarget-windows len n [] place p all read = (let wrong : None ≡ Some p = read in cc)
IsReadWithinTarget-windows len n (w ∷ ws) zero p all read =
    let is : placed_of w ≡ p = cc read in
    subst (IsReadWithinTarget len n) is (All-head (IsWithinTarget len n) w ws all)
IsReadWithinTarget-windows len n (w ∷ ws) (suc place) p all read =
    IsReadWithinTarget-windows len n ws place p (All-tail (IsWithinTarget len n) w ws all) read

pub IsReadWithinTarget-read : (history : List Happened) (streams : List Stream) (number place : ℕ) (p : Placed) → IsHistory history → streams ≡ state history →
    IfSome (stream_numbered number streams) (λ s. slice_get (map placed_of s.windows) place ≡ Some p) →
    IfSome (stream_numbered number streams) (λ s. IsReadWithinTarget (lengths_of s.params) (values_in s) p)
IsReadWithinTarget-read history streams number place p whole stand read =
    let Within : Stream → Type 0 = λ s. All (IsWithinTarget (lengths_of s.params) (values_in s)) s.windows in
    let all : All Within streams = subst (All Within) (sym stand) (within-state history whole) in
    IfSome-both Within (λ s. slice_get (map placed_of s.windows) place ≡ Some p) (λ s. IsReadWithinTarget (lengths_of s.params) (values_in s) p)
    (stream_numbered number streams) (λ s within got. IsReadWithinTarget-windows (lengths_of s.params) (values_in s) s.windows place p within got)
    (IfSome-find Within (λ s. number == s.number) streams all) read
