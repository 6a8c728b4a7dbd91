-- What each answer of a look at a store is.
use Rattle.ss_store.proofs.Common.{◌≡◌, ◌<◌, ◌++◌, ℕ, List, [], ◌∷◌, drop, map, refl, Err, Ok, Option, failed, fine, place_at, At, Entry, BeginsNear}
use Rattle.ss_store.proofs.Common.{ask_of_fault, verdict_of_ask}
use Rattle.std.proofs.Common.{All}
use Rattle.ss_outside.specs.Verdict.{changed, refused, stopped}
use Rattle.ss_catalog.specs.declared.refusal.Refusal.TheVariants as refusal
use Rattle.ss_query.specs.Answered.{begun_in}
use Rattle.ss_parts.specs.declared.read_error.ReadError.TheVariants as read
use Rattle.ss_store.specs.declared.error.AskError.TheVariants as ask

verdicts-ask : map (λ e. verdict_of_ask {T = Unit {0}} (Err e)) (ask.Refused refusal.Range ∷ ask.Disk ∷ ask.Stopped ∷ ask.Changed 7 ∷ [])
    ≡ refused ∷ failed ∷ stopped ∷ changed 7 ∷ []
verdicts-ask = refl

verdict-Ok : verdict_of_ask {T = ℕ} (Ok 1) ≡ fine
verdict-Ok = refl

errors-ask : map ask_of_fault (read.Disk ∷ read.Changed 7 ∷ []) ≡ ask.Disk ∷ ask.Changed 7 ∷ []
errors-ask = refl

-- how many windows begin after a time and not after another
abbrev three : List (At × Entry)
three = map (λ t. (record { 0 = t }, record { first = t; last = t; t_first = t; t_last = t; slot = t })) (10 ∷ 20 ∷ 30 ∷ [])

begun-three : map (λ (range : ℕ × ℕ). begun_in range.0 range.1 three) ((9, 30) ∷ (10, 30) ∷ (10, 29) ∷ (30, 40) ∷ [])
    ≡ 3 ∷ 2 ∷ 1 ∷ 0 ∷ []
begun-three = refl

-- of the windows from a near place on only the first may begin by the time
BeginsNear-behind : (entries : List (At × Entry)) (from : ℕ) (start : Option At) (near : BeginsNear entries from start) →
    (entries ≡ near.before ++ near.rest) × All (λ (e : At × Entry). from < e.1.t_first) (drop 1 near.rest) × (start ≡ place_at near.rest 0)
BeginsNear-behind entries from start near = (near.is, near.behind, near.place)
