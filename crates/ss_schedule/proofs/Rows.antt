-- Worked rows: a line of three, at the places 2, 0 and 1.
use Rattle.std.proofs.Common.{◌≡◌, ◌-◌, ◌*◌, ◌^◌, ◌≤◌, ℕ, List, [], ◌∷◌, Option, Some, None, arith, refl, lit≤}
use Rattle.ss_catalog.specs.Params.{exp as Exp}
use Rattle.ss_line.specs.declared.entry.At.{At}
use Rattle.ss_line.specs.declared.entry.Entry.{Entry}
use Rattle.ss_targets.specs.Rule.{Rule, rule_of}
use Rattle.ss_targets.specs.FirstFit.{IsFirstFit}
use Rattle.ss_targets.specs.Windowing.{Fits}
use Rattle.ss_base.specs.declared.limits.TheConstants.{MOST_VALUES}
use Rattle.ss_targets.specs.Windowing.{window_index}
use Rattle.std.proofs.lemmas.Bool.{both_ways}
use Rattle.ss_schedule.specs.Keyed.{AreInStep, FollowUpTo, IsFirstKey, NeverFit, key_at}
use Rattle.ss_schedule.specs.declared.sifting.TheConstants.{NEVER}
use Rattle.ss_schedule.specs.Pairs.{IsSpan, NoPairFits, joined_entry, pair_at}
use Rattle.ss_schedule.specs.declared.pair.Pair.{Pair}

abbrev place : ℕ → At
place n = record { 0 = n }

abbrev window : ℕ → ℕ → ℕ → Entry
window first last slot = record { first = first; last = last; t_first = 10 * first; t_last = 10 * last; slot = slot }

abbrev line : List (At × Entry)
line = (place 2, window 1 4 9) ∷ (place 0, window 5 6 3) ∷ (place 1, window 7 7 8) ∷ []

pub pair_at-first : pair_at line (place 2) ≡ None
pair_at-first = refl

pub pair_at-second : pair_at line (place 0) ≡ Some (record { left = place 2; right = place 0; first = 1; last = 6; t_first = 10; t_last = 60 })
pair_at-second = refl

pub pair_at-last : pair_at line (place 1) ≡ Some (record { left = place 0; right = place 1; first = 5; last = 7; t_first = 50; t_last = 70 })
pair_at-last = refl

pub pair_at-none : pair_at line (place 3) ≡ None
pair_at-none = refl

-- the slot and the first time are those of the left one, and the last time is that of the right one
pub joined_entry-first : joined_entry (window 1 4 9) (window 5 6 3) ≡ window 1 6 9
joined_entry-first = refl

abbrev keys : List (Option (At × ℕ))
keys = Some (place 2, 11) ∷ None ∷ []

pub key_at-some : key_at keys (place 0) ≡ Some (place 2, 11)
key_at-some = refl

pub key_at-none : key_at keys (place 1) ≡ None
key_at-none = refl

pub key_at-past : key_at keys (place 2) ≡ None
key_at-past = refl

-- positions that end at 7
pub follow-now : FollowUpTo 7 line
follow-now = (lit≤ tt, (refl, lit≤ tt, lit≤ tt, (refl, lit≤ tt, lit≤ tt, (refl, lit≤ tt, lit≤ tt, tt))))

pub follow-late : ¬ FollowUpTo 6 line
follow-late h = let last = h.1.3.3.2 in omega arith

-- none before 1, none twice, none left out, and none empty
pub follow-one : FollowUpTo 1 ((place 0, window 1 1 9) ∷ [])
follow-one = (lit≤ tt, (refl, lit≤ tt, lit≤ tt, tt))

pub follow-zero : ¬ FollowUpTo 1 ((place 0, window 0 1 9) ∷ [])
follow-zero h = let first = h.0 in omega arith

pub follow-twice : ¬ FollowUpTo 9 ((place 0, window 1 4 9) ∷ (place 1, window 4 5 9) ∷ [])
follow-twice h = let next = h.1.3.0 in omega arith

pub follow-left_out : ¬ FollowUpTo 9 ((place 0, window 1 4 9) ∷ (place 1, window 6 7 9) ∷ [])
follow-left_out h = let next = h.1.3.0 in omega arith

pub follow-empty : ¬ FollowUpTo 9 ((place 0, window 5 4 9) ∷ [])
follow-empty h = let some = h.1.1 in omega arith

-- windows of 1, 2 and 4 values are those of a doubling target, but not after one value more
pub fits-none : NoPairFits (rule_of (Exp 2 1 1)) 7 line
unfolding window_index
fits-none = (refl, (refl, tt))

pub fits-second : ¬ NoPairFits (rule_of (Exp 2 1 1)) 3 ((place 0, window 1 1 9) ∷ (place 1, window 2 2 9) ∷ (place 2, window 3 3 9) ∷ [])
unfolding window_index
fits-second h = both_ways _ h.0 refl

pub fits-last : ¬ NoPairFits (rule_of (Exp 2 1 1)) 9 ((place 0, window 1 6 9) ∷ (place 1, window 7 7 9) ∷ (place 2, window 8 8 9) ∷ [])
unfolding window_index
fits-last h = both_ways _ h.1.0 refl

-- 50 and 60 lie in two steps of 60
pub fits-apart : NoPairFits (rule_of (record { family = (Exp 2 1 1).family; within = Some 60 })) 7
    ((place 0, window 1 4 9) ∷ (place 1, window 5 5 9) ∷ (place 2, window 6 6 9) ∷ [])
unfolding window_index
fits-apart = (refl, (refl, tt))

-- and in one step of 61
pub fits-together : ¬ NoPairFits (rule_of (record { family = (Exp 2 1 1).family; within = Some 61 })) 7
    ((place 0, window 1 4 9) ∷ (place 1, window 5 5 9) ∷ (place 2, window 6 6 9) ∷ [])
unfolding window_index
fits-together h = both_ways _ h.1.0 refl

-- the count that stands for none is past every count
pub NEVER-is : NEVER ≡ 2 ^ 64 - 1
NEVER-is = refl

-- the positions of a pair begin at 1 or above, and end at or below a count
module _ (n : ℕ) (pair : Pair) (is : IsSpan n pair) where
  IsSpan-begins : 1 ≤ pair.first
  IsSpan-begins = is.begins

  IsSpan-order : pair.first ≤ pair.last
  IsSpan-order = is.order

  IsSpan-taken : pair.last ≤ n
  IsSpan-taken = is.taken

-- a key names the left neighbour, and a count up to the greatest
module _ (rule : Rule) (n : ℕ) (pair : Pair) (key : At × ℕ) (is : IsFirstKey rule n pair key) where
  IsFirstKey-left : key.0 ≡ pair.left
  IsFirstKey-left = is.left

  IsFirstKey-together : AreInStep rule pair
  IsFirstKey-together = is.together

  IsFirstKey-first : IsFirstFit rule.lengths pair.first pair.last n key.1
  IsFirstKey-first = is.first

  IsFirstKey-few : key.1 ≤ MOST_VALUES
  IsFirstKey-few = is.few

-- those that never fit don't at the greatest count either, nor at the first one
NeverFit-last : (len : ℕ → ℕ) (l r n : ℕ) → NeverFit len l r n → n ≤ MOST_VALUES → ¬ Fits len l r MOST_VALUES
NeverFit-last len l r n never few = never MOST_VALUES few (omega arith)

NeverFit-first : (len : ℕ → ℕ) (l r n : ℕ) → NeverFit len l r n → n ≤ MOST_VALUES → ¬ Fits len l r n
NeverFit-first len l r n never few = never n (omega arith) few
