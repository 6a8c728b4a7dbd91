-- Worked rows of the entries of a stream within minutes, each computed: those of readings at 10, 20, .., 70.
use Rattle.ss_stream.proofs.Common.{◌≡◌, ◌*◌, ℕ, true, false, List, [], ◌∷◌, map, refl, both_ways, Entry, steps_met, Rule, ends_held, NoEntriesAreDue}
use Rattle.ss_stream.proofs.Common.{may_be_joined}
use Rattle.ss_targets.specs.Exp.{exp_length}
use Rattle.ss_targets.specs.Windowing.{window_index}

entry : ℕ → ℕ → Entry
entry first last = record { first = first; last = last; t_first = 10 * first; t_last = 10 * last; slot = 0 }

readings : List Entry
readings = entry 1 4 ∷ entry 5 5 ∷ entry 6 6 ∷ entry 7 7 ∷ []

within : ℕ → Rule
within step = record { lengths = exp_length 2 1 1; step = step }

ends-readings : ends_held readings ≡ 10 ∷ 40 ∷ 50 ∷ 50 ∷ 60 ∷ 60 ∷ 70 ∷ 70 ∷ []
unfolding readings entry
ends-readings = refl

-- their times lie in two minutes, and in one step of 71
steps-readings : map (λ step. steps_met step (ends_held readings)) (60 ∷ 71 ∷ 0 ∷ []) ≡ 2 ∷ 1 ∷ 1 ∷ []
unfolding readings entry
steps-readings = refl

-- 5 and 6 lie in one target window, at 50 and 60; 6 and 7 don't
joined-within : map (λ step. may_be_joined (within step) 7 (entry 5 5) (entry 6 6)) (60 ∷ 61 ∷ 0 ∷ []) ≡ false ∷ true ∷ true ∷ []
unfolding window_index within entry
joined-within = refl

joined-apart : may_be_joined (within 0) 7 (entry 6 6) (entry 7 7) ≡ false
unfolding window_index within entry
joined-apart = refl

-- so within minutes none is due, and within 61 one is
due-none : NoEntriesAreDue (within 60) 7 readings
unfolding window_index within readings entry
due-none = (refl, (refl, (refl, tt)))

due-second : ¬ NoEntriesAreDue (within 61) 7 readings
unfolding window_index within readings entry
due-second h = both_ways _ h.1.0 refl
