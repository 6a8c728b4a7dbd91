-- Worked rows, each computed.
use Rattle.std.specs.Prelude.{◌≡◌, pos, negsuc, [], ◌∷◌}
use Rattle.std.proofs.Common.{refl}
use Rattle.ss_certify.specs.Fill.{fill, run}

-- two values from -3 to 8 with the sum -5, and two with the sum 16
fill-low : fill 2 (negsuc 4) (negsuc 2) (pos 8) ≡ run (negsuc 2) 1 ∷ run (negsuc 1) 1 ∷ []
unfolding fill
fill-low = refl

fill-high : fill 2 (pos 16) (negsuc 2) (pos 8) ≡ run (pos 8) 2 ∷ []
unfolding fill
fill-high = refl

-- three values with the sum 14, one of them neither the least nor the greatest; the least is the greatest; and no values
fill-rest : fill 3 (pos 14) (negsuc 2) (pos 8) ≡ run (negsuc 1) 1 ∷ run (pos 8) 2 ∷ []
unfolding fill
fill-rest = refl

fill-one_value : fill 3 (pos 12) (pos 4) (pos 4) ≡ run (pos 4) 3 ∷ []
unfolding fill
fill-one_value = refl

fill-none : fill 0 (pos 0) (negsuc 2) (pos 8) ≡ []
unfolding fill
fill-none = refl
