-- What forms and words say where no word is left.
use Rattle.std.proofs.Common.{◌≡◌, ◌==◌, ◌<◌, ◌≤◌, ℕ, false, List, [], ◌∷◌, length, Ok, arith, refl}
use Rattle.std.proofs.lemmas.Bool.Decides.{nat_tests}
use Rattle.ss_command.specs.Said.{read_fields}
use Rattle.ss_command.specs.Table.{fits_form}
use Rattle.ss_command.specs.declared.said.Said.{Said}
use Rattle.ss_command.specs.declared.table.Field.{Field}

-- no words fit no form that has a field
pub fits_form-no_words : (form : List Field) → 1 ≤ length form → fits_form form [] ≡ false
fits_form-no_words [] some = absurd (omega arith)
fits_form-no_words (field ∷ form) some = refl

-- and they say no more than was said before
pub read_fields-no_words : (form : List Field) (said : Said) → read_fields form [] said ≡ Ok said
read_fields-no_words [] said = refl
read_fields-no_words (field ∷ form) said = refl

-- what isn't empty has something
pub some-from_test : (n : ℕ) → (n == 0) ≡ false → 0 < n
some-from_test n test = grind (arith, nat_tests)
