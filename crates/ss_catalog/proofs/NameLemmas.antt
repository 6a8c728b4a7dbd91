-- What the bytes of a name are.
use Rattle.std.proofs.Common.{◌≡◌, ℕ, ◌<◌, ◌≤◌, true, List, length, get_or, arith, ⊎_elim}
use Rattle.std.proofs.lemmas.Bool.{cases_lt}
use Rattle.std.proofs.lemmas.Bool.Decides.{nat_tests}
use Rattle.std.proofs.lemmas.List.{get_or_past}
use Rattle.std.proofs.lemmas.List.Sums.{AllPass-from_list_all}
use Rattle.std.proofs.lemmas.Str.{IsUtf8-from_ascii}
use Rattle.std.specs.List.{list_all}
use Rattle.std.specs.Str.{IsUtf8}
use Rattle.ss_catalog.specs.Names.{is_name, is_name_byte}

-- a byte of a name is a character of its own
is_name_byte-lt : (b : ℕ) → is_name_byte b ≡ true → b < 128
is_name_byte-lt b may = grind (arith, nat_tests)

all_ascii : (word : List ℕ) → list_all is_name_byte word ≡ true → (i : ℕ) → get_or word i 0 < 128
all_ascii word all i =
    ⊎_elim
    (λ inside. is_name_byte-lt (get_or word i 0) (AllPass-from_list_all is_name_byte word all i 0 inside))
    (λ past. rw (get_or_past word i 0 past) (omega arith))
    (cases_lt i (length word))

-- a name is text
pub IsUtf8-is_name : (word : List ℕ) → is_name word ≡ true → IsUtf8 word
unfolding is_name
IsUtf8-is_name word name =
    let all : list_all is_name_byte word ≡ true = grind (arith, nat_tests) in
    IsUtf8-from_ascii word (all_ascii word all)

-- a name has at most 32 bytes
pub length-is_name : (word : List ℕ) → is_name word ≡ true → length word ≤ 32
unfolding is_name
length-is_name word name = grind (arith, nat_tests)
