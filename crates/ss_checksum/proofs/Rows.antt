-- Worked rows: the vectors of RFC 3720 (B.4), the usual one, also in two parts, the last table, and how bytes differ as numbers.
use Rattle.std.proofs.Common.{◌≡◌, ◌+◌, ◌*◌, [], ◌∷◌, ◌++◌, codes, refl}
use Rattle.std.specs.Prelude.{replicate, slice_index_or}
use Rattle.ss_checksum.specs.Changes.{difference, number_of_bytes}
use Rattle.ss_checksum.specs.Checksum.{after_bits, checksum}
use Rattle.ss_checksum.specs.Codeword.{IsChecked, check_bytes}
use Rattle.ss_checksum.specs.declared.tables.TheConstants.{TABLES}

checksum-none : checksum [] ≡ 0
unfolding checksum
checksum-none = refl

checksum-digits : checksum (codes "123456789") ≡ 3808858755
unfolding checksum
checksum-digits = refl

checksum-zeros : checksum (replicate 32 0) ≡ 2324772522
unfolding checksum
checksum-zeros = refl

checksum-ones : checksum (replicate 32 255) ≡ 1655221059
unfolding checksum
checksum-ones = refl

checksum-rising : checksum (0 ∷ 1 ∷ 2 ∷ 3 ∷ 4 ∷ 5 ∷ 6 ∷ 7 ∷ 8 ∷ 9 ∷ 10 ∷ 11 ∷ 12 ∷ 13 ∷ 14 ∷ 15 ∷ 16 ∷ 17 ∷ 18 ∷ 19 ∷ 20 ∷ 21 ∷ 22 ∷ 23 ∷ 24 ∷ 25 ∷
    26 ∷ 27 ∷ 28 ∷ 29 ∷ 30 ∷ 31 ∷ []) ≡ 1188919630
unfolding checksum
checksum-rising = refl

checksum-falling : checksum (31 ∷ 30 ∷ 29 ∷ 28 ∷ 27 ∷ 26 ∷ 25 ∷ 24 ∷ 23 ∷ 22 ∷ 21 ∷ 20 ∷ 19 ∷ 18 ∷ 17 ∷ 16 ∷ 15 ∷ 14 ∷ 13 ∷ 12 ∷ 11 ∷ 10 ∷ 9 ∷ 8 ∷
    7 ∷ 6 ∷ 5 ∷ 4 ∷ 3 ∷ 2 ∷ 1 ∷ 0 ∷ []) ≡ 289397596
unfolding checksum
checksum-falling = refl

-- a read of iSCSI, 48 bytes
checksum-read : checksum
    (1 ∷ 192 ∷ 0 ∷ 0 ∷ 0 ∷ 0 ∷ 0 ∷ 0 ∷ 0 ∷ 0 ∷ 0 ∷ 0 ∷ 0 ∷ 0 ∷ 0 ∷ 0 ∷ 20 ∷ 0 ∷ 0 ∷ 0 ∷ 0 ∷ 0 ∷ 4 ∷ 0 ∷ 0 ∷ 0 ∷ 0 ∷ 20 ∷ 0 ∷ 0 ∷ 0 ∷ 24 ∷ 40 ∷ 0 ∷
    0 ∷ 0 ∷ 0 ∷ 0 ∷ 0 ∷ 0 ∷ 2 ∷ 0 ∷ 0 ∷ 0 ∷ 0 ∷ 0 ∷ 0 ∷ 0 ∷ []) ≡ 3650501206
unfolding checksum
checksum-read = refl

-- the last table has what 128 steps leave, at its second index and at its last
tables-second : slice_index_or (slice_index_or TABLES 15 []) 1 0 ≡ after_bits 128 1
tables-second = refl

tables-last : slice_index_or (slice_index_or TABLES 15 []) 255 0 ≡ 2413460986
tables-last = refl

after_bits-last : after_bits 128 255 ≡ 2413460986
after_bits-last = refl

-- as RFC 3720 prints the checksum of 32 zeros
check_bytes-zeros : check_bytes 2324772522 ≡ 170 ∷ 54 ∷ 145 ∷ 138 ∷ []
check_bytes-zeros = refl

-- the front is in the checksum, and not in the bytes
IsChecked-digits : IsChecked (codes "1234") (codes "56789" ++ 131 ∷ 146 ∷ 6 ∷ 227 ∷ [])
unfolding checksum
IsChecked-digits = record { covered = codes "56789"; are = refl }

-- the first byte is the lowest
number_of_bytes-three : number_of_bytes (1 ∷ 2 ∷ 3 ∷ []) ≡ 1 + 2 * 256 + 3 * 65536
number_of_bytes-three = refl

difference-three : difference (1 ∷ 2 ∷ 3 ∷ []) (1 ∷ 6 ∷ 2 ∷ []) ≡ 4 * 256 + 65536
difference-three = refl
