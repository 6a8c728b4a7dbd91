-- Worked rows: a record and an entry with their checks, whole and damaged, and the one record of which three bits make zeros.
use Rattle.std.specs.Prelude.{◌≡◌, ◌+◌, ◌-◌, ◌*◌, ◌^◌, ◌<◌, pos, true, false, List, ℕ, zero, suc, [], ◌∷◌, ◌++◌, All, replicate, Some, None}
use Rattle.std.proofs.Common.{arith, lit<, refl}
use Rattle.std.proofs.Math.Nat.{mul-pos, one-le-pow, pow-suc, pow-zero}
use Rattle.std.proofs.lemmas.List.Elements.{All-cons, All-nil}
use Rattle.ss_catalog.specs.Names as Names
use Rattle.ss_catalog.specs.Params.{exp as Exp}
use Rattle.ss_checksum.specs.Checksum as Checksum
use Rattle.ss_codec.specs.declared.record.Record.{Record}
use Rattle.ss_codec.specs.declared.record.Record.TheVariants.{Free, Stream, Value}
use Rattle.ss_codec.specs.Decoded as Decoded
use Rattle.ss_codec.specs.Fields as Fields
use Rattle.ss_codec.specs.Record as Records
use Rattle.ss_fields.specs.Fields as Numbers
use Rattle.ss_journal.specs.Checks as Checks
use Rattle.ss_journal.specs.Entries as Entries
use Rattle.ss_journal.specs.declared.put.Put.{Put}
use Rattle.ss_laws.specs.Damage.{AreOddBits, AreTwoBits, in_entry, in_slot, IsBurst, is_entry, read_from}

-- the stream `a` with the target `exp 2 1 1` and the number 0, in slot 7: its kind, what stands behind it, and its check
abbrev stream : Record
stream = Stream 0 (97 ∷ []) (Exp 2 1 1) false

abbrev behind_kind : List ℕ
behind_kind =
    1 ∷ 1 ∷ 0 ∷ []
    ++ replicate 4 0
    ++ 0 ∷ 0 ∷ 0 ∷ 2 ∷ 0 ∷ 0 ∷ 0 ∷ 1 ∷ 0 ∷ 0 ∷ 0 ∷ 1 ∷ 0 ∷ 0 ∷ 0 ∷ 0 ∷ []
    ++ 97 ∷ replicate 99 0

abbrev check : List ℕ
check = 226 ∷ 36 ∷ 72 ∷ 141 ∷ []

in_slot-stream : in_slot 7 stream ≡ 1 ∷ behind_kind ++ check
unfolding Checks.slot_form Checksum.checksum Records.spelling Fields.with_field Numbers.number_bytes
in_slot-stream = refl

read_from-stream : read_from 7 (1 ∷ behind_kind ++ check) ≡ Some stream
unfolding Checks.slot_form Checksum.checksum Decoded.decoded Decoded.record_in Decoded.stream_in Decoded.params_in Records.is_valid Records.spelling
    Names.is_name Fields.with_field Numbers.number_at Numbers.number_bytes
read_from-stream = refl

-- with another bit in its kind, or in its check, or in another slot it is none
read_from-kind : read_from 7 (3 ∷ behind_kind ++ check) ≡ None
unfolding Checks.slot_form Checksum.checksum Decoded.decoded Decoded.record_in Decoded.landmark_in Decoded.finish_in Records.is_valid Records.spelling
    Fields.with_field Numbers.number_at Numbers.number_bytes
read_from-kind = refl

read_from-check : read_from 7 (1 ∷ behind_kind ++ 226 ∷ 36 ∷ 72 ∷ 140 ∷ []) ≡ None
unfolding Checks.slot_form Checksum.checksum Decoded.decoded Decoded.record_in Decoded.stream_in Decoded.params_in Records.is_valid Records.spelling
    Names.is_name Fields.with_field Numbers.number_at Numbers.number_bytes
read_from-check = refl

read_from-moved : read_from 8 (1 ∷ behind_kind ++ check) ≡ None
unfolding Checks.slot_form Checksum.checksum Decoded.decoded Decoded.record_in Decoded.stream_in Decoded.params_in Records.is_valid Records.spelling
    Names.is_name Fields.with_field Numbers.number_at Numbers.number_bytes
read_from-moved = refl

-- a valid record of three bits, whose check is 0 in this slot: it differs from a free slot in no other
abbrev three_bits : Record
three_bits = Value 0 (2 ^ 31) (2 ^ 31) 0 (pos 0)

is_valid-three_bits : Records.is_valid three_bits ≡ true
unfolding Records.is_valid
is_valid-three_bits = refl

in_slot-three_bits : in_slot 755735 three_bits ≡ 4 ∷ replicate 7 0 ++ 128 ∷ 0 ∷ 0 ∷ 0 ∷ 128 ∷ replicate 115 0
unfolding Checks.slot_form Checksum.checksum Records.spelling Fields.with_field Numbers.number_bytes
in_slot-three_bits = refl

read_from-zeros : read_from 755735 (replicate 128 0) ≡ Some Free
unfolding Checks.slot_form Decoded.decoded Decoded.record_in Records.is_valid Records.spelling
read_from-zeros = refl

-- entry 2 with one put, 128 times 9 into slot 1
abbrev puts : List Put
puts = record { slot = 1; bytes = replicate 128 9 } ∷ []

abbrev body : List ℕ
body = 1 ∷ 0 ∷ 0 ∷ 0 ∷ 1 ∷ replicate 128 9 ++ replicate 406 0

in_entry-one : in_entry 2 puts ≡ body ++ 177 ∷ 165 ∷ 42 ∷ 170 ∷ []
unfolding Checks.entry_form Checksum.checksum Entries.entry_body Numbers.number_bytes
in_entry-one = refl

is_entry-one : is_entry 2 (body ++ 177 ∷ 165 ∷ 42 ∷ 170 ∷ []) 1 ≡ true
unfolding Checks.entry_form Checksum.checksum Entries.is_good Entries.puts_of Numbers.number_at Numbers.number_bytes
is_entry-one = refl

-- with another bit in its put, or in its check, or as another entry it isn't sound
is_entry-put : is_entry 2 (1 ∷ 0 ∷ 0 ∷ 0 ∷ 1 ∷ 8 ∷ replicate 127 9 ++ replicate 406 0 ++ 177 ∷ 165 ∷ 42 ∷ 170 ∷ []) 1 ≡ false
unfolding Checks.entry_form Checksum.checksum Entries.is_good Entries.puts_of Numbers.number_at Numbers.number_bytes
is_entry-put = refl

is_entry-check : is_entry 2 (body ++ 177 ∷ 165 ∷ 42 ∷ 171 ∷ []) 1 ≡ false
unfolding Checks.entry_form Checksum.checksum Entries.is_good Entries.puts_of Numbers.number_at Numbers.number_bytes
is_entry-check = refl

is_entry-other : is_entry 3 (body ++ 177 ∷ 165 ∷ 42 ∷ 170 ∷ []) 1 ≡ false
unfolding Checks.entry_form Checksum.checksum Entries.is_good Entries.puts_of Numbers.number_at Numbers.number_bytes
is_entry-other = refl

-- ---- how bytes differ

bytes-one : (x : ℕ) → x < 2 ^ 8 → All (λ b. b < 2 ^ 8) (x ∷ [])
bytes-one x few = All-cons (λ b. b < 2 ^ 8) x [] few (All-nil (λ b. b < 2 ^ 8))

bytes-five : (a b c d e : ℕ) → a < 2 ^ 8 → b < 2 ^ 8 → c < 2 ^ 8 → d < 2 ^ 8 → e < 2 ^ 8 → All (λ x. x < 2 ^ 8) (a ∷ b ∷ c ∷ d ∷ e ∷ [])
bytes-five a b c d e first second third fourth fifth =
    let P : ℕ → Type 0 = λ x. x < 2 ^ 8 in
    All-cons P a (b ∷ c ∷ d ∷ e ∷ []) first
    (All-cons P b (c ∷ d ∷ e ∷ []) second (All-cons P c (d ∷ e ∷ []) third (All-cons P d (e ∷ []) fourth (bytes-one e fifth))))

five_zeros : All (λ x. x < 2 ^ 8) (0 ∷ 0 ∷ 0 ∷ 0 ∷ 0 ∷ [])
five_zeros = bytes-five 0 0 0 0 0 (lit< tt) (lit< tt) (lit< tt) (lit< tt) (lit< tt)

-- a run of 32 bits, wherever it begins, or of one, and none of 33 or of none
burst-widest : IsBurst (0 ∷ 0 ∷ 0 ∷ 0 ∷ 0 ∷ []) (254 ∷ 255 ∷ 255 ∷ 255 ∷ 1 ∷ [])
burst-widest = record {
  long = record {
    same = refl;
    bytes = five_zeros;
    others = bytes-five 254 255 255 255 1 (lit< tt) (lit< tt) (lit< tt) (lit< tt) (lit< tt);
  };
  run = 2 ^ 32 - 1;
  at = 1;
  some = lit< tt;
  few = lit< tt;
  is = refl;
}

burst-one : IsBurst (5 ∷ []) (1 ∷ [])
burst-one = record {
  long = record { same = refl; bytes = bytes-one 5 (lit< tt); others = bytes-one 1 (lit< tt) };
  run = 1;
  at = 2;
  some = lit< tt;
  few = lit< tt;
  is = refl;
}

-- one more than an even number is no number of runs that begin behind the first bit
wide : (run at : ℕ) → run < 2 ^ 32 → 2 ^ 32 + 1 ≡ run * 2 ^ at → ⊥
wide run zero few is =
    let single : run * 2 ^ zero ≡ run = rw pow-zero (omega arith) in
    omega (arith, few, is, single)
wide run (suc at) few is =
    let twice : run * 2 ^ suc at ≡ run * 2 ^ at * 2 = rw pow-suc (omega arith) in
    omega (arith, is, twice)

burst-wider : IsBurst (0 ∷ 0 ∷ 0 ∷ 0 ∷ 0 ∷ []) (1 ∷ 0 ∷ 0 ∷ 0 ∷ 1 ∷ []) → ⊥
burst-wider burst = wide burst.run burst.at burst.few burst.is

burst-none : IsBurst (5 ∷ []) (5 ∷ []) → ⊥
burst-none burst =
    let is : 0 ≡ burst.run * 2 ^ burst.at = burst.is in
    omega (arith, is, mul-pos burst.some (one-le-pow burst.at 2 (lit< tt)))

-- two bits, also far from each other; three, and one
two_bits-far : AreTwoBits (0 ∷ 0 ∷ 0 ∷ 0 ∷ 0 ∷ []) (1 ∷ 0 ∷ 0 ∷ 0 ∷ 128 ∷ [])
two_bits-far = record {
  long = record { same = refl; bytes = five_zeros; others = bytes-five 1 0 0 0 128 (lit< tt) (lit< tt) (lit< tt) (lit< tt) (lit< tt) };
  lower = 0;
  higher = 39;
  order = lit< tt;
  is = refl;
}

odd_bits-three : AreOddBits (0 ∷ 0 ∷ 0 ∷ 0 ∷ 0 ∷ []) (1 ∷ 0 ∷ 4 ∷ 0 ∷ 128 ∷ [])
odd_bits-three = record {
  long = record { same = refl; bytes = five_zeros; others = bytes-five 1 0 4 0 128 (lit< tt) (lit< tt) (lit< tt) (lit< tt) (lit< tt) };
  first = 0;
  second = 18;
  third = 39;
  is = refl;
}

odd_bits-one : AreOddBits (5 ∷ []) (1 ∷ [])
odd_bits-one = record {
  long = record { same = refl; bytes = bytes-one 5 (lit< tt); others = bytes-one 1 (lit< tt) };
  first = 2;
  second = 0;
  third = 0;
  is = refl;
}
