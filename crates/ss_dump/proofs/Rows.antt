-- Worked rows: a stream with three windows, and a store that holds nothing.
use Rattle.std.specs.Prelude.{◌≡◌, ℕ, List, [], ◌∷◌, ◌++◌, codes, replicate}
use Rattle.std.proofs.Common.{refl}
use Rattle.std.specs.Fmt.{digits}
use Rattle.hex.specs.Hex.{encode_with}
use Rattle.ss_checksum.specs.Checksum.{checksum}
use Rattle.ss_fields.specs.Fields.{number_bytes}
use Rattle.ss_dump.specs.Dump.{dump_text, end_line, head_line, row_line, sum_word}
use Rattle.ss_dump.specs.declared.row.Row.{Row}

-- the stream `a`, in the slot 0
abbrev stream : Row
stream = record {
  slot = 0;
  bytes =
      1 ∷ 1 ∷ 1 ∷ []
      ++ replicate 8 0
      ++ 2 ∷ 0 ∷ 0 ∷ 0 ∷ 1 ∷ 0 ∷ 0 ∷ 0 ∷ 1 ∷ []
      ++ replicate 4 0
      ++ 97 ∷ []
      ++ replicate 103 0;
}

abbrev stream_line : List ℕ
stream_line = codes "0 0101010000000000000000020000000100000001000000006100000000000000000000000000000000000000000000000000000000000000000000"
    ++ (codes "000000000000000000000000000000000000000000000000000000000000000000000000000000000000000000000000000000000000"
    ++ (codes "000000000000000000000000000000 65b6c97f" ++ 10 ∷ []))

row_line-stream : row_line stream ≡ stream_line
unfolding digits encode_with number_bytes checksum
row_line-stream = refl

-- a window of four values
abbrev window : Row
window = record {
  slot = 1;
  bytes =
      2 ∷ 1 ∷ []
      ++ replicate 13 0
      ++ 1 ∷ []
      ++ replicate 7 0
      ++ 4 ∷ []
      ++ replicate 15 0
      ++ 11 ∷ 255 ∷ 255 ∷ 255 ∷ 255 ∷ 255 ∷ 255 ∷ 255 ∷ 253 ∷ []
      ++ replicate 7 0
      ++ 8 ∷ []
      ++ replicate 7 0
      ++ 10 ∷ []
      ++ replicate 7 0
      ++ 40 ∷ 0 ∷ 0 ∷ 0 ∷ 32 ∷ 0 ∷ 128 ∷ []
      ++ replicate 14 0
      ++ 64 ∷ []
      ++ replicate 4 0
      ++ 2 ∷ []
      ++ replicate 30 0;
}

abbrev window_line : List ℕ
window_line = codes "1 0201000000000000000000000000000100000000000000040000000000000000000000000000000bfffffffffffffffd0000000000000008000000"
    ++ (codes "000000000a00000000000000280000002000800000000000000000000000000000400000000002000000000000000000000000000000"
    ++ (codes "000000000000000000000000000000 b11f2d8c" ++ 10 ∷ []))

row_line-window : row_line window ≡ window_line
unfolding digits encode_with number_bytes checksum
row_line-window = refl

-- one of two
abbrev two : Row
two = record {
  slot = 4;
  bytes =
      2 ∷ 1 ∷ []
      ++ replicate 13 0
      ++ 5 ∷ []
      ++ replicate 7 0
      ++ 2 ∷ []
      ++ replicate 15 0
      ++ 11 ∷ []
      ++ replicate 7 0
      ++ 2 ∷ []
      ++ replicate 7 0
      ++ 9 ∷ []
      ++ replicate 7 0
      ++ 50 ∷ []
      ++ replicate 7 0
      ++ 60 ∷ 16 ∷ []
      ++ replicate 21 0
      ++ 128 ∷ []
      ++ replicate 33 0;
}

abbrev two_line : List ℕ
two_line = codes "4 0201000000000000000000000000000500000000000000020000000000000000000000000000000b00000000000000020000000000000009000000"
    ++ (codes "0000000032000000000000003c1000000000000000000000000000000000000000000080000000000000000000000000000000000000"
    ++ (codes "000000000000000000000000000000 68fe90e7" ++ 10 ∷ []))

row_line-two : row_line two ≡ two_line
unfolding digits encode_with number_bytes checksum
row_line-two = refl

-- and one of one value
abbrev one : Row
one = record {
  slot = 5;
  bytes =
      2 ∷ 1 ∷ []
      ++ replicate 13 0
      ++ 7 ∷ []
      ++ replicate 7 0
      ++ 1 ∷ []
      ++ replicate 15 0
      ++ 7 ∷ []
      ++ replicate 7 0
      ++ 7 ∷ []
      ++ replicate 7 0
      ++ 7 ∷ []
      ++ replicate 7 0
      ++ 70 ∷ []
      ++ replicate 7 0
      ++ 70 ∷ []
      ++ replicate 13 0
      ++ 8 ∷ []
      ++ replicate 42 0;
}

abbrev one_line : List ℕ
one_line = codes "5 0201000000000000000000000000000700000000000000010000000000000000000000000000000700000000000000070000000000000007000000"
    ++ (codes "000000004600000000000000460000000000000000000000000008000000000000000000000000000000000000000000000000000000"
    ++ (codes "000000000000000000000000000000 ee3e1160" ++ 10 ∷ []))

row_line-one : row_line one ≡ one_line
unfolding digits encode_with number_bytes checksum
row_line-one = refl

-- all of them
dump_text-stream : dump_text (stream ∷ window ∷ two ∷ one ∷ []) ≡
    codes "dump 4" ++ 10 ∷ stream_line ++ window_line ++ two_line ++ one_line ++ codes "end 4 46ab2415" ++ 10 ∷ []
unfolding digits encode_with number_bytes checksum
dump_text-stream = refl

-- nothing
dump_text-nothing : dump_text [] ≡ codes "dump 0" ++ 10 ∷ codes "end 0 00000000" ++ 10 ∷ []
unfolding digits encode_with number_bytes checksum
dump_text-nothing = refl

-- the parts by themselves
sum_word-digits : sum_word 305419903 ≡ codes "1234567f"
unfolding encode_with number_bytes
sum_word-digits = refl

head_line-ten : head_line 10 ≡ codes "dump 10" ++ 10 ∷ []
unfolding digits
head_line-ten = refl

end_line-ten : end_line 10 255 ≡ codes "end 10 000000ff" ++ 10 ∷ []
unfolding digits encode_with number_bytes
end_line-ten = refl
