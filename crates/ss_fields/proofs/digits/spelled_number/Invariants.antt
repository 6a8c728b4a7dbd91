use Rattle.std.proofs.Common.{◌≡◌, ◌<◌, ◌^◌, take}
use Rattle.ss_fields.specs.Words.{number_of}
use Rattle.ss_fields.proofs.digits.spelled_number.Given as goal

abbrev pub invariant-loop-digit : goal.invariant-loop-digit
invariant-loop-digit l = record { counted : l.value ≡ number_of (take l.digit-index l.word); fits : l.value < 2 ^ 64 }
