use Rattle.std.proofs.Common.{◌≡◌}
use Rattle.std.specs.Prelude.{drop, fold}
use Rattle.ss_checksum.specs.Checksum.{after_bytes}
use Rattle.ss_checksum.proofs.walking.by_fours.Given as goal

-- the bytes that are left lead to where all lead
abbrev pub invariant-fours : goal.invariant-fours
invariant-fours l = fold after_bytes l.state (drop l.four-index l.fours) ≡ fold after_bytes l.start l.fours
