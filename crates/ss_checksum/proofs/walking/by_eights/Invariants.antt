use Rattle.std.proofs.Common.{◌≡◌}
use Rattle.std.specs.Prelude.{drop, fold}
use Rattle.ss_checksum.specs.Checksum.{after_bytes}
use Rattle.ss_checksum.proofs.walking.by_eights.Given as goal

-- the bytes that are left lead to where all lead
abbrev pub invariant-pairs : goal.invariant-pairs
invariant-pairs l = fold (fold after_bytes) l.state (drop l.front-index l.pairs) ≡ fold (fold after_bytes) l.start l.pairs
