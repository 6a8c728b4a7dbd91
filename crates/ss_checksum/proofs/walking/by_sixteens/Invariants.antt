use Rattle.std.proofs.Common.{◌≡◌}
use Rattle.std.specs.Prelude.{drop, fold}
use Rattle.ss_checksum.specs.Checksum.{after_bytes}
use Rattle.ss_checksum.proofs.walking.by_sixteens.Given as goal

-- the bytes that are left lead to where all lead
abbrev pub invariant-quads : goal.invariant-quads
invariant-quads l = fold (fold after_bytes) l.state (drop l.one-index l.quads) ≡ fold (fold after_bytes) l.start l.quads
