use Rattle.std.proofs.Common.{◌≡◌}
use Rattle.std.specs.Prelude.{drop}
use Rattle.ss_checksum.specs.Checksum.{after_bytes}
use Rattle.ss_checksum.proofs.walking.by_bytes.Given as goal

-- the bytes that are left lead to where all lead
abbrev pub invariant-bytes : goal.invariant-bytes
invariant-bytes l = after_bytes l.state (drop l.byte-index l.bytes) ≡ after_bytes l.start l.bytes
