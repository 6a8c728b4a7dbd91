-- The bytes of a name give back how it is held.
use Rattle.std.specs.Prelude.{◌≡◌, length, take}
use Rattle.ss_catalog.specs.Names.{padded, IsPaddedName}
use Rattle.ss_catalog.specs.declared.name.Name.TheInside.{Inside}

pub held-again :
    (n : Inside) → IsPaddedName n.bytes n.len
    → record { bytes = padded (take n.len n.bytes); len = length (take n.len n.bytes) } ≡ n
held-again n held i = record {
  bytes = held.whole i;
  len = held.length i;
}
