use Rattle.ss_store.proofs.Common.{◌≡◌, ◌≤◌, Ok, All, map, take, Step, fine, AreWhole, IsKeyedFor, IsScheduled, entry_of, held_parts, ReadError}
use Rattle.ss_records.specs.Kept.{AreAtRest}
use Rattle.ss_store.specs.Clearing.{Makes}
use Rattle.ss_store.proofs.ClosingAll.{ClosesFirst}
use Rattle.ss_store.proofs.opening.close_all.Given as goal

abbrev pub invariant-loop-place : goal.invariant-loop-place
invariant-loop-place g l = record {
  step : Step fine (g.D.Disk.seen l.fn.disk) (g.D.Disk.seen l.disk)
      (Makes {T = Unit {0}} {E = ReadError} (ClosesFirst (held_parts l.fn.streams) (held_parts l.streams) l.place) l.records (Ok tt));
  at_rest : AreAtRest l.records;
  extent : l.records.journal.extent ≤ l.fn.records.journal.extent;
  whole : AreWhole (held_parts l.streams) l.records.live;
  entries : map entry_of (held_parts l.streams) ≡ map entry_of (held_parts l.fn.streams);
  keyed : All IsKeyedFor l.streams;
  closed : All IsScheduled (take l.place l.streams);
}
