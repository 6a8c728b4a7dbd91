use Rattle.ss_store.proofs.Common.{◌≡◌, [], Ok, take, Step, fine, Failed, IsSettled, StagesAtCost, LiveSlotsGo}
use Rattle.ss_store.proofs.Clearings.{StagesFirst}
use Rattle.ss_store.proofs.clearing.stage_clearing.Given as goal

abbrev pub invariant-loop-slot : goal.invariant-loop-slot
invariant-loop-slot g l = record {
  step : Step fine (g.D.Disk.seen l.fn.disk) (g.D.Disk.seen l.disk)
      (StagesAtCost {T = Unit {0}} {E = Failed} (StagesFirst {T = Unit {0}} {E = Failed} l.slot-index l.doomed l.fn.records l.records (Ok tt)) 0
      l.slot-index l.fn.records l.records (Ok tt));
  settled : IsSettled l.records.journal;
  live : LiveSlotsGo (take l.slot-index l.doomed) [] l.fn.records.live l.records.live;
  extent : l.records.journal.extent ≡ l.fn.records.journal.extent;
}
