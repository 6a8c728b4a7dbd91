use Rattle.ss_recover.proofs.Common.{◌/◌, ◌≡◌, AreFoundBelow, AreGathered, SlotMap, vec_capacity}
use Rattle.ss_records.specs.Pages.{IsPage}
use Rattle.ss_recover.proofs.gathering.Gathered.take_page.Given as goal

abbrev pub invariant-loop-slot : goal.invariant-loop-slot
invariant-loop-slot l = record {
  gathered : AreGathered l.slot l.self;
  page : l.page ≡ l.fn.page;
  found : (found : SlotMap) → IsPage found.bytes (l.from / 32) l.fn.page → AreFoundBelow l.from l.fn.self found → AreFoundBelow l.slot l.self found;
  room : vec_capacity l.self.all ≡ vec_capacity l.fn.self.all;
}
