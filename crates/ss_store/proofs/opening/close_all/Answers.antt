use Rattle.ss_store.proofs.Common.{◌≡◌, ◌∙◌, ◌<◌, arith, refl, suc, length, slice_set, Ok, add-one, err_from_is_err_and, step-as}
use Rattle.ss_store.proofs.Common.{All-get_or, All-nil, All-push, All-set, ap, length-map, map, take, HeldStream, IsKeyedFor, IsScheduled, held_parts}
use Rattle.std.proofs.lemmas.List.{take_more_set}
use Rattle.ss_store.proofs.Common.{step-none, step-then, after-step, closed_state, entry_of, Recovers, reads-none}
use Rattle.std.proofs.Common.{slice_index_or}
use Rattle.ss_stream.proofs.Rising.{IsNoEarlier-same}
use Rattle.ss_stream.proofs.Calls.{Turns-failed}
use Rattle.ss_stream.proofs.KeyedWindows.{take-all, take-none}
use Rattle.ss_stream.proofs.Within.{KeepsWithin-failed, KeepsWithin-reads, KeepsWithin-then}
use Rattle.ss_store.proofs.Among.{AreWhole-at, AreWhole-set, length-AllAgree}
use Rattle.ss_store.proofs.ClosingAll.{AreHeldIn, ClosesFirst-more, ClosesFirst-none, SomeChangedIsHeld-set, Turns-all, Turns-open, closed_until}
use Rattle.ss_store.proofs.ClosingAll.{firm-ClosesFirst}
use Rattle.ss_store.proofs.OneOfMany.{map-set_same}
use Rattle.ss_store.proofs.IndexedStreams.{parts-at, parts-set}
use Rattle.ss_store.proofs.opening.close_all.Goals as goal

pub loop-place-init : goal.loop-place-init
loop-place-init g c = record {
  step = step-none (g.D.Disk.seen c.args.disk.now) _ (λ told.
      let knows = g.met.D.Disk.knows_now c.args.disk.now told in
      record {
        changes = ClosesFirst-none (held_parts c.args.streams.now) _ knows;
        kept = c.requires.one_disk told;
        within = KeepsWithin-reads (Ok tt) knows (reads-none (g.D.Disk.seen c.args.disk.now).told);
      });
  at_rest = c.requires.at_rest;
  extent = omega arith;
  whole = c.requires.whole;
  entries = refl;
  keyed = c.requires.keyed;
  closed = rw (← take-none c.args.streams.now) at (All-nil IsScheduled);
}

pub close_windows-requires-clause-ordered : goal.close_windows-requires-clause-ordered
close_windows-requires-clause-ordered g c =
    let held = c.loop-place.streams in
    let streams = held_parts held in
    let place = c.loop-place.place in
    let part = (slice_index_or held place c.index-streams-place.result).part in
    let at = parts-at held place c.index-streams-place.result (omega arith) in
    (AreWhole-at streams c.loop-place.records.live place part c.loop-place.invariant.whole at).0

pub close_windows-requires-clause-live : goal.close_windows-requires-clause-live
close_windows-requires-clause-live g c =
    let held = c.loop-place.streams in
    let streams = held_parts held in
    let place = c.loop-place.place in
    let part = (slice_index_or held place c.index-streams-place.result).part in
    let at = parts-at held place c.index-streams-place.result (omega arith) in
    (AreWhole-at streams c.loop-place.records.live place part c.loop-place.invariant.whole at).1

pub close_windows-requires-clause-one_disk : goal.close_windows-requires-clause-one_disk
close_windows-requires-clause-one_disk g c = after-step c.loop-place.invariant.step (λ told has. has.kept)

pub returns-in_err-close_windows-clause-closes : goal.returns-in_err-close_windows-clause-closes
returns-in_err-close_windows-clause-closes g c =
    let was = held_parts c.args.streams.now in
    let held = c.loop-place.streams in
    let now = held_parts held in
    let place = c.loop-place.place in
    let part = (slice_index_or held place c.index-streams-place.result).part in
    let at = parts-at held place c.index-streams-place.result (omega arith) in
    let new = c.close_windows.new.self.part in
    let changed = slice_set now place new in
    let inside : place < length was = rw (length-map c.args.streams.now (λ (h : HeldStream). h.part)) c.loop-place-test.true in
    let p = err_from_is_err_and c.from_residual.result c.from_residual.ensures.1 in
    rw (p.1, p.2, parts-set held place c.close_windows.new.self)
    (step-then c.loop-place.invariant.step c.in_err-close_windows.ensures.closes (λ first second. record {
      turns = λ all state agree.
          Turns-open was changed all _ _ _ agree
          (Turns-failed (AreHeldIn was all) (Recovers (closed_state all)) (AreHeldIn changed (closed_until (suc place) all))
          (AreHeldIn changed (closed_state all)) _ _ _ _ refl
          (ClosesFirst-more was now part new place _ _ _ _ at inside first.changes second.turns all state (length-AllAgree was all agree)));
      agree = λ all state agree has. tt;
      firm = λ all state agree has. firm-ClosesFirst was now part place _ _ _ at inside first.changes second.firm all state agree has;
      kept = tt;
      within = KeepsWithin-then _ first.within (KeepsWithin-failed _ refl second.within);
    }))

pub returns-in_err-close_windows-clause-entries : goal.returns-in_err-close_windows-clause-entries
returns-in_err-close_windows-clause-entries g c =
    let held = c.loop-place.streams in
    let streams = held_parts held in
    let place = c.loop-place.place in
    let part = (slice_index_or held place c.index-streams-place.result).part in
    let at = parts-at held place c.index-streams-place.result (omega arith) in
    let same = c.close_windows.ensures.same in
    ap (map entry_of) (parts-set held place c.close_windows.new.self)
    ∙ map-set_same entry_of streams place part c.close_windows.new.self.part at (λ i. (same.name i, same.id i)) ∙ c.loop-place.invariant.entries

pub returns-in_err-close_windows-clause-changed : goal.returns-in_err-close_windows-clause-changed
returns-in_err-close_windows-clause-changed g c =
    let held = c.loop-place.streams in
    let streams = held_parts held in
    let place = c.loop-place.place in
    let part = (slice_index_or held place c.index-streams-place.result).part in
    let at = parts-at held place c.index-streams-place.result (omega arith) in
    let p = err_from_is_err_and c.from_residual.result c.from_residual.ensures.1 in
    rw (p.1, p.2, parts-set held place c.close_windows.new.self)
    (SomeChangedIsHeld-set streams place part c.close_windows.new.self.part c.in_err-close_windows.field-0.0 at c.in_err-close_windows.ensures.changed)

pub loop-place-preserved : goal.loop-place-preserved
loop-place-preserved g c =
    let was = held_parts c.args.streams.now in
    let held = c.loop-place.streams in
    let now = held_parts held in
    let place = c.loop-place.place in
    let part = (slice_index_or held place c.index-streams-place.result).part in
    let at = parts-at held place c.index-streams-place.result (omega arith) in
    let new = c.close_windows.new.self.part in
    let same = c.close_windows.ensures.same in
    let before = c.loop-place.invariant in
    let after = c.in_ok-close_windows.ensures in
    let set = parts-set held place c.close_windows.new.self in
    let inside : place < length was = rw (length-map c.args.streams.now (λ (h : HeldStream). h.part)) c.loop-place-test.true in
    let within : place < length held = omega arith in
    record {
      step = step-then before.step after.closes (λ first second. record {
        changes = rw (add-one, set) (ClosesFirst-more was now part new place _ _ _ (Ok tt) at inside first.changes second.turns);
        kept = second.kept;
        within = KeepsWithin-then (Ok tt) first.within second.within;
      });
      at_rest = (after.whole.whole.settled, after.whole.sealed);
      extent = omega (arith, before.extent, after.whole.whole.extent);
      whole = rw set (AreWhole-set now c.loop-place.records.live c.close_windows.new.records.live place part new before.whole at same
          (IsNoEarlier-same part.last_time new.last_time after.holds.last_time) after.whole.whole.ordered after.whole.whole.live);
      entries = ap (map entry_of) set ∙ map-set_same entry_of now place part new at (λ i. (same.name i, same.id i)) ∙ before.entries;
      keyed = All-set IsKeyedFor held place c.close_windows.new.self after.scheduled.0 before.keyed;
      closed = rw (take_more_set held place c.close_windows.new.self within)
          (All-push IsScheduled (take place held) c.close_windows.new.self before.closed after.scheduled);
    }

pub returns-clause-closes : goal.returns-clause-closes
returns-clause-closes g c =
    let was = held_parts c.args.streams.now in
    let held = c.loop-place.streams in
    let now = held_parts held in
    let all = length-map c.args.streams.now (λ (h : HeldStream). h.part) in
    let end : c.loop-place.place ≡ length was = omega arith in
    step-as c.loop-place.invariant.step (λ made. record {
      turns = λ all state agree. Turns-open was now all _ _ (Ok tt) agree (Turns-all was now c.loop-place.place _ _ made.changes end all state agree);
      agree = λ all state agree has.
          ((Turns-all was now c.loop-place.place _ _ made.changes end all state agree).content (record { agree = agree; records = has })).agree;
      firm = λ all state agree has. tt;
      kept = made.kept;
      within = made.within;
    })

pub returns-clause-scheduled : goal.returns-clause-scheduled
returns-clause-scheduled g c = rw (take-all c.loop-place.streams c.loop-place.place (omega arith)) at c.loop-place.invariant.closed

pub close_windows-requires-clause-keyed : goal.close_windows-requires-clause-keyed
close_windows-requires-clause-keyed g c =
    All-get_or IsKeyedFor c.loop-place.streams c.loop-place.place c.index-streams-place.result (omega arith) c.loop-place.invariant.keyed
