use Rattle.ss_stream.proofs.Common.{◌≡◌, ◌∙◌, ℕ, ◌+◌, List, [], ◌∷◌, ◌++◌, map, refl, ap, arith, length, length-append, subst, take, Some, w64, map-append}
use Rattle.ss_stream.proofs.Common.{err_from_is_err_and, is_valid-IsWindow, LineState, index_of, IsKeyed, NoPairFits, take-seam, rule_of, params_of, At, Entry}
use Rattle.ss_stream.proofs.Common.{step-as, summary_of, entries_of, StreamParts, New, IsHalfway, values_held, with_single, IsHeldIn, begun_at}
use Rattle.std.proofs.Math.Facts.{to_z-of_z}
use Rattle.ss_schedule.specs.Keyed.{merge_rule}
use Rattle.ss_schedule.proofs.KeyedLemmas.{IsKeyed-next}
use Rattle.ss_schedule.proofs.Places.{fresh-none, index-once}
use Rattle.ss_targets.specs.Targets.{lengths-positive}
use Rattle.ss_stream.proofs.held.HeldStream.put_value.Goals as goal
use Rattle.ss_stream.proofs.Additions.{IsAdded, IsOrdered-added, LiveSlotsGo-added, TileFrom-added, TurnsShown-added, single_entry, values_held-added}
use Rattle.ss_stream.proofs.KeyedWindows.{FollowUpTo-take, FollowUpTo-tiles, NoPairFits-entries, take-all}
use Rattle.ss_stream.proofs.Rising.{IsTimed-added}
use Rattle.ss_stream.proofs.Calls.{CrashTriple-failed}
use Rattle.ss_stream.proofs.ShownCalls.{TurnsShown-answers}
use Rattle.ss_stream.proofs.Costs.{StagesAtCost-answers, StagesAtCost-failed}

pub stage_record-requires-clause-valid : goal.stage_record-requires-clause-valid
stage_record-requires-clause-valid g c =
    let count : c.one.result.count ≡ 1 = ap (λ f. f.count) c.one.ensures in
    is_valid-IsWindow c.number_of.result (c.values_held-position.result + 1) c.one.result (omega arith) (omega arith)
    (omega (arith, count, c.values_held-position.ensures.value, c.requires.can.room)) (assumption c.one.type_inv)

-- the stream with an entry more
abbrev added_part : StreamParts → ℕ → ℕ → StreamParts
added_part part slot t =
    record part {
      last_time = Some t;
      line = record { entries = part.line.entries ++ (record { 0 = 0 }, single_entry (values_held (entries_of part) + 1) t slot) ∷ []; spare = 0 };
    }

added_part-added : (part : StreamParts) (slot t : ℕ) → IsAdded part (added_part part slot t) slot t
added_part-added part slot t = record {
  id = refl;
  name = refl;
  target = refl;
  own_slot = refl;
  landmarks = refl;
  last_time = refl;
  entries = map-append (λ (e : At × Entry). e.1) part.line.entries ((record { 0 = 0 }, single_entry (values_held (entries_of part) + 1) t slot) ∷ []);
}

pub returns-in_err-stage_record-clause-puts : goal.returns-in_err-stage_record-clause-puts
returns-in_err-stage_record-clause-puts g c =
    let part = c.args.self.now.part in
    let can = c.requires.can in
    let new = added_part part c.args.slot c.args.t in
    let single : c.one.result ≡ summary_of ((c.args.t, c.args.v, New) ∷ []) =
    c.one.ensures ∙ ap (λ v. summary_of ((c.args.t, v, New) ∷ [])) (to_z-of_z {w = w64} {z = c.args.v} c.ranges.v) in
    let p = err_from_is_err_and c.from_residual.result c.from_residual.ensures.1 in
    rw (p.1, p.2)
    (step-as c.in_err-stage_record.ensures.stages (λ made. StagesAtCost-failed _ refl (omega arith) (omega arith) made (λ added. record {
      turns = λ others s.
          CrashTriple-failed _ _ _ _ _ _ _ _ refl
          (TurnsShown-added part new c.args.slot c.args.t (added_part-added part c.args.slot c.args.t) c.args.v c.one.result single
          (assumption c.one.type_inv) can.room can.plain can.later others s c.args.records.now c.stage_record.new.records _ _ _
          (rw (c.values_held-position.ensures.value, c.number_of.ensures) at added));
      firm = λ others s held. tt;
    })))

added : (part : StreamParts) (line : LineState) (at : At) (before slot t : ℕ) →
    line.entries ≡ part.line.entries ++ (at, single_entry (before + 1) t slot) ∷ [] → before ≡ values_held (entries_of part) →
    IsAdded part (record part { last_time = Some t; line = line }) slot t
added part line at before slot t pushed all = record {
  id = refl;
  name = refl;
  target = refl;
  own_slot = refl;
  landmarks = refl;
  last_time = refl;
  entries = ap (λ (es : List (At × Entry)). map (λ (e : At × Entry). e.1) es) pushed
      ∙ map-append (λ (e : At × Entry). e.1) part.line.entries ((at, single_entry (before + 1) t slot) ∷ [])
      ∙ ap (λ n. entries_of part ++ single_entry (n + 1) t slot ∷ []) all;
}

pub returns-clause-puts : goal.returns-clause-puts
returns-clause-puts g c =
    let part = c.args.self.now.part in
    let can = c.requires.can in
    let new = record part { last_time = Some c.args.t; line = c.push-at.new.self } in
    let single : c.one.result ≡ summary_of ((c.args.t, c.args.v, New) ∷ []) =
    c.one.ensures ∙ ap (λ v. summary_of ((c.args.t, v, New) ∷ [])) (to_z-of_z {w = w64} {z = c.args.v} c.ranges.v) in
    step-as c.in_ok-stage_record.ensures.stages (λ made. StagesAtCost-answers _ (omega arith) (omega arith) made (λ put. record {
      turns = λ others s.
          TurnsShown-answers c.args.records.now c.stage_record.new.records (IsHeldIn others part s) (IsHalfway others part s c.args.t c.args.v)
          (IsHeldIn others new (with_single s c.args.t c.args.v))
          _ _ c.in_ok-stage_record.field-0 _
          (TurnsShown-added part new c.args.slot c.args.t
          (added part c.push-at.new.self c.push-at.result c.values_held-position.result c.args.slot c.args.t c.push-at.ensures.pushed
          c.values_held-position.ensures.value) c.args.v c.one.result single (assumption c.one.type_inv)
          can.room can.plain can.later others s c.args.records.now c.stage_record.new.records _ _ _
          (rw (c.values_held-position.ensures.value, c.number_of.ensures) at put));
      firm = λ others s held. tt;
    }))

pub add_window-requires-clause-keyed : goal.add_window-requires-clause-keyed
add_window-requires-clause-keyed g c =
    let part = c.args.self.now.part in
    let ready = c.requires.can.reserved in
    let entry : Entry = single_entry (c.values_held-position.result + 1) c.args.t c.args.slot in
    let index = index-once part.line.entries c.push-at.result entry [] (fresh-none part.line.entries c.push-at.result c.push-at.ensures.fresh) in
    let none : NoPairFits (merge_rule c.args.self.now.index.schedule) (values_held (entries_of part)) part.line.entries =
    rw ready.target (NoPairFits-entries (rule_of (params_of part.target)) (values_held (entries_of part)) part.line.entries ready.none_due) in
    let later : IsKeyed (values_held (entries_of part) + 1) part.line.entries c.args.self.now.index.schedule =
    IsKeyed-next (values_held (entries_of part)) part.line.entries c.args.self.now.index.schedule (lengths-positive c.args.self.now.index.schedule.target)
    c.requires.can.room ready.keyed none in
    let front : take (index_of c.push-at.new.self.entries c.push-at.result) c.push-at.new.self.entries ≡ part.line.entries =
    ap (λ es. take (index_of es c.push-at.result) es) c.push-at.ensures.pushed
    ∙ ap (λ k. take k (part.line.entries ++ (c.push-at.result, entry) ∷ [])) index ∙ take-seam part.line.entries ((c.push-at.result, entry) ∷ []) in
    rw (c.values_held-position.ensures.value, front) later

pub add_window-requires-clause-follow : goal.add_window-requires-clause-follow
add_window-requires-clause-follow g c =
    let part = c.args.self.now.part in
    let is = added part c.push-at.new.self c.push-at.result c.values_held-position.result c.args.slot c.args.t c.push-at.ensures.pushed
    c.values_held-position.ensures.value in
    let new = record part { last_time = Some c.args.t; line = c.push-at.new.self } in
    let all = values_held-added part new c.args.slot c.args.t is in
    FollowUpTo-take (c.values_held-position.result + 1) _ c.push-at.new.self.entries
    (FollowUpTo-tiles (c.values_held-position.result + 1) c.push-at.new.self.entries
    (TileFrom-added part new c.args.slot c.args.t is c.requires.can.ordered.tiles c.requires.can.room)
    (omega (arith, all, c.values_held-position.ensures.value)))

pub returns-clause-stands : goal.returns-clause-stands
returns-clause-stands g c =
    let part = c.args.self.now.part in
    let line = c.push-at.new.self in
    let new = record part { last_time = Some c.args.t; line = line } in
    let entry : Entry = single_entry (c.values_held-position.result + 1) c.args.t c.args.slot in
    let is = added part line c.push-at.result c.values_held-position.result c.args.slot c.args.t c.push-at.ensures.pushed
    c.values_held-position.ensures.value in
    let all = values_held-added part new c.args.slot c.args.t is in
    let index : index_of line.entries c.push-at.result ≡ length part.line.entries =
    ap (λ es. index_of es c.push-at.result) c.push-at.ensures.pushed
    ∙ index-once part.line.entries c.push-at.result entry [] (fresh-none part.line.entries c.push-at.result c.push-at.ensures.fresh) in
    let long : length line.entries ≡ length part.line.entries + 1 =
    ap (λ es. length es) c.push-at.ensures.pushed ∙ length-append part.line.entries ((c.push-at.result, entry) ∷ []) in
    let whole : take (index_of line.entries c.push-at.result + 1) line.entries ≡ line.entries =
    take-all line.entries (index_of line.entries c.push-at.result + 1) (omega (arith, long, index)) in
    let done = c.in_ok-stage_record.ensures in
    record {
      whole = record {
        ordered = IsOrdered-added part new c.args.slot c.args.t is c.requires.can.ordered c.requires.can.room c.requires.can.later;
        live = LiveSlotsGo-added part new c.args.slot c.args.t is c.args.records.now.live c.stage_record.new.records.live done.live;
        settled = done.settled;
        extent = done.extent;
      };
      holds = record { values = all; last_time = refl };
      keyed = record {
        target = c.add_window.ensures.target ∙ c.requires.can.reserved.target;
        keyed = subst (λ n. IsKeyed n line.entries c.add_window.new.self.schedule) (omega (arith, all, c.values_held-position.ensures.value))
            (rw whole at c.add_window.ensures.keyed);
        timed = IsTimed-added part.line.entries line.entries c.add_window.new.self.times c.push-at.result entry c.args.t c.push-at.ensures.pushed refl
            (c.add_window.ensures.placed (map begun_at part.line.entries) (record { 0 = 0 }) c.requires.can.reserved.noted);
      };
    }

pub returns-clause-one_more : goal.returns-clause-one_more
returns-clause-one_more g c =
    let part = c.args.self.now.part in
    let entry : Entry = single_entry (c.values_held-position.result + 1) c.args.t c.args.slot in
    ap (λ es. length es) c.push-at.ensures.pushed ∙ length-append part.line.entries ((c.push-at.result, entry) ∷ [])
