use Rattle.ss_stream.proofs.Common.{◌≡◌, ◌∙◌, ℕ, List, [], ◌∷◌, ◌++◌, map, refl, sym, ap, arith, Err, At, Entry, err_from_is_err_and}
use Rattle.ss_stream.proofs.Common.{is_valid-IsWindow, joined, rule_of, params_of, entries_of, IsRead, step-from, step-next}
use Rattle.ss_stream.proofs.Common.{IsPartlyJoined, values_held, IsHeldIn, IsJoinedIn, IsTimed, begun_at}
use Rattle.ss_stream.proofs.held.HeldStream.join.Goals as goal
use Rattle.ss_stream.proofs.Joinings.{AreSomeLive-two, IfChanged-window, IsFirm-read, LiveSlotsGo-two, TurnsShown-join, TurnsShown-not_read, read-held}
use Rattle.ss_stream.proofs.Pairs.{AreJoined, ArePair-read, AreSlots-joined, JoinsHeld-pair, StandsIn-left}
use Rattle.ss_stream.proofs.Pairs.{StandsIn-right, joined_line, next_is, one_part, one_part-same}
use Rattle.ss_stream.proofs.KeyedWindows.{AreDue-pair}
use Rattle.ss_stream.proofs.Rising.{IsTimed-joined, IsTimed-seam, TimesRise-any, TimesRise-seam, rise-joined}
use Rattle.ss_stream.proofs.Calls.{CrashTriple-failed}
use Rattle.ss_stream.proofs.ShownCalls.{TurnsShown-answers}
use Rattle.ss_stream.proofs.Spans.{TileFrom-joined, values_held-joined}
use Rattle.ss_stream.proofs.Costs.{StagesAtCost-after_read, StagesAtCost-answers, StagesAtCost-failed, StagesAtCost-reads}

pub get-window-requires : goal.get-window-requires
get-window-requires g c =
    StandsIn-left (rule_of (params_of c.args.self.now.part.target))
    (values_held (entries_of c.args.self.now.part)) c.args.self.now.part.line.entries c.args.pair.left
    c.args.pair.right (AreDue-pair c.args.self.now c.args.pair c.requires.due)

pub get-next-requires : goal.get-next-requires
get-next-requires g c =
    StandsIn-right (rule_of (params_of c.args.self.now.part.target))
    (values_held (entries_of c.args.self.now.part)) c.args.self.now.part.line.entries c.args.pair.left
    c.args.pair.right (AreDue-pair c.args.self.now c.args.pair c.requires.due)

pub read_joined-requires-clause-live : goal.read_joined-requires-clause-live
read_joined-requires-clause-live g c =
    let pair = ArePair-read c.args.self.now.part c.args.pair.left c.args.pair.right c.get-window.result c.get-next.result
    (AreDue-pair c.args.self.now c.args.pair c.requires.due) c.requires.due.ordered.tiles
    c.get-window.ensures.entry c.get-next.ensures.entry in
    AreSomeLive-two c.args.self.now.part (one_part c.args.self.now.part (joined_line (AreDue-pair c.args.self.now c.args.pair c.requires.due)))
    c.get-window.result
    c.get-next.result c.args.records.now.live pair.slots c.requires.live

pub read_joined-requires-clause-neighbours : goal.read_joined-requires-clause-neighbours
read_joined-requires-clause-neighbours g c =
    let part = c.args.self.now.part in
    let w = c.get-window.result in
    let v = c.get-next.result in
    let pair = ArePair-read part c.args.pair.left c.args.pair.right w v (AreDue-pair c.args.self.now c.args.pair c.requires.due)
    c.requires.due.ordered.tiles c.get-window.ensures.entry c.get-next.ensures.entry in
    let rise = TimesRise-any part.last_time (entries_of part) c.requires.due.ordered.times in
    record {
      first = pair.tiled.first;
      side_by_side = pair.tiled.next;
      later = TimesRise-seam 0 rise.0 pair.joined.front w v pair.joined.rest (rw (← pair.joined.was) rise.1);
      few = omega (arith, pair.tiled.last, pair.tiled.few);
    }

pub returns-in_err-read_joined-clause-joins : goal.returns-in_err-read_joined-clause-joins
returns-in_err-read_joined-clause-joins g c =
    let part = c.args.self.now.part in
    let w = c.get-window.result in
    let v = c.get-next.result in
    let new = one_part part (joined_line (AreDue-pair c.args.self.now c.args.pair c.requires.due)) in
    let same = one_part-same part (joined_line (AreDue-pair c.args.self.now c.args.pair c.requires.due)) in
    let pair = ArePair-read part c.args.pair.left c.args.pair.right w v (AreDue-pair c.args.self.now c.args.pair c.requires.due)
    c.requires.due.ordered.tiles c.get-window.ensures.entry c.get-next.ensures.entry in
    let failure = c.in_err-read_joined.field-0.0 in
    let p = err_from_is_err_and c.from_residual.result c.from_residual.ensures.1 in
    rw (p.1, p.2)
    (step-from c.in_err-read_joined.ensures.joined (λ told read.
    let knows = g.met.D.Disk.knows_now c.args.disk.now told in
    StagesAtCost-reads _ knows read.reads tt tt (record {
      turns = λ others s. TurnsShown-not_read others part s _ c.args.records.now c.read_joined.new.records _ _ _ refl knows read.reads;
      firm = λ others s held.
          let j = JoinsHeld-pair others part new s w v same pair.joined held.agrees held.stream in
          IsFirm-read (Unit {0}) (joined j.one.summary j.two.summary) failure
          (read-held others part new s w v same pair.joined _ (λ is. IsRead is (Err failure)) read.joined held);
    })))

pub stage_two-requires-clause-valid : goal.stage_two-requires-clause-valid
stage_two-requires-clause-valid g c =
    let tiled = (ArePair-read c.args.self.now.part c.args.pair.left c.args.pair.right c.get-window.result c.get-next.result
    (AreDue-pair c.args.self.now c.args.pair c.requires.due) c.requires.due.ordered.tiles
    c.get-window.ensures.entry c.get-next.ensures.entry).tiled in
    let count = c.in_ok-read_joined.ensures.count in
    is_valid-IsWindow c.args.self.now.part.id.0 c.get-window.result.first c.in_ok-read_joined.field-0 (omega arith) tiled.first
    (omega (arith, count, tiled.last, tiled.few))
    c.in_ok-read_joined.ensures.possible

pub stage_two-requires-clause-live : goal.stage_two-requires-clause-live
stage_two-requires-clause-live g c =
    let pair = ArePair-read c.args.self.now.part c.args.pair.left c.args.pair.right c.get-window.result c.get-next.result
    (AreDue-pair c.args.self.now c.args.pair c.requires.due) c.requires.due.ordered.tiles
    c.get-window.ensures.entry c.get-next.ensures.entry in
    rw c.read_joined.ensures.live
    (AreSomeLive-two c.args.self.now.part (one_part c.args.self.now.part (joined_line (AreDue-pair c.args.self.now c.args.pair c.requires.due)))
    c.get-window.result
    c.get-next.result c.args.records.now.live pair.slots c.requires.live)

pub returns-in_err-stage_two-clause-joins : goal.returns-in_err-stage_two-clause-joins
returns-in_err-stage_two-clause-joins g c =
    let part = c.args.self.now.part in
    let w = c.get-window.result in
    let v = c.get-next.result in
    let new = one_part part (joined_line (AreDue-pair c.args.self.now c.args.pair c.requires.due)) in
    let same = one_part-same part (joined_line (AreDue-pair c.args.self.now c.args.pair c.requires.due)) in
    let pair = ArePair-read part c.args.pair.left c.args.pair.right w v (AreDue-pair c.args.self.now c.args.pair c.requires.due)
    c.requires.due.ordered.tiles c.get-window.ensures.entry c.get-next.ensures.entry in
    let p = err_from_is_err_and c.from_residual-in_err-stage_two.result c.from_residual-in_err-stage_two.ensures.1 in
    rw (p.1, p.2)
    (step-next c.in_ok-read_joined.ensures.joined c.in_err-stage_two.ensures.stages (λ told told_read read staged.
    let knows = g.met.D.Disk.knows_now c.args.disk.now told in
    let knows_read = g.met.D.Disk.knows_now c.read_joined.new.disk told_read in
    StagesAtCost-failed _ refl (omega arith) (omega arith) (StagesAtCost-after_read _ knows knows_read read.reads
    c.in_ok-read_joined.ensures.journal staged) (λ both. record {
      turns = λ others s.
          CrashTriple-failed _ _ _ _ _ _ _ _ refl
          (TurnsShown-join others part new s w v same pair.joined c.args.records.now c.read_joined.new.records c.stage_two.new.records _ _ _
          c.in_ok-read_joined.field-0 _ knows knows_read read.reads c.in_ok-read_joined.ensures.journal read.joined both);
      firm = λ others s held. tt;
    })))

pub returns-in_err-read_joined-clause-changed : goal.returns-in_err-read_joined-clause-changed
returns-in_err-read_joined-clause-changed g c =
    let part = c.args.self.now.part in
    let w = c.get-window.result in
    let v = c.get-next.result in
    let pair = ArePair-read part c.args.pair.left c.args.pair.right w v (AreDue-pair c.args.self.now c.args.pair c.requires.due)
    c.requires.due.ordered.tiles c.get-window.ensures.entry c.get-next.ensures.entry in
    let p = err_from_is_err_and c.from_residual.result c.from_residual.ensures.1 in
    rw (p.1, p.2) (IfChanged-window (Unit {0}) part w v pair.joined c.in_err-read_joined.field-0.0 c.in_err-read_joined.ensures.changed)

-- the line that is left, and what it is to the line before
line : (g : _) (c : goal.After-merged g) →
    AreJoined (rule_of (params_of c.args.self.now.part.target))
    (values_held (entries_of c.args.self.now.part)) c.args.self.now.part.line.entries c.merged.new.line.entries
    c.get-window.result c.get-next.result
line g c =
    let due = AreDue-pair c.args.self.now c.args.pair c.requires.due in
    let pair = ArePair-read c.args.self.now.part c.args.pair.left c.args.pair.right c.get-window.result c.get-next.result due c.requires.due.ordered.tiles
    c.get-window.ensures.entry c.get-next.ensures.entry in
    rw (c.merged.ensures.joined due.pair) pair.joined

pub returns-clause-joins : goal.returns-clause-joins
returns-clause-joins g c =
    let part = c.args.self.now.part in
    let new = record part { line = c.merged.new.line } in
    step-next c.in_ok-read_joined.ensures.joined c.in_ok-stage_two.ensures.stages (λ told told_read read staged.
    let knows = g.met.D.Disk.knows_now c.args.disk.now told in
    let knows_read = g.met.D.Disk.knows_now c.read_joined.new.disk told_read in
    StagesAtCost-answers _ (omega arith) (omega arith) (StagesAtCost-after_read _ knows knows_read read.reads
    c.in_ok-read_joined.ensures.journal staged) (λ both. record {
      turns = λ others s.
          TurnsShown-answers c.args.records.now c.stage_two.new.records (IsHeldIn others part s) (IsPartlyJoined others s) (IsJoinedIn others new s) _ _
          c.in_ok-stage_two.field-0 _
          (TurnsShown-join others part new s c.get-window.result c.get-next.result
          (record { id = refl; name = refl; target = refl; slot = refl; last_time = refl; landmarks = refl }) (line g c) c.args.records.now
          c.read_joined.new.records c.stage_two.new.records _ _ _ c.in_ok-read_joined.field-0 _ knows knows_read read.reads
          c.in_ok-read_joined.ensures.journal read.joined both);
      firm = λ others s held. tt;
    }))

-- the times that are left
timed_joined : (g : _) (c : goal.After-merged g) → IsTimed c.merged.new.line.entries c.merged.new.self.times
timed_joined g c =
    let part = c.args.self.now.part in
    let due = AreDue-pair c.args.self.now c.args.pair c.requires.due in
    let it = due.pair in
    let front : List (ℕ × At) = map begun_at it.before ++ (it.window.t_first, c.args.pair.left) ∷ [] in
    let next = next_is (rule_of (params_of part.target)) (values_held (entries_of part)) part.line.entries c.args.pair.left c.args.pair.right due
    c.get-window.result c.get-next.result c.get-window.ensures.entry c.get-next.ensures.entry in
    let was = IsTimed-seam c.args.self.now.index.times it.before c.args.pair.left c.args.pair.right it.window it.next it.rest
    (rw it.is at c.requires.due.keyed.timed) in
    IsTimed-joined c.merged.new.self.times c.merged.new.line.entries it.before c.args.pair.left it.window it.next it.rest (c.merged.ensures.joined it)
    (c.merged.ensures.times front (map begun_at it.rest) c.args.pair.right
    (was ∙ ap (λ (e : Entry). front ++ (e.t_first, c.args.pair.right) ∷ map begun_at it.rest) next))

pub returns-clause-stands : goal.returns-clause-stands
returns-clause-stands g c =
    let part = c.args.self.now.part in
    let new = record part { line = c.merged.new.line } in
    let w = c.get-window.result in
    let v = c.get-next.result in
    let pair = line g c in
    let slots = AreSlots-joined (rule_of (params_of part.target)) (values_held (entries_of part)) part new w v refl refl pair in
    let done = c.in_ok-stage_two.ensures in
    let all : values_held (entries_of new) ≡ values_held (entries_of part) =
    ap (λ es. values_held es) pair.is ∙ values_held-joined pair.front w v pair.rest ∙ ap (λ es. values_held es) (sym pair.was) in
    record {
      whole = record {
        ordered = record {
          tiles = rw pair.is (TileFrom-joined 1 pair.front w v pair.rest (rw pair.was at c.requires.due.ordered.tiles));
          times = rw pair.is (rise-joined part.last_time pair.front w v pair.rest (rw pair.was at c.requires.due.ordered.times));
        };
        live = LiveSlotsGo-two part new w v c.args.records.now.live c.stage_two.new.records.live slots (rw c.read_joined.ensures.live at done.live);
        settled = done.settled;
        extent = rw (done.extent, c.in_ok-read_joined.ensures.journal) (omega arith);
      };
      holds = record { values = all; last_time = refl };
      keyed = record {
        target = c.merged.ensures.target ∙ c.requires.due.keyed.target;
        keyed = rw (c.values_held-n.ensures.value ∙ sym all) at c.merged.ensures.keyed;
        timed = timed_joined g c;
      };
    }

pub merged-requires-clause-keyed : goal.merged-requires-clause-keyed
merged-requires-clause-keyed g c = rw c.values_held-n.ensures.value c.requires.due.keyed.keyed
