-- The values that are seen stay as few as a stream can have, and the whole windows among them lie before the next one.
use Rattle.std.proofs.Common.{ℕ, ◌+◌, ◌<◌, ◌≤◌, Bool, true, false, List, Option, Some, None, arith}
use Rattle.std.specs.Prelude.{IfSome, if◌then◌else◌}
use Rattle.ss_catalog.specs.declared.query.Kind.{Kind}
use Rattle.ss_landmarks.specs.Landmark.{Landmark, LandmarkValue}
use Rattle.ss_model.specs.Interval.{is_whole}
use Rattle.ss_model.specs.declared.types.Window.{Window}
use Rattle.ss_summary.specs.Figures.{Figures}
use Rattle.ss_base.specs.declared.limits.TheConstants.{MOST_VALUES}
use Rattle.ss_query.specs.Asked.{Follows, HasRoom, joined_with, marks_seen, seen_with}
use Rattle.ss_query.specs.declared.asking.Seen.{Seen}

pub HasRoom-none : (kind : Kind) (values : List LandmarkValue) → HasRoom (marks_seen kind values)
HasRoom-none kind values = record { few = omega arith; whole = tt }

-- a window that comes next is later than the whole ones
pub whole-fits : (seen : Seen) (w : Window) → HasRoom seen → Follows seen w →
    IfSome seen.whole (λ older. (older.t_last < w.summary.t_first) × (older.count + w.summary.count ≤ MOST_VALUES))
whole-fits seen w room follows = go seen.whole room.whole
  where
    go : (whole : Option Figures) → IfSome whole (λ f. (f.t_last < seen.next_time) × (f.count ≤ seen.taken)) →
        IfSome whole (λ older. (older.t_last < w.summary.t_first) × (older.count + w.summary.count ≤ MOST_VALUES))
    go None is = tt
    go (Some f) is = (omega (arith, is.0, follows.1), omega (arith, is.1, follows.0))

pub HasRoom-with : (landmarks : List Landmark) (kind : Kind) (from to : ℕ) (seen : Seen) (w : Window) → HasRoom seen → Follows seen w →
    w.summary.t_first ≤ w.summary.t_last → HasRoom (seen_with landmarks kind from to seen w)
HasRoom-with landmarks kind from to seen w room follows rises = record { few = follows.0; whole = go seen.whole (is_whole from to w) room.whole }
  where
    go : (whole : Option Figures) (b : Bool) → IfSome whole (λ f. (f.t_last < seen.next_time) × (f.count ≤ seen.taken)) →
        IfSome (if b then joined_with whole w.summary else whole)
        (λ f. (f.t_last < w.summary.t_last + 1) × (f.count ≤ seen.taken + w.summary.count))
    go None true is = (omega arith, omega arith)
    go None false is = tt
    go (Some f) true is = (omega arith, omega (arith, is.1))
    go (Some f) false is = (omega (arith, is.0, follows.1, rises), omega (arith, is.1))
