-- Contents with other values in place of those of the windows that a range splits.
use Rattle.std.specs.Prelude.{ℕ, ◌-◌, Bool, ◌&&◌, not, if◌then◌else◌, ℤ, List, [], ◌∷◌, ◌++◌, length, map, take, drop}
use Rattle.std.specs.List.{range_with_len}
use Rattle.ss_landmarks.specs.Free.{is_free}
use Rattle.ss_bounds.specs.Times.{lies_in}
use Rattle.ss_summary.specs.Points.{Point, New}
use Rattle.ss_model.specs.Interval.{is_split}
use Rattle.ss_model.specs.declared.types.Window.{Window}
use Rattle.ss_laws.specs.Contents.{Contents, own_windows}
use Rattle.ss_laws.specs.Sides.{Sides}

-- 1 for what is true
abbrev pub one_if : Bool → ℕ
one_if b = if b then 1 else 0

-- values at one time. The filters of windows aren't asked, so they may as well be new.
abbrev pub at_time : ℕ → List ℤ → List Point
at_time t values = map (λ v. (t, v, New)) values

-- Values inside from..=to and values outside it, at some of these times: in order, each free time takes the next value of its
-- side, where there is one.
abbrev pub placed_at_times : (ℕ → Bool) → ℕ → ℕ → List ℕ → List ℤ → List ℤ → List Point
placed_at_times free from to [] inside outside = []
placed_at_times free from to (t ∷ ts) inside outside =
    let i = one_if (free t && lies_in from to t) in
    let o = one_if (free t && not (lies_in from to t)) in
    at_time t (take i inside ++ take o outside) ++ placed_at_times free from to ts (drop i inside) (drop o outside)

-- Such values from a first to a last time. The last time has the last value of its side, and the times before it have the others.
abbrev pub placed : (ℕ → Bool) → ℕ → ℕ → ℕ → ℕ → Sides → List Point
placed free from to first last v =
    let i = length v.inside - one_if (lies_in from to last) in
    let o = length v.outside - one_if (not (lies_in from to last)) in
    placed_at_times free from to (range_with_len first (last - first)) (take i v.inside) (take o v.outside)
    ++ at_time last (drop i v.inside ++ drop o v.outside)

-- the first of such values, at the times of a window
abbrev pub placed_in : (ℕ → Bool) → ℕ → ℕ → Window → List Sides → List Point
placed_in free from to w [] = []
placed_in free from to w (v ∷ sides) = placed free from to w.summary.t_first w.summary.t_last v

-- the values of some windows, with those of each window that the range splits replaced by these in their order
abbrev pub replaced : (ℕ → Bool) → ℕ → ℕ → List Window → List Sides → List Point → List Point
replaced free from to [] sides values = values
replaced free from to (w ∷ ws) sides values =
    let rest = drop w.summary.count values in
    if is_split from to w
    then placed_in free from to w sides ++ replaced free from to ws (drop 1 sides) rest
    else take w.summary.count values ++ replaced free from to ws sides rest

-- contents, with the values of each window that the range from..=to splits replaced
abbrev pub rebuilt : ℕ → ℕ → List Sides → Contents → Contents
rebuilt from to sides c = record {
  params = c.params;
  plain = replaced (is_free c.landmarks) from to (own_windows c) sides c.plain;
  landmarks = c.landmarks;
}
