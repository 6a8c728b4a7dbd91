-- What a primary is, which frames are its own and which streams are alike: at some rows, and just beside them.
use Rattle.std.proofs.Common.{◌≡◌, ◌++◌, ℕ, true, false, List, [], ◌∷◌, map, None, Some, refl, codes, pos, lit<, lit≤, arith, ap}
use Rattle.std.specs.Prelude.{get_or}
use Rattle.std.specs.Int.{w64}
use Rattle.std.proofs.lemmas.Int.{fits_signed_from_abs}
use Rattle.ss_catalog.specs.Params.{exp}
use Rattle.ss_catalog.specs.declared.event.Event.{Event}
use Rattle.ss_catalog.specs.declared.event.Event.TheVariants.{Create, Value, Open, Close, Drop}
use Rattle.ss_catalog.specs.declared.params.Family.{Family}
use Rattle.ss_catalog.specs.declared.params.Family.TheVariants as families
use Rattle.ss_catalog.specs.declared.params.Params.{Params}
use Rattle.ss_catalog.specs.declared.refusal.Refusal.TheVariants.{Unknown}
use Rattle.ss_frames.specs.Frame.{FrameState}
use Rattle.ss_landmarks.specs.Landmark.{opened_at}
use Rattle.ss_model.proofs.HistoryLemmas.{IsHistory-nil, IsHistory_push}
use Rattle.ss_model.specs.History.{Happened, added}
use Rattle.ss_model.specs.Refusals.{IsHistory, refuses}
use Rattle.ss_model.specs.State.{Stream, state}
use Rattle.ss_replica.specs.Fronts.{AreAlikeStreams, IsFrameOf, IsPrimary, comes_last, drops_none, is_new_value}
use Rattle.ss_summary.specs.Points.{New, Old}
use Rattle.ss_targets.specs.Windowing.{window_index}

abbrev a : List ℕ
a = codes "a"

-- one event of each kind
abbrev kinds : List Event
kinds = Create a (exp 2 1 1) ∷ Value a 10 (pos 5) ∷ Open a 20 ∷ Close a 30 ∷ Drop a ∷ []

drops_none-kinds : map drops_none kinds ≡ true ∷ true ∷ true ∷ true ∷ false ∷ []
drops_none-kinds = refl

comes_last-kinds : map comes_last kinds ≡ false ∷ true ∷ true ∷ true ∷ false ∷ []
comes_last-kinds = refl

-- only a value can be old
is_new-kinds : map (is_new_value Old) kinds ≡ true ∷ false ∷ true ∷ true ∷ true ∷ []
is_new-kinds = refl

is_new-new : map (is_new_value New) kinds ≡ true ∷ true ∷ true ∷ true ∷ true ∷ []
is_new-new = refl

-- a stream and its first value
abbrev created : Happened
created = added (Create a (exp 2 1 1))

abbrev ten : Happened
ten = added (Value a 10 (pos 5))

history-readings : IsHistory (created ∷ ten ∷ [])
unfolding refuses state window_index
history-readings =
    IsHistory_push (created ∷ []) ten (record {
      before = IsHistory_push [] created (record { before = IsHistory-nil; said = tt; accepted = refl });
      said = (lit≤ tt, fits_signed_from_abs w64 (pos 5) (lit< tt));
      accepted = refl;
    })

-- it is a primary, and it isn't one with a drop behind, with its value old, or where the value comes first
pub primary-readings : IsPrimary (created ∷ ten ∷ [])
primary-readings = record { is_history = history-readings; undropped = refl; values = refl }

primary-dropped : IsPrimary (created ∷ ten ∷ added (Drop a) ∷ []) → ⊥
primary-dropped is = let wrong : false ≡ true = is.undropped in cc

primary-old : IsPrimary (created ∷ (Value a 10 (pos 5), Old) ∷ []) → ⊥
primary-old is = let wrong : false ≡ true = is.values in cc

primary-unborn : IsPrimary (ten ∷ created ∷ []) → ⊥
unfolding refuses state window_index
primary-unborn is = let wrong : Some Unknown ≡ None = is.is_history.accepted [] (created ∷ []) ten refl in cc

-- the frame of its value has the number 2, and no frame with another number is that of a value of it
abbrev frame : ℕ → FrameState
frame number = record { number = number; event = Value a 10 (pos 5) }

frame-second : IsFrameOf (created ∷ ten ∷ []) (frame 2)
frame-second = record { before = created ∷ []; origin = New; after = []; is = refl; number = refl }

frame-number : (history : List Happened) (f : FrameState) (is : IsFrameOf history f) → history ≡ is.before ++ (f.event, is.origin) ∷ is.after
frame-number history f is = is.is

-- streams are alike whichever their numbers are, and nothing else of them may differ
abbrev one : Stream
one = record { number = 0; name = a; params = exp 2 1 1; windows = []; landmarks = [] }

abbrev base_of : Family → ℕ
base_of (families.Exp b r s) = b
base_of (families.Power p q r s) = p

alike-numbers : AreAlikeStreams one (record one { number = 5 })
alike-numbers = record { name = refl; params = refl; windows = refl; landmarks = refl }

alike-name : AreAlikeStreams one (record one { name = codes "b" }) → ⊥
alike-name alike = let wrong : 97 ≡ 98 = ap (λ (name : List ℕ). get_or name 0 0) alike.name in omega (arith, wrong)

alike-params : AreAlikeStreams one (record one { params = exp 3 1 1 }) → ⊥
alike-params alike = let wrong : 2 ≡ 3 = ap (λ (params : Params). base_of params.family) alike.params in omega (arith, wrong)

alike-landmarks : AreAlikeStreams one (record one { landmarks = opened_at 5 ∷ [] }) → ⊥
alike-landmarks alike = let wrong : [] ≡ opened_at 5 ∷ [] = alike.landmarks in cc

alike-windows : (s other : Stream) → AreAlikeStreams s other → s.windows ≡ other.windows
alike-windows s other alike = alike.windows
