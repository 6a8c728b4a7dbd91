-- Where values are from changes nothing but the filters of windows.
use Rattle.ss_model.proofs.Common.{ℤ, ◌+ℤ◌, int_min, int_max, get_or, refl, ap, ap₂, sym, ◌∙◌, subst, inl, inr, arith, cases_Bool, length-map, map-append}
use Rattle.ss_model.proofs.Common.{Event, Create, Value, Open, Close, Drop, Figures, unfiltered, Point, Origin, Old, greatest, least, summary_of, time_at_end}
use Rattle.ss_model.proofs.Common.{boundaries, Given, Happened, creates, given_after, given_to, is_for, values_of, landmarks_of, nothing_given, has_open, later}
use Rattle.ss_model.proofs.Common.{latest_of, Created, Stream, standing, standing_after, stream_after, Rule, rule_of, newest_time, stretches, taken, time_at}
use Rattle.ss_model.proofs.Common.{windows, Window, AreKeptAlike, AllKeptAlike, IsHistory, refuses}
use Rattle.std.specs.Prelude.{◌≡◌, ℕ, zero, suc, ◌+◌, ◌-◌, ◌<◌, true, List, [], ◌∷◌, ◌++◌, map, take, drop, length}
use Rattle.std.proofs.lemmas.List.{take-map, drop-map}
use Rattle.std.proofs.lemmas.List.Folds.{fold-map}
use Rattle.ss_summary.specs.Filters.{filter_with, full, union}
use Rattle.ss_summary.specs.Summaries.{total}
use Rattle.ss_model.specs.Origins.{as_old, unfiltered_stream, unfiltered_window}
use Rattle.ss_model.specs.State.{state}
use Rattle.ss_model.proofs.EventLemmas.{after_last-push_yes, given_to-event, given_to-other}
use Rattle.ss_model.proofs.HistoryLemmas.{by_pushes, GoesOn-push, IsHistory-nil, IsHistory_push}
use Rattle.ss_model.proofs.OutlineLemmas.{refuses-outlines}
use Rattle.ss_model.proofs.Rises.{Rises, Rises-low, Rises-boundaries}
use Rattle.ss_model.proofs.Stretches.{length-back, taken-cons}

abbrev old_point : Point → Point
old_point p = (p.0, p.1, Old)

-- the figures of old points
total-old : (ps : List Point) → total (map old_point ps) ≡ total ps
total-old [] = refl
total-old (p ∷ ps) = ap (λ z. p.1 +ℤ z) (total-old ps)

least-old : (v : ℤ) (ps : List Point) → least v (map old_point ps) ≡ least v ps
least-old v [] = refl
least-old v (p ∷ ps) = ap (int_min v) (least-old p.1 ps)

greatest-old : (v : ℤ) (ps : List Point) → greatest v (map old_point ps) ≡ greatest v ps
greatest-old v [] = refl
greatest-old v (p ∷ ps) = ap (int_max v) (greatest-old p.1 ps)

end-old : (t : ℕ) (ps : List Point) → time_at_end t (map old_point ps) ≡ time_at_end t ps
end-old t [] = refl
end-old t (p ∷ ps) = end-old p.0 ps

full-full : union full full ≡ full
unfolding union full
full-full = refl

filter-old : (ps : List Point) → filter_with full (map old_point ps) ≡ full
filter-old [] = refl
filter-old (p ∷ ps) = ap (union full) (filter-old ps) ∙ full-full

summary-old : (p : Point) (ps : List Point) → summary_of (map old_point (p ∷ ps)) ≡ unfiltered (summary_of (p ∷ ps))
summary-old p ps i = record {
  count = suc (length-map ps old_point i);
  sum = p.1 +ℤ total-old ps i;
  min = least-old p.1 ps i;
  max = greatest-old p.1 ps i;
  t_first = p.0;
  t_last = end-old p.0 ps i;
  filter = filter-old ps i;
}

summary-take : (k : ℕ) (p : Point) (ps : List Point) → 0 < k → summary_of (take k (map old_point (p ∷ ps))) ≡ unfiltered (summary_of (take k (p ∷ ps)))
summary-take zero p ps some = absurd (omega arith)
summary-take (suc k) p ps some = ap (λ qs. summary_of (old_point p ∷ qs)) (take-map old_point k ps) ∙ summary-old p (take k ps)

-- the windows of old points
stretches-old : (before end : ℕ) (bs : List ℕ) (ps : List Point) → before + length ps ≡ end → Rises before bs end
    → stretches (before + 1) bs (map old_point ps) ≡ map unfiltered_window (stretches (before + 1) bs ps)
stretches-old before end bs [] count rising = refl
stretches-old before end [] (p ∷ ps) count rising = ap (λ (f : Figures). record { first = before + 1; summary = f } ∷ []) (summary-old p ps)
stretches-old before end (b ∷ bs) (p ∷ ps) count rising =
    let k = b + 1 - (before + 1) in
    let above = rising.0 in
    let below = Rises-low b bs end rising.1 in
    let some : 0 < b + 1 - (before + 1) = omega arith in
    let back = length-back before b end (p ∷ ps) count above below in
    ap (λ (f : Figures). record { first = before + 1; summary = f } ∷ stretches (b + 1) bs (drop k (map old_point (p ∷ ps)))) (summary-take k p ps some)
    ∙ ap (λ qs. record { first = before + 1; summary = unfiltered (summary_of (take k (p ∷ ps))) } ∷ stretches (b + 1) bs qs) (drop-map old_point k (p ∷ ps))
    ∙ ap (λ ws. record { first = before + 1; summary = unfiltered (summary_of (take k (p ∷ ps))) } ∷ ws)
    (stretches-old b end bs (drop k (p ∷ ps)) back rising.1)

times-old : (ps : List Point) → map (λ (p : Point). p.0) (map old_point ps) ≡ map (λ (p : Point). p.0) ps
times-old [] = refl
times-old (p ∷ ps) = ap (λ ts. p.0 ∷ ts) (times-old ps)

windows-old : (rule : Rule) (ps : List Point) → windows rule (map old_point ps) ≡ map unfiltered_window (windows rule ps)
windows-old rule [] = refl
windows-old rule (p ∷ ps) =
    let n = length (p ∷ ps) in
    let time = time_at (p ∷ ps) in
    ap (λ m. stretches 1 (boundaries rule (time_at (map old_point (p ∷ ps))) m) (map old_point (p ∷ ps))) (length-map (p ∷ ps) old_point)
    ∙ ap (λ ts. stretches 1 (boundaries rule (λ position. get_or ts (position - 1) 0) n) (map old_point (p ∷ ps))) (times-old (p ∷ ps))
    ∙ stretches-old 0 n (boundaries rule time n) (p ∷ ps) (omega arith) (Rises-boundaries rule time n (omega arith))

-- what a stream was given
abbrev old_given : Given → Given
old_given g = record { plain = map old_point g.plain; landmarks = g.landmarks }

given-old : (origin : Origin) (g : Given) (e : Event) → given_after Old (old_given g) e ≡ old_given (given_after origin g e)
given-old origin g (Create name params) = refl
given-old origin g (Value name t v) = elim (cases_Bool (has_open g.landmarks)) [
  | inl taken ↦ rw taken refl
  | inr shut ↦ rw (shut, map-append old_point g.plain ((t, v, origin) ∷ [])) refl
]
given-old origin g (Open name t) = refl
given-old origin g (Close name t) = refl
given-old origin g (Drop name) = refl

given_to-anew : (history : List Happened) (name : List ℕ) (e : Happened) → creates name e.0 ≡ true → given_to (history ++ e ∷ []) name ≡ nothing_given
given_to-anew history name e new = rw (after_last-push_yes (λ e. creates name e.0) history e new) refl

given_to-push : (name : List ℕ) (us : List Happened) (e : Happened) → given_to (map as_old us) name ≡ old_given (given_to us name)
    → given_to (map as_old us ++ as_old e ∷ []) name ≡ old_given (given_to (us ++ e ∷ []) name)
given_to-push name us e before = elim (cases_Bool (creates name e.0)) [
  | inl new ↦ given_to-anew (map as_old us) name (as_old e) new ∙ ap old_given (sym (given_to-anew us name e new))
  | inr spared ↦ elim (cases_Bool (is_for name e.0)) [
    | inl own ↦
        given_to-event (map as_old us) name e.0 Old own spared
        ∙ ap (λ g. given_after Old g e.0) before
        ∙ given-old e.1 (given_to us name) e.0
        ∙ ap old_given (sym (given_to-event us name e.0 e.1 own spared))
    | inr fails ↦ given_to-other (map as_old us) name e.0 Old fails ∙ before ∙ ap old_given (sym (given_to-other us name e.0 e.1 fails))
  ]
]

given_to-old : (history : List Happened) (name : List ℕ) → given_to (map as_old history) name ≡ old_given (given_to history name)
given_to-old history name =
    by_pushes (λ us. given_to (map as_old us) name ≡ old_given (given_to us name))
    (λ us e before. ap (λ es. given_to es name) (map-append as_old us (e ∷ [])) ∙ given_to-push name us e before)
    [] history refl

-- the streams that stand, and each of them
standing-old : (history : List Happened) → standing (map as_old history) ≡ standing history
standing-old history = fold-map (λ stand (e : Happened). standing_after stand e.0) as_old [] history

stream-old : (history : List Happened) (s : Created) → stream_after (map as_old history) s ≡ unfiltered_stream (stream_after history s)
stream-old history s =
    ap (λ (g : Given). record {
      number = s.number;
      name = s.name;
      params = s.params;
      windows = windows (rule_of s.params) g.plain;
      landmarks = g.landmarks;
    }) (given_to-old history s.name)
    ∙ ap (λ ws. record { number = s.number; name = s.name; params = s.params; windows = ws; landmarks = landmarks_of history s.name })
    (windows-old (rule_of s.params) (values_of history s.name))

streams-old : (history : List Happened) (ss : List Created)
    → map (stream_after (map as_old history)) ss ≡ map unfiltered_stream (map (stream_after history) ss)
streams-old history [] = refl
streams-old history (s ∷ ss) = ap₂ ◌∷◌ (stream-old history s) (streams-old history ss)

pub state-old : (history : List Happened) → state (map as_old history) ≡ map unfiltered_stream (state history)
unfolding state
state-old history = ap (λ ss. map (stream_after (map as_old history)) ss) (standing-old history) ∙ streams-old history (standing history)

-- what refusals read
pub taken-unfiltered : (ws : List Window) → taken (map unfiltered_window ws) ≡ taken ws
taken-unfiltered [] = refl
taken-unfiltered (w ∷ ws) =
    taken-cons (unfiltered_window w) (map unfiltered_window ws) ∙ ap (λ n. w.summary.count + n) (taken-unfiltered ws) ∙ sym (taken-cons w ws)

pub newest-unfiltered : (ws : List Window) → newest_time (map unfiltered_window ws) ≡ newest_time ws
newest-unfiltered [] = refl
newest-unfiltered (w ∷ []) = refl
newest-unfiltered (w ∷ v ∷ ws) = newest-unfiltered (v ∷ ws)

outline-unfiltered : (s : Stream) → AreKeptAlike (unfiltered_stream s) s
outline-unfiltered s = record {
  number = refl;
  name = refl;
  params = refl;
  values = taken-unfiltered s.windows;
  windows = length-map s.windows unfiltered_window;
  landmarks = refl;
  last_time = ap (λ t. later t (latest_of s.landmarks)) (newest-unfiltered s.windows);
}

pub outlines-unfiltered : (ss : List Stream) → AllKeptAlike (map unfiltered_stream ss) ss
outlines-unfiltered [] = tt
outlines-unfiltered (s ∷ ss) = (outline-unfiltered s, outlines-unfiltered ss)

refuses-old : (history : List Happened) (e : Event) → refuses (state (map as_old history)) e ≡ refuses (state history) e
refuses-old history e =
    ap (λ ss. refuses ss e) (state-old history)
    ∙ refuses-outlines (map unfiltered_stream (state history)) (state history) e (outlines-unfiltered (state history))

pub history-old : (history : List Happened) → IsHistory history → IsHistory (map as_old history)
history-old history whole =
    by_pushes (λ us. IsHistory us → IsHistory (map as_old us))
    (λ us e before whole.
    let on = GoesOn-push us e whole in
    subst IsHistory (sym (map-append as_old us (e ∷ []))) (IsHistory_push (map as_old us) (as_old e) (record {
      before = before on.before;
      said = on.said;
      accepted = refuses-old us e.0 ∙ on.accepted;
    })))
    [] history (λ none. IsHistory-nil) whole

pub old-history : (history : List Happened) → IsHistory (map as_old history) → IsHistory history
old-history history whole =
    by_pushes (λ us. IsHistory (map as_old us) → IsHistory us)
    (λ us e before whole.
    let on = GoesOn-push (map as_old us) (as_old e) (subst IsHistory (map-append as_old us (e ∷ [])) whole) in
    IsHistory_push us e (record {
      before = before on.before;
      said = on.said;
      accepted = sym (refuses-old us e.0) ∙ on.accepted;
    }))
    [] history (λ none. IsHistory-nil) whole
