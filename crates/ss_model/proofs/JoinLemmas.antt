-- Joining windows that are due: what it leads to, and what it leaves.
use Rattle.ss_model.proofs.Common.{◌≡◌, ℕ, zero, suc, ◌+◌, Bool, true, false, cond, List, [], ◌∷◌, ◌++◌, refl, sym, ap, ◌∙◌, subst, length, arith}
use Rattle.ss_model.proofs.Common.{append_assoc, All, IsTrue, list_all, and_from, and_parts, cond-true, cond-false, cond_both, All-cons, All-head, All-tail}
use Rattle.ss_model.proofs.Common.{list_all-append, Landmark, summary_of, IsPossible-joined, Point, windows, taken, newest_time, last_position, joined_window}
use Rattle.ss_model.proofs.Common.{may_join, closed_onto, closed, IsInStep, NoneIsDue, JoinsDue, lies_free, Rule, may_be_one, step_of, AreWindows, Window}
use Rattle.std.proofs.Common.{length-append}
use Rattle.ss_summary.proofs.SummaryLemmas.{joined_assoc}
use Rattle.ss_model.specs.Joins.{JoinsTwo, Joins}
use Rattle.ss_model.proofs.DecayLemmas.{MeetSteps-pushed, TileFrom-pushed, NoneIsDue-closed, NoneIsDue-windows}
use Rattle.ss_model.proofs.Incremental.{windows_push}
use Rattle.ss_model.proofs.RuleLemmas.{EndAlike-due, MeetSteps, MeetSteps-StandFrom, MeetSteps_joined, TileFrom, TileFrom-StandFrom, TileFrom_joined}
use Rattle.ss_model.proofs.RuleLemmas.{may_join-alike, same_step}
use Rattle.ss_model.proofs.Closes.{newest_time-cons, newest_time_joined}
use Rattle.ss_model.proofs.MarkLemmas.{lies_free-joined}
use Rattle.ss_model.proofs.Stretches.{taken-cons}
use Rattle.ss_model.proofs.Tiles.{taken-append, IsPossible-from_AreWindows, AreNeighbours-from_AreWindows, AreWindows_joined}

joined_window_assoc : (x w v : Window) → joined_window (joined_window x w) v ≡ joined_window x (joined_window w v)
joined_window_assoc x w v = λ i. record { first = x.first; summary = joined_assoc x.summary w.summary v.summary i }

-- a window that may be one with the next may be so with both, where these are due
may_join-due : (rule : Rule) (n first : ℕ) (x w v : Window) (vs : List Window) → TileFrom first (w ∷ v ∷ vs) → MeetSteps rule.step (w ∷ v ∷ vs) →
    may_join rule n w v ≡ true → may_join rule n x w ≡ may_join rule n x v
may_join-due rule n first x w v vs tiles meet due = may_join-alike rule n x w v (EndAlike-due rule n first w v vs tiles meet due)

last_position_joined : (first : ℕ) (w v : Window) (vs : List Window) → TileFrom first (w ∷ v ∷ vs) → last_position (joined_window w v) ≡ last_position v
last_position_joined first w v vs tiles =
    let front = tiles.0 in
    let second = tiles.2.0 in
    let some = tiles.2.1 in
    omega arith

-- the same choice between the same two
same_choice : {A : Type 0} (s t : Bool) (x y u v : A) → s ≡ t → (t ≡ true → x ≡ u) → (t ≡ false → y ≡ v) → cond s x y ≡ cond t u v
same_choice s true x y u v same if_true if_false = rw same (if_true refl)
same_choice s false x y u v same if_true if_false = rw same (if_false refl)

closed_onto-due : (rule : Rule) (n first : ℕ) (x : Window) (us : List Window) (w v : Window) (vs : List Window) → TileFrom first (x ∷ us ++ w ∷ v ∷ vs) →
    MeetSteps rule.step (x ∷ us ++ w ∷ v ∷ vs) → may_join rule n w v ≡ true →
    closed_onto rule n x (us ++ joined_window w v ∷ vs) ≡ closed_onto rule n x (us ++ w ∷ v ∷ vs)
closed_onto-due rule n first x [] w v vs tiles meet due =
    let one = joined_window w v in
    let last = last_position_joined (first + x.summary.count) w v vs tiles.2 in
    let alike : may_join rule n x w ≡ may_join rule n x v = may_join-due rule n (first + x.summary.count) x w v vs tiles.2 meet.1 due in
    let tests : may_join rule n x one ≡ may_join rule n x w =
    ap (λ p. may_be_one rule x.first p n x.summary.t_first v.summary.t_last) last ∙ sym alike in
    same_choice (may_join rule n x one) (may_join rule n x w)
    (closed_onto rule n (joined_window x one) vs) (x ∷ closed_onto rule n one vs)
    (closed_onto rule n (joined_window x w) (v ∷ vs)) (x ∷ closed_onto rule n w (v ∷ vs)) tests
    (λ (fit : may_join rule n x w ≡ true).
    ap (λ z. closed_onto rule n z vs) (sym (joined_window_assoc x w v))
    ∙ sym (cond-true _ (closed_onto rule n (joined_window (joined_window x w) v) vs) (joined_window x w ∷ closed_onto rule n v vs)
    (sym alike ∙ fit)))
    (λ (unfit : may_join rule n x w ≡ false).
    ap (λ zs. x ∷ zs) (sym (cond-true _ (closed_onto rule n one vs) (w ∷ closed_onto rule n v vs) due)))
closed_onto-due rule n first x (u ∷ us) w v vs tiles meet due =
    same_choice (may_join rule n x u) (may_join rule n x u)
    (closed_onto rule n (joined_window x u) (us ++ joined_window w v ∷ vs)) (x ∷ closed_onto rule n u (us ++ joined_window w v ∷ vs))
    (closed_onto rule n (joined_window x u) (us ++ w ∷ v ∷ vs)) (x ∷ closed_onto rule n u (us ++ w ∷ v ∷ vs)) refl
    (λ (fit : may_join rule n x u ≡ true). closed_onto-due rule n first (joined_window x u) us w v vs
    (TileFrom_joined first x u (us ++ w ∷ v ∷ vs) tiles) (MeetSteps_joined rule n x u (us ++ w ∷ v ∷ vs) meet fit) due)
    (λ (unfit : may_join rule n x u ≡ false).
    ap (λ zs. x ∷ zs) (closed_onto-due rule n (first + x.summary.count) u us w v vs tiles.2 meet.1 due))

closed-due : (rule : Rule) (n : ℕ) (us : List Window) (w v : Window) (vs : List Window) → TileFrom 1 (us ++ w ∷ v ∷ vs) →
    MeetSteps rule.step (us ++ w ∷ v ∷ vs) → may_join rule n w v ≡ true → closed rule n (us ++ joined_window w v ∷ vs) ≡ closed rule n (us ++ w ∷ v ∷ vs)
closed-due rule n [] w v vs tiles meet due = sym (cond-true _ (closed_onto rule n (joined_window w v) vs) (w ∷ closed_onto rule n v vs) due)
closed-due rule n (u ∷ us) w v vs tiles meet due = closed_onto-due rule n 1 u us w v vs tiles meet due

TileFrom-due : (first : ℕ) (us : List Window) (w v : Window) (vs : List Window) → TileFrom first (us ++ w ∷ v ∷ vs) →
    TileFrom first (us ++ joined_window w v ∷ vs)
TileFrom-due first [] w v vs tiles = TileFrom_joined first w v vs tiles
TileFrom-due first (u ∷ us) w v vs tiles = (tiles.0, tiles.1, TileFrom-due (first + u.summary.count) us w v vs tiles.2)

MeetSteps-due : (rule : Rule) (n : ℕ) (us : List Window) (w v : Window) (vs : List Window) → MeetSteps rule.step (us ++ w ∷ v ∷ vs) →
    may_join rule n w v ≡ true → MeetSteps rule.step (us ++ joined_window w v ∷ vs)
MeetSteps-due rule n [] w v vs meet due = MeetSteps_joined rule n w v vs meet due
MeetSteps-due rule n (x ∷ []) w v vs meet due =
    let end : step_of rule.step w.summary.t_last ≡ step_of rule.step v.summary.t_last = meet.1.0 (same_step rule n w v due) in
    ((λ same. meet.0 (same ∙ sym end) ∙ end), MeetSteps_joined rule n w v vs meet.1 due)
MeetSteps-due rule n (x ∷ u ∷ us) w v vs meet due = (meet.0, MeetSteps-due rule n (u ∷ us) w v vs meet.1 due)

closed-joins : (rule : Rule) (n k : ℕ) (old new : List Window) → TileFrom 1 old → MeetSteps rule.step old → Joins rule n k old new →
    closed rule n new ≡ closed rule n old
closed-joins rule n zero old new tiles meet same = ap (closed rule n) (sym same)
closed-joins rule n (suc k) old new tiles meet joins =
    let one = joins.1 in
    let stands : TileFrom 1 (one.before ++ one.window ∷ one.next ∷ one.rest) = subst (TileFrom 1) one.was tiles in
    let meets : MeetSteps rule.step (one.before ++ one.window ∷ one.next ∷ one.rest) = subst (MeetSteps rule.step) one.was meet in
    let after : TileFrom 1 joins.0 = subst (TileFrom 1) (sym one.is) (TileFrom-due 1 one.before one.window one.next one.rest stands) in
    let meets_after : MeetSteps rule.step joins.0 =
    subst (MeetSteps rule.step) (sym one.is) (MeetSteps-due rule n one.before one.window one.next one.rest meets one.due) in
    closed-joins rule n k joins.0 new after meets_after joins.2
    ∙ ap (closed rule n) one.is ∙ closed-due rule n one.before one.window one.next one.rest stands meets one.due ∙ ap (closed rule n) (sym one.was)

pub closed-JoinsDue : (rule : Rule) (n : ℕ) (old new : List Window) → AreWindows old → JoinsDue rule n old new → closed rule n new ≡ closed rule n old
closed-JoinsDue rule n old new tiles joins =
    closed-joins rule n joins.0 old new (TileFrom-StandFrom 1 0 old tiles.stand) (MeetSteps-StandFrom rule.step 1 0 old tiles.stand) joins.1

JoinsDue-closed_onto : (rule : Rule) (n : ℕ) (us : List Window) (w : Window) (ws : List Window) → JoinsDue rule n (us ++ w ∷ ws) (us ++ closed_onto rule n w ws)
JoinsDue-closed_onto rule n us w [] = (0, refl)
JoinsDue-closed_onto rule n us w (v ∷ vs) =
    cond_both (may_join rule n w v) (closed_onto rule n (joined_window w v) vs) (w ∷ closed_onto rule n v vs)
    (λ (zs : List Window). JoinsDue rule n (us ++ w ∷ v ∷ vs) (us ++ zs))
    (λ (fit : may_join rule n w v ≡ true).
    let rest = JoinsDue-closed_onto rule n us (joined_window w v) vs in
    (suc rest.0, (us ++ joined_window w v ∷ vs, record { before = us; window = w; next = v; rest = vs; was = refl; is = refl; due = fit }, rest.1)))
    (λ unfit. rw (append_assoc us (w ∷ []) (v ∷ vs), append_assoc us (w ∷ []) (closed_onto rule n v vs)) at (JoinsDue-closed_onto rule n (us ++ w ∷ []) v vs))

pub JoinsDue-closed : (rule : Rule) (n : ℕ) (ws : List Window) → JoinsDue rule n ws (closed rule n ws)
JoinsDue-closed rule n [] = (0, refl)
JoinsDue-closed rule n (w ∷ ws) = JoinsDue-closed_onto rule n [] w ws

closed_onto-none_due : (rule : Rule) (n : ℕ) (w : Window) (ws : List Window) → NoneIsDue rule n (w ∷ ws) → closed_onto rule n w ws ≡ w ∷ ws
closed_onto-none_due rule n w [] none = refl
closed_onto-none_due rule n w (v ∷ vs) none =
    cond-false _ (closed_onto rule n (joined_window w v) vs) (w ∷ closed_onto rule n v vs) none.0 ∙ ap (λ zs. w ∷ zs) (closed_onto-none_due rule n v vs none.1)

closed-none_due : (rule : Rule) (n : ℕ) (ws : List Window) → NoneIsDue rule n ws → closed rule n ws ≡ ws
closed-none_due rule n [] none = refl
closed-none_due rule n (w ∷ ws) none = closed_onto-none_due rule n w ws none

pub closed-closed : (rule : Rule) (n : ℕ) (ws : List Window) → AreWindows ws → closed rule n (closed rule n ws) ≡ closed rule n ws
closed-closed rule n ws tiles = closed-none_due rule n (closed rule n ws) (NoneIsDue-closed rule n ws tiles)

pub closed-windows : (rule : Rule) (values : List Point) → closed rule (length values) (windows rule values) ≡ windows rule values
closed-windows rule values = closed-none_due rule (length values) (windows rule values) (NoneIsDue-windows rule values)

pub closed-interrupted : (rule : Rule) (values : List Point) (p : Point) (ws : List Window) →
    JoinsDue rule (length values + 1) (windows rule values ++ record { first = length values + 1; summary = summary_of (p ∷ []) } ∷ []) ws →
    closed rule (length values + 1) ws ≡ windows rule (values ++ p ∷ [])
closed-interrupted rule values p ws joins =
    closed-joins rule (length values + 1) joins.0 (windows rule values ++ record { first = length values + 1; summary = summary_of (p ∷ []) } ∷ []) ws
    (TileFrom-pushed rule values p) (MeetSteps-pushed rule values p) joins.1
    ∙ sym (windows_push rule values p)

pub closed-only_end : (rule : Rule) (n : ℕ) (old new : List Window) → AreWindows old → JoinsDue rule n old new → NoneIsDue rule n new → new ≡ closed rule n old
closed-only_end rule n old new tiles joins none = sym (closed-none_due rule n new none) ∙ closed-JoinsDue rule n old new tiles joins

pub JoinsDue-one : (rule : Rule) (n : ℕ) (old new : List Window) → JoinsTwo rule n old new → JoinsDue rule n old new
JoinsDue-one rule n old new two = (1, (new, two, refl))

joins-append : (rule : Rule) (n k : ℕ) (old between new : List Window) → Joins rule n k old between → JoinsDue rule n between new → JoinsDue rule n old new
joins-append rule n zero old between new same later = subst (λ ws. JoinsDue rule n ws new) (sym same) later
joins-append rule n (suc k) old between new joins later =
    let rest = joins-append rule n k joins.0 between new joins.2 later in
    (suc rest.0, (joins.0, joins.1, rest.1))

pub JoinsDue-append : (rule : Rule) (n : ℕ) (old between new : List Window) → JoinsDue rule n old between → JoinsDue rule n between new →
    JoinsDue rule n old new
JoinsDue-append rule n old between new first later = joins-append rule n first.0 old between new first.1 later

AreWindows_two : (us vs : List Window) (w v : Window) → AreWindows (us ++ w ∷ v ∷ vs) → AreWindows (us ++ joined_window w v ∷ vs)
AreWindows_two us vs w v tiles =
    let pair = AreNeighbours-from_AreWindows us vs w v tiles in
    let front = IsPossible-from_AreWindows us (v ∷ vs) w tiles in
    let moved : AreWindows ((us ++ w ∷ []) ++ v ∷ vs) = rw (append_assoc us (w ∷ []) (v ∷ vs)) tiles in
    let back = IsPossible-from_AreWindows (us ++ w ∷ []) vs v moved in
    AreWindows_joined us vs w v tiles (IsPossible-joined w.summary v.summary front back pair.times pair.few)

AreWindows-joins : (rule : Rule) (n k : ℕ) (old new : List Window) → AreWindows old → Joins rule n k old new → AreWindows new
AreWindows-joins rule n zero old new tiles same = subst AreWindows same tiles
AreWindows-joins rule n (suc k) old new tiles joins =
    let one = joins.1 in
    AreWindows-joins rule n k joins.0 new
    (subst AreWindows (sym one.is) (AreWindows_two one.before one.rest one.window one.next (subst AreWindows one.was tiles))) joins.2

pub AreWindows-JoinsDue : (rule : Rule) (n : ℕ) (old new : List Window) → AreWindows old → JoinsDue rule n old new → AreWindows new
AreWindows-JoinsDue rule n old new tiles joins = AreWindows-joins rule n joins.0 old new tiles joins.1

-- a window that comes of two that are due lies in one step, among the others
in_steps_two : (step : ℕ) (us vs : List Window) (w v : Window) → All (IsInStep step) (us ++ w ∷ v ∷ vs) → IsInStep step (joined_window w v) →
    All (IsInStep step) (us ++ joined_window w v ∷ vs)
in_steps_two step [] vs w v all one =
    let P = IsInStep step in
    All-cons P (joined_window w v) vs one (All-tail P v vs (All-tail P w (v ∷ vs) all))
in_steps_two step (u ∷ us) vs w v all one =
    let P = IsInStep step in
    All-cons P u (us ++ joined_window w v ∷ vs) (All-head P u (us ++ w ∷ v ∷ vs) all)
    (in_steps_two step us vs w v (All-tail P u (us ++ w ∷ v ∷ vs) all) one)

in_steps-joins : (rule : Rule) (n k : ℕ) (old new : List Window) → All (IsInStep rule.step) old → Joins rule n k old new →
    All (IsInStep rule.step) new
in_steps-joins rule n zero old new all same = subst (λ ws. All (IsInStep rule.step) ws) same all
in_steps-joins rule n (suc k) old new all joins =
    let one = joins.1 in
    let here : All (IsInStep rule.step) (one.before ++ one.window ∷ one.next ∷ one.rest) = subst (λ ws. All (IsInStep rule.step) ws) one.was all in
    in_steps-joins rule n k joins.0 new
    (subst (λ ws. All (IsInStep rule.step) ws) (sym one.is)
    (in_steps_two rule.step one.before one.rest one.window one.next here (and_parts _ _ one.due).0)) joins.2

-- joining what is due leaves each window in its step
pub IsInStep-JoinsDue : (rule : Rule) (n : ℕ) (old new : List Window) → All (IsInStep rule.step) old → JoinsDue rule n old new →
    All (IsInStep rule.step) new
IsInStep-JoinsDue rule n old new all joins = in_steps-joins rule n joins.0 old new all joins.1

taken_two : (us vs : List Window) (w v : Window) → taken (us ++ joined_window w v ∷ vs) ≡ taken (us ++ w ∷ v ∷ vs)
taken_two us vs w v =
    omega (
      arith,
      taken-append us (joined_window w v ∷ vs),
      taken-append us (w ∷ v ∷ vs),
      taken-cons (joined_window w v) vs,
      taken-cons w (v ∷ vs),
      taken-cons v vs,
    )

taken-joins : (rule : Rule) (n k : ℕ) (old new : List Window) → Joins rule n k old new → taken new ≡ taken old
taken-joins rule n zero old new same = ap taken (sym same)
taken-joins rule n (suc k) old new joins =
    let one = joins.1 in
    taken-joins rule n k joins.0 new joins.2 ∙ ap taken one.is ∙ taken_two one.before one.rest one.window one.next ∙ ap taken (sym one.was)

pub taken-JoinsDue : (rule : Rule) (n : ℕ) (old new : List Window) → JoinsDue rule n old new → taken new ≡ taken old
taken-JoinsDue rule n old new joins = taken-joins rule n joins.0 old new joins.1

newest_time_two : (us vs : List Window) (w v : Window) → newest_time (us ++ joined_window w v ∷ vs) ≡ newest_time (us ++ w ∷ v ∷ vs)
newest_time_two [] vs w v = newest_time_joined w v vs
newest_time_two (u ∷ us) vs w v =
    newest_time-cons u (us ++ joined_window w v ∷ vs) (omega (arith, length-append us (joined_window w v ∷ vs)))
    ∙ newest_time_two us vs w v ∙ sym (newest_time-cons u (us ++ w ∷ v ∷ vs) (omega (arith, length-append us (w ∷ v ∷ vs))))

newest_time-joins : (rule : Rule) (n k : ℕ) (old new : List Window) → Joins rule n k old new → newest_time new ≡ newest_time old
newest_time-joins rule n zero old new same = ap newest_time (sym same)
newest_time-joins rule n (suc k) old new joins =
    let one = joins.1 in
    newest_time-joins rule n k joins.0 new joins.2 ∙ ap newest_time one.is ∙ newest_time_two one.before one.rest one.window one.next ∙
    ap newest_time (sym one.was)

pub newest_time-JoinsDue : (rule : Rule) (n : ℕ) (old new : List Window) → JoinsDue rule n old new → newest_time new ≡ newest_time old
newest_time-JoinsDue rule n old new joins = newest_time-joins rule n joins.0 old new joins.1

-- two windows that lie free lie so as one, among the others
lie_free_two : (ls : List Landmark) (us vs : List Window) (w v : Window) → AreWindows (us ++ w ∷ v ∷ vs) →
    list_all (lies_free ls) (us ++ w ∷ v ∷ vs) ≡ true → list_all (lies_free ls) (us ++ joined_window w v ∷ vs) ≡ true
lie_free_two ls us vs w v tiles all =
    let pair = AreNeighbours-from_AreWindows us vs w v tiles in
    let front = IsPossible-from_AreWindows us (v ∷ vs) w tiles in
    let moved : AreWindows ((us ++ w ∷ []) ++ v ∷ vs) = rw (append_assoc us (w ∷ []) (v ∷ vs)) tiles in
    let back = IsPossible-from_AreWindows (us ++ w ∷ []) vs v moved in
    let apart = and_parts (list_all (lies_free ls) us) (list_all (lies_free ls) (w ∷ v ∷ vs))
    (sym (list_all-append (lies_free ls) us (w ∷ v ∷ vs)) ∙ all) in
    let first = and_parts (lies_free ls w) (list_all (lies_free ls) (v ∷ vs)) apart.1 in
    let second = and_parts (lies_free ls v) (list_all (lies_free ls) vs) first.1 in
    list_all-append (lies_free ls) us (joined_window w v ∷ vs)
    ∙ and_from (list_all (lies_free ls) us) (list_all (lies_free ls) (joined_window w v ∷ vs)) apart.0
    (and_from (lies_free ls (joined_window w v)) (list_all (lies_free ls) vs) (lies_free-joined ls w v pair front back first.0 second.0) second.1)

lie_free-joins : (ls : List Landmark) (rule : Rule) (n k : ℕ) (old new : List Window) → AreWindows old → Joins rule n k old new →
    list_all (lies_free ls) old ≡ true → list_all (lies_free ls) new ≡ true
lie_free-joins ls rule n zero old new tiles same all = subst (λ ws. list_all (lies_free ls) ws ≡ true) same all
lie_free-joins ls rule n (suc k) old new tiles joins all =
    let one = joins.1 in
    let here : AreWindows (one.before ++ one.window ∷ one.next ∷ one.rest) = subst AreWindows one.was tiles in
    let lie : list_all (lies_free ls) (one.before ++ one.window ∷ one.next ∷ one.rest) ≡ true = subst (λ ws. list_all (lies_free ls) ws ≡ true) one.was all in
    lie_free-joins ls rule n k joins.0 new (subst AreWindows (sym one.is) (AreWindows_two one.before one.rest one.window one.next here)) joins.2
    (subst (λ ws. list_all (lies_free ls) ws ≡ true) (sym one.is) (lie_free_two ls one.before one.rest one.window one.next here lie))

-- joining what is due leaves windows free
pub lie_free-JoinsDue : (rule : Rule) (n : ℕ) (old new : List Window) (ls : List Landmark) → AreWindows old → JoinsDue rule n old new →
    IsTrue (list_all (lies_free ls) old) → IsTrue (list_all (lies_free ls) new)
lie_free-JoinsDue rule n old new ls tiles joins all = lie_free-joins ls rule n joins.0 old new tiles joins.1 all
