-- The windows of one more value are those before and the new value, joined where they may be one.
use Rattle.ss_model.proofs.Common.{◌≡◌, ℕ, ◌+◌, ◌-◌, ◌<◌, Bool, true, false, cond, List, [], ◌∷◌, ◌++◌, length, take, drop, refl, ap, sym, ◌∙◌, subst, arith}
use Rattle.ss_model.proofs.Common.{add-one, append_assoc, take-append-drop, length_push, summary_of, joined, Point, staying, boundaries, Rule, may_be_one}
use Rattle.ss_model.proofs.Common.{stretches, time_at, windows, last_position, joined_window, may_join, closed_onto, closed, Window}
use Rattle.std.proofs.Common.{length-append}
use Rattle.ss_summary.proofs.SummaryLemmas.{joined-summary_of}
use Rattle.ss_model.proofs.Rises.{Rises, Rises-low, Rises-boundaries, Rises_push, boundaries-same}
use Rattle.ss_model.proofs.Stretches.{count-summary_of, length-front, length-back, stretches_none, stretches_at, stretches_push}
use Rattle.ss_model.proofs.Told.{Tells, Tells-append, Tells-parts, Tells-time_at, first-told, last-told, time_at-append}

-- a function of one choice, made by the same test
chosen : {X Y : Type 0} (f : Y → X) (s t : Bool) (x y : X) (left right : Y) → s ≡ t → x ≡ f left → y ≡ f right → cond s x y ≡ f (cond t left right)
chosen f s true x y left right same if_true if_false = rw same if_true
chosen f s false x y left right same if_true if_false = rw same if_false

-- One test, of the window from after `a` to b and the one after it, which ends at d.
closed_onto_step : (rule : Rule) (time : ℕ → ℕ) (n a b d : ℕ) (gone stays : List ℕ) (xs front ys : List Point) (vs : List Window) →
    a < b → b < d → a + length xs ≡ b → b + length front ≡ d → Tells time a xs → Tells time b front →
    closed_onto rule n (record { first = a + 1; summary = summary_of (xs ++ front) }) vs ≡ stretches (a + 1) gone (xs ++ ys) →
    closed_onto rule n (record { first = b + 1; summary = summary_of front }) vs ≡ stretches (b + 1) stays ys →
    closed_onto rule n (record { first = a + 1; summary = summary_of xs }) (record { first = b + 1; summary = summary_of front } ∷ vs)
    ≡ stretches (a + 1) (cond (may_be_one rule (a + 1) d n (time (a + 1)) (time d)) gone (b ∷ stays)) (xs ++ ys)
closed_onto_step rule time n a b d gone stays xs front ys vs from_run rises run_count front_count told told_front together apart =
    let w : Window = record { first = a + 1; summary = summary_of xs } in
    let v : Window = record { first = b + 1; summary = summary_of front } in
    let last : last_position v ≡ d = omega (arith, count-summary_of front) in
    let t_first = first-told time a xs (omega arith) told in
    let t_last = last-told time b d front front_count (omega arith) told_front in
    let tests : may_join rule n w v ≡ may_be_one rule (a + 1) d n (time (a + 1)) (time d) = rw (last, t_first, t_last) refl in
    let one : joined (summary_of xs) (summary_of front) ≡ summary_of (xs ++ front) = joined-summary_of xs front (omega arith) (omega arith) in
    chosen (λ cs. stretches (a + 1) cs (xs ++ ys)) (may_join rule n w v) (may_be_one rule (a + 1) d n (time (a + 1)) (time d))
    (closed_onto rule n (joined_window w v) vs) (w ∷ closed_onto rule n v vs) gone (b ∷ stays) tests
    (ap (λ s. closed_onto rule n (record { first = a + 1; summary = s }) vs) one ∙ together)
    (ap (λ ws. w ∷ ws) apart ∙ sym (stretches_at a b stays xs ys run_count from_run))

closed_onto-stretches : (rule : Rule) (time : ℕ → ℕ) (n a b : ℕ) (bs : List ℕ) (xs ys : List Point) →
    a < b → a + length xs ≡ b → b + length ys ≡ n → Rises b bs n → Tells time a xs → Tells time b ys →
    closed_onto rule n (record { first = a + 1; summary = summary_of xs }) (stretches (b + 1) bs ys)
    ≡ stretches (a + 1) (staying rule time n a (b ∷ bs)) (xs ++ ys)
closed_onto-stretches rule time n a b bs xs [] from_run run_count rest_count rising told told_rest =
    let low = Rises-low b bs n rising in absurd (omega arith)
closed_onto-stretches rule time n a b [] xs (y ∷ ys) from_run run_count rest_count rising told told_rest =
    closed_onto_step rule time n a b n [] [] xs (y ∷ ys) (y ∷ ys) [] from_run rising run_count rest_count told told_rest
    (sym (stretches_none (a + 1) (xs ++ y ∷ ys) (omega (arith, length-append xs (y ∷ ys))))) refl
closed_onto-stretches rule time n a b (d ∷ ds) xs (y ∷ ys) from_run run_count rest_count rising told told_rest =
    let k = d + 1 - (b + 1) in
    let front : List Point = take k (y ∷ ys) in
    let back : List Point = drop k (y ∷ ys) in
    let above = rising.0 in
    let below = Rises-low d ds n rising.1 in
    let front_count = length-front b d n (y ∷ ys) rest_count above below in
    let back_count = length-back b d n (y ∷ ys) rest_count above below in
    let whole : front ++ back ≡ y ∷ ys = take-append-drop k (y ∷ ys) in
    let end : b + length front ≡ d = omega arith in
    let parts = Tells-parts time b d front back end (subst (Tells time b) (sym whole) told_rest) in
    let gone = staying rule time n a (d ∷ ds) in
    let stays = staying rule time n b (d ∷ ds) in
    closed_onto_step rule time n a b d gone stays xs front (y ∷ ys) (stretches (d + 1) ds back) from_run above run_count end told parts.0
    (closed_onto-stretches rule time n a d ds (xs ++ front) back (omega arith) (omega (arith, length-append xs front)) back_count rising.1
    (Tells-append time a b xs front run_count told parts.0) parts.1
    ∙ ap (λ zs. stretches (a + 1) gone zs) (append_assoc xs front back ∙ ap (λ zs. xs ++ zs) whole))
    (closed_onto-stretches rule time n b d ds front back above end back_count rising.1 parts.0 parts.1
    ∙ ap (λ zs. stretches (b + 1) stays zs) whole)

-- joining what is due among the windows of any rising boundaries
closed-stretches : (rule : Rule) (time : ℕ → ℕ) (n b : ℕ) (bs : List ℕ) (values : List Point) → length values ≡ n → Rises 0 (b ∷ bs) n →
    Tells time 0 values → closed rule n (stretches 1 (b ∷ bs) values) ≡ stretches 1 (staying rule time n 0 (b ∷ bs)) values
closed-stretches rule time n b bs [] count rising told = let low = Rises-low 0 (b ∷ bs) n rising in absurd (omega arith)
closed-stretches rule time n b bs (p ∷ ps) count rising told =
    let k = b + 1 - 1 in
    let below = Rises-low b bs n rising.1 in
    let front = length-front 0 b n (p ∷ ps) (omega arith) rising.0 below in
    let back = length-back 0 b n (p ∷ ps) (omega arith) rising.0 below in
    let whole = take-append-drop k (p ∷ ps) in
    let parts = Tells-parts time 0 b (take k (p ∷ ps)) (drop k (p ∷ ps)) (omega arith) (subst (Tells time 0) (sym whole) told) in
    closed_onto-stretches rule time n 0 b bs (take k (p ∷ ps)) (drop k (p ∷ ps)) rising.0 (omega arith) back rising.1 parts.0 parts.1
    ∙ ap (λ zs. stretches 1 (staying rule time n 0 (b ∷ bs)) zs) whole

closed-pushed : (rule : Rule) (time : ℕ → ℕ) (n m : ℕ) (bs : List ℕ) (values : List Point) → length values ≡ n → Rises 0 (bs ++ m ∷ []) n →
    Tells time 0 values → closed rule n (stretches 1 (bs ++ m ∷ []) values) ≡ stretches 1 (staying rule time n 0 (bs ++ m ∷ [])) values
closed-pushed rule time n m [] values count rising told = closed-stretches rule time n m [] values count rising told
closed-pushed rule time n m (b ∷ bs) values count rising told = closed-stretches rule time n b (bs ++ m ∷ []) values count rising told

pub windows_push : (rule : Rule) (values : List Point) (p : Point) →
    windows rule (values ++ p ∷ [])
    ≡ closed rule (length values + 1) (windows rule values ++ record { first = length values + 1; summary = summary_of (p ∷ []) } ∷ [])
windows_push rule [] p = refl
windows_push rule (q ∷ qs) p =
    let m = length (q ∷ qs) in
    let all_values : List Point = (q ∷ qs) ++ p ∷ [] in
    let time = time_at all_values in
    let before = Rises-boundaries rule (time_at (q ∷ qs)) m (omega arith) in
    let bs = boundaries rule (time_at (q ∷ qs)) m in
    let all : length all_values ≡ m + 1 = length_push (q ∷ qs) p in
    let same : boundaries rule time m ≡ bs = boundaries-same rule time (time_at (q ∷ qs)) m (time_at-append rule.step (q ∷ qs) (p ∷ [])) in
    let cut : boundaries rule time (m + 1) ≡ staying rule time (m + 1) 0 (boundaries rule time m ++ m ∷ []) = rw add-one refl in
    ap (λ k. stretches 1 (boundaries rule time k) all_values) all
    ∙ ap (λ cs. stretches 1 cs all_values) (cut ∙ ap (λ cs. staying rule time (m + 1) 0 (cs ++ m ∷ [])) same)
    ∙ sym (closed-pushed rule time (m + 1) m bs all_values all (Rises_push 0 bs m before) (Tells-time_at all_values))
    ∙ ap (λ ws. closed rule (m + 1) ws) (sym (stretches_push 0 m bs (q ∷ qs) p (omega arith) before))
