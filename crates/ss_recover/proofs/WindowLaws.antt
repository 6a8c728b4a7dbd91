-- The windows among records, one after another: what is asked of those that are left, and where they are held.
use Rattle.ss_recover.proofs.Common.{[], ◌&&◌, ◌++◌, ◌+◌, ◌<◌, ◌==◌, ◌∙◌, ◌∷◌, ◌≡◌, ◌≤◌, add-one, All, and-true, and_right, ap, append-nil, AreWindowsOf}
use Rattle.ss_recover.proofs.Common.{arith, Bool, cond, cond-true, cons_option, count_by-le-length, drop, drop-cons, Entry, eq-eqb, false, filter-append}
use Rattle.ss_recover.proofs.Common.{filter_map-append, Found, found_by, get_or, Grows, is_after, is_some, is_window, IsInside, length, length-filter}
use Rattle.ss_recover.proofs.Common.{length-map, List, list_any, map, map-append, may_stand, MOST_RECORDS, MOST_STREAMS, names_in, nat_lt, newest_time}
use Rattle.ss_recover.proofs.Common.{None, not, Option, Record, refl, same_name, slots_found, Some, span_held, span_of, stream_of, StreamId, subst}
use Rattle.ss_recover.proofs.Common.{sum_by-cons, sym, taken, tile_from, times_held, times_of, times_rise, true, Window, window_of, windows_in}
use Rattle.ss_recover.proofs.Common.{without_slots, ℕ}
use Rattle.ss_line.specs.declared.entry.At.{At}
use Rattle.ss_line.specs.declared.line.TheConstants.{MOST_PLACES}
use Rattle.ss_base.specs.declared.limits.TheConstants.{MOST_VALUES}
use Rattle.ss_model.proofs.Closes.{newest_time_push}
use Rattle.ss_recover.specs.declared.windows.Windows.{Windows}
use Rattle.ss_codec.specs.declared.record.Record.TheVariants as records
use Rattle.std.proofs.lemmas.Map.Made.{is_some-lookup}
use Rattle.ss_catalog.specs.Catalog.{id_of}

-- the windows of a number among records that were found
abbrev pub windows_at : ℕ → List Found → List Window
windows_at n all = windows_in n (without_slots all)

-- what holds of each, at an index, and the records from there on
pub each-at : (P : Found → Type 0) (all : List Found) (i : ℕ) (x : Found) → All P all → i < length all → x ≡ get_or all i x → P x
each-at P all i x each within is = subst P (sym is) (each i x within)

drop-next : (all : List Found) (i : ℕ) (x : Found) → i < length all → x ≡ get_or all i x → drop i all ≡ x ∷ drop (i + 1) all
drop-next all i x within is = drop-cons all i x within ∙ (λ j. sym is j ∷ drop (sym (add-one i) j) all)

-- those from an index on, and those up to it
pub windows-left : (n : ℕ) (all : List Found) (i : ℕ) (x : Found) → i < length all → x ≡ get_or all i x →
    windows_at n (drop i all) ≡ cons_option (window_of n x.holds) (windows_at n (drop (i + 1) all))
windows-left n all i x within is = ap (windows_at n) (drop-next all i x within is)

pub records-more : (all : List Found) (x : Found) → without_slots (all ++ x ∷ []) ≡ without_slots all ++ x.holds ∷ []
records-more all x = map-append (λ (f : Found). f.holds) all (x ∷ [])

windows-more : (n : ℕ) (all : List Found) (x : Found) → windows_at n (all ++ x ∷ []) ≡ windows_at n all ++ cons_option (window_of n x.holds) []
windows-more n all x = ap (windows_in n) (records-more all x) ∙ filter_map-append (window_of n) (without_slots all) (x.holds ∷ [])

-- windows whose times rise, after a time
abbrev pub rise_from : Option ℕ → List Window → Bool
rise_from newest [] = true
rise_from newest (w ∷ ws) = is_after newest w.summary.t_first && rise_from (Some w.summary.t_last) ws

pub rise-times : (ws : List Window) → times_rise ws ≡ rise_from None ws
rise-times [] = refl
rise-times (w ∷ ws) = go w ws
  where
    go : (v : Window) (us : List Window) → times_rise (v ∷ us) ≡ rise_from (Some v.summary.t_last) us
    go v [] = refl
    go v (u ∷ us) = ap (λ b. nat_lt v.summary.t_last u.summary.t_first && b) (go u us)

-- Windows so far hold each position up to this one, before those that are left.
pub record TilesTo (all left : List Window) (next : ℕ) : Type 0 where
  pub tiles : tile_from 1 all ≡ tile_from next left
  pub so_far : next + taken left ≡ 1 + taken all
  pub few : next ≤ MOST_VALUES + 1

pub TilesTo-next : (all left : List Window) (w : Window) (next : ℕ) → TilesTo all (w ∷ left) next → IsInside w → w.first ≡ next →
    TilesTo all left (w.first + w.summary.count)
TilesTo-next all left w next to inside at =
    let so_far = to.so_far in
    record {
      tiles = to.tiles ∙ (rw (sym at) (ap (λ b. b && tile_from (w.first + w.summary.count) left) (same w.first)));
      so_far = omega (arith, at, so_far, sum_by-cons (λ (v : Window). v.summary.count) w left);
      few = inside.1;
    }
  where
    same : (k : ℕ) → (k == k) ≡ true
    same k = grind arith

module _ (n : ℕ) (all : List Found) (i : ℕ) (x : Found) (within : i < length all) (is : x ≡ get_or all i x) where
  -- a record that is no window of it changes nothing
  pub left-other : window_of n x.holds ≡ None → windows_at n (drop i all) ≡ windows_at n (drop (i + 1) all)
  left-other none = windows-left n all i x within is ∙ ap (λ o. cons_option o (windows_at n (drop (i + 1) all))) none

  pub left-window : (w : Window) → window_of n x.holds ≡ Some w → windows_at n (drop i all) ≡ w ∷ windows_at n (drop (i + 1) all)
  left-window w some = windows-left n all i x within is ∙ ap (λ o. cons_option o (windows_at n (drop (i + 1) all))) some

-- ---- where they are held

own-window : (n : ℕ) (r : Record) (w : Window) → window_of n r ≡ Some w → is_window r ≡ true
own-window n records.Free w is = cc
own-window n (records.Window id first summary) w is = refl
own-window n _ w is = cc

no-window : (n : ℕ) (r : Record) → stream_of r ≡ n → window_of n r ≡ None → is_window r ≡ false
no-window n records.Free own is = refl
no-window n (records.Window id first summary) own is = absurd (
    let w : Window = record { first = first; summary = summary } in
    let wrong : Some w ≡ None = sym (cond-true _ _ _ (eq-eqb id n own)) ∙ is in cc)
no-window n _ own is = refl

pub found-more : (p : Record → Bool) (all : List Found) (x : Found) (b : Bool) → p x.holds ≡ b →
    slots_found (found_by p (all ++ x ∷ [])) ≡ slots_found (found_by p all) ++ slots_found (cond b (x ∷ []) [])
found-more p all x b is =
    ap slots_found (filter-append (λ (f : Found). p f.holds) all (x ∷ []) ∙ ap (λ c. found_by p all ++ cond c (x ∷ []) []) is)
    ∙ map-append (λ (f : Found). f.slot) (found_by p all) (cond b (x ∷ []) [])

module _ (n : ℕ) (all : List Found) (x : Found) (windows : Windows) (are : AreWindowsOf n all windows) where
  pub AreWindowsOf-other : stream_of x.holds ≡ n → window_of n x.holds ≡ None → AreWindowsOf n (all ++ x ∷ []) windows
  AreWindowsOf-other own none =
      let same : windows_at n (all ++ x ∷ []) ≡ windows_at n all =
      windows-more n all x ∙ ap (λ o. windows_at n all ++ cons_option o []) none ∙ append-nil (windows_at n all) in
      record {
        positions = are.positions ∙ ap (map span_of) (sym same);
        times = are.times ∙ ap (map times_of) (sym same);
        entries = are.entries ∙ sym (found-more is_window all x false (no-window n x.holds own none) ∙ append-nil (slots_found (found_by is_window all)));
        newest = are.newest ∙ ap newest_time (sym same);
      }

  pub AreWindowsOf-more : (w : Window) → window_of n x.holds ≡ Some w → (new : Windows) → Grows windows new x.slot w → AreWindowsOf n (all ++ x ∷ []) new
  AreWindowsOf-more w some new grows =
      let second : At × Entry → Entry = λ e. e.1 in
      let more : map second new.line.entries ≡ map second windows.line.entries ++ grows.entry ∷ [] =
      ap (map second) grows.entries ∙ map-append second windows.line.entries ((grows.at, grows.entry) ∷ []) in
      let one : windows_at n (all ++ x ∷ []) ≡ windows_at n all ++ w ∷ [] = windows-more n all x ∙ ap (λ o. windows_at n all ++ cons_option o []) some in
      record {
        positions =
            ap (map span_held) more ∙ map-append span_held (map second windows.line.entries) (grows.entry ∷ [])
            ∙ (λ i. are.positions i ++ grows.span i ∷ []) ∙ sym (ap (map span_of) one ∙ map-append span_of (windows_at n all) (w ∷ []));
        times =
            ap (map times_held) more ∙ map-append times_held (map second windows.line.entries) (grows.entry ∷ [])
            ∙ (λ i. are.times i ++ grows.times i ∷ []) ∙ sym (ap (map times_of) one ∙ map-append times_of (windows_at n all) (w ∷ []));
        entries =
            ap (map (λ (e : Entry). e.slot)) more ∙ map-append (λ (e : Entry). e.slot) (map second windows.line.entries) (grows.entry ∷ [])
            ∙ (λ i. are.entries i ++ grows.in_slot i ∷ []) ∙ sym (found-more is_window all x true (own-window n x.holds w some));
        newest = grows.newest ∙ sym (ap newest_time one ∙ newest_time_push (windows_at n all) w);
      }

-- how many of some records pass a test
pub few-found : (p : Record → Bool) (all : List Found) → length (slots_found (found_by p all)) ≤ length all
few-found p all =
    omega (
      arith,
      length-map (found_by p all) (λ (f : Found). f.slot),
      length-filter (λ (f : Found). p f.holds) all,
      count_by-le-length (λ (f : Found). p f.holds) all,
    )

pub room-windows : (n : ℕ) (all : List Found) (windows : Windows) → AreWindowsOf n all windows → length all < MOST_RECORDS →
    length windows.line.entries + 1 ≤ MOST_PLACES
room-windows n all windows are room =
    omega (
      arith,
      room,
      few-found is_window all,
      ap (λ (l : List ℕ). length l) are.entries,
      length-map (map (λ (e : At × Entry). e.1) windows.line.entries) (λ (e : Entry). e.slot),
      length-map windows.line.entries (λ (e : At × Entry). e.1),
    )

-- ---- names that streams have, and the record at an index among others

-- a name that no stream has, and one that a stream has
pub stands-none : (names : List (List ℕ × StreamId)) (name : List ℕ) (k : ℕ) → id_of name names ≡ None → k ≡ length names →
    nat_lt k MOST_STREAMS ≡ may_stand (names_in names) name
stands-none names name k none is =
    let long : k ≡ length (names_in names) = is ∙ sym (length-map names (λ (n : List ℕ × StreamId). n.0)) in
    let new : list_any (same_name name) (names_in names) ≡ false = sym (is_some-lookup (same_name name) names) ∙ ap is_some none in
    sym (and-true (nat_lt k MOST_STREAMS)) ∙ (λ i. nat_lt (long i) MOST_STREAMS && not (sym new i))

pub stands-some : (names : List (List ℕ × StreamId)) (name : List ℕ) (id : StreamId) → id_of name names ≡ Some id → false ≡ may_stand (names_in names) name
stands-some names name id is = sym (and_right _ _ (ap not (sym (is_some-lookup (same_name name) names) ∙ ap is_some is)))
