-- The next window of a stream whose windows are looked at one after the other, oldest first.
use Rattle.std.proofs.Common.{◌≡◌, ◌∙◌, ℕ, ◌+◌, ◌-◌, ◌<◌, ◌≤◌, Bool, true, List, [], ◌∷◌, ◌++◌, map, length, refl, sym, ap, inl, inr}
use Rattle.std.proofs.Common.{ap₂, subst, arith, append_assoc, append-nil, length-append, drop, get_or, Option, Some, None, IsTrue}
use Rattle.std.specs.Prelude.{All, fold, option_map, slice_get, zip}
use Rattle.std.specs.List.{AllByRecursion, Contains, list_all}
use Rattle.std.proofs.lemmas.Bool.{and_parts, cases_Bool, cond-false, cond-true}
use Rattle.std.proofs.lemmas.List.{map-append}
use Rattle.std.proofs.lemmas.List.Elements.{All-get_or}
use Rattle.std.proofs.lemmas.List.Folds.{list_all-append}
use Rattle.std.proofs.lemmas.List.Sorted.{IsPermutation-middle}
use Rattle.std.proofs.lemmas.List.Sums.{fold-append}
use Rattle.std.proofs.lemmas.Option.{get_or_from_slice_get, slice_get-map, slice_get_within}
use Rattle.ss_codec.specs.declared.record.Record.{Record}
use Rattle.ss_catalog.specs.declared.query.Kind.{Kind}
use Rattle.ss_landmarks.specs.Landmark.{Landmark}
use Rattle.ss_landmarks.specs.ValuesIn.{tally_of, values_between}
use Rattle.ss_line.specs.Line.{IsLine, StandsIn, entry_at, index_of, place_at}
use Rattle.ss_line.specs.declared.entry.At.{At}
use Rattle.ss_line.specs.declared.entry.Entry.{Entry}
use Rattle.ss_line.proofs.Places.{place_at-seam}
use Rattle.ss_journal.specs.declared.format.TheConstants.{MOST_SLOTS}
use Rattle.ss_model.specs.Windows.{taken}
use Rattle.ss_model.proofs.Stretches.{taken-cons}
use Rattle.ss_model.specs.Tiling.{StandFrom}
use Rattle.ss_model.specs.State.{Stream}
use Rattle.ss_model.specs.declared.types.Window.{Window}
use Rattle.ss_model.specs.Interval.{is_apart}
use Rattle.ss_model.specs.Marks.{lies_free}
use Rattle.ss_parts.specs.Held.{entries_of, marks_held, records_held, span_held, span_of, stream_record, times_held, times_of, window_record, window_slots_of}
use Rattle.ss_parts.specs.declared.parts.StreamParts.{StreamParts}
use Rattle.ss_base.specs.declared.limits.TheConstants.{MOST_VALUES}
use Rattle.ss_parts.specs.Slots.{IsHeldIn, HasRecords}
use Rattle.ss_parts.proofs.Places.{IsAt-first, entries_in, index_of-next, read-once, slice_get-entry}
use Rattle.ss_parts.proofs.Records.{HasRecords-permutation, zip-held}
use Rattle.ss_query.specs.Asked.{Follows, HasCuts, HasRoom, marks_seen, seen_after, seen_with}
use Rattle.ss_query.specs.declared.asking.Seen.{Seen}
use Rattle.ss_query.proofs.Seeing.{apart-early, apart-late, fold-late}

-- what each of some passes, one among them passes
pub list_all-middle : {X : Type 0} (test : X → Bool) (xs : List X) (x : X) (ys : List X) → list_all test (xs ++ x ∷ ys) ≡ true → test x ≡ true
list_all-middle test xs x ys all =
    (and_parts (test x) (list_all test ys) (and_parts (list_all test xs) (list_all test (x ∷ ys)) (sym (list_all-append test xs (x ∷ ys)) ∙ all)).1).0

-- what is known of a range once these windows of a stream are read
abbrev pub seen_by : List Landmark → Kind → ℕ → ℕ → List Window → Seen
seen_by landmarks kind from to ws = fold (seen_after landmarks kind from to) (marks_seen kind (values_between landmarks from to)) ws

-- how many entries are left from a place on
abbrev pub left_from : List (At × Entry) → Option At → ℕ
left_from entries None = 0
left_from entries (Some at) = length entries - index_of entries at

-- the windows of a stream, those before a place in its line and those from it on, which have so many values and end before a
-- time at most; what is known of a range is that of the ones before
pub record AreLeft (s : Stream) (landmarks : List Landmark) (kind : Kind) (from to : ℕ) (before rest : List Entry) (seen : Seen) : Type 0 where
  pub gone : List Window
  pub windows : List Window
  pub is : s.windows ≡ gone ++ windows
  pub spans_gone : map span_held before ≡ map span_of gone
  pub spans : map span_held rest ≡ map span_of windows
  pub times : map times_held rest ≡ map times_of windows
  pub seen_is : seen ≡ seen_by landmarks kind from to gone
  pub position : ℕ
  pub time : ℕ
  pub stand : StandFrom (position + 1) time windows
  pub taken_so_far : seen.taken ≤ position
  pub time_so_far : seen.next_time ≤ time
  pub few : position + taken windows ≤ MOST_VALUES

-- how far a line was walked
pub record IsWalkedTo (part : StreamParts) (from to : ℕ) (seen : Seen) (next : Option At) : Type 0 where
  pub before : List (At × Entry)
  pub rest : List (At × Entry)
  pub is : part.line.entries ≡ before ++ rest
  pub place : next ≡ place_at rest 0
  pub marked : seen.marked ≡ tally_of (values_between part.landmarks.landmarks from to)
  pub room : HasRoom seen
  pub cuts : HasCuts seen

first-window : (e : Entry) (es : List Entry) (ws : List Window) → map span_held (e ∷ es) ≡ map span_of ws →
    (w : Window) × (vs : List Window) × (ws ≡ w ∷ vs) × (span_held e ≡ span_of w) × (map span_held es ≡ map span_of vs)
first-window e es [] same = absurd (cc)
first-window e es (w ∷ vs) same = (w, vs, refl, ap (λ (l : List (ℕ × ℕ)). get_or l 0 (0, 0)) same, ap (λ (l : List (ℕ × ℕ)). drop 1 l) same)

-- the next window of a stream, whose entry is this one
pub record IsNext (s : Stream) (landmarks : List Landmark) (kind : Kind) (from to : ℕ) (before : List Entry) (entry : Entry) (after : List Entry)
    (seen : Seen) : Type 0 where
  pub gone : List Window
  pub window : Window
  pub behind : List Window
  pub is : s.windows ≡ gone ++ window ∷ behind
  pub spans_gone : map span_held before ≡ map span_of gone
  pub span : span_held entry ≡ span_of window
  pub time : times_held entry ≡ times_of window
  pub spans : map span_held after ≡ map span_of behind
  pub times : map times_held after ≡ map times_of behind
  pub seen_is : seen ≡ seen_by landmarks kind from to gone
  pub position : ℕ
  pub taken_so_far : seen.taken ≤ position
  pub later : seen.next_time ≤ window.summary.t_first
  pub rises : window.summary.t_first ≤ window.summary.t_last
  pub few : position + window.summary.count + taken behind ≤ MOST_VALUES
  pub stand : StandFrom (position + window.summary.count + 1) (window.summary.t_last + 1) behind

module _ {s : Stream} {landmarks : List Landmark} {kind : Kind} {from to : ℕ} {before : List Entry} {entry : Entry} {after : List Entry}
    {seen : Seen} where
  pub IsNext-left : AreLeft s landmarks kind from to before (entry ∷ after) seen → IsNext s landmarks kind from to before entry after seen
  IsNext-left left =
      let cut = first-window entry after left.windows left.spans in
      let times : map times_held (entry ∷ after) ≡ map times_of (cut.0 ∷ cut.1) = left.times ∙ ap (map times_of) cut.2 in
      let stand : StandFrom (left.position + 1) left.time (cut.0 ∷ cut.1) = rw cut.2 at left.stand in
      let all : taken left.windows ≡ cut.0.summary.count + taken cut.1 = ap (λ ws. taken ws) cut.2 ∙ taken-cons cut.0 cut.1 in
      let next : (left.position + 1) + cut.0.summary.count ≡ left.position + cut.0.summary.count + 1 = omega arith in
      let possible = stand.1 in
      let some = possible.count_low in
      let long = possible.times in
      let late = stand.2 in
      let soon = left.time_so_far in
      record {
        gone = left.gone;
        window = cut.0;
        behind = cut.1;
        is = left.is ∙ ap (λ ws. left.gone ++ ws) cut.2;
        spans_gone = left.spans_gone;
        span = cut.3;
        time = ap (λ (l : List (ℕ × ℕ)). get_or l 0 (0, 0)) times;
        spans = cut.4;
        times = ap (λ (l : List (ℕ × ℕ)). drop 1 l) times;
        seen_is = left.seen_is;
        position = left.position;
        taken_so_far = left.taken_so_far;
        later = omega (arith, late, soon);
        rises = omega (arith, some, long);
        few = omega (arith, all, left.few);
        stand = rw next at stand.3;
      }

  module _ (next : IsNext s landmarks kind from to before entry after seen) where
    abbrev w : Window
    w = next.window

    pub Follows-next : Follows seen w
    Follows-next = (let few = next.few in let low = next.taken_so_far in omega (arith, few, low), next.later)

    gone-next : map span_held (before ++ entry ∷ []) ≡ map span_of (next.gone ++ w ∷ [])
    gone-next =
        map-append span_held before (entry ∷ []) ∙ ap₂ (λ xs x. xs ++ x ∷ []) next.spans_gone next.span ∙ sym (map-append span_of next.gone (w ∷ []))

    seen-next : seen_after landmarks kind from to seen w ≡ seen_by landmarks kind from to (next.gone ++ w ∷ [])
    seen-next =
        ap (λ (now : Seen). seen_after landmarks kind from to now w) next.seen_is
        ∙ sym (fold-append (seen_after landmarks kind from to) (marks_seen kind (values_between landmarks from to)) next.gone (w ∷ []))

    seen-apart : is_apart from to w ≡ true → seen ≡ seen_by landmarks kind from to (next.gone ++ w ∷ [])
    seen-apart apart = sym (cond-true (is_apart from to w) seen (seen_with landmarks kind from to seen w) apart) ∙ seen-next

    -- the windows that are left, once this one was looked at
    left-with : (now : Seen) → now.taken ≤ seen.taken + w.summary.count → now.next_time ≤ w.summary.t_last + 1 →
        now ≡ seen_by landmarks kind from to (next.gone ++ w ∷ []) → AreLeft s landmarks kind from to (before ++ entry ∷ []) after now
    left-with now few soon is = record {
      gone = next.gone ++ w ∷ [];
      windows = next.behind;
      is = next.is ∙ sym (append_assoc next.gone (w ∷ []) next.behind);
      spans_gone = gone-next;
      spans = next.spans;
      times = next.times;
      seen_is = is;
      position = next.position + w.summary.count;
      time = w.summary.t_last + 1;
      stand = next.stand;
      taken_so_far = (let low = next.taken_so_far in omega (arith, low, few));
      time_so_far = soon;
      few = next.few;
    }

    pub left-apart : is_apart from to w ≡ true → AreLeft s landmarks kind from to (before ++ entry ∷ []) after seen
    left-apart apart =
        let later = next.later in let rises = next.rises in left-with seen (omega arith) (omega (arith, later, rises)) (seen-apart apart)

    Ends : Seen → Type 0
    Ends now = (now.taken ≤ seen.taken + w.summary.count) × (now.next_time ≤ w.summary.t_last + 1)

    ends-after : Ends (seen_after landmarks kind from to seen w)
    unfolding Ends
    ends-after =
        let later = next.later in
        let rises = next.rises in
        elim (cases_Bool (is_apart from to w)) [
          | inl apart ↦
              rw cond-true (omega arith, omega (arith, later, rises))
          | inr meets ↦
              rw cond-false (omega arith, omega arith)
        ]

    pub AreLeft-after : AreLeft s landmarks kind from to (before ++ entry ∷ []) after (seen_after landmarks kind from to seen w)
    unfolding Ends
    AreLeft-after = left-with (seen_after landmarks kind from to seen w) ends-after.0 ends-after.1 seen-next

    -- where it begins after the range, nothing more is in it
    pub late-next : to < entry.t_first → seen ≡ seen_by landmarks kind from to s.windows
    late-next late =
        let begins : entry.t_first ≡ w.summary.t_first = ap (λ (p : ℕ × ℕ). p.0) next.time in
        let rises = next.rises in
        let here = seen-apart (apart-late from to w.summary.t_first w.summary.t_last (omega (arith, begins, late))) in
        let rest = fold-late landmarks kind from to seen _ _ next.behind next.stand (omega (arith, begins, late, rises)) in
        sym rest ∙ ap (λ (now : Seen). fold (seen_after landmarks kind from to) now next.behind) here
        ∙ sym (fold-append (seen_after landmarks kind from to) (marks_seen kind (values_between landmarks from to)) (next.gone ++ w ∷ []) next.behind)
        ∙ ap (λ ws. seen_by landmarks kind from to ws) (append_assoc next.gone (w ∷ []) next.behind ∙ sym next.is)

-- windows that end before the range are passed over
pub AreLeft-early : (s : Stream) (landmarks : List Landmark) (kind : Kind) (from to : ℕ) (before : List Entry) (early : List (At × Entry))
    (rest : List Entry) (seen : Seen) →
    AllByRecursion (λ (e : At × Entry). e.1.t_last < from) early → AreLeft s landmarks kind from to before (entries_in early ++ rest) seen →
    AreLeft s landmarks kind from to (before ++ entries_in early) rest seen
AreLeft-early s landmarks kind from to before [] rest seen all left = rw append-nil left
AreLeft-early s landmarks kind from to before (e ∷ es) rest seen all left =
    let next = IsNext-left left in
    let ends : e.1.t_last ≡ next.window.summary.t_last = ap (λ (p : ℕ × ℕ). p.1) next.time in
    let early = all.0 in
    let apart = apart-early from to next.window.summary.t_first next.window.summary.t_last (omega (arith, ends, early)) in
    rw append_assoc at (AreLeft-early s landmarks kind from to (before ++ e.1 ∷ []) es rest seen all.1 (left-apart next apart))

module _ {part : StreamParts} {from to : ℕ} {seen : Seen} {at : At} (line : IsLine part.line) (to_here : IsWalkedTo part from to seen (Some at)) where
  index-here : index_of part.line.entries at ≡ length to_here.before
  index-here =
      index_of-next part.line (length to_here.before) (Some at) line
      (to_here.place ∙ sym (place_at-seam to_here.before to_here.rest) ∙ ap (λ es. place_at es (length to_here.before)) (sym to_here.is))

  unfoldable pub there : (entry : Entry) × (after : List (At × Entry)) × (to_here.rest ≡ (at, entry) ∷ after)
  there = IsAt-first to_here.rest at to_here.place

  pub StandsIn-here : StandsIn part.line.entries at
  StandsIn-here =
      let index = index-here in
      let all = ap (λ es. length es) to_here.is ∙ length-append to_here.before to_here.rest in
      let some = ap (λ es. length es) there.2 in
      omega (arith, index, all, some)

  module _ {entry : Entry} (read : entry_at part.line.entries at ≡ Some entry) where
    unfoldable pub after : List (At × Entry)
    after = there.1

    pub rest-here : to_here.rest ≡ (at, entry) ∷ after
    unfolding after
    rest-here =
        let whole : part.line.entries ≡ to_here.before ++ (at, there.0) ∷ there.1 = to_here.is ∙ ap (λ es. to_here.before ++ es) there.2 in
        there.2 ∙ ap (λ e. (at, e) ∷ there.1) (read-once part.line.entries to_here.before at there.0 there.1 entry whole (line.apart at) read)

    rest-entries : entries_in to_here.rest ≡ entry ∷ entries_in after
    rest-entries = ap (λ es. entries_in es) rest-here

    entries-here : entries_of part ≡ entries_in to_here.before ++ entry ∷ entries_in after
    entries-here =
        ap (λ es. entries_in es) to_here.is ∙ map-append (λ (e : At × Entry). e.1) to_here.before to_here.rest
        ∙ ap (λ es. entries_in to_here.before ++ es) rest-entries

    pub slot-here : All (λ slot. slot < MOST_SLOTS) (window_slots_of part) → entry.slot < MOST_SLOTS
    slot-here below =
        let i = index_of part.line.entries at in
        let here : slice_get (window_slots_of part) i ≡ Some entry.slot =
        slice_get-map (λ (e : Entry). e.slot) (entries_of part) i ∙ ap (option_map (λ (e : Entry). e.slot)) (slice_get-entry part.line.entries at entry read) in
        rw (get_or_from_slice_get (window_slots_of part) i entry.slot entry.slot here) at
        (All-get_or (λ slot. slot < MOST_SLOTS) (window_slots_of part) i entry.slot (slice_get_within (window_slots_of part) i entry.slot here) below)

    -- the next window, on a disk that tells
    pub IsNext-here : {kind : Kind} (s : Stream) →
        AreLeft s part.landmarks.landmarks kind from to (entries_in to_here.before) (entries_in to_here.rest) seen →
        IsNext s part.landmarks.landmarks kind from to (entries_in to_here.before) entry (entries_in after) seen
    IsNext-here {kind} s left = IsNext-left (rw rest-entries at left)

    -- its record lies beside others, and it lies free among the landmarks
    pub record IsBeside (w : Window) (image : List ℕ) : Type 0 where
      pub others : List (ℕ × Option Record)
      pub has : HasRecords ((entry.slot, Some (window_record part.id.0 w)) ∷ others) image
      pub free : IsTrue (lies_free part.landmarks.landmarks w)

    pub IsBeside-here : {kind : Kind} (others : List (ℕ × Option Record)) (s : Stream) (image : List ℕ) → IsHeldIn others part s image →
        (next : IsNext s part.landmarks.landmarks kind from to (entries_in to_here.before) entry (entries_in after) seen) → IsBeside next.window image
    IsBeside-here others s image held next =
        let spelled : List Window → List (Option Record) = λ l. map (λ x. Some (window_record s.number x)) l in
        let slots : List Entry → List ℕ = λ es. map (λ (e : Entry). e.slot) es in
        let head : ℕ × Option Record = (part.slot, Some (stream_record s)) in
        let front : List (ℕ × Option Record) = zip (slots (entries_in to_here.before)) (spelled next.gone) in
        let back : List (ℕ × Option Record) = zip (slots (entries_in after)) (spelled next.behind) in
        let one : ℕ × Option Record = (entry.slot, Some (window_record s.number next.window)) in
        let theirs : zip (slots (entries_of part)) (spelled s.windows) ≡ front ++ one ∷ back =
        ap₂ (λ es ws. zip (slots es) (spelled ws)) entries-here next.is
        ∙ zip-held s.number (entries_in to_here.before) (entry ∷ entries_in after) next.gone (next.window ∷ next.behind) next.spans_gone in
        let behind : List (ℕ × Option Record) = back ++ (marks_held (part, s) ++ others) in
        let all : records_held (part, s) ++ others ≡ (head ∷ front) ++ one ∷ behind =
        ap (λ l. ((head ∷ l) ++ marks_held (part, s)) ++ others) theirs ∙ append_assoc ((head ∷ front) ++ one ∷ back) (marks_held (part, s)) others
        ∙ append_assoc (head ∷ front) (one ∷ back) (marks_held (part, s) ++ others) in
        let beside : List (ℕ × Option Record) = (head ∷ front) ++ behind in
        let has : HasRecords (one ∷ beside) image =
        HasRecords-permutation ((head ∷ front) ++ one ∷ behind) (one ∷ beside) image (IsPermutation-middle (head ∷ front) one behind)
        (rw all at held.records) in
        record {
          others = beside;
          has = subst (λ n. HasRecords ((entry.slot, Some (window_record n next.window)) ∷ beside) image) (sym held.agrees.number) has;
          free = rw held.agrees.landmarks (list_all-middle (lies_free s.landmarks) next.gone next.window next.behind (rw next.is at held.stream.free));
        }

    pub moved-here : part.line.entries ≡ (to_here.before ++ (at, entry) ∷ []) ++ after
    moved-here =
        to_here.is ∙ ap (λ es. to_here.before ++ es) rest-here ∙ sym (append_assoc to_here.before ((at, entry) ∷ []) after)

    pub next-here : (next : Option At) → next ≡ place_at part.line.entries (index_of part.line.entries at + 1) → next ≡ place_at after 0
    next-here next place =
        let index : index_of part.line.entries at + 1 ≡ length (to_here.before ++ (at, entry) ∷ []) =
        omega (arith, index-here, length-append to_here.before ((at, entry) ∷ [])) in
        place ∙ ap₂ (λ es n. place_at es n) moved-here index ∙ place_at-seam (to_here.before ++ (at, entry) ∷ []) after

    pub left_from-less : (next : Option At) → next ≡ place_at part.line.entries (index_of part.line.entries at + 1) →
        left_from part.line.entries next < left_from part.line.entries (Some at)
    left_from-less None place = let stands = StandsIn-here in omega (arith, stands)
    left_from-less (Some right) place =
        let index = index_of-next part.line (index_of part.line.entries at + 1) (Some right) line place in
        let stands = StandsIn-here in
        omega (arith, index, stands)

    unfoldable pub IsWalkedTo-more : (next : Option At) (now : Seen) → next ≡ place_at part.line.entries (index_of part.line.entries at + 1) →
        HasRoom now → now.marked ≡ seen.marked → HasCuts now → IsWalkedTo part from to now next
    IsWalkedTo-more next now place room marked cuts = record {
      before = to_here.before ++ (at, entry) ∷ [];
      rest = after;
      is = moved-here;
      place = next-here next place;
      marked = marked ∙ to_here.marked;
      room = room;
      cuts = cuts;
    }

    -- the windows that are left then
    pub AreLeft-more : {kind : Kind} (s : Stream) (now : Seen)
        (next : IsNext s part.landmarks.landmarks kind from to (entries_in to_here.before) entry (entries_in after) seen) →
        now ≡ seen_after part.landmarks.landmarks kind from to seen next.window →
        AreLeft s part.landmarks.landmarks kind from to (entries_in (to_here.before ++ (at, entry) ∷ [])) (entries_in after) now
    AreLeft-more {kind} s now next is = rw (is, map-append) (AreLeft-after next)

-- the slot of a window is one of those of the windows
pub Contains-slot : (part : StreamParts) (at : At) (entry : Entry) → entry_at part.line.entries at ≡ Some entry → Contains (window_slots_of part) entry.slot
Contains-slot part at entry read =
    let i = index_of part.line.entries at in
    let here : slice_get (window_slots_of part) i ≡ Some entry.slot =
    slice_get-map (λ (e : Entry). e.slot) (entries_of part) i ∙ ap (option_map (λ (e : Entry). e.slot)) (slice_get-entry part.line.entries at entry read) in
    (i, slice_get_within (window_slots_of part) i entry.slot here, get_or_from_slice_get (window_slots_of part) i entry.slot entry.slot here)
