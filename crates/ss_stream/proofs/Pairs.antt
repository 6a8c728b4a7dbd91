-- Two neighbours in a line that become one: their places, their positions, their slots and their records.
use Rattle.ss_stream.proofs.Common.{◌≡◌, ◌∙◌, ℕ, ◌+◌, ◌-◌, ◌<◌, ◌≤◌, true, false, List, [], ◌∷◌, ◌++◌, map, length, refl, sym, ap, ap₂, subst, arith}
use Rattle.ss_stream.proofs.Common.{append_assoc, length-append, IsPermutation, Option, Some, list_all, list_any, and_parts, map-append}
use Rattle.ss_stream.proofs.Common.{IsPermutation-append_left, IsPermutation-cons, IsPermutation-middle, IsPermutation-sym, IsPermutation-trans, Record}
use Rattle.ss_stream.proofs.Common.{Landmark, LandmarksState, StandsIn, entry_at, index_of, is_at, At, Entry, joined, params_of, joined_window, last_position}
use Rattle.ss_stream.proofs.Common.{may_join, JoinsDue, later, latest_of, lies_free, Rule, may_be_one, rule_of, IsStream, Stream, values_in, AreWindows, Window}
use Rattle.ss_stream.proofs.Common.{IsStream-joined, Agrees, TileFrom, all_value_records, entries_of, in_slots, landmark_records, mark_slots, marks_held}
use Rattle.ss_stream.proofs.Common.{records_held, slots_held, span_held, span_of, stream_record, window_record, times_held, times_of, window_slots}
use Rattle.ss_stream.proofs.Common.{windows_held}
use Rattle.ss_stream.proofs.Common.{StreamParts, values_held, with_windows, AreDue, may_be_joined, entries_in, index-once, joined_entry, zip-held}
use Rattle.std.specs.Prelude.{zip, IsTrue}
use Rattle.std.proofs.lemmas.List.Folds.{list_all-append}
use Rattle.ss_codec.specs.declared.record.Record.TheVariants as records
use Rattle.ss_model.proofs.JoinLemmas.{JoinsDue-one, newest_time-JoinsDue}
use Rattle.ss_model.proofs.Tiles.{AreNeighbours-from_AreWindows}
use Rattle.ss_parts.proofs.Places.{find-read}
use Rattle.ss_stream.proofs.Spans.{AreTiled, AreTiled-seam, values_held-windows}

-- Two entries that stand side by side and are due, and the line after the second is cut out and the first set.
pub record AreJoined (rule : Rule) (n : ℕ) (entries new : List (At × Entry)) (w v : Entry) : Type 0 where
  pub front : List Entry
  pub rest : List Entry
  pub was : entries_in entries ≡ front ++ w ∷ v ∷ rest
  pub is : entries_in new ≡ front ++ joined_entry w v ∷ rest
  pub fewer : length new < length entries
  pub due : may_be_joined rule n w v ≡ true

-- the line with two entries as one
abbrev pub joined_line : {rule : Rule} {n : ℕ} {entries : List (At × Entry)} {left right : At} → AreDue rule n entries left right → List (At × Entry)
joined_line {rule} {n} {entries} {left} due = due.pair.before ++ (left, joined_entry due.pair.window due.pair.next) ∷ due.pair.rest

module _ (rule : Rule) (n : ℕ) (entries : List (At × Entry)) (left right : At) (due : AreDue rule n entries left right) where
  stands-seam : (es before : List (At × Entry)) (at : At) (e : Entry) (rest : List (At × Entry)) → es ≡ before ++ (at, e) ∷ rest →
      list_any (is_at at) before ≡ false → StandsIn es at
  stands-seam es before at e rest is once =
      let index : index_of es at ≡ length before = ap (λ l. index_of l at) is ∙ index-once before at e rest once in
      let long : length es ≡ length (before ++ (at, e) ∷ rest) = ap (λ l. length l) is in
      omega (arith, index, long, length-append before ((at, e) ∷ rest))

  moved : entries ≡ (due.pair.before ++ (left, due.pair.window) ∷ []) ++ (right, due.pair.next) ∷ due.pair.rest
  moved = due.pair.is ∙ sym (append_assoc due.pair.before ((left, due.pair.window) ∷ []) ((right, due.pair.next) ∷ due.pair.rest))

  pub StandsIn-left : StandsIn entries left
  StandsIn-left = stands-seam entries due.pair.before left due.pair.window ((right, due.pair.next) ∷ due.pair.rest) due.pair.is due.pair.left_once

  pub StandsIn-right : StandsIn entries right
  StandsIn-right = stands-seam entries (due.pair.before ++ (left, due.pair.window) ∷ []) right due.pair.next due.pair.rest moved due.pair.right_once

  module _ (w v : Entry) (read_left : entry_at entries left ≡ Some w) (read_right : entry_at entries right ≡ Some v) where
    first_is : due.pair.window ≡ w
    first_is = find-read entries due.pair.before left due.pair.window ((right, due.pair.next) ∷ due.pair.rest) w due.pair.is due.pair.left_once read_left

    pub next_is : due.pair.next ≡ v
    next_is = find-read entries (due.pair.before ++ (left, due.pair.window) ∷ []) right due.pair.next due.pair.rest v moved due.pair.right_once read_right

    pub AreJoined-due : AreJoined rule n entries (joined_line due) w v
    AreJoined-due =
        let second : At × Entry → Entry = λ e. e.1 in
        let all = ap (λ l. length l) due.pair.is in
        let long = length-append due.pair.before ((left, due.pair.window) ∷ (right, due.pair.next) ∷ due.pair.rest) in
        let short = length-append due.pair.before ((left, joined_entry due.pair.window due.pair.next) ∷ due.pair.rest) in
        record {
          front = entries_in due.pair.before;
          rest = entries_in due.pair.rest;
          was = ap (λ l. entries_in l) due.pair.is ∙ map-append second due.pair.before ((left, due.pair.window) ∷ (right, due.pair.next) ∷ due.pair.rest)
              ∙ ap₂ (λ (x y : Entry). entries_in due.pair.before ++ x ∷ y ∷ entries_in due.pair.rest) first_is next_is;
          is = map-append second due.pair.before ((left, joined_entry due.pair.window due.pair.next) ∷ due.pair.rest)
              ∙ ap₂ (λ (x y : Entry). entries_in due.pair.before ++ joined_entry x y ∷ entries_in due.pair.rest) first_is next_is;
          fewer = omega (arith, all, long, short);
          due = ap₂ (λ (x y : Entry). may_be_joined rule n x y) (sym first_is) (sym next_is) ∙ due.due;
        }

-- two out of the middle of a list
pub IsPermutation-two : {X : Type 0} (xs : List X) (a b : X) (ys : List X) → IsPermutation (xs ++ a ∷ b ∷ ys) (a ∷ b ∷ (xs ++ ys))
IsPermutation-two xs a b ys =
    IsPermutation-trans (xs ++ a ∷ b ∷ ys) (a ∷ (xs ++ b ∷ ys)) (a ∷ b ∷ (xs ++ ys)) (IsPermutation-middle xs a (b ∷ ys))
    (IsPermutation-cons a (xs ++ b ∷ ys) (b ∷ (xs ++ ys)) (IsPermutation-middle xs b ys))

-- the windows that entries are of
pub record AreTheirs (front : List Entry) (w v : Entry) (rest : List Entry) (ws : List Window) : Type 0 where
  pub before : List Window
  pub one : Window
  pub two : Window
  pub behind : List Window
  pub is : ws ≡ before ++ one ∷ two ∷ behind
  pub fronts : map span_held front ≡ map span_of before
  pub first : span_held w ≡ span_of one
  pub second : span_held v ≡ span_of two
  pub rests : map span_held rest ≡ map span_of behind
  pub front_times : map times_held front ≡ map times_of before
  pub first_times : times_held w ≡ times_of one
  pub second_times : times_held v ≡ times_of two
  pub rest_times : map times_held rest ≡ map times_of behind

pub AreTheirs-agree : (front : List Entry) (w v : Entry) (rest : List Entry) (ws : List Window) → map span_held (front ++ w ∷ v ∷ rest) ≡ map span_of ws →
    map times_held (front ++ w ∷ v ∷ rest) ≡ map times_of ws → AreTheirs front w v rest ws
AreTheirs-agree [] w v rest [] same times = absurd (cc)
AreTheirs-agree [] w v rest (x ∷ []) same times = absurd (cc)
AreTheirs-agree [] w v rest (x ∷ y ∷ ys) same times = record {
  before = [];
  one = x;
  two = y;
  behind = ys;
  is = refl;
  fronts = refl;
  first = cc;
  second = cc;
  rests = cc;
  front_times = refl;
  first_times = cc;
  second_times = cc;
  rest_times = cc;
}
AreTheirs-agree (f ∷ fs) w v rest [] same times = absurd (cc)
AreTheirs-agree (f ∷ fs) w v rest (x ∷ xs) same times =
    let head : span_held f ≡ span_of x = cc in
    let tail : map span_held (fs ++ w ∷ v ∷ rest) ≡ map span_of xs = cc in
    let head_times : times_held f ≡ times_of x = cc in
    let tail_times : map times_held (fs ++ w ∷ v ∷ rest) ≡ map times_of xs = cc in
    let later = AreTheirs-agree fs w v rest xs tail tail_times in
    record {
      before = x ∷ later.before;
      one = later.one;
      two = later.two;
      behind = later.behind;
      is = ap (λ l. x ∷ l) {y = later.before ++ later.one ∷ later.two ∷ later.behind} later.is;
      fronts = ap₂ (λ (p : ℕ × ℕ) (l : List (ℕ × ℕ)). p ∷ l) head later.fronts;
      first = later.first;
      second = later.second;
      rests = later.rests;
      front_times = ap₂ (λ (p : ℕ × ℕ) (l : List (ℕ × ℕ)). p ∷ l) head_times later.front_times;
      first_times = later.first_times;
      second_times = later.second_times;
      rest_times = later.rest_times;
    }

slot_of : Entry → ℕ
slot_of e = e.slot

-- the slots of a stream's records before and after
pub record AreSlots (part new : StreamParts) (w v : Entry) : Type 0 where
  pub beside : List ℕ
  pub was : IsPermutation (slots_held part) (w.slot ∷ v.slot ∷ beside)
  pub is : IsPermutation (slots_held new) (w.slot ∷ beside)

pub AreSlots-joined : (rule : Rule) (n : ℕ) (part new : StreamParts) (w v : Entry) → new.slot ≡ part.slot → new.landmarks ≡ part.landmarks →
    AreJoined rule n part.line.entries new.line.entries w v → AreSlots part new w v
AreSlots-joined rule n part new w v same same_landmarks pair =
    let slots : List Entry → List ℕ = λ es. map (λ (e : Entry). e.slot) es in
    let front : List ℕ = part.slot ∷ slots pair.front in
    let marks : List ℕ = mark_slots part in
    let stay : mark_slots new ≡ marks = ap (λ (l : LandmarksState). l.slots ++ l.value_slots) same_landmarks in
    let was : window_slots part ≡ front ++ w.slot ∷ v.slot ∷ slots pair.rest =
    ap (λ es. part.slot ∷ slots es) pair.was ∙ ap (λ l. part.slot ∷ l) (map-append (λ (e : Entry). e.slot) pair.front (w ∷ v ∷ pair.rest)) in
    let is : window_slots new ≡ front ++ w.slot ∷ slots pair.rest =
    ap₂ (λ (s : ℕ) (es : List Entry). s ∷ slots es) same pair.is
    ∙ ap (λ l. part.slot ∷ l) (map-append (λ (e : Entry). e.slot) pair.front (joined_entry w v ∷ pair.rest)) in
    record {
      beside = (front ++ slots pair.rest) ++ marks;
      was = subst (λ l. IsPermutation (l ++ marks) (w.slot ∷ v.slot ∷ ((front ++ slots pair.rest) ++ marks))) (sym was)
          (IsPermutation-append_left marks (front ++ w.slot ∷ v.slot ∷ slots pair.rest) (w.slot ∷ v.slot ∷ (front ++ slots pair.rest))
          (IsPermutation-two front w.slot v.slot (slots pair.rest)));
      is = rw stay (subst (λ l. IsPermutation (l ++ marks) (w.slot ∷ ((front ++ slots pair.rest) ++ marks))) (sym is)
          (IsPermutation-append_left marks (front ++ w.slot ∷ slots pair.rest) (w.slot ∷ (front ++ slots pair.rest))
          (IsPermutation-middle front w.slot (slots pair.rest))));
    }

-- the stream with the line that a join leaves
abbrev pub one_part : StreamParts → List (At × Entry) → StreamParts
one_part part entries = record part { line = record { entries = entries; spare = 0 } }

-- two entries of a stream that were read side by side, and are due
pub record ArePair (part : StreamParts) (entries : List (At × Entry)) (w v : Entry) : Type 0 where
  pub joined : AreJoined (rule_of (params_of part.target)) (values_held (entries_of part)) part.line.entries entries w v
  pub tiled : AreTiled w v (values_held (entries_of part))
  pub slots : AreSlots part (one_part part entries) w v

pub ArePair-read : (part : StreamParts) (left right : At) (w v : Entry)
    (due : AreDue (rule_of (params_of part.target)) (values_held (entries_of part)) part.line.entries left right) → TileFrom 1 (entries_of part) →
    entry_at part.line.entries left ≡ Some w → entry_at part.line.entries right ≡ Some v → ArePair part (joined_line due) w v
ArePair-read part left right w v due tiles read_left read_right =
    let rule = rule_of (params_of part.target) in
    let n = values_held (entries_of part) in
    let pair = AreJoined-due rule n part.line.entries left right due w v read_left read_right in
    record {
      joined = pair;
      tiled = rw pair.was (AreTiled-seam pair.front w v pair.rest (rw pair.was at tiles));
      slots = AreSlots-joined rule n part (one_part part (joined_line due)) w v refl refl pair;
    }

-- What joining two neighbours makes of a stream that is held beside others: which records lie where before it and after it.
pub record JoinsHeld (others : List (ℕ × Option Record)) (part new : StreamParts) (s : Stream) (w v : Entry) : Type 0 where
  pub one : Window
  pub two : Window
  pub first : span_held w ≡ span_of one
  pub second : span_held v ≡ span_of two
  pub first_times : times_held w ≡ times_of one
  pub second_times : times_held v ≡ times_of two
  pub later : one.summary.t_last < two.summary.t_first
  pub first_free : IsTrue (lies_free part.landmarks.landmarks one)
  pub second_free : IsTrue (lies_free part.landmarks.landmarks two)
  pub beside : List (ℕ × Option Record)
  pub was : IsPermutation (records_held (part, s) ++ others)
      ((w.slot, Some (window_record part.id.0 one)) ∷ (v.slot, Some (window_record part.id.0 two)) ∷ beside)
  pub windows : List Window
  pub joins : JoinsDue (rule_of s.params) (values_in s) s.windows windows
  pub agrees : Agrees new (with_windows s windows)
  pub stream : IsStream (with_windows s windows)
  pub is : IsPermutation ((w.slot, Some (records.Window part.id.0 w.first (joined one.summary two.summary))) ∷ beside)
      (records_held (new, with_windows s windows) ++ others)

-- the same stream, but for its line
pub record SameButLine (part new : StreamParts) : Type 0 where
  pub id : new.id ≡ part.id
  pub name : new.name ≡ part.name
  pub target : new.target ≡ part.target
  pub slot : new.slot ≡ part.slot
  pub last_time : new.last_time ≡ part.last_time
  pub landmarks : new.landmarks ≡ part.landmarks

span-joined : (w v : Entry) (one two : Window) → one.first + one.summary.count ≡ two.first → 1 ≤ two.summary.count → span_held w ≡ span_of one →
    span_held v ≡ span_of two → span_held (joined_entry w v) ≡ span_of (joined_window one two)
span-joined w v one two next some first second =
    let start : w.first ≡ one.first = ap (λ (p : ℕ × ℕ). p.0) first in
    let end : v.last ≡ two.first + two.summary.count - 1 = ap (λ (p : ℕ × ℕ). p.1) second in
    let last : v.last ≡ one.first + (one.summary.count + two.summary.count) - 1 = omega arith in
    λ i. (start i, last i)

times-joined : (w v : Entry) (one two : Window) → times_held w ≡ times_of one → times_held v ≡ times_of two →
    times_held (joined_entry w v) ≡ times_of (joined_window one two)
times-joined w v one two first second =
    let start : w.t_first ≡ one.summary.t_first = ap (λ (p : ℕ × ℕ). p.0) first in
    let end : v.t_last ≡ two.summary.t_last = ap (λ (p : ℕ × ℕ). p.1) second in
    λ i. (start i, end i)

pub one_part-same : (part : StreamParts) (entries : List (At × Entry)) → SameButLine part (one_part part entries)
one_part-same part entries = record { id = refl; name = refl; target = refl; slot = refl; last_time = refl; landmarks = refl }

-- the records of a stream beside others, those of its windows first
pub records_held-apart : (part : StreamParts) (s : Stream) (others : List (ℕ × Option Record)) →
    records_held (part, s) ++ others ≡ windows_held (part, s) ++ (marks_held (part, s) ++ others)
records_held-apart part s others = append_assoc (windows_held (part, s)) (marks_held (part, s)) others

-- those of the landmarks stay where the stream has other windows
pub marks_held-same : (part new : StreamParts) (s : Stream) (ws : List Window) → new.landmarks ≡ part.landmarks →
    marks_held (new, with_windows s ws) ≡ marks_held (part, s)
marks_held-same part new s ws same =
    ap (λ (l : LandmarksState).
    in_slots l.slots (landmark_records s.number 1 s.landmarks) ++ in_slots l.value_slots (all_value_records s.number 1 s.landmarks)) same

-- so records in place of those of the windows lie before those of the landmarks
pub records_held-changed : (part new : StreamParts) (s : Stream) (ws : List Window) (now others : List (ℕ × Option Record)) → new.landmarks ≡ part.landmarks →
    IsPermutation now (windows_held (new, with_windows s ws)) →
    IsPermutation (now ++ (marks_held (part, s) ++ others)) (records_held (new, with_windows s ws) ++ others)
records_held-changed part new s ws now others same moved =
    let marks = marks_held (part, s) ++ others in
    let is : records_held (new, with_windows s ws) ++ others ≡ windows_held (new, with_windows s ws) ++ marks =
    records_held-apart new (with_windows s ws) others
    ∙ ap (λ m. windows_held (new, with_windows s ws) ++ (m ++ others)) (marks_held-same part new s ws same) in
    rw is (IsPermutation-append_left marks now (windows_held (new, with_windows s ws)) moved)

-- two of some windows that lie free
lie_free-two : (ls : List Landmark) (before : List Window) (one two : Window) (behind : List Window) →
    IsTrue (list_all (lies_free ls) (before ++ one ∷ two ∷ behind)) → IsTrue (lies_free ls one) × IsTrue (lies_free ls two)
lie_free-two ls before one two behind free =
    let p = lies_free ls in
    let apart = and_parts (list_all p before) (list_all p (one ∷ two ∷ behind)) (sym (list_all-append p before (one ∷ two ∷ behind)) ∙ free) in
    let first = and_parts (p one) (list_all p (two ∷ behind)) apart.1 in
    let second = and_parts (p two) (list_all p behind) first.1 in
    (first.0, second.0)

module _ (others : List (ℕ × Option Record)) (part new : StreamParts) (s : Stream) (w v : Entry) (same : SameButLine part new)
    (pair : AreJoined (rule_of (params_of part.target)) (values_held (entries_of part)) part.line.entries new.line.entries w v)
    (agrees : Agrees part s) (stream : IsStream s) where
  theirs : AreTheirs pair.front w v pair.rest s.windows
  theirs =
      AreTheirs-agree pair.front w v pair.rest s.windows (ap (λ es. map span_held es) (sym pair.was) ∙ agrees.positions)
      (ap (λ es. map times_held es) (sym pair.was) ∙ agrees.times)

  stand : AreWindows (theirs.before ++ theirs.one ∷ theirs.two ∷ theirs.behind)
  stand = rw theirs.is at stream.windows

  ws : List Window
  ws = theirs.before ++ joined_window theirs.one theirs.two ∷ theirs.behind

  due : may_join (rule_of s.params) (values_in s) theirs.one theirs.two ≡ true
  due =
      let params : params_of part.target ≡ s.params = agrees.params in
      let held : values_held (entries_of part) ≡ values_in s = values_held-windows s.windows (entries_of part) stream.windows agrees.positions in
      let first : w.first ≡ theirs.one.first = ap (λ (p : ℕ × ℕ). p.0) theirs.first in
      let last : v.last ≡ last_position theirs.two = ap (λ (p : ℕ × ℕ). p.1) theirs.second in
      let t_first : w.t_first ≡ theirs.one.summary.t_first = ap (λ (p : ℕ × ℕ). p.0) theirs.first_times in
      let t_last : v.t_last ≡ theirs.two.summary.t_last = ap (λ (p : ℕ × ℕ). p.1) theirs.second_times in
      (λ i. may_be_one (rule_of (sym params i)) (sym first i) (sym last i) (sym held i) (sym t_first i) (sym t_last i)) ∙ pair.due

  joins : JoinsDue (rule_of s.params) (values_in s) s.windows ws
  unfolding ws
  joins = JoinsDue-one (rule_of s.params) (values_in s) s.windows ws (record {
    before = theirs.before;
    window = theirs.one;
    next = theirs.two;
    rest = theirs.behind;
    was = theirs.is;
    is = refl;
    due = due;
  })

  front : List (ℕ × Option Record)
  front =
      (part.slot, Some (stream_record s)) ∷ zip (map (λ (e : Entry). e.slot) pair.front) (map (λ x. Some (window_record s.number x)) theirs.before)

  back : List (ℕ × Option Record)
  back = zip (map (λ (e : Entry). e.slot) pair.rest) (map (λ x. Some (window_record s.number x)) theirs.behind)

  was_records : windows_held (part, s)
      ≡ front ++ (w.slot, Some (window_record s.number theirs.one)) ∷ (v.slot, Some (window_record s.number theirs.two)) ∷ back
  unfolding front back
  was_records =
      ap₂ (λ (es : List Entry) (l : List Window). (part.slot, Some (stream_record s)) ∷ zip (map (λ (e : Entry). e.slot) es)
      (map (λ x. Some (window_record s.number x)) l))
      pair.was theirs.is
      ∙ ap (λ l. (part.slot, Some (stream_record s)) ∷ l)
      (zip-held s.number pair.front (w ∷ v ∷ pair.rest) theirs.before (theirs.one ∷ theirs.two ∷ theirs.behind) theirs.fronts)

  is_records : windows_held (new, with_windows s ws) ≡ front ++ (w.slot, Some (window_record s.number (joined_window theirs.one theirs.two))) ∷ back
  unfolding ws front back
  is_records =
      ap₂ (λ (k : ℕ) (es : List Entry). (k, Some (stream_record s)) ∷ zip (map (λ (e : Entry). e.slot) es) (map (λ x. Some (window_record s.number x)) ws))
      same.slot pair.is
      ∙ ap (λ l. (part.slot, Some (stream_record s)) ∷ l)
      (zip-held s.number pair.front (joined_entry w v ∷ pair.rest) theirs.before (joined_window theirs.one theirs.two ∷ theirs.behind) theirs.fronts)

  positions : map span_held (entries_of new) ≡ map span_of ws
  unfolding ws
  positions =
      let neighbours = AreNeighbours-from_AreWindows theirs.before theirs.behind theirs.one theirs.two stand in
      let one : span_held (joined_entry w v) ≡ span_of (joined_window theirs.one theirs.two) =
      span-joined w v theirs.one theirs.two neighbours.next neighbours.some_behind theirs.first theirs.second in
      ap (λ es. map span_held es) pair.is ∙ map-append span_held pair.front (joined_entry w v ∷ pair.rest)
      ∙ ap₂ (λ (xs ys : List (ℕ × ℕ)). xs ++ ys) theirs.fronts (ap₂ (λ (p : ℕ × ℕ) (l : List (ℕ × ℕ)). p ∷ l) one theirs.rests)
      ∙ sym (map-append span_of theirs.before (joined_window theirs.one theirs.two ∷ theirs.behind))

  times : map times_held (entries_of new) ≡ map times_of ws
  unfolding ws
  times =
      let one : times_held (joined_entry w v) ≡ times_of (joined_window theirs.one theirs.two) = times-joined w v theirs.one theirs.two theirs.first_times
      theirs.second_times in
      ap (λ es. map times_held es) pair.is ∙ map-append times_held pair.front (joined_entry w v ∷ pair.rest)
      ∙ ap₂ (λ (xs ys : List (ℕ × ℕ)). xs ++ ys) theirs.front_times (ap₂ (λ (p : ℕ × ℕ) (l : List (ℕ × ℕ)). p ∷ l) one theirs.rest_times)
      ∙ sym (map-append times_of theirs.before (joined_window theirs.one theirs.two ∷ theirs.behind))

  pub JoinsHeld-pair : JoinsHeld others part new s w v
  JoinsHeld-pair =
      let number : part.id.0 ≡ s.number = agrees.number in
      let start : w.first ≡ theirs.one.first = ap (λ (p : ℕ × ℕ). p.0) theirs.first in
      let marks : List (ℕ × Option Record) = marks_held (part, s) ++ others in
      let rest : List (ℕ × Option Record) = (front ++ back) ++ marks in
      let free = lie_free-two s.landmarks theirs.before theirs.one theirs.two theirs.behind
      (rw theirs.is at stream.free) in
      let was : IsPermutation (records_held (part, s) ++ others)
      ((w.slot, Some (window_record s.number theirs.one)) ∷ (v.slot, Some (window_record s.number theirs.two)) ∷ rest) =
      rw (records_held-apart part s others ∙ ap (λ l. l ++ marks) was_records)
      (IsPermutation-append_left marks (front ++ (w.slot, Some (window_record s.number theirs.one)) ∷ (v.slot, Some (window_record s.number theirs.two)) ∷ back)
      ((w.slot, Some (window_record s.number theirs.one)) ∷ (v.slot, Some (window_record s.number theirs.two)) ∷ (front ++ back))
      (IsPermutation-two front (w.slot, Some (window_record s.number theirs.one)) (v.slot, Some (window_record s.number theirs.two)) back)) in
      let joint : ℕ × Option Record = (w.slot, Some (window_record s.number (joined_window theirs.one theirs.two))) in
      let is : IsPermutation (joint ∷ rest) (records_held (new, with_windows s ws) ++ others) =
      records_held-changed part new s ws (joint ∷ (front ++ back)) others same.landmarks
      (rw is_records (IsPermutation-sym (front ++ joint ∷ back) (joint ∷ (front ++ back)) (IsPermutation-middle front joint back))) in
      record {
        one = theirs.one;
        two = theirs.two;
        first = theirs.first;
        second = theirs.second;
        first_times = theirs.first_times;
        second_times = theirs.second_times;
        later = (AreNeighbours-from_AreWindows theirs.before theirs.behind theirs.one theirs.two stand).times;
        first_free = subst (λ ls. IsTrue (lies_free ls theirs.one)) (sym agrees.landmarks) free.0;
        second_free = subst (λ ls. IsTrue (lies_free ls theirs.two)) (sym agrees.landmarks) free.1;
        beside = rest;
        was = subst (λ n. IsPermutation (records_held (part, s) ++ others)
            ((w.slot, Some (window_record n theirs.one)) ∷ (v.slot, Some (window_record n theirs.two)) ∷ rest)) (sym number) was;
        windows = ws;
        joins = joins;
        agrees = record {
          number = ap (λ (i : _). i.0) same.id ∙ number;
          name = same.name ∙ agrees.name;
          params = ap (λ t. params_of t) same.target ∙ agrees.params;
          positions = positions;
          times = times;
          landmarks = ap (λ (l : LandmarksState). l.landmarks) same.landmarks ∙ agrees.landmarks;
          known = rw same.landmarks agrees.known;
          last_time = same.last_time ∙ agrees.last_time
              ∙ ap (λ o. later o (latest_of s.landmarks)) (sym (newest_time-JoinsDue (rule_of s.params) (values_in s) s.windows ws joins));
        };
        stream = IsStream-joined (values_in s) s ws stream joins;
        is = subst (λ n. IsPermutation ((w.slot, Some (records.Window n w.first (joined theirs.one.summary theirs.two.summary))) ∷ rest)
            (records_held (new, with_windows s ws) ++ others)) (sym number) (rw (← start) at is);
      }
