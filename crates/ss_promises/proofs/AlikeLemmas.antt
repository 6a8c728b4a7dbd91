-- What is said of two states that are alike but for the filters of their windows.
use Rattle.ss_program.proofs.Common.{◌≡◌, ℕ, ◌+◌, Bool, true, false, ℤ, List, [], ◌∷◌, ◌++◌, Option, Some, None, refl, ap, ap₂, inl, inr, flat_map}
use Rattle.ss_program.proofs.Common.{fold, if◌then◌else◌, is_some, map, not, nat_lt, option_map, last_or, cases_Bool, length-map, Event, Kind, Query, Unknown}
use Rattle.ss_program.proofs.Common.{Range, Landmark, is_free, answer_of, is_apart, is_whole, later, latest_of, marked_values, known_exactly, known_in, newer}
use Rattle.ss_program.proofs.Common.{newest_in, newest_of, newest_told, unfiltered_stream, unfiltered_window, first_that_applies, refuses, stands, placed_of}
use Rattle.ss_program.proofs.Common.{row_of, Stream, last_time, ack_of, Ack, joined_with, left_with, right_with, seen_after, seen_count}
use Rattle.ss_program.proofs.Common.{seen_of, seen_sum, seen_with, whole_with, Seen, Cut, reply_line}
use Rattle.ss_landmarks.specs.Newest.{newest_value}
use Rattle.ss_landmarks.specs.declared.tally.Tally.{Tally}
use Rattle.ss_model.proofs.OriginLemmas.{newest-unfiltered, outlines-unfiltered, taken-unfiltered}
use Rattle.ss_model.proofs.OutlineLemmas.{refuses-outlines}
use Rattle.ss_model.specs.Answers.{outcome_of, refuses_query}
use Rattle.ss_model.specs.Newest.{refuses_values}
use Rattle.ss_model.specs.Refusals.{refuses_reading}
use Rattle.ss_model.specs.Steps.{said_of}
use Rattle.ss_model.specs.declared.newest.Known.{Known}
use Rattle.ss_model.specs.declared.types.Window.{Window}
use Rattle.ss_report.specs.declared.reply.Reply.TheVariants.{Window as WindowRow, Stream as StreamRow}
use Rattle.ss_summary.specs.Figures.{Figures, unfiltered}
use Rattle.ss_summary.specs.Summaries.{joined}
use Rattle.ss_promises.proofs.OldLemmas.{answer_of_kind-old, read-old}
use Rattle.ss_catalog.specs.declared.query.Kind.TheVariants as kinds

-- ---- what is kept of a stream, without the figures of its windows

last_time-old : (s : Stream) → last_time (unfiltered_stream s) ≡ last_time s
last_time-old s = ap (λ t. later t (latest_of s.landmarks)) (newest-unfiltered s.windows)

-- ---- refusals

pub refuses-old : (streams : List Stream) (event : Event) → refuses (map unfiltered_stream streams) event ≡ refuses streams event
refuses-old streams event = refuses-outlines (map unfiltered_stream streams) streams event (outlines-unfiltered streams)

stands-old : (name : List ℕ) (streams : List Stream) → stands name (map unfiltered_stream streams) ≡ stands name streams
stands-old name streams = read-old (λ (o : Option Stream). is_some o) (λ s. refl) name streams

pub refuses_query-old : (streams : List Stream) (query : Query) → refuses_query (map unfiltered_stream streams) query ≡ refuses_query streams query
unfolding refuses_query
refuses_query-old streams query =
    ap (λ b. first_that_applies ((not b, Unknown) ∷ (nat_lt query.to query.from, Range) ∷ [])) (stands-old query.name streams)

pub refuses_reading-old : (streams : List Stream) (name : List ℕ) → refuses_reading (map unfiltered_stream streams) name ≡ refuses_reading streams name
unfolding refuses_reading
refuses_reading-old streams name = ap (λ b. first_that_applies ((not b, Unknown) ∷ [])) (stands-old name streams)

pub refuses_values-old : (streams : List Stream) (name : List ℕ) (from to : ℕ) →
    refuses_values (map unfiltered_stream streams) name from to ≡ refuses_values streams name from to
unfolding refuses_values
refuses_values-old streams name from to =
    ap (λ b. first_that_applies ((not b, Unknown) ∷ (nat_lt to from, Range) ∷ [])) (stands-old name streams)

-- ---- what is told

pub ack-old : (name : List ℕ) (streams : List Stream) → ack_of name (map unfiltered_stream streams) ≡ ack_of name streams
ack-old name streams =
    read-old said_of (λ s. ap₂ (λ (n k : ℕ). let ack : Ack = record { n = n; k = k } in ack) (taken-unfiltered s.windows)
    (length-map s.windows unfiltered_window))
    name streams

pub outcome-old : (streams : List Stream) (query : Query) → ((v : ℤ) → query.kind ≡ kinds.Has v → ⊥) →
    outcome_of (map unfiltered_stream streams) query ≡ outcome_of streams query
unfolding outcome_of
outcome-old streams query other =
    read-old (λ (o : Option Stream). option_map (answer_of query) o)
    (λ s. ap Some (answer_of_kind-old query.kind (is_free s.landmarks) query.from query.to s.windows (marked_values s.landmarks) other)) query.name streams

last-old : (one other : Option Window) (ws : List Window) → option_map known_in one ≡ option_map known_in other →
    option_map known_in (last_or one (map unfiltered_window ws)) ≡ option_map known_in (last_or other ws)
last-old one other [] same = same
last-old one other (w ∷ ws) same = last-old (Some (unfiltered_window w)) (Some w) ws refl

pub newest-alike : (streams : List Stream) (name : List ℕ) → newest_in (map unfiltered_stream streams) name ≡ newest_in streams name
newest-alike streams name =
    read-old (λ (o : Option Stream). option_map newest_of o)
    (λ s. ap₂ (λ (last : Option ℕ) (known : Option Known). Some (newest_told last (newer known (option_map known_exactly (newest_value s.landmarks)))))
    (last_time-old s) (last-old None None s.windows refl)) name streams

pub rows-old : (streams : List Stream) → map (λ s. StreamRow (row_of s)) (map unfiltered_stream streams) ≡ map (λ s. StreamRow (row_of s)) streams
rows-old [] = refl
rows-old (s ∷ ss) =
    ap₂ ◌∷◌ (ap₂ (λ (n k : ℕ). StreamRow (record (row_of s) { n = n; k = k })) (taken-unfiltered s.windows) (length-map s.windows unfiltered_window))
    (rows-old ss)

-- the rows of windows are told without their filters
pub windows-told : (ws : List Window) →
    flat_map reply_line (map (λ w. WindowRow (placed_of w)) (map unfiltered_window ws)) ≡ flat_map reply_line (map (λ w. WindowRow (placed_of w)) ws)
windows-told [] = refl
windows-told (w ∷ ws) = ap (λ (text : List ℕ). reply_line (WindowRow (placed_of w)) ++ text) (windows-told ws)

-- ---- what is known for a certificate

-- the same is known, but for the filter of the whole windows and for whether a value is there
pub record AreSeenAlike (one other : Seen) : Type 0 where
  pub marked : one.marked ≡ other.marked
  pub whole : option_map unfiltered one.whole ≡ option_map unfiltered other.whole
  pub left : one.left ≡ other.left
  pub right : one.right ≡ other.right

joined-old : (one other : Option Figures) (f : Figures) → option_map unfiltered one ≡ option_map unfiltered other →
    option_map unfiltered (joined_with one (unfiltered f)) ≡ option_map unfiltered (joined_with other f)
joined-old None None f same = refl
joined-old None (Some b) f same = cc
joined-old (Some a) None f same = cc
joined-old (Some a) (Some b) f same =
    let alike : unfiltered a ≡ unfiltered b = cc in ap (λ (g : Figures). Some (unfiltered (joined g f))) alike

whole-old : (from to : ℕ) (one other : Option Figures) (w : Window) → option_map unfiltered one ≡ option_map unfiltered other →
    option_map unfiltered (whole_with from to one (unfiltered_window w)) ≡ option_map unfiltered (whole_with from to other w)
whole-old from to one other w same = elim (cases_Bool (is_whole from to w)) [
  | inl is ↦ rw is (joined-old one other w.summary same)
  | inr part ↦ rw part same
]

seen-near : (landmarks : List Landmark) (kind : Kind) (from to : ℕ) (one other : Seen) (w : Window) → AreSeenAlike one other →
    AreSeenAlike (seen_with landmarks kind from to one (unfiltered_window w)) (seen_with landmarks kind from to other w)
seen-near landmarks kind from to one other w alike = record {
  marked = alike.marked;
  whole = whole-old from to one.whole other.whole w alike.whole;
  left = ap (λ (cut : Option Cut). left_with landmarks from to cut w) alike.left;
  right = ap (λ (cut : Option Cut). right_with landmarks from to cut w) alike.right;
}

seen-either : (apart : Bool) (one other one_near other_near : Seen) → AreSeenAlike one other → AreSeenAlike one_near other_near →
    AreSeenAlike (if apart then one else one_near) (if apart then other else other_near)
seen-either true one other one_near other_near alike near = alike
seen-either false one other one_near other_near alike near = near

seen-step : (landmarks : List Landmark) (kind : Kind) (from to : ℕ) (one other : Seen) (w : Window) → AreSeenAlike one other →
    AreSeenAlike (seen_after landmarks kind from to one (unfiltered_window w)) (seen_after landmarks kind from to other w)
seen-step landmarks kind from to one other w alike =
    seen-either (is_apart from to w) one other (seen_with landmarks kind from to one (unfiltered_window w)) (seen_with landmarks kind from to other w) alike
    (seen-near landmarks kind from to one other w alike)

seen-steps : (landmarks : List Landmark) (kind : Kind) (from to : ℕ) (one other : Seen) (ws : List Window) → AreSeenAlike one other →
    AreSeenAlike (fold (seen_after landmarks kind from to) one (map unfiltered_window ws)) (fold (seen_after landmarks kind from to) other ws)
seen-steps landmarks kind from to one other [] alike = alike
seen-steps landmarks kind from to one other (w ∷ ws) alike =
    seen-steps landmarks kind from to (seen_after landmarks kind from to one (unfiltered_window w)) (seen_after landmarks kind from to other w) ws
    (seen-step landmarks kind from to one other w alike)

pub seen-old : (kind : Kind) (from to : ℕ) (s : Stream) → AreSeenAlike (seen_of kind from to (unfiltered_stream s)) (seen_of kind from to s)
seen-old kind from to s =
    seen-steps s.landmarks kind from to _ _ s.windows (record { marked = refl; whole = refl; left = refl; right = refl })

-- their count and their sum are the same
pub count-seen : (one other : Option Figures) (marked : Tally) → option_map unfiltered one ≡ option_map unfiltered other →
    seen_count one marked ≡ seen_count other marked
count-seen None None marked same = refl
count-seen None (Some b) marked same = cc
count-seen (Some a) None marked same = cc
count-seen (Some a) (Some b) marked same =
    let alike : unfiltered a ≡ unfiltered b = cc in ap (λ (g : Figures). g.count + marked.count) alike

pub sum-seen : (one other : Option Figures) (marked : Tally) → option_map unfiltered one ≡ option_map unfiltered other →
    seen_sum one marked ≡ seen_sum other marked
sum-seen None None marked same = refl
sum-seen None (Some b) marked same = cc
sum-seen (Some a) None marked same = cc
sum-seen (Some a) (Some b) marked same =
    let alike : unfiltered a ≡ unfiltered b = cc in ap (λ (g : Figures). seen_sum (Some g) marked) alike
