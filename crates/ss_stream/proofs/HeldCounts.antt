-- Streams that are held are found, and counted, as the streams that they agree with.
use Rattle.ss_stream.proofs.Common.{◌≡◌, ℕ, ◌+◌, ◌<◌, List, [], ◌∷◌, length, map, drop, get_or, refl, ap, arith, length-map}
use Rattle.ss_stream.proofs.Common.{sum_by-cons, Entry, last_position, IsStream, Stream, values_in, taken, Window}
use Rattle.ss_stream.proofs.Common.{Agrees, entries_of, span_held, span_of, StreamParts, values_held}
use Rattle.ss_model.specs.Tiling.{StandFrom}
use Rattle.ss_parts.proofs.Records.{same-length}

-- the spans of the first, and of the rest
first_span : (e : Entry) (es : List Entry) (w : Window) (ws : List Window) → map span_held (e ∷ es) ≡ map span_of (w ∷ ws) → e.last ≡ last_position w
first_span e es w ws same = ap (λ (l : List (ℕ × ℕ)). (get_or l 0 (0, 0)).1) same

rest_spans : (e : Entry) (es : List Entry) (w : Window) (ws : List Window) → map span_held (e ∷ es) ≡ map span_of (w ∷ ws) →
    map span_held es ≡ map span_of ws
rest_spans e es w ws same = ap (drop 1) same

-- windows that stand from a position on end where they hold their last value
values_held-from : (es : List Entry) (ws : List Window) (first time : ℕ) → map span_held es ≡ map span_of ws → StandFrom first time ws →
    0 < length ws → values_held es + 1 ≡ first + taken ws
values_held-from [] [] first time same stand some = absurd (omega arith)
values_held-from [] (w ∷ ws) first time same stand some = absurd (omega (arith, same-length [] (w ∷ ws) same))
values_held-from (e ∷ es) [] first time same stand some = absurd (omega arith)
values_held-from (e ∷ []) (w ∷ []) first time same stand some =
    let possible = stand.1 in
    omega (arith, first_span e [] w [] same, stand.0, possible.count_low, sum_by-cons (λ (v : Window). v.summary.count) w [])
values_held-from (e ∷ []) (w ∷ v ∷ vs) first time same stand some = absurd (omega (arith, same-length (e ∷ []) (w ∷ v ∷ vs) same))
values_held-from (e ∷ f ∷ fs) (w ∷ []) first time same stand some = absurd (omega (arith, same-length (e ∷ f ∷ fs) (w ∷ []) same))
values_held-from (e ∷ f ∷ fs) (w ∷ v ∷ vs) first time same stand some =
    let rest = values_held-from (f ∷ fs) (v ∷ vs) (first + w.summary.count) (w.summary.t_last + 1) (rest_spans e (f ∷ fs) w (v ∷ vs) same)
    stand.3 (omega arith) in
    omega (arith, rest, sum_by-cons (λ (u : Window). u.summary.count) w (v ∷ vs))

values_held-spans : (es : List Entry) (ws : List Window) → map span_held es ≡ map span_of ws → StandFrom 1 0 ws → values_held es ≡ taken ws
values_held-spans [] [] same stand = refl
values_held-spans (e ∷ es) [] same stand = absurd (omega (arith, same-length (e ∷ es) [] same))
values_held-spans es (w ∷ ws) same stand = omega (arith, values_held-from es (w ∷ ws) 1 0 same stand (omega arith))

pub values_held-Agrees : (part : StreamParts) (s : Stream) → IsStream s → Agrees part s → values_held (entries_of part) ≡ values_in s
values_held-Agrees part s is agrees = values_held-spans (entries_of part) s.windows agrees.positions is.windows.stand

pub length-Agrees : (part : StreamParts) (s : Stream) → Agrees part s → length part.line.entries ≡ length s.windows
length-Agrees part s agrees =
    omega (arith, same-length (entries_of part) s.windows agrees.positions, length-map part.line.entries (λ e. e.1))
