-- The text of a reply.
use Rattle.std.specs.Prelude.{ℕ, ◌+◌, List, [], ◌∷◌, ◌++◌, codes, filter, if◌then◌else◌, map, nat_lt, Option, Some, None}
use Rattle.std.specs.Fmt.{decimal, signed_decimal}
use Rattle.ss_bounds.specs.declared.extreme.Extreme.{Extreme}
use Rattle.ss_bounds.specs.declared.extreme.Extreme.TheVariants.{Nothing, Sure, Maybe}
use Rattle.ss_catalog.specs.Queries.{series_verb}
use Rattle.ss_catalog.specs.Refusal.{refusal_name}
use Rattle.ss_command.specs.Printed.{spaced, target_words}
use Rattle.ss_command.specs.declared.TheConstants.{LINE_END}
use Rattle.hex.specs.Hex.{encode_lower}
use Rattle.ss_frames.specs.Frame.{FrameState, frame_spelled}
use Rattle.ss_model.specs.declared.newest.Newest.{Newest}
use Rattle.ss_model.specs.declared.newest.Newest.TheVariants as newest
use Rattle.ss_model.specs.declared.outcome.Outcome.{Outcome}
use Rattle.ss_model.specs.declared.outcome.Outcome.TheVariants.{Count, Sum, Min, Max, Mean, Has, Estimate, MeanEstimate}
use Rattle.ss_model.specs.declared.outcome.Presence.{Presence}
use Rattle.ss_model.specs.declared.outcome.Presence.TheVariants as presences
use Rattle.ss_model.specs.declared.types.Run.{Run}
use Rattle.ss_report.specs.MeanText.{mean_end_word, mean_guess_words, mean_words}
use Rattle.ss_report.specs.declared.reply.Reply.{Reply}
use Rattle.ss_report.specs.declared.reply.Reply.TheVariants.{Done, Answered, Refused, SeriesHead, Row, WindowsHead, Window, ListHead, Stream}
use Rattle.ss_report.specs.declared.reply.Reply.TheVariants.{CertifyHead, CertifyMeanHead, Side, Last, ValuesHead, Value}
use Rattle.ss_report.specs.declared.reply.Reply.TheVariants.{Cursor, Rows, Closed, Old, Gap, Framed}

-- a line of words with one space between them, with its line end
abbrev pub spaced_line : List ℕ → List (List ℕ) → List ℕ
spaced_line first rest = spaced first rest ++ LINE_END ∷ []

-- what is known of a least or a greatest value: that there is none, or from which to which it lies
abbrev pub extreme_words : Extreme → List (List ℕ)
extreme_words Nothing = codes "none" ∷ []
extreme_words (Sure lo hi) = signed_decimal lo ∷ signed_decimal hi ∷ []
extreme_words (Maybe lo hi) = signed_decimal lo ∷ signed_decimal hi ∷ codes "maybe-none" ∷ []

-- what is known of whether a value is there, as a word
abbrev pub presence_word : Presence → List ℕ
presence_word presences.Absent = codes "absent"
presence_word presences.Present = codes "present"
presence_word presences.Maybe = codes "maybe"

-- what is answered, as a word
abbrev pub answer_kind : Outcome → List ℕ
answer_kind (Count lo hi) = codes "count"
answer_kind (Sum lo hi) = codes "sum"
answer_kind (Min extreme) = codes "min"
answer_kind (Max extreme) = codes "max"
answer_kind (Mean known) = codes "mean"
answer_kind (Has known) = codes "has"
answer_kind (Estimate lo guess hi) = codes "estimate"
answer_kind (MeanEstimate known) = codes "estimate"

-- the words of an answer behind that one
abbrev pub answer_words : Outcome → List (List ℕ)
answer_words (Count lo hi) = decimal lo ∷ decimal hi ∷ []
answer_words (Sum lo hi) = signed_decimal lo ∷ signed_decimal hi ∷ []
answer_words (Min extreme) = extreme_words extreme
answer_words (Max extreme) = extreme_words extreme
answer_words (Mean known) = mean_words known
answer_words (Has known) = presence_word known ∷ []
answer_words (Estimate lo guess hi) = signed_decimal lo ∷ signed_decimal guess ∷ signed_decimal hi ∷ []
answer_words (MeanEstimate known) = mean_guess_words known

-- a run as a word: its value, and how many of it
abbrev pub run_word : Run → List ℕ
run_word run = signed_decimal run.value ++ codes "*" ++ decimal run.times

-- the words of runs, but for those without values
abbrev pub run_words : List Run → List (List ℕ)
run_words runs = map run_word (filter (λ run. nat_lt 0 run.times) runs)

-- what is known of the newest value: that there is no last time, only this time, or it, the time of that value and from which to which
-- this lies
abbrev pub newest_words : Newest → List (List ℕ)
newest_words newest.Nothing = codes "none" ∷ []
newest_words (newest.Time last) = decimal last ∷ []
newest_words (newest.Value last at lo hi) = decimal last ∷ decimal at ∷ signed_decimal lo ∷ signed_decimal hi ∷ []

-- the bytes of a frame as a word: two hexadecimal digits each, in lower case
abbrev pub frame_word : FrameState → List ℕ
frame_word frame = encode_lower (frame_spelled frame)

-- the line of a reply, with its line end
abbrev pub reply_line : Reply → List ℕ
reply_line (Done ack) = spaced_line (codes "ok") (decimal ack.n ∷ decimal ack.k ∷ [])
reply_line (Answered outcome) = spaced_line (answer_kind outcome) (answer_words outcome)
reply_line (Refused refusal) = spaced_line (codes "refused") (refusal_name refusal ∷ [])
reply_line (SeriesHead kind count) = spaced_line (series_verb kind) (decimal count ∷ [])
reply_line (Row at outcome) = spaced_line (decimal at) (answer_words outcome)
reply_line (WindowsHead count) = spaced_line (codes "windows") (decimal count ∷ [])
reply_line (Window w) =
    spaced_line (decimal w.first) (decimal w.last ∷ decimal w.summary.count ∷ signed_decimal w.summary.sum ∷ signed_decimal w.summary.min ∷ signed_decimal
    w.summary.max ∷ decimal w.summary.t_first ∷ decimal w.summary.t_last ∷ [])
reply_line (ListHead count) = spaced_line (codes "list") (decimal count ∷ [])
reply_line (Stream row) =
    spaced_line row.name (target_words row.params ++ decimal row.n ∷ decimal row.k ∷ decimal row.landmarks ∷ decimal row.values ∷ [])
reply_line (CertifyHead answer base count) = spaced_line (codes "certify") (signed_decimal answer ∷ signed_decimal base ∷ decimal count ∷ [])
reply_line (CertifyMeanHead answer known count) =
    spaced_line (codes "certify") (mean_end_word answer ∷ signed_decimal known.over ∷ decimal known.under ∷ decimal count ∷ [])
reply_line (Side side) =
    spaced_line (if side.inner then codes "inside" else codes "outside") (decimal side.first ∷ decimal side.last ∷ decimal side.values ∷ run_words side.runs)
reply_line (Last newest) = spaced_line (codes "last") (newest_words newest)
reply_line (ValuesHead count) = spaced_line (codes "values") (decimal count ∷ [])
reply_line (Value at value) = spaced_line (decimal at) (signed_decimal value ∷ [])
reply_line (Cursor count) = spaced_line (codes "cursor") (decimal count ∷ [])
reply_line (Rows count) = spaced_line (codes "rows") (decimal count ∷ [])
reply_line Closed = spaced_line (codes "closed") []
reply_line Old = spaced_line (codes "old") []
reply_line (Gap events) = spaced_line (codes "gap") (decimal events ∷ [])
reply_line (Framed frame) = spaced_line (codes "frame") (frame_word frame ∷ [])

-- the line of a reply as it is said: to a session behind `@`, its digit and a blank
abbrev pub said_line : Option ℕ → Reply → List ℕ
said_line None reply = reply_line reply
said_line (Some speaker) reply = codes "@" ++ (48 + speaker) ∷ 32 ∷ reply_line reply
