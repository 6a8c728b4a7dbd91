-- No line of a reply is empty.
use Rattle.ss_program.proofs.Common.{codes, ℕ, ◌<◌, ◌++◌, List, [], ◌∷◌, length, Option, Some, None, arith, length-append, if◌then◌else◌, series_verb, spaced}
use Rattle.ss_program.proofs.Common.{target_words, LINE_END, answer_kind, answer_words, frame_word, newest_words, reply_line, run_words, said_line, spaced_line}
use Rattle.ss_program.proofs.Common.{Reply, Answered, Refused, SeriesHead, Row, WindowsHead, Window, ListHead, CertifyHead, Side, ValuesHead, Cursor, Rows}
use Rattle.ss_program.proofs.Common.{Closed, Framed}
use Rattle.std.specs.Fmt.{decimal, signed_decimal}
use Rattle.ss_catalog.specs.Refusal.{refusal_name}
use Rattle.ss_report.specs.MeanText.{mean_end_word}
use Rattle.ss_report.specs.declared.reply.Reply.TheVariants.{CertifyMeanHead, Done as AckLine, Stream as StreamRow, Last, Value, Old, Gap}

-- a line of words isn't empty
spaced_line-some : (first : List ℕ) (rest : List (List ℕ)) → 0 < length (spaced_line first rest)
spaced_line-some first rest = omega (arith, length-append (spaced first rest) (LINE_END ∷ []))

pub reply_line-some : (reply : Reply) → 0 < length (reply_line reply)
reply_line-some (AckLine ack) = spaced_line-some (codes "ok") (decimal ack.n ∷ decimal ack.k ∷ [])
reply_line-some (Answered outcome) = spaced_line-some (answer_kind outcome) (answer_words outcome)
reply_line-some (Refused refusal) = spaced_line-some (codes "refused") (refusal_name refusal ∷ [])
reply_line-some (SeriesHead kind count) = spaced_line-some (series_verb kind) (decimal count ∷ [])
reply_line-some (Row at outcome) = spaced_line-some (decimal at) (answer_words outcome)
reply_line-some (WindowsHead count) = spaced_line-some (codes "windows") (decimal count ∷ [])
reply_line-some (Window w) = spaced_line-some (decimal w.first)
    (decimal w.last ∷ decimal w.summary.count ∷ signed_decimal w.summary.sum ∷ signed_decimal w.summary.min ∷ signed_decimal w.summary.max ∷ decimal
    w.summary.t_first ∷ decimal w.summary.t_last ∷ [])
reply_line-some (ListHead count) = spaced_line-some (codes "list") (decimal count ∷ [])
reply_line-some (CertifyHead answer base count) =
    spaced_line-some (codes "certify") (signed_decimal answer ∷ signed_decimal base ∷ decimal count ∷ [])
reply_line-some (CertifyMeanHead answer known count) =
    spaced_line-some (codes "certify") (mean_end_word answer ∷ signed_decimal known.over ∷ decimal known.under ∷ decimal count ∷ [])
reply_line-some (Side side) =
    spaced_line-some (if side.inner then codes "inside" else codes "outside")
    (decimal side.first ∷ decimal side.last ∷ decimal side.values ∷ run_words side.runs)
reply_line-some (StreamRow row) = spaced_line-some row.name (target_words row.params ++ decimal row.n ∷ decimal row.k ∷ decimal row.landmarks ∷ decimal
    row.values ∷ [])
reply_line-some (Last newest) = spaced_line-some (codes "last") (newest_words newest)
reply_line-some (ValuesHead count) = spaced_line-some (codes "values") (decimal count ∷ [])
reply_line-some (Value at value) = spaced_line-some (decimal at) (signed_decimal value ∷ [])
reply_line-some (Cursor count) = spaced_line-some (codes "cursor") (decimal count ∷ [])
reply_line-some (Rows count) = spaced_line-some (codes "rows") (decimal count ∷ [])
reply_line-some Closed = spaced_line-some (codes "closed") []
reply_line-some Old = spaced_line-some (codes "old") []
reply_line-some (Gap events) = spaced_line-some (codes "gap") (decimal events ∷ [])
reply_line-some (Framed frame) = spaced_line-some (codes "frame") (frame_word frame ∷ [])

-- so a line that is said to a session or to none isn't either
pub said_line-some : (speaker : Option ℕ) (reply : Reply) → 0 < length (said_line speaker reply)
said_line-some None reply = reply_line-some reply
said_line-some (Some session) reply = omega arith
