-- What showing a command leaves: its replies are sent one after another, and those that are left go on to be sent.
use Rattle.ss_program.proofs.Common.{◌≡◌, ◌∙◌, ℕ, ◌<◌, ◌++◌, List, [], ◌∷◌, length, Option, None, Some, refl, sym, ap, arith, append-nil, append_assoc}
use Rattle.ss_program.proofs.Common.{flat_map, flat_map-append, first_that_applies, is_some, not, Unknown, Command, Do, Ask, Certify, Last, Values, Windows}
use Rattle.ss_program.proofs.Common.{evidence_in, head_of, refuses_query, refuses_series, refuses_values, row_count, End, Query, Refusal, Stream}
use Rattle.ss_program.proofs.Common.{state, stream_named, said_line, Reply, Refused, SeriesHead, WindowsHead, ValuesHead, ListHead, HasRows, Brought, History}
use Rattle.ss_program.proofs.Common.{certified, command_brings, only_replies, series_rows, stream_rows, text_said, unless_refused, value_rows, values_shown}
use Rattle.ss_program.proofs.Common.{window_rows, windows_shown, values_between, appended, AppendsLess}
use Rattle.ss_command.specs.declared.command.Command.TheVariants.{Series as AskRows, List as ListAll}
use Rattle.ss_model.specs.Refusals.{refuses_reading}
use Rattle.ss_program.proofs.AnswerLemmas.{one_reply-some}
use Rattle.ss_program.proofs.CertifyLemmas.{evidence-known, head-some}
use Rattle.ss_program.proofs.SendLemmas.{AppendsLess-after, AppendsLess-none, appended-appended, appended-nil}
use Rattle.ss_program.proofs.TextLemmas.{said_line-some}
use Rattle.ss_program.proofs.ValuesLemmas.{known-values}
use Rattle.ss_program.specs.Certifying.{sides_told}

-- Of all replies those before the ones that are left were sent.
pub record IsSaidBefore (speaker : Option ℕ) (all left : List Reply) (before held : Option (List ℕ)) : Type 0 where
  pub sent : List Reply
  pub split : all ≡ sent ++ left
  pub is : held ≡ appended before (flat_map (said_line speaker) sent)

module _ (speaker : Option ℕ) (all : List Reply) (before : Option (List ℕ)) where
  -- none was sent yet
  pub said-none : IsSaidBefore speaker all all before before
  said-none = record { sent = []; split = refl; is = sym (appended-nil before) }

  -- one more was sent
  pub said-more : (left after : List Reply) (reply : Reply) (held now : Option (List ℕ)) → left ≡ reply ∷ after →
      IsSaidBefore speaker all left before held → now ≡ appended held (said_line speaker reply) → IsSaidBefore speaker all after before now
  said-more left after reply held now first was now_is = record {
    sent = was.sent ++ reply ∷ [];
    split = was.split ∙ ap (λ rs. was.sent ++ rs) first ∙ sym (append_assoc was.sent (reply ∷ []) after);
    is = now_is ∙ ap (λ o. appended o (said_line speaker reply)) was.is
        ∙ appended-appended before (flat_map (said_line speaker) was.sent) (said_line speaker reply)
        ∙ ap (λ bs. appended before bs) (ap (λ bs. flat_map (said_line speaker) was.sent ++ bs) (sym (append-nil (said_line speaker reply)))
        ∙ sym (flat_map-append (said_line speaker) was.sent (reply ∷ [])));
  }

  -- or less than one more
  pub said-less : (left after : List Reply) (reply : Reply) (held now : Option (List ℕ)) → left ≡ reply ∷ after →
      IsSaidBefore speaker all left before held → AppendsLess held now (said_line speaker reply) →
      AppendsLess before now (flat_map (said_line speaker) all)
  said-less left after reply held now first was less =
      rw (sym (flat_map-append (said_line speaker) was.sent (reply ∷ after))
      ∙ ap (λ rs. flat_map (said_line speaker) rs) (sym (was.split ∙ ap (λ rs. was.sent ++ rs) first))) at
      (AppendsLess-after before held now (flat_map (said_line speaker) was.sent) (said_line speaker reply) (flat_map (said_line speaker) after) was.is less)

  -- one wasn't read that was left
  pub said-unread : (left : List Reply) (held : Option (List ℕ)) → 0 < length left → IsSaidBefore speaker all left before held →
      AppendsLess before held (flat_map (said_line speaker) all)
  said-unread [] held some was = absurd (omega arith)
  said-unread (reply ∷ rest) held some was =
      said-less (reply ∷ rest) rest reply held held refl was (AppendsLess-none held (said_line speaker reply) (said_line-some speaker reply))

  -- all were sent where none is left
  pub said-all : (left : List Reply) (held : Option (List ℕ)) → left ≡ [] → IsSaidBefore speaker all left before held →
      held ≡ appended before (flat_map (said_line speaker) all)
  said-all left held none was =
      was.is ∙ ap (λ rs. appended before (flat_map (said_line speaker) rs)) (sym (was.split ∙ ap (λ rs. was.sent ++ rs) none ∙ append-nil was.sent))

-- ---- a command that has rows has a reply

module _ (speaker : Option ℕ) where
  -- its refusal, or the head
  either-some : (refusal : Option Refusal) (brought : Brought) → (refusal ≡ None → 0 < length (text_said speaker brought)) →
      0 < length (text_said speaker (unless_refused refusal brought))
  either-some None brought some = some refl
  either-some (Some refusal) brought some = one_reply-some speaker (Refused refusal)

  windows-some : (o : Option Stream) →
      0 < length (text_said speaker (unless_refused (first_that_applies ((not (is_some o), Unknown) ∷ [])) (only_replies (windows_shown o))))
  windows-some None = one_reply-some speaker (Refused Unknown)
  windows-some (Some s) = head-some speaker (WindowsHead (length s.windows)) (window_rows s)

  values-some : (from to : ℕ) (o : Option Stream) → (s : Stream) × (o ≡ Some s) → 0 < length (text_said speaker (only_replies (values_shown from to o)))
  values-some from to o is =
      let values = values_between is.0.landmarks from to in rw is.1 (head-some speaker (ValuesHead (length values)) (value_rows values))

  certificate-some : (streams : List Stream) (query : Query) (end : End) → refuses_query streams query ≡ None →
      0 < length (text_said speaker (only_replies (certified (evidence_in streams query end))))
  certificate-some streams query end none =
      let known = evidence-known streams query end none in rw known.1 (head-some speaker (head_of known.0) (sides_told known.0))

  pub rows-some : (history : History) (command : Command) → HasRows command → 0 < length (text_said speaker (command_brings history command))
  unfolding refuses_reading
  rows-some history (Do event) rows = absurd rows
  rows-some history (Ask query) rows = absurd rows
  rows-some history (Last name) rows = absurd rows
  rows-some history (Certify query end) rows =
      either-some (refuses_query (state history) query) (only_replies (certified (evidence_in (state history) query end)))
      (certificate-some (state history) query end)
  rows-some history (AskRows series) rows =
      either-some (refuses_series (state history) series)
      (only_replies (SeriesHead series.kind (row_count series) ∷ series_rows (state history) series))
      (λ none. head-some speaker (SeriesHead series.kind (row_count series)) (series_rows (state history) series))
  rows-some history (Windows name) rows = windows-some (stream_named name (state history))
  rows-some history (Values name from to) rows =
      either-some (refuses_values (state history) name from to) (only_replies (values_shown from to (stream_named name (state history))))
      (λ none. values-some from to (stream_named name (state history)) (known-values (state history) name from to none))
  rows-some history ListAll rows = head-some speaker (ListHead (length (state history))) (stream_rows (state history))
