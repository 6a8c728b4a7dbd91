-- What lines bring doesn't depend on how many slots the store's file used before.
use Rattle.ss_program.proofs.Common.{◌≡◌, ◌∙◌, ℕ, ◌+◌, ◌-◌, ◌++◌, Bool, List, [], ◌∷◌, length, Option, Some, None, Result, Ok, Err, refl, ap, cond, nat_le}
use Rattle.ss_program.proofs.Common.{Event, Refusal, meaning, unless_long, Command, FrameState, Happened, refuses, state, spoken_of, Order, Spoken, Nothing}
use Rattle.ss_program.proofs.Common.{Unaddressed, To, acks, accepted_frame, the_event, accepted, after_line, Talk, Turn, after_turn, kept_spoken, meant_turn}
use Rattle.ss_program.proofs.Common.{turn_in, turn_of, turn_spoken, turn_to, writing, Form, Lines, Sessions, Frames, Follow, sym, inl, inr}
use Rattle.ss_program.proofs.MeantLemmas.{event-or-silent}

-- the conversation over a file that used so many slots, where that is known
abbrev pub over_slots : Option ℕ → Talk → Talk
over_slots used talk = record { form = talk.form; history = talk.history; cursors = talk.cursors; used = used }

module _ (used : Option ℕ) where
  to-over : (framed : Bool) (session : ℕ) (talk : Talk) (said : Result (Option Order) Refusal) →
      turn_to framed session (over_slots used talk) said ≡ turn_to framed session talk said
  to-over framed session talk (Err refusal) = refl
  to-over framed session talk (Ok None) = refl
  to-over framed session talk (Ok (Some order)) = refl

  spoken-over : (framed : Bool) (talk : Talk) (spoken : Spoken) → turn_spoken framed (over_slots used talk) spoken ≡ turn_spoken framed talk spoken
  spoken-over framed talk Nothing = refl
  spoken-over framed talk Unaddressed = refl
  spoken-over framed talk (To session said) = to-over framed session talk said

  kept-over : (framed : Bool) (talk : Talk) (line : Option (List ℕ)) → kept_spoken framed (over_slots used talk) line ≡ kept_spoken framed talk line
  kept-over framed talk None = refl
  kept-over framed talk (Some line) = spoken-over framed talk (spoken_of line)

  writing-over : (talk : Talk) (event : Event) (frame : Option FrameState) → writing (over_slots used talk) event frame ≡ writing talk event frame
  writing-over talk event None = refl
  writing-over talk event (Some frame) = refl

  meant-over : (talk : Talk) (meant : Result (Option Command) Refusal) → meant_turn (over_slots used talk) meant ≡ meant_turn talk meant
  meant-over talk meant = elim (event-or-silent meant) [
    | inl is ↦ rw is.1 (writing-over talk is.0 (accepted_frame (refuses (state talk.history) is.0) talk.history is.0))
    | inr none ↦ none (over_slots used talk) ∙ sym (none talk)
  ]

  in-over : (form : Form) (talk : Talk) (line : List ℕ) → turn_in form (over_slots used talk) line ≡ turn_in form talk line
  in-over (Lines framed) talk line = refl
  in-over (Sessions framed) talk line = kept-over framed talk (unless_long line)
  in-over Frames talk line = meant-over talk (meaning line)
  in-over Follow talk piece = refl

  pub turn-over : (talk : Talk) (line : List ℕ) → turn_of (over_slots used talk) line ≡ turn_of talk line
  turn-over talk line = in-over talk.form talk line

  -- the events that are accepted, and those that are acknowledged
  pub accepted-over : (talk : Talk) (ls : List (List ℕ)) → accepted (over_slots used talk) ls ≡ accepted talk ls
  accepted-over talk [] = refl
  accepted-over talk (line ∷ ls) =
      ap (λ (t : Turn). the_event t.event ++ accepted (after_turn (over_slots used talk) t) ls) (turn-over talk line)
      ∙ ap (λ (es : List Happened). the_event (turn_of talk line).event ++ es) (accepted-over (after_line talk line) ls)

  pub acks-over : (talk : Talk) (ls : List (List ℕ)) (bytes : ℕ) → acks (over_slots used talk) ls bytes ≡ acks talk ls bytes
  acks-over talk [] bytes = refl
  acks-over talk (line ∷ ls) bytes =
      ap (λ (t : Turn). cond (nat_le (length t.says) bytes)
      (length (the_event t.event) + acks (after_turn (over_slots used talk) t) ls (bytes - length t.says)) 0) (turn-over talk line)
      ∙ ap (λ n. cond (nat_le (length (turn_of talk line).says) bytes) (length (the_event (turn_of talk line).event) + n) 0)
      (acks-over (after_line talk line) ls (bytes - length (turn_of talk line).says))
