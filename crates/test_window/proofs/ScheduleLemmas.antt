-- Positions of a line that goes on where it ended.
use Rattle.std.proofs.Common.{◌≡◌, ◌∙◌, ℕ, suc, ◌+◌, ◌≤◌, List, [], ◌∷◌, ◌++◌, length, refl}
use Rattle.std.proofs.Common.{sym, ap, arith, length-append, Option, Some, None, IfSome}
use Rattle.std.specs.Option.{SomeIff}
use Rattle.std.proofs.lemmas.Option.{same_Some}
use Rattle.ss_line.specs.Line.{entry_at, place_before}
use Rattle.ss_line.specs.declared.entry.At.{At}
use Rattle.ss_line.specs.declared.entry.Entry.{Entry}
use Rattle.ss_line.proofs.Places.{place_at-seam}
use Rattle.ss_schedule.specs.Keyed.{TileUpTo, FollowUpTo}
use Rattle.ss_schedule.proofs.PairLemmas.{entry-apart}
use Rattle.ss_schedule.proofs.Places.{AreApart, Ends, ends, with_last, without_last}

TileUpTo-more : (n first : ℕ) (front : List (At × Entry)) (last new : At × Entry) → TileUpTo n first (front ++ last ∷ []) →
    new.1.first ≡ last.1.last + 1 →
    new.1.first ≤ new.1.last → new.1.last ≤ n → TileUpTo n first ((front ++ last ∷ []) ++ new ∷ [])
TileUpTo-more n first [] last new follow next order taken = (follow.0, follow.1, follow.2, (next, omega arith, taken, tt))
TileUpTo-more n first (e ∷ es) last new follow next order taken =
    (follow.0, follow.1, follow.2, TileUpTo-more n (e.1.last + 1) es last new follow.3 next order taken)

FollowUpTo-more : (n : ℕ) (front : List (At × Entry)) (last new : At × Entry) → FollowUpTo n (front ++ last ∷ []) →
    new.1.first ≡ last.1.last + 1 →
    new.1.first ≤ new.1.last → new.1.last ≤ n → FollowUpTo n ((front ++ last ∷ []) ++ new ∷ [])
FollowUpTo-more n [] last new follow next order taken = (follow.0, TileUpTo-more n last.1.first [] last new follow.1 next order taken)
FollowUpTo-more n (e ∷ es) last new follow next order taken = (follow.0, TileUpTo-more n e.1.first (e ∷ es) last new follow.1 next order taken)

some-last : (front : List (At × Entry)) (x : At × Entry) → place_before (front ++ x ∷ []) (length (front ++ x ∷ [])) ≡ Some x.0
some-last front x =
    let long : length (front ++ x ∷ []) ≡ suc (length front) = omega (arith, length-append front (x ∷ [])) in
    ap (place_before (front ++ x ∷ [])) long ∙ place_at-seam front (x ∷ [])

-- the window behind the last one
pub follows-last : (n : ℕ) (entries : List (At × Entry)) (at : At) (e : Entry) (new : At × Entry) → Ends entries → AreApart entries →
    FollowUpTo n entries →
    Some at ≡ place_before entries (length entries) → entry_at entries at ≡ Some e → new.1.first ≡ e.last + 1 → new.1.first ≤ new.1.last →
    new.1.last ≤ n →
    FollowUpTo n (entries ++ new ∷ [])
follows-last n _ at e new without_last apart follow last read next order taken = absurd (cc)
follows-last n _ at e new (with_last front x) apart follow last read next order taken =
    let place = same_Some at x.0 (last ∙ some-last front x) in
    let same = entry-apart (front ++ x ∷ []) apart front x.0 x.1 e [] refl (ap (entry_at (front ++ x ∷ [])) (sym place) ∙ read) in
    FollowUpTo-more n front x new follow (next ∙ ap (λ (w : Entry). w.last + 1) (sym same)) order taken

-- the position after the last one, if it is a number of the code
pub next-first : (entries : List (At × Entry)) (at : At) (e : Entry) (found : Option ℕ) (P : Type 0) → AreApart entries →
    Some at ≡ place_before entries (length entries) → entry_at entries at ≡ Some e → SomeIff found P (e.last + 1) →
    IfSome found
    (λ first. (n : ℕ) (new : At × Entry) → FollowUpTo n entries → new.1.first ≡ first → first ≤ new.1.last → new.1.last ≤ n →
    FollowUpTo n (entries ++ new ∷ []))
next-first entries at e None P apart last read is = tt
next-first entries at e (Some first) P apart last read is = λ n new follow start order taken.
    follows-last n entries at e new (ends entries) apart follow last read (start ∙ is.1) (omega arith) taken
