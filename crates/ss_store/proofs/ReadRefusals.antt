-- Why a look at the stream of a name is refused, by what is held of the streams.
use Rattle.ss_store.proofs.Common.{◌≡◌, ◌∙◌, ℕ, Bool, List, [], ◌∷◌, refl, sym, ap, None, Some, Option, Result, Err, ◌↔◌, nat_lt, none-some, same_Some}
use Rattle.ss_store.proofs.Common.{Refusal, Newest, AskError, Range, Unknown, first_that_applies, Stream, AllAgree, StreamParts, part_named}
use Rattle.ss_store.specs.declared.error.AskError.TheVariants as ask
use Rattle.ss_model.specs.Newest.{refuses_values}
use Rattle.ss_model.specs.Refusals.{refuses_reading}
use Rattle.ss_store.specs.Newest.{refuses_reading_held, refuses_values_held}
use Rattle.ss_store.proofs.Named.{stands-held}

-- as in the state that it agrees with
pub refuses_reading_held-is : (parts : List StreamParts) (streams : List Stream) (name : List ℕ) → AllAgree parts streams →
    refuses_reading_held parts name ≡ refuses_reading streams name
unfolding refuses_reading_held refuses_reading
refuses_reading_held-is parts streams name agree = rw (stands-held name parts streams agree) refl

pub refuses_values_held-is : (parts : List StreamParts) (streams : List Stream) (name : List ℕ) (from to : ℕ) → AllAgree parts streams →
    refuses_values_held parts name from to ≡ refuses_values streams name from to
unfolding refuses_values_held refuses_values
refuses_values_held-is parts streams name from to agree = rw (stands-held name parts streams agree) refl

-- by whether the stream is held
pub refuses_reading_held-unknown : (parts : List StreamParts) (name : List ℕ) → part_named name parts ≡ None → refuses_reading_held parts name ≡ Some Unknown
unfolding refuses_reading_held
refuses_reading_held-unknown parts name none = rw none refl

pub refuses_reading_held-known : (parts : List StreamParts) (name : List ℕ) (part : StreamParts) → part_named name parts ≡ Some part →
    refuses_reading_held parts name ≡ None
unfolding refuses_reading_held
refuses_reading_held-known parts name part named = rw named refl

pub refuses_values_held-unknown : (parts : List StreamParts) (name : List ℕ) (from to : ℕ) → part_named name parts ≡ None →
    refuses_values_held parts name from to ≡ Some Unknown
unfolding refuses_values_held
refuses_values_held-unknown parts name from to none = rw none refl

pub refuses_values_held-known : (parts : List StreamParts) (name : List ℕ) (from to : ℕ) (part : StreamParts) (b : Bool) → part_named name parts ≡ Some part →
    nat_lt to from ≡ b → refuses_values_held parts name from to ≡ first_that_applies ((b, Range) ∷ [])
unfolding refuses_values_held
refuses_values_held-known parts name from to part b named past = rw (named, past) refl

-- a refusal is answered exactly where it applies
same-refusal : (u r : Refusal) → ◌≡◌ {A = Result Newest AskError} (Err (ask.Refused u)) (Err (ask.Refused r)) → u ≡ r
same-refusal u r same = cc

pub refused-unknown : (u r : Refusal) (o : Option Refusal) → o ≡ Some u →
    ◌≡◌ {A = Result Newest AskError} (Err (ask.Refused u)) (Err (ask.Refused r)) ↔ (o ≡ Some r)
refused-unknown u r o is = (
  λ same. is ∙ ap (λ (x : Refusal). Some x) (same-refusal u r same),
  λ other. ap (λ (x : Refusal). (let e : Result Newest AskError = Err (ask.Refused x) in e)) (same_Some u r (sym is ∙ other)),
)

pub refused-known : (result : Result Newest AskError) (r : Refusal) (o : Option Refusal) → o ≡ None →
    ((x : Refusal) → result ≡ Err (ask.Refused x) → ⊥) → (result ≡ Err (ask.Refused r)) ↔ (o ≡ Some r)
refused-known result r o none unrefused = (λ same. absurd (unrefused r same), λ other. absurd (none-some r (sym none ∙ other)))
