-- What a device answers, judged, tells why its first call failed.
use Rattle.std.proofs.Common.{◌≡◌, ◌∙◌, ◌↔◌, subst, sym, ℕ, Option, Some, None, Result, Ok, Err, IfErr, IsErr, IsSome, OnOk, refl}
use Rattle.std.proofs.lemmas.Bool.{false≢true}
use Rattle.ss_outside.specs.Verdict.{HasCause}
use Rattle.ss_outside.specs.declared.source.Failed.{Failed}
use Rattle.ss_file.specs.FileDisk.{IsFaultless, TellsWhy}
use Rattle.ss_file.specs.declared.reason.Reason.{Reason}
use Rattle.ss_file.specs.declared.reason.Trouble.{Trouble}

-- what is said of a reason is said of an answer that passes it on
pub told-passed : {T : Type 0} (IsCause : Reason → Type 0) (result : Result T Reason) (reason : Reason) → result ≡ Err reason → IsCause reason →
    IfErr result IsCause
told-passed IsCause result reason same known = subst (λ r. IfErr r IsCause) (sym same) known

-- a call of which none had failed before, judged, tells why it failed
pub TellsWhy-judged : {T : Type 0} (Blames : Type 0) (Owns : Trouble → Type 0) (answer : Result T Reason) (result : Result T Failed) (had has : ℕ)
    (why why_now : Option Reason) → (IsErr result ↔ IsErr answer) → IfErr answer (λ reason. why ≡ None → why_now ≡ Some reason) →
    OnOk result (why_now ≡ why) → HasCause had has result → IfErr answer (λ reason. IsSome reason.error → Blames) →
    IfErr answer (λ reason. reason.error ≡ None → Owns reason.trouble) → IsFaultless had why →
    TellsWhy has why_now (λ reason. (IsSome reason.error → Blames) × (reason.error ≡ None → Owns reason.trouble)) result
TellsWhy-judged Blames Owns (Ok value) (Ok same) had has why why_now fails tells keeps counted blames owns none = (counted ∙ none.0, keeps ∙ none.1)
TellsWhy-judged Blames Owns (Ok value) (Err e) had has why why_now fails tells keeps counted blames owns none = absurd (false≢true (fails.0 refl))
TellsWhy-judged Blames Owns (Err reason) (Ok same) had has why why_now fails tells keeps counted blames owns none = absurd (false≢true (fails.1 refl))
TellsWhy-judged Blames Owns (Err reason) (Err e) had has why why_now fails tells keeps counted blames owns none =
    (reason, tells none.1, (blames, owns))
