-- Worked rows of the commands that ask for a mean.
use Rattle.std.proofs.Common.{◌≡◌, ℕ, [], ◌∷◌, map, Ok, Err, Some, Option, Result, refl}
use Rattle.std.specs.Prelude.{codes}
use Rattle.std.specs.Fmt.{digits}
use Rattle.ss_fields.specs.Words.{is_number, number_of, number_up_to, signed_of}
use Rattle.ss_catalog.specs.Names.{is_name}
use Rattle.ss_catalog.specs.declared.query.End.TheVariants as ends
use Rattle.ss_catalog.specs.declared.query.Kind.{Kind}
use Rattle.ss_catalog.specs.declared.query.Kind.TheVariants as kinds
use Rattle.ss_catalog.specs.declared.refusal.Refusal.{Refusal}
use Rattle.ss_catalog.specs.declared.refusal.Refusal.TheVariants as refusals
use Rattle.ss_command.specs.Grammar.{meaning}
use Rattle.ss_command.specs.Printed.{printed}
use Rattle.ss_command.specs.Words.{words}
use Rattle.ss_command.specs.declared.command.Command.{Command}
use Rattle.ss_command.specs.declared.command.Command.TheVariants as commands

-- a query of the stream `a`, and a series of one
abbrev asked : Kind → ℕ → ℕ → Command
asked kind from to = commands.Ask (record { name = codes "a"; kind = kind; from = from; to = to })

abbrev asked_in_rows : Kind → ℕ → ℕ → ℕ → Command
asked_in_rows kind from to step = commands.Series (record { name = codes "a"; kind = kind; from = from; to = to; step = step })

abbrev refused : Refusal → Result (Option Command) Refusal
refused refusal = Err refusal

-- a mean is asked for as a sum is
means-mean :
    map meaning (codes "query a mean 25 55" ∷ codes " query\ta mean 00 4611686018427387904 " ∷ codes "series a mean 0 100 25" ∷ codes "estimate a mean 5 4"
    ∷ codes "estimates a mean 1 0 1" ∷ [])
    ≡ Ok (Some (asked kinds.Mean 25 55)) ∷ Ok (Some (asked kinds.Mean 0 4611686018427387904)) ∷ Ok (Some (asked_in_rows kinds.Mean 0 100 25))
    ∷ Ok (Some (asked kinds.MeanGuess 5 4)) ∷ Ok (Some (asked_in_rows kinds.MeanGuess 1 0 1)) ∷ []
unfolding meaning words is_number number_of number_up_to signed_of is_name
means-mean = refl

-- each end of one is certified
means-mean_certified :
    map meaning (codes "certify a mean lo 0 100" ∷ codes "certify a mean hi 25 55" ∷ [])
    ≡ Ok (Some (commands.Certify (record { name = codes "a"; kind = kinds.Mean; from = 0; to = 100 }) ends.Lo))
    ∷ Ok (Some (commands.Certify (record { name = codes "a"; kind = kinds.Mean; from = 25; to = 55 }) ends.Hi)) ∷ []
unfolding meaning words is_number number_of number_up_to signed_of is_name
means-mean_certified = refl

-- the order of the refusals is that of a sum
means-mean_refused :
    map meaning (codes "query a mean 1" ∷ codes "query a mean 1 2 3" ∷ codes "query a Mean 0 9" ∷ codes "query a means 0 9" ∷ codes "query a mean x 9"
    ∷ codes "query a! mean 9 4" ∷ codes "series a mean 0 9" ∷ codes "series a mean 0 100000 1" ∷ codes "series x! mean 9 0 0" ∷ codes "series x! mean 9 0 1"
    ∷ codes "estimate a mean 1" ∷ codes "estimate a! mean x 9" ∷ codes "estimates a mean 0 9" ∷ codes "estimates a! mean 0 9 0" ∷ [])
    ≡ map refused (refusals.Syntax ∷ refusals.Syntax ∷ refusals.Syntax ∷ refusals.Syntax ∷ refusals.Number ∷ refusals.Name ∷ refusals.Syntax
    ∷ refusals.Number ∷ refusals.Number ∷ refusals.Name ∷ refusals.Syntax ∷ refusals.Number ∷ refusals.Syntax ∷ refusals.Number ∷ [])
unfolding meaning words is_number number_of number_up_to signed_of is_name
means-mean_refused = refl

means-mean_uncertified :
    map meaning (codes "certify a mean 0 9" ∷ codes "certify a mean mid 0 9" ∷ codes "certify a mean lo 0 4611686018427387905"
    ∷ codes "certify a! mean lo 9 0" ∷ codes "certify x! mean lo y 2" ∷ [])
    ≡ map refused (refusals.Syntax ∷ refusals.Syntax ∷ refusals.Number ∷ refusals.Name ∷ refusals.Number ∷ [])
unfolding meaning words is_number number_of number_up_to signed_of is_name
means-mean_uncertified = refl

printed-mean :
    map printed (asked kinds.Mean 25 55 ∷ asked_in_rows kinds.Mean 0 100 25 ∷ asked kinds.MeanGuess 5 4 ∷ asked_in_rows kinds.MeanGuess 1 0 1
    ∷ commands.Certify (record { name = codes "a"; kind = kinds.Mean; from = 0; to = 4611686018427387904 }) ends.Hi ∷ [])
    ≡ codes "query a mean 25 55" ∷ codes "series a mean 0 100 25" ∷ codes "estimate a mean 5 4" ∷ codes "estimates a mean 1 0 1"
    ∷ codes "certify a mean hi 0 4611686018427387904" ∷ []
unfolding printed digits
printed-mean = refl
