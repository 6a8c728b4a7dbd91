-- What is said of a store that is sound.
use Rattle.std.specs.Prelude.{◌≡◌, ℕ, List, [], ◌∷◌, ◌++◌, codes, Option}
use Rattle.std.specs.Fmt.{decimal}
use Rattle.ss_model.specs.State.{Stream}
use Rattle.ss_outside.specs.Crash.{OnlyReads}
use Rattle.ss_outside.specs.Disk.{Told}
use Rattle.ss_store.specs.Recover.{Recovers}
use Rattle.ss_store.specs.Surveyed.{survey_of}
use Rattle.ss_store.specs.declared.surveying.Survey.{Survey}
use Rattle.ss_program.specs.Sent.{appended, AppendsFront}
use Rattle.ss_program.specs.declared.status.Status.{Status}
use Rattle.ss_program.specs.declared.status.Status.TheVariants.{Done, SinkFault}

-- a word and a number, after a space each
abbrev pub and_number : List ℕ → ℕ → List ℕ
and_number word number = 32 ∷ word ++ 32 ∷ decimal number

-- the line of a survey
abbrev pub survey_line : Survey → List ℕ
survey_line survey =
    codes "sound"
    ++ and_number (codes "streams") survey.streams
    ++ and_number (codes "windows") survey.windows
    ++ and_number (codes "landmarks") survey.landmarks
    ++ and_number (codes "values") survey.values
    ++ 10 ∷ []

-- What a check says of a content that recovers to these streams. The sink's new bytes are a front of the line, and all of it where
-- the check is done; there are none unless it is done or the sink failed.
pub record Checks (streams : List Stream) (before after : Option (List ℕ)) (status : Status) : Type 0 where
  pub front : AppendsFront before after (survey_line (survey_of streams))
  pub whole : status ≡ Done → after ≡ appended before (survey_line (survey_of streams))
  pub silent : (status ≡ Done → ⊥) → (status ≡ SinkFault → ⊥) → after ≡ before

-- for the streams that the content recovers to
abbrev pub ChecksContent : Option (List ℕ) → Option (List ℕ) → Status → List ℕ → Type 0
ChecksContent before after status content = (streams : List Stream) → Recovers streams content → Checks streams before after status

-- A check writes nothing, and says what the content holds.
pub record ChecksStore (before after : Option (List ℕ)) (status : Status) (old new : Told) : Type 0 where
  pub unwritten : OnlyReads old new
  pub says : ChecksContent before after status old.content
