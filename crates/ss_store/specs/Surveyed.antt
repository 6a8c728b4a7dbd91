-- What a survey says of a state.
use Rattle.std.specs.Prelude.{◌≡◌, ℕ, List, length, sum_by, Result, Ok, Err, ⊤}
use Rattle.ss_landmarks.specs.Landmark.{all_values}
use Rattle.ss_model.specs.State.{Stream}
use Rattle.ss_store.specs.Recover.{recover, Recovers, no_store, damaged_entry, damaged_slot, damaged_stream}
use Rattle.ss_store.specs.declared.error.OpenError.{OpenError}
use Rattle.ss_store.specs.declared.error.OpenError.TheVariants as opening
use Rattle.ss_store.specs.declared.surveying.Survey.{Survey}

-- how many streams, windows, landmarks and values of landmarks a state has
abbrev pub survey_of : List Stream → Survey
survey_of streams = record {
  streams = length streams;
  windows = sum_by (λ (s : Stream). length s.windows) streams;
  landmarks = sum_by (λ (s : Stream). length s.landmarks) streams;
  values = sum_by (λ (s : Stream). length (all_values s.landmarks)) streams;
}

-- What surveying a content answers: what is said of the state that it recovers to, or why it recovers to none.
abbrev pub SurveysAs : List ℕ → Result Survey OpenError → Type 0
SurveysAs content (Ok survey) = (streams : List Stream) × Recovers streams content × (survey ≡ survey_of streams)
SurveysAs content (Err opening.Disk) = ⊤
SurveysAs content (Err opening.NotAStore) = recover content ≡ no_store
SurveysAs content (Err (opening.BadEntry n)) = recover content ≡ damaged_entry n
SurveysAs content (Err (opening.BadSlot n)) = recover content ≡ damaged_slot n
SurveysAs content (Err (opening.BadStream id)) = recover content ≡ damaged_stream id
SurveysAs content (Err opening.OutOfMemory) = ⊤
SurveysAs content (Err (opening.Changed slot)) = ⊥
