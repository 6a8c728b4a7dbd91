-- What surveying a disk answers.
use Rattle.ss_store.proofs.Common.{◌≡◌, ℕ, List, Ok, Err, closed_state, IsState, Stream, AllAgree, StreamParts, OpensAs, IsRebuilt, survey_of, OpenError}
use Rattle.ss_store.proofs.Common.{Survey}
use Rattle.ss_store.specs.Surveyed.{SurveysAs}
use Rattle.ss_store.specs.declared.error.OpenError.TheVariants as opening
use Rattle.ss_store.proofs.Opens.{Recovers-rebuilt}

-- why there is nothing to survey is why there is no store
pub SurveysAs-error : (content : List ℕ) (error : OpenError) → OpensAs content (Err error) → SurveysAs content (Err error)
SurveysAs-error content opening.Disk opens = tt
SurveysAs-error content opening.NotAStore opens = opens
SurveysAs-error content (opening.BadEntry n) opens = opens
SurveysAs-error content (opening.BadSlot n) opens = opens
SurveysAs-error content (opening.BadStream id) opens = opens
SurveysAs-error content opening.OutOfMemory opens = tt
SurveysAs-error content (opening.Changed slot) opens = opens

-- what was rebuilt closes to the state that is surveyed
pub SurveysAs-rebuilt : (slots : List ℕ) (parts : List StreamParts) (content : List ℕ) (survey : Survey) → IsRebuilt slots parts content →
    ((all : List Stream) → IsState all → AllAgree parts all → survey ≡ survey_of (closed_state all)) → SurveysAs content (Ok survey)
SurveysAs-rebuilt slots parts content survey is said =
    (closed_state is.streams, Recovers-rebuilt slots parts content is, said is.streams is.state is.agree)
