-- What counts after a closed first gate.
use Rattle.ss_journal.proofs.Common.{IsTrue, List, ℕ, is_born, IsClosed, SameMap, SlotMap, StandsFor, file_map}
use Rattle.ss_journal.proofs.RedoLemmas.{StandsFor-from, redo-first_closed}

-- with the first gate closed the file alone gives the map
pub file_map-first_closed : (content : List ℕ) (found : SlotMap) → IsTrue (is_born content) → IsClosed 0 content → StandsFor content found
    → SameMap (file_map content) found
file_map-first_closed content found born closed is = rw (redo-first_closed content born closed).0 at is

pub StandsFor-first_closed : (image : List ℕ) (found : SlotMap) → IsTrue (is_born image) → IsClosed 0 image → SameMap (file_map image) found
    → StandsFor image found
StandsFor-first_closed image found born closed same = StandsFor-from image (file_map image) found (redo-first_closed image born closed).0 same
