-- The order in which the records of streams are taken.
use Rattle.std.specs.Prelude.{ℕ, ◌+◌, ◌*◌, ◌^◌, ◌≤◌, List, [], ◌∷◌, ⊤}
use Rattle.std.specs.List.{AllByRecursion}
use Rattle.ss_codec.specs.declared.record.Record.{Record}
use Rattle.ss_codec.specs.declared.record.Record.TheVariants.{Free, Stream, Window, Landmark, Value}
use Rattle.ss_recover.specs.declared.found.Found.{Found}

-- the number of the stream that a record is of
abbrev pub stream_of : Record → ℕ
stream_of Free = 0
stream_of (Stream id name params dropped) = id
stream_of (Window id first summary) = id
stream_of (Landmark id number values start finish) = id
stream_of (Value id number index t v) = id

-- the place of a record among those of its stream: the stream's own record is first. Then come the landmarks by their numbers, each
-- with its values by their indexes, in places of 64 bits; and then the windows by their first positions.
abbrev pub place_of : Record → ℕ
place_of Free = 0
place_of (Stream id name params dropped) = 0
place_of (Landmark id number values start finish) = number * 2 ^ 32
place_of (Value id number index t v) = number * 2 ^ 32 + index
place_of (Window id first summary) = 2 ^ 64 + first

-- a number that orders records by their streams, and those of one stream by their places, which have 65 bits
abbrev pub key_of : Record → ℕ
key_of r = stream_of r * 2 ^ 65 + place_of r

-- the key of a record that was found
abbrev pub found_key : Found → ℕ
found_key f = key_of f.holds

-- keys don't fall: each is at most those after it
abbrev pub Rises : {X : Type 0} → (X → ℕ) → List X → Type 0
Rises key [] = ⊤
Rises key (x ∷ xs) = AllByRecursion (λ y. key x ≤ key y) xs × Rises key xs
