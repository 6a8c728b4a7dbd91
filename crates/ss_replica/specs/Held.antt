-- What is due of a frame by what a store holds, and what an image stands for where it is offered.
use Rattle.std.specs.Prelude.{◌⊎◌, ℕ, List, Option, Some, None}
use Rattle.ss_catalog.specs.Events.{event_name}
use Rattle.ss_model.specs.History.{Happened}
use Rattle.ss_parts.specs.declared.parts.StreamParts.{StreamParts}
use Rattle.ss_store.specs.Events.{events_held}
use Rattle.ss_store.specs.Kept.{part_named}
use Rattle.ss_store.specs.Recover.{Stands}
use Rattle.ss_store.specs.declared.error.ApplyError.TheVariants as apply
use Rattle.ss_frames.specs.Frame.{FrameState}
use Rattle.ss_replica.specs.Offers.{after_offer, due_after}
use Rattle.ss_replica.specs.declared.judging.Due.{Due}

-- how many events a stream has taken, and none where it doesn't stand
abbrev pub events_named : Option StreamParts → ℕ
events_named None = 0
events_named (Some part) = events_held part

-- how many events of a frame's stream are held
abbrev pub events_for : List StreamParts → FrameState → ℕ
events_for parts frame = events_named (part_named (event_name frame.event) parts)

-- what is due of a frame by what is held of the streams
abbrev pub due_held : List StreamParts → FrameState → Due
due_held parts frame = due_after (events_for parts frame) frame.number

-- the image stands for the history, or for that after a frame that is offered
abbrev pub StandsForOffer : List Happened → FrameState → List ℕ → Type 0
StandsForOffer history frame image = Stands history image ⊎ Stands (after_offer history frame) image
