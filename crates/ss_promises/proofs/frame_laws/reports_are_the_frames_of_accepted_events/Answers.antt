use Rattle.ss_program.proofs.Common.{refl, Frames, begun}
use Rattle.ss_promises.proofs.FollowedLemmas.{accepted-undropped, text_of-frames}
use Rattle.ss_promises.proofs.frame_laws.reports_are_the_frames_of_accepted_events.Goals as goal

pub returns-clause-written : goal.returns-clause-written
returns-clause-written c history ls = text_of-frames (begun Frames history) ls refl

pub returns-clause-undropped : goal.returns-clause-undropped
returns-clause-undropped c history ls = accepted-undropped (begun Frames history) ls refl
