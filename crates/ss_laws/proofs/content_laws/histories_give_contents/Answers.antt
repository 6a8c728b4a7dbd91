use Rattle.std.proofs.Common.{◌≡◌, refl}
use Rattle.ss_model.proofs.ReadLemmas.{All-state}
use Rattle.ss_laws.specs.Contents.{contents_of, own_windows}
use Rattle.ss_laws.proofs.ContentsLemmas.{AreContents-contents_of}
use Rattle.ss_laws.proofs.content_laws.histories_give_contents.Goals as goal

pub returns-clause-sound : goal.returns-clause-sound
returns-clause-sound c = AreContents-contents_of

pub returns-clause-windows : goal.returns-clause-windows
returns-clause-windows c history = All-state (λ s. own_windows (contents_of history s) ≡ s.windows) history (λ s. refl)

pub returns-clause-landmarks : goal.returns-clause-landmarks
returns-clause-landmarks c history = All-state (λ s. (contents_of history s).landmarks ≡ s.landmarks) history (λ s. refl)
