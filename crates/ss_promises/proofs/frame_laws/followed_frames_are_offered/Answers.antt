use Rattle.ss_program.proofs.Common.{◌∙◌, ap, refl, Follow, pieces-frames, after_lines, text_of, begun}
use Rattle.ss_promises.proofs.FollowedLemmas.{followed}
use Rattle.ss_promises.proofs.frame_laws.followed_frames_are_offered.Goals as goal

pub returns-clause-said : goal.returns-clause-said
returns-clause-said c history frames valid =
    ap (text_of (begun Follow history)) (pieces-frames frames valid) ∙ (followed (begun Follow history) history frames refl refl valid).0

pub returns-clause-history : goal.returns-clause-history
returns-clause-history c history frames valid =
    ap (λ ps. (after_lines (begun Follow history) ps).history) (pieces-frames frames valid)
    ∙ (followed (begun Follow history) history frames refl refl valid).1
