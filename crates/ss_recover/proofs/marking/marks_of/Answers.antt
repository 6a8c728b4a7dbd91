use Rattle.ss_recover.proofs.Common.{AreMade, None, subst, sym}
use Rattle.ss_landmarks.specs.Landmarks.{LandmarksState}
use Rattle.ss_recover.proofs.MarkLaws.{all-may-come, MayAllCome}
use Rattle.ss_recover.proofs.marking.marks_of.Goals as goal

pub loop-one-init : goal.loop-one-init
loop-one-init c =
    let all = c.args.found.now in
    subst (λ (s : LandmarksState). MayAllCome (AreMade c.args.id all)
    (record { landmarks = s.landmarks; slots = s.slots; value_slots = s.value_slots; finish = None; latest = None }) all) (sym c.new.ensures)
    (all-may-come c.args.id all c.requires.few c.requires.sound c.requires.own c.requires.usable)
