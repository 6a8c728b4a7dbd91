use Rattle.ss_store.proofs.SurveyedStreams.{AreSurveyed}
use Rattle.ss_store.proofs.surveying.surveyed.Given as goal

abbrev pub invariant-loop-part : goal.invariant-loop-part
invariant-loop-part g l = AreSurveyed l.streams l.part-index l.survey
