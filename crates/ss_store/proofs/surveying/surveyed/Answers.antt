use Rattle.ss_store.proofs.Common.{arith}
use Rattle.ss_store.proofs.SurveyedStreams.{AreSurveyed-more, HasCounts-next, survey_of-AreSurveyed}
use Rattle.ss_store.proofs.surveying.surveyed.Goals as goal

pub overflow_add-survey : goal.overflow_add-survey
overflow_add-survey g c =
    let room = (HasCounts-next c.args.streams.now c.loop-part.part-index c.part-item.result c.loop-part.survey c.loop-part.invariant
    c.loop-part-test.true c.part-item.is).slots in
    omega (arith, room, c.requires.few)

pub overflow_add-survey-in-loop-part : goal.overflow_add-survey-in-loop-part
overflow_add-survey-in-loop-part g c =
    let room = (HasCounts-next c.args.streams.now c.loop-part.part-index c.part-item.result c.loop-part.survey c.loop-part.invariant
    c.loop-part-test.true c.part-item.is).slots in
    omega (arith, room, c.requires.few, c.closed_windows.ensures.few)

pub overflow_add-survey-in-loop-part-2 : goal.overflow_add-survey-in-loop-part-2
overflow_add-survey-in-loop-part-2 g c =
    let room = (HasCounts-next c.args.streams.now c.loop-part.part-index c.part-item.result c.loop-part.survey c.loop-part.invariant
    c.loop-part-test.true c.part-item.is).slots in
    omega (arith, room, c.requires.few, c.count.ensures.value, c.count.ensures.state.slots)

pub overflow_add-survey-in-loop-part-3 : goal.overflow_add-survey-in-loop-part-3
overflow_add-survey-in-loop-part-3 g c =
    let room = (HasCounts-next c.args.streams.now c.loop-part.part-index c.part-item.result c.loop-part.survey c.loop-part.invariant
    c.loop-part-test.true c.part-item.is).slots in
    omega (arith, room, c.requires.few, c.values.ensures.value, c.count.ensures.state.value_slots)

pub loop-part-preserved : goal.loop-part-preserved
loop-part-preserved g c =
    rw (c.count.ensures.value, c.values.ensures.value)
    (AreSurveyed-more c.args.streams.now c.loop-part.part-index c.part-item.result c.loop-part.survey c.closed_windows.result c.loop-part.invariant
    c.loop-part-test.true c.part-item.is c.count.ensures.state c.closed_windows.ensures.few c.closed_windows.ensures.windows)

pub returns : goal.returns
returns g c all =
    survey_of-AreSurveyed c.args.streams.now c.loop-part.part-index c.loop-part.survey all c.loop-part.invariant (omega arith)
