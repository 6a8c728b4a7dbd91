use Rattle.ss_stream.proofs.Common.{◌+◌, arith, refl, rules}
use Rattle.ss_codec.proofs.RecordLemmas.{is_valid-IsLandmark, is_valid-IsValue}
use Rattle.ss_stream.proofs.marking.mark_record.Goals as goal
use Rattle.ss_stream.proofs.OpenMarks.{HasOpen-can, closes, count-has, few-marks, open-has, start-has, takes}

pub overflow_add-result-in-Value : goal.overflow_add-result-in-Value
overflow_add-result-in-Value c =
    let few = few-marks c.args.part.now c.count-number.ensures.state c.requires.few in
    omega (arith, few.1, c.open_figures-start.ensures.values)

pub returns-in-Open-clause-valid : goal.returns-in-Open-clause-valid
returns-in-Open-clause-valid c =
    let few = few-marks c.args.part.now c.count-number.ensures.state c.requires.few in
    is_valid-IsLandmark c.number_of-id.result (c.count-number.result + 1) 0 c.args.t _ c.number_of-id.type_inv (omega arith)
    (omega (arith, few.0, c.count-number.ensures.value)) (refl, c.requires.time)

pub returns-in-Value-clause-valid : goal.returns-in-Value-clause-valid
returns-in-Value-clause-valid c =
    let ls = c.args.part.now.landmarks.landmarks in
    let few = few-marks c.args.part.now c.count-number.ensures.state c.requires.few in
    let has = HasOpen-can (takes c.args.t) ls c.count-number.ensures.state.order (rw c.in-Value.is at c.requires.can) in
    is_valid-IsValue c.number_of-id.result c.count-number.result (c.open_figures-start.result.1 + 1) c.args.t _ c.number_of-id.type_inv
    (omega (arith, count-has ls has, c.count-number.ensures.value)) c.count-number.type_inv (omega arith)
    (omega (arith, few.1, c.open_figures-start.ensures.values)) c.requires.time (search rules)

pub returns-in-Close-clause-valid : goal.returns-in-Close-clause-valid
returns-in-Close-clause-valid c =
    let ls = c.args.part.now.landmarks.landmarks in
    let few = few-marks c.args.part.now c.count-number.ensures.state c.requires.few in
    let can = rw c.in-Close.is at c.requires.can in
    let has = HasOpen-can (closes c.args.t) ls c.count-number.ensures.state.order can in
    let at = open-has (closes c.args.t) 0 ls has can in
    is_valid-IsLandmark c.number_of-id.result c.count-number.result c.open_figures-start.result.1 c.open_figures-start.result.0 _ c.number_of-id.type_inv
    (omega (arith, count-has ls has, c.count-number.ensures.value)) c.count-number.type_inv
    (omega (arith, few.1, c.open_figures-start.ensures.values), omega (arith, at.0, start-has ls has, c.open_figures-start.ensures.start), c.requires.time)
