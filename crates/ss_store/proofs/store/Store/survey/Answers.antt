use Rattle.ss_store.proofs.Common.{◌≤◌, arith, length, flat_map, MOST_SLOTS, slots_held, err_from_is_err_and, step-as}
use Rattle.ss_store.proofs.LiveCounts.{live_count-beside}
use Rattle.ss_store.proofs.SurveyAnswers.{SurveysAs-error, SurveysAs-rebuilt}
use Rattle.ss_store.proofs.store.Store.survey.Goals as goal

pub surveyed_in-requires-clause-few : goal.surveyed_in-requires-clause-few
surveyed_in-requires-clause-few g c =
    let parts = c.in_ok-records.parts.streams.items in
    let slots = live_count-beside c.in_ok-records.parts.doomed.items parts c.in_ok-records.records.live c.in_ok-records.ensures.whole in
    let few : length (flat_map slots_held parts) ≤ MOST_SLOTS = omega (arith, slots, c.live-live.ensures.value, c.live-live.ensures.most) in
    rw c.deref.ensures.value few

pub returns-in_err-records-clause-surveys : goal.returns-in_err-records-clause-surveys
returns-in_err-records-clause-surveys g c =
    let why = c.in_err-records.field-0.0 in
    let p = err_from_is_err_and c.from_residual.result c.from_residual.ensures.1 in
    rw (p.1, p.2) (step-as c.in_err-records.ensures.reads (λ read. record { surveys = SurveysAs-error _ why read.opens; reads = read.reads }))

pub returns-clause-surveys : goal.returns-clause-surveys
returns-clause-surveys g c =
    step-as c.in_ok-records.ensures.reads (λ read. record {
      surveys = SurveysAs-rebuilt c.in_ok-records.parts.doomed.items c.deref.result.now _ c.surveyed_in.result (rw c.deref.ensures.value read.rebuilt)
          c.surveyed_in.ensures;
      reads = read.reads;
    })
