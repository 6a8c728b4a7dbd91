use Rattle.ss_program.proofs.Common.{◌≡◌, ◌+◌, ◌-◌, refl, rules, arith, w64, part_numbered}
use mir.Val.{to_z, of_z}
use Rattle.ss_store.specs.declared.store.values.ValueRange.{ValueRange}
use Rattle.ss_program.proofs.ValuesLemmas.{values-taken}
use Rattle.ss_program.proofs.values.next_value.Goals as goal

pub returns : goal.returns
returns c =
    let range = c.args.range.now in
    let after : ValueRange = record { id = range.id; first = range.first + 1; count = range.count - 1 } in
    let part = part_numbered range.id.0 c.args.store.now.streams in
    let at = c.value-at.result.0 in
    let value = c.value-at.result.1 in
    let is : to_z w64 (of_z w64 value) ≡ value = search rules in
    let same : range.first + 1 + (range.count - 1) ≡ range.first + range.count = omega arith in
    rw is (record {
      row = λ content kept history stands.
          values-taken part range after (record { t = at; v = value }) c.requires.stands c.value-at.ensures refl (omega arith);
      goes_on = record {
        stand = record { stands = c.requires.stands; within = rw same c.requires.within; few = omega (arith, c.requires.few) };
        fewer = omega arith;
      };
    })
