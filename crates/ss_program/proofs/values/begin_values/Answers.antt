use Rattle.ss_program.proofs.Common.{ap, part_numbered, Brought, command_brings, Values}
use Rattle.ss_program.proofs.ValuesLemmas.{told-refused, told-values, values-begun, values-within}
use Rattle.ss_program.proofs.values.begin_values.Goals as goal

pub returns-in-Err : goal.returns-in-Err
returns-in-Err c = record {
  brings = λ content kept history stands. ap (λ (b : Brought). b.replies)
      (told-refused c.args.store.now content history c.args.name.now c.args.from c.args.to kept stands c.in-Err.refusal c.in-Err.ensures.refused);
  stand = tt;
}

pub returns-in-Ok : goal.returns-in-Ok
returns-in-Ok c =
    let store = c.args.store.now in
    let name = c.args.name.now in
    let range = c.in-Ok.range in
    let part = part_numbered range.id.0 store.streams in
    record {
      brings = λ content kept history stands.
          values-begun part c.args.from c.args.to range (command_brings history (Values name c.args.from c.args.to)) c.in-Ok.ensures.stands
          c.in-Ok.ensures.values
          (told-values store content history name c.args.from c.args.to kept stands range.id.0 c.in-Ok.ensures.accepted c.in-Ok.ensures.same);
      stand = record {
        stands = c.in-Ok.ensures.stands;
        within = values-within part c.args.from c.args.to range c.in-Ok.ensures.values;
        few = c.in-Ok.ensures.few;
      };
    }
