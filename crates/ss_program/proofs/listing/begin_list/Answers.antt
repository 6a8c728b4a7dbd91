use Rattle.ss_program.proofs.Common.{◌∙◌, refl, streams-kept}
use Rattle.ss_program.proofs.listing.begin_list.Goals as goal

pub returns : goal.returns
returns c = record {
  brings = λ content kept history stands.
      let count = c.streams.ensures ∙ streams-kept c.args.store.now content history kept stands in
      rw count refl;
  stand = tt;
}
