use Rattle.ss_program.proofs.Common.{◌∙◌, ◌∷◌, [], Err, Ok, ap, refl, sym, Refused, state, cursor_of, refusal_of, Ordered, step-as}
use Rattle.ss_program.proofs.CursorLemmas.{open-opened, open-refused, open-wants_memory, unrefused-cursor}
use Rattle.ss_sessions.specs.declared.error.CursorError.TheVariants.{Disk, OutOfMemory}
use Rattle.ss_program.proofs.cursors.open_cursor.Goals as goal

pub returns-in-Ok-clause-opens : goal.returns-in-Ok-clause-opens
returns-in-Ok-clause-opens g c =
    let cursors = c.args.sessions.now in
    let session = c.args.session in
    let name = c.args.name.now in
    let opens = c.in-Ok.ensures.opens in
    step-as opens (λ all. record {
      reply = λ history stands.
          let none = unrefused-cursor (state history) name (cursor_of cursors session) (Ok c.in-Ok.count) (all.refused (state history) stands.state)
          (λ r is. cc) in
          open-opened history cursors session name c.open.new.self c.in-Ok.count none (all.opened (state history) stands.state) c.in-Ok.ensures.opened;
      accepted = λ history stands. tt;
      reads = all.reads;
    })

pub returns-in-Err-Refused-clause-opens : goal.returns-in-Err-Refused-clause-opens
returns-in-Err-Refused-clause-opens g c =
    let cursors = c.args.sessions.now in
    let session = c.args.session in
    let name = c.args.name.now in
    let refusal = c.in-Err-Refused.refusal in
    let e = c.in-Err-Refused.field-0-is in
    let opens = rw e at c.in-Err-Refused.ensures.opens in
    record {
      tells = opens.tells;
      counted = opens.counted;
      told = λ told. record {
        reply = λ history stands.
            let why = (((opens.told told).refused (state history) stands.state) refusal).0 refl in
            let brings = open-refused history cursors session name (refusal_of refusal) why in (
              ap (λ (o : Ordered). o.brought.replies) brings ∙ ap (λ r. Refused r ∷ []) (sym c.refusal.ensures),
              ap (λ (o : Ordered). o.cursors) brings ∙ sym c.in-Err-Refused.ensures.unopened,
            );
        accepted = λ history stands. tt;
        reads = (opens.told told).reads;
      };
    }

pub returns-in-Err-OutOfMemory-clause-opens : goal.returns-in-Err-OutOfMemory-clause-opens
returns-in-Err-OutOfMemory-clause-opens g c =
    let cursors = c.args.sessions.now in
    let session = c.args.session in
    let name = c.args.name.now in
    let opens = rw c.in-Err-OutOfMemory.field-0-is at c.in-Err-OutOfMemory.ensures.opens in
    record {
      tells = opens.tells;
      counted = opens.counted;
      told = λ told. record {
        reply = λ history stands. tt;
        accepted = λ history stands.
            open-wants_memory history cursors session name (unrefused-cursor (state history) name (cursor_of cursors session) (Err OutOfMemory)
            ((opens.told told).refused (state history) stands.state) (λ r is. cc));
        reads = (opens.told told).reads;
      };
    }

pub returns-in-Err-Disk-clause-opens : goal.returns-in-Err-Disk-clause-opens
returns-in-Err-Disk-clause-opens g c =
    let cursors = c.args.sessions.now in
    let session = c.args.session in
    let name = c.args.name.now in
    let opens = rw c.in-Err-Disk.field-0-is at c.in-Err-Disk.ensures.opens in
    step-as opens (λ stepped. record {
      reply = λ history stands. tt;
      accepted = λ history stands.
          open-wants_memory history cursors session name (unrefused-cursor (state history) name (cursor_of cursors session) (Err Disk)
          (stepped.refused (state history) stands.state) (λ r is. cc));
      reads = stepped.reads;
    })
