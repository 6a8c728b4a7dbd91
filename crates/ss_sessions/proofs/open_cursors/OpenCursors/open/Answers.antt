use Rattle.std.proofs.Common.{◌≡◌, ◌∙◌, ◌<◌, true, false, Err, Ok, Some, length, arith, refl, sym, ap, subst, rules}
use Rattle.std.specs.Prelude.{is_some, slice_set}
use Rattle.ss_outside.proofs.CrashLemmas.{reads-none}
use Rattle.ss_outside.specs.Step.{Step}
use Rattle.ss_records.specs.Kept.{shown_by}
use Rattle.ss_store.specs.Kept.{part_named}
use Rattle.ss_store.proofs.KeptStates.{AllAgree-recovered}
use Rattle.ss_store.proofs.FoundAlike.{found_alike}
use Rattle.ss_sessions.specs.Cursors.{cursor_of, refuses_cursor}
use Rattle.ss_sessions.specs.Errors.{verdict_of_cursor}
use Rattle.ss_sessions.specs.Opened.{OpensCursor, refuses_cursor_held}
use Rattle.ss_sessions.specs.declared.error.CursorRefusal.TheVariants.{Unknown, Busy}
use Rattle.ss_sessions.proofs.CursorLemmas.{cursor_of-with_cursor, err-alike, exactly-refused, exactly-unrefused, is_some-cursor_of, opened-alike, refused-busy}
use Rattle.ss_sessions.proofs.CursorLemmas.{refused-unknown, refuses_cursor-held, unrefused}
use Rattle.ss_sessions.proofs.open_cursors.OpenCursors.open.Goals as goal

pub returns-in_default-clause-opens : goal.returns-in_default-clause-opens
unfolding refuses_cursor_held
returns-in_default-clause-opens g c =
    let disk = g.D.Disk.seen c.args.disk.now in
    let store = c.args.store.now in
    let name = c.args.name.now in
    let cursor = cursor_of c.args.self.now c.args.session in
    let first = refused-unknown (part_named name store.streams) cursor (λ part. part.id) (sym c.in_default.is ∙ c.find.ensures.number) in
    record {
      tells = refl;
      counted = refl;
      told = λ told. record {
        opened = λ streams is. tt;
        refused = λ streams is.
            let agree = (AllAgree-recovered store (shown_by store.records disk.told.content) streams (c.requires.one_disk told).shown is).0 in
            exactly-refused Unknown (refuses_cursor streams name cursor) _ refl (refuses_cursor-held store.streams streams name cursor agree ∙ first);
        reads = reads-none disk.told;
      };
    }

pub returns-in_default-clause-refused : goal.returns-in_default-clause-refused
unfolding refuses_cursor_held
returns-in_default-clause-refused g c =
    let name = c.args.name.now in
    let cursor = cursor_of c.args.self.now c.args.session in
    exactly-refused Unknown (refuses_cursor_held c.args.store.now.streams name cursor) _ refl
    (refused-unknown (part_named name c.args.store.now.streams) cursor (λ part. part.id) (sym c.in_default.is ∙ c.find.ensures.number))

pub returns-then-is_some-clause-opens : goal.returns-then-is_some-clause-opens
unfolding refuses_cursor_held
returns-then-is_some-clause-opens g c =
    let disk = g.D.Disk.seen c.args.disk.now in
    let store = c.args.store.now in
    let name = c.args.name.now in
    let cursor = cursor_of c.args.self.now c.args.session in
    let inside : c.args.session < length c.self.inside.cursors = omega (arith, c.requires.session, c.self.invariant) in
    let some : is_some cursor ≡ true =
    subst (λ cs. is_some (cursor_of cs c.args.session) ≡ true) c.self.view_is
    (sym (is_some-cursor_of c.self.inside.cursors c.args.session c.index-self-session.result inside) ∙ sym c.if-is_some.ensures) in
    let first = refused-busy (part_named name store.streams) cursor (λ part. part.id) c.in-Some.id c.in-Some.ensures.number some in
    record {
      tells = refl;
      counted = refl;
      told = λ told. record {
        opened = λ streams is. tt;
        refused = λ streams is.
            let agree = (AllAgree-recovered store (shown_by store.records disk.told.content) streams (c.requires.one_disk told).shown is).0 in
            exactly-refused Busy (refuses_cursor streams name cursor) _ refl (refuses_cursor-held store.streams streams name cursor agree ∙ first);
        reads = reads-none disk.told;
      };
    }

pub returns-then-is_some-clause-refused : goal.returns-then-is_some-clause-refused
unfolding refuses_cursor_held
returns-then-is_some-clause-refused g c =
    let store = c.args.store.now in
    let name = c.args.name.now in
    let cursor = cursor_of c.args.self.now c.args.session in
    let inside : c.args.session < length c.self.inside.cursors = omega (arith, c.requires.session, c.self.invariant) in
    let some : is_some cursor ≡ true =
    subst (λ cs. is_some (cursor_of cs c.args.session) ≡ true) c.self.view_is
    (sym (is_some-cursor_of c.self.inside.cursors c.args.session c.index-self-session.result inside) ∙ sym c.if-is_some.ensures) in
    exactly-refused Busy (refuses_cursor_held store.streams name cursor) _ refl
    (refused-busy (part_named name store.streams) cursor (λ part. part.id) c.in-Some.id c.in-Some.ensures.number some)

pub returns-in_err-cursor-clause-opens : goal.returns-in_err-cursor-clause-opens
unfolding refuses_cursor_held
returns-in_err-cursor-clause-opens g c =
    let old = g.D.Disk.seen c.args.disk.now in
    let new = g.D.Disk.seen c.copy.new.disk in
    let store = c.args.store.now in
    let name = c.args.name.now in
    let cursor = cursor_of c.args.self.now c.args.session in
    let e = c.in_err-cursor.field-0.0 in
    let same : c.from_residual.result ≡ Err e = search rules in
    let inside : c.args.session < length c.self.inside.cursors = omega (arith, c.requires.session, c.self.invariant) in
    let free : is_some cursor ≡ false =
    subst (λ cs. is_some (cursor_of cs c.args.session) ≡ false) c.self.view_is
    (sym (is_some-cursor_of c.self.inside.cursors c.args.session c.index-self-session.result inside) ∙ sym c.if-is_some.ensures) in
    let first = unrefused (part_named name store.streams) cursor (λ part. part.id) c.in-Some.id c.in-Some.ensures.number free in
    let copies = c.in_err-cursor.ensures.copies in
    subst (λ r. Step (verdict_of_cursor r) old new (OpensCursor store.records c.args.session name c.args.self.now c.args.self.now r)) (sym same) (record {
      tells = copies.tells;
      counted = copies.counted;
      told = λ told. record {
        opened = λ streams is. tt;
        refused = λ streams is.
            let agree = (AllAgree-recovered store (shown_by store.records old.told.content) streams (c.requires.one_disk told).shown is).0 in
            exactly-unrefused (refuses_cursor streams name cursor) (Err e) (λ r is. c.in_err-cursor.ensures.unrefused r (err-alike e r is))
            (refuses_cursor-held store.streams streams name cursor agree ∙ first);
        reads = (copies.told told).reads;
      };
    })

pub returns-in_err-cursor-clause-refused : goal.returns-in_err-cursor-clause-refused
unfolding refuses_cursor_held
returns-in_err-cursor-clause-refused g c =
    let store = c.args.store.now in
    let name = c.args.name.now in
    let cursor = cursor_of c.args.self.now c.args.session in
    let e = c.in_err-cursor.field-0.0 in
    let same : c.from_residual.result ≡ Err e = search rules in
    let inside : c.args.session < length c.self.inside.cursors = omega (arith, c.requires.session, c.self.invariant) in
    let free : is_some cursor ≡ false =
    subst (λ cs. is_some (cursor_of cs c.args.session) ≡ false) c.self.view_is
    (sym (is_some-cursor_of c.self.inside.cursors c.args.session c.index-self-session.result inside) ∙ sym c.if-is_some.ensures) in
    exactly-unrefused (refuses_cursor_held store.streams name cursor) c.from_residual.result
    (λ r is. c.in_err-cursor.ensures.unrefused r (err-alike e r (sym same ∙ is)))
    (unrefused (part_named name store.streams) cursor (λ part. part.id) c.in-Some.id c.in-Some.ensures.number free)

pub returns-clause-opens : goal.returns-clause-opens
unfolding refuses_cursor_held
returns-clause-opens g c =
    let old = g.D.Disk.seen c.args.disk.now in
    let store = c.args.store.now in
    let name = c.args.name.now in
    let cursor = cursor_of c.args.self.now c.args.session in
    let inside : c.args.session < length c.self.inside.cursors = omega (arith, c.requires.session, c.self.invariant) in
    let free : is_some cursor ≡ false =
    subst (λ cs. is_some (cursor_of cs c.args.session) ≡ false) c.self.view_is
    (sym (is_some-cursor_of c.self.inside.cursors c.args.session c.index-self-session.result inside) ∙ sym c.if-is_some.ensures) in
    let first = unrefused (part_named name store.streams) cursor (λ part. part.id) c.in-Some.id c.in-Some.ensures.number free in
    let copies = c.in_ok-cursor.ensures.copies in
    record {
      tells = copies.tells;
      counted = copies.counted;
      told = λ told. record {
        opened = λ streams is.
            let agree = (AllAgree-recovered store (shown_by store.records old.told.content) streams (c.requires.one_disk told).shown is).0 in
            let found = found_alike store.streams streams name c.in-Some.id (part_named name store.streams) agree refl c.in-Some.ensures.number
            c.in-Some.ensures.same in
            opened-alike c.args.self.now c.self.inside.cursors c.args.session name c.in-Some.id.0 streams c.in_ok-cursor.cursor found.0 c.self.view_is
            found.1 found.2 ((copies.told told).rows streams is);
        refused = λ streams is.
            let agree = (AllAgree-recovered store (shown_by store.records old.told.content) streams (c.requires.one_disk told).shown is).0 in
            exactly-unrefused (refuses_cursor streams name cursor) (Ok c.left-count.result) (λ r is. cc)
            (refuses_cursor-held store.streams streams name cursor agree ∙ first);
        reads = (copies.told told).reads;
      };
    }

pub returns-clause-opened : goal.returns-clause-opened
returns-clause-opened g c =
    let inside : c.args.session < length c.self.inside.cursors = omega (arith, c.requires.session, c.self.invariant) in
    record {
      rows = c.in_ok-cursor.cursor;
      count = c.left-count.ensures;
      cursors = ap (λ cs. slice_set cs c.args.session (Some c.in_ok-cursor.cursor)) c.self.view_is;
      cursor = cursor_of-with_cursor c.self.inside.cursors c.args.session (Some c.in_ok-cursor.cursor) inside;
    }

pub returns-clause-refused : goal.returns-clause-refused
unfolding refuses_cursor_held
returns-clause-refused g c =
    let store = c.args.store.now in
    let name = c.args.name.now in
    let cursor = cursor_of c.args.self.now c.args.session in
    let inside : c.args.session < length c.self.inside.cursors = omega (arith, c.requires.session, c.self.invariant) in
    let free : is_some cursor ≡ false =
    subst (λ cs. is_some (cursor_of cs c.args.session) ≡ false) c.self.view_is
    (sym (is_some-cursor_of c.self.inside.cursors c.args.session c.index-self-session.result inside) ∙ sym c.if-is_some.ensures) in
    exactly-unrefused (refuses_cursor_held store.streams name cursor) (Ok c.left-count.result) (λ r is. cc)
    (unrefused (part_named name store.streams) cursor (λ part. part.id) c.in-Some.id c.in-Some.ensures.number free)
