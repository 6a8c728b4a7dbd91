use Rattle.std.proofs.Common.{◌≤◌, length, sym, ap, ◌∙◌, subst, arith}
use Rattle.ss_outside.specs.Disk.{overwrite}
use Rattle.ss_outside.specs.MemDisk.{MemDiskState, now, replay, fresh}
use Rattle.ss_outside.specs.Past.{PastState}
use Rattle.ss_outside.proofs.MemDiskLemmas.{kept_tore, kept_wrote, spare-wrote}
use Rattle.ss_outside.proofs.mem_disk.MemDisk.write.Goals as goal

pub invariant_of-self-in_default-tear : goal.invariant_of-self-in_default-tear
invariant_of-self-in_default-tear c =
    let kept = kept_tore _ _ c.tear.new.self.calls _ c.self.invariant.1 c.args.at (length c.args.bytes.now)
    (ap (λ (p : PastState). p.calls) c.in_default-tear.ensures.added) c.self.invariant.0 in
    (kept.0, kept.1, omega (arith, c.self.invariant.2, ap (λ (p : PastState). p.spare_bytes) c.in_default-tear.ensures.added))

pub returns-in_default-tear-clause-sound : goal.returns-in_default-tear-clause-sound
returns-in_default-tear-clause-sound c = (invariant_of-self-in_default-tear c).1

pub invariant_of-self-in_default-write_and_record : goal.invariant_of-self-in_default-write_and_record
invariant_of-self-in_default-write_and_record c =
    let within : c.args.at ≤ length (replay (fresh c.self.inside.start.items) c.self.inside.past.calls).content =
    subst (λ (s : MemDiskState). c.args.at ≤ length (now s).content) (sym (c.self.view_is ∙ c.in_default.ensures.answered)) c.requires.within in
    let content = c.in_default-write_and_record.ensures.content ∙ ap (λ l. overwrite l c.args.at c.args.bytes.now) c.self.invariant.0 in
    let kept = kept_wrote _ _ c.write_and_record.new.past.calls _ c.self.invariant.1 c.args.at c.args.bytes.now
    (ap (λ (p : PastState). p.calls) c.in_default-write_and_record.ensures.past) content within (λ place lt. omega (arith, c.type_inv.bytes place)) in
    let spare = spare-wrote c.self.inside.bytes.items c.args.bytes.now c.write_and_record.new.content.items c.args.at c.self.inside.past.spare_bytes _ _
    (omega (arith, within, ap length c.self.invariant.0)) c.in_default-write_and_record.ensures.content c.self.invariant.2
    c.in_default-write_and_record.ensures.capacity
    (omega (arith, c.write_and_record.new.content.ok.0, c.write_and_record.new.content.ok.1)) in
    (kept.0, kept.1, omega (arith, spare, ap (λ (p : PastState). p.spare_bytes) c.in_default-write_and_record.ensures.past))

pub returns-clause-sound : goal.returns-clause-sound
returns-clause-sound c = (invariant_of-self-in_default-write_and_record c).1
