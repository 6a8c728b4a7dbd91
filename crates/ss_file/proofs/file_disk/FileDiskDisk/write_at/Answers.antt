use Rattle.std.proofs.Common.{◌∙◌, string_bytes}
use Rattle.ss_outside.specs.Verdict.{Rose}
use Rattle.ss_file.specs.Reason.{IsOwn}
use Rattle.ss_file.proofs.WhyLemmas.{TellsWhy-judged}
use Rattle.ss_file.proofs.file_disk.FileDiskDisk.write_at.Goals as goal

pub returns-clause-caused : goal.returns-clause-caused
returns-clause-caused g c none =
    let old = c.args.self.now in
    let new = c.try_write-answer.new.self in
    let ends = c.try_write-answer.ensures.ends in
    let judged = c.judge.ensures in
    TellsWhy-judged (Rose (g.S.System.faults old.system) (g.S.System.faults new.system))
    (IsOwn (string_bytes old.path) new.opened (g.S.System.holds new.system) (g.S.System.fits new.system))
    c.try_write-answer.result c.judge.result new.faults c.judge.new.faults new.why c.judge.new.why judged.fails judged.tells judged.keeps judged.cause
    c.try_write-answer.ensures.blames (c.try_write-answer.ensures.own none.0) (ends.faults ∙ none.0, ends.why ∙ none.1)
