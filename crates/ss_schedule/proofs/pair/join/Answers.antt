use Rattle.std.proofs.Common.{◌∙◌, ◌++◌, ◌∷◌, ap, sym}
use Rattle.ss_line.specs.Line.{entry_at}
use Rattle.ss_line.specs.declared.entry.Entry.{Entry}
use Rattle.ss_schedule.specs.Pairs.{joined_entry}
use Rattle.ss_schedule.proofs.JoinLemmas.{cut-is, entry-joined, joined-is, length-joined, set-is, stands-joined, stands-right}
use Rattle.ss_schedule.proofs.pair.join.Goals as goal

pub cut_out-next-requires : goal.cut_out-next-requires
cut_out-next-requires g c = stands-right _ _ _ c.requires.neighbours

pub get-window-requires : goal.get-window-requires
get-window-requires g c =
    let it = c.requires.neighbours in stands-joined _ _ _ it c.cut_out-next.new.self.entries it.window (c.cut_out-next.ensures.entries ∙ cut-is _ _ _ it)

pub set-requires : goal.set-requires
set-requires g c =
    let it = c.requires.neighbours in stands-joined _ _ _ it c.cut_out-next.new.self.entries it.window (c.cut_out-next.ensures.entries ∙ cut-is _ _ _ it)

pub returns-clause-joined : goal.returns-clause-joined
returns-clause-joined g c it =
    let joined = joined_entry c.get-window.result c.cut_out-next.result in
    let was = c.cut_out-next.ensures.entries ∙ cut-is _ _ _ it in
    let read = ap (λ es. entry_at es c.args.pair.left) (sym c.cut_out-next.ensures.entries) ∙ c.get-window.ensures.entry in
    let same = joined-is _ _ _ it c.get-window.result c.cut_out-next.result read c.cut_out-next.ensures.entry in
    c.set.ensures.entries ∙ set-is _ _ _ it c.cut_out-next.new.self.entries joined was ∙
    ap (λ (e : Entry). it.before ++ (c.args.pair.left, e) ∷ it.rest) same

pub returns-clause-entry : goal.returns-clause-entry
returns-clause-entry g c =
    let it = c.requires.neighbours in
    let joined = joined_entry c.get-window.result c.cut_out-next.result in
    entry-joined _ _ _ it c.set.new.self.entries joined
    (c.set.ensures.entries ∙ set-is _ _ _ it c.cut_out-next.new.self.entries joined (c.cut_out-next.ensures.entries ∙ cut-is _ _ _ it))

pub returns-clause-stands : goal.returns-clause-stands
returns-clause-stands g c =
    let it = c.requires.neighbours in
    let joined = joined_entry c.get-window.result c.cut_out-next.result in
    stands-joined _ _ _ it c.set.new.self.entries joined
    (c.set.ensures.entries ∙ set-is _ _ _ it c.cut_out-next.new.self.entries joined (c.cut_out-next.ensures.entries ∙ cut-is _ _ _ it))

pub returns-clause-fewer : goal.returns-clause-fewer
returns-clause-fewer g c =
    let it = c.requires.neighbours in
    let joined = joined_entry c.get-window.result c.cut_out-next.result in
    length-joined _ _ _ it c.set.new.self.entries joined
    (c.set.ensures.entries ∙ set-is _ _ _ it c.cut_out-next.new.self.entries joined (c.cut_out-next.ensures.entries ∙ cut-is _ _ _ it))
