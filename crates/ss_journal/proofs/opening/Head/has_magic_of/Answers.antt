use Rattle.ss_journal.proofs.Common.{ℕ, List, drop, take, nat_eq, ap, ◌∙◌, arith, length-drop, take_all, magic}
use Rattle.std.specs.List.{starts_with}
use Rattle.ss_journal.proofs.HeaderLemmas.{has_magic_of-head}
use Rattle.ss_journal.proofs.opening.Head.has_magic_of.Goals as goal

pub returns : goal.returns
returns c image head =
    let bytes = c.args.self.now.bytes in
    c.starts_with.ensures.value ∙ ap (starts_with nat_eq (take 8 (drop 1 bytes))) c.magic.ensures
    ∙ ap (λ (l : List ℕ). starts_with nat_eq l (magic c.args.kind)) (take_all 8 (drop 1 bytes) (simp length-drop (omega (arith, head.nine))))
    ∙ has_magic_of-head c.args.self.now.length bytes image head c.args.kind
