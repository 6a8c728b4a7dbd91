use Rattle.ss_recover.proofs.Common.{◌∙◌, ◌≡◌, Found, recursion_from_All, stream_of, sym, without_slots}
use Rattle.ss_recover.proofs.MarkConditions.{are_marks-own}
use Rattle.ss_parts.proofs.Lists.{map-all}
use Rattle.ss_recover.proofs.marking.are_marks.Goals as goal

pub returns : goal.returns
returns c =
    let all = c.args.found.now in
    c.meet_all.ensures ∙ sym (are_marks-own c.args.id (without_slots all) (map-all (λ r. stream_of r ≡ c.args.id) (λ (f : Found). f.holds) all
    (recursion_from_All (λ (f : Found). stream_of f.holds ≡ c.args.id) all c.requires.own)))
