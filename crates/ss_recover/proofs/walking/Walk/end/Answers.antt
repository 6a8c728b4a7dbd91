use Rattle.ss_recover.proofs.Common.{◌++◌, ◌∙◌, ap, IsNonDecreasingBy-from_sort, IsPermutation-sym, refl}
use Rattle.ss_recover.proofs.InOrder.{Rises-from_sorted}
use Rattle.ss_recover.proofs.walking.Walk.end.Goals as goal

pub returns-clause-ok : goal.returns-clause-ok
returns-clause-ok c =
    let walk = c.args.self in
    let others = c.sort.new.self.items in
    let heads = c.sort-2.new.self.items in
    record {
      streams = refl;
      others = others;
      heads = heads;
      doomed = c.in_ok-extend_from_slice.ensures.items ∙ ap (λ l. others ++ l) c.deref.ensures.value;
      others_rise = Rises-from_sorted (λ slot. slot) others (IsNonDecreasingBy-from_sort (λ slot. slot) others c.in_ok-sort.ensures.sorted);
      heads_rise = Rises-from_sorted (λ slot. slot) heads (IsNonDecreasingBy-from_sort (λ slot. slot) heads c.in_ok-sort-2.ensures.sorted);
      of_others = IsPermutation-sym walk.others.items others c.sort.ensures.permutation;
      of_heads = IsPermutation-sym walk.heads.items heads c.sort-2.ensures.permutation;
    }
