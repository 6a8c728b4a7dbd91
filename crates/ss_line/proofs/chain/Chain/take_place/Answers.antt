use Rattle.std.proofs.Common.{◌≡◌, ◌≢◌, ◌∙◌, sym, ap, arith, refl, subst, ◌++◌, ◌∷◌, [], ℕ, List, length, length-append, slice_get, Option, Some, None, is_ok}
use Rattle.std.proofs.lemmas.Bool.{cond-true}
use Rattle.std.specs.Option.{option_and_then, MatchOption}
use Rattle.ss_line.specs.declared.entry.At.{At}
use Rattle.ss_line.specs.declared.chain.Node.{Node}
use Rattle.ss_line.specs.declared.chain.Chain.{Chain}
use Rattle.ss_line.specs.Chain.{behind_in, before_in}
use Rattle.ss_line.proofs.IndexLemmas.{slice_get-append_last, slice_get-append_other}
use Rattle.ss_line.proofs.chain.Chain.take_place.Goals as goal

-- the number of another place is another one
differs : (at other : At) → other ≢ at → other.0 ≢ at.0
differs at other differ same = differ (ap (λ (n : ℕ). let place : At = record { 0 = n } in place) same)

module _ (old new : Chain) (at : At) (nodes : (other : At) → other ≢ at → slice_get new.nodes.items other.0 ≡ slice_get old.nodes.items other.0) where
  behind-kept : (other : Option At) → new.first ≡ old.first → other ≢ Some at → behind_in new other ≡ behind_in old other
  behind-kept None first differ = first
  behind-kept (Some other) first differ = ap (option_and_then (λ (n : Node). n.behind)) (nodes other (λ same. differ (ap Some same)))

  before-kept : (other : Option At) → new.last ≡ old.last → other ≢ Some at → before_in new other ≡ before_in old other
  before-kept None last differ = last
  before-kept (Some other) last differ = ap (option_and_then (λ (n : Node). n.before)) (nodes other (λ same. differ (ap Some same)))

pub returns-in-None : goal.returns-in-None
returns-in-None c =
    let old = c.args.self.now in
    let new : Chain = record { nodes = c.push.new.self; first = old.first; last = old.last; free = old.free } in
    let node : Node = record { entry = c.args.entry; before = None; behind = None } in
    let at : At = record { 0 = c.len.result } in
    let pushed : c.push.new.self.items ≡ old.nodes.items ++ node ∷ [] = c.push.ensures.items ∙
    cond-true (is_ok c.push.result) _ _ (ap is_ok c.unwrap.ensures) in
    let end : c.len.result ≡ length old.nodes.items = omega (arith, c.len.ensures) in
    let others : (other : At) → other ≢ at → slice_get new.nodes.items other.0 ≡ slice_get old.nodes.items other.0 = λ other differ.
    ap (λ (ns : List Node). slice_get ns other.0) pushed ∙
    slice_get-append_other old.nodes.items node other.0 (λ same. differs at other differ (omega (arith, same, end))) in
    record {
      there = ap (λ (ns : List Node). option_and_then (λ (n : Node). Some n.entry) (slice_get ns c.len.result)) pushed ∙
          ap (option_and_then (λ (n : Node). Some n.entry)) (slice_get-append_last old.nodes.items node c.len.result end);
      entries = λ other differ. ap (option_and_then (λ (n : Node). Some n.entry)) (others other differ);
      behind = λ other differ. behind-kept old new at others other refl differ;
      before = λ other differ. before-kept old new at others other refl differ;
      place = rw c.in-None.is end;
      free = subst (λ (o : Option At). MatchOption o (old.free ≡ None) (λ free. old.free ≡ behind_in old (Some free))) (sym c.in-None.is) c.in-None.is;
      nodes = rw c.in-None.is (omega (arith, ap length pushed, length-append old.nodes.items (node ∷ [])));
      capacity = omega (arith, c.push.ensures.capacity);
    }
