use Rattle.std.proofs.Common.{◌≡◌, ◌∙◌, ◌+◌, ◌*◌, ◌/◌, ◌<◌, sym, ap, arith, Bool, List, ℕ, length, set, count_by}
use Rattle.ss_records.specs.Bits.{is_set}
use Rattle.ss_records.specs.Tree.{members}
use Rattle.ss_records.proofs.BitLemmas.{digit}
use Rattle.ss_records.proofs.TreeLemmas.{in_low, in_middle, in_top, length-members, length-members-most, length-count, count-some, count-put, members-put}
use Rattle.ss_records.proofs.TreeLemmas.{MarksFullWords-put}
use Rattle.ss_records.proofs.slot_set.SlotSet.put.Goals as goal

-- the slot is one of those of the set
below : (low : List ℕ) (now : List Bool) (slot : ℕ) → members low ≡ now → slot < length now → slot < 64 * length low
below low now slot same lt = omega (arith, lt, ap (λ (xs : List Bool). length xs) same, length-members low)

pub has_bit-was_in-requires : goal.has_bit-was_in-requires
has_bit-was_in-requires c =
    let lt = below c.self.inside.low.items c.args.self.now c.args.slot c.self.view_is c.requires in
    omega (arith, in_low _ _ _ c.self.invariant.0 c.args.slot lt, ap (λ (xs : List ℕ). length xs) c.deref.ensures.value)

pub put_bit-full-requires : goal.put_bit-full-requires
put_bit-full-requires c = in_low _ _ _ c.self.invariant.0 c.args.slot (below c.self.inside.low.items c.args.self.now c.args.slot c.self.view_is c.requires)

pub put_bit-full-requires-2 : goal.put_bit-full-requires-2
put_bit-full-requires-2 c = in_middle _ _ _ c.self.invariant.0 c.args.slot (below c.self.inside.low.items c.args.self.now c.args.slot c.self.view_is c.requires)

pub put_bit-requires : goal.put_bit-requires
put_bit-requires c = in_top _ _ _ c.self.invariant.0 c.args.slot (below c.self.inside.low.items c.args.self.now c.args.slot c.self.view_is c.requires)

pub counted-self-inside-requires-clause-most : goal.counted-self-inside-requires-clause-most
counted-self-inside-requires-clause-most c =
    omega (arith, c.self.invariant.1, length-count (members c.self.inside.low.items), length-members-most _ _ _ c.self.invariant.0)

pub counted-self-inside-requires-clause-least : goal.counted-self-inside-requires-clause-least
counted-self-inside-requires-clause-least c is =
    let low = c.self.inside.low.items in
    let was = sym (c.has_bit-was_in.ensures ∙ ap (λ (xs : List ℕ). is_set xs c.args.slot) c.deref.ensures.value) ∙ is in
    omega (arith, c.self.invariant.1, count-some low c.args.slot (below low c.args.self.now c.args.slot c.self.view_is c.requires) was)

pub returns : goal.returns
returns c =
    let low = c.self.inside.low.items in
    let lt = below low c.args.self.now c.args.slot c.self.view_is c.requires in
    members-put low c.put_bit-full.new.words.items c.args.slot c.args.is_in c.put_bit-full.ensures.len lt c.put_bit-full.ensures.bits
    ∙ ap (λ (now : List Bool). set now c.args.slot c.args.is_in) c.self.view_is

pub invariant_of-self : goal.invariant_of-self
invariant_of-self c =
    let low = c.self.inside.low.items in
    let tree = c.self.invariant.0 in
    let lt = below low c.args.self.now c.args.slot c.self.view_is c.requires in
    let put-low = c.put_bit-full.ensures in
    let put-middle = c.put_bit-full-2.ensures in
    let put-top = c.put_bit.ensures in
    let was = c.has_bit-was_in.ensures ∙ ap (λ (xs : List ℕ). is_set xs c.args.slot) c.deref.ensures.value in
    let count = count-put low c.args.slot lt c.args.is_in c.self.inside.count c.counted-self-inside.result c.self.invariant.1
    (ap (λ (b : Bool). c.counted-self-inside.result + digit b) (sym was) ∙ c.counted-self-inside.ensures) in
    let left = members-put low c.put_bit-full.new.words.items c.args.slot c.args.is_in put-low.len lt put-low.bits in (
      record {
        few = omega (arith, tree.few, put-top.len);
        over_low = MarksFullWords-put _ _ _ _ tree.over_low c.args.slot c.put_bit-full.result put-low.len put-middle.len put-low.others put-low.full
            put-middle.bits;
        over_middle = MarksFullWords-put _ _ _ _ tree.over_middle (c.args.slot / 64) c.put_bit-full-2.result put-middle.len put-top.len put-middle.others
            put-middle.full put-top.bits;
      },
      count ∙ sym (ap (count_by (λ (is : Bool). is)) left),
    )
