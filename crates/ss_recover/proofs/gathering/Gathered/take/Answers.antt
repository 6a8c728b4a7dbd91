use Rattle.ss_recover.proofs.Common.{◌∙◌, ◌≡◌, ap, are_zeros, arith, Found, Gathered, length, List, refl, rules, sym, ℕ}
use Rattle.ss_codec.specs.Decoded.{decoded}
use Rattle.ss_recover.proofs.GatherLemmas.{AreFoundBelow-free, AreFoundBelow-live, AreGathered-free, AreGathered-live, IsLowestBad-here, length-gathered}
use Rattle.ss_recover.proofs.GatherLemmas.{spells-none}
use Rattle.ss_recover.proofs.gathering.Gathered.take.Goals as goal

pub returns-then-are_zeros-clause-gathered : goal.returns-then-are_zeros-clause-gathered
returns-then-are_zeros-clause-gathered c = AreGathered-free c.args.slot c.args.self.now c.requires.gathered

pub returns-then-are_zeros-clause-found : goal.returns-then-are_zeros-clause-found
returns-then-are_zeros-clause-found c found same before =
    let long : length c.args.bytes.now ≡ 128 = search rules in
    AreFoundBelow-free c.args.slot c.args.self.now found c.requires.gathered (sym (ap (λ (bytes : List ℕ). length bytes) same) ∙ long)
    (sym (ap (λ (bytes : List ℕ). are_zeros bytes) same) ∙ sym c.are_zeros.ensures ∙ c.if-are_zeros.true) before

pub add-requires : goal.add-requires
add-requires c = omega (arith, c.args.self.now.all.ok.0, length-gathered c.args.slot c.args.self.now c.requires.gathered, c.requires.room)

pub returns-in-Some-clause-gathered : goal.returns-in-Some-clause-gathered
returns-in-Some-clause-gathered c =
    let f : Found = record { slot = c.args.slot; holds = c.in-Some.holds } in
    let new : Gathered = record { all = c.add.new.all; live = c.put.new.self } in
    AreGathered-live c.args.slot c.args.self.now new f c.add.ensures.added refl c.put.ensures c.requires.gathered c.requires.slot c.in-Some.ensures.usable

pub returns-in-Some-clause-found : goal.returns-in-Some-clause-found
returns-in-Some-clause-found c found same before =
    let f : Found = record { slot = c.args.slot; holds = c.in-Some.holds } in
    let new : Gathered = record { all = c.add.new.all; live = c.put.new.self } in
    AreFoundBelow-live c.args.slot c.args.self.now new f c.add.ensures.added refl c.put.ensures c.requires.gathered c.requires.slot found
    (sym (ap (λ (bytes : List ℕ). are_zeros bytes) same) ∙ sym c.are_zeros.ensures ∙ c.if-are_zeros.false)
    (sym (ap (λ (bytes : List ℕ). decoded bytes) same) ∙ c.in-Some.ensures.some) before

pub returns-in-None-clause-found : goal.returns-in-None-clause-found
returns-in-None-clause-found c found same before =
    let none = spells-none c.args.bytes.now (sym c.are_zeros.ensures ∙ c.if-are_zeros.false) c.in-None.ensures.none in
    IsLowestBad-here c.args.slot c.args.self.now found before (sym (ap (λ (bytes : List ℕ). decoded bytes) same) ∙ none)
