use Rattle.ss_recover.proofs.Common.{[], ⊤, ◌&&◌, ◌∙◌, ◌∷◌, ◌≡◌, AddsName, and_from, and_right, ap, append-nil, Bool, BuildsAs, Created, Err, false, Found}
use Rattle.ss_recover.proofs.Common.{HasMore, IfErr, is_own, is_run, IsUsable, List, list_any, may_stand, names_in, not, Ok, OnOk, OutOfMemory, Params}
use Rattle.ss_recover.proofs.Common.{RecoverError, refl, Result, slots_found, Some, stream_of, StreamId, StreamParts, subst, sym, TakesAs, true, Walk}
use Rattle.ss_recover.proofs.Common.{without_slots, ℕ}
use Rattle.ss_codec.specs.declared.record.Record.TheVariants as records
use Rattle.ss_recover.proofs.walking.Walk.take.Goals as goal

-- a walk with other names
abbrev with_names : Walk → List (List ℕ × StreamId) → Walk
with_names walk names = record { names = names; done = walk.done; others = walk.others; heads = walk.heads }

-- a name is taken, and then there is more
with-more : (old : Walk) (names : List (List ℕ × StreamId)) (new : Walk) (name : List ℕ) (parts : List StreamParts) (others heads : List ℕ) →
    AddsName old.names names name (Ok true) → HasMore (with_names old names) new [] parts others heads → HasMore old new (name ∷ []) parts others heads
with-more old names new name parts others heads adds more =
    record { names = more.names ∙ append-nil (names_in names) ∙ adds.1; done = more.done; others = more.others; heads = more.heads }

-- the first record, where its number is the one that the stream has
first-is : (first : Found) (id number : ℕ) (name : List ℕ) (params : Params) (dropped d : Bool) → first.holds ≡ records.Stream number name params dropped →
    stream_of first.holds ≡ id → dropped ≡ d → first ≡ record { slot = first.slot; holds = records.Stream id name params d }
first-is first id number name params dropped d holds own is =
    let same : number ≡ id = sym (ap stream_of holds) ∙ own in
    λ i. record { slot = first.slot; holds = (holds ∙ (λ j. records.Stream (same j) name params (is j))) i }

-- What is known of a run whose first record alone is a stream's own, with a name that is new.
module _ (old : Walk) (names : List (List ℕ × StreamId)) (id : ℕ) (rest : List Found) (slot : ℕ) (name : List ℕ) (params : Params)
    (adds : AddsName old.names names name (Ok true)) (alone : list_any is_own (without_slots rest) ≡ false) where
  abbrev own : Bool → Found
  own dropped = record { slot = slot; holds = records.Stream id name params dropped }

  -- it is a run where it was dropped, or its other records are sound
  runs : (asked : Bool) → asked ≡ true → (may_stand (names_in old.names) name && (not (list_any is_own (without_slots rest)) && asked)) ≡ true
  runs asked is = and_from _ _ adds.0 (and_from _ _ (ap not alone) is)

  takes-dropped : (new : Walk) (result : Result ⊤ RecoverError) → OnOk result (HasMore (with_names old names) new [] [] (slots_found rest) (slot ∷ [])) →
      IfErr result (λ error. error ≡ OutOfMemory) → TakesAs old new id (own true) rest result
  takes-dropped new (Ok done) more none = (runs true refl, with-more old names new name _ _ _ adds more)
  takes-dropped new (Err e) more none = subst (λ (error : RecoverError). TakesAs old new id (own true) rest (Err error)) (sym none) tt

  takes-standing : (part : StreamParts) → BuildsAs (record { number = id; name = name; params = params }) slot rest (Ok (Some part)) → (new : Walk)
      (result : Result ⊤ RecoverError) → OnOk result (HasMore (with_names old names) new [] (part ∷ []) [] []) → IfErr result (λ error. error ≡ OutOfMemory) →
      TakesAs old new id (own false) rest result
  takes-standing part built new (Ok done) more none = (runs _ built.0, (part, built.1, with-more old names new name _ _ _ adds more))
  takes-standing part built new (Err e) more none = subst (λ (error : RecoverError). TakesAs old new id (own false) rest (Err error)) (sym none) tt

pub returns-then-dropped : goal.returns-then-dropped
returns-then-dropped g c =
    let r = c.in-Stream in
    let first = c.args.first.now in
    let adds = subst (λ b. AddsName c.args.self.now.names c.add_name.new.names r.name (Ok b)) c.if-not-branch.false c.in_ok-add_name.ensures in
    subst (λ f. TakesAs c.args.self.now c.put_dropped.new.self c.args.id f c.args.rest.now c.put_dropped.result)
    (sym (first-is first c.args.id r.id r.name r.params r.dropped true r.is c.requires.number c.if-dropped.true)) (takes-dropped c.args.self.now
    c.add_name.new.names c.args.id c.args.rest.now first.slot r.name r.params adds (sym c.has_own.ensures ∙ c.if-has_own.false) c.put_dropped.new.self
    c.put_dropped.result c.put_dropped.ensures.ok c.put_dropped.ensures.err)

pub build-requires-clause-target : goal.build-requires-clause-target
build-requires-clause-target g c = (subst IsUsable c.in-Stream.is c.requires.first).0

pub returns-in-Some : goal.returns-in-Some
returns-in-Some g c =
    let r = c.in-Stream in
    let first = c.args.first.now in
    let head : Created = record { number = c.args.id; name = r.name; params = r.params } in
    let adds = subst (λ b. AddsName c.args.self.now.names c.add_name.new.names r.name (Ok b)) c.if-not-branch.false c.in_ok-add_name.ensures in
    subst (λ f. TakesAs c.args.self.now c.put_standing.new.self c.args.id f c.args.rest.now c.put_standing.result)
    (sym (first-is first c.args.id r.id r.name r.params r.dropped false r.is c.requires.number c.if-dropped.false)) (takes-standing c.args.self.now
    c.add_name.new.names c.args.id c.args.rest.now first.slot r.name r.params adds (sym c.has_own.ensures ∙ c.if-has_own.false) c.in-Some.part
    (subst (λ o. BuildsAs head first.slot c.args.rest.now (Ok o)) c.in-Some.is c.in_ok-part.ensures) c.put_standing.new.self c.put_standing.result
    c.put_standing.ensures.ok c.put_standing.ensures.err)

pub returns-in-None : goal.returns-in-None
returns-in-None g c =
    let r = c.in-Stream in
    let first = c.args.first.now in
    let rest = c.args.rest.now in
    let head : Created = record { number = c.args.id; name = r.name; params = r.params } in (
      refl,
      ap (λ (f : Found). is_run (names_in c.args.self.now.names) (without_slots (f ∷ rest)))
          (first-is first c.args.id r.id r.name r.params r.dropped false r.is c.requires.number c.if-dropped.false)
          ∙ and_right _ _ (and_right _ _ (subst (λ o. BuildsAs head first.slot rest (Ok o)) c.in-None.is c.in_ok-part.ensures)),
    )
