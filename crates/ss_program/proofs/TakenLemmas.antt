-- How many bytes a run takes of its source, whether it tells them or not.
use Rattle.ss_program.proofs.Common.{◌≡◌, ◌⊎◌, ℕ, ◌+◌, ◌≤◌, List, Bool, Option, arith, common_steps, RoseBy, Feeds, IsUnfed, TakesFew, IsStop}
use Rattle.ss_program.proofs.Common.{LONGEST_INPUT, Status, Done, InputLimit}
use Rattle.ss_program.proofs.ReadLemmas.{end-limit}

-- nothing is taken
pub RoseBy-none : (count : ℕ) → RoseBy 0 count count
RoseBy-none count = (omega arith, omega arith)

-- what is taken in two parts
pub RoseBy-more : (j k before mid now : ℕ) → RoseBy j before mid → RoseBy k mid now → RoseBy (j + k) before now
RoseBy-more j k before mid now first second =
    (omega (arith, first.0, second.0), omega (arith, first.1, second.1))

-- a run stopped
pub TakesFew-stop : (before mid now n room : ℕ) (status : Status) → (status ≡ Done → ⊥) → (status ≡ InputLimit → ⊥) → RoseBy n before mid →
    n + room ≤ LONGEST_INPUT + 1 → now ≤ mid + room → TakesFew before now status
TakesFew-stop before mid now n room status going within taken fits more = record {
  few = omega (arith, taken.1, fits, more);
  whole = λ is. absurd (going is);
  limit = λ is. absurd (within is);
}

-- and one that took nothing
TakesFew-none : (count : ℕ) (status : Status) → (status ≡ InputLimit → ⊥) → TakesFew count count status
TakesFew-none count status within = record { few = omega arith; whole = λ is. omega arith; limit = λ is. absurd (within is) }

-- nor called its source
pub Feeds-unfed : {same : Type 0} (faults count : ℕ) (held after : Option (List ℕ)) (status : Status) → same → IsUnfed held after status →
    Feeds same faults faults count count status
Feeds-unfed faults count held after status same unfed = record {
  counted = grind (arith, common_steps);
  takes = TakesFew-none count status (λ is. rw is at unfed);
  unserved = λ _. same;
}

-- a run came to the end of its input
pub TakesFew-end : (tells : Bool) (before now n : ℕ) (status : Status) → RoseBy n before now → n ≤ LONGEST_INPUT →
    (status ≡ Done) ⊎ IsStop tells status → TakesFew before now status
TakesFew-end tells before now n status taken fits how = record {
  few = omega (arith, taken.1, fits);
  whole = λ _. omega (arith, taken.1, fits);
  limit = λ wrong. end-limit tells status how wrong;
}

-- and past its limit
pub TakesFew-limit : (before mid now n : ℕ) → RoseBy n before mid → RoseBy 1 mid now → n ≡ LONGEST_INPUT → TakesFew before now InputLimit
TakesFew-limit before mid now n taken more last =
    let all : RoseBy (LONGEST_INPUT + 1) before now = rw last at (RoseBy-more n 1 before mid now taken more) in
    record { few = all.1; whole = λ wrong. cc; limit = λ _. all }
