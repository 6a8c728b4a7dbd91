use Rattle.ss_recover.proofs.Common.{◌≡◌, Free, inl, inr, sym}
use Rattle.ss_recover.proofs.WholeSlots.{IsUsable-valid}
use Rattle.ss_recover.proofs.gathering.record_in.Goals as goal

pub returns-in-Stream : goal.returns-in-Stream
returns-in-Stream c =
    let other : c.in_ok-record.record ≡ Free → ⊥ = λ free. elim c.in-Stream.is [
      | inl stream ↦ let is = stream.3 in cc
      | inr behind ↦ elim behind [
        | inl window ↦ let is = window.3 in cc
        | inr mark ↦ elim mark [ inl landmark ↦ let is = landmark.5 in cc | inr value ↦ let is = value.5 in cc ]
      ]
    ] in
    record {
      some = sym c.in_ok-record.ensures.exact;
      usable = IsUsable-valid c.in_ok-record.record c.in_ok-record.ensures.some.valid other;
      none = tt;
    }
