-- The fields of each record lie in a slot, one after the other.
use Rattle.std.specs.Prelude.{ℕ, ◌+◌, Bool, ◌≤◌, ℤ, Option, List, [], ◌∷◌, length}
use Rattle.std.specs.Int.{cast_unsigned, w64, w128}
use Rattle.std.proofs.Common.{arith, refl, lit≤}
use Rattle.ss_fields.specs.Fields.{number_bytes}
use Rattle.ss_fields.proofs.FieldLemmas.{length-number_bytes}
use Rattle.ss_summary.specs.Figures.{Figures}
use Rattle.ss_catalog.specs.Params.{step_number}
use Rattle.ss_catalog.specs.declared.params.Params.{Params}
use Rattle.ss_codec.specs.declared.record.Record.TheVariants.{Stream, Window, Landmark, Value}
use Rattle.ss_codec.specs.Record.{drop_number, family, filter_number, parameters, state_number, closing_time, fields, word_spelled}
use Rattle.ss_codec.proofs.FieldLemmas.{IsWithin, AreInOrder}

-- a field of a number lies before the end
pub number-within : (end n place value : ℕ) → place + n ≤ end → IsWithin end (record { place = place; size = n; bytes = number_bytes n value })
number-within end n place value inside = record { whole = length-number_bytes n value; inside = inside }

pub byte-within : (end place value : ℕ) → place + 1 ≤ end → IsWithin end (record { place = place; size = 1; bytes = value ∷ [] })
byte-within end place value inside = record { whole = refl; inside = inside }

pub stream-in_order : (id : ℕ) (name : List ℕ) (params : Params) (dropped : Bool) → length name ≤ 32
    → AreInOrder 128 0 (fields (Stream id name params dropped))
stream-in_order id name params dropped short =
    let numbers = parameters params.family in (
      lit≤ tt,
      byte-within 128 0 1 (lit≤ tt),
      (
        lit≤ tt,
        byte-within 128 1 (family params.family) (lit≤ tt),
        (
          lit≤ tt,
          byte-within 128 2 (length name) (lit≤ tt),
          (
            lit≤ tt,
            byte-within 128 3 (drop_number dropped) (lit≤ tt),
            (
              lit≤ tt,
              number-within 128 4 4 id (lit≤ tt),
              (
                lit≤ tt,
                number-within 128 4 8 numbers.0 (lit≤ tt),
                (
                  lit≤ tt,
                  number-within 128 4 12 numbers.1 (lit≤ tt),
                  (
                    lit≤ tt,
                    number-within 128 4 16 numbers.2 (lit≤ tt),
                    (
                      lit≤ tt,
                      number-within 128 4 20 numbers.3 (lit≤ tt),
                      (
                        lit≤ tt,
                        record { whole = refl; inside = omega arith },
                        (
                          omega arith,
                          number-within 128 4 56 (step_number params.within) (lit≤ tt),
                          tt,
                        ),
                      ),
                    ),
                  ),
                ),
              ),
            ),
          ),
        ),
      ),
    )

pub window-in_order : (id first : ℕ) (f : Figures) → AreInOrder 128 0 (fields (Window id first f))
window-in_order id first f = (
  lit≤ tt,
  byte-within 128 0 2 (lit≤ tt),
  (
    lit≤ tt,
    byte-within 128 1 (filter_number f.filter) (lit≤ tt),
    (
      lit≤ tt,
      number-within 128 4 4 id (lit≤ tt),
      (
        lit≤ tt,
        number-within 128 8 8 first (lit≤ tt),
        (
          lit≤ tt,
          number-within 128 8 16 f.count (lit≤ tt),
          (
            lit≤ tt,
            number-within 128 16 24 (cast_unsigned w128 f.sum) (lit≤ tt),
            (
              lit≤ tt,
              number-within 128 8 40 (cast_unsigned w64 f.min) (lit≤ tt),
              (
                lit≤ tt,
                number-within 128 8 48 (cast_unsigned w64 f.max) (lit≤ tt),
                (
                  lit≤ tt,
                  number-within 128 8 56 f.t_first (lit≤ tt),
                  (
                    lit≤ tt,
                    number-within 128 8 64 f.t_last (lit≤ tt),
                    (
                      lit≤ tt,
                      number-within 128 8 72 (word_spelled f.filter 0) (lit≤ tt),
                      (
                        lit≤ tt,
                        number-within 128 8 80 (word_spelled f.filter 1) (lit≤ tt),
                        (
                          lit≤ tt,
                          number-within 128 8 88 (word_spelled f.filter 2) (lit≤ tt),
                          (
                            lit≤ tt,
                            number-within 128 8 96 (word_spelled f.filter 3) (lit≤ tt),
                            tt,
                          ),
                        ),
                      ),
                    ),
                  ),
                ),
              ),
            ),
          ),
        ),
      ),
    ),
  ),
)

pub landmark-in_order : (id number values start : ℕ) (finish : Option ℕ) → AreInOrder 128 0 (fields (Landmark id number values start finish))
landmark-in_order id number values start finish = (
  lit≤ tt,
  byte-within 128 0 3 (lit≤ tt),
  (
    lit≤ tt,
    byte-within 128 1 (state_number finish) (lit≤ tt),
    (
      lit≤ tt,
      number-within 128 4 4 id (lit≤ tt),
      (
        lit≤ tt,
        number-within 128 4 8 number (lit≤ tt),
        (
          lit≤ tt,
          number-within 128 4 12 values (lit≤ tt),
          (
            lit≤ tt,
            number-within 128 8 16 start (lit≤ tt),
            (
              lit≤ tt,
              number-within 128 8 24 (closing_time finish) (lit≤ tt),
              tt,
            ),
          ),
        ),
      ),
    ),
  ),
)

pub value-in_order : (id number index t : ℕ) (v : ℤ) → AreInOrder 128 0 (fields (Value id number index t v))
value-in_order id number index t v = (
  lit≤ tt,
  byte-within 128 0 4 (lit≤ tt),
  (
    lit≤ tt,
    number-within 128 4 4 id (lit≤ tt),
    (
      lit≤ tt,
      number-within 128 4 8 number (lit≤ tt),
      (
        lit≤ tt,
        number-within 128 4 12 index (lit≤ tt),
        (
          lit≤ tt,
          number-within 128 8 16 t (lit≤ tt),
          (
            lit≤ tt,
            number-within 128 8 24 (cast_unsigned w64 v) (lit≤ tt),
            tt,
          ),
        ),
      ),
    ),
  ),
)
