-- What may stand on a disk after its calls.
use Rattle.std.proofs.Common.{◌≡◌, ◌⊎◌, inl, inr, ℕ, ◌+◌, ◌-◌, ◌<◌, ◌≤◌, min, max, List, [], ◌∷◌, length, get_or, map, cond, refl, sym, ◌∙◌, arith}
use lib.Dec.{ltb}
use Rattle.std.specs.Prelude.{EachIndex}
use Rattle.std.specs.List.{range_with_len}
use Rattle.std.proofs.lemmas.Bool.{cases_lt, lt-ltb, le-ltb, cond-true, cond-false}
use Rattle.std.proofs.lemmas.List.{ext_get_or, get_or_past, get_or_default, places}
use Rattle.std.proofs.lemmas.List.FromFn.{length-map-range_with_len, get_or-map-range_with_len}
use Rattle.ss_outside.specs.Disk.{AreBytes, IsOutside, IsOutsideAll, Torn, IsImage, overwrite}

-- with nothing pending there is one image
pub only_image : (synced image : List ℕ) → IsImage synced [] (length synced) image → image ≡ synced
only_image synced image is = ext_get_or 0 image synced (omega (arith, is.no_shorter, is.no_longer))
    (λ place lt. is.kept place (omega (arith, lt, is.no_longer)) tt)

-- and that is what was synced
pub image_now : (synced : List ℕ) → AreBytes synced → IsImage synced [] (length synced) synced
image_now synced bytes = record { no_shorter = omega arith; no_longer = omega arith; kept = λ place lt out. refl; bytes = bytes }

pub cases_place : (at count place : ℕ) → IsOutside at count place ⊎ ((at ≤ place) × (place < at + count))
cases_place at count place = elim (cases_lt place at) [
  | inl below ↦ inl (inl below)
  | inr from ↦ elim (cases_lt place (at + count)) [ inl within ↦ inr (from, within) | inr above ↦ inl (inr above) ]
]

module _ (synced : List ℕ) (pending : List (ℕ × ℕ)) (longest at count : ℕ) where
  -- a torn image is an image with the range pending
  pub torn_is_image : (old new : List ℕ) → IsImage synced pending longest old → Torn at count old new →
      IsImage synced ((at, count) ∷ pending) (max longest (at + count)) new
  torn_is_image old new is torn = record {
    no_shorter = omega (arith, is.no_shorter, torn.no_shorter);
    no_longer = omega (arith, is.no_longer, torn.no_longer);
    kept = λ place lt out. torn.kept place (omega (arith, lt, is.no_shorter)) out.0 ∙ is.kept place lt out.1;
    bytes = torn.bytes;
  }

  module _ (new : List ℕ) where
    -- what stood at a place before the range became pending
    stood : ℕ → ℕ
    stood place = cond (ltb place at) (get_or new place 0) (cond (ltb place (at + count)) (get_or synced place (get_or new place 0)) (get_or new place 0))

    stood_outside : (place : ℕ) → IsOutside at count place → stood place ≡ get_or new place 0
    unfolding stood
    stood_outside place (inl below) = cond-true _ _ _ (lt-ltb place at below)
    stood_outside place (inr above) = cond-false _ _ _ (le-ltb place at (omega (arith, above))) ∙ cond-false _ _ _ (le-ltb place (at + count) above)

    stood_inside : (place : ℕ) → at ≤ place → place < at + count → stood place ≡ get_or synced place (get_or new place 0)
    unfolding stood
    stood_inside place from within = cond-false _ _ _ (le-ltb place at from) ∙ cond-true _ _ _ (lt-ltb place (at + count) within)

    stood_bytes : AreBytes synced → AreBytes new → (place : ℕ) → place < length new → stood place < 256
    stood_bytes synced_bytes new_bytes place lt = elim (cases_place at count place) [
      | inl out ↦ omega (arith, stood_outside place out, new_bytes place lt)
      | inr is ↦ elim (cases_lt place (length synced)) [
        | inl short ↦ omega (arith, stood_inside place is.0 is.1, get_or_default synced place (get_or new place 0) 0 short, synced_bytes place short)
        | inr past ↦ omega (arith, stood_inside place is.0 is.1, get_or_past synced place (get_or new place 0) past, new_bytes place lt)
      ]
    ]

    stood_synced : EachIndex synced (λ place. IsOutsideAll ((at, count) ∷ pending) place → get_or new place 0 ≡ get_or synced place 0) → (place : ℕ) →
        place < length synced → IsOutsideAll pending place → stood place ≡ get_or synced place 0
    stood_synced kept place lt others = elim (cases_place at count place) [
      | inl out ↦ stood_outside place out ∙ kept place lt (out, others)
      | inr is ↦ stood_inside place is.0 is.1 ∙ get_or_default synced place (get_or new place 0) 0 lt
    ]

    old : List ℕ
    old = map stood (range_with_len 0 (min (length new) longest))

    length-old : length old ≡ min (length new) longest
    unfolding old
    length-old = length-map-range_with_len stood 0 (min (length new) longest)

    get_or-old : (place : ℕ) → place < length old → get_or old place 0 ≡ stood place
    unfolding old
    get_or-old place lt = get_or-map-range_with_len stood 0 (min (length new) longest) place place 0 (omega (arith, lt, length-old)) (omega arith)

    -- an image with the range pending is some image, torn there
    pub image_is_torn : AreBytes synced → length synced ≤ longest → IsImage synced ((at, count) ∷ pending) (max longest (at + count)) new →
        (old : List ℕ) × IsImage synced pending longest old × Torn at count old new
    image_is_torn synced_bytes short is = (
      old,
      record {
        no_shorter = omega (arith, length-old, is.no_shorter, short);
        no_longer = omega (arith, length-old);
        kept = λ place lt out. get_or-old place (omega (arith, lt, length-old, is.no_shorter, short)) ∙ stood_synced is.kept place lt out;
        bytes = λ place lt. omega (arith, get_or-old place lt, stood_bytes synced_bytes is.bytes place (omega (arith, lt, length-old)));
      },
      record {
        no_shorter = omega (arith, length-old);
        no_longer = omega (arith, length-old, is.no_longer);
        kept = λ place lt out. sym (get_or-old place lt ∙ stood_outside place out);
        bytes = is.bytes;
      },
    )
    -- a range that is written becomes pending

module _ (content bytes : List ℕ) (at : ℕ) (within : at ≤ length content) where
  pub length-overwrite : length (overwrite content at bytes) ≡ max (length content) (at + length bytes)
  length-overwrite = grind (arith, places)

  pub get_or-overwrite_outside : (place : ℕ) → IsOutside at (length bytes) place → get_or (overwrite content at bytes) place 0 ≡ get_or content place 0
  get_or-overwrite_outside place (inl below) = grind (arith, places)
  get_or-overwrite_outside place (inr above) = grind (arith, places)

  pub get_or-overwrite_inside : (k : ℕ) → k < length bytes → get_or (overwrite content at bytes) (at + k) 0 ≡ get_or bytes k 0
  get_or-overwrite_inside k lt = grind (arith, places)

  overwrite_bytes : AreBytes content → AreBytes bytes → AreBytes (overwrite content at bytes)
  overwrite_bytes content_bytes new_bytes place lt = elim (cases_place at (length bytes) place) [
    | inl out ↦ elim (cases_lt place (length content)) [
      | inl short ↦ omega (arith, get_or-overwrite_outside place out, content_bytes place short)
      | inr past ↦ omega (arith, get_or-overwrite_outside place out, get_or_past content place 0 past)
    ]
    | inr is ↦
        let there : at + (place - at) ≡ place = omega (arith, is.0) in
        let same = rw there at (get_or-overwrite_inside (place - at) (omega (arith, is.0, is.1))) in
        omega (arith, same, new_bytes (place - at) (omega (arith, is.0, is.1)))
  ]

  -- what a write makes of a content is one way to tear it there
  pub overwrite_is_torn : AreBytes content → AreBytes bytes → Torn at (length bytes) content (overwrite content at bytes)
  overwrite_is_torn content_bytes new_bytes = record {
    no_shorter = omega (arith, length-overwrite);
    no_longer = omega (arith, length-overwrite);
    kept = λ place lt out. get_or-overwrite_outside place out;
    bytes = overwrite_bytes content_bytes new_bytes;
  }
