-- The last place of a line, and the entry there.
use Rattle.ss_store.proofs.Common.{◌≡◌, ◌∙◌, ℕ, zero, suc, ◌+◌, ◌-◌, List, [], ◌∷◌, length, refl, sym, ap, arith, Option, Some, None, option_map, slice_get}
use Rattle.ss_store.proofs.Common.{last_or, none-some, same_Some, slice_get-map, last_or-slice_get, LineState, entry_at, index_of, place_at, place_before, At}
use Rattle.ss_store.proofs.Common.{Entry, index_of-next, slice_get-entry}
use Rattle.ss_line.specs.Line.{IsLine}

mapped-none : {X Y : Type 0} (f : X → Y) (o : Option X) → option_map f o ≡ None → o ≡ None
mapped-none f None is = refl
mapped-none f (Some x) is = absurd (none-some (f x) (sym is))

mapped-some : {X Y : Type 0} (f : X → Y) (o : Option X) (y : Y) → option_map f o ≡ Some y → (x : X) × (o ≡ Some x) × (f x ≡ y)
mapped-some f None y is = absurd (none-some y is)
mapped-some f (Some x) y is = (x, refl, same_Some (f x) y is)

-- what stands before the end is the last entry
before-end : (entries : List (At × Entry)) → place_before entries (length entries) ≡ option_map (λ (e : At × Entry). e.0) (last_or None entries)
before-end [] = refl
before-end (e ∷ es) =
    let end : length (e ∷ es) - 1 ≡ length es = omega arith in
    ap (option_map (λ (x : At × Entry). x.0)) (sym (last_or-slice_get (e ∷ es) ∙ ap (slice_get (e ∷ es)) end))

-- a line without a last place has no entry
pub last-none : (entries : List (At × Entry)) → None ≡ place_before entries (length entries) → last_or None entries ≡ None
last-none entries none = mapped-none (λ (e : At × Entry). e.0) (last_or None entries) (sym (before-end entries) ∙ sym none)

before-some : (entries : List (At × Entry)) (n : ℕ) (at : At) → Some at ≡ place_before entries n → (k : ℕ) × (n ≡ k + 1) × (place_at entries k ≡ Some at)
before-some entries zero at is = absurd (none-some at (sym is))
before-some entries (suc k) at is = (k, omega arith, sym is)

-- the last place has the last index
pub last-index : (line : LineState) (at : At) → IsLine line → Some at ≡ place_before line.entries (length line.entries) →
    index_of line.entries at + 1 ≡ length line.entries
last-index line at whole is =
    let before = before-some line.entries (length line.entries) at is in
    let index = index_of-next line before.0 (Some at) whole (sym before.2) in
    omega (arith, index, before.1)

-- what stands there is the last entry
pub last-read : (line : LineState) (at : At) (entry : Entry) → IsLine line → Some at ≡ place_before line.entries (length line.entries) →
    entry_at line.entries at ≡ Some entry → last_or None line.entries ≡ Some (at, entry)
last-read line at entry whole is read =
    let entries = line.entries in
    let newest = mapped-some (λ (e : At × Entry). e.0) (last_or None entries) at (sym (before-end entries) ∙ sym is) in
    let last : length entries - 1 ≡ index_of entries at = omega (arith, last-index line at whole is) in
    let there : slice_get entries (index_of entries at) ≡ Some newest.0 = ap (slice_get entries) (sym last) ∙ sym (last_or-slice_get entries) ∙ newest.1 in
    let same : newest.0.1 ≡ entry =
    same_Some newest.0.1 entry
    (sym (ap (option_map (λ (e : At × Entry). e.1)) there) ∙ sym (slice_get-map (λ (e : At × Entry). e.1) entries (index_of entries at))
    ∙ slice_get-entry entries at entry read) in
    newest.1 ∙ ap (λ (a : At). Some (a, newest.0.1)) newest.2 ∙ ap (λ (e : Entry). Some (at, e)) same
