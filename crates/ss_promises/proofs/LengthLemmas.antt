-- How long a file gets by the streams that its history has.
use Rattle.ss_program.proofs.Common.{◌≡◌, ℕ, ◌+◌, ◌-◌, ◌*◌, ◌^◌, ◌≤◌, ◌++◌, List, [], ◌∷◌, All, Some, length, max, refl, ap, arith, append_assoc}
use Rattle.ss_program.proofs.Common.{append-nil, most_needed, length-uses, UsesAtMost-more, KnowsNow, DiskView, WhereTold, Stands, UsesAtMost}
use Rattle.std.proofs.Common.{lit≤}
use Rattle.std.proofs.Math.Nat.{le_trans, mul-le-mul_right}
use Rattle.ss_catalog.specs.declared.params.Family.TheVariants.{Exp, Power}
use Rattle.ss_journal.specs.Format.{is_born, is_unborn}
use Rattle.ss_journal.specs.Redo.{blank_map, redo}
use Rattle.ss_laws.proofs.RoomLemmas.{live-exp, live-power, live-takes}
use Rattle.ss_laws.specs.Sizes.{HoldsAtMost, TakesAtMost}
use Rattle.ss_model.specs.State.{Stream, live, state}
use Rattle.ss_program.specs.Line.{History}
use Rattle.ss_store.specs.Uses.{most_needed_from}
use Rattle.ss_targets.specs.Exp.{IsExp}
use Rattle.ss_targets.specs.Power.{IsPower}
use Rattle.ss_promises.specs.Chained.{AreLinked, ExtendsAll, Link}
use Rattle.ss_promises.specs.Short.{AlwaysHas, IsAsShort}
use Rattle.ss_promises.proofs.ChainLemmas.{extends-short}

-- what each beginning needs at most, a history needs
needed-from : (before after : History) (most : ℕ) → ((front rest : History) → after ≡ front ++ rest → live (state (before ++ front)) ≤ most) →
    most_needed_from before after ≤ most
needed-from before [] most few = rw append-nil at (few [] [] refl)
needed-from before (e ∷ after) most few =
    let here : live (state before) ≤ most = rw append-nil at (few [] (e ∷ after) refl) in
    let later = needed-from (before ++ e ∷ []) after most
    (λ front rest is. rw (append_assoc before (e ∷ []) front) (few (e ∷ front) rest (ap (λ (es : History). e ∷ es) is))) in
    omega (arith, here, later)

-- so does one whose streams need so many each at any time
needed-always : (count most : ℕ) (P : History → Stream → Type 0) → ((front : History) → All (P front) (state front) → live (state front) ≤
    length (state front) * most) → (history : History) → AlwaysHas count P history → most_needed history ≤ count * most
needed-always count most P bound history always =
    needed-from [] history (count * most)
    (λ front rest is. le_trans (bound front (always.each front rest is)) (mul-le-mul_right {m = length (state front)} {n = count} most
    (always.streams front rest is)))

-- what runs leave, and how long it is by any bound of the records that its history needs
abbrev AsLong : {D : Type 0} → List (Link D) → List ℕ → ℕ → History → Type 0
AsLong links last used history =
    (now : History) × ExtendsAll links history now × Stands now last × ((most : ℕ) → most_needed now ≤ most → IsAsShort used most last)

module _ {D : Type 0} (seen : D → DiskView) (knows : (disk : D) → WhereTold (seen disk) KnowsNow) where
  linked-long : (links : List (Link D)) (first last : List ℕ) (used : ℕ) (history : History) → Stands history first → UsesAtMost used first →
      AreLinked seen links first last → AsLong links last used history
  linked-long links first last used history stands uses linked =
      let began = UsesAtMost-more used (max used (most_needed history + 1)) first (omega arith) uses in
      let all = extends-short seen knows (Some used) links first last history (stands, began) linked in (
        all.0,
        all.1,
        all.2.0,
        λ most few. length-uses (max used (most + 1)) last
            (UsesAtMost-more (max used (most_needed all.0 + 1)) (max used (most + 1)) last (omega (arith, few)) all.2.1),
      )

  pub short-streams : (links : List (Link D)) (first last : List ℕ) (used : ℕ) (history : History) → Stands history first → UsesAtMost used first →
      AreLinked seen links first last → (now : History) × ExtendsAll links history now × Stands now last
      × ((count k m : ℕ) → AlwaysHas count (λ front. TakesAtMost front k m) now → IsAsShort used (count * (max 1 k + m)) last)
  short-streams links first last used history stands uses linked =
      let long = linked-long links first last used history stands uses linked in (
        long.0,
        long.1,
        long.2,
        λ count k m always. long.3 (count * (max 1 k + m))
            (needed-always count (max 1 k + m) (λ front. TakesAtMost front k m) (λ front. live-takes front k m) long.0 always),
      )

  pub short-exp : (links : List (Link D)) (first last : List ℕ) (used : ℕ) (history : History) → Stands history first → UsesAtMost used first →
      AreLinked seen links first last → (now : History) × ExtendsAll links history now × Stands now last
      × ((count b r s n g steps m : ℕ) → IsExp b r s → (b - 1) * n ≤ r * s * (b ^ g - 1) →
      AlwaysHas count (λ front. HoldsAtMost front (Exp b r s) n steps m) now →
      IsAsShort used (count * (max 1 (2 * (r * g) + steps - 1) + m)) last)
  short-exp links first last used history stands uses linked =
      let long = linked-long links first last used history stands uses linked in (
        long.0,
        long.1,
        long.2,
        λ count b r s n g steps m is enough always. long.3 (count * (max 1 (2 * (r * g) + steps - 1) + m))
            (needed-always count (max 1 (2 * (r * g) + steps - 1) + m) (λ front. HoldsAtMost front (Exp b r s) n steps m)
            (λ front. live-exp front b r s n g steps m is enough) long.0 always),
      )

  pub short-power : (links : List (Link D)) (first last : List ℕ) (used : ℕ) (history : History) → Stands history first → UsesAtMost used first →
      AreLinked seen links first last → (now : History) × ExtendsAll links history now × Stands now last
      × ((count p q r s n g steps m : ℕ) → IsPower p q r s → (p + q) * n ≤ r * s * g ^ (p + q) →
      AlwaysHas count (λ front. HoldsAtMost front (Power p q r s) n steps m) now →
      IsAsShort used (count * (max 1 (2 * (r * g ^ p) + steps - 1) + m)) last)
  short-power links first last used history stands uses linked =
      let long = linked-long links first last used history stands uses linked in (
        long.0,
        long.1,
        long.2,
        λ count p q r s n g steps m is enough always. long.3 (count * (max 1 (2 * (r * g ^ p) + steps - 1) + m))
            (needed-always count (max 1 (2 * (r * g ^ p) + steps - 1) + m) (λ front. HoldsAtMost front (Power p q r s) n steps m)
            (λ front. live-power front p q r s n g steps m is enough) long.0 always),
      )

pub uses-empty : UsesAtMost 0 []
unfolding redo is_born is_unborn
uses-empty = record { found = blank_map []; map = record { bytes = λ slot few. refl; extent = refl }; few = lit≤ tt }
