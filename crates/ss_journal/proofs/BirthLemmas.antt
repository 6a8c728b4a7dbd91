-- The steps of the birth, and what a crash may leave of them.
use Rattle.ss_journal.proofs.Common.{on_ok_weaker, IsFalse, IsTrue, List, Ok, Result, [], ap, arith, inl, inr, length, max, nat_le, refl, replicate}
use Rattle.ss_journal.proofs.Common.{subst, sym, ℕ, ◌+◌, ◌-◌, ◌<◌, ◌==◌, ◌∙◌, ◌∷◌, ◌≡◌, ◌≤◌, cases_Bool, cases_lt, cond-false, cond-true}
use Rattle.ss_journal.proofs.Common.{eqb-true, leb-true, or_cases, or_parts, append-nil, get_or-replicate, get_or_past, length-replicate, take-append-drop}
use Rattle.ss_journal.proofs.Common.{IsErr, slice_index, get_or-overwrite_inside, get_or-overwrite_outside, length-overwrite, KnowsNow, OnlyReads, Told}
use Rattle.ss_journal.proofs.Common.{overwrite, Begins, IsFormed, Leads, has_no_kind, magic_bytes, Syncs, Failed, Kind, Plain, Checked, IsShut, has_magic}
use Rattle.ss_journal.proofs.Common.{has_magic_of, is_born, is_unborn, magic, slots_in, opens, SameMap, SlotMap, StandsFor, blank_map, Durably}
use Rattle.ss_journal.proofs.Common.{Reaches, Rewrites, Writes, WritesZeros, SameRest, DiffersAt, DiffersIn, length_with}
use Rattle.ss_journal.specs.Birth.{IsBegun, blank_end, form_ranges}
use Rattle.ss_journal.specs.Format.{kind_of}
use Rattle.ss_journal.specs.Steps.{Marks}
use Rattle.ss_journal.proofs.GateLemmas.{StandsFor-first_closed}
use Rattle.ss_journal.proofs.HeaderLemmas.{has_magic-same, kind_of-other, kind_of-same, kind_of-short, length-magic, is_born-from, is_unborn-cases}
use Rattle.ss_journal.proofs.HeaderLemmas.{is_unborn-gate, is_unborn-short, is_unborn-zero, long-has_magic}
use Rattle.ss_journal.proofs.MapLemmas.{SameMap-trans, file_map-blank}
use Rattle.ss_journal.proofs.RangeLemmas.{SameRest-differs, DiffersIn-append, DiffersIn-overwrite, DiffersIn-refl, get_or-differs, length-differs}
use Rattle.ss_journal.proofs.RedoLemmas.{StandsFor-from, redo-unborn}
use Rattle.ss_journal.proofs.StepLemmas.{reaches-joined, reaches-read, reaches-rewritten, reaches-torn, rewrites-synced, writes-after_read}
use Rattle.ss_journal.proofs.TearLemmas.{tears-joined}

-- unformatted files with as many slots stand for one map
pub StandsFor-unborn : (content image : List ℕ) (found : SlotMap) → IsTrue (is_unborn content) → StandsFor content found → IsTrue (is_unborn image)
    → slots_in (length image) ≡ slots_in (length content) → StandsFor image found
StandsFor-unborn content image found unborn is still slots =
    let its : SameMap (blank_map content) found = rw redo-unborn at is in
    let alike : SameMap (blank_map image) (blank_map content) = record { bytes = λ slot lt. refl; extent = slots } in
    StandsFor-from image (blank_map image) found (redo-unborn image still) (SameMap-trans _ _ _ alike its)

-- the steps of the birth
pub StandsFor-begin : (content image : List ℕ) (found : SlotMap) → length content ≤ 1 → StandsFor content found → DiffersAt 0 1 content image
    → StandsFor image found
StandsFor-begin content image found short is differs =
    let still : length image ≤ 1 = omega (arith, differs.no_longer, short) in
    StandsFor-unborn content image found (is_unborn-short content short) is (is_unborn-short image still) (omega (arith, short, still))

-- a file of at most one byte begins with one 0
pub IsBegun-short : (content : List ℕ) → length content ≤ 1 → IsBegun (overwrite content 0 (0 ∷ []))
IsBegun-short content short =
    let within : 0 ≤ length content = omega arith in
    let gate = get_or-overwrite_inside content (0 ∷ []) 0 within 0 (omega arith) in
    record { unborn = is_unborn-zero (overwrite content 0 (0 ∷ [])) gate; gate = inl gate; some = omega (arith, length-overwrite content (0 ∷ []) 0 within) }

-- and so does any longer one that isn't formatted, unless the magic stands there
pub IsBegun-long : (content : List ℕ) → IsTrue (is_unborn content) → 1 < length content → IsBegun content
IsBegun-long content unborn long = record {
  unborn = unborn;
  gate = elim (is_unborn-cases content unborn) [
    | inl short ↦ absurd (omega (arith, short, long))
    | inr late ↦ elim late [ inl zero ↦ inl zero | inr there ↦ inr there.0 ]
  ];
  some = omega (arith, long);
}

pub SameRest-overwrite : (content : List ℕ) (at : ℕ) (bytes : List ℕ) → at ≤ length content → at + length bytes ≤ 134254592
    → SameRest content (overwrite content at bytes)
SameRest-overwrite content at bytes within below place past = get_or-overwrite_outside content bytes at within place (inr (omega (arith, below, past)))

-- one 0 is of no checked store, and nothing shorter is
kind_of-begun : (content : List ℕ) → length content ≤ 1 → kind_of (overwrite content 0 (0 ∷ [])) ≡ kind_of content
kind_of-begun content short =
    kind_of-short (overwrite content 0 (0 ∷ [])) (omega (arith, short, length-overwrite content (0 ∷ []) 0 (omega arith)))
    ∙ sym (kind_of-short content (omega (arith, short)))

-- a write of one 0 after a read of the length
module _ (old read new : Told) (knows : KnowsNow old) (reads : OnlyReads old read) where
  module _ (short : length old.content ≤ 1) where
    pub begun-failed : {step : Result (Unit {0}) Failed} (result : Result (Unit {0}) Failed) → IsErr result → Writes 0 (0 ∷ []) step read new
        → Reaches Begins result old new
    begun-failed result is wrote = reaches-torn Begins result is (writes-after_read 0 (0 ∷ []) old read new knows reads wrote)
        (λ found image stands differs. StandsFor-begin old.content image found short stands differs)

    pub begun-short : (value done : Unit {0}) → Durably (Writes 0 (0 ∷ [])) (Ok value) read new → Reaches Begins (Ok done) old new
    begun-short value done wrote =
        reaches-rewritten Begins (Ok done) (writes-after_read 0 (0 ∷ []) old read new knows reads wrote.step) (λ only. wrote.durable)
        (λ found image stands differs. StandsFor-begin old.content image found short stands differs)
        (DiffersIn-overwrite 0 old.content (0 ∷ []) (omega arith)) (
          record {
            there = IsBegun-short old.content short;
            kind = kind_of-begun old.content short;
            rest = SameRest-overwrite old.content 0 (0 ∷ []) (omega arith) (omega arith);
          },
          λ _. get_or-overwrite_inside old.content (0 ∷ []) 0 (omega arith) 0 (omega arith),
        )

zero-free : (content : List ℕ) → 1 < length content → IsTrue (has_no_kind content) → slice_index content 0 ≡ 0
zero-free content long free = elim (or_cases (nat_le (length content) 1) (slice_index content 0 == 0) free) [
  | inl short ↦ absurd (omega (arith, long, leb-true (length content) 1 short))
  | inr zero ↦ eqb-true (slice_index content 0) 0 zero
]

pub begun-long : (old read : Told) → KnowsNow old → OnlyReads old read → IsTrue (is_unborn old.content) → 1 < length old.content → (done : Unit {0})
    → Reaches Begins (Ok done) old read
begun-long old read knows reads unborn long done =
    reaches-read Begins (Ok done) knows reads (
      record {
        there = IsBegun-long old.content unborn long;
        kind = refl;
        rest = λ place past. refl;
      },
      λ free. zero-free old.content long free,
    )

-- as many slots, with what is written after the magic
slots_in-blank : (size longer : ℕ) → size ≤ longer → longer ≤ max (max size 9) (blank_end size) → slots_in longer ≡ slots_in size
slots_in-blank size longer le most = omega arith

pub few-magic_bytes : (content : List ℕ) → length (magic_bytes content) ≤ 8
few-magic_bytes content = elim (cases_Bool (has_magic content)) [
  | inl there ↦ omega (arith, ap length (cond-true (has_magic content) [] (magic Plain) there))
  | inr none ↦ omega (arith, ap length (cond-false (has_magic content) [] (magic Plain) none), length-magic Plain)
]

-- the magic and the zeros after it, lost, torn or whole
pub StandsFor-form : (content image : List ℕ) (found : SlotMap) → IsBegun content → StandsFor content found
    → DiffersIn (form_ranges content) content image → StandsFor image found
StandsFor-form content image found begun is differs = StandsFor-unborn content image found begun.unborn is unborn slots
  where
    slots : slots_in (length image) ≡ slots_in (length content)
    slots = slots_in-blank (length content) (length image) differs.no_shorter (omega (arith, differs.no_longer, few-magic_bytes content))

    first : slice_index image 0 ≡ slice_index content 0
    first = differs.kept 0 begun.some (inl (omega arith), (inl (omega arith), tt))

    -- with the magic there nothing is written before it
    unborn-magic : IsTrue (has_magic content) → IsTrue (is_unborn image)
    unborn-magic magic_there =
        let nine = long-has_magic content magic_there in
        let none : length (magic_bytes content) ≡ 0 = ap length (cond-true (has_magic content) [] (magic Plain) magic_there) in
        let same = has_magic-same content image nine (omega (arith, nine, differs.no_shorter))
        (λ place low high. differs.kept place (omega (arith, high, nine)) (inr (omega (arith, none, low)), (inl high, tt))) in
        elim (is_unborn-cases content begun.unborn) [
          | inl short ↦ absurd (omega (arith, short, nine))
          | inr late ↦ elim late [
            | inl zero ↦ is_unborn-zero image (first ∙ zero)
            | inr there ↦ is_unborn-gate image (same ∙ there.0) (rw first there.1)
          ]
        ]

    unborn : IsTrue (is_unborn image)
    unborn = elim begun.gate [ inl zero ↦ is_unborn-zero image (first ∙ zero) | inr there ↦ unborn-magic there ]

pub SameRest-trans : (first second third : List ℕ) → SameRest first second → SameRest second third → SameRest first third
SameRest-trans first second third was is place past = is place past ∙ was place past

overwrite-nothing : (content : List ℕ) → overwrite content 1 [] ≡ content
overwrite-nothing content = rw (append-nil, take-append-drop)

-- the magic of a kind that was written tells it
pub is_magic-overwrite : (kind : Kind) (content : List ℕ) → 0 < length content
    → IsTrue (has_magic (overwrite content 1 (magic kind))) × (kind_of (overwrite content 1 (magic kind)) ≡ kind)
unfolding kind_of
is_magic-overwrite kind [] some = absurd (omega (arith, some))
is_magic-overwrite Plain (byte ∷ content) some = (refl, refl)
is_magic-overwrite Checked (byte ∷ content) some = (refl, refl)

module _ (content : List ℕ) (begun : IsBegun content) where
  abbrev marked : List ℕ
  marked = overwrite content 1 (magic_bytes content)

  within : 1 ≤ length content
  within = omega (arith, begun.some)

  first-marked : slice_index marked 0 ≡ slice_index content 0
  first-marked = get_or-overwrite_outside content (magic_bytes content) 1 within 0 (inl (omega arith))

  closed-begun : IsFalse (opens (slice_index content 0))
  closed-begun = elim (is_unborn-cases content begun.unborn) [
    | inl short ↦ elim begun.gate [
      | inl zero ↦ rw zero
      | inr there ↦ absurd (omega (arith, short, long-has_magic content there))
    ]
    | inr late ↦ elim late [
      | inl zero ↦ rw zero
      | inr there ↦ there.1
    ]
  ]

  abbrev IsSoMarked : List ℕ → Type 0
  IsSoMarked list = IsTrue (has_magic list) × (kind_of list ≡ kind_of content)

  is_magic-marked : IsSoMarked marked
  is_magic-marked = elim (cases_Bool (has_magic content)) [
    | inl there ↦
        let none : magic_bytes content ≡ [] = cond-true (has_magic content) [] (magic Plain) there in
        rw (none, overwrite-nothing) (there, refl)
    | inr other ↦
        let all : magic_bytes content ≡ magic Plain = cond-false (has_magic content) [] (magic Plain) other in
        let plain : kind_of content ≡ Plain = kind_of-other content (or_parts (has_magic_of Plain content) (has_magic_of Checked content) other).1 in
        let there = is_magic-overwrite Plain content begun.some in
        rw all (there.0, there.1 ∙ sym plain)
  ]

  has_magic-marked : IsTrue (has_magic marked)
  has_magic-marked = is_magic-marked.0

  pub long-marked : 9 ≤ length marked
  long-marked = long-has_magic marked has_magic-marked

  length-marked : length marked ≤ max (length content) 9
  length-marked = omega (arith, few-magic_bytes content, length-overwrite content (magic_bytes content) 1 within)

  module _ (end : ℕ) (is_end : end ≡ blank_end (length content)) where
    abbrev wiped : List ℕ
    wiped = replicate (end - 9) 0

    abbrev blank : List ℕ
    blank = overwrite marked 9 wiped

    length-wiped : length wiped ≡ end - 9
    length-wiped = length-replicate {A = ℕ} (end - 9) 0

    length-blank : length blank ≡ max (length marked) end
    length-blank = omega (arith, length-overwrite marked wiped 9 long-marked, length-wiped, is_end)

    below : (place : ℕ) → place < 9 → slice_index blank place ≡ slice_index marked place
    below place lt = get_or-overwrite_outside marked wiped 9 long-marked place (inl lt)

    zero-at : (place : ℕ) → 9 ≤ place → place < 134254592 → slice_index blank place ≡ 0
    zero-at place low high = elim (cases_lt place end) [
      | inl inside ↦
          let there : 9 + (place - 9) ≡ place = omega (arith, low) in
          let fits : place - 9 < end - 9 = omega (arith, low, inside) in
          ap (slice_index blank) (sym there) ∙ get_or-overwrite_inside marked wiped 9 long-marked (place - 9) (omega (arith, fits, length-wiped))
          ∙ get_or-replicate {A = ℕ} (end - 9) (place - 9) 0 0 fits
      | inr past ↦ get_or_past blank place 0 (omega (arith, past, high, is_end, length-blank, length-marked))
    ]

    pub IsFormed-blank : IsFormed blank
    IsFormed-blank = record {
      closed = rw (← (below 0 (omega arith) ∙ first-marked)) at closed-begun;
      marked = has_magic-same marked blank long-marked (omega (arith, length-blank, long-marked)) (λ place low high. below place high) ∙ has_magic-marked;
      long = omega (arith, length-blank, is_end);
      blank = zero-at;
    }

    kind-blank : kind_of blank ≡ kind_of content
    kind-blank = kind_of-same marked blank long-marked (omega (arith, length-blank, long-marked)) (λ place low high. below place high) ∙ is_magic-marked.1

    -- both writes differ from the content where they are made
    pub DiffersIn-blank : DiffersIn (form_ranges content) content blank
    DiffersIn-blank =
        let wipes = subst (λ (count : ℕ). DiffersIn ((9, count) ∷ []) marked blank) (rw (length-wiped, is_end))
        (DiffersIn-overwrite 9 marked wiped long-marked) in
        DiffersIn-append ((1, length (magic_bytes content)) ∷ []) ((9, blank_end (length content) - 9) ∷ []) content marked blank
        (DiffersIn-overwrite 1 content (magic_bytes content) within) wipes

    SameRest-blank : SameRest content blank
    SameRest-blank = SameRest-differs (form_ranges content) content blank
        (λ place past. (inr (omega (arith, past, few-magic_bytes content)), (inr (omega (arith, past)), tt)))
        (omega (arith, few-magic_bytes content)) DiffersIn-blank

-- the run: a read, the magic, the zeros, a sync
module _ (old read marked : Told) (knows : KnowsNow old) (reads : OnlyReads old read) (begun : IsBegun old.content) where
  abbrev magic_range : List (ℕ × ℕ)
  magic_range = (1, length (magic_bytes old.content)) ∷ []

  to_marked : {result : Result (Unit {0}) Failed} → Marks result read marked → Marks result old marked
  to_marked {result} marks = writes-after_read 1 (magic_bytes old.content) old read marked knows reads (rw (← reads.same.content) marks)

  -- the magic alone
  pub marks-failed : {step : Result (Unit {0}) Failed} (result : Result (Unit {0}) Failed) → IsErr result → Marks step read marked
      → Reaches (Leads IsFormed) result old marked
  marks-failed result is marks = reaches-torn (Leads IsFormed) result is (to_marked marks)
      (λ found image stands differs. StandsFor-form old.content image found begun stands
      (DiffersIn-append magic_range ((9, blank_end (length old.content) - 9) ∷ []) old.content image image differs (DiffersIn-refl _ image)))

  module _ (value : Unit {0}) (marks : Marks (Ok value) read marked) where
    pub long-marks : 9 ≤ length marked.content
    long-marks = rw (to_marked marks).written (long-marked old.content begun)

    module _ (blank : Told) (knows_marked : KnowsNow marked) (end : ℕ) (is_end : end ≡ blank_end (length old.content)) where
      -- the magic, and zeros after it
      to_blank : {result : Result (Unit {0}) Failed} → WritesZeros 9 (end - 9) result marked blank
          → Rewrites (form_ranges old.content) (overwrite (overwrite old.content 1 (magic_bytes old.content)) 9 (replicate (end - 9) 0)) result old blank
      to_blank {result} wipes = record {
        tears = tears-joined old marked blank magic_range knows_marked (to_marked marks).tears ((9, blank_end (length old.content) - 9) ∷ [])
            (rw is_end at wipes.tears);
        written = on_ok_weaker result (λ is. is ∙ ap (λ (list : List ℕ). overwrite list 9 (replicate (end - 9) 0)) (to_marked marks).written) wipes.written;
      }

      pub wipes-failed : {step : Result (Unit {0}) Failed} (result : Result (Unit {0}) Failed) → IsErr result → WritesZeros 9 (end - 9) step marked blank
          → Reaches (Leads IsFormed) result old blank
      wipes-failed result is wipes = reaches-torn (Leads IsFormed) result is (to_blank wipes)
          (λ found image stands differs. StandsFor-form old.content image found begun stands differs)

      pub wipes-synced : (none : Unit {0}) (synced : Told) (result : Result (Unit {0}) Failed) → KnowsNow blank → WritesZeros 9 (end - 9) (Ok none) marked blank
          → Syncs result blank synced → Reaches (Leads IsFormed) result old synced
      wipes-synced none synced result knows_blank wipes syncs =
          reaches-rewritten (Leads IsFormed) result (rewrites-synced none result (to_blank wipes) knows_blank syncs) (λ only. syncs.durable)
          (λ found image stands differs. StandsFor-form old.content image found begun stands differs)
          (DiffersIn-blank old.content begun end is_end) (record {
            there = IsFormed-blank old.content begun end is_end;
            kind = kind-blank old.content begun end is_end;
            rest = SameRest-blank old.content begun end is_end;
          })

is_unborn-formed : (content : List ℕ) → IsFormed content → IsTrue (is_unborn content)
is_unborn-formed content formed = is_unborn-gate content formed.marked formed.closed

module _ (content image : List ℕ) (formed : IsFormed content) (differs : DiffersAt 0 1 content image) where
  inside : length_with ((0, 1) ∷ []) (length content) ≤ length content
  inside = omega (arith, formed.long)

  length-image : length image ≡ length content
  length-image = length-differs ((0, 1) ∷ []) content image inside differs

  beside : (place : ℕ) → 1 ≤ place → slice_index image place ≡ slice_index content place
  beside place low = get_or-differs ((0, 1) ∷ []) content image inside differs place (inr low, tt)

  magic-image : IsTrue (has_magic image)
  magic-image = has_magic-same content image (omega (arith, formed.long)) (omega (arith, formed.long, length-image)) (λ place low high. beside place low)
      ∙ formed.marked

  pub kind-image : kind_of image ≡ kind_of content
  kind-image = kind_of-same content image (omega (arith, formed.long)) (omega (arith, formed.long, length-image)) (λ place low high. beside place low)

  blank-image : (place : ℕ) → 9 ≤ place → place < 134254592 → slice_index image place ≡ 0
  blank-image place low high = beside place (omega (arith, low)) ∙ formed.blank place low high

  -- the gate is open: the file is formatted, and no other gate is open
  pub born-opened : IsTrue (opens (slice_index image 0)) → IsTrue (is_born image)
  born-opened opened = is_born-from image (omega (arith, formed.long, length-image)) opened magic-image

  pub gate-image : (place : ℕ) → 9 ≤ place → place < 134254592 → IsFalse (opens (slice_index image place))
  gate-image place low high = rw blank-image

  pub StandsFor-birth_gate : (found : SlotMap) → StandsFor content found → StandsFor image found
  StandsFor-birth_gate found is = elim (cases_Bool (opens (slice_index image 0))) [
    | inl opened ↦
        let its : SameMap (blank_map content) found = rw (redo-unborn content (is_unborn-formed content formed)) at is in
        let alike : SameMap (blank_map image) (blank_map content) = record { bytes = λ slot lt. refl; extent = ap slots_in length-image } in
        StandsFor-first_closed image found (born-opened opened) (gate-image 512 (omega arith) (omega arith))
        (SameMap-trans _ _ _ (file_map-blank image blank-image) (SameMap-trans _ _ _ alike its))
    | inr closed ↦ StandsFor-unborn content image found (is_unborn-formed content formed) is (is_unborn-gate image magic-image closed)
        (ap slots_in length-image)
  ]

-- the gate is opened
pub birth-opened : (content : List ℕ) → IsFormed content
    → IsShut (overwrite content 0 (165 ∷ []))
birth-opened content formed =
    let within : 0 ≤ length content = omega arith in
    let image = overwrite content 0 (165 ∷ []) in
    let differs = DiffersIn-overwrite 0 content (165 ∷ []) within in
    let gate = get_or-overwrite_inside content (165 ∷ []) 0 within 0 (omega arith) in (
      born-opened content image formed differs (subst (λ (byte : ℕ). IsTrue (opens byte)) (sym gate) refl),
      gate-image content image formed differs 512 (omega arith) (omega arith),
    )

-- the gate is written, and synced
pub gate-opened : (old new : Told) (result : Result (Unit {0}) Failed) → IsFormed old.content → Durably (Writes 0 (165 ∷ [])) result old new
    → Durably (Reaches (Leads IsShut)) result old new
gate-opened old new result formed wrote = record {
  step = reaches-rewritten (Leads IsShut) result wrote.step (λ only. wrote.durable)
      (λ found image stands differs. StandsFor-birth_gate old.content image formed differs found stands)
      (DiffersIn-overwrite 0 old.content (165 ∷ []) (omega arith))
      (record {
        there = birth-opened old.content formed;
        kind = kind-image old.content (overwrite old.content 0 (165 ∷ [])) formed (DiffersIn-overwrite 0 old.content (165 ∷ []) (omega arith));
        rest = SameRest-overwrite old.content 0 (165 ∷ []) (omega arith) (omega arith);
      });
  durable = wrote.durable;
}

-- a step that leads on after another
pub Leads-joined : {P Q : List ℕ → Type 0} (first second third : List ℕ) → Leads P first second → Leads Q second third → Leads Q first third
Leads-joined first second third was is = record {
  there = is.there;
  kind = is.kind ∙ was.kind;
  rest = SameRest-trans first second third was.rest is.rest;
}

-- the whole birth
pub born-joined : (old begun formed new : Told) (first second : Unit {0}) (result : Result (Unit {0}) Failed) → Reaches Begins (Ok first) old begun
    → Reaches (Leads IsFormed) (Ok second) begun formed → Durably (Reaches (Leads IsShut)) result formed new
    → Durably (Reaches (Leads IsShut)) result old new
born-joined old begun formed new first second result begins forms opens = record {
  step = reaches-joined second result
      (reaches-joined {S = Leads IsFormed} first (Ok second) begins forms (λ was is. Leads-joined old.content begun.content formed.content was.0 is))
      opens.step (Leads-joined old.content formed.content new.content);
  durable = opens.durable;
}
