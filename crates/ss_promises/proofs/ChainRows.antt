-- Worked rows of runs over one file, one after the other, computed.
use Rattle.ss_program.specs.declared.status.Status.TheVariants.{DiskFault, Done}
use Rattle.ss_program.proofs.Common.{◌≡◌, ◌⊎◌, ◌∙◌, ◌≤◌, ◌++◌, ℕ, List, [], ◌∷◌, length, take, ap, arith, inl, inr, lit≤, refl, false, Some}
use Rattle.ss_program.proofs.Common.{None, codes, flat_map, negsuc, Lines, Serve, Check, Gen, Each, Value, Happened, added, KnowsNow}
use Rattle.ss_program.proofs.Common.{DiskView, WhereTold, Stands-unformed, Stands, Told}
use Rattle.ss_program.proofs.Common.{generated_lines, History, accepted, plain_talk, Result, Bool, true, Ok, Shared, append-nil}
use Rattle.ss_promises.specs.Chained.{AreLinked, Extends, IsLeftBy, Link, a_run, accepted_of, acked_of, at_a_moment, by_crash}
use Rattle.ss_promises.specs.Chained.{by_itself, bytes_by, making, offered_in}
use Rattle.hex.specs.Hex.{encode_with}
use Rattle.ss_codec.specs.Fields as Fields
use Rattle.ss_fields.specs.Fields as Numbers
use Rattle.ss_frames.specs.Frame.{frame_spelled}
use Rattle.ss_outside.specs.declared.source.Failed.{Failed}
use Rattle.std.specs.Fmt.{digits}
use Rattle.ss_catalog.specs.Names.{is_name}
use Rattle.ss_command.specs.Grammar.{meaning}
use Rattle.ss_command.specs.Lines.{ended_lines, unended}
use Rattle.ss_command.specs.Words.{words}
use Rattle.ss_fields.specs.Words.{is_number, number_of, number_up_to, signed_of}
use Rattle.ss_journal.specs.Format.{is_unborn}
use Rattle.ss_model.specs.Refusals.{refuses}
use Rattle.ss_model.specs.State.{state}
use Rattle.ss_targets.specs.Windowing.{window_index}
use Rattle.ss_promises.proofs.AckedRows.{created, one-or_two, read-first, ten}
use Rattle.ss_promises.proofs.ChainLemmas.{extends-linked}

-- one more value of the stream
abbrev twenty : Happened
twenty = added (Value (codes "a") 20 (negsuc 2))

-- the inputs of two runs, each line with its line end
abbrev first_input : List ℕ
first_input = flat_map (λ line. line ++ 10 ∷ []) (codes "create a exp 2 1 1" ∷ codes "append a 10 5" ∷ [])

abbrev second_input : List ℕ
second_input = codes "append a 20 -3" ++ 10 ∷ []

-- the events of a run are those of its input, or of the generated file
accepted-first : accepted_of (a_run (Some (Serve (Lines false) Each))) first_input [] ≡ created ∷ ten ∷ []
unfolding ended_lines unended meaning words is_number number_of number_up_to signed_of is_name state refuses window_index
accepted-first = refl

accepted-second : accepted_of (a_run (Some (Serve (Lines false) Each))) second_input (created ∷ []) ≡ twenty ∷ []
unfolding ended_lines unended meaning words is_number number_of number_up_to signed_of is_name state refuses window_index
accepted-second = refl

accepted-after_both : accepted_of (a_run (Some (Serve (Lines false) Each))) second_input (created ∷ ten ∷ []) ≡ twenty ∷ []
unfolding ended_lines unended meaning words is_number number_of number_up_to signed_of is_name state refuses window_index
accepted-after_both = refl

accepted-check : accepted_of (a_run (Some Check)) first_input [] ≡ []
accepted-check = refl

accepted-none : accepted_of (a_run None) first_input [] ≡ []
accepted-none = refl

accepted-generated : (seed count : ℕ) (history : History) →
    accepted_of (a_run (Some (Gen seed count))) first_input history ≡ accepted (plain_talk history) (generated_lines seed count)
accepted-generated seed count history = refl

-- with the last byte of its reply an event is acknowledged, where there is an input
acked-less : acked_of (a_run (Some (Serve (Lines false) Each))) first_input 6 [] ≡ 0
unfolding ended_lines unended meaning words is_number number_of number_up_to signed_of is_name state refuses window_index digits
acked-less = refl

acked-one : acked_of (a_run (Some (Serve (Lines false) Each))) first_input 7 [] ≡ 1
unfolding ended_lines unended meaning words is_number number_of number_up_to signed_of is_name state refuses window_index digits
acked-one = refl

acked-generated : (seed count bytes : ℕ) (history : History) → acked_of (a_run (Some (Gen seed count))) first_input bytes history ≡ 0
acked-generated seed count bytes history = refl

accepted-making : (result : Result Bool Failed) (history : History) → accepted_of (making result) first_input history ≡ []
accepted-making result history = refl

acked-making : (result : Result Bool Failed) (bytes : ℕ) (history : History) → acked_of (making result) first_input bytes history ≡ 0
acked-making result bytes history = refl

-- of a framed run one whose sink got the `ok` and not yet the frame behind it
acked-framed : acked_of (a_run (Some (Serve (Lines true) Each))) first_input 7 [] ≡ 1
unfolding ended_lines unended meaning words is_number number_of number_up_to signed_of is_name state refuses window_index digits encode_with
    frame_spelled Fields.with_field Numbers.number_bytes
acked-framed = refl

-- how much a sink that had a byte got: all that it has, what it had got by the crash, or nothing that is known
bytes-itself : bytes_by by_itself (1 ∷ []) (1 ∷ 2 ∷ 3 ∷ 4 ∷ []) ≡ 3
bytes-itself = refl

bytes-crash : bytes_by (by_crash (1 ∷ 2 ∷ 3 ∷ [])) (1 ∷ []) (1 ∷ 2 ∷ 3 ∷ 4 ∷ []) ≡ 2
bytes-crash = refl

bytes-moment : bytes_by at_a_moment (1 ∷ []) (1 ∷ 2 ∷ 3 ∷ 4 ∷ []) ≡ 0
bytes-moment = refl

-- runs of these inputs, in which each event is sealed by itself
module _ {D : Type 0} (a b c d : D) (image last : List ℕ) where
  -- one whose disk fails after the sink got one reply
  abbrev failed : Link D
  failed = record {
    called = a_run (Some (Serve (Lines false) Each));
    old = a;
    new = b;
    input = first_input;
    rest = Some [];
    had = [];
    has = codes "ok 0 0" ++ 10 ∷ [];
    status = DiskFault;
    ending = by_itself;
    image = image;
  }

  -- one that a crash cuts off when its sink had got so much, one that it cuts off at some moment, and one that is done
  abbrev cut_after : List ℕ → Link D
  cut_after got = record failed { ending = by_crash got }

  abbrev cut_off : Link D
  cut_off = record failed { ending = at_a_moment }

  abbrev finished : Link D
  finished = record {
    called = a_run (Some (Serve (Lines false) Each));
    old = c;
    new = d;
    input = second_input;
    rest = Some [];
    had = [];
    has = codes "ok 2 2" ++ 10 ∷ [];
    status = Done;
    ending = by_itself;
    image = last;
  }

  -- the one that failed holds the event whose reply the sink got, and at most one more
  after-failed : (next : History) → Extends failed [] next → (next ≡ created ∷ []) ⊎ (next ≡ created ∷ ten ∷ [])
  unfolding ended_lines unended meaning words is_number number_of number_up_to signed_of is_name state refuses window_index digits
  after-failed next ext =
      let acked : 1 ≤ ext.j = ext.acked in
      let few : ext.j ≤ 2 = ext.few in
      elim (one-or_two ext.j acked few) [
        | inl one ↦ inl (ext.is ∙ one)
        | inr both ↦ inr (ext.is ∙ both)
      ]

  fewer-failed : Extends failed [] [] → ⊥
  fewer-failed ext = elim (after-failed [] ext) [
    | inl one ↦ cc
    | inr both ↦ cc
  ]

  -- the one that a crash cut off holds the event whose reply the sink had got by then, and where that lacks a byte perhaps none
  after-cut : (next : History) → Extends (cut_after (codes "ok 0 0" ++ 10 ∷ [])) [] next → (next ≡ created ∷ []) ⊎ (next ≡ created ∷ ten ∷ [])
  unfolding ended_lines unended meaning words is_number number_of number_up_to signed_of is_name state refuses window_index digits
  after-cut next ext =
      let acked : 1 ≤ ext.j = ext.acked in
      let few : ext.j ≤ 2 = ext.few in
      elim (one-or_two ext.j acked few) [
        | inl one ↦ inl (ext.is ∙ one)
        | inr both ↦ inr (ext.is ∙ both)
      ]

  fewer-cut : Extends (cut_after (codes "ok 0 0" ++ 10 ∷ [])) [] [] → ⊥
  fewer-cut ext = elim (after-cut [] ext) [
    | inl one ↦ cc
    | inr both ↦ cc
  ]

  before-cut : Extends (cut_after (codes "ok 0 0")) [] []
  unfolding ended_lines unended meaning words is_number number_of number_up_to signed_of is_name state refuses window_index digits
  before-cut = record {
    j = 0;
    is = refl;
    few = lit≤ tt;
    acked = lit≤ tt;
    at_most = λ known form each. lit≤ tt;
    in_batch = λ known form shared. cc;
    done = λ known done. cc;
    starved = λ known form sealing asked starved. cc;
  }

  -- of one that was cut off at some moment none is known to be acknowledged
  none-cut_off : Extends cut_off [] []
  unfolding ended_lines unended meaning words is_number number_of number_up_to signed_of is_name state refuses window_index digits
  none-cut_off = record {
    j = 0;
    is = refl;
    few = lit≤ tt;
    acked = lit≤ tt;
    at_most = λ known form each. absurd known;
    in_batch = λ known form shared. absurd known;
    done = λ known done. cc;
    starved = λ known form sealing asked starved. cc;
  }

  -- the call that makes a store a checked one adds no event
  abbrev made : Link D
  made = record failed { called = making (Ok true); ending = by_itself }

  after-made : (history next : History) → Extends made history next → next ≡ history
  after-made history next ext =
      let none : ext.j ≡ 0 = omega (arith, ext.few) in
      ext.is ∙ ap (λ j. history ++ take j []) none ∙ append-nil history

  -- a batch that read the first line alone, and whose disk failed: it holds no event of the second
  abbrev batch : Link D
  batch = record failed {
    called = a_run (Some (Serve (Lines false) Shared));
    rest = Some (codes "append a 10 5" ++ 10 ∷ []);
  }

  within-batch : (next : History) → Extends batch [] next → next ≡ created ∷ []
  unfolding ended_lines unended meaning words is_number number_of number_up_to signed_of is_name state refuses window_index digits
  within-batch next ext =
      let acked : 1 ≤ ext.j = ext.acked in
      let all : ext.j ≤ 2 = ext.few in
      let read = ext.in_batch tt (Lines false) refl in
      let one = read-first read.0 read.1 read.2 read.3 in
      let few : ext.j ≤ 1 = rw (one.0, one.1) at read.4 in
      let is_one : ext.j ≡ 1 = omega (arith, acked, few) in
      ext.is ∙ ap (λ j. take j (created ∷ ten ∷ [])) is_one

  batch-read : Extends batch [] (created ∷ [])
  unfolding ended_lines unended meaning words is_number number_of number_up_to signed_of is_name state refuses window_index digits
  batch-read = record {
    j = 1;
    is = refl;
    few = lit≤ tt;
    acked = lit≤ tt;
    at_most = λ known form each. cc;
    in_batch = λ known form shared.
        let same : Lines false ≡ form = cc in
        rw (← same) (codes "create a exp 2 1 1" ++ 10 ∷ [], codes "append a 10 5" ++ 10 ∷ [], refl, refl, lit≤ tt);
    done = λ known done. cc;
    starved = λ known form sealing asked starved. cc;
  }

  -- what a sink had got by a crash is a front of what it has
  left-crash : (old new : Told) → new.may_leave image → IsLeftBy (by_crash (1 ∷ [])) old new (1 ∷ 2 ∷ []) image
  left-crash old new may = (may, (2 ∷ [], refl))

  left-other : (old new : Told) → IsLeftBy (by_crash (3 ∷ [])) old new (1 ∷ 2 ∷ []) image → ⊥
  left-other old new left = let wrong : 1 ∷ 2 ∷ [] ≡ 3 ∷ left.1.0 = left.1.1 in cc

  -- the one that is done holds its event
  after-finished : (history next : History) → offered_in finished history ≡ twenty ∷ [] → Extends finished history next → next ≡ history ++ twenty ∷ []
  after-finished history next offers ext =
      let all : ext.j ≡ 1 = ext.done tt refl ∙ ap (λ (es : List Happened). length es) offers in
      ext.is ∙ ap (λ j. history ++ take j (offered_in finished history)) all ∙ ap (λ es. history ++ take 1 es) offers

  -- over an empty file the two leave the events of the second behind the one or the two of the first
  module _ (seen : D → DiskView) (knows : (disk : D) → WhereTold (seen disk) KnowsNow) where
    two-runs : AreLinked seen (failed ∷ finished ∷ []) [] last → Stands (created ∷ twenty ∷ []) last ⊎ Stands (created ∷ ten ∷ twenty ∷ []) last
    unfolding is_unborn
    two-runs linked =
        let held = extends-linked seen knows (failed ∷ finished ∷ []) [] last [] (Stands-unformed [] refl) linked in
        let next = held.1.0 in
        let then = held.1.2.0 in
        let stands : Stands then last = rw held.1.2.2 at held.2 in
        elim (after-failed next held.1.1) [
          | inl one ↦ inl (
              let same : then ≡ next ++ twenty ∷ [] =
              after-finished next then (ap (λ h. offered_in finished h) one ∙ accepted-second) held.1.2.1 in
              rw (same ∙ ap (λ (h : History). h ++ twenty ∷ []) one) at stands)
          | inr both ↦ inr (
              let same : then ≡ next ++ twenty ∷ [] =
              after-finished next then (ap (λ h. offered_in finished h) both ∙ accepted-after_both) held.1.2.1 in
              rw (same ∙ ap (λ (h : History). h ++ twenty ∷ []) both) at stands)
        ]
