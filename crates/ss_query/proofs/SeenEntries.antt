-- What a look at an entry tells, where its record was read.
use Rattle.std.proofs.Common.{◌≡◌, ◌∙◌, ℕ, ◌≤◌, false, Ok, Err, refl, sym, ap, arith}
use Rattle.std.specs.Prelude.{◌||◌, nat_lt}
use Rattle.std.proofs.lemmas.Bool.{cond-false}
use Rattle.std.proofs.lemmas.Bool.Decides.{nat_tests}
use Rattle.ss_catalog.specs.declared.query.Query.{Query}
use Rattle.ss_line.specs.declared.entry.Entry.{Entry}
use Rattle.ss_model.specs.Interval.{is_apart}
use Rattle.ss_model.specs.declared.types.Window.{Window}
use Rattle.ss_outside.proofs.StepLemmas.{step-as, step-verdict}
use Rattle.ss_outside.specs.Disk.{DiskView}
use Rattle.ss_outside.specs.Step.{Step}
use Rattle.ss_outside.specs.Verdict.{changed, fine}
use Rattle.ss_records.specs.Kept.{RecordsState}
use Rattle.ss_parts.specs.Held.{span_held, span_of}
use Rattle.ss_parts.specs.declared.parts.StreamParts.{StreamParts}
use Rattle.ss_summary.specs.Figures.{Figures}
use Rattle.ss_query.specs.Answered.{IsSeenAs, SeesEntry}
use Rattle.ss_query.specs.Asked.{Follows, seen_after, seen_with}
use Rattle.ss_query.specs.declared.asking.Seen.{Seen}
use Rattle.ss_parts.specs.declared.read_error.ReadError.TheVariants as error
use Rattle.ss_parts.specs.Reading.{IsRead, ReadsWindow, verdict_of_read}
use Rattle.ss_parts.specs.declared.read_error.ReadError.{ReadError}

same-verdict : (why : ReadError) → verdict_of_read {T = Figures} (Err why) ≡ verdict_of_read {T = Seen} (Err why)
same-verdict error.Disk = refl
same-verdict (error.Changed slot) = refl

IsSeenAs-err : (summary : Figures) (seen : Seen) (why : ReadError) → IsRead summary (Err why) → IsSeenAs seen (Err why)
IsSeenAs-err summary seen error.Disk read = tt
IsSeenAs-err summary seen (error.Changed slot) read = absurd read

-- a window with a time in the range
not-apart : (from to first last : ℕ) → from ≤ last → first ≤ to → (nat_lt last from || nat_lt to first) ≡ false
not-apart from to first last ends begins = grind (arith, nat_tests)

-- the window of an entry, by what was read of it
window-read : (entry : Entry) (w : Window) (f : Figures) → span_held entry ≡ span_of w → f ≡ w.summary →
    ◌≡◌ {A = Window} (record { first = entry.first; summary = f }) w
window-read entry w f span same = let first : entry.first ≡ w.first = ap (λ (p : ℕ × ℕ). p.0) span in λ i. record { first = first i; summary = same i }

module _ {old new : DiskView} {part : StreamParts} {entry : Entry} {was is : RecordsState} (query : Query) (seen : Seen) where
  pub seen-err : (why : ReadError) → Step (verdict_of_read {T = Figures} (Err why)) old new (ReadsWindow part entry was is (Err why)) →
      Step (verdict_of_read {T = Seen} (Err why)) old new (SeesEntry part query entry seen was is (Err why))
  seen-err why step =
      step-verdict (same-verdict why) step (λ read. record {
        window = λ others w has span times free follows.
            IsSeenAs-err w.summary (seen_after part.landmarks.landmarks query.kind query.from query.to seen w) why (read.window others w has span times free);
        kept = rw same-verdict at read.kept;
        reads = read.reads;
      })

  module _ {f : Figures} (step : Step fine old new (ReadsWindow part entry was is (Ok f))) where
    -- a window that can't come next is none of a stream
    pub seen-changed : (Follows seen (record { first = entry.first; summary = f }) → ⊥) →
        Step (changed entry.slot) old new (SeesEntry part query entry seen was is (Err (error.Changed entry.slot)))
    seen-changed wrong =
        let seen_as : Step fine old new (SeesEntry part query entry seen was is (Err (error.Changed entry.slot))) = step-as step (λ read. record {
          window = λ others w has span times free follows. wrong (rw (← window-read entry w f span (read.window others w has span times free)) at follows);
          kept = read.kept;
          reads = read.reads;
        }) in
        record { tells = seen_as.tells; counted = seen_as.counted; told = seen_as.told }

    pub seen-more : query.from ≤ entry.t_last → entry.t_first ≤ query.to → (now : Seen) →
        now ≡ seen_with part.landmarks.landmarks query.kind query.from query.to seen (record { first = entry.first; summary = f }) →
        Step fine old new (SeesEntry part query entry seen was is (Ok now))
    seen-more ends begins now same =
        step-as step (λ read. record {
          window = λ others w has span times free follows.
              let first : entry.t_first ≡ w.summary.t_first = ap (λ (p : ℕ × ℕ). p.0) times in
              let last : entry.t_last ≡ w.summary.t_last = ap (λ (p : ℕ × ℕ). p.1) times in
              let meets : is_apart query.from query.to w ≡ false =
              not-apart query.from query.to w.summary.t_first w.summary.t_last (omega (arith, last, ends)) (omega (arith, first, begins)) in
              same ∙ ap (λ (u : Window). seen_with part.landmarks.landmarks query.kind query.from query.to seen u)
              (window-read entry w f span (read.window others w has span times free))
              ∙ sym (cond-false (is_apart query.from query.to w) seen (seen_with part.landmarks.landmarks query.kind query.from query.to seen w) meets);
          kept = read.kept;
          reads = read.reads;
        })
