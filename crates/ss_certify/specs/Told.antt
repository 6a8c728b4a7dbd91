-- How evidence is told: a line of its end, and two of each window that the range splits.
use Rattle.std.specs.Prelude.{ℕ, ◌-◌, Bool, true, false, if◌then◌else◌, pos, List, [], ◌∷◌, ◌++◌, length, flat_map, replicate, take}
use Rattle.ss_bounds.specs.declared.fraction.Fraction.{Fraction}
use Rattle.ss_model.specs.declared.types.Run.{Run}
use Rattle.ss_report.specs.declared.reply.Reply.{Reply}
use Rattle.ss_report.specs.declared.reply.Reply.TheVariants.{CertifyHead, CertifyMeanHead, Side}
use Rattle.ss_certify.specs.declared.evidence.Answer.{Answer}
use Rattle.ss_certify.specs.declared.evidence.Answer.TheVariants.{Count, Sum, Mean}
use Rattle.ss_certify.specs.declared.evidence.Cert.{Cert}
use Rattle.ss_certify.specs.declared.evidence.Evidence.{Evidence}

-- three runs: these, and behind them runs of no values
abbrev pub three_runs : List Run → List Run
three_runs runs = take 3 (runs ++ replicate 3 (record { value = pos 0; times = 0 }))

-- the values of a certificate inside the range, or those outside it
abbrev pub side_of : Cert → Bool → Reply
side_of c inner = Side (record {
  inner = inner;
  first = c.first;
  last = c.last;
  values = if inner then c.x else c.split.count - c.x;
  runs = three_runs (if inner then c.inside.items else c.outside.items);
})

-- an end, what is known exactly, and how many windows the range splits: of a count how many values are known, of a sum their sum, and of
-- a mean both
abbrev pub head_with : Answer → Fraction → ℕ → Reply
head_with (Count n) known windows = CertifyHead (pos n) (pos known.under) windows
head_with (Sum sum) known windows = CertifyHead sum known.over windows
head_with (Mean mean) known windows = CertifyMeanHead mean known windows

abbrev pub head_of : Evidence → Reply
head_of w = head_with w.answer w.known (length w.certs.items)

-- the lines of evidence, in order
abbrev pub told : Evidence → List Reply
told w = head_of w ∷ flat_map (λ c. side_of c true ∷ side_of c false ∷ []) w.certs.items
