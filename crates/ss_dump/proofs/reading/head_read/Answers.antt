use Rattle.std.proofs.Common.{◌≡◌, length, List, ℕ, ◌-◌, take, drop}
use Rattle.std.specs.Fmt.{decimal}
use Rattle.ss_dump.specs.Dump.{head_line}
use Rattle.ss_dump.proofs.ReadLemmas.{number-in_head, whole-rest}
use Rattle.ss_dump.proofs.reading.head_read.Goals as goal

number-of : (line : List ℕ) (count : ℕ) → line ≡ head_line count →
    take (length (take (length line - 5) (drop 5 line)) - 1) (take (length line - 5) (drop 5 line)) ≡ decimal count
number-of line count same = rw (whole-rest 5 line) (rw same (number-in_head count))

pub returns : goal.returns
returns c count few line = c.read_number.ensures count few (number-of c.args.line.now count line)
