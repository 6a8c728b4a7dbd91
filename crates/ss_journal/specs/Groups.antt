-- A group of entries: how puts are spelled in as few as hold them.
use Rattle.std.specs.Prelude.{ℕ, ◌+◌, ◌-◌, ◌*◌, ◌/◌, List, [], ◌∷◌, ◌++◌, take, drop, zero, suc}
use Rattle.ss_journal.specs.declared.put.Put.{Put}
use Rattle.ss_journal.specs.declared.format.TheConstants.{GATE_OPEN, MOST_PUTS}
use Rattle.ss_journal.specs.declared.kind.Kind.{Kind}
use Rattle.ss_journal.specs.Checks.{entry_form}
use Rattle.ss_journal.specs.Entries.{entry_body}

-- how many entries hold so many puts
abbrev pub entry_count : ℕ → ℕ
entry_count count = (count + (MOST_PUTS - 1)) / MOST_PUTS

-- the puts of entry k of a group
abbrev pub part : ℕ → List Put → List Put
part k puts = take MOST_PUTS (drop (MOST_PUTS * k) puts)

-- an entry of these puts, number n of the file, with its gate open, in the form of a kind
abbrev pub open_entry : Kind → ℕ → List Put → List ℕ
open_entry kind n puts = entry_form kind n (GATE_OPEN ∷ entry_body puts)

-- the first k entries of a group of these puts, which begins with entry n of the file
abbrev pub group_bytes : Kind → ℕ → ℕ → List Put → List ℕ
group_bytes kind n zero puts = []
group_bytes kind n (suc k) puts = group_bytes kind n k puts ++ open_entry kind (n + k) (part k puts)
