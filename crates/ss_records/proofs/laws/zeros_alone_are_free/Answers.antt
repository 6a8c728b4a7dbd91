use Rattle.std.proofs.Common.{◌∙◌, ap, ℕ, replicate}
use Rattle.ss_records.specs.Live.{are_zeros}
use Rattle.ss_records.proofs.LiveLemmas.{replicate-are_zeros}
use Rattle.ss_records.proofs.laws.zeros_alone_are_free.Goals as goal

pub returns : goal.returns
returns c bytes long =
    (λ are. replicate-are_zeros bytes are ∙ ap (λ (n : ℕ). replicate n 0) long, λ is. ap are_zeros is)
