use Rattle.ss_program.proofs.Common.{◌≡◌, ◌*◌, ◌∷◌, [], true, false, length, take, flat_map, side_of}
use Rattle.ss_program.proofs.certifying.sides_of.Given as goal

-- the lines of the first certificates, two of each
abbrev pub invariant-loop-cert : goal.invariant-loop-cert
invariant-loop-cert l = record {
  lines : l.lines.items ≡ flat_map (λ c. side_of c true ∷ side_of c false ∷ []) (take l.cert-index l.evidence.certs.items);
  count : length l.lines.items ≡ 2 * l.cert-index;
}
