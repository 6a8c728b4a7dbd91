use Rattle.ss_query.specs.Asked.{seen_of}
use Rattle.ss_certify.proofs.FillLemmas.{Fills-fill}
use Rattle.ss_certify.proofs.MadeLemmas.{Certifies-certificate_of, IsEvidence-evidence_of}
use Rattle.ss_certify.proofs.SharpLemmas.{HasCuts-seen_of}
use Rattle.ss_certify.proofs.making_laws.evidence_shows_the_end.Goals as goal

pub returns-clause-window : goal.returns-clause-window
returns-clause-window c = λ kind end known cut rest is others. Certifies-certificate_of kind end known cut rest is others

pub returns-clause-answer : goal.returns-clause-answer
returns-clause-answer c = λ kind end seen certified has. IsEvidence-evidence_of kind end seen certified has

pub returns-clause-stream : goal.returns-clause-stream
returns-clause-stream c = λ kind end from to s certified is. IsEvidence-evidence_of kind end (seen_of kind from to s) certified
    (HasCuts-seen_of kind from to s is)

pub returns-clause-fill : goal.returns-clause-fill
returns-clause-fill c = λ k s m M order low high. Fills-fill k s m M order low high
