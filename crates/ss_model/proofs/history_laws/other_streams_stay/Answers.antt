use Rattle.ss_model.proofs.ReadLemmas.{stream_named-stepped}
use Rattle.ss_model.proofs.history_laws.other_streams_stay.Goals as goal

pub returns : goal.returns
returns c = stream_named-stepped
