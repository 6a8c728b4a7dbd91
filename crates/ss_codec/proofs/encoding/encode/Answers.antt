use Rattle.ss_codec.specs.Record.{spelling}
use Rattle.ss_codec.proofs.RecordLemmas.{IsStream-is_valid}
use Rattle.ss_codec.proofs.encoding.encode.Goals as goal

pub write_stream-requires-clause-short_name : goal.write_stream-requires-clause-short_name
write_stream-requires-clause-short_name c = (IsStream-is_valid _ _ _ _ (rw c.in-Stream.is at c.requires)).short

pub returns-in-Window : goal.returns-in-Window
unfolding spelling
returns-in-Window c = rw c.in-Window.is c.write_window.ensures

pub returns-in-Stream : goal.returns-in-Stream
unfolding spelling
returns-in-Stream c = rw c.in-Stream.is c.write_stream.ensures
