use Rattle.ss_codec.proofs.RecordLemmas.{none-decoded, some-decoded}
use Rattle.ss_codec.proofs.decoding.decode.Goals as goal

pub returns-then-bytes-eq-WINDOW-clause-some : goal.returns-then-bytes-eq-WINDOW-clause-some
returns-then-bytes-eq-WINDOW-clause-some c = some-decoded c.decode_window.result c.args.bytes.now c.decode_window.ensures

pub returns-then-bytes-eq-WINDOW-clause-none : goal.returns-then-bytes-eq-WINDOW-clause-none
returns-then-bytes-eq-WINDOW-clause-none c = none-decoded c.decode_window.result c.args.bytes.now c.decode_window.ensures

pub returns-else-bytes-eq-WINDOW-clause-some : goal.returns-else-bytes-eq-WINDOW-clause-some
returns-else-bytes-eq-WINDOW-clause-some c = some-decoded c.decode_other.result c.args.bytes.now c.decode_other.ensures

pub returns-else-bytes-eq-WINDOW-clause-none : goal.returns-else-bytes-eq-WINDOW-clause-none
returns-else-bytes-eq-WINDOW-clause-none c = none-decoded c.decode_other.result c.args.bytes.now c.decode_other.ensures
