use Rattle.ss_fields.specs.Fields.{number_bytes}
use Rattle.ss_fields.proofs.FieldLemmas.{put_mid-written, length-number_bytes}
use Rattle.ss_fields.proofs.bytes.put_u64.Goals as goal

pub returns : goal.returns
unfolding number_bytes
returns c =
    put_mid-written c.args.at 8 c.args.bytes.now (number_bytes 8 c.args.value) c.write_u64.new.buf (length-number_bytes 8 c.args.value) c.requires
    c.write_u64.ensures
