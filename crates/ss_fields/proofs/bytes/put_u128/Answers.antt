use Rattle.ss_fields.specs.Fields.{number_bytes}
use Rattle.ss_fields.proofs.FieldLemmas.{put_mid-written, length-number_bytes}
use Rattle.ss_fields.proofs.bytes.put_u128.Goals as goal

pub returns : goal.returns
unfolding number_bytes
returns c =
    put_mid-written c.args.at 16 c.args.bytes.now (number_bytes 16 c.args.value) c.write_u128.new.buf (length-number_bytes 16 c.args.value) c.requires
    c.write_u128.ensures
