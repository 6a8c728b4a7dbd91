use Rattle.std.proofs.Common.{arith, rules}
use Rattle.ss_catalog.proofs.NameLemmas.{length-is_name}
use Rattle.ss_frames.proofs.encoding.write_head.Goals as goal

pub overflow_cast-word : goal.overflow_cast-word
overflow_cast-word c = let short = length-is_name c.as_bytes-word.result.now c.as_bytes-word.ensures.name in search rules

pub write_text-requires : goal.write_text-requires
write_text-requires c = let short = length-is_name c.as_bytes-word.result.now c.as_bytes-word.ensures.name in
    omega (arith, short, c.requires, c.write_u8.auto.bytes, c.write_u8-2.auto.bytes, c.write_u8-3.auto.bytes, c.write_u32.auto.bytes, c.write_u64.auto.bytes)
