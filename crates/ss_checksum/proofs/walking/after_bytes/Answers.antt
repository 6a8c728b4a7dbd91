use Rattle.std.proofs.Common.{◌≡◌, ◌∙◌, ap, ap₂, ◌/◌, length}
use Rattle.std.specs.Prelude.{fold}
use Rattle.ss_checksum.specs.Checksum.{after_byte, after_bytes}
use Rattle.ss_checksum.proofs.WordLemmas.{fold-chunks}
use Rattle.ss_checksum.proofs.walking.after_bytes.Goals as goal

pub returns : goal.returns
returns c =
    let start = c.args.start in
    let bytes = c.args.bytes.now in
    let fours = c.as_chunks.result.0.now in
    let few = c.as_chunks-2.result.1.now in
    let state = c.by_sixteens.result in
    let over_few : c.by_fours.result ≡ fold after_bytes state few =
    c.by_fours.ensures
    ∙ ap₂ (fold after_bytes) (c.by_eights.ensures ∙ ap (fold (fold after_bytes) state) c.as_chunks-3.ensures.front) c.as_chunks-3.ensures.back
    ∙ fold-chunks after_bytes 2 (length few / 2) state few in
    let over_fours : c.by_fours.result ≡ fold after_bytes start fours =
    over_few
    ∙ ap₂ (fold after_bytes) (c.by_sixteens.ensures ∙ ap (fold (fold after_bytes) start) c.as_chunks-2.ensures.front) c.as_chunks-2.ensures.back
    ∙ fold-chunks after_bytes 4 (length fours / 4) start fours in
    c.by_bytes.ensures
    ∙ ap₂ after_bytes (over_fours ∙ ap (fold after_bytes start) c.as_chunks.ensures.front) c.as_chunks.ensures.back
    ∙ fold-chunks after_byte 4 (length bytes / 4) start bytes
