use Rattle.std.proofs.Common.{Some, ap, sym, true, false, ◌≡◌, ◌∙◌}
use Rattle.ss_codec.specs.Decoded.{decoded}
use Rattle.ss_outside.proofs.StepLemmas.{step-as}
use Rattle.ss_parts.specs.Held.{window_record}
use Rattle.ss_parts.proofs.reading.read_window.Goals as goal
use Rattle.ss_parts.proofs.Records.{HasRecords-spelled, lies_free-read}
use Rattle.ss_parts.proofs.reading.read_window.Goals.{in_default-via-in-Some+else-lies_among_landmarks, in_default-via-in_default}

pub returns-in-Some-clause-reads : goal.returns-in-Some-clause-reads
returns-in-Some-clause-reads g c =
    step-as c.in_ok-bytes.ensures.reads (λ read. record {
      window = λ others w has same times free.
          let spelled : c.decode.result ≡ Some (window_record c.args.part.now.id.0 w) =
          c.decode.ensures.exact ∙ ap decoded (read.bytes has.found has.map)
          ∙ HasRecords-spelled c.args.entry.slot (window_record c.args.part.now.id.0 w) others _ has in
          let both = sym spelled ∙ c.in-Some.ensures.some.0 in
          cc both;
      kept = read.kept;
      reads = read.reads;
    })

pub returns-in_default-clause-reads : goal.returns-in_default-clause-reads
returns-in_default-clause-reads g c = record {
  tells = c.in_ok-bytes.ensures.reads.tells;
  counted = c.in_ok-bytes.ensures.reads.counted;
  told = λ told.
      let read = c.in_ok-bytes.ensures.reads.told told in
      record {
        window = λ others w has same times free.
            let spelled : c.decode.result ≡ Some (window_record c.args.part.now.id.0 w) =
            c.decode.ensures.exact ∙ ap decoded (read.bytes has.found has.map)
            ∙ HasRecords-spelled c.args.entry.slot (window_record c.args.part.now.id.0 w) others _ has in
            elim c.in_default.branch [
              | in_default-via-in-Some+else-lies_among_landmarks b ↦
                  (let lies = lies_free-read c.args.part.now.landmarks.landmarks c.args.part.now.id.0 c.args.entry w b.in-Some.summary
                  c.decode.result spelled b.in-Some.ensures.some.0 free in
                  let wrong : false ≡ true = sym b.if-lies_among_landmarks.false ∙ b.lies_among_landmarks.ensures.free ∙ lies in
                  cc)
              | in_default-via-in_default b ↦ b.in_default.ensures.none w spelled same times
            ];
        kept = read.kept;
        reads = read.reads;
      };
}
