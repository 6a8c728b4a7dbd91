use Rattle.ss_program.proofs.Common.{arith, drop_all, length-map, row_of, state, streams-kept, AllAgree-recovered, stream_rows}
use Rattle.ss_report.specs.declared.reply.Reply.TheVariants.{Stream as StreamRow}
use Rattle.ss_program.proofs.RowLemmas.{drop-at, row-reply}
use Rattle.ss_program.proofs.listing.next_stream.Goals as goal

pub returns-then-next-streams : goal.returns-then-next-streams
returns-then-next-streams c = record {
  row = λ content kept history stands.
      let none = drop_all c.args.next.now (stream_rows (state history)) (omega (
        arith,
        c.streams.ensures,
        streams-kept c.args.store.now content history kept
            stands,
        length-map (state history) (λ s. StreamRow (row_of s)),
      )) in
      (none, none);
  goes_on = record { stand = tt; fewer = tt };
}

pub returns : goal.returns
returns c = record {
  row = λ content kept history stands.
      let both = AllAgree-recovered c.args.store.now content (state history) kept stands.state in
      drop-at (stream_rows (state history)) c.args.next.now (StreamRow c.stream-row.result)
      (row-reply row_of (λ r. StreamRow r) (state history) c.args.next.now c.stream-row.result (c.stream-row.ensures.row (state history) both.1 both.0));
  goes_on = record { stand = tt; fewer = omega (arith, c.streams.ensures) };
}
