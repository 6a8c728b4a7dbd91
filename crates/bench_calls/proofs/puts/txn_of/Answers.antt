use Rattle.std.proofs.Common.{◌≡◌, ◌∙◌, IsTrue, List, length, ap, sym, subst, arith}
use Rattle.ss_journal.specs.declared.put.Put.{Put}
use Rattle.ss_journal.specs.Puts.{IsTxn, slots_fit}
use Rattle.bench_calls.specs.Puts.{puts_from}
use Rattle.bench_calls.proofs.PutLemmas.{puts_from-more, length-puts_from, IsTxn-puts_from, puts_from-fit}
use Rattle.bench_calls.proofs.puts.txn_of.Goals as goal

pub push-requires : goal.push-requires
push-requires c =
    let long = ap length c.loop-k.invariant ∙ length-puts_from c.args.first c.loop-k.k c.args.byte in
    (omega arith, omega (arith, long))

pub loop-k-preserved : goal.loop-k-preserved
loop-k-preserved c =
    let more = puts_from-more c.args.first c.loop-k.k c.args.byte in
    cc

pub returns : goal.returns
returns c =
    let all : c.loop-k.k ≡ c.args.puts = omega arith in
    let puts : c.loop-k.txn.items ≡ puts_from c.args.first c.args.puts c.args.byte = cc in
    record {
      puts = puts;
      txn = subst IsTxn (sym puts) (IsTxn-puts_from c.args.first c.args.puts c.args.byte (omega arith) (omega arith) (omega arith));
      fit = λ extent le. subst (λ (txn : List Put). IsTrue (slots_fit txn extent)) (sym puts) (puts_from-fit c.args.first c.args.puts c.args.byte extent le);
    }
