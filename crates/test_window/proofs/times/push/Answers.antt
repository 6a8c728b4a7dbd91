use Rattle.std.proofs.Common.{◌≤◌, ◌<◌, ℕ, All, List, arith, subst, sym}
use Rattle.std.proofs.lemmas.List.Elements.{All-push, All-weaker}
use Rattle.ss_line.specs.declared.entry.At.{At}
use Rattle.test_window.proofs.times.push.Goals as goal

pub reserve-requires : goal.reserve-requires
reserve-requires c =
    All-weaker (λ (e : ℕ × At). e.0 ≤ c.args.last) (λ e. e.0 < c.args.t) (λ e le. omega (arith, le, c.if-t-last.false)) c.args.times.now c.requires

pub put-requires : goal.put-requires
put-requires c =
    let none : At = record { 0 = 0 } in
    let weak = All-weaker (λ (e : ℕ × At). e.0 ≤ c.args.last) (λ e. e.0 ≤ c.args.t) (λ e le. omega (arith, le, c.if-t-last.false))
    c.args.times.now c.requires in
    subst (λ (es : List (ℕ × At)). All (λ e. e.0 ≤ c.args.t) es) (sym c.in_ok-reserve.ensures.ok)
    (All-push (λ e. e.0 ≤ c.args.t) c.args.times.now (c.args.t, none) weak (omega arith))
