use Rattle.ss_store.proofs.Common.{◌≡◌, ◌∙◌, true, false, Some, None, ap, sym, newest_value, is_newer, place_if_newer}
use Rattle.std.proofs.Common.{if◌then◌else◌}
use Rattle.ss_store.proofs.LastWindows.{last-index, last-none, last-read}
use Rattle.ss_store.proofs.store.newest.newest_place.Goals as goal

pub returns-in_err-at-clause-place : goal.returns-in_err-at-clause-place
returns-in_err-at-clause-place g c =
    let none = last-none c.args.part.now.line.entries (sym c.in_err-at.was ∙ c.last.ensures.value) in
    c.from_residual.ensures ∙ sym (ap (place_if_newer (newest_value c.args.part.now.landmarks.landmarks)) none)

pub returns-then-is_newer-clause-place : goal.returns-then-is_newer-clause-place
returns-then-is_newer-clause-place g c =
    let value = newest_value c.args.part.now.landmarks.landmarks in
    let last = last-read c.args.part.now.line c.in_ok-at.at c.get-entry.result c.len-len.ensures.line
    (sym c.in_ok-at.was ∙ c.last.ensures.value) c.get-entry.ensures.entry in
    let newer : is_newer value c.get-entry.result.t_last ≡ true = sym c.is_newer.ensures ∙ c.if-is_newer.true in
    sym (ap (place_if_newer value) last ∙ ap (λ b. if b then Some c.in_ok-at.at else None) newer)

pub returns-then-is_newer-clause-last : goal.returns-then-is_newer-clause-last
returns-then-is_newer-clause-last g c =
    last-index c.args.part.now.line c.in_ok-at.at c.len-len.ensures.line (sym c.in_ok-at.was ∙ c.last.ensures.value)

pub returns-else-is_newer-clause-place : goal.returns-else-is_newer-clause-place
returns-else-is_newer-clause-place g c =
    let value = newest_value c.args.part.now.landmarks.landmarks in
    let last = last-read c.args.part.now.line c.in_ok-at.at c.get-entry.result c.len-len.ensures.line
    (sym c.in_ok-at.was ∙ c.last.ensures.value) c.get-entry.ensures.entry in
    let newer : is_newer value c.get-entry.result.t_last ≡ false = sym c.is_newer.ensures ∙ c.if-is_newer.false in
    sym (ap (place_if_newer value) last ∙ ap (λ b. if b then Some c.in_ok-at.at else None) newer)
