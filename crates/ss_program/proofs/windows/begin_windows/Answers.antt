use Rattle.ss_program.proofs.Common.{◌∙◌, ◌∷◌, sym, ap, state, stream_numbered, WindowsHead, part_numbered, found-kept, unknown-kept, Brought, window_rows}
use Rattle.ss_program.proofs.Common.{windows-kept}
use Rattle.ss_program.proofs.AnswerLemmas.{brings-unknown, brings-windows}
use Rattle.ss_program.proofs.LeftRowLemmas.{place-first, windows-begun}
use Rattle.ss_program.proofs.RowLemmas.{windows-count}
use Rattle.ss_program.proofs.windows.begin_windows.Goals as goal

pub returns-in_default : goal.returns-in_default
returns-in_default c = record {
  brings = λ content kept history stands. ap (λ (b : Brought). b.replies) (brings-unknown history c.args.name.now
      (unknown-kept c.args.store.now content history c.args.name.now kept stands (sym c.in_default.is ∙ c.find.ensures.number)));
  stand = tt;
}

pub returns : goal.returns
returns c =
    let store = c.args.store.now in
    let name = c.args.name.now in
    let id = c.in-Some.id in
    let part = part_numbered id.0 store.streams in
    record {
      brings = λ content kept history stands.
          let found = found-kept store content history name id kept stands c.in-Some.ensures.number c.in-Some.ensures.same in
          let count = windows-count part (λ p. p.line.entries) found.0 c.windows.result c.in-Some.ensures.stands c.windows.ensures
          (windows-kept store content history id.0 found.0 kept stands found.2) in
          let all = windows-begun part c.window_first-next.result (stream_numbered id.0 (state history)) found.0 c.in-Some.ensures.stands found.2
          (place-first part c.window_first-next.result c.window_first-next.ensures.at c.window_first-next.ensures.index) in
          ap (λ (b : Brought). b.replies) (brings-windows history name found.0 found.1)
          ∙ ap (λ n. WindowsHead n ∷ window_rows found.0) (sym count) ∙ ap (λ rows. WindowsHead c.windows.result ∷ rows) (sym all);
      stand = record { stands = c.in-Some.ensures.stands; at = c.window_first-next.ensures.stands };
    }
