use Rattle.ss_store.proofs.Common.{◌≡◌, ◌∙◌, ap, arith, false, refl, sym, is_some, open_landmark, has_open, StoreState, of_part}
use Rattle.ss_store.proofs.Found.{IsAtPlace-found, inside-found, none-found}
use Rattle.ss_store.proofs.Named.{is_some-option_map}
use Rattle.ss_store.proofs.Refusals.{of_part-named}
use Rattle.ss_store.proofs.store.Store.has_open.Goals as goal

pub index-requires : goal.index-requires
index-requires c =
    let inside = inside-found c.self.inside.streams.items c.args.name.now (ap (λ (s : StoreState). s.streams) c.self.view_is) c.in-Some.is c.requires in
    omega (arith, inside)

pub returns-in-Some : goal.returns-in-Some
returns-in-Some c =
    let part = c.index.result.now.part in
    let is = IsAtPlace-found c.self.inside.streams.items c.args.name.now
    (ap (λ (s : StoreState). s.streams) c.self.view_is) c.in-Some.is c.requires c.index.ensures in
    c.is_some.ensures ∙ ap is_some c.opened.ensures.value ∙ is_some-option_map _ (open_landmark part.landmarks.landmarks)
    ∙ sym (of_part-named c.args.self.now.streams c.args.name.now part (λ p. has_open p.landmarks.landmarks) is.named)

pub returns-in-None : goal.returns-in-None
returns-in-None c =
    let none = none-found c.args.self.now.streams c.args.name.now c.in-None.is c.requires in
    let held : of_part c.args.name.now c.args.self.now.streams (λ part. has_open part.landmarks.landmarks) ≡ false = rw none refl in
    sym held
