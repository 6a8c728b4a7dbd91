-- What `last` brings, by what the store tells of a stream.
use Rattle.ss_program.proofs.Common.{◌≡◌, ◌∙◌, ℕ, List, [], ◌∷◌, Some, None, sym, ap, Refusal, Last, newest_in, state, Newest, StoreIsIn, StoreState}
use Rattle.ss_program.proofs.Common.{refuses_reading_held, Stands, AllAgree-recovered, refuses_reading_held-is, History, command_brings, newest_replies}
use Rattle.ss_program.proofs.Common.{only_replies, refused, unless_refused}
use Rattle.ss_model.specs.Refusals.{refuses_reading}
use Rattle.ss_report.specs.declared.reply.Reply.TheVariants.{Last as LastLine}

-- a look that is refused brings its refusal
pub brings-unlooked : (history : History) (name : List ℕ) (refusal : Refusal) → refuses_reading (state history) name ≡ Some refusal →
    command_brings history (Last name) ≡ refused refusal
brings-unlooked history name refusal is = ap (λ r. unless_refused r (only_replies (newest_replies (newest_in (state history) name)))) is

-- and one that isn't brings what is told
pub brings-newest : (history : History) (name : List ℕ) (told : Newest) → refuses_reading (state history) name ≡ None →
    newest_in (state history) name ≡ Some told → command_brings history (Last name) ≡ only_replies (LastLine told ∷ [])
brings-newest history name told none is =
    ap (λ r. unless_refused r (only_replies (newest_replies (newest_in (state history) name)))) none ∙ ap (λ o. only_replies (newest_replies o)) is

-- what is refused by what the store holds
pub refuses_reading-kept : (store : StoreState) (image : List ℕ) (history : History) (name : List ℕ) → StoreIsIn store image →
    Stands history image → refuses_reading (state history) name ≡ refuses_reading_held store.streams name
refuses_reading-kept store image history name kept stands =
    sym (refuses_reading_held-is store.streams (state history) name (AllAgree-recovered store image (state history) kept stands.state).0)
