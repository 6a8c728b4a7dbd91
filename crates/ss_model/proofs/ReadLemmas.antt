-- What is read off the state of a history.
use Rattle.ss_model.proofs.Common.{◌≡◌, ◌≢◌, ℕ, ◌+◌, ◌*◌, ◌<◌, ◌≤◌, false, true, List, [], ◌∷◌, length, map, get_or, refl, ap, sym, subst, ◌∙◌, arith}
use Rattle.ss_model.proofs.Common.{None, Some, inl, inr, All, Option, cases_Bool, cond_both, find-append, event_name, same_name, Event, Create, Value, Open}
use Rattle.ss_model.proofs.Common.{Close, Drop, has_target, lengths_of, Point, Origin, cover, steps_met, IsWithinTarget, values_of, Happened, has_open}
use Rattle.ss_model.proofs.Common.{with_closed, with_marked, with_opened, IsHistory, IsStream, rule_of, Created, Stream, standing, stream_after, stream_named}
use Rattle.ss_model.proofs.Common.{values_in, change_named, with_taken, with_plain_value, windows}
use Rattle.std.specs.Option.{option_or}
use Rattle.std.proofs.lemmas.List.Elements.{All-map, All-get_or}
use Rattle.ss_targets.proofs.LengthLemmas.{lengths_of-positive, lengths_of-never_fall}
use Rattle.ss_model.specs.State.{state}
use Rattle.ss_model.specs.Steps.{stepped_from}
use Rattle.ss_model.proofs.DecayLemmas.{length-windows, length-windows_met, IsWithinTarget-windows}
use Rattle.ss_model.proofs.DropLemmas.{stream_named-without}
use Rattle.ss_model.proofs.HistoryLemmas.{IsState-state}
use Rattle.ss_model.proofs.NameLemmas.{same_name-Decides, same_name-differ}
use Rattle.ss_model.proofs.RuleLemmas.{rule_of-alone}
use Rattle.ss_model.proofs.Stretches.{taken-windows}

-- what holds of each stream as a history leaves it holds in its state
pub All-state : (P : Stream → Type 0) (history : List Happened) → ((c : Created) → P (stream_after history c)) → All P (state history)
unfolding state
All-state P history each = All-map P (stream_after history) (standing history) (λ k d inside. each (get_or (standing history) k d))

-- a change that keeps names changes no stream of another name
named-changed_other : (name other : List ℕ) (change : Stream → Stream) (streams : List Stream) → name ≢ other →
    ((s : Stream) → (change s).name ≡ s.name) → stream_named name (change_named other change streams) ≡ stream_named name streams
named-changed_other name other change [] apart keeps = refl
named-changed_other name other change (s ∷ ss) apart keeps =
    let rest = named-changed_other name other change ss apart keeps in
    elim (cases_Bool (same_name other s.name)) [
      | inl same ↦
          (let is : other ≡ s.name = (same_name-Decides other s.name).0 same in
          let wrong : same_name name s.name ≡ false = same_name-differ name s.name (λ e. apart (e ∙ sym is)) in
          let still : same_name name (change s).name ≡ false = ap (same_name name) (keeps s) ∙ wrong in
          rw (same, wrong, still, rest) refl)
      | inr differ ↦ rw (differ, rest) refl
    ]

name-taken : (p : Point) (s : Stream) → (with_taken s p).name ≡ s.name
name-taken p s = cond_both (has_open s.landmarks) (record s { landmarks = with_marked s.landmarks p.0 p.1 }) (with_plain_value s p)
    (λ (u : Stream). u.name ≡ s.name) (λ begun. refl) (λ none. refl)

option_or-none : {X : Type 0} (o : Option X) → option_or o None ≡ o
option_or-none None = refl
option_or-none (Some x) = refl

pub stream_named-stepped : (origin : Origin) (streams : List Stream) (event : Event) (name : List ℕ) → name ≢ event_name event →
    stream_named name (stepped_from origin streams event) ≡ stream_named name streams
unfolding stepped_from
stream_named-stepped origin streams (Create other params) name apart =
    let differ = same_name-differ name other apart in
    rw (find-append (λ (s : Stream). same_name name s.name) streams _, differ) (option_or-none (stream_named name streams))
stream_named-stepped origin streams (Value other t v) name apart =
    named-changed_other name other (λ s. with_taken s (t, v, origin)) streams apart (name-taken (t, v, origin))
stream_named-stepped origin streams (Open other t) name apart =
    named-changed_other name other (λ s. record s { landmarks = with_opened s.landmarks t }) streams apart (λ s. refl)
stream_named-stepped origin streams (Close other t) name apart =
    named-changed_other name other (λ s. record s { landmarks = with_closed s.landmarks t }) streams apart (λ s. refl)
stream_named-stepped origin streams (Drop other) name apart = stream_named-without name other streams apart

pub decay-state : (history : List Happened) → All (λ s. 0 < values_in s → length s.windows + 2 ≤ 2 * cover (lengths_of s.params) (values_in s)
    + steps_met (rule_of s.params).step (map (λ (p : Point). p.0) (values_of history s.name))) (state history)
decay-state history =
    All-state (λ s. 0 < values_in s → length s.windows + 2 ≤ 2 * cover (lengths_of s.params) (values_in s)
    + steps_met (rule_of s.params).step (map (λ (p : Point). p.0) (values_of history s.name))) history
    (λ c some.
    let rule = rule_of c.params in
    let values = values_of history c.name in
    let count = taken-windows rule values in
    rw count (length-windows_met rule values (omega arith)))

pub decay-state_alone : (history : List Happened) → All (λ s. s.params.within ≡ None → 0 < values_in s
    → length s.windows + 1 ≤ 2 * cover (lengths_of s.params) (values_in s)) (state history)
decay-state_alone history =
    All-state (λ s. s.params.within ≡ None → 0 < values_in s → length s.windows + 1 ≤ 2 * cover (lengths_of s.params) (values_in s)) history
    (λ c none some.
    let values = values_of history c.name in
    let count = taken-windows (rule_of c.params) values in
    rw count (subst (λ rule. length (windows rule values) + 1 ≤ 2 * cover (lengths_of c.params) (length values)) (sym (rule_of-alone c.params none))
    (length-windows (lengths_of c.params) values (omega arith))))

pub within-state : (history : List Happened) → IsHistory history →
    All (λ s. All (IsWithinTarget (lengths_of s.params) (values_in s)) s.windows) (state history)
within-state history whole =
    λ k d inside.
    let s = get_or (state history) k d in
    let has = All-get_or IsStream (state history) k d inside (IsState-state history whole).each in
    All-get_or (λ s. has_target s.params ≡ true → All (IsWithinTarget (lengths_of s.params) (values_in s)) s.windows) (state history) k d inside
    (All-state (λ s. has_target s.params ≡ true → All (IsWithinTarget (lengths_of s.params) (values_in s)) s.windows) history
    (λ c target.
    let rule = rule_of c.params in
    let values = values_of history c.name in
    rw (taken-windows rule values) (IsWithinTarget-windows rule values (lengths_of-positive c.params target) (lengths_of-never_fall c.params target))))
    has.target
