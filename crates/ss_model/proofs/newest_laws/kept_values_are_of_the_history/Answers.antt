use Rattle.ss_model.proofs.Common.{◌≡◌, ◌&&◌, map, nat_le, filter, all_values, values_between, Point, landmarks_of, marked_of, kept_point}
use Rattle.ss_model.proofs.NewestLemmas.{filter-kept}
use Rattle.ss_model.proofs.ReadLemmas.{All-state}
use Rattle.ss_model.proofs.newest_laws.kept_values_are_of_the_history.Goals as goal

pub returns : goal.returns
returns c history from to =
    All-state (λ s. map kept_point (values_between s.landmarks from to)
    ≡ filter (λ (p : Point). nat_le from p.0 && nat_le p.0 to) (marked_of history s.name)) history
    (λ s. filter-kept from to (all_values (landmarks_of history s.name)))
