use Rattle.ss_stream.proofs.HeldCounts.{length-Agrees, values_held-Agrees}
use Rattle.ss_store.proofs.Among.{length-AllAgree}
use Rattle.ss_store.proofs.LiveCounts.{length-slots, live_count-AreWhole}
use Rattle.ss_store.proofs.laws.what_is_held_counts_alike.Goals as goal

pub returns-clause-values : goal.returns-clause-values
returns-clause-values c = values_held-Agrees

pub returns-clause-windows : goal.returns-clause-windows
returns-clause-windows c = length-Agrees

pub returns-clause-streams : goal.returns-clause-streams
returns-clause-streams c = length-AllAgree

pub returns-clause-records : goal.returns-clause-records
returns-clause-records c = live_count-AreWhole

pub returns-clause-slots : goal.returns-clause-slots
returns-clause-slots c = length-slots
