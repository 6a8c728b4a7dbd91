pub mod Common
mod Rows
mod RuleRows
mod HistoryRows
mod MarkRows
mod QueryRows
mod AnswerRows
mod MeanAnswerRows
mod PresenceRows
mod SeriesRows
pub mod Rises
pub mod Stretches
pub mod Told
pub mod Incremental
pub mod Closes
pub mod Tiles
pub mod MarkLemmas
pub mod RuleLemmas
pub mod DecayLemmas
pub mod EventLemmas
pub mod NameLemmas
pub mod StepLemmas
pub mod FoundLemmas
pub mod DropLemmas
pub mod StreamLemmas
pub mod StandLemmas
pub mod HistoryLemmas
pub mod ReadLemmas
pub mod WithinLemmas
pub mod JoinLemmas
pub mod OutlineLemmas
pub mod OriginLemmas
pub mod AskedLemmas
pub mod IntervalLemmas
pub mod MeanLemmas
pub mod OpenMeanLemmas
pub mod SplitLemmas
pub mod PieceLemmas
pub mod PresenceLemmas
pub mod RisingLemmas
pub mod AnswerLemmas
pub mod RowLemmas
pub mod WholeLemmas
mod WithinRows
mod NewestRows
mod NewestTruthRows
pub mod NewestLemmas
