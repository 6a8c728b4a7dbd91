pub mod PlanLemmas
mod PlanRows
