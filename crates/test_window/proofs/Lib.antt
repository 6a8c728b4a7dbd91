pub mod ScheduleLemmas
pub mod TimesLemmas
