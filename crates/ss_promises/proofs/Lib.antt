pub mod LawLemmas
pub mod WholeLemmas
pub mod WithinRows
pub mod UnknownLemmas
pub mod NewestLaws
pub mod HeardLemmas
pub mod ConversationLemmas
pub mod AskedRows
pub mod AckedLemmas
pub mod AckedRows
pub mod FollowedLemmas
pub mod BrokenLemmas
mod BrokenRows
pub mod ChainLemmas
pub mod ChainRows
pub mod NameRows
pub mod AnewLemmas
pub mod NeededLemmas
pub mod OldLemmas
pub mod AlikeLemmas
pub mod AlikeText
pub mod OwnedLemmas
pub mod LengthLemmas
mod ShortRows
pub mod PrimaryRows
