mod ContentRows
mod MovedRows
pub mod PickedLemmas
pub mod FilledLemmas
pub mod PlacedLemmas
pub mod PieceLemmas
pub mod StepLemmas
pub mod ReplacedLemmas
pub mod SayableLemmas
pub mod ContentsLemmas
pub mod MovedLemmas
mod MeasureRows
pub mod AdditionLemmas
pub mod CutLemmas
pub mod ExpMeasures
pub mod ExtremeLemmas
pub mod FigureLemmas
pub mod GreaterLemmas
pub mod LesserLemmas
pub mod PartLemmas
pub mod PowerMeasures
pub mod RoomLemmas
pub mod RowLemmas
pub mod SideLemmas
pub mod SizeLemmas
pub mod StreamParts
pub mod SumLemmas
pub mod Together
pub mod DamageLemmas
pub mod FormLemmas
pub mod NumberLemmas
mod DamageRows
pub mod SpelledLemmas
