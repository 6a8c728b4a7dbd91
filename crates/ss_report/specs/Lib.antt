pub mod Text
pub mod MeanText
