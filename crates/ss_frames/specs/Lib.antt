pub mod Frame
pub mod Pieces
pub mod PieceState
