pub mod Results
pub mod Exprs
pub mod FormLemmas
pub mod RowLemmas
pub mod Folds
pub mod LoopLemmas
pub mod Stmts
pub mod Weights
