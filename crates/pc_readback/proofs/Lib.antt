pub mod ShownExprs
pub mod ShownStmts
pub mod ShownPrograms
pub mod SignCosts
pub mod SignBounds
pub mod Seen
pub mod SeenExprs
pub mod SeenTests
pub mod Nesting
pub mod SeenStmts
pub mod SeenPrograms
pub mod SpelledSymbols
pub mod PieceLexemes
pub mod PieceSymbols
pub mod CanonicalTexts
pub mod PieceParts
pub mod Derived
pub mod DerivedLevels
pub mod WalkedAgain
pub mod DerivedExprs
pub mod ComparesAgain
pub mod DerivedTests
pub mod DerivedRights
pub mod StmtsAgain
pub mod StmtPhrases
pub mod DerivedStmts
pub mod NamesAgain
pub mod DerivedPrograms
pub mod CountedPieces
pub mod CountedExprs
pub mod CountedMarks
pub mod CountedTests
pub mod CountedStmts
pub mod CountedPrograms
pub mod ReadBack
pub mod BareExamples
pub mod BareTexts
pub mod Spelled
mod MadeLists
mod MadeSanity
mod MadeShown
mod MadeTexts
pub mod MadeSpelled
