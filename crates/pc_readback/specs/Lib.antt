pub mod Showable
pub mod ShownTrees
pub mod Matched
pub mod CutTexts
pub mod Bare
pub mod ReadsBack
pub mod MadeTrees
pub mod MadeLaws
