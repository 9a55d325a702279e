pub mod Laid
pub mod ExprTexts
pub mod RightTexts
pub mod SaneNames
pub mod NameTexts
pub mod StmtTexts
pub mod Examples
