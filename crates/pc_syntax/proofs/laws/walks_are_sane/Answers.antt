use Rattle.pc_syntax.proofs.WalkedStmts.{walks_are_sane}
use Rattle.pc_syntax.proofs.laws.walks_are_sane.Goals as goal

pub returns : goal.returns
returns c = walks_are_sane
