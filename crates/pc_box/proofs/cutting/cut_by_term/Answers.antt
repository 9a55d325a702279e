use Rattle.std.proofs.Common.{rules}
use Rattle.pc_box.proofs.cutting.cut_by_term.Goals as goal

pub returns : goal.returns
returns c = search rules
