use Rattle.pc_lower.proofs.Covering as covering
use Rattle.pc_lower.proofs.Variables as variables
use Rattle.pc_lower.proofs.laws.annotation_covers.Goals as goal

pub returns-clause-covers : goal.returns-clause-covers
returns-clause-covers c = covering.annotation_covers

pub returns-clause-complete : goal.returns-clause-complete
returns-clause-complete c = variables.need_is_complete
