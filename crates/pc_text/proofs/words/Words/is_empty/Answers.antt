use Rattle.std.proofs.Common.{◌∙◌, ap}
use Rattle.pc_text.specs.Words.{is_empty}
use Rattle.pc_text.proofs.WordLists.{none_left}
use Rattle.pc_text.proofs.words.Words.is_empty.Goals as goal

pub returns : goal.returns
returns c = none_left c.self.inside.rest c.is_none.result c.is_none.ensures ∙ ap is_empty c.self.view_is
