use Rattle.pc_syntax.proofs.Readings.{each_text_has_one, each_text_has_no_more}
use Rattle.pc_syntax.proofs.laws.texts_have_one_answer.Goals as goal

pub returns-clause-one : goal.returns-clause-one
returns-clause-one c = each_text_has_one

pub returns-clause-no_more : goal.returns-clause-no_more
returns-clause-no_more c = each_text_has_no_more
