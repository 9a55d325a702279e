use Rattle.pc_json.proofs.Numerals.{other_end}
use Rattle.pc_json.proofs.numbers.number_in.Goals as goal

pub returns-else-end-text : goal.returns-else-end-text
returns-else-end-text c =
    other_end c.args.text.now c.read_number.result _ _ c.read_number.ensures.back c.in-Some.is c.if-end-text.false
