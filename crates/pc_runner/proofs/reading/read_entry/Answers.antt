use Rattle.std.proofs.Common.{◌≤◌, ◌∙◌, sym, codes, arith, length}
use Rattle.pc_text.proofs.WordLists.{behind_few}
use Rattle.pc_runner.proofs.reading.read_entry.Goals as goal

pub overflow_cast-given : goal.overflow_cast-given
overflow_cast-given c =
    let few = c.in_ok-values.ensures.few in
    let short = behind_few (codes "entry") c.args.line.now c.in-Some.words (sym c.behind.ensures ∙ c.in-Some.is) in
    let given = c.len-given.ensures in
    omega arith
