use Rattle.pc_grammar.specs.Programs.{programs}
use Rattle.pc_grammar.proofs.Starts.{programs_lawful}
use Rattle.pc_syntax.proofs.TextLemmas.{tree_by}
use Rattle.pc_syntax.proofs.reading.tree.Goals as goal

pub returns : goal.returns
returns c =
    tree_by programs programs_lawful c.args.src.now c.in_ok-found.found c.as_slice.result.now c.in_ok-symbols.symbols c.as_slice-2.result.now c.place_of-end.result c.tree_at.result c.in_ok-found.ensures.computed
    c.as_slice.ensures c.in_ok-symbols.ensures c.as_slice-2.ensures c.place_of-end.ensures c.tree_at.ensures
