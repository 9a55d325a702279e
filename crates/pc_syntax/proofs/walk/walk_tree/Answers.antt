use Rattle.std.proofs.Common.{length}
use Rattle.pc_syntax.proofs.WalkedStmts.{parts_are_sane}
use Rattle.pc_syntax.proofs.walk.walk_tree.Goals as goal

pub invariant_of-result : goal.invariant_of-result
invariant_of-result c = record {
  sane = parts_are_sane c.args.src.now (length c.args.src.now) c.args.tree.now c.in_ok-names.names c.as_slice.result.now c.in_ok-body.body c.requires
      c.in_ok-names.ensures.value c.in_ok-names.ensures.params c.as_slice.ensures c.in_ok-body.ensures.value;
}
