use Rattle.pc_certify.specs.Selecting.{IsNeedless}
use Rattle.pc_certify.proofs.Beside.{item_got, is_needless}
use Rattle.pc_certify.proofs.Pairs.{any_got}
use Rattle.pc_certify.proofs.selection.is_needless_beside.Goals as goal

pub returns-then-branch : goal.returns-then-branch
returns-then-branch c =
    let a = c.args.a.now in
    let k = c.index-kept-i.result in
    any_got (IsNeedless a) c.args.kept.now c.loop-i.i k (is_needless a k c.in_ok-is_needless.field-0 c.if-branch.true c.in_ok-is_needless.ensures)
    (item_got c.args.kept.now c.loop-i.i k c.loop-i-test.true c.index-kept-i.is)
