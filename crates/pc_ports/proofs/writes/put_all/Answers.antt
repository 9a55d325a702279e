use Rattle.std.proofs.Common.{arith, length-drop}
use Rattle.std.proofs.lemmas.List.{take_rest}
use Rattle.pc_ports.proofs.Appending.{appended_more}
use Rattle.pc_ports.proofs.writes.put_all.Goals as goal

pub loop-done-preserved : goal.loop-done-preserved
loop-done-preserved g c =
    let some = rw take_rest at c.in_ok-done.ensures.some in
    let front = rw take_rest at c.in_ok-done.ensures.front in
    let left = length-drop c.loop-done.done c.args.b.now in
    record {
      within = omega (arith, some.1, left);
      counted = omega (arith, c.loop-done.invariant.counted, c.in_ok-done.ensures.counted);
      so_far = appended_more _ _ _ c.args.b.now c.loop-done.done c.in_ok-done.field-0 c.loop-done.invariant.so_far front;
      untouched = λ none. absurd (omega (arith, some.0));
    }
