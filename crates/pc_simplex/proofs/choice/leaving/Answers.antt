use Rattle.std.proofs.Common.{◌∙◌, ◌<◌, sym, subst, ap, arith, List, Option, IfSome, length}
use Rattle.std.proofs.lemmas.List.{drop_all}
use Rattle.pc_simplex.specs.Values.{Pick, Line}
use Rattle.pc_simplex.specs.Choosing.{first_from, leaving_each}
use Rattle.pc_simplex.proofs.Picking.{leaving_is_line}
use Rattle.pc_simplex.proofs.choice.leaving.Goals as goal

pub returns-clause-within : goal.returns-clause-within
returns-clause-within c =
    let ls = c.args.lines.now in
    let end = ap (λ (z : List Line). first_from c.loop-i.i c.loop-i.best (leaving_each z)) (drop_all c.loop-i.i ls (omega arith)) in
    subst (λ (o : Option Pick). IfSome o (λ p. p.index < length ls)) (sym c.loop-i.invariant ∙ end) (leaving_is_line ls)
