use Rattle.std.proofs.Common.{◌≡◌, ◌∙◌, ◌++◌, sym, ap, subst, arith, ℤ, List, take, drop, length}
use Rattle.std.proofs.lemmas.List.{take-append-drop, length-drop}
use Rattle.pc_rows.specs.declared.row.TheConstants.{VARIABLES}
use Rattle.pc_simplex.specs.Values.{Pivot}
use Rattle.pc_simplex.proofs.Zeros.{later, others_stay}
use Rattle.pc_simplex.proofs.line.pivot.Pivot.change_numbers.Goals as goal

pub returns-clause-value : goal.returns-clause-value
returns-clause-value c =
    let k = c.loop-k.k in
    let p = c.args.self.now in
    let xs = c.loop-k.numbers in
    let ys = p.line.numbers in
    let long = subst (λ (q : Pivot). length q.line.numbers ≡ VARIABLES) c.self.view_is c.self.invariant.1 in
    let rest = others_stay p c.args.factor k (drop k xs) (drop k ys)
    (omega (arith, length-drop k xs, length-drop k ys, c.loop-k.invariant.long, long))
    (later c.args.width k xs (omega (arith, c.loop-k-test.false)) c.loop-k.invariant.zero)
    (later c.args.width k ys (omega (arith, c.loop-k-test.false)) c.requires.pivot) in
    (sym c.loop-k.invariant.fits ∙ rest.0, sym (take-append-drop k xs) ∙ ap (λ (zs : List ℤ). take k xs ++ zs) (sym rest.1) ∙ c.loop-k.invariant.rest)
