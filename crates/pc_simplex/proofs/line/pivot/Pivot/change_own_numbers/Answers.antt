use Rattle.std.proofs.Common.{◌∙◌, ◌++◌, sym, ap, arith, ℤ, List, take, drop}
use Rattle.std.proofs.lemmas.List.{take-append-drop}
use Rattle.pc_simplex.proofs.Zeros.{later, own_stay}
use Rattle.pc_simplex.proofs.line.pivot.Pivot.change_own_numbers.Goals as goal

pub returns-clause-value : goal.returns-clause-value
returns-clause-value c =
    let k = c.loop-k.k in
    let p = c.args.self.now in
    let xs = c.loop-k.numbers in
    let zero = later c.args.width k xs (omega (arith, c.loop-k-test.false)) c.loop-k.invariant.zero in
    sym (take-append-drop k xs)
    ∙ ap (λ (zs : List ℤ). take k xs ++ zs) (sym (own_stay p k (drop k xs) (omega (arith, c.loop-k-test.false, c.requires.column)) zero))
    ∙ c.loop-k.invariant.rest
