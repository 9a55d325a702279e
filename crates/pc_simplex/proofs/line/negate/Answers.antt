use Rattle.std.proofs.Common.{◌∙◌, ◌++◌, sym, ap, arith, ℤ, List, take, drop}
use Rattle.std.proofs.lemmas.List.{take-append-drop}
use Rattle.pc_simplex.proofs.Negating.{zeros_negated}
use Rattle.pc_simplex.proofs.Zeros.{later}
use Rattle.pc_simplex.proofs.line.negate.Goals as goal

pub returns-clause-value : goal.returns-clause-value
returns-clause-value c =
    let k = c.loop-k.k in
    let xs = c.loop-k.numbers in
    let stay = zeros_negated (drop k xs) (later c.args.width k xs (omega (arith, c.loop-k-test.false)) c.loop-k.invariant.zero) in
    sym (take-append-drop k xs) ∙ ap (λ (zs : List ℤ). take k xs ++ zs) (sym stay) ∙ c.loop-k.invariant.rest
