use Rattle.std.proofs.lemmas.Nat.Gcd.{IsGcd-from_mod, IsGcd-from_zero}
use Rattle.pc_entail.proofs.composition.divisor_of.Goals as goal

pub division-preserved : goal.division-preserved
division-preserved c = λ g h. c.division.invariant g (IsGcd-from_mod c.division.greater c.division.lesser g h)

pub returns : goal.returns
returns c = c.division.invariant c.division.greater (IsGcd-from_zero c.division.greater c.division.lesser c.division-test.false)
