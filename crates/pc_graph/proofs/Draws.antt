-- What an assignment adds to its expression.
use Rattle.std.proofs.Common.{◌≡◌, ℤ, pos, ◌≤ℤ◌, true, refl, arith, int_le}
use Rattle.std.specs.Prelude.{◌&&◌, Option, Some, None}
use Rattle.std.proofs.lemmas.Bool.{and_parts}
use Rattle.std.proofs.lemmas.Int.{ints}
use Rattle.pc_language.specs.declared.choice.Choice.{Choice}
use Rattle.pc_language.specs.Ends.{end_of}
use Rattle.pc_rows.specs.Linear.{in_range}
use Rattle.pc_rows.specs.Substitution.{IsNotBelow, IsNotAbove}
use Rattle.pc_program.specs.Machine.{clamped, drawn}
use Rattle.pc_program.specs.Sane.{sane_choice, in_order}
use Rattle.pc_graph.specs.Lowering.{low_end, high_end}

both_within : (lo hi c : ℤ) → int_le lo hi ≡ true → (lo ≤ℤ clamped (Some lo) (Some hi) c) × (clamped (Some lo) (Some hi) c ≤ℤ hi)
both_within lo hi c h = (grind (arith, ints), grind (arith, ints))

low_within : (lo c : ℤ) → lo ≤ℤ clamped (Some lo) None c
low_within lo c = grind (arith, ints)

high_within : (hi c : ℤ) → clamped None (Some hi) c ≤ℤ hi
high_within hi c = grind (arith, ints)

clamped_within : (lo hi : Option ℤ) (c : ℤ) → in_order lo hi ≡ true → IsNotBelow lo (clamped lo hi c) × IsNotAbove hi (clamped lo hi c)
clamped_within (Some lo) (Some hi) c h = both_within lo hi c (and_parts (in_range hi) (int_le lo hi) (and_parts (in_range lo) (in_range hi && int_le lo hi) h).1).1
clamped_within (Some lo) None c h = (low_within lo c, tt)
clamped_within None (Some hi) c h = (tt, high_within hi c)
clamped_within None None c h = (tt, tt)

both_is : (lo hi c : ℤ) → lo ≤ℤ c → c ≤ℤ hi → clamped (Some lo) (Some hi) c ≡ c
both_is lo hi c h k = grind (arith, ints)

low_is : (lo c : ℤ) → lo ≤ℤ c → clamped (Some lo) None c ≡ c
low_is lo c h = grind (arith, ints)

high_is : (hi c : ℤ) → c ≤ℤ hi → clamped None (Some hi) c ≡ c
high_is hi c h = grind (arith, ints)

clamped_is : (lo hi : Option ℤ) (c : ℤ) → IsNotBelow lo c → IsNotAbove hi c → clamped lo hi c ≡ c
clamped_is (Some lo) (Some hi) c h k = both_is lo hi c h k
clamped_is (Some lo) None c h k = low_is lo c h
clamped_is None (Some hi) c h k = high_is hi c k
clamped_is None None c h k = refl

pub drawn_within : (o : Option Choice) (c : ℤ) → sane_choice o ≡ true → IsNotBelow (end_of (low_end o)) (drawn o c) × IsNotAbove (end_of (high_end o)) (drawn o c)
drawn_within None c h = (omega (arith, ints), omega (arith, ints))
drawn_within (Some choice) c h = clamped_within (end_of choice.lo) (end_of choice.hi) c h

pub drawn_is : (o : Option Choice) (c : ℤ) → IsNotBelow (end_of (low_end o)) c → IsNotAbove (end_of (high_end o)) c → drawn o c ≡ c
drawn_is None c h k = omega (arith, ints)
drawn_is (Some choice) c h k = clamped_is (end_of choice.lo) (end_of choice.hi) c h k

zero_clamped : (c : ℤ) → clamped (Some (pos 0)) (Some (pos 0)) c ≡ pos 0
zero_clamped c = grind (arith, ints)

-- the ends of an edge bring a choice where the machine brings it
pub drawn_clamped : (o : Option Choice) (c : ℤ) → clamped (end_of (low_end o)) (end_of (high_end o)) c ≡ drawn o c
drawn_clamped None c = zero_clamped c
drawn_clamped (Some choice) c = refl
