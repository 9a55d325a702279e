-- How long made sources are: the longest is the one with the most loops.
use Rattle.std.proofs.Common.{◌≡◌, ◌∙◌, ℕ, zero, suc, ◌+◌, ◌-◌, ◌≤◌, ◌++◌, length, codes, ap, refl, subst, arith}
use Rattle.std.proofs.lemmas.List.{length-append}
use Rattle.pc_text.specs.Numerals.{numeral}
use Rattle.pc_gen.specs.declared.made.TheConstants.{MADE_BYTES}
use Rattle.pc_gen.specs.Pieces.{counted}
use Rattle.pc_gen.specs.Made.{IsLoops, loop_text, loops_text, made}

-- more loops are no shorter
rises : (n more : ℕ) → length (loops_text n) ≤ length (loops_text (more + n))
rises n zero =
    let sum : 0 + n ≡ n = omega arith in
    let same = ap (λ m. length (loops_text m)) sum in
    omega (arith, same)
rises n (suc more) =
    let sum : suc more + n ≡ suc (more + n) = omega arith in
    let same : length (loops_text (suc more + n)) ≡ length (loops_text (more + n) ++ loop_text (suc (more + n))) = ap (λ m. length (loops_text m)) sum in
    let parts = same ∙ length-append (loops_text (more + n)) (loop_text (suc (more + n))) in
    let before = rises n more in
    omega (arith, parts, before)

longest : length (loops_text 64) ≡ 4663
unfolding counted numeral
longest = refl

with_ends : (n : ℕ) → length (made n) ≡ 23 + length (loops_text n)
with_ends n =
    let front : length (codes "entry (a) {\n  var i;\n" ++ loops_text n) ≡ 21 + length (loops_text n) = length-append (codes "entry (a) {\n  var i;\n") (loops_text n) in
    let whole : length (made n) ≡ length (codes "entry (a) {\n  var i;\n" ++ loops_text n) + 2 = length-append (codes "entry (a) {\n  var i;\n" ++ loops_text n) (codes "}\n") in
    omega (arith, front, whole)

pub short : (n : ℕ) → IsLoops n → length (made n) ≤ MADE_BYTES
short n h =
    let sum : (64 - n) + n ≡ 64 = omega (arith, h.1) in
    let most : length (loops_text n) ≤ length (loops_text 64) = subst (λ m. length (loops_text n) ≤ length (loops_text m)) sum (rises n (64 - n)) in
    let ends = with_ends n in
    omega (arith, most, ends, longest)
