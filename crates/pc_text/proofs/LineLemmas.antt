-- Where the first line of a text ends.
use Rattle.std.proofs.Common.{◌≡◌, ◌≤◌, ◌<◌, ℕ, suc, ◌+◌, ◌-◌, Bool, true, false, cond, nat_eq, [], ◌∷◌, ◌++◌, length, take, drop, refl, sym, ap, ◌∙◌, subst, arith}
use Rattle.std.proofs.lemmas.Bool.{eqb-true, not-false}
use Rattle.std.proofs.lemmas.List.{drop_all, take_all, take_rest}
use Rattle.pc_text.specs.Bytes.{Bytes}
use Rattle.pc_text.specs.Lexemes.{in_line, EachPasses}
use Rattle.pc_text.specs.Longest.{run}
use Rattle.pc_text.specs.Lines.{IsLine}
use Rattle.pc_text.proofs.LongestLemmas.{all_run}

stop_by : (c : ℕ) (r : Bytes) (t : Bool) → in_line c ≡ t → (run in_line r < length r → r ≡ take (run in_line r) r ++ 10 ∷ drop (suc (run in_line r)) r)
    → cond t (suc (run in_line r)) 0 < suc (length r)
    → c ∷ r ≡ take (cond t (suc (run in_line r)) 0) (c ∷ r) ++ 10 ∷ drop (suc (cond t (suc (run in_line r)) 0)) (c ∷ r)
stop_by c r true e more h = ap (λ z. c ∷ z) (more (omega arith))
stop_by c r false e more h = ap (λ z. z ∷ r) (eqb-true c 10 (not-false (nat_eq c 10) e))

-- a line feed stands behind the bytes that are none
stop : (b : Bytes) → run in_line b < length b → b ≡ take (run in_line b) b ++ 10 ∷ drop (suc (run in_line b)) b
stop [] h = absurd (omega arith)
stop (c ∷ r) h = stop_by c r (in_line c) refl (stop r) h

pub ended : (b : Bytes) (k : ℕ) → k ≡ run in_line b → k < length b → IsLine b (take k b) true (take (length b - (k + 1)) (drop (k + 1) b))
ended b k e h =
    let more : run in_line b < length b = omega arith in
    let next : k + 1 ≡ suc k = omega arith in
    let all : EachPasses in_line (take k b) = subst (λ n. EachPasses in_line (take n b)) (sym e) (all_run in_line b) in
    let split : b ≡ take k b ++ 10 ∷ drop (suc k) b = subst (λ n. b ≡ take n b ++ 10 ∷ drop (suc n) b) (sym e) (stop b more) in
    (split ∙ ap (λ n. take k b ++ 10 ∷ drop n b) (sym next) ∙ ap (λ z. take k b ++ 10 ∷ z) (sym (take_rest b (k + 1))), all)

pub open_ended : (b : Bytes) (k : ℕ) → k ≡ run in_line b → length b ≤ k → IsLine b b false (take (length b - k) (drop k b))
open_ended b k e h =
    let all : EachPasses in_line (take k b) = subst (λ n. EachPasses in_line (take n b)) (sym e) (all_run in_line b) in
    (refl, take_rest b k ∙ drop_all k b h, subst (EachPasses in_line) (take_all k b h) all)
