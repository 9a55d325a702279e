-- The counted signs of the words of expressions: no fewer than those of their canonical texts, and within the limit no more than it.
use Rattle.std.proofs.Common.{◌≡◌, ℕ, zero, suc, ◌+◌, ◌<◌, ◌≤◌, refl, ap, sym, ◌∙◌, arith, [], ◌∷◌, ◌++◌, append_assoc, Bool, true, false, cond, Option, Some, None, Result, Ok, Err}
use Rattle.std.specs.Prelude.{nat_lt}
use Rattle.std.specs.List.{list_all}
use Rattle.std.proofs.lemmas.Bool.{ltb-true}
use Rattle.pc_grammar.specs.declared.symbol.Symbol.{Symbol}
use Rattle.pc_language.specs.declared.terminal.Terminal.{Terminal}
use Rattle.pc_grammar.specs.declared.limits.Counts.{Counts}
use Rattle.pc_language.specs.declared.limits.TheConstants.{SIGNS}
use Rattle.pc_grammar.specs.declared.fault.ParseFault.{ParseFault}
use Rattle.pc_grammar.specs.Combinators.{Text}
use Rattle.pc_grammar.specs.Terminals.{among, has}
use Rattle.pc_grammar.specs.Limits.{keywords, of_expressions, signs_after, is_sign, counted, and_on, counts}
use Rattle.pc_grammar.proofs.Scans.{is_counted}
use Rattle.pc_grammar.proofs.Sets.{parted}
use Rattle.pc_program.proofs.Results.{and_is}

abbrev weight_if : Bool → ℕ
weight_if true = 1
weight_if false = 0

-- how many counted signs a word has where it stands before v
abbrev pub cost : Text → Text → ℕ
cost [] v = 0
cost (s ∷ w) v = weight_if (is_sign s.terminal false (w ++ v)) + cost w v

pub cost-append : (u w v : Text) → cost (u ++ w) v ≡ cost u (w ++ v) + cost w v
cost-append [] w v = omega arith
cost-append (s ∷ u) w v =
    let h = cost-append u w v in
    let e = ap (λ z. weight_if (is_sign s.terminal false z)) (append_assoc u w v) in
    omega arith

pub sign_costs : (s : Symbol) (w v : Text) → is_sign s.terminal false (w ++ v) ≡ true → cost (s ∷ w) v ≡ 1 + cost w v
sign_costs s w v h = ap (λ b. weight_if b + cost w v) h

-- ---- the counts of a word of an expression

pub record CountsSigns (n m a : ℕ) : Type 0 where
  pub sum : m ≡ n + a
  pub most : 0 < a → m ≤ SIGNS

one_sign : (n m : ℕ) (b : Bool) → nat_lt n SIGNS ≡ b → cond b (Some (n + 1)) None ≡ Some m → CountsSigns n m 1
one_sign n m true h e = let f : n + 1 ≡ m = cc in let g = ltb-true n SIGNS h in record { sum = omega arith; most = λ k. omega arith }
one_sign n m false h e = absurd (cc)

step_signs : (n m : ℕ) (sign : Bool) (t : Terminal) → has of_expressions t ≡ true → signs_after n sign t ≡ Some m → CountsSigns n m (weight_if sign)
step_signs n m true t h e = one_sign n m (nat_lt n SIGNS) refl e
step_signs n m false t h e = by (has of_expressions t) h e
  where
    by : (b : Bool) → b ≡ true → cond b (Some n) (Some 0) ≡ Some m → CountsSigns n m 0
    by true h e = let f : n ≡ m = cc in record { sum = omega arith; most = λ k. absurd (omega arith) }
    by false h e = absurd (cc)

most_signs : (n e d a b : ℕ) → e ≡ n + a → d ≡ e + b → (0 < a → e ≤ SIGNS) → (0 < b → d ≤ SIGNS) → 0 < a + b → d ≤ SIGNS
most_signs n e d a zero x y f g h = let k = f (omega arith) in omega arith
most_signs n e d a (suc b) x y f g h = g (omega arith)

-- behind no keyword, a word of expressions raises the count of signs by its own
pub signs_on : (most : Option ℕ) (c d : Counts) (w v : Text) → list_all (among of_expressions) w ≡ true → c.behind_keyword ≡ false → counts most c w v ≡ Ok d → CountsSigns c.signs d.signs (cost w v)
signs_on most c d [] v h b k = let f : c ≡ d = cc in let g = ap (λ (c : Counts). c.signs) f in record { sum = omega arith; most = λ l. absurd (omega arith) }
signs_on most c d (s ∷ w) v h b k =
    let p = and_is (among of_expressions s) (list_all (among of_expressions) w) h in
    by p.0 (λ e b k. signs_on most e d w v p.1 b k) (counted most c s (w ++ v)) refl k
  where
    by : among of_expressions s ≡ true → ((e : Counts) → e.behind_keyword ≡ false → counts most e w v ≡ Ok d → CountsSigns e.signs d.signs (cost w v)) →
        (o : Result Counts ParseFault) → counted most c s (w ++ v) ≡ o → and_on o (λ e. counts most e w v) ≡ Ok d → CountsSigns c.signs d.signs (cost (s ∷ w) v)
    by p again (Err f) g k = absurd (cc)
    by p again (Ok e) g k =
        let i = is_counted most c e s (w ++ v) g in
        let one = step_signs c.signs e.signs (is_sign s.terminal false (w ++ v)) s.terminal p (ap (λ b. signs_after c.signs (is_sign s.terminal b (w ++ v)) s.terminal) (sym b) ∙ i.signs) in
        let rest = again e (i.behind ∙ parted of_expressions keywords refl (s ∷ []) p) k in
        let s1 = one.sum in let s2 = rest.sum in let m1 = one.most in let m2 = rest.most in
        record { sum = omega arith; most = λ l. most_signs c.signs e.signs d.signs (weight_if (is_sign s.terminal false (w ++ v))) (cost w v) s1 s2 m1 m2 l }
