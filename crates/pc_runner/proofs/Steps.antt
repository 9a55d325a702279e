-- A step that stops at the first value that is past the range is the machine's step, unless a value is past the range.
use Rattle.std.proofs.Common.{◌≡◌, ◌∙◌, refl, ap, sym, ℤ, ◌+ℤ◌, ◌-ℤ◌, ◌*ℤ◌, neg_ℤ, List, [], ◌∷◌, ◌++◌, Option, Some, None, Result, Ok, Err, Bool, true, false}
use Rattle.std.specs.Prelude.{if◌then◌else◌, ◌&&◌, slice_set}
use Rattle.std.proofs.Math.IntN.{+ℤ_idr}
use Rattle.pc_text.specs.declared.place.Place.{Place}
use Rattle.pc_language.specs.declared.choice.Choice.{Choice}
use Rattle.pc_program.specs.declared.tree.Expr.{Expr, fold-roll-Expr}
use Rattle.pc_program.specs.declared.tree.Compare.{Compare}
use Rattle.pc_program.specs.declared.tree.Right.{Right}
use Rattle.pc_program.specs.declared.tree.Test.{Test}
use Rattle.pc_program.specs.declared.tree.Test.TheVariants as test
use Rattle.pc_program.specs.declared.tree.Stmt.{Stmt, Stmt-F, out-Stmt}
use Rattle.pc_program.specs.declared.tree.Stmt.TheOpen as stmt
use Rattle.pc_program.specs.Values.{value_of, compared, holds, all_hold, chosen}
use Rattle.pc_rows.specs.Linear.{State}
use Rattle.pc_program.specs.Machine.{Going, Violated, Blocked, step_at, drawn}
use Rattle.pc_text.specs.Numerals.{is_in_range}
use Rattle.pc_runner.specs.Computed.{Computed, worked, in_expr, in_all, in_test, in_choice, in_right, in_stmt, first_past}
use Rattle.pc_runner.specs.Checked.{then_with, fits, evaluated, held, all_held, tested, with_choice, assigned, stepped_at, stepped}
use Rattle.pc_runner.specs.Verdicts.{unless, taken}
use Rattle.pc_program.proofs.Exprs.{by_cases}

-- ---- the first value past the range of two lists

abbrev or_else : Option Place → Option Place → Option Place
or_else None q = q
or_else (Some p) q = Some p

first_by : (b : Bool) (p : Place) (x y : Option Place) → (if b then or_else x y else Some p) ≡ or_else (if b then x else Some p) y
first_by true p x y = refl
first_by false p x y = refl

first_past-append : (xs ys : List Computed) → first_past (xs ++ ys) ≡ or_else (first_past xs) (first_past ys)
first_past-append [] ys = refl
first_past-append (x ∷ xs) ys = ap (λ (o : Option Place). if is_in_range x.value then o else Some x.place) (first_past-append xs ys) ∙ first_by (is_in_range x.value) x.place (first_past xs) (first_past ys)

or_else_assoc : (o p q : Option Place) → or_else (or_else o p) q ≡ or_else o (or_else p q)
or_else_assoc None p q = refl
or_else_assoc (Some x) p q = refl

appended_twice : (xs ys zs : List Computed) → first_past ((xs ++ ys) ++ zs) ≡ or_else (first_past xs) (or_else (first_past ys) (first_past zs))
appended_twice xs ys zs =
    first_past-append (xs ++ ys) zs ∙ ap (λ o. or_else o (first_past zs)) (first_past-append xs ys) ∙ or_else_assoc (first_past xs) (first_past ys) (first_past zs)

-- ---- answers, unless a value is past the range

then_unless : {A B : Type 0} (o q : Option Place) (x : A) (f : A → Result B Place) (y : B) → f x ≡ unless q y → then_with (unless o x) f ≡ unless (or_else o q) y
then_unless None q x f y h = h
then_unless (Some p) q x f y h = refl

map_unless : {A B : Type 0} (o : Option Place) (x : A) (f : A → B) → then_with (unless o x) (λ z. Ok (f z)) ≡ unless o (f x)
map_unless None x f = refl
map_unless (Some p) x f = refl

pass : {A B : Type 0} (r : Result A Place) (o : Option Place) (x : A) (f : A → B) → r ≡ unless o x → then_with r (λ z. Ok (f z)) ≡ unless o (f x)
pass r o x f h = ap (λ r. then_with r (λ z. Ok (f z))) h ∙ map_unless o x f

one_by : (b : Bool) (p : Place) (z : ℤ) → ◌≡◌ {A = Result ℤ Place} (if b then Ok z else Err p) (unless (if b then None else Some p) z)
one_by true p z = refl
one_by false p z = refl

fits_is : (p : Place) (z : ℤ) → fits p z ≡ unless (first_past (record { place = p; value = z } ∷ [])) z
fits_is p z = one_by (is_in_range z) p z

-- ---- expressions

-- the value beside the operators' values is the expression's value
worked_is : (s : State) (x : Expr) → (worked s x).0 ≡ value_of s x
worked_is s =
    by_cases (λ x. (worked s x).0 ≡ value_of s x) (λ n. simp fold-roll-Expr) (λ v. simp fold-roll-Expr) (λ a p h. simp fold-roll-Expr (ap neg_ℤ h))
    (λ a b p h g. simp fold-roll-Expr (ap (λ z. z +ℤ (worked s b).0) h ∙ ap (λ z. value_of s a +ℤ z) g))
    (λ a b p h g. simp fold-roll-Expr (ap (λ z. z -ℤ (worked s b).0) h ∙ ap (λ z. value_of s a -ℤ z) g))
    (λ a b p h g. simp fold-roll-Expr (ap (λ z. z *ℤ (worked s b).0) h ∙ ap (λ z. value_of s a *ℤ z) g))

unary : (f : ℤ → ℤ) (p : Place) (r : Result ℤ Place) (a : ℤ) (vs : List Computed) → r ≡ unless (first_past vs) a
    → then_with r (λ x. fits p (f x)) ≡ unless (first_past (vs ++ record { place = p; value = f a } ∷ [])) (f a)
unary f p r a vs h =
    ap (λ r. then_with r (λ x. fits p (f x))) h ∙ then_unless (first_past vs) _ a (λ x. fits p (f x)) (f a) (fits_is p (f a))
    ∙ ap (λ o. unless o (f a)) (sym (first_past-append vs (record { place = p; value = f a } ∷ [])))

binary : (f : ℤ → ℤ → ℤ) (p : Place) (r q : Result ℤ Place) (a b : ℤ) (vs ws : List Computed) → r ≡ unless (first_past vs) a → q ≡ unless (first_past ws) b
    → then_with r (λ x. then_with q (λ y. fits p (f x y))) ≡ unless (first_past ((vs ++ ws) ++ record { place = p; value = f a b } ∷ [])) (f a b)
binary f p r q a b vs ws h g =
    let last = record { place = p; value = f a b } ∷ [] in
    let second = λ (x : ℤ). then_with q (λ y. fits p (f x y)) in
    let one : second a ≡ unless (or_else (first_past ws) (first_past last)) (f a b) =
    ap (λ r. then_with r (λ y. fits p (f a y))) g ∙ then_unless (first_past ws) (first_past last) b (λ y. fits p (f a y)) (f a b) (fits_is p (f a b)) in
    ap (λ r. then_with r second) h ∙ then_unless (first_past vs) (or_else (first_past ws) (first_past last)) a second (f a b) one
    ∙ ap (λ o. unless o (f a b)) (sym (appended_twice vs ws last))

evaluated_is : (s : State) (x : Expr) → evaluated s x ≡ unless (first_past (worked s x).1) (worked s x).0
evaluated_is s =
    by_cases (λ x. evaluated s x ≡ unless (first_past (worked s x).1) (worked s x).0) (λ n. simp fold-roll-Expr) (λ v. simp fold-roll-Expr)
    (λ a p h. simp fold-roll-Expr (unary neg_ℤ p (evaluated s a) (worked s a).0 (worked s a).1 h))
    (λ a b p h g. simp fold-roll-Expr (binary (λ x y. x +ℤ y) p (evaluated s a) (evaluated s b) (worked s a).0 (worked s b).0 (worked s a).1 (worked s b).1 h g))
    (λ a b p h g. simp fold-roll-Expr (binary (λ x y. x -ℤ y) p (evaluated s a) (evaluated s b) (worked s a).0 (worked s b).0 (worked s a).1 (worked s b).1 h g))
    (λ a b p h g. simp fold-roll-Expr (binary (λ x y. x *ℤ y) p (evaluated s a) (evaluated s b) (worked s a).0 (worked s b).0 (worked s a).1 (worked s b).1 h g))

value_is : (s : State) (x : Expr) → evaluated s x ≡ unless (first_past (in_expr s x)) (value_of s x)
value_is s x = evaluated_is s x ∙ ap (unless (first_past (in_expr s x))) (worked_is s x)

-- ---- comparisons

-- two answers one after the other
both_unless : (A B C : Type 0) (r : Result A Place) (q : Result B Place) (a : A) (b : B) (vs ws : List Computed) (f : A → B → C)
    → r ≡ unless (first_past vs) a → q ≡ unless (first_past ws) b → then_with r (λ x. then_with q (λ y. Ok (f x y))) ≡ unless (first_past (vs ++ ws)) (f a b)
both_unless A B C r q a b vs ws f h g =
    let second = λ (x : A). then_with q (λ y. Ok (f x y)) in
    ap (λ r. then_with r second) h ∙ then_unless (first_past vs) (first_past ws) a second (f a b) (pass q (first_past ws) b (f a) g)
    ∙ ap (λ o. unless o (f a b)) (sym (first_past-append vs ws))

held_is : (s : State) (c : Compare) → held s c ≡ unless (first_past (in_expr s c.left ++ in_expr s c.right)) (holds c s)
held_is s c = both_unless ℤ ℤ Bool (evaluated s c.left) (evaluated s c.right) (value_of s c.left) (value_of s c.right) (in_expr s c.left) (in_expr s c.right) (compared c.op) (value_is s c.left) (value_is s c.right)

rest_by : (h : Bool) (rest : Result Bool Place) (vs : List Computed) (t : Bool) → rest ≡ unless (first_past vs) t
    → (if h then rest else Ok false) ≡ unless (first_past (if h then vs else [])) (h && t)
rest_by true rest vs t e = e
rest_by false rest vs t e = refl

all_held_is : (s : State) (cs : List Compare) → all_held s cs ≡ unless (first_past (in_all s cs)) (all_hold cs s)
all_held_is s [] = refl
all_held_is s (c ∷ cs) =
    let first = in_expr s c.left ++ in_expr s c.right in
    let rest = if holds c s then in_all s cs else [] in
    let on = λ (h : Bool). if h then all_held s cs else Ok false in
    ap (λ r. then_with r on) (held_is s c) ∙ then_unless (first_past first) (first_past rest) (holds c s) on (all_hold (c ∷ cs) s) (rest_by (holds c s) (all_held s cs) (in_all s cs) (all_hold cs s) (all_held_is s cs))
    ∙ ap (λ o. unless o (all_hold (c ∷ cs) s)) (sym (first_past-append first rest))

tested_is : (s : State) (t : Test) (c : ℤ) → tested s t c ≡ unless (first_past (in_test s t)) (chosen t s c)
tested_is s test.Any c = refl
tested_is s (test.All cs) c = all_held_is s cs

-- ---- assignments

chosen_is : (o : Option Choice) (z c : ℤ) → with_choice o z c ≡ unless (first_past (in_choice o (z +ℤ drawn o c))) (z +ℤ drawn o c)
chosen_is None z c = ap Ok (sym (+ℤ_idr z))
chosen_is (Some choice) z c = fits_is choice.place (z +ℤ drawn (Some choice) c)

assigned_is : (s : State) (r : Right) (c : ℤ) → assigned s r c ≡ unless (first_past (in_right s r c)) (value_of s r.expr +ℤ drawn r.choice c)
assigned_is s r c =
    let sum = value_of s r.expr +ℤ drawn r.choice c in
    let on = λ (z : ℤ). with_choice r.choice z c in
    ap (λ r. then_with r on) (value_is s r.expr) ∙ then_unless (first_past (in_expr s r.expr)) (first_past (in_choice r.choice sum)) (value_of s r.expr) on sum (chosen_is r.choice (value_of s r.expr) c)
    ∙ ap (λ o. unless o sum) (sym (first_past-append (in_expr s r.expr) (in_choice r.choice sum)))

-- ---- steps

stepped_at_is : (x : Stmt) (y : Stmt-F Stmt) (k : List Stmt) (s : State) (c : ℤ) → stepped_at x y k s c ≡ unless (first_past (in_stmt y s c)) (step_at x y k s c)
stepped_at_is x (stmt.Set p v r) k s c = pass (assigned s r c) _ _ (λ z. Going k (slice_set s v z)) (assigned_is s r c)
stepped_at_is x (stmt.If p t xs ys) k s c = pass (tested s t c) _ _ (λ h. Going ((if h then xs else ys) ++ k) s) (tested_is s t c)
stepped_at_is x (stmt.While p t tried xs) k s c = pass (tested s t c) _ _ (λ h. Going (if h then (xs ++ (x ∷ k)) else k) s) (tested_is s t c)
stepped_at_is x (stmt.Assert p cs) k s c = pass (all_held s cs) _ _ (λ h. if h then Going k s else Violated p) (all_held_is s cs)
stepped_at_is x (stmt.Assume p cs) k s c = pass (all_held s cs) _ _ (λ h. if h then Going k s else Blocked p) (all_held_is s cs)

pub stepped_is : (k : List Stmt) (s : State) (c : ℤ) → stepped k s c ≡ taken k s c
stepped_is [] s c = refl
stepped_is (x ∷ k) s c = stepped_at_is x (out-Stmt x) k s c
