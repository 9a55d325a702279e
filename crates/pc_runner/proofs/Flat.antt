-- Stacks of slices, as lists of statements.
use Rattle.std.proofs.Common.{◌≡◌, ℤ, List, [], ◌∷◌, ◌++◌, append_assoc, append-nil, ap, ◌∙◌, sym, refl, length, ◌<◌, ◌≤◌, ◌-◌, arith, get_or, drop, drop-cons, take, Result}
use Rattle.std.proofs.lemmas.List.{take_rest}
use Rattle.std.specs.Borrow.{Bor}
use Rattle.pc_text.specs.declared.place.Place.{Place}
use Rattle.pc_program.specs.declared.tree.Stmt.{Stmt, out-Stmt}
use Rattle.pc_rows.specs.Linear.{State}
use Rattle.pc_program.specs.Machine.{Outcome}
use Rattle.pc_runner.specs.Checked.{stepped, stepped_at}
use Rattle.pc_runner.specs.Stack.{flat}

-- what is pushed comes first
pub flat_push : (xs : List (Bor (List Stmt))) (x : Bor (List Stmt)) → flat (xs ++ x ∷ []) ≡ x.now ++ flat xs
flat_push [] x = sym (append-nil x.now)
flat_push (y ∷ xs) x = ap (λ z. z ++ y.now) (flat_push xs x) ∙ append_assoc x.now (flat xs) y.now

empty_is : (xs : List Stmt) → length xs < 1 → xs ≡ []
empty_is [] h = refl
empty_is (x ∷ xs) h = absurd (omega arith)

-- an empty slice on top is nothing
pub pop_empty : (old new : List (Bor (List Stmt))) (x : Bor (List Stmt)) → old ≡ new ++ x ∷ [] → length x.now < 1 → flat old ≡ flat new
pop_empty old new x e h = ap flat e ∙ flat_push new x ∙ ap (λ z. z ++ flat new) (empty_is x.now h)

-- a step begins with the first statement of the slice on top
pub pop_some : (old new : List (Bor (List Stmt))) (x : Bor (List Stmt)) (first : Stmt) (s : State) (c : ℤ) (out : Result Outcome Place) → old ≡ new ++ x ∷ [] → 1 ≤ length x.now → first ≡ get_or x.now 0 first
    → out ≡ stepped_at first (out-Stmt first) (take (length x.now - 1) (drop 1 x.now) ++ flat new) s c → out ≡ stepped (flat old) s c
pop_some old new x first s c out e h i o =
    let front : x.now ≡ first ∷ drop 1 x.now = drop-cons x.now 0 first h ∙ ap (λ z. z ∷ drop 1 x.now) (sym i) in
    let all : flat old ≡ first ∷ (drop 1 x.now ++ flat new) = ap flat e ∙ flat_push new x ∙ ap (λ z. z ++ flat new) front in
    o ∙ ap (λ z. stepped_at first (out-Stmt first) (z ++ flat new) s c) (take_rest x.now 1) ∙ ap (λ z. stepped z s c) (sym all)
