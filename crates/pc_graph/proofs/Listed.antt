-- The statements that are still to be run at each point of a tree of statements.
use Rattle.std.proofs.Common.{◌≡◌, ℕ, ◌+◌, List, [], ◌∷◌, ◌++◌, length, refl, sym, ap, subst, ◌∙◌, arith, length-append, append_assoc, append-nil, suc, get_or}
use Rattle.pc_text.specs.declared.place.Place.{Place}
use Rattle.pc_program.specs.declared.program.Program.{Program}
use Rattle.pc_program.specs.declared.tree.Stmt.{Stmt, roll-Stmt}
use Rattle.pc_program.specs.declared.tree.Stmt.TheOpen as stmt
use Rattle.pc_graph.specs.Lowering.{rules, made}
use Rattle.pc_graph.specs.Rest.{rest, rests, rests_of}
use Rattle.pc_graph.proofs.Blocks.{Single, assigns, asserts, assumes, Block, done, single, branch, cycle, single_stmt, stmts, built, tree, rules_are}
use Rattle.pc_graph.proofs.Unrolled.{rests-if, rests-while, rests-set, rests-assert, rests-assume}

-- ---- the lists at the points that are made, in order

abbrev pub listing : Block → List Stmt → List (List Stmt)
listing done k = []
listing (single place x more) k = (stmts more ++ k) ∷ listing more k
listing (branch place t xs ys more) k =
    let l = stmts more ++ k in
    (stmts xs ++ l) ∷ (listing xs l ++ ((stmts ys ++ l) ∷ (listing ys l ++ (l ∷ listing more k))))
listing (cycle place t tried xs more) k =
    let l = stmts more ++ k in
    let again = roll-Stmt (stmt.While place t tried (stmts xs)) ∷ l in
    (stmts xs ++ again) ∷ (listing xs again ++ (l ∷ listing more k))

single_rests : (place : Place) (x : Single) (k : List Stmt) → rests (single_stmt place x) k ≡ k ∷ []
single_rests place (assigns v r) k = rests-set place v r k
single_rests place (asserts cs) k = rests-assert place cs k
single_rests place (assumes cs) k = rests-assume place cs k

flat_two : (x y l : List Stmt) (xs ys more : List (List Stmt)) → ((x ∷ (xs ++ (y ∷ (ys ++ (l ∷ []))))) ++ more) ≡ x ∷ (xs ++ (y ∷ (ys ++ (l ∷ more))))
flat_two x y l xs ys more = simp append_assoc

flat_one : (x l : List Stmt) (xs more : List (List Stmt)) → ((x ∷ (xs ++ (l ∷ []))) ++ more) ≡ x ∷ (xs ++ (l ∷ more))
flat_one x l xs more = simp append_assoc

pub rests_are : (b : Block) (k : List Stmt) → rests_of (stmts b) k ≡ listing b k
rests_are done k = refl
rests_are (single place x more) k = rw (single_rests place x (stmts more ++ k), rests_are more k) refl
rests_are (branch place t xs ys more) k =
    let l = stmts more ++ k in
    rw (rests-if place t (stmts xs) (stmts ys) l, rests_are xs l, rests_are ys l, rests_are more k) (flat_two (stmts xs ++ l) (stmts ys ++ l) l (listing xs l) (listing ys l) (listing more k))
rests_are (cycle place t tried xs more) k =
    let l = stmts more ++ k in
    let again = roll-Stmt (stmt.While place t tried (stmts xs)) ∷ l in
    rw (rests-while place t tried (stmts xs) l, rests_are xs again, rests_are more k) (flat_one (stmts xs ++ again) l (listing xs again) (listing more k))

-- there are as many as points are made
pub counted : (b : Block) (p n : ℕ) (k : List Stmt) → (built b p n).next ≡ n + length (listing b k)
counted done p n k = omega arith
counted (single place x more) p n k = let h = counted more n (n + 1) k in omega arith
counted (branch place t xs ys more) p n k =
    let l = stmts more ++ k in
    let a = built xs n (n + 1) in
    let b = built ys a.next (a.next + 1) in
    let f = counted xs n (n + 1) l in
    let g = counted ys a.next (a.next + 1) l in
    let h = counted more b.next (b.next + 1) k in
    omega (arith, length-append (listing xs l) ((stmts ys ++ l) ∷ (listing ys l ++ (l ∷ listing more k))), length-append (listing ys l) (l ∷ listing more k))
counted (cycle place t tried xs more) p n k =
    let l = stmts more ++ k in
    let again = roll-Stmt (stmt.While place t tried (stmts xs)) ∷ l in
    let a = built xs n (n + 1) in
    let f = counted xs n (n + 1) again in
    let h = counted more a.next (a.next + 1) k in
    omega (arith, length-append (listing xs again) (l ∷ listing more k))

-- ---- the list at each point

-- the points from a number on have these lists
abbrev pub Holds : (ℕ → List Stmt) → ℕ → List (List Stmt) → Type 0
Holds ρ n [] = Unit {0}
Holds ρ n (k ∷ ks) = (ρ n ≡ k) × Holds ρ (n + 1) ks

module _ (ρ : ℕ → List Stmt) where
  holds_left : (n : ℕ) (xs ys : List (List Stmt)) → Holds ρ n (xs ++ ys) → Holds ρ n xs
  holds_left n [] ys h = tt
  holds_left n (x ∷ xs) ys h = (h.0, holds_left (n + 1) xs ys h.1)

  holds_right : (n m : ℕ) (xs ys : List (List Stmt)) → m ≡ n + length xs → Holds ρ n (xs ++ ys) → Holds ρ m ys
  holds_right n m [] ys e h = let e' : n ≡ m = omega arith in subst (λ i. Holds ρ i ys) e' h
  holds_right n m (x ∷ xs) ys e h = holds_right (n + 1) m xs ys (omega arith) h.1

  -- from the present point p, before the list k: at each point the statements that begin there
  abbrev pub Listed : Block → ℕ → List Stmt → Type 0
  Listed done p k = ρ p ≡ k
  Listed (single place x more) p k = (ρ p ≡ single_stmt place x ∷ (stmts more ++ k)) × Listed more (p + 1) k
  Listed (branch place t xs ys more) p k =
      let l = stmts more ++ k in
      let a = built xs (p + 1) (p + 1 + 1) in
      let b = built ys a.next (a.next + 1) in
      (ρ p ≡ roll-Stmt (stmt.If place t (stmts xs) (stmts ys)) ∷ l) × Listed xs (p + 1) l × Listed ys a.next l × Listed more b.next k
  Listed (cycle place t tried xs more) p k =
      let again = roll-Stmt (stmt.While place t tried (stmts xs)) ∷ (stmts more ++ k) in
      let a = built xs (p + 1) (p + 1 + 1) in
      (ρ p ≡ again) × Listed xs (p + 1) again × Listed more a.next k

  pub begins : (b : Block) (p : ℕ) (k : List Stmt) → Listed b p k → ρ p ≡ stmts b ++ k
  begins done p k h = h
  begins (single place x more) p k h = h.0
  begins (branch place t xs ys more) p k h = h.0
  begins (cycle place t tried xs more) p k h = h.0

  pub ends : (b : Block) (p : ℕ) (k : List Stmt) → Listed b p k → ρ (built b p (p + 1)).last ≡ k
  ends done p k h = h
  ends (single place x more) p k h = ends more (p + 1) k h.1
  ends (branch place t xs ys more) p k h =
      let a = built xs (p + 1) (p + 1 + 1) in
      let b = built ys a.next (a.next + 1) in
      ends more b.next k h.3
  ends (cycle place t tried xs more) p k h = let a = built xs (p + 1) (p + 1 + 1) in ends more a.next k h.2

  pub listed : (b : Block) (p : ℕ) (k : List Stmt) → ρ p ≡ stmts b ++ k → Holds ρ (p + 1) (listing b k) → Listed b p k
  listed done p k e h = e
  listed (single place x more) p k e h = (e, listed more (p + 1) k h.0 h.1)
  listed (branch place t xs ys more) p k e h =
      let l = stmts more ++ k in
      let a = built xs (p + 1) (p + 1 + 1) in
      let b = built ys a.next (a.next + 1) in
      let h2 = holds_right (p + 1 + 1) a.next (listing xs l) ((stmts ys ++ l) ∷ (listing ys l ++ (l ∷ listing more k))) (counted xs (p + 1) (p + 1 + 1) l) h.1 in
      let h3 = holds_right (a.next + 1) b.next (listing ys l) (l ∷ listing more k) (counted ys a.next (a.next + 1) l) h2.1 in
      (e, listed xs (p + 1) l h.0 (holds_left (p + 1 + 1) (listing xs l) _ h.1), listed ys a.next l h2.0 (holds_left (a.next + 1) (listing ys l) _ h2.1), listed more b.next k h3.0 h3.1)
  listed (cycle place t tried xs more) p k e h =
      let l = stmts more ++ k in
      let again = roll-Stmt (stmt.While place t tried (stmts xs)) ∷ l in
      let a = built xs (p + 1) (p + 1 + 1) in
      let h2 = holds_right (p + 1 + 1) a.next (listing xs again) (l ∷ listing more k) (counted xs (p + 1) (p + 1 + 1) again) h.1 in
      (e, listed xs (p + 1) again h.0 (holds_left (p + 1 + 1) (listing xs again) _ h.1), listed more a.next k h2.0 h2.1)

  -- the lists are found by their places
  pub holds_from : (xs : List (List Stmt)) (m : ℕ) → ((i : ℕ) → ρ (m + i) ≡ get_or xs i []) → Holds ρ m xs
  holds_from [] m h = tt
  holds_from (x ∷ xs) m h =
      let z : m + 0 ≡ m = omega arith in (
        subst (λ q. ρ q ≡ x) z (h 0),
        holds_from xs (m + 1) (λ i. let e : m + suc i ≡ (m + 1) + i = omega arith in subst (λ q. ρ q ≡ get_or xs i []) e (h (suc i))),
      )

-- ---- a program

-- the tree of a program's body
abbrev pub body_of : Program → Block
body_of p = (tree p.body).0

pub body_is : (p : Program) → stmts (body_of p) ≡ p.body
body_is p = (tree p.body).1

pub made_is : (p : Program) → made p ≡ built (body_of p) 1 2
made_is p = ap (λ (z : List Stmt). rules z 1 2) (sym (body_is p)) ∙ rules_are (body_of p) 1 2

pub program_listed : (p : Program) → Listed (rest p) (body_of p) 1 []
program_listed p =
    let at_start = sym (append-nil p.body) ∙ ap (λ (z : List Stmt). z ++ []) (sym (body_is p)) in
    let all = holds_from (rest p) (rests_of p.body []) 2 (λ i. let e : 2 + i ≡ suc (suc i) = omega arith in ap (λ q. rest p q) e) in
    listed (rest p) (body_of p) 1 [] at_start (subst (Holds (rest p) 2) (ap (λ (z : List Stmt). rests_of z []) (sym (body_is p)) ∙ rests_are (body_of p) []) all)
