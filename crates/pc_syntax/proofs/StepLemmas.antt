-- The walk over lists of statements, a step at a time.
use Rattle.std.proofs.Common.{◌≡◌, ℕ, zero, suc, ◌+◌, ◌<◌, ◌≤◌, refl, sym, ◌∙◌, ap, arith, List, [], ◌∷◌, ◌++◌, append_assoc, length, get_or, drop, drop-cons, map, true, Result, Ok, Err, add-one}
use Rattle.std.specs.Prelude.{◌≢◌}
use Rattle.pc_text.specs.Bytes.{Bytes}
use Rattle.pc_grammar.specs.declared.tree.StmtTree.{StmtTree, StmtTree-F, fold-StmtTree}
use Rattle.pc_grammar.specs.declared.tree.StmtTree.TheOpen as open_stmt
use Rattle.pc_program.specs.declared.tree.Stmt.{Stmt}
use Rattle.pc_syntax.specs.declared.fault.SourceFault.{SourceFault}
use Rattle.pc_syntax.specs.declared.fault.SourceFault.TheVariants as fault
use Rattle.pc_syntax.specs.declared.walk.Counted.{Counted}
use Rattle.pc_syntax.specs.declared.walk.CountedList.{CountedList}
use Rattle.pc_program.specs.Forms.{bind}
use Rattle.pc_syntax.specs.Faults.{Gives}
use Rattle.pc_syntax.specs.Context as walk
use Rattle.pc_syntax.specs.Trees as trees
use Rattle.pc_syntax.specs.Walks.{counted_behind}
use Rattle.pc_program.proofs.Results.{and_is}
use Rattle.std.specs.Prelude.{IsErrAnd}

abbrev total : List ℕ → ℕ
total [] = 0
total (n ∷ ns) = n + total ns

-- a fault that is handed on is given where it is wanted
pub handed : {A : Type 0} (r wanted : Result A SourceFault) (f : SourceFault) → IsErrAnd r (λ e. e ≡ f) → (f ≢ fault.NoMemory → wanted ≡ Err f) → Gives r wanted
handed (Ok x) wanted f h k = absurd h
handed (Err e) wanted f h k = λ n. let m : f ≢ fault.NoMemory = λ q. n (h ∙ q) in k m ∙ ap (λ (g : SourceFault). Err g) (sym h)

-- each statement of a list
fit_from : (n : ℕ) (xs : List StmtTree) (i : ℕ) (x : StmtTree) → trees.fit_stmts n xs ≡ true → i < length xs → trees.fit_stmt n (get_or xs i x) ≡ true
fit_from n [] i x h l = absurd (omega arith)
fit_from n (y ∷ ys) zero x h l = (and_is (trees.fit_stmt n y) (trees.fit_stmts n ys) h).0
fit_from n (y ∷ ys) (suc i) x h l = fit_from n ys i x (and_is (trees.fit_stmt n y) (trees.fit_stmts n ys) h).1 (omega arith)

pub item_fits : (n : ℕ) (xs : List StmtTree) (i : ℕ) (x : StmtTree) → trees.fit_stmts n xs ≡ true → i < length xs → x ≡ get_or xs i x → trees.fit_stmt n x ≡ true
item_fits n xs i x h l e = ap (trees.fit_stmt n) e ∙ fit_from n xs i x h l

-- ---- what is left to walk over

abbrev weight_step : StmtTree-F ℕ → ℕ
weight_step (open_stmt.Set name r) = 1
weight_step (open_stmt.If p t xs ys) = 2 + (total xs + total ys)
weight_step (open_stmt.While p t cs xs) = 2 + total xs
weight_step (open_stmt.Assert p cs) = 1
weight_step (open_stmt.Assume p cs) = 1

-- the number of statements of a tree, and of those of a list
abbrev pub weight : StmtTree → ℕ
weight x = fold-StmtTree ℕ weight_step x

abbrev pub weights : List StmtTree → ℕ
weights xs = 1 + total (map weight xs)

weight_at : (xs : List StmtTree) (i : ℕ) (x : StmtTree) → i < length xs → weight (get_or xs i x) ≤ total (map weight xs)
weight_at [] i x l = absurd (omega arith)
weight_at (y ∷ ys) zero x l = omega arith
weight_at (y ∷ ys) (suc i) x l = let h = weight_at ys i x (omega arith) in omega arith

pub item_smaller : (xs : List StmtTree) (i : ℕ) (x : StmtTree) → i < length xs → x ≡ get_or xs i x → weight x < weights xs
item_smaller xs i x l e = let h = weight_at xs i x l in let w = ap weight e in omega arith

-- ---- lists

module _ (src : Bytes) (names : List Bytes) where
  -- the statement at a place of a list, and those behind it
  rest_is : (xs : List StmtTree) (i k : ℕ) (x : StmtTree) → i < length xs → x ≡ get_or xs i x →
      walk.checked_stmts src names (drop i xs) k ≡ bind (walk.checked_stmt src names x k) (λ y. bind (walk.checked_stmts src names (drop (i + 1) xs) y.edges) (λ ys. Ok (record { stmts = y.stmt ∷ ys.stmts; edges = ys.edges })))
  rest_is xs i k x l e =
      let d : drop i xs ≡ x ∷ drop (i + 1) xs = rw add-one (drop-cons xs i x l ∙ ap (λ z. z ∷ drop (suc i) xs) (sym e)) in
      ap (λ zs. walk.checked_stmts src names zs k) d

  pub item_fails : (xs : List StmtTree) (i k : ℕ) (x : StmtTree) (wanted : Result CountedList SourceFault) (done : List Stmt) → i < length xs → x ≡ get_or xs i x →
      counted_behind done (walk.checked_stmts src names (drop i xs) k) ≡ wanted → (f : SourceFault) → (f ≢ fault.NoMemory → walk.checked_stmt src names x k ≡ Err f) → f ≢ fault.NoMemory → wanted ≡ Err f
  item_fails xs i k x wanted done l e h f g n = sym h ∙ rw (rest_is xs i k x l e, g n) refl

  item_is : (xs : List StmtTree) (i k : ℕ) (x : StmtTree) (y : Counted) → i < length xs → x ≡ get_or xs i x → walk.checked_stmt src names x k ≡ Ok y →
      walk.checked_stmts src names (drop i xs) k ≡ bind (walk.checked_stmts src names (drop (i + 1) xs) y.edges) (λ ys. Ok (record { stmts = y.stmt ∷ ys.stmts; edges = ys.edges }))
  item_is xs i k x y l e g = rest_is xs i k x l e ∙ rw g refl

  pub item_done : (xs : List StmtTree) (i k : ℕ) (x : StmtTree) (y : Counted) (wanted : Result CountedList SourceFault) (done more : List Stmt) → i < length xs → x ≡ get_or xs i x →
      walk.checked_stmt src names x k ≡ Ok y → more ≡ done ++ y.stmt ∷ [] → counted_behind done (walk.checked_stmts src names (drop i xs) k) ≡ wanted →
      counted_behind more (walk.checked_stmts src names (drop (i + 1) xs) y.edges) ≡ wanted
  item_done xs i k x y wanted done more l e g m h =
      ap (λ (z : List Stmt). counted_behind z (walk.checked_stmts src names (drop (i + 1) xs) y.edges)) m ∙
      by (walk.checked_stmts src names (drop (i + 1) xs) y.edges) ∙ sym (ap (counted_behind done) (item_is xs i k x y l e g)) ∙ h
    where
      by : (r : Result CountedList SourceFault) → counted_behind (done ++ y.stmt ∷ []) r ≡ counted_behind done (bind r (λ ys. Ok (record { stmts = y.stmt ∷ ys.stmts; edges = ys.edges })))
      by (Ok z) = ap (λ (zs : List Stmt). Ok (record { stmts = zs; edges = z.edges })) (append_assoc done (y.stmt ∷ []) z.stmts)
      by (Err f) = refl
