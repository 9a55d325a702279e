-- The counts over the symbols of an expression's pieces.
use Rattle.std.proofs.Common.{◌≡◌, ℕ, ◌+◌, ◌≤◌, refl, ◌∙◌, ap, arith, List, [], ◌∷◌, ◌++◌, Bool, true, false, None, Ok}
use Rattle.std.specs.Prelude.{nat_le}
use Rattle.std.specs.List.{list_all}
use Rattle.std.proofs.lemmas.Bool.{leb-true, lt-ltb}
use Rattle.pc_text.specs.Bytes.{Bytes}
use Rattle.pc_grammar.specs.declared.symbol.Symbol.{Symbol}
use Rattle.pc_language.specs.declared.terminal.Terminal.{Terminal}
use Rattle.pc_language.specs.declared.terminal.Terminal.TheVariants as terminal
use Rattle.pc_grammar.specs.declared.limits.Counts.{Counts}
use Rattle.pc_language.specs.declared.limits.TheConstants.{SIGNS}
use Rattle.pc_grammar.specs.Combinators.{Text}
use Rattle.pc_grammar.specs.Terminals.{has}
use Rattle.pc_grammar.specs.Limits.{counted}
use Rattle.pc_show.specs.Pieces.{Piece, Blank, LineEnd, Mark, Name, Number}
use Rattle.pc_program.specs.declared.tree.Expr.{Expr}
use Rattle.pc_program.specs.declared.tree.Expr.TheOpen as expr
use Rattle.pc_show.specs.declared.showing.level.Level.{Level}
use Rattle.pc_show.specs.declared.showing.level.Level.TheVariants as level
use Rattle.pc_show.specs.Canonical.{wraps_sum, wraps_product, wraps_negation, wrapped, spaced, joined, expr_pieces}
use Rattle.pc_readback.specs.Showable.{sign_weight, signs_in, has_literals, shown_expr}
use Rattle.pc_readback.specs.Matched.{AreOf}
use Rattle.pc_program.proofs.Results.{and_is, and_of}
use Rattle.pc_program.proofs.Exprs.{by_cases}
use Rattle.pc_show.proofs.Laid.{expr_laid}
use Rattle.pc_readback.proofs.CountedPieces.{Step, NoChoice, Count, passes_first, count_as}

-- the counts within an expression that has so many signs already
pub record Within (braces ands signs : ℕ) (c : Counts) : Type 0 where
  pub braces_are : c.braces ≡ braces
  pub ands_are : c.ands ≡ ands
  pub signs_are : c.signs ≡ signs
  pub behind_none : c.behind_keyword ≡ false

-- the braces and the "&&" that are counted
pub record Here (braces ands : ℕ) (c : Counts) : Type 0 where
  pub braces_are : c.braces ≡ braces
  pub ands_are : c.ands ≡ ands

pub here : (braces ands signs : ℕ) (c : Counts) → Within braces ands signs c → Here braces ands c
here b n k c w = record { braces_are = w.braces_are; ands_are = w.ands_are }

-- a mark of expressions
abbrev pub in_expr : Terminal → Bool
in_expr terminal.OpenParen = true
in_expr terminal.CloseParen = true
in_expr terminal.Plus = true
in_expr terminal.Minus = true
in_expr terminal.Star = true
in_expr _ = false

-- a piece of expressions
abbrev pub is_of_expr : Piece → Bool
is_of_expr (Blank n) = true
is_of_expr LineEnd = true
is_of_expr (Mark t) = in_expr t
is_of_expr (Name w) = true
is_of_expr (Number z) = true

module _ (b n k : ℕ) (c : Counts) (s : Symbol) (r : Text) (w : Within b n k c) where
  -- a symbol that is no sign
  plain : (t : Terminal) → s.terminal ≡ t → counted None c s r ≡ Ok (record { braces = c.braces; signs = c.signs; ands = c.ands; blocks = c.blocks; behind_keyword = false }) → Step c s r (Within b n k)
  plain t e h = record { after = record { braces = c.braces; signs = c.signs; ands = c.ands; blocks = c.blocks; behind_keyword = false }; runs = h; holds = record { braces_are = w.braces_are; ands_are = w.ands_are; signs_are = w.signs_are; behind_none = refl } }

  -- and one that is
  sign : (t : Terminal) → s.terminal ≡ t → counted None c s r ≡ Ok (record { braces = c.braces; signs = c.signs + 1; ands = c.ands; blocks = c.blocks; behind_keyword = false }) → Step c s r (Within b n (k + 1))
  sign t e h = record { after = record { braces = c.braces; signs = c.signs + 1; ands = c.ands; blocks = c.blocks; behind_keyword = false }; runs = h; holds = record { braces_are = w.braces_are; ands_are = w.ands_are; signs_are = ap (λ (m : ℕ). m + 1) w.signs_are; behind_none = refl } }

  mark_step : (t : Terminal) → in_expr t ≡ true → s.terminal ≡ t → k + sign_weight t ≤ SIGNS → NoChoice r → Step c s r (Within b n (k + sign_weight t))
  mark_step terminal.OpenParen i e h f = sign terminal.OpenParen e (rw (e, w.behind_none, lt-ltb c.signs SIGNS (let g = w.signs_are in omega arith)) refl)
  mark_step terminal.CloseParen i e h f = let z : k + 0 ≡ k = omega arith in rw z (plain terminal.CloseParen e (rw e refl))
  mark_step terminal.Plus i e h f = sign terminal.Plus e (rw (e, f, lt-ltb c.signs SIGNS (let g = w.signs_are in omega arith)) refl)
  mark_step terminal.Minus i e h f = sign terminal.Minus e (rw (e, lt-ltb c.signs SIGNS (let g = w.signs_are in omega arith)) refl)
  mark_step terminal.Star i e h f = sign terminal.Star e (rw (e, lt-ltb c.signs SIGNS (let g = w.signs_are in omega arith)) refl)
  mark_step t i e h f = absurd (cc)

-- no piece of an expression begins a choice
first_mark : (t : Terminal) → in_expr t ≡ true → has (terminal.OpenBracket ∷ []) t ≡ false
first_mark terminal.OpenParen i = refl
first_mark terminal.CloseParen i = refl
first_mark terminal.Plus i = refl
first_mark terminal.Minus i = refl
first_mark terminal.Star i = refl
first_mark t i = absurd (cc)

module _ (src : Bytes) where
  pub expr_no_choice : (ps : List Piece) → list_all is_of_expr ps ≡ true → (u v : Text) → AreOf src ps u → NoChoice v → NoChoice (u ++ v)
  expr_no_choice [] a [] v h f = f
  expr_no_choice [] a (s ∷ u) v h f = absurd h
  expr_no_choice (Blank n ∷ ps) a u v h f = expr_no_choice ps a u v h f
  expr_no_choice (LineEnd ∷ ps) a u v h f = expr_no_choice ps a u v h f
  expr_no_choice (Mark t ∷ ps) a [] v h f = absurd h
  expr_no_choice (Mark t ∷ ps) a (s ∷ u) v (e, h) f = ap (has (terminal.OpenBracket ∷ [])) e ∙ first_mark t (and_is (in_expr t) (list_all is_of_expr ps) a).0
  expr_no_choice (Name w ∷ ps) a [] v h f = absurd h
  expr_no_choice (Name w ∷ ps) a (s ∷ u) v (e, i, h) f = ap (has (terminal.OpenBracket ∷ [])) e
  expr_no_choice (Number z ∷ ps) a [] v h f = absurd h
  expr_no_choice (Number z ∷ ps) a (s ∷ u) v (e, i, h) f = ap (has (terminal.OpenBracket ∷ [])) e

  module _ (b n : ℕ) where
    pub pieces_counted : (ps : List Piece) → list_all is_of_expr ps ≡ true → (k : ℕ) → k + signs_in ps ≤ SIGNS → Count src ps (Within b n k) (Within b n (k + signs_in ps)) NoChoice
    pieces_counted [] a k l c w [] v h f = let z : k + 0 ≡ k = omega arith in rw z (record { after = c; runs = refl; holds = w })
    pieces_counted [] a k l c w (s ∷ u) v h f = absurd h
    pieces_counted (Blank m ∷ ps) a k l c w u v h f = let z : k + signs_in (Blank m ∷ ps) ≡ k + signs_in ps = omega arith in rw z (pieces_counted ps a k (omega arith) c w u v h f)
    pieces_counted (LineEnd ∷ ps) a k l c w u v h f = let z : k + signs_in (LineEnd ∷ ps) ≡ k + signs_in ps = omega arith in rw z (pieces_counted ps a k (omega arith) c w u v h f)
    pieces_counted (Mark t ∷ ps) a k l c w [] v h f = absurd h
    pieces_counted (Mark t ∷ ps) a k l c w (s ∷ u) v (e, h) f =
        let p = and_is (in_expr t) (list_all is_of_expr ps) a in
        let z : k + signs_in (Mark t ∷ ps) ≡ k + sign_weight t + signs_in ps = omega arith in
        rw z (passes_first c s u v _ _ (mark_step b n k c s (u ++ v) w t p.0 e (omega arith) (expr_no_choice ps p.1 u v h f))
        (λ d x. pieces_counted ps p.1 (k + sign_weight t) (omega arith) d x u v h f))
    pieces_counted (Name x ∷ ps) a k l c w [] v h f = absurd h
    pieces_counted (Name x ∷ ps) a k l c w (s ∷ u) v (e, i, h) f =
        let z : k + signs_in (Name x ∷ ps) ≡ k + signs_in ps = omega arith in
        rw z (passes_first c s u v _ _ (plain b n k c s (u ++ v) w terminal.Name e (rw e refl)) (λ d x. pieces_counted ps a k (omega arith) d x u v h f))
    pieces_counted (Number x ∷ ps) a k l c w [] v h f = absurd h
    pieces_counted (Number x ∷ ps) a k l c w (s ∷ u) v (e, i, h) f =
        let z : k + signs_in (Number x ∷ ps) ≡ k + signs_in ps = omega arith in
        rw z (passes_first c s u v _ _ (plain b n k c s (u ++ v) w terminal.Number e (rw e refl)) (λ d x. pieces_counted ps a k (omega arith) d x u v h f))

-- ---- the pieces of an expression

all_pieces_join : (ps qs : List Piece) → list_all is_of_expr ps ≡ true → list_all is_of_expr qs ≡ true → list_all is_of_expr (ps ++ qs) ≡ true
all_pieces_join [] qs h k = k
all_pieces_join (p ∷ ps) qs h k = let q = and_is (is_of_expr p) (list_all is_of_expr ps) h in and_of (is_of_expr p) (list_all is_of_expr (ps ++ qs)) q.0 (all_pieces_join ps qs q.1 k)

wrapped_pieces : (b : Bool) (ps : List Piece) → list_all is_of_expr ps ≡ true → list_all is_of_expr (wrapped b ps) ≡ true
wrapped_pieces true ps h = all_pieces_join ps (Mark terminal.CloseParen ∷ []) h refl
wrapped_pieces false ps h = h

joined_pieces : (ps qs : List Piece) (t : Terminal) → in_expr t ≡ true → list_all is_of_expr ps ≡ true → list_all is_of_expr qs ≡ true → list_all is_of_expr (joined ps t qs) ≡ true
joined_pieces ps qs t i h k = all_pieces_join ps (spaced t ++ qs) h (and_of (in_expr t) (list_all is_of_expr qs) i k)

module _ (names : List Bytes) where
  abbrev Over : Expr → Type 0
  Over x = (l : Level) → list_all is_of_expr (expr_pieces names x l) ≡ true

  expr_over : (x : Expr) → Over x
  expr_over x = by_cases Over
      (λ z l. rw (expr_laid names (expr.Num z) l) refl)
      (λ v l. rw (expr_laid names (expr.Name v) l) refl)
      (λ a p h l. rw (expr_laid names (expr.Neg a p) l) (wrapped_pieces (wraps_negation l) _ (h level.Atom)))
      (λ a b p h k l. rw (expr_laid names (expr.Add a b p) l) (wrapped_pieces (wraps_sum l) _ (joined_pieces (expr_pieces names a level.Expression) (expr_pieces names b level.Addend) terminal.Plus refl (h level.Expression) (k level.Addend))))
      (λ a b p h k l. rw (expr_laid names (expr.Sub a b p) l) (wrapped_pieces (wraps_sum l) _ (joined_pieces (expr_pieces names a level.Expression) (expr_pieces names b level.Addend) terminal.Minus refl (h level.Expression) (k level.Addend))))
      (λ a b p h k l. rw (expr_laid names (expr.Mul a b p) l) (wrapped_pieces (wraps_product l) _ (joined_pieces (expr_pieces names a level.Addend) (expr_pieces names b level.Factor) terminal.Star refl (h level.Addend) (k level.Factor))))
      x

  -- an expression that can be shown has no sign too many
  pub expr_counted : (src : Bytes) (b n : ℕ) (x : Expr) → shown_expr names x ≡ true → Count src (expr_pieces names x level.Expression) (Within b n 0) (Here b n) NoChoice
  expr_counted src b n x h =
      let ps = expr_pieces names x level.Expression in
      let most = leb-true (signs_in ps) SIGNS (and_is (has_literals x) (nat_le (signs_in ps) SIGNS) h).1 in
      count_as src (Within b n 0) (Within b n 0) (Within b n (0 + signs_in ps)) (Here b n) NoChoice ps (λ c w. w) (here b n (0 + signs_in ps)) (pieces_counted src b n ps (expr_over x level.Expression) 0 (omega arith))
