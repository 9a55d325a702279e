-- The symbols of the pieces of a statement derive its tree, given that those of its parts do.
use Rattle.std.proofs.Common.{◌≡◌, ℕ, refl, List, [], ◌∷◌, ◌++◌, true}
use Rattle.pc_text.specs.Bytes.{Bytes}
use Rattle.pc_text.specs.declared.place.Place.{Place}
use Rattle.pc_grammar.specs.declared.symbol.Symbol.{Symbol}
use Rattle.pc_language.specs.declared.terminal.Terminal.{Terminal}
use Rattle.pc_language.specs.declared.terminal.Terminal.TheVariants as terminal
use Rattle.pc_grammar.specs.declared.tree.ExprTree.{ExprTree}
use Rattle.pc_grammar.specs.declared.tree.CompareTree.{CompareTree}
use Rattle.pc_grammar.specs.declared.tree.TestTree.{TestTree}
use Rattle.pc_grammar.specs.declared.tree.RightTree.{RightTree}
use Rattle.pc_grammar.specs.declared.tree.StmtTree.{StmtTree}
use Rattle.pc_grammar.specs.declared.tree.StmtTree.TheVariants as tree
use Rattle.pc_grammar.specs.Combinators.{Lang, is_map, is_both, is_either}
use Rattle.pc_grammar.specs.Terminals.{has, is_one}
use Rattle.pc_grammar.specs.Rights.{is_right}
use Rattle.pc_grammar.specs.Statements as grammar
use Rattle.pc_show.specs.Pieces.{Piece, Blank, LineEnd, Mark, Name}
use Rattle.pc_show.specs.Canonical.{spaced, opened}
use Rattle.pc_syntax.specs.Context.{word}
use Rattle.pc_readback.proofs.Derived.{Derive, derive_map, derive_both, derive_left, derive_right, derive_one, derive_name, derive_between, derive_ended}

module _ (src : Bytes) (P : Lang ExprTree) where
  pub set_derives : (m : ℕ) (w : Bytes) (ps : List Piece) (X : RightTree → Type 0) (Q : StmtTree → Type 0) → ((name : Symbol) (r : RightTree) → word src name ≡ w → X r → Q (tree.Set name r)) →
      Derive src ps (is_right P) X → Derive src (Blank m ∷ Name w ∷ spaced terminal.Assign ++ (ps ++ Mark terminal.Semicolon ∷ LineEnd ∷ [])) (grammar.is_set_stmt P) Q
  set_derives m w ps X Q f d = derive_map src grammar.set_of _ _ Q (Blank m ∷ Name w ∷ spaced terminal.Assign ++ (ps ++ Mark terminal.Semicolon ∷ LineEnd ∷ [])) (λ x h. f x.0 x.1.1.0 h.0 h.1.1.0)
      (derive_both src _ _ _ _ (Blank m ∷ Name w ∷ []) (spaced terminal.Assign ++ (ps ++ Mark terminal.Semicolon ∷ LineEnd ∷ [])) (derive_name src w)
      (derive_both src _ _ _ _ (spaced terminal.Assign) (ps ++ Mark terminal.Semicolon ∷ LineEnd ∷ []) (derive_one src terminal.Assign refl)
      (derive_both src _ _ X _ ps (Mark terminal.Semicolon ∷ LineEnd ∷ []) d (derive_one src terminal.Semicolon refl))))

  -- what stands in parentheses
  pub enclosed_derives : {A : Type 0} (L : Lang A) (ps : List Piece) (Q : A → Type 0) → Derive src ps L Q → Derive src (Mark terminal.OpenParen ∷ ps ++ Mark terminal.CloseParen ∷ []) (grammar.is_enclosed L) Q
  enclosed_derives L ps Q d = derive_between src terminal.OpenParen terminal.CloseParen L _ _ Q (Mark terminal.OpenParen ∷ []) ps (Mark terminal.CloseParen ∷ []) (derive_one src terminal.OpenParen refl) d (derive_one src terminal.CloseParen refl)

  -- an assertion or an assumption
  pub claim_derives : (k : Terminal) → has (k ∷ []) k ≡ true → (g : Symbol × (List CompareTree × Symbol) → StmtTree) (m : ℕ) (ps : List Piece) (X : List CompareTree → Type 0) (Q : StmtTree → Type 0) →
      ((x : Symbol × (List CompareTree × Symbol)) → X x.1.0 → Q (g x)) → Derive src ps (grammar.is_all P) X →
      Derive src (Blank m ∷ opened k ps ++ Mark terminal.Semicolon ∷ LineEnd ∷ []) (is_map g (is_both (is_one k) (is_both (grammar.is_enclosed (grammar.is_all P)) (is_one terminal.Semicolon)))) Q
  claim_derives k e g m ps X Q f d = derive_map src g _ _ Q (Blank m ∷ opened k ps ++ Mark terminal.Semicolon ∷ LineEnd ∷ []) (λ x h. f x h.1.0) (derive_both src _ _ _ _ (Blank m ∷ Mark k ∷ Blank 1 ∷ [])
      ((Mark terminal.OpenParen ∷ ps ++ Mark terminal.CloseParen ∷ []) ++ Mark terminal.Semicolon ∷ LineEnd ∷ []) (derive_one src k e)
      (derive_both src _ _ X _ (Mark terminal.OpenParen ∷ ps ++ Mark terminal.CloseParen ∷ []) (Mark terminal.Semicolon ∷ LineEnd ∷ []) (enclosed_derives (grammar.is_all P) ps X d) (derive_one src terminal.Semicolon refl)))

  module _ (B : Lang (List StmtTree)) (m : ℕ) (ps qs rs : List Piece) (X : TestTree → Type 0) (Z : List StmtTree → Type 0) (Q : StmtTree → Type 0) where
    pub if_derives : (Y : List StmtTree → Type 0) → ((p : Place) (t : TestTree) (us vs : List StmtTree) → X t → Y us → Z vs → Q (tree.If p t us vs)) →
        Derive src ps (grammar.is_test P) X → Derive src qs B Y → Derive src rs (grammar.is_after terminal.Else B) Z →
        Derive src (Blank m ∷ opened terminal.If ps ++ (qs ++ (rs ++ LineEnd ∷ []))) (grammar.is_if_stmt P B) Q
    if_derives Y f d e g = derive_map src grammar.if_of _ _ Q (Blank m ∷ opened terminal.If ps ++ (qs ++ (rs ++ LineEnd ∷ []))) (λ x h. f x.0.place x.1.0 x.1.1.0 x.1.1.1 h.1.0 h.1.1.0 h.1.1.1)
        (derive_both src _ _ _ _ (Blank m ∷ Mark terminal.If ∷ Blank 1 ∷ []) ((Mark terminal.OpenParen ∷ ps ++ Mark terminal.CloseParen ∷ []) ++ (qs ++ (rs ++ LineEnd ∷ []))) (derive_one src terminal.If refl)
        (derive_both src _ _ X _ (Mark terminal.OpenParen ∷ ps ++ Mark terminal.CloseParen ∷ []) (qs ++ (rs ++ LineEnd ∷ [])) (enclosed_derives (grammar.is_test P) ps X d)
        (derive_both src B _ Y Z qs (rs ++ LineEnd ∷ []) e (derive_ended src (grammar.is_after terminal.Else B) Z rs g))))

    pub while_derives : (Y : List CompareTree → Type 0) → ((p : Place) (t : TestTree) (ts : List CompareTree) (us : List StmtTree) → X t → Y ts → Z us → Q (tree.While p t ts us)) →
        Derive src ps (grammar.is_test P) X → Derive src qs (grammar.is_tried P) Y → Derive src rs B Z →
        Derive src (Blank m ∷ opened terminal.While ps ++ (qs ++ (rs ++ LineEnd ∷ []))) (grammar.is_while_stmt P B) Q
    while_derives Y f d e g = derive_map src grammar.while_of _ _ Q (Blank m ∷ opened terminal.While ps ++ (qs ++ (rs ++ LineEnd ∷ []))) (λ x h. f x.0.place x.1.0 x.1.1.0 x.1.1.1 h.1.0 h.1.1.0 h.1.1.1)
        (derive_both src _ _ _ _ (Blank m ∷ Mark terminal.While ∷ Blank 1 ∷ []) ((Mark terminal.OpenParen ∷ ps ++ Mark terminal.CloseParen ∷ []) ++ (qs ++ (rs ++ LineEnd ∷ []))) (derive_one src terminal.While refl)
        (derive_both src _ _ X _ (Mark terminal.OpenParen ∷ ps ++ Mark terminal.CloseParen ∷ []) (qs ++ (rs ++ LineEnd ∷ [])) (enclosed_derives (grammar.is_test P) ps X d)
        (derive_both src _ B Y Z qs (rs ++ LineEnd ∷ []) e (derive_ended src B Z rs g))))

-- ---- each kind is a statement

module _ (src : Bytes) (P : Lang ExprTree) (B : Lang (List StmtTree)) (ps : List Piece) (Q : StmtTree → Type 0) where
  abbrev from_while : Lang StmtTree
  from_while = is_either (grammar.is_while_stmt P B) (is_either (grammar.is_assert_stmt P) (grammar.is_assume_stmt P))

  abbrev from_if : Lang StmtTree
  from_if = is_either (grammar.is_if_stmt P B) from_while

  pub is_set : Derive src ps (grammar.is_set_stmt P) Q → Derive src ps (grammar.is_stmt P B) Q
  is_set d = derive_left src _ from_if Q ps d

  pub is_if : Derive src ps (grammar.is_if_stmt P B) Q → Derive src ps (grammar.is_stmt P B) Q
  is_if d = derive_right src _ from_if Q ps (derive_left src _ from_while Q ps d)

  behind_if : Derive src ps from_while Q → Derive src ps (grammar.is_stmt P B) Q
  behind_if d = derive_right src _ from_if Q ps (derive_right src _ from_while Q ps d)

  pub is_while : Derive src ps (grammar.is_while_stmt P B) Q → Derive src ps (grammar.is_stmt P B) Q
  is_while d = behind_if (derive_left src _ _ Q ps d)

  behind_while : Derive src ps (is_either (grammar.is_assert_stmt P) (grammar.is_assume_stmt P)) Q → Derive src ps (grammar.is_stmt P B) Q
  behind_while d = behind_if (derive_right src _ _ Q ps d)

  pub is_assert : Derive src ps (grammar.is_assert_stmt P) Q → Derive src ps (grammar.is_stmt P B) Q
  is_assert d = behind_while (derive_left src _ _ Q ps d)

  pub is_assume : Derive src ps (grammar.is_assume_stmt P) Q → Derive src ps (grammar.is_stmt P B) Q
  is_assume d = behind_while (derive_right src _ _ Q ps d)
