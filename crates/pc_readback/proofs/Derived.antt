-- Pieces whose symbols, wherever they stand, derive a tree of a language.
use Rattle.std.proofs.Common.{◌≡◌, ℕ, ◌≤◌, ℤ, refl, ◌∙◌, ap, true, List, [], ◌∷◌, ◌++◌, Option, Some, None, inl, inr, append-nil}
use Rattle.pc_text.specs.Bytes.{Bytes}
use Rattle.pc_grammar.specs.declared.symbol.Symbol.{Symbol}
use Rattle.pc_language.specs.declared.terminal.Terminal.{Terminal}
use Rattle.pc_language.specs.declared.terminal.Terminal.TheVariants as terminal
use Rattle.pc_grammar.specs.Combinators.{Text, Lang, is_map, is_both, is_either, is_maybe, is_many}
use Rattle.pc_grammar.specs.Terminals.{has, is_one, is_one_of}
use Rattle.pc_grammar.specs.Expressions.{inner}
use Rattle.pc_grammar.specs.Statements.{optional, is_after}
use Rattle.pc_show.specs.Pieces.{Piece, LineEnd, Mark, Name, Number}
use Rattle.pc_readback.specs.Matched.{AreOf}
use Rattle.pc_syntax.specs.Context.{word}
use Rattle.pc_readback.proofs.PieceParts.{parts_of}

-- a tree of the symbols, of which a claim holds
pub record Tree {A : Type 0} (L : Lang A) (Q : A → Type 0) (u : Text) : Type 0 where
  pub tree : A
  pub derives : L tree u
  pub holds : Q tree

module _ (src : Bytes) where
  -- whatever symbols have these pieces, they have a tree
  abbrev pub Derive : {A : Type 0} → List Piece → Lang A → (A → Type 0) → Type 0
  Derive ps L Q = (u : Text) → AreOf src ps u → Tree L Q u

  pub derive_as : {A : Type 0} (L : Lang A) (Q R : A → Type 0) (ps : List Piece) → ((a : A) → Q a → R a) → Derive ps L Q → Derive ps L R
  derive_as L Q R ps f d u h = let t = d u h in record { tree = t.tree; derives = t.derives; holds = f t.tree t.holds }

  pub derive_map : {A B : Type 0} (g : A → B) (L : Lang A) (Q : A → Type 0) (R : B → Type 0) (ps : List Piece) → ((a : A) → Q a → R (g a)) → Derive ps L Q → Derive ps (is_map g L) R
  derive_map g L Q R ps f d u h = let t = d u h in record { tree = g t.tree; derives = (t.tree, refl, t.derives); holds = f t.tree t.holds }

  abbrev pub Both : {A B : Type 0} → (A → Type 0) → (B → Type 0) → A × B → Type 0
  Both Q R x = Q x.0 × R x.1

  pub derive_both : {A B : Type 0} (L : Lang A) (M : Lang B) (Q : A → Type 0) (R : B → Type 0) (ps qs : List Piece) → Derive ps L Q → Derive qs M R → Derive (ps ++ qs) (is_both L M) (Both Q R)
  derive_both L M Q R ps qs d e u h =
      let p = parts_of src ps qs u h in
      let a = d p.left p.first in
      let b = e p.right p.second in
      record { tree = (a.tree, b.tree); derives = (p.left, p.right, p.split, a.derives, b.derives); holds = (a.holds, b.holds) }

  pub derive_left : {A : Type 0} (L M : Lang A) (Q : A → Type 0) (ps : List Piece) → Derive ps L Q → Derive ps (is_either L M) Q
  derive_left L M Q ps d u h = let t = d u h in record { tree = t.tree; derives = inl t.derives; holds = t.holds }

  pub derive_right : {A : Type 0} (L M : Lang A) (Q : A → Type 0) (ps : List Piece) → Derive ps M Q → Derive ps (is_either L M) Q
  derive_right L M Q ps d u h = let t = d u h in record { tree = t.tree; derives = inr t.derives; holds = t.holds }

  -- ---- one symbol

  pub derive_one_of : (ks : List Terminal) (k : Terminal) → has ks k ≡ true → Derive (Mark k ∷ []) (is_one_of ks) (λ s. s.terminal ≡ k)
  derive_one_of ks k e [] h = absurd h
  derive_one_of ks k e (s ∷ []) (f, h) = record { tree = s; derives = (ap (has ks) f ∙ e, refl); holds = f }
  derive_one_of ks k e (s ∷ t ∷ u) (f, h) = absurd h

  pub derive_one : (k : Terminal) → has (k ∷ []) k ≡ true → Derive (Mark k ∷ []) (is_one k) (λ s. s.terminal ≡ k)
  derive_one k e = derive_one_of (k ∷ []) k e

  pub derive_name : (w : Bytes) → Derive (Name w ∷ []) (is_one terminal.Name) (λ s. word src s ≡ w)
  derive_name w [] h = absurd h
  derive_name w (s ∷ []) (f, e, h) = record { tree = s; derives = (ap (has (terminal.Name ∷ [])) f, refl); holds = e }
  derive_name w (s ∷ t ∷ u) (f, e, h) = absurd h

  pub derive_number : (z : ℤ) → Derive (Number z ∷ []) (is_one terminal.Number) (λ s. s.number ≡ z)
  derive_number z [] h = absurd h
  derive_number z (s ∷ []) (f, e, h) = record { tree = s; derives = (ap (has (terminal.Number ∷ [])) f, refl); holds = e }
  derive_number z (s ∷ t ∷ u) (f, e, h) = absurd h

  -- ---- what may be missing, and what may come often

  abbrev pub Given : {A : Type 0} → (A → Type 0) → Option A → Type 0
  Given Q None = ⊥
  Given Q (Some a) = Q a

  pub derive_none : {A : Type 0} (L : Lang A) → Derive [] (is_maybe L) (λ o. o ≡ None)
  derive_none L [] h = record { tree = None; derives = refl; holds = refl }
  derive_none L (s ∷ u) h = absurd h

  pub derive_some : {A : Type 0} (L : Lang A) (Q : A → Type 0) (ps : List Piece) → Derive ps L Q → Derive ps (is_maybe L) (Given Q)
  derive_some L Q ps d u h = let t = d u h in record { tree = Some t.tree; derives = t.derives; holds = t.holds }

  abbrev pub Front : {A : Type 0} → (A → Type 0) → (List A → Type 0) → List A → Type 0
  Front Q R [] = ⊥
  Front Q R (a ∷ xs) = Q a × R xs

  pub derive_nil : {A : Type 0} (L : Lang A) → Derive [] (is_many L) (λ xs. xs ≡ [])
  derive_nil L [] h = record { tree = []; derives = refl; holds = refl }
  derive_nil L (s ∷ u) h = absurd h

  pub derive_cons : {A : Type 0} (L : Lang A) (Q : A → Type 0) (R : List A → Type 0) (ps qs : List Piece) → Derive ps L Q → Derive qs (is_many L) R → Derive (ps ++ qs) (is_many L) (Front Q R)
  derive_cons L Q R ps qs d e u h =
      let p = parts_of src ps qs u h in
      let a = d p.left p.first in
      let b = e p.right p.second in
      record { tree = a.tree ∷ b.tree; derives = (p.left, p.right, p.split, a.derives, b.derives); holds = (a.holds, b.holds) }

  -- ---- between two marks, behind a keyword, and before the end of a line

  pub derive_between : {A : Type 0} (k j : Terminal) (L : Lang A) (X Y : Symbol → Type 0) (Q : A → Type 0) (os ps cs : List Piece) → Derive os (is_one k) X → Derive ps L Q → Derive cs (is_one j) Y →
      Derive (os ++ (ps ++ cs)) (is_map inner (is_both (is_one k) (is_both L (is_one j)))) Q
  derive_between k j L X Y Q os ps cs o d c = derive_map inner (is_both (is_one k) (is_both L (is_one j))) (Both X (Both Q Y)) Q (os ++ (ps ++ cs)) (λ x h. h.1.0)
      (derive_both (is_one k) (is_both L (is_one j)) X (Both Q Y) os (ps ++ cs) o (derive_both L (is_one j) Q Y ps cs d c))

  pub derive_missing : {A : Type 0} (k : Terminal) (L : Lang (List A)) → Derive [] (is_after k L) (λ xs. xs ≡ [])
  derive_missing k L = derive_map optional (is_maybe (is_both (is_one k) L)) (λ o. o ≡ None) (λ xs. xs ≡ []) [] (λ o h. ap optional h) (derive_none (is_both (is_one k) L))

  pub derive_after : {A : Type 0} (k : Terminal) (L : Lang (List A)) (X : Symbol → Type 0) (Q : List A → Type 0) (os ps : List Piece) → Derive os (is_one k) X → Derive ps L Q → Derive (os ++ ps) (is_after k L) Q
  derive_after {A = A} k L X Q os ps o d = derive_map optional (is_maybe (is_both (is_one k) L)) (Given (Both X Q)) Q (os ++ ps) by
      (derive_some (is_both (is_one k) L) (Both X Q) (os ++ ps) (derive_both (is_one k) L X Q os ps o d))
    where
      by : (o : Option (Symbol × List A)) → Given (Both X Q) o → Q (optional o)
      by None h = absurd h
      by (Some x) h = h.1

  pub derive_ended : {A : Type 0} (L : Lang A) (Q : A → Type 0) (ps : List Piece) → Derive ps L Q → Derive (ps ++ LineEnd ∷ []) L Q
  derive_ended L Q ps d u h = let p = parts_of src ps (LineEnd ∷ []) u h in by p.left p.right p.split p.first p.second
    where
      by : (v w : Text) → u ≡ v ++ w → AreOf src ps v → AreOf src [] w → Tree L Q u
      by v [] e i j = rw (e, append-nil v) (d v i)
      by v (s ∷ w) e i j = absurd j

  -- ---- at each depth of nesting from some on

  abbrev pub Derivable : {A : Type 0} → List Piece → (ℕ → Lang A) → (A → Type 0) → Type 0
  Derivable ps L Q = (least : ℕ) × ((n : ℕ) → least ≤ n → Derive ps (L n) Q)
