-- What holds of the phrases of a language: of their trees, and of their words.
use Rattle.std.proofs.Common.{◌≡◌, ℕ, refl, sym, ◌∙◌, ap, subst, List, [], ◌∷◌, ◌++◌, Bool, true, Option, Some, None, inl, inr, Result, Ok, Err}
use Rattle.std.specs.Prelude.{◌&&◌}
use Rattle.std.specs.List.{list_all}
use Rattle.pc_grammar.specs.declared.symbol.Symbol.{Symbol}
use Rattle.pc_language.specs.declared.terminal.Terminal.{Terminal}
use Rattle.pc_grammar.specs.declared.limits.Counts.{Counts}
use Rattle.pc_grammar.specs.declared.fault.ParseFault.{ParseFault}
use Rattle.pc_grammar.specs.Combinators.{Text, Lang, is_map, is_both, is_either, is_maybe, is_many, is_dead}
use Rattle.pc_grammar.specs.Terminals.{among, has, is_one_of}
use Rattle.pc_grammar.specs.Limits.{keywords, braces_after, counted, and_on, counts}
use Rattle.pc_grammar.proofs.Scans.{counts_append, is_counted}
use Rattle.pc_grammar.proofs.Sets.{within, wider}
use Rattle.pc_program.proofs.Results.{and_is, and_of}
use Rattle.pc_syntax.proofs.SymbolFits.{fits}

pub all_left : (p : Symbol → Bool) (u w : Text) → list_all p (u ++ w) ≡ true → list_all p u ≡ true
all_left p [] w h = refl
all_left p (s ∷ u) w h = let k = and_is (p s) (list_all p (u ++ w)) h in and_of (p s) (list_all p u) k.0 (all_left p u w k.1)

pub all_right : (p : Symbol → Bool) (u w : Text) → list_all p (u ++ w) ≡ true → list_all p w ≡ true
all_right p [] w h = h
all_right p (s ∷ u) w h = all_right p u w (and_is (p s) (list_all p (u ++ w)) h).1

pub all_join : (p : Symbol → Bool) (u w : Text) → list_all p u ≡ true → list_all p w ≡ true → list_all p (u ++ w) ≡ true
all_join p [] w h k = k
all_join p (s ∷ u) w h k = let q = and_is (p s) (list_all p u) h in and_of (p s) (list_all p (u ++ w)) q.0 (all_join p u w q.1 k)

-- ---- the symbols of words

-- each word of the language has symbols of these terminals alone
abbrev pub Over : {A : Type 0} → List Terminal → Lang A → Type 0
Over {A} ks L = (a : A) (w : Text) → L a w → list_all (among ks) w ≡ true

pub one_over : (ks js : List Terminal) → within js ks ≡ true → Over ks (is_one_of js)
one_over ks js d s w (h, e) = rw e (and_of (among ks s) true (wider js ks d (s ∷ []) h) refl)

pub map_over : {A B : Type 0} (ks : List Terminal) (g : A → B) (L : Lang A) → Over ks L → Over ks (is_map g L)
map_over ks g L f b w (a, e, l) = f a w l

pub both_over : {A B : Type 0} (ks : List Terminal) (L : Lang A) (M : Lang B) → Over ks L → Over ks M → Over ks (is_both L M)
both_over ks L M f g x w (u, v, e, l, m) = rw e (all_join (among ks) u v (f x.0 u l) (g x.1 v m))

pub either_over : {A : Type 0} (ks : List Terminal) (L M : Lang A) → Over ks L → Over ks M → Over ks (is_either L M)
either_over ks L M f g a w (inl l) = f a w l
either_over ks L M f g a w (inr m) = g a w m

pub maybe_over : {A : Type 0} (ks : List Terminal) (L : Lang A) → Over ks L → Over ks (is_maybe L)
maybe_over ks L f None w e = rw e refl
maybe_over ks L f (Some a) w l = f a w l

pub many_over : {A : Type 0} (ks : List Terminal) (L : Lang A) → Over ks L → Over ks (is_many L)
many_over ks L f [] w e = rw e refl
many_over ks L f (a ∷ xs) w (u, v, e, l, m) = rw e (all_join (among ks) u v (f a u l) (many_over ks L f xs v m))

pub dead_over : {A : Type 0} (ks : List Terminal) → Over {A = A} ks is_dead
dead_over ks a w l = absurd l

-- ---- the trees of words whose symbols pass a test, and the counts before and behind them

-- the counts before and behind one symbol that passes the test
pub record IsOne (f : Symbol → Bool) (ks : List Terminal) (s : Symbol) (c d : Counts) : Type 0 where
  pub fits : f s ≡ true
  pub is : among ks s ≡ true
  pub behind : d.behind_keyword ≡ has keywords s.terminal
  pub braces : braces_after c.braces s.terminal ≡ Some d.braces

module _ (f : Symbol → Bool) where
  -- of each word that is within the limits, this holds of its tree and of the counts
  abbrev pub Sees : {A : Type 0} → Lang A → (A → Counts → Counts → Type 0) → Type 0
  Sees {A} L Q = (a : A) (w v : Text) → L a w → list_all f w ≡ true → (most : Option ℕ) (c d : Counts) → counts most c w v ≡ Ok d → Q a c d

  pub one_sees : (ks : List Terminal) → Sees (is_one_of ks) (IsOne f ks)
  one_sees ks s w v (m, e) h most c d k =
      let fits = (and_is (f s) true (subst (λ (w : Text). list_all f w ≡ true) e h)).0 in
      let at : and_on (counted most c s v) (λ d. Ok d) ≡ Ok d = subst (λ (w : Text). counts most c w v ≡ Ok d) e k in
      by fits (counted most c s v) refl at
    where
      by : f s ≡ true → (o : Result Counts ParseFault) → counted most c s v ≡ o → and_on o (λ d. Ok d) ≡ Ok d → IsOne f ks s c d
      by fits (Err x) g k = absurd (cc)
      by fits (Ok x) g k =
          let same : x ≡ d = cc in
          let i = is_counted most c d s v (g ∙ ap (λ (z : Counts). Ok z) same) in
          record { fits = fits; is = m; behind = i.behind; braces = i.braces }

  pub map_sees : {A B : Type 0} (g : A → B) (L : Lang A) (Q : A → Counts → Counts → Type 0) (R : B → Counts → Counts → Type 0) →
      ((a : A) (c d : Counts) → Q a c d → R (g a) c d) → Sees L Q → Sees (is_map g L) R
  map_sees g L Q R t q b w v (a, e, l) h most c d k = subst (λ z. R z c d) (sym e) (t a c d (q a w v l h most c d k))

  -- the same of one tree
  abbrev SeesAt : (Text → Type 0) → (Counts → Counts → Type 0) → Type 0
  SeesAt W Q = (w v : Text) → W w → list_all f w ≡ true → (most : Option ℕ) (c d : Counts) → counts most c w v ≡ Ok d → Q c d

  both_at : (V W : Text → Type 0) (Q R S : Counts → Counts → Type 0) → ((c e d : Counts) → Q c e → R e d → S c d) → SeesAt V Q → SeesAt W R →
      (u u' w v : Text) → w ≡ u ++ u' → V u → W u' → list_all f w ≡ true → (most : Option ℕ) (c d : Counts) → counts most c w v ≡ Ok d → S c d
  both_at V W Q R S t q r u u' w v e l m h most c d k =
      let all = subst (λ (w : Text). list_all f w ≡ true) e h in
      by (counts most c u (u' ++ v)) refl (sym (counts_append most c u u' v) ∙ subst (λ (w : Text). counts most c w v ≡ Ok d) e k) all
    where
      by : (o : Result Counts ParseFault) → counts most c u (u' ++ v) ≡ o → and_on o (λ d. counts most d u' v) ≡ Ok d → list_all f (u ++ u') ≡ true → S c d
      by (Ok i) g j all = t c i d (q u (u' ++ v) l (all_left f u u' all) most c i g) (r u' v m (all_right f u u' all) most i d j)
      by (Err z) g j all = absurd (cc)

  pub both_sees : {A B : Type 0} (L : Lang A) (M : Lang B) (Q : A → Counts → Counts → Type 0) (R : B → Counts → Counts → Type 0) (S : A × B → Counts → Counts → Type 0) →
      ((x : A × B) (c e d : Counts) → Q x.0 c e → R x.1 e d → S x c d) → Sees L Q → Sees M R → Sees (is_both L M) S
  both_sees L M Q R S t q r x w v (u, u', e, l, m) = both_at (L x.0) (M x.1) (Q x.0) (R x.1) (S x) (t x) (q x.0) (r x.1) u u' w v e l m

  pub either_sees : {A : Type 0} (L M : Lang A) (Q : A → Counts → Counts → Type 0) → Sees L Q → Sees M Q → Sees (is_either L M) Q
  either_sees L M Q q r a w v (inl l) h most c d k = q a w v l h most c d k
  either_sees L M Q q r a w v (inr m) h most c d k = r a w v m h most c d k

  nothing : (w v : Text) (most : Option ℕ) (c d : Counts) → w ≡ [] → counts most c w v ≡ Ok d → c ≡ d
  nothing w v most c d e k = let h : counts most c [] v ≡ Ok d = subst (λ (w : Text). counts most c w v ≡ Ok d) e k in cc

  pub maybe_sees : {A : Type 0} (L : Lang A) (Q : A → Counts → Counts → Type 0) (R : Option A → Counts → Counts → Type 0) →
      ((c : Counts) → R None c c) → ((a : A) (c d : Counts) → Q a c d → R (Some a) c d) → Sees L Q → Sees (is_maybe L) R
  maybe_sees L Q R n t q None w v e h most c d k = subst (λ z. R None c z) (nothing w v most c d e k) (n c)
  maybe_sees L Q R n t q (Some a) w v l h most c d k = t a c d (q a w v l h most c d k)

  pub many_sees : {A : Type 0} (L : Lang A) (Q : A → Counts → Counts → Type 0) (R : List A → Counts → Counts → Type 0) →
      ((c : Counts) → R [] c c) → ((a : A) (xs : List A) (c e d : Counts) → Q a c e → R xs e d → R (a ∷ xs) c d) → Sees L Q → Sees (is_many L) R
  many_sees L Q R n t q [] w v e h most c d k = subst (λ z. R [] c z) (nothing w v most c d e k) (n c)
  many_sees L Q R n t q (a ∷ xs) w v (u, u', e, l, m) h most c d k = both_at (L a) (is_many L xs) (Q a) (R xs) (R (a ∷ xs)) (t a xs) (q a) (many_sees L Q R n t q xs) u u' w v e l m h most c d k

  pub dead_sees : {A : Type 0} (Q : A → Counts → Counts → Type 0) → Sees is_dead Q
  dead_sees Q a w v l h most c d k = absurd l

-- ---- the trees of words whose symbols fit a text

-- of each word within the limits the tree passes the test
abbrev pub Passes : {A : Type 0} → ℕ → Lang A → (A → Bool) → Type 0
Passes n L F = Sees (fits n) L (λ a c d. F a ≡ true)

pub one_passes : (n : ℕ) (js : List Terminal) → Passes n (is_one_of js) (fits n)
one_passes n js s w v l h most c d k = (one_sees (fits n) js s w v l h most c d k).fits

pub map_passes : {A B : Type 0} (n : ℕ) (g : A → B) (L : Lang A) (F : A → Bool) (G : B → Bool) → ((a : A) → F a ≡ true → G (g a) ≡ true) → Passes n L F → Passes n (is_map g L) G
map_passes n g L F G t = map_sees (fits n) g L (λ a c d. F a ≡ true) (λ b c d. G b ≡ true) (λ a c d h. t a h)

abbrev pub pair : {A B : Type 0} → (A → Bool) → (B → Bool) → A × B → Bool
pair F G x = F x.0 && G x.1

pub both_passes : {A B : Type 0} (n : ℕ) (L : Lang A) (M : Lang B) (F : A → Bool) (G : B → Bool) → Passes n L F → Passes n M G → Passes n (is_both L M) (pair F G)
both_passes n L M F G = both_sees (fits n) L M (λ a c d. F a ≡ true) (λ b c d. G b ≡ true) (λ x c d. pair F G x ≡ true) (λ x c e d h k. and_of (F x.0) (G x.1) h k)

pub either_passes : {A : Type 0} (n : ℕ) (L M : Lang A) (F : A → Bool) → Passes n L F → Passes n M F → Passes n (is_either L M) F
either_passes n L M F = either_sees (fits n) L M (λ a c d. F a ≡ true)

abbrev pub optional : {A : Type 0} → (A → Bool) → Option A → Bool
optional F None = true
optional F (Some a) = F a

pub maybe_passes : {A : Type 0} (n : ℕ) (L : Lang A) (F : A → Bool) → Passes n L F → Passes n (is_maybe L) (optional F)
maybe_passes n L F = maybe_sees (fits n) L (λ a c d. F a ≡ true) (λ o c d. optional F o ≡ true) (λ c. refl) (λ a c d h. h)

pub many_passes : {A : Type 0} (n : ℕ) (L : Lang A) (F : A → Bool) → Passes n L F → Passes n (is_many L) (list_all F)
many_passes n L F = many_sees (fits n) L (λ a c d. F a ≡ true) (λ xs c d. list_all F xs ≡ true) (λ c. refl) (λ a xs c e d h k. and_of (F a) (list_all F xs) h k)

pub dead_passes : {A : Type 0} (n : ℕ) (F : A → Bool) → Passes n is_dead F
dead_passes n F = dead_sees (fits n) (λ a c d. F a ≡ true)
