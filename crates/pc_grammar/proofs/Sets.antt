-- Classes of symbols as lists of terminals: what is apart and what is within, by computation; and with what the words of a language begin.
use Rattle.std.proofs.Common.{◌≡◌, Bool, true, false, not, ◌&&◌, ◌||◌, nat_eq, List, [], ◌∷◌, ◌++◌, Option, Some, None, refl, ap, ◌∙◌, inl, inr}
use Rattle.std.proofs.lemmas.Bool.{and_parts, or_cases, not-true, eqb-true, false_from_ne_true}
use Rattle.pc_grammar.specs.declared.symbol.Symbol.{Symbol}
use Rattle.pc_language.specs.declared.terminal.Terminal.{Terminal}
use Rattle.pc_grammar.specs.Combinators.{Text, Lang, Class, none, is_map, is_both, is_either, is_maybe, is_many}
use Rattle.pc_grammar.specs.Terminals.{code, has, among, is_one_of}
use Rattle.pc_grammar.proofs.Outcomes.{Ends, Begins, begins_more}

abbrev pub apart : List Terminal → List Terminal → Bool
apart [] js = true
apart (k ∷ ks) js = not (has js k) && apart ks js

abbrev pub within : List Terminal → List Terminal → Bool
within [] js = true
within (k ∷ ks) js = has js k && within ks js

-- a class knows a terminal by its code alone
alike : (js : List Terminal) (c k : Terminal) → code c ≡ code k → has js c ≡ has js k
alike [] c k e = refl
alike (j ∷ js) c k e = ap (λ n. nat_eq n (code j) || has js c) e ∙ ap (λ b. nat_eq (code k) (code j) || b) (alike js c k e)

has_apart : (ks js : List Terminal) (c : Terminal) → apart ks js ≡ true → has ks c ≡ true → has js c ≡ false
has_apart [] js c d h = absurd (cc)
has_apart (k ∷ ks) js c d h =
    elim (or_cases (nat_eq (code c) (code k)) (has ks c) h) [
      | inl e ↦ alike js c k (eqb-true (code c) (code k) e) ∙ not-true (has js k) (and_parts _ (apart ks js) d).0
      | inr e ↦ has_apart ks js c (and_parts (not (has js k)) _ d).1 e
    ]

has_within : (ks js : List Terminal) (c : Terminal) → within ks js ≡ true → has ks c ≡ true → has js c ≡ true
has_within [] js c d h = absurd (cc)
has_within (k ∷ ks) js c d h =
    elim (or_cases (nat_eq (code c) (code k)) (has ks c) h) [
      | inl e ↦ alike js c k (eqb-true (code c) (code k) e) ∙ (and_parts (has js k) (within ks js) d).0
      | inr e ↦ has_within ks js c (and_parts (has js k) _ d).1 e
    ]

-- a text that begins with one class does not go on with the other
pub parted : (ks js : List Terminal) → apart ks js ≡ true → (v : Text) → Begins (among ks) v → Ends (among js) v
parted ks js d [] b = refl
parted ks js d (t ∷ v) b = has_apart ks js t.terminal d b

pub parts : (ks js : List Terminal) → apart ks js ≡ true → (v r : Text) → Begins (among ks) v → Ends (among js) (v ++ r)
parts ks js d v r b = parted ks js d (v ++ r) (begins_more (among ks) v r b)

pub wider : (ks js : List Terminal) → within ks js ≡ true → (v : Text) → Begins (among ks) v → Begins (among js) v
wider ks js d [] b = absurd (cc)
wider ks js d (t ∷ v) b = has_within ks js t.terminal d b

-- what ends the larger class ends the smaller
pub fewer : (ks js : List Terminal) → within ks js ≡ true → (r : Text) → Ends (among js) r → Ends (among ks) r
fewer ks js d [] e = refl
fewer ks js d (t ∷ r) e = false_from_ne_true (among ks t) (λ h. let both = has_within ks js t.terminal d h in absurd (cc))

pub none_ends : (r : Text) → Ends none r
none_ends [] = refl
none_ends (t ∷ r) = refl

-- ---- with what the words of a language begin

pub one_begins : (js : List Terminal) (t : Symbol) (w : Text) → is_one_of js t w → Begins (among js) w
one_begins js t w l = rw l.1 l.0

pub map_begins : {A B : Type 0} (g : A → B) (f : Class) (L : Lang A) → ((a : A) (w : Text) → L a w → Begins f w) → (b : B) (w : Text) → is_map g L b w → Begins f w
map_begins g f L h b w l = h l.0 w l.2

pub both_begins : {A B : Type 0} (f : Class) (L : Lang A) (M : Lang B) → ((a : A) (w : Text) → L a w → Begins f w) → (x : A × B) (w : Text) → is_both L M x w → Begins f w
both_begins f L M h x w (u, v, e, l, m) = rw e (begins_more f u v (h x.0 u l))

pub either_begins : {A : Type 0} (ks js fs : List Terminal) (L M : Lang A) → within ks fs ≡ true → within js fs ≡ true
    → ((a : A) (w : Text) → L a w → Begins (among ks) w) → ((a : A) (w : Text) → M a w → Begins (among js) w) → (a : A) (w : Text) → is_either L M a w → Begins (among fs) w
either_begins ks js fs L M d d' h h' a w (inl l) = wider ks fs d w (h a w l)
either_begins ks js fs L M d d' h h' a w (inr m) = wider js fs d' w (h' a w m)

pub maybe_begins : {A B : Type 0} (ks js fs : List Terminal) (L : Lang A) (M : Lang B) → within ks fs ≡ true → within js fs ≡ true
    → ((a : A) (w : Text) → L a w → Begins (among ks) w) → ((b : B) (w : Text) → M b w → Begins (among js) w)
    → (x : Option A × B) (w : Text) → is_both (is_maybe L) M x w → Begins (among fs) w
maybe_begins {A = A} ks js fs L M d d' h h' x w (u, v, e, l, m) = at x.0 u l e
  where
    at : (o : Option A) (u : Text) → is_maybe L o u → w ≡ u ++ v → Begins (among fs) w
    at None u l e = rw (e, l) (wider js fs d' v (h' x.1 v m))
    at (Some a) u l e = rw e (begins_more (among fs) u v (wider ks fs d u (h a u l)))

-- what comes after many words
pub many_parts : {A : Type 0} (f : List Terminal) (c e : Class) (L : Lang A) → ((a : A) (w : Text) → L a w → Begins (among f) w)
    → ((v : Text) → Begins (among f) v → Ends c v) → ((r : Text) → Ends e r → Ends c r) → (xs : List A) (v r : Text) → is_many L xs v → Ends e r → Ends c (v ++ r)
many_parts f c e L here ends last [] v r l h = rw l (last r h)
many_parts f c e L here ends last (a ∷ xs) v r (u, w, s, l, m) h = rw s (ends ((u ++ w) ++ r) (begins_more (among f) (u ++ w) r (begins_more (among f) u w (here a u l))))
