-- The parts of a row determine the row.
use Rattle.std.proofs.Common.{◌≡◌, ◌≢◌, ◌⊎◌, inl, inr, ℕ, suc, ◌≤◌, Bool, true, false, cond, ◌&&◌, List, [], ◌∷◌, ◌++◌, length, get_or, refl, sym, ap, ◌∙◌, arith, ℤ, pos}
use Rattle.std.specs.Prelude.{All, unsigned_abs}
use Rattle.std.specs.List.{AllByRecursion, AllPairs}
use Rattle.std.proofs.lemmas.List.Elements.{All-head, All-tail}
use Rattle.std.proofs.lemmas.List.{append-nil}
use Rattle.pc_rows.specs.Linear.{Linear, is_zero}
use Rattle.pc_text.specs.Bytes.{Bytes}
use Rattle.pc_rows.proofs.Lists.{zero_is}
use Rattle.pc_rows.proofs.Algebra.{same_row}
use Rattle.pc_condition.specs.Conditions.{Part, term, constant_part, terms, part_text, sum_text, is_empty, constant_text}
use Rattle.pc_condition.specs.Law.{AreNames, IsOverNames}
use Rattle.pc_condition.proofs.Names.{StandsAlone, all_stand_alone, all_differ}
use Rattle.pc_condition.proofs.Sums.{sum_text-push}
use Rattle.pc_condition.proofs.Terms.{no_times, same_term, same_constant, term_is_part, constant_is_part}
use Rattle.pc_condition.proofs.Parts.{IsPart, AreParts}

-- none of these parts is a term
abbrev NoTerm : List Part → Type 0
NoTerm ps = AllByRecursion (λ p. (name : Bytes) (d : ℤ) → StandsAlone name → p ≡ term name d → ⊥) ps

no_term_constant : (c : ℤ) → NoTerm (constant_part c ∷ [])
no_term_constant c = (λ name d h e. no_times (unsigned_abs c) (unsigned_abs d) name h (ap (λ (p : Part). p.size) e), tt)

abbrev Alone : List Bytes → Type 0
Alone names = AllByRecursion StandsAlone names

no_term_of_by :
    (b : Bool) (ps t : List Part) (p q : Part) (rest : List Part) → (p ≡ q → ⊥) → (ps ++ t ≡ q ∷ rest → ⊥) →
    cond b ps (p ∷ ps) ++ t ≡ q ∷ rest → ⊥
no_term_of_by true ps t p q rest apart again e = again e
no_term_of_by false ps t p q rest apart again e = let same : p ≡ q = cc in apart same

-- no term of the later names, and no constant, is a term of this name
no_term_of :
    (names : List Bytes) (cs : List ℤ) (t : List Part) (name : Bytes) (d : ℤ) (rest : List Part) →
    Alone names → StandsAlone name → All (λ other. name ≢ other) names → NoTerm t →
    terms names cs ++ t ≡ term name d ∷ rest → ⊥
no_term_of [] cs [] name d rest alone h apart none e = cc
no_term_of [] cs (p ∷ t) name d rest alone h apart none e = let same : p ≡ term name d = cc in none.0 name d h same
no_term_of (u ∷ names) [] [] name d rest alone h apart none e = cc
no_term_of (u ∷ names) [] (p ∷ t) name d rest alone h apart none e = let same : p ≡ term name d = cc in none.0 name d h same
no_term_of (u ∷ names) (c ∷ cs) t name d rest alone h apart none e =
    no_term_of_by (is_zero c) (terms names cs) t (term u c) (term name d) rest
    (λ same. All-head (λ other. name ≢ other) u names apart (sym (same_term u name c d alone.0 h same).0))
    (no_term_of names cs t name d rest alone.1 h (All-tail (λ other. name ≢ other) u names apart) none)
    e

-- each coefficient from this variable on is 0
abbrev ZeroFrom : ℕ → List ℤ → Type 0
ZeroFrom n cs = (v : ℕ) → n ≤ v → get_or cs v (pos 0) ≡ pos 0

zero_later : (n : ℕ) (c : ℤ) (cs : List ℤ) → ZeroFrom (suc n) (c ∷ cs) → ZeroFrom n cs
zero_later n c cs h = λ v after. h (suc v) (omega (arith, after))

same_zeros : (cs ds : List ℤ) → length cs ≡ length ds → ZeroFrom 0 cs → ZeroFrom 0 ds → cs ≡ ds
same_zeros [] [] long h g = refl
same_zeros [] (d ∷ ds) long h g = absurd (cc)
same_zeros (c ∷ cs) [] long h g = absurd (cc)
same_zeros (c ∷ cs) (d ∷ ds) long h g =
    let shorter : length cs ≡ length ds = cc in
    let rest : cs ≡ ds = same_zeros cs ds shorter (λ v after. h (suc v) (omega arith)) (λ v after. g (suc v) (omega arith)) in
    let first : c ≡ pos 0 = h 0 (omega arith) in
    let second : d ≡ pos 0 = g 0 (omega arith) in
    cc

abbrev Same : List ℤ → List ℤ → List Part → List Part → Type 0
Same cs ds t u = (cs ≡ ds) × (t ≡ u)

module _ (name : Bytes) (names : List Bytes) (h : StandsAlone name) (alone : Alone names) (apart : All (λ other. name ≢ other) names) where
  step :
      (b b' : Bool) (c d : ℤ) (cs ds : List ℤ) (t u : List Part) →
      NoTerm t → NoTerm u → is_zero c ≡ b → is_zero d ≡ b' →
      (terms names cs ++ t ≡ terms names ds ++ u → Same cs ds t u) →
      cond b (terms names cs) (term name c ∷ terms names cs) ++ t ≡ cond b' (terms names ds) (term name d ∷ terms names ds) ++ u →
      Same (c ∷ cs) (d ∷ ds) t u
  step true true c d cs ds t u no_t no_u zero_c zero_d again e =
      let rest = again e in
      let first : c ≡ d = zero_is c zero_c ∙ sym (zero_is d zero_d) in
      let tail : cs ≡ ds = rest.0 in
      (cc, rest.1)
  step true false c d cs ds t u no_t no_u zero_c zero_d again e = absurd (no_term_of names cs t name d _ alone h apart no_t e)
  step false true c d cs ds t u no_t no_u zero_c zero_d again e = absurd (no_term_of names ds u name c _ alone h apart no_u (sym e))
  step false false c d cs ds t u no_t no_u zero_c zero_d again e =
      let head : term name c ≡ term name d = cc in
      let behind : terms names cs ++ t ≡ terms names ds ++ u = cc in
      let rest = again behind in
      let first : c ≡ d = (same_term name name c d h h head).1 in
      let tail : cs ≡ ds = rest.0 in
      (cc, rest.1)

pairs_first :
    (name : Bytes) (names : List Bytes) → AllPairs ◌≢◌ (name ∷ names) → All (λ other. name ≢ other) names
pairs_first name names h = λ k d within. h 0 (suc k) d (omega arith) (omega (arith, within))

pairs_later : (name : Bytes) (names : List Bytes) → AllPairs ◌≢◌ (name ∷ names) → AllPairs ◌≢◌ names
pairs_later name names h = λ i j d before within. h (suc i) (suc j) d (omega (arith, before)) (omega (arith, within))

same_terms :
    (names : List Bytes) (cs ds : List ℤ) (t u : List Part) →
    Alone names → AllPairs ◌≢◌ names → NoTerm t → NoTerm u → length cs ≡ length ds → ZeroFrom (length names) cs → ZeroFrom (length names) ds →
    terms names cs ++ t ≡ terms names ds ++ u → Same cs ds t u
same_terms [] cs ds t u alone apart no_t no_u long h g e = (same_zeros cs ds long h g, e)
same_terms (name ∷ names) [] [] t u alone apart no_t no_u long h g e = (refl, e)
same_terms (name ∷ names) [] (d ∷ ds) t u alone apart no_t no_u long h g e = absurd (cc)
same_terms (name ∷ names) (c ∷ cs) [] t u alone apart no_t no_u long h g e = absurd (cc)
same_terms (name ∷ names) (c ∷ cs) (d ∷ ds) t u alone apart no_t no_u long h g e =
    let shorter : length cs ≡ length ds = cc in
    step name names alone.0 alone.1 (pairs_first name names apart) (is_zero c) (is_zero d) c d cs ds t u no_t no_u refl refl
    (same_terms names cs ds t u alone.1 (pairs_later name names apart) no_t no_u shorter (zero_later _ c cs h) (zero_later _ d ds g))
    e

-- the constant as a part, where it stands
abbrev constant_behind : List Part → ℤ → List Part
constant_behind [] k = constant_part k ∷ []
constant_behind (p ∷ ps) k = cond (is_zero k) [] (constant_part k ∷ [])

-- either nothing, where the constant is 0, or the constant
abbrev TellsConstant : List Part → ℤ → Type 0
TellsConstant t k = ((t ≡ []) × (k ≡ pos 0)) ⊎ (t ≡ constant_part k ∷ [])

tells_by : (b : Bool) (k : ℤ) → is_zero k ≡ b → TellsConstant (cond b [] (constant_part k ∷ [])) k
tells_by true k e = inl (refl, zero_is k e)
tells_by false k e = inr refl

constant_told : (ps : List Part) (k : ℤ) → TellsConstant (constant_behind ps k) k
constant_told [] k = inr refl
constant_told (p ∷ ps) k = tells_by (is_zero k) k refl

same_told : (t u : List Part) (j k : ℤ) → TellsConstant t j → TellsConstant u k → t ≡ u → j ≡ k
same_told t u j k (inl h) (inl g) e = h.1 ∙ sym g.1
same_told t u j k (inl h) (inr g) e = let first = h.0 in absurd (cc)
same_told t u j k (inr h) (inl g) e = let second = g.0 in absurd (cc)
same_told t u j k (inr h) (inr g) e = let same : constant_part j ≡ constant_part k = cc in same_constant j k same

no_term_behind_by : (b : Bool) (k : ℤ) → NoTerm (cond b [] (constant_part k ∷ []))
no_term_behind_by true k = tt
no_term_behind_by false k = no_term_constant k

no_term_behind : (ps : List Part) (k : ℤ) → NoTerm (constant_behind ps k)
no_term_behind [] k = no_term_constant k
no_term_behind (p ∷ ps) k = no_term_behind_by (is_zero k) k

-- the parts of a row
abbrev pub parts : List Bytes → Linear → List Part
parts names r = terms names r.coefficients ++ constant_behind (terms names r.coefficients) r.constant

pub same_parts :
    (names : List Bytes) (r q : Linear) → AreNames names → IsOverNames names r → IsOverNames names q →
    parts names r ≡ parts names q → r ≡ q
same_parts names r q h over_r over_q e =
    let t = constant_behind (terms names r.coefficients) r.constant in
    let u = constant_behind (terms names q.coefficients) q.constant in
    let same = same_terms names r.coefficients q.coefficients t u (all_stand_alone names h.words) (all_differ names h.distinct)
    (no_term_behind (terms names r.coefficients) r.constant) (no_term_behind (terms names q.coefficients) q.constant)
    (over_r.wide ∙ sym over_q.wide) over_r.within over_q.within e in
    same_row r q
    (same_told t u r.constant q.constant (constant_told (terms names r.coefficients) r.constant) (constant_told (terms names q.coefficients) q.constant) same.1)
    same.0

terms_by : (b : Bool) (p : Part) (ps : List Part) → IsPart p → AreParts ps → AreParts (cond b ps (p ∷ ps))
terms_by true p ps h g = g
terms_by false p ps h g = (h, g)

terms_are_parts : (names : List Bytes) (cs : List ℤ) → Alone names → AreParts (terms names cs)
terms_are_parts [] cs h = tt
terms_are_parts (name ∷ names) [] h = tt
terms_are_parts (name ∷ names) (c ∷ cs) h =
    terms_by (is_zero c) (term name c) (terms names cs) (term_is_part name c h.0) (terms_are_parts names cs h.1)

parts_append : (ps qs : List Part) → AreParts ps → AreParts qs → AreParts (ps ++ qs)
parts_append [] qs h g = g
parts_append (p ∷ ps) qs h g = (h.0, parts_append ps qs h.1 g)

behind_by : (b : Bool) (k : ℤ) → AreParts (cond b [] (constant_part k ∷ []))
behind_by true k = tt
behind_by false k = (constant_is_part k, tt)

behind_are_parts : (ps : List Part) (k : ℤ) → AreParts (constant_behind ps k)
behind_are_parts [] k = (constant_is_part k, tt)
behind_are_parts (p ∷ ps) k = behind_by (is_zero k) k

pub parts_are_parts : (names : List Bytes) (r : Linear) → AreNames names → AreParts (parts names r)
parts_are_parts names r h =
    let ps = terms names r.coefficients in
    parts_append ps (constant_behind ps r.constant) (terms_are_parts names r.coefficients (all_stand_alone names h.words)) (behind_are_parts ps r.constant)

parts_text_by :
    (b : Bool) (p : Part) (ps : List Part) (k : ℤ) →
    sum_text (p ∷ ps) ++ cond (b && true) [] (part_text false (constant_part k)) ≡ sum_text ((p ∷ ps) ++ cond b [] (constant_part k ∷ []))
parts_text_by true p ps k = append-nil (sum_text (p ∷ ps)) ∙ ap sum_text (sym (append-nil (p ∷ ps)))
parts_text_by false p ps k = sym (sum_text-push (p ∷ ps) (constant_part k))

constant_alone_by :
    (b : Bool) (k : ℤ) →
    cond (b && false) [] (part_text true (constant_part k)) ≡ sum_text (constant_part k ∷ [])
constant_alone_by true k = sym (append-nil (part_text true (constant_part k)))
constant_alone_by false k = sym (append-nil (part_text true (constant_part k)))

-- the text of the parts is that of the terms, and then that of the constant
pub parts_text :
    (ps : List Part) (k : ℤ) →
    sum_text ps ++ constant_text (is_empty ps) k ≡ sum_text (ps ++ constant_behind ps k)
parts_text [] k = constant_alone_by (is_zero k) k
parts_text (p ∷ ps) k = parts_text_by (is_zero k) p ps k
