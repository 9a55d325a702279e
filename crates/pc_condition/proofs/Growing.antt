-- How texts grow as parts, rows and alternatives go to their end.
use Rattle.std.proofs.Common.{◌≡◌, ◌<◌, ◌≤◌, ◌⊎◌, inl, inr, ℕ, zero, suc, ◌+◌, Bool, true, false, cond, List, [], ◌∷◌, ◌++◌, length, get_or, take, drop, refl, sym, ap, ◌∙◌, arith, append_assoc, ℤ, pos}
use Rattle.std.specs.Prelude.{codes}
use Rattle.std.specs.List.{flat_map}
use Rattle.std.proofs.lemmas.Bool.{cases_lt, false≢true}
use Rattle.std.proofs.lemmas.List.{append-nil, take_more, drop_more, length-take-le}
use Rattle.std.proofs.lemmas.List.Concat.{flat_map-append}
use Rattle.pc_text.specs.Bytes.{Bytes}
use Rattle.pc_rows.specs.Linear.{Linear, is_zero, coefficient, IsOver}
use Rattle.pc_rows.specs.declared.row.TheConstants.{VARIABLES}
use Rattle.pc_condition.proofs.Sums.{sum_text-push, is_empty-push}
use Rattle.pc_condition.specs.Conditions.{Part, term, terms, part_text, sum_text, is_empty, row_text, rows_text}

terms_of_none : (n : ℕ) (cs : List ℤ) → terms (drop n []) cs ≡ []
terms_of_none zero cs = refl
terms_of_none (suc n) cs = refl

terms_of_nothing : (names : List Bytes) → terms names [] ≡ []
terms_of_nothing [] = refl
terms_of_nothing (name ∷ names) = refl

append_by :
    (b : Bool) (p : Part) (all front back : List Part) → all ≡ front ++ back →
    cond b all (p ∷ all) ≡ cond b front (p ∷ front) ++ back
append_by true p all front back e = e
append_by false p all front back e = ap (λ z. p ∷ z) e

terms-append :
    (names : List Bytes) (cs ds : List ℤ) →
    terms names (cs ++ ds) ≡ terms names cs ++ terms (drop (length cs) names) ds
terms-append [] cs ds = sym (terms_of_none (length cs) ds)
terms-append (name ∷ names) [] ds = refl
terms-append (name ∷ names) (c ∷ cs) ds =
    append_by (is_zero c) (term name c) (terms names (cs ++ ds)) (terms names cs) (terms (drop (length cs) names) ds) (terms-append names cs ds)

-- behind the old text stands that of the terms of the first v coefficients
pub record HoldsTerms (names : List Bytes) (cs : List ℤ) (v : ℕ) (is_first : Bool) (old new : Bytes) : Type 0 where
  pub wide : 0 < v → length cs ≡ VARIABLES
  pub first : is_first ≡ is_empty (terms names (take v cs))
  pub text : new ≡ old ++ sum_text (terms names (take v cs))

pub terms_start : (names : List Bytes) (cs : List ℤ) (old : Bytes) → HoldsTerms names cs 0 true old old
terms_start names cs old =
    let none = terms_of_nothing names in
    record { wide = λ some. absurd (omega (arith, some)); first = sym (ap is_empty none); text = sym (append-nil old) ∙ ap (λ ps. old ++ sum_text ps) (sym none) }

terms_zero_by :
    (b : Bool) (name : Bytes) (names : List Bytes) (c : ℤ) → b ≡ true →
    cond b (terms names []) (term name c ∷ terms names []) ≡ []
terms_zero_by true name names c e = terms_of_nothing names
terms_zero_by false name names c e = absurd (cc)

-- a coefficient of 0 has no term
terms_zero : (names : List Bytes) (c : ℤ) → is_zero c ≡ true → terms names (c ∷ []) ≡ []
terms_zero [] c e = refl
terms_zero (name ∷ names) c e = terms_zero_by (is_zero c) name names c e

terms_one_by :
    (b : Bool) (name : Bytes) (names : List Bytes) (c : ℤ) → b ≡ false →
    cond b (terms names []) (term name c ∷ terms names []) ≡ term name c ∷ []
terms_one_by true name names c e = absurd (cc)
terms_one_by false name names c e = ap (λ ps. term name c ∷ ps) (terms_of_nothing names)

module _ (names : List Bytes) (cs : List ℤ) (v : ℕ) (within : v < length cs) where
  terms_more : terms names (take (v + 1) cs) ≡ terms names (take v cs) ++ terms (drop v names) (get_or cs v (pos 0) ∷ [])
  terms_more =
      ap (terms names) (take_more cs v (pos 0) within)
      ∙ terms-append names (take v cs) (get_or cs v (pos 0) ∷ [])
      ∙ ap (λ n. terms names (take v cs) ++ terms (drop n names) (get_or cs v (pos 0) ∷ [])) (length-take-le v cs (omega arith))

  -- behind a coefficient of 0 the terms are as before
  terms_kept : is_zero (get_or cs v (pos 0)) ≡ true → terms names (take (v + 1) cs) ≡ terms names (take v cs)
  terms_kept e = terms_more ∙ ap (λ ps. terms names (take v cs) ++ ps) (terms_zero (drop v names) (get_or cs v (pos 0)) e) ∙ append-nil (terms names (take v cs))

  terms_grow :
      is_zero (get_or cs v (pos 0)) ≡ false → v < length names →
      terms names (take (v + 1) cs) ≡ terms names (take v cs) ++ term (get_or names v []) (get_or cs v (pos 0)) ∷ []
  terms_grow e named =
      terms_more
      ∙ ap (λ ns. terms names (take v cs) ++ terms ns (get_or cs v (pos 0) ∷ [])) (drop_more names v [] named)
      ∙ ap (λ ps. terms names (take v cs) ++ ps) (terms_one_by (is_zero (get_or cs v (pos 0))) (get_or names v []) (drop (v + 1) names) (get_or cs v (pos 0)) e)

module _ (names : List Bytes) (cs : List ℤ) (v : ℕ) (is_first : Bool) (old new : Bytes) (before : HoldsTerms names cs v is_first old new) (wide : length cs ≡ VARIABLES) (within : v < VARIABLES) where
  pub terms_skip : is_zero (get_or cs v (pos 0)) ≡ true → HoldsTerms names cs (v + 1) is_first old new
  terms_skip e =
      let kept = terms_kept names cs v (omega (arith, wide)) e in
      record { wide = λ _. wide; first = before.first ∙ ap is_empty (sym kept); text = before.text ∙ ap (λ ps. old ++ sum_text ps) (sym kept) }

  pub terms_add :
      (newer name : Bytes) → is_zero (get_or cs v (pos 0)) ≡ false → v < length names →
      get_or names v [] ≡ name → newer ≡ new ++ part_text is_first (term name (get_or cs v (pos 0))) →
      HoldsTerms names cs (v + 1) false old newer
  terms_add newer name some named is_name appended =
      let c = get_or cs v (pos 0) in
      let ps = terms names (take v cs) in
      let grow = terms_grow names cs v (omega (arith, wide)) some named ∙ ap (λ n. ps ++ term n c ∷ []) is_name in
      record {
        wide = λ _. wide;
        first = sym (ap is_empty grow ∙ is_empty-push ps (term name c));
        text =
            appended
            ∙ ap (λ z. z ++ part_text is_first (term name c)) before.text
            ∙ ap (λ b. (old ++ sum_text ps) ++ part_text b (term name c)) before.first
            ∙ append_assoc old (sum_text ps) (part_text (is_empty ps) (term name c))
            ∙ ap (λ z. old ++ z) (sym (sum_text-push ps (term name c)))
            ∙ ap (λ z. old ++ sum_text z) (sym grow);
      }

named_by :
    (n : ℕ) (r : Linear) (v : ℕ) → IsOver n r → is_zero (coefficient r v) ≡ false → (v < n) ⊎ (n ≤ v) →
    v < n
named_by n r v within some (inl named) = named
named_by n r v within some (inr past) = absurd (false≢true (sym some ∙ ap is_zero (within v past)))

-- a variable with a term has a name
pub named : (n : ℕ) (r : Linear) (v : ℕ) → IsOver n r → is_zero (coefficient r v) ≡ false → v < n
named n r v within some = named_by n r v within some (cases_lt v n)

-- a row more at the end of some rows
rows_text-push :
    (names : List Bytes) (rs : List Linear) (r : Linear) → 0 < length rs →
    rows_text names (rs ++ r ∷ []) ≡ rows_text names rs ++ (codes " && " ++ row_text names r)
rows_text-push names [] r some = absurd (omega arith)
rows_text-push names (q ∷ rs) r some =
    let later : Linear → Bytes = λ p. codes " && " ++ row_text names p in
    ap (λ z. row_text names q ++ z) (flat_map-append later rs (r ∷ []) ∙ ap (λ z. flat_map later rs ++ z) (append-nil (later r)))
    ∙ sym (append_assoc (row_text names q) (flat_map later rs) (later r))

pub rows_text_more :
    (names : List Bytes) (rs : List Linear) (i : ℕ) (r : Linear) → 0 < i → i < length rs →
    get_or rs i r ≡ r →
    rows_text names (take (i + 1) rs) ≡ rows_text names (take i rs) ++ (codes " && " ++ row_text names r)
rows_text_more names rs i r some within is =
    let long : 0 < length (take i rs) = omega (arith, length-take-le i rs (omega arith)) in
    ap (rows_text names) (take_more rs i r within)
    ∙ rows_text-push names (take i rs) (get_or rs i r) long
    ∙ ap (λ q. rows_text names (take i rs) ++ (codes " && " ++ row_text names q)) is

-- the text of the rows so far, one row on
pub rows_step :
    (names : List Bytes) (rs : List Linear) (i : ℕ) (r : Linear) (text mid new : Bytes) → 0 < i →
    i < length rs → get_or rs i r ≡ r → text ≡ rows_text names (take i rs) → mid ≡ text ++ codes " && " →
    new ≡ mid ++ row_text names r → new ≡ rows_text names (take (i + 1) rs)
rows_step names rs i r text mid new some within is so_far joined appended =
    appended
    ∙ ap (λ z. z ++ row_text names r) (joined ∙ ap (λ z. z ++ codes " && ") so_far)
    ∙ append_assoc (rows_text names (take i rs)) (codes " && ") (row_text names r)
    ∙ sym (rows_text_more names rs i r some within is)
