-- The text of a sum determines its parts.
use Rattle.std.proofs.Common.{◌≡◌, ◌≢◌, ℕ, ◌≤◌, Bool, true, false, not, ◌&&◌, leb, eqb, List, [], ◌∷◌, ◌++◌, drop, get_or, refl, sym, ap, ◌∙◌, arith, append_assoc}
use Rattle.std.specs.Prelude.{codes}
use Rattle.std.specs.List.{AllByRecursion, flat_map, list_all}
use Rattle.std.proofs.lemmas.Bool.{and_parts, leb-true, eqb-false, not-true}
use Rattle.pc_text.specs.Bytes.{Bytes}
use Rattle.pc_condition.specs.Conditions.{Part, sign, part_text, sum_text}
use Rattle.pc_condition.proofs.Names.{IsPartByte}
use Rattle.pc_text.proofs.Splits.{Stops, Begins, same_cut, each-append, each_weaker}

-- the bytes of a sum: those of parts, space, `+` and `-`
abbrev pub IsSumByte : ℕ → Type 0
IsSumByte b = (32 ≤ b) × (b ≢ 62)

-- a part's text is not empty, and does not begin with `-`
pub record IsPart (p : Part) : Type 0 where
  pub bytes : AllByRecursion IsPartByte p.size
  pub begins : Begins (λ b. 48 ≤ b) p.size

abbrev pub AreParts : List Part → Type 0
AreParts ps = AllByRecursion IsPart ps

sum_bytes : (p : Part) → IsPart p → AllByRecursion IsSumByte p.size
sum_bytes p h = each_weaker IsPartByte IsSumByte (λ b g. (omega (arith, g.0), g.1)) p.size h.bytes

unfoldable pub is_sum_byte : ℕ → Bool
is_sum_byte b = leb 32 b && not (eqb b 62)

-- of a written text the bytes are tested
pub are_sum_bytes : (u : Bytes) → list_all is_sum_byte u ≡ true → AllByRecursion IsSumByte u
unfolding is_sum_byte
are_sum_bytes [] e = tt
are_sum_bytes (b ∷ u) e =
    let both = and_parts (is_sum_byte b) (list_all is_sum_byte u) e in
    let tests = and_parts (leb 32 b) (not (eqb b 62)) both.0 in
    ((leb-true 32 b tests.0, eqb-false b 62 (not-true (eqb b 62) tests.1)), are_sum_bytes u both.1)

sign_bytes : (is_first b : Bool) → AllByRecursion IsSumByte (sign is_first b)
unfolding is_sum_byte
sign_bytes true true = are_sum_bytes (codes "-") refl
sign_bytes true false = tt
sign_bytes false true = are_sum_bytes (codes " - ") refl
sign_bytes false false = are_sum_bytes (codes " + ") refl

later_bytes : (ps : List Part) → AreParts ps → AllByRecursion IsSumByte (flat_map (part_text false) ps)
later_bytes [] h = tt
later_bytes (p ∷ ps) h =
    let part = each-append IsSumByte (sign false p.is_negative) p.size (sign_bytes false p.is_negative) (sum_bytes p h.0) in
    each-append IsSumByte (part_text false p) (flat_map (part_text false) ps) part (later_bytes ps h.1)

pub sum_text_bytes : (ps : List Part) → AreParts ps → AllByRecursion IsSumByte (sum_text ps)
sum_text_bytes [] h = tt
sum_text_bytes (p ∷ ps) h =
    let part = each-append IsSumByte (sign true p.is_negative) p.size (sign_bytes true p.is_negative) (sum_bytes p h.0) in
    each-append IsSumByte (sign true p.is_negative ++ p.size) (flat_map (part_text false) ps) part (later_bytes ps h.1)

sign_stops : (b : Bool) (x : Bytes) → Stops IsPartByte (sign false b ++ x)
sign_stops true x = λ h. absurd (omega (arith, h.0))
sign_stops false x = λ h. absurd (omega (arith, h.0))

-- after a part comes a space, or the end
later_stops : (ps : List Part) → Stops IsPartByte (flat_map (part_text false) ps)
later_stops [] = tt
later_stops (p ∷ ps) = rw (append_assoc (sign false p.is_negative) p.size (flat_map (part_text false) ps)) (sign_stops p.is_negative _)

same_later_sign : (b c : Bool) (x y : Bytes) → sign false b ++ x ≡ sign false c ++ y → (b ≡ c) × (x ≡ y)
same_later_sign true true x y e = (refl, ap (drop 3) e)
same_later_sign true false x y e = let apart : ◌≡◌ {A = ℕ} 45 43 = ap (λ z. get_or z 1 0) e in absurd (omega arith)
same_later_sign false true x y e = let apart : ◌≡◌ {A = ℕ} 43 45 = ap (λ z. get_or z 1 0) e in absurd (omega arith)
same_later_sign false false x y e = (refl, ap (drop 3) e)

later_some : (b : Bool) (s x : Bytes) → [] ≡ (sign false b ++ s) ++ x → ⊥
later_some true s x e = cc
later_some false s x e = cc

first_some : (b : Bool) (s x : Bytes) → Begins (λ b. 48 ≤ b) s → [] ≡ (sign true b ++ s) ++ x → ⊥
first_some true s x h e = cc
first_some false [] x h e = h
first_some false (b ∷ s) x h e = cc

not_minus : (s x y : Bytes) → Begins (λ b. 48 ≤ b) s → 45 ∷ x ≡ s ++ y → ⊥
not_minus [] x y h e = h
not_minus (b ∷ s) x y h e = let minus : 45 ≡ b = cc in absurd (omega arith)

same_first_sign :
    (b c : Bool) (s t x y : Bytes) → Begins (λ b. 48 ≤ b) s → Begins (λ b. 48 ≤ b) t →
    sign true b ++ (s ++ x) ≡ sign true c ++ (t ++ y) → (b ≡ c) × (s ++ x ≡ t ++ y)
same_first_sign true true s t x y at_s at_t e = (refl, cc)
same_first_sign true false s t x y at_s at_t e = absurd (not_minus t (s ++ x) y at_t e)
same_first_sign false true s t x y at_s at_t e = absurd (not_minus s (t ++ y) x at_s (sym e))
same_first_sign false false s t x y at_s at_t e = (refl, e)

part_of : Bool → Bytes → Part
part_of b s = record { is_negative = b; size = s }

same_part : (p q : Part) → p.is_negative ≡ q.is_negative → p.size ≡ q.size → p ≡ q
unfolding part_of
same_part p q sign size = ap (λ b. part_of b p.size) sign ∙ ap (part_of q.is_negative) size

same_later :
    (ps qs : List Part) → AreParts ps → AreParts qs →
    flat_map (part_text false) ps ≡ flat_map (part_text false) qs → ps ≡ qs
same_later [] [] h g e = refl
same_later [] (q ∷ qs) h g e = absurd (later_some q.is_negative q.size (flat_map (part_text false) qs) e)
same_later (p ∷ ps) [] h g e = absurd (later_some p.is_negative p.size (flat_map (part_text false) ps) (sym e))
same_later (p ∷ ps) (q ∷ qs) h g e =
    let split =
    sym (append_assoc (sign false p.is_negative) p.size (flat_map (part_text false) ps))
    ∙ e
    ∙ append_assoc (sign false q.is_negative) q.size (flat_map (part_text false) qs) in
    let sign = same_later_sign p.is_negative q.is_negative _ _ split in
    let cut = same_cut IsPartByte p.size q.size _ _ h.0.bytes g.0.bytes (later_stops ps) (later_stops qs) sign.1 in
    let front : p ≡ q = same_part p q sign.0 cut.0 in
    let rest : ps ≡ qs = same_later ps qs h.1 g.1 cut.1 in
    cc

pub same_sum : (ps qs : List Part) → AreParts ps → AreParts qs → sum_text ps ≡ sum_text qs → ps ≡ qs
same_sum [] [] h g e = refl
same_sum [] (q ∷ qs) h g e = absurd (first_some q.is_negative q.size (flat_map (part_text false) qs) g.0.begins e)
same_sum (p ∷ ps) [] h g e = absurd (first_some p.is_negative p.size (flat_map (part_text false) ps) h.0.begins (sym e))
same_sum (p ∷ ps) (q ∷ qs) h g e =
    let split =
    sym (append_assoc (sign true p.is_negative) p.size (flat_map (part_text false) ps))
    ∙ e
    ∙ append_assoc (sign true q.is_negative) q.size (flat_map (part_text false) qs) in
    let sign = same_first_sign p.is_negative q.is_negative p.size q.size _ _ h.0.begins g.0.begins split in
    let cut = same_cut IsPartByte p.size q.size _ _ h.0.bytes g.0.bytes (later_stops ps) (later_stops qs) sign.1 in
    let front : p ≡ q = same_part p q sign.0 cut.0 in
    let rest : ps ≡ qs = same_later ps qs h.1 g.1 cut.1 in
    cc
