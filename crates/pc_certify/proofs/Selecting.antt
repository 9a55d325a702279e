-- What stays of the kept alternatives when a further one is selected.
use Rattle.std.proofs.Common.{◌≡◌, ◌+◌, ◌≤◌, List, [], ◌∷◌, ◌++◌, length, sym, ap, subst, ◌∙◌, arith, inl, inr, length-append}
use Rattle.std.specs.List.{AllByRecursion as Each}
use Rattle.pc_rows.specs.Linear.{State, MeetsAll}
use Rattle.pc_rows.proofs.Joining.{each_join}
use Rattle.pc_flow.specs.Annotation.{rows_at}
use Rattle.pc_flow.specs.Lists.{AnyOf}
use Rattle.pc_entail.proofs.Finding.{shown_rows_are_met}
use Rattle.pc_certificate.specs.declared.certificate.Annotated.{Annotated}
use Rattle.pc_certify.specs.Selecting.{IsNeedless, IsNotNeedless, Without, Selects, AreApart}

-- what holds of each alternative holds of each that stays

without_each : (P : Annotated → Type 0) (a : Annotated) (kept left : List Annotated) → Without a kept left → Each P kept → Each P left
without_each P a [] left w h = subst (Each P) (sym w) tt
without_each P a (k ∷ kept) left (inl w) h = without_each P a kept left w.1 h.1
without_each P a (k ∷ kept) left (inr w) h = subst (Each P) (sym w.1.1) (h.0, without_each P a kept w.1.0 w.1.2 h.1)

pub selects_each : (P : Annotated → Type 0) (a : Annotated) (kept new : List Annotated) → Selects a kept new → Each P kept → P a → Each P new
selects_each P a kept new (inl h) each own = subst (Each P) (sym h.0) each
selects_each P a kept new (inr h) each own =
    subst (Each P) (sym h.1.2) (each_join P h.1.0 (a ∷ []) (without_each P a kept h.1.0 h.1.1 each) (own, tt))

-- there are no more than one more, and some

without_long : (a : Annotated) (kept left : List Annotated) → Without a kept left → length left ≤ length kept
without_long a [] left w = let e = ap (length {A = Annotated}) w in omega arith
without_long a (k ∷ kept) left (inl w) = let m = without_long a kept left w.1 in omega arith
without_long a (k ∷ kept) left (inr w) = let m = without_long a kept w.1.0 w.1.2 in let e = ap (length {A = Annotated}) w.1.1 in omega arith

pub selects_long : (a : Annotated) (kept new : List Annotated) → Selects a kept new → length new ≤ length kept + 1
selects_long a kept new (inl h) = let e = ap (length {A = Annotated}) h.0 in omega arith
selects_long a kept new (inr h) =
    let e = ap (length {A = Annotated}) h.1.2 ∙ length-append h.1.0 (a ∷ []) in
    let m = without_long a kept h.1.0 h.1.1 in
    omega arith

pub selects_some : (a : Annotated) (kept new : List Annotated) → Selects a kept new → new ≡ [] → ⊥
selects_some a [] new (inl h) e = h.1
selects_some a (k ∷ kept) new (inl h) e = let is : k ∷ kept ≡ [] = sym h.0 ∙ e in cc
selects_some a kept new (inr h) e = by h.1.0 (sym h.1.2 ∙ e)
  where
    by : (left : List Annotated) → (left ++ a ∷ []) ≡ [] → ⊥
    by [] e = cc
    by (x ∷ left) e = cc

-- no state is dropped

-- a state meets the rows of one of the alternatives at the entry
abbrev pub MeetsOne : State → List Annotated → Type 0
MeetsOne s all = AnyOf (λ a. MeetsAll s (rows_at a.rows 0)) all

needless_met : (s : State) (a b : Annotated) → IsNeedless a b → MeetsAll s (rows_at a.rows 0) → MeetsAll s (rows_at b.rows 0)
needless_met s a b shown m = shown_rows_are_met (rows_at a.rows 0) (rows_at b.rows 0) s shown m

meets_beside : (s : State) (a : Annotated) (kept : List Annotated) → AnyOf (IsNeedless a) kept → MeetsAll s (rows_at a.rows 0) → MeetsOne s kept
meets_beside s a [] h m = absurd h
meets_beside s a (k ∷ kept) (inl h) m = inl (needless_met s a k h m)
meets_beside s a (k ∷ kept) (inr h) m = inr (meets_beside s a kept h m)

meets_last : (s : State) (left : List Annotated) (a : Annotated) → MeetsAll s (rows_at a.rows 0) → MeetsOne s (left ++ a ∷ [])
meets_last s [] a m = inl m
meets_last s (x ∷ left) a m = inr (meets_last s left a m)

without_keeps : (s : State) (a : Annotated) (kept left : List Annotated) → Without a kept left → MeetsOne s kept → MeetsOne s (left ++ a ∷ [])
without_keeps s a [] left w m = absurd m
without_keeps s a (k ∷ kept) left (inl w) (inl m) = meets_last s left a (needless_met s k a w.0 m)
without_keeps s a (k ∷ kept) left (inl w) (inr m) = without_keeps s a kept left w.1 m
without_keeps s a (k ∷ kept) left (inr w) (inl m) = subst (λ (z : List Annotated). MeetsOne s (z ++ a ∷ [])) (sym w.1.1) (inl m)
without_keeps s a (k ∷ kept) left (inr w) (inr m) =
    subst (λ (z : List Annotated). MeetsOne s (z ++ a ∷ [])) (sym w.1.1) (inr (without_keeps s a kept w.1.0 w.1.2 m))

pub selects_keeps : (s : State) (a : Annotated) (kept new : List Annotated) → Selects a kept new → MeetsOne s kept → MeetsOne s new
selects_keeps s a kept new (inl h) m = subst (MeetsOne s) (sym h.0) m
selects_keeps s a kept new (inr h) m = subst (MeetsOne s) (sym h.1.2) (without_keeps s a kept h.1.0 h.1.1 m)

pub selects_takes : (s : State) (a : Annotated) (kept new : List Annotated) → Selects a kept new → MeetsAll s (rows_at a.rows 0) → MeetsOne s new
selects_takes s a kept new (inl h) m = subst (MeetsOne s) (sym h.0) (meets_beside s a kept h.1 m)
selects_takes s a kept new (inr h) m = subst (MeetsOne s) (sym h.1.2) (meets_last s h.1.0 a m)

-- no alternative is found to be needless beside another one

without_apart : (a : Annotated) (kept left : List Annotated) → Without a kept left → AreApart kept → AreApart left
without_apart a [] left w h = subst AreApart (sym w) tt
without_apart a (k ∷ kept) left (inl w) h = without_apart a kept left w.1 h.1
without_apart a (k ∷ kept) left (inr w) h =
    subst AreApart (sym w.1.1) (without_each (λ b. IsNotNeedless k b × IsNotNeedless b k) a kept w.1.0 w.1.2 h.0, without_apart a kept w.1.0 w.1.2 h.1)

left_stay : (a : Annotated) (kept left : List Annotated) → Without a kept left → Each (λ k. IsNotNeedless k a) left
left_stay a [] left w = subst (Each (λ k. IsNotNeedless k a)) (sym w) tt
left_stay a (k ∷ kept) left (inl w) = left_stay a kept left w.1
left_stay a (k ∷ kept) left (inr w) = subst (Each (λ k. IsNotNeedless k a)) (sym w.1.1) (w.0, left_stay a kept w.1.0 w.1.2)

apart_last : (a : Annotated) (left : List Annotated) → AreApart left → Each (λ k. IsNotNeedless k a) left → Each (IsNotNeedless a) left → AreApart (left ++ a ∷ [])
apart_last a [] h stay own = (tt, tt)
apart_last a (k ∷ left) h stay own =
    (each_join (λ b. IsNotNeedless k b × IsNotNeedless b k) left (a ∷ []) h.0 ((stay.0, own.0), tt), apart_last a left h.1 stay.1 own.1)

pub selects_apart : (a : Annotated) (kept new : List Annotated) → Selects a kept new → AreApart kept → AreApart new
selects_apart a kept new (inl h) apart = subst AreApart (sym h.0) apart
selects_apart a kept new (inr h) apart =
    subst AreApart (sym h.1.2)
    (apart_last a h.1.0 (without_apart a kept h.1.0 h.1.1 apart) (left_stay a kept h.1.0 h.1.1) (without_each (IsNotNeedless a) a kept h.1.0 h.1.1 h.0))
