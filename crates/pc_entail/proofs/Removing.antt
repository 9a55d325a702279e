-- What stays of rows that were gone through, and what went.
use Rattle.std.proofs.Common.{◌≡◌, refl, sym, subst, ◌∙◌, List, [], ◌∷◌, ◌++◌, inl, inr, append_assoc, true}
use Rattle.std.specs.Prelude.{◌↔◌}
use Rattle.std.specs.List.{AllByRecursion, list_all}
use Rattle.std.proofs.lemmas.Bool.{and_parts}
use Rattle.std.proofs.lemmas.List.{append-nil}
use Rattle.pc_rows.specs.Linear.{Linear, State, Meets, MeetsAll}
use Rattle.pc_entail.specs.Showing.{AllShown}
use Rattle.pc_entail.specs.Reduction.{Reduces, Thins, Thinned, IsSplit, RemovesShown}
use Rattle.pc_entail.specs.Laws.{ReductionsAreEqual, TestsAreKept}
use Rattle.pc_entail.proofs.Finding.{shown_rows_are_met}

-- the later rows are split, and what stays shows all that went
record Parted (kept removed later answer : List Linear) : Type 0 where
  stay : List Linear
  gone : List Linear
  is : answer ≡ kept ++ stay
  split : IsSplit later stay gone
  shown : AllShown answer (removed ++ gone)

parts : (kept removed later answer : List Linear) → AllShown (kept ++ later) removed → Thins kept removed later answer → Parted kept removed later answer
parts kept removed [] answer shown is = record {
  stay = [];
  gone = [];
  is = is ∙ sym (append-nil kept);
  split = (refl, refl);
  shown = subst (AllShown answer) (sym (append-nil removed)) (subst (λ (z : List Linear). AllShown z removed) (append-nil kept ∙ sym is) shown);
}
parts kept removed (r ∷ later) answer shown (inl (all, more)) =
    let p = parts kept (removed ++ r ∷ []) later answer all more in
    record {
      stay = p.stay;
      gone = r ∷ p.gone;
      is = p.is;
      split = inr (p.gone, refl, p.split);
      shown = subst (AllShown answer) (append_assoc removed (r ∷ []) p.gone) p.shown;
    }
parts kept removed (r ∷ later) answer shown (inr (fails, more)) =
    let p = parts (kept ++ r ∷ []) removed later answer (subst (λ (z : List Linear). AllShown z removed) (sym (append_assoc kept (r ∷ []) later)) shown) more in
    record {
      stay = r ∷ p.stay;
      gone = p.gone;
      is = p.is ∙ append_assoc kept (r ∷ []) p.stay;
      split = inl (p.stay, refl, p.split);
      shown = p.shown;
    }

pub removes_shown : (rows answer : List Linear) → Thinned rows answer → RemovesShown rows answer
removes_shown rows answer h =
    let p = parts [] [] rows answer tt h in (p.gone, subst (λ (z : List Linear). IsSplit rows z p.gone) (sym p.is) p.split, p.shown)

-- a fact of each row is one of each row that stays and of each that goes, and conversely
module _ (P : Linear → Type 0) where
  splits : (rows stay gone : List Linear) → IsSplit rows stay gone → AllByRecursion P rows → AllByRecursion P stay
  splits [] stay gone (e, f) h = subst (AllByRecursion P) (sym e) tt
  splits (r ∷ rows) stay gone (inl (more, e, s)) h = subst (AllByRecursion P) (sym e) (h.0, splits rows more gone s h.1)
  splits (r ∷ rows) stay gone (inr (more, e, s)) h = splits rows stay more s h.1

  joins : (rows stay gone : List Linear) → IsSplit rows stay gone → AllByRecursion P stay → AllByRecursion P gone → AllByRecursion P rows
  joins [] stay gone (e, f) h g = tt
  joins (r ∷ rows) stay gone (inl (more, e, s)) h g = let k = subst (AllByRecursion P) e h in (k.0, joins rows more gone s k.1 g)
  joins (r ∷ rows) stay gone (inr (more, e, s)) h g = let k = subst (AllByRecursion P) e g in (k.0, joins rows stay more s h k.1)

  pub stay_each : (rows stay : List Linear) → RemovesShown rows stay → AllByRecursion P rows → AllByRecursion P stay
  stay_each rows stay (gone, s, shown) h = splits rows stay gone s h

pub same_states : (rows stay : List Linear) → RemovesShown rows stay → (s : State) → MeetsAll s rows ↔ MeetsAll s stay
same_states rows stay (gone, split, shown) s =
    (splits (Meets s) rows stay gone split, λ m. joins (Meets s) rows stay gone split m (shown_rows_are_met stay gone s shown m))

pub tests_are_kept : TestsAreKept
tests_are_kept test rows stay removes h = all stay (stay_each (λ r. test r ≡ true) rows stay removes (each rows h))
  where
    each : (rs : List Linear) → list_all test rs ≡ true → AllByRecursion (λ r. test r ≡ true) rs
    each [] h = tt
    each (r ∷ rs) h = let b = and_parts (test r) (list_all test rs) h in (b.0, each rs b.1)

    all : (rs : List Linear) → AllByRecursion (λ r. test r ≡ true) rs → list_all test rs ≡ true
    all [] h = refl
    all (r ∷ rs) h = rw (h.0, all rs h.1) refl

-- each row goes or stays by what is true, so that there is one answer
reduces_equal : (kept removed later a b : List Linear) → Reduces kept removed later a → Reduces kept removed later b → a ≡ b
reduces_equal kept removed [] a b e f = e ∙ sym f
reduces_equal kept removed (r ∷ later) a b (inl (s, g)) (inl (t, h)) = reduces_equal kept (removed ++ r ∷ []) later a b g h
reduces_equal kept removed (r ∷ later) a b (inl (s, g)) (inr (t, h)) = absurd (t s)
reduces_equal kept removed (r ∷ later) a b (inr (s, g)) (inl (t, h)) = absurd (s t)
reduces_equal kept removed (r ∷ later) a b (inr (s, g)) (inr (t, h)) = reduces_equal (kept ++ r ∷ []) removed later a b g h

pub reductions_are_equal : ReductionsAreEqual
reductions_are_equal rows a b g h = reduces_equal [] [] rows a b g h
