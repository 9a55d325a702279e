-- Rows that are carried back or left out, one after the other.
use Rattle.std.proofs.Common.{◌≡◌, ◌∙◌, ℕ, ◌+◌, List, [], ◌∷◌, ◌++◌, append-nil, ◌≤◌, drop, length, sym, ap, subst, Some, slice_get, append_assoc, cond, Bool, true, false}
use Rattle.std.specs.Prelude.{filter}
use Rattle.std.specs.List.{AllByRecursion as Each}
use Rattle.std.proofs.lemmas.List.{drop_all}
use Rattle.pc_rows.specs.Linear.{Linear}
use Rattle.pc_rows.proofs.Adding.{drop_got}
use Rattle.pc_flow.specs.declared.what.What.{What}
use Rattle.pc_flow.specs.Carry.{back, back_all}
use Rattle.pc_lower.specs.Operations.{Operation, Carries, Fits, carries}
use Rattle.pc_lower.proofs.Answering.{Left}

pub carry_next : (w : What) (rows : List Linear) (i : ℕ) (r : Linear) (whole : List Operation) → slice_get rows i ≡ Some r →
    Left (carries w (drop i rows)) whole → Left (Carries w r ∷ carries w (drop (i + 1) rows)) whole
carry_next w rows i r whole at left = subst (λ (z : List Linear). Left (carries w z) whole) (drop_got rows i r at) left

pub back_next : (w : What) (rows : List Linear) (i : ℕ) (r row : Linear) (done : List Linear) → slice_get rows i ≡ Some r → row ≡ back w r →
    done ++ back_all w (drop i rows) ≡ back_all w rows → (done ++ row ∷ []) ++ back_all w (drop (i + 1) rows) ≡ back_all w rows
back_next w rows i r row done at is whole =
    append_assoc done (row ∷ []) (back_all w (drop (i + 1) rows))
    ∙ ap (λ (z : Linear). done ++ z ∷ back_all w (drop (i + 1) rows)) is
    ∙ ap (λ (z : List Linear). done ++ back_all w z) (sym (drop_got rows i r at))
    ∙ whole

pub all_carried : (w : What) (rows : List Linear) (i : ℕ) (done : List Linear) → length rows ≤ i → done ++ back_all w (drop i rows) ≡ back_all w rows →
    Left (carries w (drop i rows)) (carries w rows) → Each Fits (carries w rows) × (done ≡ back_all w rows)
all_carried w rows i done le whole left =
    let none = drop_all i rows le in (
      left.fit (subst (λ (z : List Linear). Each Fits (carries w z)) (sym none) tt),
      sym (append-nil done) ∙ ap (λ (z : List Linear). done ++ back_all w z) (sym none) ∙ whole,
    )

-- a filter, row by row
module _ (test : Linear → Bool) (rows : List Linear) (i : ℕ) (r : Linear) (done : List Linear) (at : slice_get rows i ≡ Some r) (so_far : done ++ filter test (drop i rows) ≡ filter test rows) where
  pub filter_kept : test r ≡ true → (done ++ r ∷ []) ++ filter test (drop (i + 1) rows) ≡ filter test rows
  filter_kept h =
      append_assoc done (r ∷ []) (filter test (drop (i + 1) rows))
      ∙ ap (λ (b : Bool). done ++ cond b (r ∷ filter test (drop (i + 1) rows)) (filter test (drop (i + 1) rows))) (sym h)
      ∙ ap (λ (z : List Linear). done ++ filter test z) (sym (drop_got rows i r at))
      ∙ so_far

  pub filter_left : test r ≡ false → done ++ filter test (drop (i + 1) rows) ≡ filter test rows
  filter_left h =
      ap (λ (b : Bool). done ++ cond b (r ∷ filter test (drop (i + 1) rows)) (filter test (drop (i + 1) rows))) (sym h)
      ∙ ap (λ (z : List Linear). done ++ filter test z) (sym (drop_got rows i r at))
      ∙ so_far
