-- Rows that are shown have names for all their variables.
use Rattle.std.proofs.Common.{◌≡◌, ◌∙◌, ℕ, ℤ, pos, Bool, true, false, cond, List, [], ◌∷◌, refl, sym, ap, slice_index_or}
use Rattle.std.specs.Prelude.{All}
use Rattle.std.specs.List.{AllByRecursion as Each}
use Rattle.std.proofs.lemmas.List.Elements.{All-from_recursion}
use Rattle.pc_rows.specs.Linear.{Linear, IsOver, first_of}
use Rattle.pc_rows.proofs.Joining.{at_most_is}
use Rattle.pc_rows.proofs.Only.{first_is_over}
use Rattle.pc_facts.specs.Lines.{is_over, shown}

each_over : (n : ℕ) (rows : List Linear) → Each (IsOver n) (shown n rows)
each_over n [] = tt
each_over n (r ∷ rows) = by (is_over n r) refl (each_over n rows)
  where
    by : (b : Bool) → is_over n r ≡ b → Each (IsOver n) (shown n rows) → Each (IsOver n) (cond b (r ∷ shown n rows) (shown n rows))
    by true e go = ((λ v le. sym (ap (λ (cs : List ℤ). slice_index_or cs v (pos 0)) (at_most_is (first_of n r) r e).0) ∙ first_is_over n r v le), go)
    by false e go = go

pub shown_are_over : (n : ℕ) (rows : List Linear) → All (IsOver n) (shown n rows)
shown_are_over n rows = All-from_recursion (IsOver n) (shown n rows) (each_over n rows)
