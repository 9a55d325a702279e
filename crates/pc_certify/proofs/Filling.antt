-- Rows for the heads, point by point.
use Rattle.std.proofs.Common.{◌≡◌, ℕ, ◌+◌, ◌≤◌, List, [], ◌∷◌, ◌++◌, length, sym, ap, subst, ◌∙◌, arith, true, Option, Some, None, length-append}
use Rattle.std.specs.Prelude.{IfSome}
use Rattle.std.specs.List.{AllByRecursion as Each}
use Rattle.pc_rows.specs.Linear.{Linear, IsOver}
use Rattle.pc_rows.specs.Joins.{joined}
use Rattle.pc_rows.proofs.Joining.{each_join}
use Rattle.pc_rows.proofs.Only.{join_is_over}
use Rattle.pc_flow.specs.Annotation.{Annotation, rows_at}
use Rattle.pc_flow.specs.Flow.{Flow}
use Rattle.pc_lower.specs.Annotation.{AreOver}
use Rattle.pc_lower.specs.Laws.{IsComplete}
use Rattle.pc_lower.proofs.Variables.{each_rows_at}
use Rattle.pc_replay.specs.Shape.{is_over, are_over}
use Rattle.pc_replay.proofs.Alls.{each_if}
use Rattle.pc_replay.proofs.Shaped.{over_if}
use Rattle.pc_certify.specs.Candidates.{AreHeads}
use Rattle.pc_certify.specs.Lists.{as_list}

-- the rows for the points below number p
pub record HeadsBelow (g : Flow) (p : ℕ) (heads : Annotation) : Type 0 where
  pub long : length heads ≡ p
  pub over : AreOver g.variables heads

pub heads_more : (g : Flow) (p : ℕ) (heads new : Annotation) (rows : List Linear) → new ≡ heads ++ rows ∷ [] → Each (IsOver g.variables) rows → HeadsBelow g p heads → HeadsBelow g (p + 1) new
heads_more g p heads new rows added over h =
    let long = ap (length {A = List Linear}) added ∙ length-append heads (rows ∷ []) in
    let before = h.long in
    record { long = omega arith; over = subst (AreOver g.variables) (sym added) (each_join (Each (IsOver g.variables)) heads (rows ∷ []) h.over (over, tt)) }

pub over_all : (n : ℕ) (rows : List Linear) → are_over n rows ≡ true → Each (IsOver n) rows
over_all n rows h = each_if (is_over n) (IsOver n) (over_if n) rows h

-- rows that were found
pub found_over : (n : ℕ) (o : Option (List Linear)) (rows : List Linear) → o ≡ Some rows → IfSome o (Each (IsOver n)) → Each (IsOver n) rows
found_over n o rows is h = subst (λ (z : Option (List Linear)). IfSome z (Each (IsOver n))) is h

pub both_over : (g : Flow) (a b : Annotation) (p : ℕ) (x y rows : List Linear) → AreHeads g a → AreHeads g b → x ≡ rows_at a p → y ≡ rows_at b p → rows ≡ joined x y → Each (IsOver g.variables) rows
both_over g a b p x y rows first second xs ys is =
    let P = Each (IsOver g.variables) in
    subst P (sym is)
    (join_is_over g.variables x y (subst P (sym xs) (each_rows_at P a p tt first.over)) (subst P (sym ys) (each_rows_at P b p tt second.over)))

-- a complete annotation has rows for the heads
pub complete_heads : (g : Flow) (a : Annotation) → IsComplete g a → AreHeads g a
complete_heads g a h = record { long = h.long; over = h.over }

-- a list with those heads, where there are some
pub listed_more : (g : Flow) (later new : List Annotation) (o : Option Annotation) → new ≡ later ++ as_list o → IfSome o (AreHeads g) → Each (AreHeads g) later → Each (AreHeads g) new
listed_more g later new (Some heads) added h each = subst (Each (AreHeads g)) (sym added) (each_join (AreHeads g) later (heads ∷ []) each (h, tt))
listed_more g later new None added h each = subst (Each (AreHeads g)) (sym added) (each_join (AreHeads g) later [] each tt)

pub listed_long : (later new : List Annotation) (o : Option Annotation) → new ≡ later ++ as_list o → length new ≤ length later + 1
listed_long later new (Some heads) added = let e = ap (length {A = Annotation}) added ∙ length-append later (heads ∷ []) in omega arith
listed_long later new None added = let e = ap (length {A = Annotation}) added ∙ length-append later [] in omega arith
