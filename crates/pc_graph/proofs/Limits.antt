-- What the edges of tests and assignments have is within the limits of edges.
use Rattle.std.proofs.Common.{◌≡◌, ℕ, ◌<◌, ◌≤◌, pos, List, [], ◌∷◌, length, Bool, true, false, refl, arith, int_le}
use Rattle.std.specs.Prelude.{◌&&◌, Option, Some, None}
use Rattle.std.specs.List.{AllByRecursion as Each}
use Rattle.std.proofs.lemmas.Bool.{and_parts}
use Rattle.pc_language.specs.declared.choice.Bound.{Bound}
use Rattle.pc_language.specs.declared.choice.Bound.TheVariants as bound
use Rattle.pc_language.specs.Ends.{end_of}
use Rattle.pc_language.specs.declared.choice.Choice.{Choice}
use Rattle.pc_rows.specs.Linear.{Linear, IsOver, in_range}
use Rattle.pc_rows.specs.declared.row.TheConstants.{VARIABLES}
use Rattle.pc_rows.proofs.Ranges.{is_in}
use Rattle.pc_rows.proofs.Joining.{le_is}
use Rattle.pc_program.specs.Forms.{form, is_affine, rows_all}
use Rattle.pc_program.specs.Sane.{sane_test, sane_right, sane_expr, names_below, sane_choice, in_order}
use Rattle.pc_program.specs.declared.tree.Right.{Right}
use Rattle.pc_program.specs.declared.tree.Test.{Test as Condition}
use Rattle.pc_program.specs.declared.tree.Test.TheVariants as test
use Rattle.pc_flow.specs.declared.what.TheConstants.{TEST_ROWS}
use Rattle.pc_flow.specs.Arc.{IsFit, BoundsFit}
use Rattle.pc_graph.specs.Lowering.{low_end, high_end, assigned}
use Rattle.pc_graph.specs.Ways.{is_lone, apart, ways_of, ways}
use Rattle.pc_graph.proofs.Ready.{ready_few, test_ready}
use Rattle.pc_graph.proofs.Variables.{form_is_over}

-- ---- tests

one_few : (rows : List Linear) → Each (λ w. length w ≤ TEST_ROWS) (apart rows)
one_few [] = tt
one_few (r ∷ rows) = (omega arith, one_few rows)

ways_of_few : (lone b : Bool) (rows : List Linear) → length rows ≤ TEST_ROWS → Each (λ w. length w ≤ TEST_ROWS) (ways_of lone rows b)
ways_of_few true true rows h = one_few rows
ways_of_few true false rows h = (h, tt)
ways_of_few false true rows h = (h, tt)
ways_of_few false false rows h = one_few rows

pub ways_few : (n : ℕ) (t : Condition) (b : Bool) → sane_test n t ≡ true → Each (λ w. length w ≤ TEST_ROWS) (ways t b)
ways_few n test.Any b h = (omega arith, tt)
ways_few n (test.All cs) b h = ways_of_few (is_lone cs) b (rows_all cs) (ready_few cs (rows_all cs) refl (test_ready n cs h))

-- ---- assignments

ends_fit : (lo hi : Bound) → in_order (end_of lo) (end_of hi) ≡ true → BoundsFit lo hi
ends_fit (bound.At lo) (bound.At hi) h =
    let a = and_parts (in_range lo) (in_range hi && int_le lo hi) h in
    let b = and_parts (in_range hi) (int_le lo hi) a.1 in
    record { low = is_in lo a.0; high = is_in hi b.0; ordered = le_is lo hi b.1 }
ends_fit (bound.At lo) bound.Open h = record { low = is_in lo h; high = tt; ordered = tt }
ends_fit bound.Open (bound.At hi) h = record { low = tt; high = is_in hi h; ordered = tt }
ends_fit bound.Open bound.Open h = record { low = tt; high = tt; ordered = tt }

choice_fits : (o : Option Choice) → sane_choice o ≡ true → BoundsFit (low_end o) (high_end o)
choice_fits None h = ends_fit (bound.At (pos 0)) (bound.At (pos 0)) refl
choice_fits (Some choice) h = ends_fit choice.lo choice.hi h

pub assigned_fits : (n v : ℕ) (r : Right) → n ≤ VARIABLES → v < n → sane_right n r ≡ true → IsFit (assigned v r)
assigned_fits n v r few lt h = (omega arith, choice_fits r.choice (and_parts (sane_expr n r.expr) (sane_choice r.choice) h).1)

pub right_over : (n : ℕ) (r : Right) → sane_right n r ≡ true → IsOver n (form r.expr)
right_over n r h = form_is_over n r.expr (and_parts (is_affine r.expr) (names_below n r.expr) (and_parts (sane_expr n r.expr) (sane_choice r.choice) h).0).1
