-- Candidates at worked graphs.
use Rattle.std.proofs.Common.{◌≡◌, ℤ, pos, negsuc, [], ◌∷◌, Bool, true, false, map, refl}
use Rattle.pc_language.specs.declared.choice.Bound.TheVariants.{At}
use Rattle.pc_rows.specs.Linear.{Linear}
use Rattle.pc_flow.specs.declared.point.PointInfo.{PointInfo}
use Rattle.pc_flow.specs.declared.what.What.{What}
use Rattle.pc_flow.specs.declared.what.What.TheVariants.{Enter, Test, Set, Check}
use Rattle.pc_flow.specs.Arc.{arc, marked}
use Rattle.pc_flow.specs.Flow.{Flow}
use Rattle.pc_lower.specs.declared.mode.Mode.TheVariants.{Hint, Tilt1, Tilt2, Escape}
use Rattle.pc_lower.specs.Candidate.{candidate, heads_by, turned}
use Rattle.pc_lower.specs.Operations.{Carries, Joins, Subtracts}
use Rattle.pc_lower.specs.Course.{turned_operations}

abbrev row : ℤ → ℤ → ℤ → Linear
row c x y = record { constant = c; coefficients = x ∷ y ∷ [] }

abbrev point : Bool → PointInfo
point head = record { head = head; tried = []; place = record { line = 1; column = 1 } }

-- entry (j) { var i; i = 1; while (i <= 100) { i = i + 1; j = j + [0, 1]; assert (j <= 105); } }: j is variable 0
abbrev counting : Flow
counting = record {
  params = 1;
  variables = 2;
  points = map point (false ∷ false ∷ true ∷ false ∷ false ∷ false ∷ false ∷ false ∷ []);
  edges =
      arc 0 1 (Enter 1) ∷ arc 1 2 (Set 1 (row (pos 1) (pos 0) (pos 0)) (At (pos 0)) (At (pos 0))) ∷ marked true 2 3 (Test (row (pos 100) (pos 0) (negsuc 0) ∷ [])) ∷
      arc 3 4 (Set 1 (row (pos 1) (pos 0) (pos 1)) (At (pos 0)) (At (pos 0))) ∷ arc 4 5 (Set 0 (row (pos 0) (pos 1) (pos 0)) (At (pos 0)) (At (pos 1))) ∷
      arc 5 6 (Check (row (pos 105) (negsuc 0) (pos 0) ∷ [])) ∷ arc 6 2 (Test []) ∷ arc 2 7 (Test (row (negsuc 100) (pos 0) (pos 1) ∷ [])) ∷ [];
}

-- -j + i + 4
abbrev head : Linear
head = row (pos 4) (negsuc 0) (pos 1)

-- -j + 104
abbrev owed : Linear
owed = row (pos 104) (negsuc 0) (pos 0)

-- the first turn
first_turn : turned counting Tilt1 2 ([] ∷ [] ∷ [] ∷ [] ∷ [] ∷ [] ∷ [] ∷ [] ∷ []) ≡ head ∷ []
first_turn = refl

found_by_tilt : heads_by counting Tilt1 ≡ [] ∷ [] ∷ (head ∷ []) ∷ [] ∷ [] ∷ [] ∷ [] ∷ [] ∷ []
found_by_tilt = refl

tilted : candidate counting Tilt1 ≡
    (row (pos 5) (negsuc 0) (pos 0) ∷ []) ∷ (row (pos 5) (negsuc 0) (pos 0) ∷ []) ∷ (head ∷ []) ∷
    (owed ∷ head ∷ []) ∷ (owed ∷ row (pos 3) (negsuc 0) (pos 1) ∷ []) ∷
    (row (pos 105) (negsuc 0) (pos 0) ∷ head ∷ []) ∷ (head ∷ []) ∷ [] ∷ []
tilted = refl

abbrev at_most : ℤ → Linear
at_most c = row c (negsuc 0) (pos 0)

abbrev body_test : Linear
body_test = row (pos 100) (pos 0) (negsuc 0)

abbrev count : What
count = Set 1 (row (pos 1) (pos 0) (pos 1)) (At (pos 0)) (At (pos 0))

abbrev choose : What
choose = Set 0 (row (pos 0) (pos 1) (pos 0)) (At (pos 0)) (At (pos 1))

-- the need after the head; what its edges owe; whether -j + 104 is steady; the lift
first_operations : turned_operations counting Tilt1 2 ([] ∷ [] ∷ [] ∷ [] ∷ [] ∷ [] ∷ [] ∷ [] ∷ []) ≡
    Joins [] [] ∷ Joins [] (at_most (pos 105) ∷ []) ∷ Carries choose (at_most (pos 105)) ∷ Joins [] (at_most (pos 104) ∷ []) ∷ Carries count (at_most (pos 104)) ∷
    Joins [] (at_most (pos 104) ∷ []) ∷
    Carries (Test (body_test ∷ [])) (at_most (pos 104)) ∷
    Carries (Test []) (at_most (pos 104)) ∷ Joins [] (at_most (pos 104) ∷ []) ∷ Carries (Check []) (at_most (pos 104)) ∷ Joins [] (at_most (pos 104) ∷ []) ∷
    Carries choose (at_most (pos 104)) ∷ Joins [] (at_most (pos 103) ∷ []) ∷ Carries count (at_most (pos 103)) ∷ Joins [] (at_most (pos 103) ∷ []) ∷
    Subtracts (at_most (pos 104)) body_test ∷ Joins [] (head ∷ []) ∷ []
first_operations = refl

-- entry (s, i) { while (*) try (s >= 0 && i >= 0) { s = s + i; i = i + [0, 1]; } assert (s >= 0); }: s is variable 0
abbrev is_s : Linear
is_s = row (pos 0) (pos 1) (pos 0)

abbrev is_i : Linear
is_i = row (pos 0) (pos 0) (pos 1)

abbrev trying : Flow
trying = record {
  params = 2;
  variables = 2;
  points = point false ∷ record { head = true; tried = is_s ∷ is_i ∷ []; place = record { line = 1; column = 1 } } ∷ map point (false ∷ false ∷ false ∷ false ∷ false ∷ []);
  edges =
      arc 0 1 (Enter 2) ∷ marked true 1 2 (Test []) ∷ arc 2 3 (Set 0 (row (pos 0) (pos 1) (pos 1)) (At (pos 0)) (At (pos 0))) ∷
      arc 3 4 (Set 1 (row (pos 0) (pos 0) (pos 1)) (At (pos 0)) (At (pos 1))) ∷ arc 4 1 (Test []) ∷ arc 1 5 (Test []) ∷ arc 5 6 (Check (is_s ∷ [])) ∷ [];
}

tried : heads_by trying Hint ≡ [] ∷ (is_s ∷ is_i ∷ []) ∷ [] ∷ [] ∷ [] ∷ [] ∷ [] ∷ []
tried = refl

hinted : candidate trying Hint ≡
    (is_s ∷ is_i ∷ []) ∷ (is_s ∷ is_i ∷ []) ∷ (row (pos 0) (pos 1) (pos 1) ∷ is_i ∷ []) ∷ (is_s ∷ is_i ∷ []) ∷ (is_s ∷ is_i ∷ []) ∷ (is_s ∷ []) ∷ [] ∷ []
hinted = refl

-- entry (n, cap) { var i; i = 0; while (i < n) { assert (i >= 0); assert (i <= cap - 1); i = i + 1; } }: n is variable 0
abbrev of : ℤ → ℤ → ℤ → ℤ → Linear
of c x y z = record { constant = c; coefficients = x ∷ y ∷ z ∷ [] }

abbrev copying : Flow
copying = record {
  params = 2;
  variables = 3;
  points = map point (false ∷ false ∷ true ∷ false ∷ false ∷ false ∷ false ∷ false ∷ []);
  edges =
      arc 0 1 (Enter 2) ∷ arc 1 2 (Set 2 (of (pos 0) (pos 0) (pos 0) (pos 0)) (At (pos 0)) (At (pos 0))) ∷ marked true 2 3 (Test (of (negsuc 0) (pos 1) (pos 0) (negsuc 0) ∷ [])) ∷
      arc 3 4 (Check (of (pos 0) (pos 0) (pos 0) (pos 1) ∷ [])) ∷ arc 4 5 (Check (of (negsuc 0) (pos 0) (pos 1) (negsuc 0) ∷ [])) ∷
      arc 5 6 (Set 2 (of (pos 1) (pos 0) (pos 0) (pos 1)) (At (pos 0)) (At (pos 0))) ∷ arc 6 2 (Test []) ∷ arc 2 7 (Test (of (pos 0) (negsuc 0) (pos 0) (pos 1) ∷ [])) ∷ [];
}

-- i and -n + cap
two_rows : heads_by copying Tilt1 ≡ [] ∷ [] ∷ (of (pos 0) (pos 0) (pos 0) (pos 1) ∷ of (pos 0) (negsuc 0) (pos 1) (pos 0) ∷ []) ∷ [] ∷ [] ∷ [] ∷ [] ∷ [] ∷ []
two_rows = refl

-- -n + i
one_row : heads_by copying Escape ≡ [] ∷ [] ∷ (of (pos 0) (negsuc 0) (pos 0) (pos 1) ∷ []) ∷ [] ∷ [] ∷ [] ∷ [] ∷ [] ∷ []
one_row = refl

-- entry (j) { var i, k; while (k <= 50 && i <= 9) { i = i + 1; j = j + 1; assert (j <= 10); } }: j is variable 0
abbrev second : Flow
second = record {
  params = 1;
  variables = 3;
  points = map point (false ∷ true ∷ false ∷ false ∷ false ∷ false ∷ false ∷ []);
  edges =
      arc 0 1 (Enter 1) ∷ marked true 1 2 (Test (of (pos 50) (pos 0) (pos 0) (negsuc 0) ∷ of (pos 9) (pos 0) (negsuc 0) (pos 0) ∷ [])) ∷
      arc 2 3 (Set 1 (of (pos 1) (pos 0) (pos 1) (pos 0)) (At (pos 0)) (At (pos 0))) ∷ arc 3 4 (Set 0 (of (pos 1) (pos 1) (pos 0) (pos 0)) (At (pos 0)) (At (pos 0))) ∷
      arc 4 5 (Check (of (pos 10) (negsuc 0) (pos 0) (pos 0) ∷ [])) ∷ arc 5 1 (Test []) ∷
      arc 1 6 (Test (of (negsuc 50) (pos 0) (pos 0) (pos 1) ∷ [])) ∷ arc 1 6 (Test (of (negsuc 9) (pos 0) (pos 1) (pos 0) ∷ [])) ∷ [];
}

by_second : heads_by second Tilt2 ≡ [] ∷ (of (pos 0) (negsuc 0) (pos 1) (pos 0) ∷ []) ∷ [] ∷ [] ∷ [] ∷ [] ∷ [] ∷ []
by_second = refl
