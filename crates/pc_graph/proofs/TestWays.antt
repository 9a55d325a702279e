-- The edges of a test: where it holds, and where it fails.
use Rattle.std.proofs.Common.{◌≡◌, ℕ, ℤ, pos, List, [], ◌∷◌, length, Bool, true, false, refl, sym, ap, ◌∙◌, inl, inr}
use Rattle.std.specs.Prelude.{◌⊎◌, ◌&&◌, not, nat_le}
use Rattle.std.specs.Ordering.{int_eq}
use Rattle.std.specs.List.{AllByRecursion as Each, list_all}
use Rattle.std.proofs.Math.Bool.{and-true}
use Rattle.std.proofs.lemmas.Bool.{false_from_ne_true, and_parts, and_from}
use Rattle.pc_rows.specs.Linear.{Linear, Meets, MeetsAll, negation}
use Rattle.pc_language.specs.declared.limits.TheConstants.{COMPARISONS}
use Rattle.pc_program.specs.Forms.{is_unequal, is_affine, has_rows, is_plain, row_fits, rows_of, rows_all}
use Rattle.pc_program.specs.Sane.{sane_expr, names_below, sane_compare, sane_each, sane_all, sane_test}
use Rattle.pc_program.specs.Values.{holds, all_hold, chosen}
use Rattle.pc_rows.specs.Linear.{State}
use Rattle.pc_program.specs.declared.tree.Compare.{Compare}
use Rattle.pc_program.specs.declared.tree.Test.{Test}
use Rattle.pc_program.specs.declared.tree.Test.TheVariants as test
use Rattle.pc_program.proofs.RowLemmas.{conjunctions_are_rows, unequals_are_rows}
use Rattle.pc_rows.proofs.Meeting.{meets_left, meets_join, met_or_not, not_both}
use Rattle.pc_program.proofs.Stmts.{all_by}
use Rattle.pc_flow.specs.Lists.{AnyOf}
use Rattle.pc_graph.specs.Ways.{is_lone, apart, ways_of, ways}
use Rattle.pc_flow.proofs.Lists.{each_more}

-- ---- rows

pub all_or_apart : (rs : List Linear) (s : State) → MeetsAll s rs ⊎ AnyOf (MeetsAll s) (apart rs)
all_or_apart [] s = inl tt
all_or_apart (r ∷ rs) s = by (met_or_not r s) (all_or_apart rs s)
  where
    by : Meets s r ⊎ Meets s (negation r) → MeetsAll s rs ⊎ AnyOf (MeetsAll s) (apart rs) → MeetsAll s (r ∷ rs) ⊎ AnyOf (MeetsAll s) (apart (r ∷ rs))
    by (inl h) (inl k) = inl (h, k)
    by (inl h) (inr k) = inr (inr k)
    by (inr h) k = inr (inl (h, tt))

pub apart_not_all : (rs : List Linear) (s : State) → MeetsAll s rs → Each (λ ws. MeetsAll s ws → ⊥) (apart rs)
apart_not_all [] s h = tt
apart_not_all (r ∷ rs) s h = ((λ k. not_both r s h.0 k.0), apart_not_all rs s h.1)

-- ---- conjunctions that keep the context rules

pub rows_found : (n : ℕ) (c : Compare) → sane_compare n c ≡ true → has_rows c ≡ true
rows_found n c h =
    let l = and_parts (sane_expr n c.left) (sane_expr n c.right && list_all row_fits (rows_of c)) h in
    let r = and_parts (sane_expr n c.right) (list_all row_fits (rows_of c)) l.1 in
    and_from (is_affine c.left) (is_affine c.right) (and_parts (is_affine c.left) (names_below n c.left) l.0).0 (and_parts (is_affine c.right) (names_below n c.right) r.0).0

all_plain : (n : ℕ) (cs : List Compare) → list_all (λ c. not (is_unequal c.op) && sane_compare n c) cs ≡ true → list_all is_plain cs ≡ true
all_plain n [] h = refl
all_plain n (c ∷ cs) h =
    let a = and_parts (not (is_unequal c.op) && sane_compare n c) (list_all (λ c. not (is_unequal c.op) && sane_compare n c) cs) h in
    let b = and_parts (not (is_unequal c.op)) (sane_compare n c) a.0 in
    and_from (is_plain c) (list_all is_plain cs) (and_from (not (is_unequal c.op)) (has_rows c) b.0 (rows_found n c b.1)) (all_plain n cs a.1)

each_plain : (n : ℕ) (cs : List Compare) → sane_each n cs ≡ true → list_all is_plain cs ≡ true
each_plain n cs h = all_plain n cs (and_parts (nat_le (length cs) COMPARISONS) (list_all (λ c. not (is_unequal c.op) && sane_compare n c) cs) h).1

conjunction_plain : (n : ℕ) (cs : List Compare) → sane_all n cs ≡ true → list_all is_plain cs ≡ true
conjunction_plain n [] h = refl
conjunction_plain n (c ∷ cs) h = each_plain n (c ∷ cs) h

-- the conjunction of an assertion or an assumption holds exactly where its rows are met
pub holds_meets : (n : ℕ) (cs : List Compare) (s : State) → sane_all n cs ≡ true → all_hold cs s ≡ true → MeetsAll s (rows_all cs)
holds_meets n cs s u h = (conjunctions_are_rows cs s (conjunction_plain n cs u)).0 h

pub meets_holds : (n : ℕ) (cs : List Compare) (s : State) → sane_all n cs ≡ true → MeetsAll s (rows_all cs) → all_hold cs s ≡ true
meets_holds n cs s u h = (conjunctions_are_rows cs s (conjunction_plain n cs u)).1 h

-- a test but for a lone `!=` is a conjunction
test_plain : (n : ℕ) (cs : List Compare) → sane_test n (test.All cs) ≡ true → is_lone cs ≡ false → list_all is_plain cs ≡ true
test_plain n [] u l = refl
test_plain n (c ∷ []) u l = and_from (is_plain c) true (and_from (not (is_unequal c.op)) (has_rows c) (ap not l) (rows_found n c u)) refl
test_plain n (c ∷ d ∷ cs) u l = each_plain n (c ∷ d ∷ cs) u

-- a lone `!=` fails exactly where its rows are met
lone_meets : (n : ℕ) (cs : List Compare) (s : State) → sane_test n (test.All cs) ≡ true → is_lone cs ≡ true → all_hold cs s ≡ false → MeetsAll s (rows_all cs)
lone_meets n [] s u l h = absurd (cc)
lone_meets n (c ∷ []) s u l h =
    meets_join s (rows_of c) [] ((unequals_are_rows c s (rows_found n c u) l).fails_where.0 (λ t. let e = sym (and-true (holds c s)) ∙ h in absurd (cc))) tt
lone_meets n (c ∷ d ∷ cs) s u l h = absurd (cc)

meets_lone : (n : ℕ) (cs : List Compare) (s : State) → sane_test n (test.All cs) ≡ true → is_lone cs ≡ true → MeetsAll s (rows_all cs) → all_hold cs s ≡ false
meets_lone n [] s u l h = absurd (cc)
meets_lone n (c ∷ []) s u l h =
    and-true (holds c s) ∙ false_from_ne_true (holds c s) ((unequals_are_rows c s (rows_found n c u) l).fails_where.1 (meets_left s (rows_of c) [] h))
meets_lone n (c ∷ d ∷ cs) s u l h = absurd (cc)

-- ---- the ways of a test, where its rows are met exactly where its answer is `not lone`

ways_complete_by : (h lone b : Bool) (rs : List Linear) (s : State) → (h ≡ not lone → MeetsAll s rs) → (MeetsAll s rs → h ≡ not lone) → h ≡ b →
    AnyOf (MeetsAll s) (ways_of lone rs b)
ways_complete_by h true true rs s to fro e = by (all_or_apart rs s)
  where
    by : MeetsAll s rs ⊎ AnyOf (MeetsAll s) (apart rs) → AnyOf (MeetsAll s) (apart rs)
    by (inl m) = let f = fro m in absurd (cc)
    by (inr a) = a
ways_complete_by h true false rs s to fro e = inl (to e)
ways_complete_by h false true rs s to fro e = inl (to e)
ways_complete_by h false false rs s to fro e = by (all_or_apart rs s)
  where
    by : MeetsAll s rs ⊎ AnyOf (MeetsAll s) (apart rs) → AnyOf (MeetsAll s) (apart rs)
    by (inl m) = let f = fro m in absurd (cc)
    by (inr a) = a

ways_sound_by : (h lone b : Bool) (rs : List Linear) (s : State) → (h ≡ not lone → MeetsAll s rs) → (MeetsAll s rs → h ≡ not lone) →
    Each (λ ws. MeetsAll s ws → h ≡ b) (ways_of lone rs b)
ways_sound_by h true false rs s to fro = (fro, tt)
ways_sound_by h false true rs s to fro = (fro, tt)
ways_sound_by true true true rs s to fro = all_by (λ ws. MeetsAll s ws → true ≡ true) (λ ws m. refl) (apart rs)
ways_sound_by false true true rs s to fro =
    each_more (λ ws. MeetsAll s ws → ⊥) (λ ws. MeetsAll s ws → false ≡ true) (λ ws f m. absurd (f m)) (apart rs) (apart_not_all rs s (to refl))
ways_sound_by true false false rs s to fro =
    each_more (λ ws. MeetsAll s ws → ⊥) (λ ws. MeetsAll s ws → true ≡ false) (λ ws f m. absurd (f m)) (apart rs) (apart_not_all rs s (to refl))
ways_sound_by false false false rs s to fro = all_by (λ ws. MeetsAll s ws → false ≡ false) (λ ws m. refl) (apart rs)

rows_to : (n : ℕ) (cs : List Compare) (s : State) (lone : Bool) → sane_test n (test.All cs) ≡ true → is_lone cs ≡ lone →
    all_hold cs s ≡ not lone → MeetsAll s (rows_all cs)
rows_to n cs s true u e h = lone_meets n cs s u e h
rows_to n cs s false u e h = (conjunctions_are_rows cs s (test_plain n cs u e)).0 h

rows_fro : (n : ℕ) (cs : List Compare) (s : State) (lone : Bool) → sane_test n (test.All cs) ≡ true → is_lone cs ≡ lone →
    MeetsAll s (rows_all cs) → all_hold cs s ≡ not lone
rows_fro n cs s true u e h = meets_lone n cs s u e h
rows_fro n cs s false u e h = (conjunctions_are_rows cs s (test_plain n cs u e)).1 h

-- a choice of a side has an edge of that side
pub ways_complete : (n : ℕ) (t : Test) (b : Bool) (s : State) (c : ℤ) → sane_test n t ≡ true → chosen t s c ≡ b → AnyOf (MeetsAll s) (ways t b)
ways_complete n test.Any b s c u e = inl tt
ways_complete n (test.All cs) b s c u e =
    ways_complete_by (all_hold cs s) (is_lone cs) b (rows_all cs) s (rows_to n cs s (is_lone cs) u refl) (rows_fro n cs s (is_lone cs) u refl) e

any_side : (b : Bool) → (c : ℤ) × (not (int_eq c (pos 0)) ≡ b)
any_side true = (pos 1, refl)
any_side false = (pos 0, refl)

-- what passes an edge of a side has a choice of that side
pub ways_sound : (n : ℕ) (t : Test) (b : Bool) (s : State) → sane_test n t ≡ true → Each (λ ws. MeetsAll s ws → (c : ℤ) × (chosen t s c ≡ b)) (ways t b)
ways_sound n test.Any b s u = ((λ m. any_side b), tt)
ways_sound n (test.All cs) b s u =
    each_more (λ ws. MeetsAll s ws → all_hold cs s ≡ b) (λ ws. MeetsAll s ws → (c : ℤ) × (all_hold cs s ≡ b)) (λ ws f m. (pos 0, f m)) (ways_of (is_lone cs) (rows_all cs) b)
    (ways_sound_by (all_hold cs s) (is_lone cs) b (rows_all cs) s (rows_to n cs s (is_lone cs) u refl) (rows_fro n cs s (is_lone cs) u refl))
