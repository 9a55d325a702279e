-- Modest rows are settled with all numbers in range and with room for all rows.
use Rattle.std.proofs.Common.{◌≡◌, ℕ, zero, suc, ◌+◌, ◌*◌, ◌^◌, ◌≤◌, ◌<◌, ℤ, refl, sym, subst, arith, List, [], ◌∷◌, Bool, true, false, Some, length}
use Rattle.std.specs.List.{AllByRecursion}
use Rattle.std.proofs.lemmas.Int.{ints}
use Rattle.pc_rows.specs.Bounds.{AreWithin}
use Rattle.pc_rows.specs.Evidence.{Point}
use Rattle.pc_elim.specs.declared.made.TheConstants.{LIMIT}
use Rattle.pc_elim.specs.Elimination.{Made, level}
use Rattle.pc_elim.specs.Places.{has_variable}
use Rattle.pc_elim.specs.Placing.{placed}
use Rattle.pc_elim.specs.Settling.{origin, contradiction_of}
use Rattle.pc_elim.specs.Fits.{LevelFits, PlacedFits, BackFits}
use Rattle.pc_elim.proofs.Completeness.{IsFrom, origin_from, placed_from}
use Rattle.pc_elim.proofs.Soundness.{first_has}
use Rattle.pc_elim.proofs.Counting.{eliminated_room, one_if}
use Rattle.pc_elim.proofs.SmallRows.{MadeWithin, made_more, all_pairs_fit, eliminated_within}
use Rattle.pc_rows.proofs.Bounding.{zeros_within}
use Rattle.pc_elim.proofs.SmallPoints.{PointWithin, placed_fits}
use Rattle.pc_elim.proofs.Absent.{all_free, free_made, free_placed, free_level, free_fits}

-- the numbers of each stage, by how many variables that occur may still come
abbrev pub entry : ℕ → ℕ
entry zero = 2 ^ 87
entry (suc zero) = 2 ^ 43
entry (suc (suc zero)) = 2 ^ 21
entry (suc (suc (suc l))) = 2 ^ 10

abbrev pub size : ℕ → ℕ
size zero = 1
size (suc zero) = 2 ^ 49
size (suc (suc zero)) = 2 ^ 76
size (suc (suc (suc l))) = 2 ^ 92

abbrev pub room : ℕ → ℕ
room zero = 26244
room (suc zero) = 324
room (suc (suc zero)) = 36
room (suc (suc (suc l))) = 12

abbrev pub half : ℕ → ℕ
half zero = 162
half (suc zero) = 18
half (suc (suc l)) = 6

record Step (l : ℕ) : Type 0 where
  grows : entry (suc l) ≤ entry l
  entries : entry (suc l) * entry (suc l) + entry (suc l) * entry (suc l) ≤ entry l
  fits : entry (suc l) * entry (suc l) + entry (suc l) * entry (suc l) < 2 ^ 127
  sizes : 64 * (entry (suc l) * size l) ≤ size (suc l)
  size_fits : size (suc l) < 2 ^ 127
  cross_fits : size (suc l) * entry (suc l) < 2 ^ 127
  up : size l ≤ size (suc l)
  halves : room (suc l) ≤ half l + half l
  rooms : half l * half l ≤ room l
  two : 2 ≤ half l

step : (l : ℕ) → l < 3 → Step l
step zero lt = record { grows = omega arith; entries = omega arith; fits = omega arith; sizes = omega arith; size_fits = omega arith; cross_fits = omega arith; up = omega arith; halves = omega arith; rooms = omega arith; two = omega arith }
step (suc zero) lt = record { grows = omega arith; entries = omega arith; fits = omega arith; sizes = omega arith; size_fits = omega arith; cross_fits = omega arith; up = omega arith; halves = omega arith; rooms = omega arith; two = omega arith }
step (suc (suc zero)) lt = record { grows = omega arith; entries = omega arith; fits = omega arith; sizes = omega arith; size_fits = omega arith; cross_fits = omega arith; up = omega arith; halves = omega arith; rooms = omega arith; two = omega arith }
step (suc (suc (suc l))) lt = absurd (omega arith)

room_limit : (l : ℕ) → room l ≤ LIMIT
room_limit zero = omega arith
room_limit (suc zero) = omega arith
room_limit (suc (suc zero)) = omega arith
room_limit (suc (suc (suc l))) = omega arith

abbrev pub remaining : ℕ → ℕ → List Made → ℕ
remaining zero k rs = 0
remaining (suc n) k rs = one_if (has_variable k rs) + remaining n (suc k) rs

-- the rows without the first k variables, where so many of the later ones occur
record Stage (k l : ℕ) (start : List Made) : Type 0 where
  most : l ≤ 3
  fits : LevelFits k start
  within : AllByRecursion (MadeWithin (entry l)) (level k start)
  few : length (level k start) ≤ room l

-- one variable more
next_stage : (k l m : ℕ) (start : List Made) (t : Bool) → has_variable k start ≡ t → m ≡ one_if t + l → Stage k m start → Stage (suc k) l start
next_stage k l m start true o e h =
    let rs = level k start in
    let top = h.most in
    let s = step l (omega arith) in
    let is : m ≡ suc l = omega arith in
    let within = subst (λ (n : ℕ). AllByRecursion (MadeWithin (entry n)) rs) is h.within in
    let few = subst (λ (n : ℕ). length rs ≤ room n) is h.few in
    let count = eliminated_room k rs (half l) s.two (omega (arith, s.halves)) in
    let limit = room_limit l in
    record {
      most = omega arith;
      fits = (h.fits, (all_pairs_fit (entry (suc l)) k rs rs s.fits within within, omega (arith, s.rooms)));
      within = eliminated_within (entry (suc l)) (entry l) k rs s.grows s.entries within;
      few = omega (arith, s.rooms);
    }
next_stage k l m start false o e h =
    let rs = level k start in
    let is : m ≡ l = omega arith in
    let free = free_level k k start (all_free k start o) in
    let same = free_made k rs free in
    let few = subst (λ (n : ℕ). length rs ≤ room n) is h.few in
    let limit = room_limit l in
    record {
      most = subst (λ (n : ℕ). n ≤ 3) is h.most;
      fits = (h.fits, free_fits k rs free (omega arith));
      within = subst (AllByRecursion (MadeWithin (entry l))) (sym same) (subst (λ (n : ℕ). AllByRecursion (MadeWithin (entry n)) rs) is h.within);
      few = subst (λ (z : List Made). length z ≤ room l) (sym same) few;
    }

module _ (w : ℕ) (start : List Made) (first : Stage zero (remaining w zero start) start) where
  stage : (k n : ℕ) → k + n ≡ w → Stage k (remaining n k start) start
  stage zero n e = let is : w ≡ n = omega arith in subst (λ (m : ℕ). Stage zero (remaining m zero start) start) is first
  stage (suc k) n e = next_stage k (remaining n (suc k) start) (remaining (suc n) k start) start (has_variable k start) refl refl (stage k (suc n) (omega arith))

  -- a point of the later rows, taken back over one variable
  over_one : (k l m : ℕ) (p : Point) (t : Bool) → has_variable k start ≡ t → m ≡ one_if t + l → length p.numerators ≤ 63 → Stage k m start → PointWithin (size l) p →
      PlacedFits k (level k start) p × PointWithin (size m) (placed k (level k start) p)
  over_one k l m p true o e long h g =
      let top = h.most in
      let s = step l (omega arith) in
      let is : m ≡ suc l = omega arith in
      subst (λ (n : ℕ). PlacedFits k (level k start) p × PointWithin (size n) (placed k (level k start) p)) (sym is)
      (placed_fits (entry (suc l)) (size l) (size (suc l)) k p s.sizes s.size_fits s.cross_fits long g (level k start) s.up
      (subst (λ (n : ℕ). AllByRecursion (MadeWithin (entry n)) (level k start)) is h.within))
  over_one k l m p false o e long h g =
      let is : m ≡ l = omega arith in
      let q = free_placed k (level k start) p (free_level k k start (all_free k start o)) in
      (q.0, subst (PointWithin (size m)) (sym q.1) (subst (λ (n : ℕ). PointWithin (size n) p) (sym is) g))

  back_fits : (k n : ℕ) (p : Point) → k + n ≡ w → w ≤ 63 → IsFrom w k p → PointWithin (size (remaining n k start)) p → BackFits k start p
  back_fits zero n p e long h g = tt
  back_fits (suc k) n p e long h g =
      let wide = h.long in
      let one = over_one k (remaining n (suc k) start) (remaining (suc n) k start) p (has_variable k start) refl refl (omega arith) (stage k (suc n) (omega arith)) g in
      (one.0, back_fits k (suc n) (placed k (level k start) p) (omega arith) long (placed_from w k (level k start) p (omega arith) h) one.1)

  origin_fits : w ≤ 63 → BackFits w start (origin w)
  origin_fits long = back_fits w zero (origin w) (omega arith) long (origin_from w w) record { numerators = zeros_within 1 w; denominator = omega (arith, ints) }

  all_levels : Stage w zero start
  all_levels = stage w zero (omega arith)

first_stage : (l : ℕ) (start : List Made) → l ≤ 3 → AllByRecursion (MadeWithin (entry 3)) start → length start ≤ room 3 → Stage zero l start
first_stage l start le h few = record { most = le; fits = tt; within = all_more (entry 3) (entry l) start (smaller l le).0 h; few = let m = (smaller l le).1 in omega arith }
  where
    smaller : (l : ℕ) → l ≤ 3 → (entry 3 ≤ entry l) × (room 3 ≤ room l)
    smaller zero le = (omega arith, omega arith)
    smaller (suc zero) le = (omega arith, omega arith)
    smaller (suc (suc zero)) le = (omega arith, omega arith)
    smaller (suc (suc (suc l))) le = (omega arith, omega arith)

    all_more : (m n : ℕ) (rs : List Made) → m ≤ n → AllByRecursion (MadeWithin m) rs → AllByRecursion (MadeWithin n) rs
    all_more m n [] le h = tt
    all_more m n (r ∷ rs) le h = (made_more m n r le h.0, all_more m n rs le h.1)

-- all that is computed for modest rows
pub record Modestly (w : ℕ) (start : List Made) : Type 0 where
  pub levels : LevelFits w start
  pub point : BackFits w start (origin w)
  pub multipliers : (ms : List ℤ) → contradiction_of (level w start) ≡ Some ms → AreWithin (2 ^ 87) ms

pub modest_fits : (w : ℕ) (start : List Made) → w ≤ 63 → remaining w zero start ≤ 3 → AllByRecursion (MadeWithin (entry 3)) start → length start ≤ room 3 → Modestly w start
modest_fits w start long le h few =
    let first = first_stage (remaining w zero start) start le h few in
    let last = all_levels w start first in
    record {
      levels = last.fits;
      point = origin_fits w start first long;
      multipliers = λ ms e. first_has (MadeWithin (2 ^ 87)) (AreWithin (2 ^ 87)) (λ r g _. g.multipliers) ms (level w start) last.within e;
    }
