-- Combinations of rows whose numbers are small.
use Rattle.std.proofs.Common.{ℕ, ℤ, ◌+◌, ◌*◌, ◌^◌, ◌≤◌, ◌<◌, neg_ℤ, arith, List, [], ◌∷◌}
use Rattle.std.specs.List.{AllByRecursion}
use Rattle.pc_rows.specs.Linear.{Linear, IsInRange, scale_list, sum_of, scaled_by}
use Rattle.pc_rows.specs.Bounds.{IsWithin, AreWithin, Within}
use Rattle.pc_rows.proofs.Bounding.{product_within, sum_within, opposite_within, within_in_range, all_in_range, more_within, scale_within, add_within, at_within}
use Rattle.pc_elim.specs.Elimination.{Made, factor, combine, eliminated}
use Rattle.pc_elim.specs.Fits.{CombineFits, PairFits, AllPairsFit}
use Rattle.pc_elim.proofs.Making.{made_all}

pub record MadeWithin (m : ℕ) (r : Made) : Type 0 where
  pub row : Within m r.row
  pub multipliers : AreWithin m r.multipliers

-- rows

pub scaled_within : (m n : ℕ) (k : ℤ) (r : Linear) → IsWithin m k → Within n r → Within (m * n) (scaled_by k r)
scaled_within m n k r h g = record {
  constant = product_within m n k r.constant h g.constant;
  coefficients = scale_within m n k r.coefficients h g.coefficients;
}

pub row_sum_within : (m n : ℕ) (a b : Linear) → Within m a → Within n b → Within (m + n) (sum_of a b)
row_sum_within m n a b h g = record {
  constant = sum_within m n a.constant b.constant h.constant g.constant;
  coefficients = add_within m n a.coefficients b.coefficients h.coefficients g.coefficients;
}

pub row_in_range : (m : ℕ) (r : Linear) → m < 2 ^ 127 → Within m r → IsInRange r
row_in_range m r lt h = (within_in_range m r.constant lt h.constant, all_in_range m r.coefficients lt h.coefficients)

pub row_more : (m n : ℕ) (r : Linear) → m ≤ n → Within m r → Within n r
row_more m n r le h = record { constant = omega (arith, h.constant); coefficients = more_within m n r.coefficients le h.coefficients }

-- rows with their multipliers

pub factor_within : (m k : ℕ) (r : Made) → MadeWithin m r → IsWithin m (factor r k)
factor_within m k r h = at_within m r.row.coefficients k h.row.coefficients

combine_within : (m k : ℕ) (p n : Made) → MadeWithin m p → MadeWithin m n → MadeWithin (m * m + m * m) (combine k p n)
combine_within m k p n h g =
    let b = opposite_within m (factor n k) (factor_within m k n g) in
    let a = factor_within m k p h in
    record {
      row = row_sum_within (m * m) (m * m) (scaled_by (neg_ℤ (factor n k)) p.row) (scaled_by (factor p k) n.row)
          (scaled_within m m (neg_ℤ (factor n k)) p.row b h.row) (scaled_within m m (factor p k) n.row a g.row);
      multipliers = add_within (m * m) (m * m) (scale_list (neg_ℤ (factor n k)) p.multipliers) (scale_list (factor p k) n.multipliers)
          (scale_within m m (neg_ℤ (factor n k)) p.multipliers b h.multipliers) (scale_within m m (factor p k) n.multipliers a g.multipliers);
    }

combine_fits : (m k : ℕ) (p n : Made) → m * m + m * m < 2 ^ 127 → MadeWithin m p → MadeWithin m n → CombineFits k p n
combine_fits m k p n lt h g =
    let b = opposite_within m (factor n k) (factor_within m k n g) in
    let a = factor_within m k p h in
    let w = combine_within m k p n h g in
    let single : m * m < 2 ^ 127 = omega arith in
    record {
      row = record {
        left = row_in_range (m * m) (scaled_by (neg_ℤ (factor n k)) p.row) single (scaled_within m m (neg_ℤ (factor n k)) p.row b h.row);
        right = row_in_range (m * m) (scaled_by (factor p k) n.row) single (scaled_within m m (factor p k) n.row a g.row);
        sum = row_in_range (m * m + m * m) (combine k p n).row lt w.row;
      };
      multipliers = record {
        left = all_in_range (m * m) (scale_list (neg_ℤ (factor n k)) p.multipliers) single (scale_within m m (neg_ℤ (factor n k)) p.multipliers b h.multipliers);
        right = all_in_range (m * m) (scale_list (factor p k) n.multipliers) single (scale_within m m (factor p k) n.multipliers a g.multipliers);
        sum = all_in_range (m * m + m * m) (combine k p n).multipliers lt w.multipliers;
      };
    }

pairs_fit : (m k : ℕ) (p : Made) (ns : List Made) → m * m + m * m < 2 ^ 127 → MadeWithin m p → AllByRecursion (MadeWithin m) ns → AllByRecursion (PairFits k p) ns
pairs_fit m k p [] lt h g = tt
pairs_fit m k p (n ∷ ns) lt h g = (λ _. combine_fits m k p n lt h g.0, pairs_fit m k p ns lt h g.1)

pub all_pairs_fit : (m k : ℕ) (all rs : List Made) → m * m + m * m < 2 ^ 127 → AllByRecursion (MadeWithin m) all → AllByRecursion (MadeWithin m) rs → AllByRecursion (AllPairsFit k all) rs
all_pairs_fit m k all [] lt h g = tt
all_pairs_fit m k all (r ∷ rs) lt h g = (λ _. pairs_fit m k r all lt g.0 h, all_pairs_fit m k all rs lt h g.1)

pub made_more : (m n : ℕ) (r : Made) → m ≤ n → MadeWithin m r → MadeWithin n r
made_more m n r le h = record { row = row_more m n r.row le h.row; multipliers = more_within m n r.multipliers le h.multipliers }

pub eliminated_within : (m n k : ℕ) (rs : List Made) → m ≤ n → m * m + m * m ≤ n → AllByRecursion (MadeWithin m) rs → AllByRecursion (MadeWithin n) (eliminated k rs)
eliminated_within m n k rs le le' h = made_all k (MadeWithin m) (MadeWithin n)
    (λ r g _. made_more m n r le g)
    (λ p q a b _ _. made_more (m * m + m * m) n (combine k p q) le' (combine_within m k p q a b))
    rs h
