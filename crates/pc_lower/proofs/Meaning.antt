-- The need is the one annotation that is meant.
use Rattle.std.proofs.Common.{◌≡◌, ◌∙◌, ℕ, zero, suc, ◌+◌, ◌<◌, ◌≤◌, List, [], ◌∷◌, length, sym, refl, ap, cond, Bool, true, false, arith, inl, inr}
use Rattle.std.specs.Prelude.{◌⊎◌}
use Rattle.std.specs.List.{AllByRecursion as Each}
use Rattle.std.proofs.lemmas.List.{get_or_past, ext_get_or}
use Rattle.pc_rows.specs.Linear.{Linear}
use Rattle.pc_flow.specs.declared.point.PointInfo.{PointInfo}
use Rattle.pc_flow.specs.Arc.{Arc}
use Rattle.pc_flow.specs.Flow.{Flow}
use Rattle.pc_flow.specs.Shape.{NoHeads, LeadsUp}
use Rattle.pc_flow.specs.Annotation.{rows_at}
use Rattle.pc_lower.specs.Annotation.{is_head}
use Rattle.pc_flow.specs.Incidence.{leaving}
use Rattle.pc_lower.specs.Need.{gathered, needed_at, at_heads, filled_below, need, IsNeed}
use Rattle.pc_lower.specs.Laws.{NeedIsMeant, NeedIsFree}
use Rattle.pc_lower.proofs.Agreeing.{agree_leaving, gathered_alike, each_leaving}
use Rattle.pc_lower.proofs.Filling.{below_long, below_heads, below_needed}

abbrev Rows : Type 0
Rows = List (List Linear)

-- the rows that are given

pub heads_long : (points : List PointInfo) (heads : Rows) → length (at_heads points heads) ≡ length points
heads_long [] heads = refl
heads_long (point ∷ points) [] = ap suc (heads_long points [])
heads_long (point ∷ points) (rows ∷ heads) = ap suc (heads_long points heads)

given : (points : List PointInfo) (heads : Rows) (p : ℕ) → is_head points p ≡ true → rows_at (at_heads points heads) p ≡ rows_at heads p
given [] heads p h = absurd (cc)
given (point ∷ points) [] zero h = refl
given (point ∷ points) [] (suc p) h = given points [] p h
given (point ∷ points) (rows ∷ heads) zero h = ap (λ (t : Bool). cond t rows []) h
given (point ∷ points) (rows ∷ heads) (suc p) h = given points heads p h

-- no edge leaves what is no point
pub none_leave : (points : List PointInfo) (variables p : ℕ) (edges : List Arc) → Each (λ e. (e.from ≡ p) × LeadsUp points variables e) edges → length points ≤ p → edges ≡ []
none_leave points variables p [] h le = refl
none_leave points variables p (e ∷ edges) h le = let from = h.0.0 in let within = h.0.1.leaves in absurd (omega arith)

pub nothing_needed : (points : List PointInfo) (variables p : ℕ) (edges : List Arc) (a : ℕ → List Linear) → Each (LeadsUp points variables) edges → length points ≤ p → needed_at edges a p ≡ []
nothing_needed points variables p edges a leads le =
    ap (gathered a []) (none_leave points variables p (leaving p edges) (each_leaving (LeadsUp points variables) p edges leads) le)

module _ (g : Flow) (leads : Each (LeadsUp g.points g.variables) g.edges) where
  pub need_long : (heads : Rows) → length (need g heads) ≡ length g.points
  need_long heads = below_long g (length g.points) (at_heads g.points heads) ∙ heads_long g.points heads

  need_given : (heads : Rows) (p : ℕ) → is_head g.points p ≡ true → rows_at (need g heads) p ≡ rows_at heads p
  need_given heads p h = below_heads g (length g.points) p (at_heads g.points heads) h ∙ given g.points heads p h

  past : (a : Rows) (p : ℕ) → length a ≤ p → rows_at a p ≡ []
  past a p le = get_or_past a p [] le

  need_needed : (heads : Rows) (p : ℕ) → is_head g.points p ≡ false → rows_at (need g heads) p ≡ needed_at g.edges (rows_at (need g heads)) p
  need_needed heads p h = by (let either : (p < length g.points) ⊎ (length g.points ≤ p) = grind arith in either)
    where
      by : (p < length g.points) ⊎ (length g.points ≤ p) → rows_at (need g heads) p ≡ needed_at g.edges (rows_at (need g heads)) p
      by (inl lt) = below_needed g leads (length g.points) p (at_heads g.points heads) lt (let e = heads_long g.points heads in omega arith) h
      by (inr le) =
          past (need g heads) p (let e = need_long heads in omega arith) ∙ sym (nothing_needed g.points g.variables p g.edges (rows_at (need g heads)) leads le)

  pub need_is : (heads : Rows) → IsNeed g heads (need g heads)
  need_is heads = record { long = need_long heads; given = need_given heads; needed = need_needed heads }

  -- two annotations that are meant have the same rows, from the greatest point down
  module _ (heads a b : Rows) (is : IsNeed g heads a) (also : IsNeed g heads b) where
    same_from : (n q : ℕ) → length g.points ≤ q + n → rows_at a q ≡ rows_at b q
    same_from zero q le = past a q (let e = is.long in omega arith) ∙ sym (past b q (let e = also.long in omega arith))
    same_from (suc n) q le = by (is_head g.points q) refl (λ p lt. same_from n p (omega arith))
      where
        by : (t : Bool) → is_head g.points q ≡ t → ((p : ℕ) → q < p → rows_at a p ≡ rows_at b p) → rows_at a q ≡ rows_at b q
        by true h above = is.given q h ∙ sym (also.given q h)
        by false h above =
            is.needed q h
            ∙ gathered_alike (rows_at a) (rows_at b) [] (leaving q g.edges)
            (agree_leaving g.points g.variables q (rows_at a) (rows_at b) g.edges leads (record { above = above; heads = λ p k. is.given p k ∙ sym (also.given p k) }))
            ∙ sym (also.needed q h)

    pub same_need : a ≡ b
    same_need = ext_get_or [] a b (is.long ∙ sym also.long) (λ q lt. same_from (length g.points) q (omega arith))

pub need_is_meant : NeedIsMeant
need_is_meant g heads is =
    record { is = need_is g is.leads heads; only = λ a h. same_need g is.leads heads a (need g heads) h (need_is g is.leads heads) }

-- without heads

no_heads_given : (points : List PointInfo) (heads others : Rows) → NoHeads points → at_heads points heads ≡ at_heads points others
no_heads_given [] heads others h = refl
no_heads_given (point ∷ points) heads others h = first heads ∙ ap (λ (z : Rows). [] ∷ z) (no_heads_given points (rest heads) (rest others) h.1) ∙ sym (first others)
  where
    rest : Rows → Rows
    rest [] = []
    rest (rows ∷ more) = more

    first : (given : Rows) → at_heads (point ∷ points) given ≡ [] ∷ at_heads points (rest given)
    first [] = refl
    first (rows ∷ more) = ap (λ (t : Bool). cond t rows [] ∷ at_heads points more) h.0

pub need_is_free : NeedIsFree
need_is_free g heads others none = ap (λ (z : Rows). filled_below g (length g.points) z) (no_heads_given g.points heads others none)
