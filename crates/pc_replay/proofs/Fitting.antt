-- The tests for what has to be in range say what is meant.
use Rattle.std.proofs.Common.{◌≡◌, Option, Some, None, ℕ, ℤ, pos, ◌+ℤ◌, ◌*ℤ◌, List, [], ◌∷◌, true, refl}
use Rattle.std.specs.Prelude.{◌&&◌, ◌||◌, slice_set}
use Rattle.std.specs.Bool.{MatchBool}
use Rattle.std.specs.List.{list_all}
use Rattle.std.proofs.lemmas.Bool.{and_from, and_parts}
use Rattle.pc_rows.specs.declared.proof.Part.{Part}
use Rattle.pc_rows.specs.Linear.{Linear, in_range, is_in_range, coefficient, is_zero, add_lists, scale_list, sum_of, scaled_by, negation}
use Rattle.pc_rows.specs.Substitution.{least_product, needs_open_end, ProductFits, ConstantFits, CoefficientsFit, CarryFits, SubstituteFits}
use Rattle.pc_rows.specs.Evidence.{Proof}
use Rattle.pc_rows.specs.Shows.{times_premise, PartsFit, TotalFits}
use Rattle.pc_rows.proofs.Ranges.{in_is, is_in, to_test, from_test, in_all, all_in}
use Rattle.pc_language.specs.Ends.{end_of}
use Rattle.pc_flow.specs.declared.what.What.{What}
use Rattle.pc_flow.specs.declared.what.What.TheVariants.{Enter, Test, Set, Check}
use Rattle.pc_flow.specs.Carry.{BackFits}
use Rattle.pc_replay.specs.Ranges.{product_fits, constant_fits, coefficients_fit, substitute_fits, back_fits, parts_fit, total_fits}
use Rattle.pc_replay.proofs.Alls.{matched_if, if_matched}

product_in : (c : ℤ) (end : Option ℤ) → product_fits c end ≡ true → ProductFits c end
product_in c None h = tt
product_in c (Some end) h = is_in (c *ℤ end) h

in_product : (c : ℤ) (end : Option ℤ) → ProductFits c end → product_fits c end ≡ true
in_product c None h = refl
in_product c (Some end) h = in_is (c *ℤ end) h

constant_in : (c k f : ℤ) (lo hi : Option ℤ) → constant_fits c k f lo hi ≡ true → ConstantFits c k f lo hi
constant_in c k f lo hi h =
    let product = in_range (c *ℤ f) in
    let sum = in_range (k +ℤ c *ℤ f) in
    let low = product_fits c lo in
    let high = product_fits c hi in
    let whole = and_parts (product && sum && low && high) (in_range (k +ℤ c *ℤ f +ℤ least_product c lo hi)) h in
    let four = and_parts (product && sum && low) high whole.0 in
    let three = and_parts (product && sum) low four.0 in
    let two = and_parts product sum three.0 in
    record {
      product = is_in (c *ℤ f) two.0;
      sum = is_in (k +ℤ c *ℤ f) two.1;
      low = product_in c lo three.1;
      high = product_in c hi four.1;
      whole = is_in (k +ℤ c *ℤ f +ℤ least_product c lo hi) whole.1;
    }

in_constant : (c k f : ℤ) (lo hi : Option ℤ) → ConstantFits c k f lo hi → constant_fits c k f lo hi ≡ true
in_constant c k f lo hi h =
    let two = and_from (in_range (c *ℤ f)) (in_range (k +ℤ c *ℤ f)) (in_is (c *ℤ f) h.product) (in_is (k +ℤ c *ℤ f) h.sum) in
    let three = and_from _ (product_fits c lo) two (in_product c lo h.low) in
    let four = and_from _ (product_fits c hi) three (in_product c hi h.high) in
    and_from _ (in_range (k +ℤ c *ℤ f +ℤ least_product c lo hi)) four (in_is (k +ℤ c *ℤ f +ℤ least_product c lo hi) h.whole)

coefficients_in : (c : ℤ) (rs : List ℤ) (x : ℕ) (fs : List ℤ) → coefficients_fit c rs x fs ≡ true → CoefficientsFit c rs x fs
coefficients_in c rs x fs h =
    let g = and_parts (list_all in_range (scale_list c fs)) (list_all in_range (add_lists (scale_list c fs) (slice_set rs x (pos 0)))) h in
    record { products = in_all (scale_list c fs) g.0; sums = in_all (add_lists (scale_list c fs) (slice_set rs x (pos 0))) g.1 }

in_coefficients : (c : ℤ) (rs : List ℤ) (x : ℕ) (fs : List ℤ) → CoefficientsFit c rs x fs → coefficients_fit c rs x fs ≡ true
in_coefficients c rs x fs h = and_from _ _ (all_in (scale_list c fs) h.products) (all_in (add_lists (scale_list c fs) (slice_set rs x (pos 0))) h.sums)

substitute_in : (r : Linear) (x : ℕ) (form : Linear) (lo hi : Option ℤ) → substitute_fits r x form lo hi ≡ true → SubstituteFits r x form lo hi
substitute_in r x form lo hi h =
    let c = coefficient r x in
    let open_end = needs_open_end c lo hi in
    let constant = constant_fits c r.constant form.constant lo hi in
    let coefficients = coefficients_fit c r.coefficients x form.coefficients in
    matched_if (is_zero c) (open_end || (constant && coefficients)) (MatchBool open_end (Unit {0}) (CarryFits r x form lo hi))
    (λ e. matched_if open_end (constant && coefficients) (CarryFits r x form lo hi)
    (λ g.
    let k = and_parts constant coefficients g in
    record {
      constant = constant_in c r.constant form.constant lo hi k.0;
      coefficients = coefficients_in c r.coefficients x form.coefficients k.1;
    })
    e)
    h

in_substitute : (r : Linear) (x : ℕ) (form : Linear) (lo hi : Option ℤ) → SubstituteFits r x form lo hi → substitute_fits r x form lo hi ≡ true
in_substitute r x form lo hi h =
    let c = coefficient r x in
    let open_end = needs_open_end c lo hi in
    let constant = constant_fits c r.constant form.constant lo hi in
    let coefficients = coefficients_fit c r.coefficients x form.coefficients in
    if_matched (is_zero c) (open_end || (constant && coefficients)) (MatchBool open_end (Unit {0}) (CarryFits r x form lo hi))
    (λ e. if_matched open_end (constant && coefficients) (CarryFits r x form lo hi)
    (λ g. and_from constant coefficients (in_constant c r.constant form.constant lo hi g.constant) (in_coefficients c r.coefficients x form.coefficients g.coefficients))
    e)
    h

pub back_in : (w : What) (r : Linear) → back_fits w r ≡ true → BackFits w r
back_in (Enter params) r h = tt
back_in (Test rows) r h = tt
back_in (Set x form lo hi) r h = substitute_in r x form (end_of lo) (end_of hi) h
back_in (Check rows) r h = tt

pub in_back : (w : What) (r : Linear) → BackFits w r → back_fits w r ≡ true
in_back (Enter params) r h = refl
in_back (Test rows) r h = refl
in_back (Set x form lo hi) r h = in_substitute r x form (end_of lo) (end_of hi) h
in_back (Check rows) r h = refl

parts_in : (premises : List Linear) (sum : Linear) (ps : List Part) → parts_fit premises sum ps ≡ true → PartsFit premises sum ps
parts_in premises sum [] h = tt
parts_in premises sum (p ∷ ps) h =
    let product = times_premise premises p in
    let next = sum_of sum product in
    let g = and_parts (is_in_range product && is_in_range next) (parts_fit premises next ps) h in
    let k = and_parts (is_in_range product) (is_in_range next) g.0 in
    (from_test product k.0, from_test next k.1, parts_in premises next ps g.1)

in_parts : (premises : List Linear) (sum : Linear) (ps : List Part) → PartsFit premises sum ps → parts_fit premises sum ps ≡ true
in_parts premises sum [] h = refl
in_parts premises sum (p ∷ ps) h =
    let product = times_premise premises p in
    let next = sum_of sum product in
    and_from (is_in_range product && is_in_range next) (parts_fit premises next ps) (and_from (is_in_range product) (is_in_range next) (to_test product h.0) (to_test next h.1)) (in_parts premises next ps h.2)

pub total_in : (premises : List Linear) (goal : Linear) (p : Proof) → total_fits premises goal p ≡ true → TotalFits premises goal p
total_in premises goal p h =
    let start = scaled_by p.goal (negation goal) in
    let g = and_parts (is_in_range (negation goal) && is_in_range start) (parts_fit premises start p.parts) h in
    let k = and_parts (is_in_range (negation goal)) (is_in_range start) g.0 in
    record { negated_goal = from_test (negation goal) k.0; product = from_test start k.1; parts = parts_in premises start p.parts g.1 }

pub in_total : (premises : List Linear) (goal : Linear) (p : Proof) → TotalFits premises goal p → total_fits premises goal p ≡ true
in_total premises goal p h =
    let start = scaled_by p.goal (negation goal) in
    and_from (is_in_range (negation goal) && is_in_range start) (parts_fit premises start p.parts) (and_from (is_in_range (negation goal)) (is_in_range start) (to_test (negation goal) h.negated_goal) (to_test start h.product))
    (in_parts premises start p.parts h.parts)
