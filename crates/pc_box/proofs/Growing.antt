-- How far the bounds of boxes grow on the way back: over an edge by a form's constant and an end of a choice.
use Rattle.std.proofs.Common.{ℕ, ◌+◌, ℤ, ◌+ℤ◌, Bool, true, false, cond, Option, Some, None, arith}
use Rattle.std.proofs.lemmas.Int.{ints}
use Rattle.pc_language.specs.Ends.{end_of}
use Rattle.pc_rows.specs.Bounds.{IsWithin, Within}
use Rattle.pc_rows.specs.Laws.{EndIsWithin}
use Rattle.pc_rows.specs.Linear.{Linear, in_range}
use Rattle.pc_rows.specs.Readers.{terms_of}
use Rattle.pc_flow.specs.declared.what.What.{What}
use Rattle.pc_flow.specs.declared.what.What.TheVariants.{Enter, Test, Set, Check}
use Rattle.pc_box.specs.declared.form.Side.{Side}
use Rattle.pc_box.specs.declared.form.Side.TheVariants.{Least, Greatest}
use Rattle.pc_box.specs.Intervals.{free}
use Rattle.pc_box.specs.Boxes.{Bounded, Box, interval_at}
use Rattle.pc_box.specs.Forms.{kept, plus_choice}
use Rattle.pc_box.specs.Backward.{distance, gap, asked, freed, before_set, before_of}
use Rattle.pc_box.specs.Exact.{small_bound, HasSmallNumbers}
use Rattle.pc_box.proofs.Walks.{terms_are_some}
use Rattle.pc_box.proofs.Small.{AreSmall, BoxIsSmall, box_more, put_small, claimed_rows_small, cut_form_small, before_enter_small}

kept_within : (k : ℕ) (z : ℤ) → IsWithin k z → EndIsWithin k (kept z)
kept_within k z h = by (in_range z)
  where
    by : (t : Bool) → EndIsWithin k (cond t (Some z) None)
    by true = h
    by false = tt

pub distance_within : (a m : ℕ) (side : Side) (c n : ℤ) → IsWithin a c → IsWithin m n → IsWithin (m + a) (distance side c n)
distance_within a m Least c n h g = omega (arith, ints)
distance_within a m Greatest c n h g = omega (arith, ints)

pub sum_small : (a : ℕ) (c e : ℤ) → IsWithin a c → IsWithin a e → IsWithin (a + a) (c +ℤ e)
sum_small a c e h g = omega (arith, ints)

gap_within : (a m : ℕ) (side : Side) (c : ℤ) (choice : Option ℤ) (n : ℤ) → IsWithin a c → EndIsWithin a choice → IsWithin m n → EndIsWithin (m + (a + a)) (gap side (plus_choice (Some c) choice) n)
gap_within a m side c None n h end g = tt
gap_within a m side c (Some e) n h end g = by (in_range (c +ℤ e))
  where
    by : (t : Bool) → EndIsWithin (m + (a + a)) (gap side (cond t (Some (c +ℤ e)) None) n)
    by true = kept_within (m + (a + a)) (distance side (c +ℤ e) n) (distance_within (a + a) m side (c +ℤ e) n (sum_small a c e h end) g)
    by false = tt

module _ (m : ℕ) where
  asked_small : (a : ℕ) (side : Side) (b : Box) (form : Linear) (choice wanted : Option ℤ) → Within a form → EndIsWithin a choice → EndIsWithin m wanted → BoxIsSmall (m + (a + a)) b →
      BoxIsSmall (m + (a + a)) (asked side b form choice wanted)
  asked_small a side b form choice None h end w all = all
  asked_small a side b form choice (Some n) h end w all =
      cut_form_small (m + (a + a)) side b (gap side (plus_choice (Some form.constant) choice) n) (terms_of form) (terms_are_some form) (gap_within a m side form.constant choice n h.constant end w) all

  before_set_small : (a : ℕ) (b : Bounded) (x : ℕ) (form : Linear) (lo hi : Option ℤ) → Within a form → EndIsWithin a lo → EndIsWithin a hi → AreSmall m b.intervals →
      BoxIsSmall (m + (a + a)) (before_set b x form lo hi)
  before_set_small a b x form lo hi h low high all =
      asked_small a Greatest (asked Least (Some (freed b x)) form lo (interval_at b.intervals x).least) form hi (interval_at b.intervals x).greatest h high (all x).1
      (asked_small a Least (Some (freed b x)) form lo (interval_at b.intervals x).least h low (all x).0
      (put_small (m + (a + a)) b.intervals x free (box_more m (m + (a + a)) (Some b) (omega arith) all) (tt, tt)))

  pub before_small : (w : What) (b : Box) → HasSmallNumbers w → BoxIsSmall m b → BoxIsSmall (m + (small_bound + small_bound)) (before_of w b)
  before_small w None h all = tt
  before_small (Enter params) (Some b) h all = before_enter_small (m + (small_bound + small_bound)) params b (box_more m (m + (small_bound + small_bound)) (Some b) (omega arith) all)
  before_small (Test rows) (Some b) h all = box_more m (m + (small_bound + small_bound)) (Some b) (omega arith) all
  before_small (Set x form lo hi) (Some b) h all = before_set_small small_bound b x form (end_of lo) (end_of hi) h.0 h.1 h.2 all
  before_small (Check rows) (Some b) h all =
      claimed_rows_small (m + (small_bound + small_bound)) small_bound (Some b) rows (omega arith) h (box_more m (m + (small_bound + small_bound)) (Some b) (omega arith) all)
