-- Rows that are in range with their negations.
use Rattle.std.proofs.Common.{◌≡◌, Bool, false, refl, sym, ◌∙◌, ap, Result, Ok, Err}
use Rattle.std.specs.Prelude.{is_ok, OkIff}
use Rattle.pc_rows.specs.Linear.{Linear, IsInRange, is_in_range, negation}
use Rattle.pc_rows.specs.declared.number.Past.{Past}
use Rattle.pc_rows.proofs.Ranges.{to_test, to_not_test}
use Rattle.pc_program.specs.Forms.{row_fits}

pub ok_is : (r : Result Linear Past) (z : Linear) → OkIff r (IsInRange z) z → is_ok r ≡ is_in_range z
ok_is (Ok r) z h = sym (to_test z h.0)
ok_is (Err e) z h = sym (to_not_test z h)

pub ok_fits_both : (r z : Linear) (b : Bool) → IsInRange z × (r ≡ z) → b ≡ is_in_range (negation r) → b ≡ row_fits z
ok_fits_both r z b h e = rw (to_test z h.0) (e ∙ ap (λ (q : Linear). is_in_range (negation q)) h.1)

pub err_fits_none : (z : Linear) → (IsInRange z → ⊥) → false ≡ row_fits z
err_fits_none z h = rw (to_not_test z h) refl
