-- What is read is kept: a certificate with its sizes and within the limits is one that the code may hold and that has a text, and the other way
-- round.
use Rattle.std.proofs.Common.{◌≤◌, ℕ, List, [], ◌∷◌, length, arith}
use Rattle.std.specs.List.{AllByRecursion}
use Rattle.pc_rows.specs.declared.system.TheConstants.{PREMISES}
use Rattle.pc_rows.specs.Linear.{Linear, IsOver, IsRow}
use Rattle.pc_rows.specs.Joins.{IsRows}
use Rattle.pc_rows.specs.Evidence.{IsProof}
use Rattle.pc_certificate.specs.declared.certificate.Annotated.{Annotated}
use Rattle.pc_certificate.specs.Certificate.{Certificate, IsAnnotation, IsAnnotated, IsShowable, IsCertificate}
use Rattle.pc_json.specs.Kept.{IsRowOver, AreRowsOver, AreProofs, IsAlternative, IsKept}

module _ {X : Type 0} (P Q R : X → Type 0) where
  pub each_to : ((x : X) → P x → Q x) → (xs : List X) → AllByRecursion P xs → AllByRecursion Q xs
  each_to f [] h = tt
  each_to f (x ∷ xs) h = (f x h.0, each_to f xs h.1)

  pub each_both : ((x : X) → P x → Q x → R x) → (xs : List X) → AllByRecursion P xs → AllByRecursion Q xs → AllByRecursion R xs
  each_both f [] h g = tt
  each_both f (x ∷ xs) h g = (f x h.0 g.0, each_both f xs h.1 g.1)

rows_kept : (v : ℕ) (rows : List Linear) → AreRowsOver v rows → IsRows rows
rows_kept v rows h = record { most = h.0; each = each_to (IsRowOver v) IsRow IsRow (λ r g. g.0) rows h.1 }

rows_over : (v : ℕ) (rows : List Linear) → AreRowsOver v rows → AllByRecursion (IsOver v) rows
rows_over v rows h = each_to (IsRowOver v) (IsOver v) (IsOver v) (λ r g. g.1) rows h.1

both_rows : (v : ℕ) (rows : List Linear) → AllByRecursion (IsOver v) rows → IsRows rows → AreRowsOver v rows
both_rows v rows over h = (h.most, each_both (IsOver v) IsRow (IsRowOver v) (λ r o k. (k, o)) rows over h.each)

module _ (points edges variables : ℕ) where
  annotated : (a : Annotated) → IsAlternative points edges variables a → IsAnnotated a
  annotated a h = record {
    rows = each_to (AreRowsOver variables) IsRows IsRows (rows_kept variables) a.rows h.0.1;
    proofs = each_to AreProofs (AllByRecursion IsProof) (AllByRecursion IsProof) (λ ps g. g.1) a.proofs h.1.1;
  }

  annotation : (a : Annotated) → IsAlternative points edges variables a → IsAnnotation points edges variables a
  annotation a h = record {
    rows = h.0.0;
    proofs = h.1.0;
    over = each_to (AreRowsOver variables) (AllByRecursion (IsOver variables)) IsRows (rows_over variables) a.rows h.0.1;
    few = each_to AreProofs (λ ps. length ps ≤ PREMISES) AreProofs (λ ps g. g.0) a.proofs h.1.1;
  }

  alternative : (a : Annotated) → IsAnnotation points edges variables a → IsAnnotated a → IsAlternative points edges variables a
  alternative a h g = (
    (h.rows, each_both (AllByRecursion (IsOver variables)) IsRows (AreRowsOver variables) (both_rows variables) a.rows h.over g.rows),
    (h.proofs, each_both (λ ps. length ps ≤ PREMISES) (AllByRecursion IsProof) AreProofs (λ ps few each. (few, each)) a.proofs h.few g.proofs),
  )

pub is_certificate : (c : Certificate) → IsKept c → IsCertificate c
is_certificate c h = record {
  few = omega (arith, h.each.0);
  each = each_to (IsAlternative c.points c.edges c.variables) IsAnnotated IsAnnotated (annotated c.points c.edges c.variables) c.alternatives h.each.1;
}

pub is_showable : (c : Certificate) → IsKept c → IsShowable c
is_showable c h = record {
  points = h.points;
  edges = h.edges;
  variables = h.variables;
  few = h.each.0;
  each = each_to (IsAlternative c.points c.edges c.variables) (IsAnnotation c.points c.edges c.variables) IsAnnotated (annotation c.points c.edges c.variables) c.alternatives h.each.1;
}

pub is_kept : (c : Certificate) → IsCertificate c → IsShowable c → IsKept c
is_kept c h g = record {
  points = g.points;
  edges = g.edges;
  variables = g.variables;
  each = (g.few, each_both (IsAnnotation c.points c.edges c.variables) IsAnnotated (IsAlternative c.points c.edges c.variables) (alternative c.points c.edges c.variables) c.alternatives g.each h.each);
}
