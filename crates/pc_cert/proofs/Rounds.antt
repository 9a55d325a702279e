-- An alternative more.
use Rattle.std.proofs.Common.{◌≡◌, ◌∙◌, refl, ap, sym, ℕ, zero, suc, ◌+◌, Bool, true, false, cond, List, [], ◌∷◌, ◌++◌, Result, Ok, Err}
use Rattle.pc_certificate.specs.declared.certificate.Annotated.{Annotated}
use Rattle.pc_lines.specs.declared.sizes.Sizes.{Sizes}
use Rattle.pc_lines.specs.declared.fault.CertFault.{CertFault}
use Rattle.pc_lines.specs.Readers.{◌>>=◌, Unread}
use Rattle.pc_cert.specs.Readers.{annotated_reader, begins, alternatives_reader}
use Rattle.pc_lines.proofs.Repeats.{behind, behind_cons}

-- what is read behind a line that may begin an alternative
next : Sizes → ℕ → ℕ → Result (Bool × Unread) CertFault → Result (List Annotated × Unread) CertFault
next z n k r = r >>= (λ more. cond more.0 (annotated_reader z more.1 >>= (λ a. alternatives_reader z (n + 1) k a.1 >>= (λ others. Ok (a.0 ∷ others.0, others.1)))) (Ok ([], more.1)))

reader_suc : (z : Sizes) (n k : ℕ) (s : Unread) → alternatives_reader z n (suc k) s ≡ next z n k (begins n s)
unfolding alternatives_reader next
reader_suc z n k s = refl

reader_none : (z : Sizes) (n : ℕ) (s : Unread) → alternatives_reader z n zero s ≡ (begins n s >>= (λ more. Ok ([], more.1)))
unfolding alternatives_reader
reader_none z n s = refl

module _ (z : Sizes) (n : ℕ) (s : Unread) where
  pub begins_fault : (k : ℕ) (f : CertFault) → begins n s ≡ Err f → alternatives_reader z n k s ≡ Err f
  unfolding next
  begins_fault zero f e = reader_none z n s ∙ ap (λ r. r >>= (λ more. Ok ([], more.1))) e
  begins_fault (suc k) f e = reader_suc z n k s ∙ ap (next z n k) e

  pub ends : (k : ℕ) (left : Unread) → begins n s ≡ Ok (false, left) → alternatives_reader z n k s ≡ Ok ([], left)
  unfolding next
  ends zero left e = reader_none z n s ∙ ap (λ r. r >>= (λ more. Ok ([], more.1))) e
  ends (suc k) left e = reader_suc z n k s ∙ ap (next z n k) e

  goes_on : (k : ℕ) (left : Unread) → begins n s ≡ Ok (true, left) →
      alternatives_reader z n (suc k) s ≡ (annotated_reader z left >>= (λ a. alternatives_reader z (n + 1) k a.1 >>= (λ others. Ok (a.0 ∷ others.0, others.1))))
  unfolding next
  goes_on k left e = reader_suc z n k s ∙ ap (next z n k) e

  pub annotated_fault : (k : ℕ) (left : Unread) (f : CertFault) → begins n s ≡ Ok (true, left) → annotated_reader z left ≡ Err f → alternatives_reader z n (suc k) s ≡ Err f
  annotated_fault k left f e g = goes_on k left e ∙ ap (λ r. r >>= (λ a. alternatives_reader z (n + 1) k a.1 >>= (λ others. Ok (a.0 ∷ others.0, others.1)))) g

  pub one_more : (k : ℕ) (left behind_it : Unread) (a : Annotated) (found all : List Annotated) → begins n s ≡ Ok (true, left) → annotated_reader z left ≡ Ok (a, behind_it) → all ≡ found ++ a ∷ [] →
      behind all (alternatives_reader z (n + 1) k behind_it) ≡ behind found (alternatives_reader z n (suc k) s)
  one_more k left behind_it a found all e g h =
      ap (λ as'. behind as' (alternatives_reader z (n + 1) k behind_it)) h
      ∙ behind_cons found a (alternatives_reader z (n + 1) k behind_it)
      ∙ sym (ap (behind found) (goes_on k left e ∙ ap (λ r. r >>= (λ a. alternatives_reader z (n + 1) k a.1 >>= (λ others. Ok (a.0 ∷ others.0, others.1)))) g))
