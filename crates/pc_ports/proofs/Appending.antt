use Rattle.std.proofs.Common.{ℕ, ◌+◌, ◌≤◌, inl, inr, List, ◌++◌, take, drop, sym, ap, ◌∙◌, arith, append_assoc, Option, Some, None}
use Rattle.std.proofs.Math.Seq.{take-add}
use Rattle.pc_ports.specs.Outside.{Appended, Rose}

-- after the first `d` bytes, `n` more of them make the first `d + n`
pub appended_more : (old mid new : Option (List ℕ)) (b : List ℕ) (d n : ℕ) → Appended old mid (take d b) → Appended mid new (take n (drop d b)) → Appended old new (take (d + n) b)
appended_more None mid new b d n p q = rw p at q
appended_more (Some old) mid new b d n p q =
    let r = rw p at q in
    r ∙ ap Some (append_assoc old (take d b) (take n (drop d b)) ∙ ap (λ z. old ++ z) (sym (take-add d n b)))

-- a count that did not fall before it rose has risen over all
pub rose_from : (a b c : ℕ) → a ≤ b → Rose b c → Rose a c
rose_from a b c kept (inl more) = inl (omega arith)
rose_from a b c kept (inr last) = inr last
