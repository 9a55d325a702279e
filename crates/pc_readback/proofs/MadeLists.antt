-- Tests of lists, one behind the other.
use Rattle.std.proofs.Common.{◌≡◌, List, [], ◌∷◌, ◌++◌, map, Bool, true}
use Rattle.pc_program.specs.Sane.{all_true}
use Rattle.pc_program.proofs.Results.{and_is, and_of}

pub each_and : {A : Type 0} (f : A → Bool) (xs ys : List A) → all_true (map f xs) ≡ true → all_true (map f ys) ≡ true → all_true (map f (xs ++ ys)) ≡ true
each_and f [] ys h k = k
each_and f (x ∷ xs) ys h k = let p = and_is (f x) (all_true (map f xs)) h in and_of (f x) (all_true (map f (xs ++ ys))) p.0 (each_and f xs ys p.1 k)
