-- The definitions, computed on worked rows.
use Rattle.std.proofs.Common.{◌≡◌, ℕ, List, [], ◌∷◌, codes, ◌^◌, ◌-◌, refl, true, false, inl, lit<}
use Rattle.pc_ports.specs.Memory.{SinkState, held_under, is_to_fail, after_put, one_more}
use Rattle.pc_ports.specs.Outside.{Held, Nothing, Rose}

files : List (List ℕ × List ℕ)
files = (codes "f", codes "first") ∷ (codes "g", codes "other") ∷ (codes "f", codes "later") ∷ []

the_first_file_counts : held_under files (codes "f") ≡ Held (codes "first")
unfolding files
the_first_file_counts = refl

no_file_of_the_name : held_under files (codes "h") ≡ Nothing
unfolding files
no_file_of_the_name = refl

calls_count_from_one : is_to_fail (1 ∷ []) 0 ≡ true
calls_count_from_one = refl

other_calls_do_not_fail : is_to_fail (1 ∷ 3 ∷ []) 1 ≡ false
other_calls_do_not_fail = refl

counts_stay_at_their_last_value : one_more (2 ^ 64 - 1) ≡ 2 ^ 64 - 1
counts_stay_at_their_last_value = refl

-- a sink with room for 10 bytes, of which it takes 3 at once, and whose second call is to fail
sink : SinkState
sink = record { room = 10; most = 3; fails = 2 ∷ []; calls = 0; faults = 0; written = [] }

a_put_takes_the_most : after_put sink (codes "abcdefgh") ≡ record { room = 10; most = 3; fails = 2 ∷ []; calls = 1; faults = 0; written = codes "abc" }
unfolding sink
a_put_takes_the_most = refl

a_listed_put_is_a_fault : after_put (after_put sink (codes "abcdefgh")) (codes "defgh") ≡ record { room = 10; most = 3; fails = 2 ∷ []; calls = 2; faults = 1; written = codes "abc" }
unfolding sink
a_listed_put_is_a_fault = refl

a_count_may_rise_by_one : Rose 0 1
a_count_may_rise_by_one = inl (lit< tt)
