-- Texts with their first faults, told by hand.
use Rattle.std.specs.Prelude.{◌≡◌, ◌++◌, [], Some, None, codes, refl}
use Rattle.pc_text.specs.Bytes.{Bytes}
use Rattle.pc_text.specs.Lexemes.{class}
use Rattle.pc_lines.specs.declared.fault.CertFault.TheVariants as fault
use Rattle.pc_cert.specs.Faults.{fault_of}

abbrev head : Bytes
head = codes "precond 1\ngraph 1 1 1\nalternative\npoint 0 1\n"

none_in_a_certificate : fault_of (head ++ codes "-7 0\nedge 0 1\n1 0 3 2 -1\nend\n") ≡ None
unfolding fault_of class
none_in_a_certificate = refl

no_bytes : fault_of [] ≡ Some (fault.Form 1)
unfolding fault_of class
no_bytes = refl

another_version : fault_of (codes "precond 2\ngraph 0 0 0\nend\n") ≡ Some (fault.Form 1)
unfolding fault_of class
another_version = refl

line_missing : fault_of head ≡ Some (fault.Form 5)
unfolding fault_of class
line_missing = refl

line_feed_missing : fault_of (head ++ codes "-7 0\nedge 0 0\nend") ≡ Some (fault.Form 7)
unfolding fault_of class
line_feed_missing = refl

too_many_points : fault_of (codes "precond 1\ngraph 2050 8 2\nend\n") ≡ Some (fault.Number 2)
unfolding fault_of class
too_many_points = refl

count_past_any_word : fault_of (codes "precond 1\ngraph 1 18446744073709551617 1\nend\n") ≡ Some (fault.Number 2)
unfolding fault_of class
count_past_any_word = refl

count_with_a_sign : fault_of (codes "precond 1\ngraph 1 -1 1\nend\n") ≡ Some (fault.Form 2)
unfolding fault_of class
count_with_a_sign = refl

not_the_running_number : fault_of (codes "precond 1\ngraph 1 1 1\nalternative\npoint 1 0\n") ≡ Some (fault.Number 4)
unfolding fault_of class
not_the_running_number = refl

minus_zero : fault_of (head ++ codes "-0 0\n") ≡ Some (fault.Form 5)
unfolding fault_of class
minus_zero = refl

leading_zero : fault_of (head ++ codes "07 0\n") ≡ Some (fault.Form 5)
unfolding fault_of class
leading_zero = refl

two_spaces : fault_of (head ++ codes "7  0\n") ≡ Some (fault.Form 5)
unfolding fault_of class
two_spaces = refl

-- of two faults in one line the form is told
form_before_number : fault_of (head ++ codes "170141183460469231731687303715884105728 +1\n") ≡ Some (fault.Form 5)
unfolding fault_of class
form_before_number = refl

out_of_range : fault_of (head ++ codes "170141183460469231731687303715884105728 1\n") ≡ Some (fault.Number 5)
unfolding fault_of class
out_of_range = refl

index_48 : fault_of (head ++ codes "7 0\nedge 0 1\n1 48 1\nend\n") ≡ Some (fault.Number 7)
unfolding fault_of class
index_48 = refl

same_index_again : fault_of (head ++ codes "7 0\nedge 0 1\n1 3 1 3 1\nend\n") ≡ Some (fault.Number 7)
unfolding fault_of class
same_index_again = refl

multiplier_0 : fault_of (head ++ codes "7 0\nedge 0 1\n1 3 0\nend\n") ≡ Some (fault.Number 7)
unfolding fault_of class
multiplier_0 = refl

index_alone : fault_of (head ++ codes "7 0\nedge 0 1\n1 3\nend\n") ≡ Some (fault.Form 7)
unfolding fault_of class
index_alone = refl

line_behind_the_end : fault_of (codes "precond 1\ngraph 1 0 0\nend\nx\n") ≡ Some (fault.Trailing 4)
unfolding fault_of class
line_behind_the_end = refl

byte_behind_the_end : fault_of (codes "precond 1\ngraph 1 0 0\nend\nx") ≡ Some (fault.Trailing 4)
unfolding fault_of class
byte_behind_the_end = refl
