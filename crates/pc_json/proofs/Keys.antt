-- The members of an object, taken one after another.
use Rattle.std.proofs.Common.{◌≡◌, ◌∙◌, ℕ, List, [], ◌∷◌, length, String, Global, codes, refl, sym, ap}
use Rattle.serde_json.specs.Data.{Data, object, Members, member, no_members}
use Rattle.serde_json.specs.View.{members_view}
use Rattle.serde_json.specs.declared.Value.{Value}
use Rattle.pc_json.specs.Values.{of_two, of_five}

abbrev rest : Members → Members
rest no_members = no_members
rest (member k d ms) = ms

abbrev members_in : Data → Members
members_in (object ms) = ms
members_in _ = no_members

-- the first member has not this key
abbrev NoFirst : Members → List ℕ → Type 0
NoFirst ms key = (d : Data) (more : Members) → ms ≡ member key d more → ⊥

abbrev NotTwo : Members → Type 0
NotTwo ms = (x y : Data) → object ms ≡ of_two x y → ⊥

abbrev NotFive : Members → Type 0
NotFive ms = (a b x y z : Data) → object ms ≡ of_five a b x y z → ⊥

next : {ms m : Members} {k : List ℕ} {d : Data} → ms ≡ member k d m → m ≡ rest ms
next e = sym (ap rest e)

pub two_none : {ms : Members} → NoFirst ms (codes "proofs") → NotTwo ms
two_none none x y e = none x _ (ap members_in e)

pub five_none : {ms : Members} → NoFirst ms (codes "alternatives") → NotFive ms
five_none none a b x y z e = none a _ (ap members_in e)

module _ {ms m1 : Members} {k1 : List ℕ} {d1 : Data} (one : ms ≡ member k1 d1 m1) where
  pub two_first : NoFirst m1 (codes "rows") → NotTwo ms
  two_first none x y e = none y _ (next one ∙ ap (λ d. rest (members_in d)) e)

  pub five_first : NoFirst m1 (codes "edges") → NotFive ms
  five_first none a b x y z e = none b _ (next one ∙ ap (λ d. rest (members_in d)) e)

  module _ {m2 : Members} {k2 : List ℕ} {d2 : Data} (two : m1 ≡ member k2 d2 m2) where
    second : m2 ≡ rest (rest ms)
    second = next two ∙ ap rest (next one)

    pub two_over : (m2 ≡ no_members → ⊥) → NotTwo ms
    two_over some x y e = some (second ∙ ap (λ d. rest (rest (members_in d))) e)

    pub five_second : NoFirst m2 (codes "points") → NotFive ms
    five_second none a b x y z e = none x _ (second ∙ ap (λ d. rest (rest (members_in d))) e)

    module _ {m3 : Members} {k3 : List ℕ} {d3 : Data} (three : m2 ≡ member k3 d3 m3) where
      third : m3 ≡ rest (rest (rest ms))
      third = next three ∙ ap rest second

      pub five_third : NoFirst m3 (codes "variables") → NotFive ms
      five_third none a b x y z e = none y _ (third ∙ ap (λ d. rest (rest (rest (members_in d)))) e)

      module _ {m4 : Members} {k4 : List ℕ} {d4 : Data} (four : m3 ≡ member k4 d4 m4) where
        fourth : m4 ≡ rest (rest (rest (rest ms)))
        fourth = next four ∙ ap rest third

        pub five_fourth : NoFirst m4 (codes "version") → NotFive ms
        five_fourth none a b x y z e = none z _ (fourth ∙ ap (λ d. rest (rest (rest (rest (members_in d))))) e)

        pub five_over : {m5 : Members} {k5 : List ℕ} {d5 : Data} → m4 ≡ member k5 d5 m5 → (m5 ≡ no_members → ⊥) → NotFive ms
        five_over five some a b x y z e = some (next five ∙ ap rest fourth ∙ ap (λ d. rest (rest (rest (rest (rest (members_in d)))))) e)

pub none_in : (es : List (String Global × Value)) → members_view es ≡ no_members → length es ≡ 0
none_in [] e = refl
none_in (x ∷ es) e = cc
