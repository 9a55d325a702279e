-- Which alternatives are kept, by their rows at the entry.
use Rattle.std.specs.Prelude.{◌≡◌, ◌<◌, ◌⊎◌, Bool, true, false, List, [], ◌∷◌, ◌++◌, length, Result, Ok, Err}
use Rattle.std.specs.List.{AllByRecursion as Each}
use Rattle.pc_rows.specs.declared.rows.NoMemory.{NoMemory}
use Rattle.pc_flow.specs.Annotation.{rows_at}
use Rattle.pc_flow.specs.Lists.{AnyOf}
use Rattle.pc_entail.specs.Showing.{AllShown, SomeNotFound}
use Rattle.pc_certificate.specs.declared.certificate.Annotated.{Annotated}

-- there are rows of the entry
abbrev pub HasEntry : Annotated → Type 0
HasEntry a = 0 < length a.rows

-- an alternative is needless beside another one: its rows at the entry show every row of the other one there
abbrev pub IsNeedless : Annotated → Annotated → Type 0
IsNeedless a b = AllShown (rows_at a.rows 0) (rows_at b.rows 0)

-- it is not found to be: a point that meets its rows breaks a row of the other one, or the question of a row is not modest
abbrev pub IsNotNeedless : Annotated → Annotated → Type 0
IsNotNeedless a b = SomeNotFound (rows_at a.rows 0) (rows_at b.rows 0)

-- whether it is found to be needless beside another one, and beside some of several
abbrev pub NeedlessIs : Annotated → Annotated → Result Bool NoMemory → Type 0
NeedlessIs a b (Ok true) = IsNeedless a b
NeedlessIs a b (Ok false) = IsNotNeedless a b
NeedlessIs a b (Err e) = Unit {0}

abbrev pub NeedlessBesideIs : Annotated → List Annotated → Result Bool NoMemory → Type 0
NeedlessBesideIs a kept (Ok true) = AnyOf (IsNeedless a) kept
NeedlessBesideIs a kept (Ok false) = Each (IsNotNeedless a) kept
NeedlessBesideIs a kept (Err e) = Unit {0}

-- the alternatives without those that are needless beside `a`, in their order
abbrev pub Without : Annotated → List Annotated → List Annotated → Type 0
Without a [] left = left ≡ []
Without a (k ∷ kept) left =
    (IsNeedless k a × Without a kept left) ⊎ (IsNotNeedless k a × ((more : List Annotated) × (left ≡ k ∷ more) × Without a kept more))

-- the kept alternatives after a further one: they stay where it is needless beside one of them; else those go that are
-- needless beside it, and it is the last
abbrev pub Selects : Annotated → List Annotated → List Annotated → Type 0
Selects a kept new =
    ((new ≡ kept) × AnyOf (IsNeedless a) kept) ⊎
    (Each (IsNotNeedless a) kept × ((left : List Annotated) × Without a kept left × (new ≡ left ++ a ∷ [])))

-- no alternative is found to be needless beside another one
abbrev pub AreApart : List Annotated → Type 0
AreApart [] = Unit {0}
AreApart (a ∷ all) = Each (λ b. IsNotNeedless a b × IsNotNeedless b a) all × AreApart all
