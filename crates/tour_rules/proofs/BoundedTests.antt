-- Tests over numbers below a bound and over lists.
use Rattle.std.proofs.Common.{◌≡◌, Bool, true, false, List, [], ◌∷◌, refl, inl, inr, arith, Option, Some, None}
use Rattle.std.specs.Option.{is_none}
use Rattle.std.proofs.lemmas.Bool.{false≢true, cases_Bool}
use Rattle.elevator_model.specs.declared.Rule.{Rule}
use Rattle.elevator_model.specs.Tours.{first_rule}

-- two functions that agree everywhere are one
pub same_function : {A B : Type 0} (f g : A → B) → ((x : A) → f x ≡ g x) → f ≡ g
same_function f g h = λ i. λ x. h x i

-- ---- tests below a bound

-- ---- sums below a bound

-- ---- lists

-- ---- the first broken rule

-- none of these rules is broken
abbrev pub AllClear : (Rule → Bool) → List Rule → Type 0
AllClear broken [] = Unit {0}
AllClear broken (r ∷ rs) = (broken r ≡ false) × AllClear broken rs

pub AllClear-from : (broken : Rule → Bool) (rules : List Rule) → first_rule broken rules ≡ None → AllClear broken rules
AllClear-from broken [] h = tt
AllClear-from broken (r ∷ rs) h =
    elim (cases_Bool (broken r)) [ inl e ↦ absurd (some_first r rs e h) | inr e ↦ (e, AllClear-from broken rs (later r rs e h)) ]
  where
    some_first : (r : Rule) (rs : List Rule) → broken r ≡ true → first_rule broken (r ∷ rs) ≡ None → ⊥
    some_first r rs e h = grind arith

    later : (r : Rule) (rs : List Rule) → broken r ≡ false → first_rule broken (r ∷ rs) ≡ None → first_rule broken rs ≡ None
    later r rs e h = grind arith

pub first_rule-clear : (broken : Rule → Bool) (rules : List Rule) → AllClear broken rules → first_rule broken rules ≡ None
first_rule-clear broken [] h = refl
first_rule-clear broken (r ∷ rs) h = let e = h.0 in let later = first_rule-clear broken rs h.1 in grind arith

pub none-from : {A : Type 0} (o : Option A) → is_none o ≡ true → o ≡ None
none-from None h = refl
none-from (Some x) h = absurd (false≢true h)

pub is_none-at : {A : Type 0} (o : Option A) → o ≡ None → is_none o ≡ true
is_none-at None h = refl
is_none-at (Some x) h = cc
