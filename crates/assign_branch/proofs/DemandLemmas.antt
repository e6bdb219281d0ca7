-- The calls that are kept for each car.
use Rattle.std.proofs.Common.{◌≡◌, ℕ, ◌+◌, ◌<◌, ◌≤◌, ◌^◌, eqb, ltb, Bool, true, false, cond, ◌&&◌, List, length, get_or, set, refl, sym, ap, ◌∙◌, subst, inl}
use Rattle.std.proofs.Common.{inr, arith}
use Rattle.std.proofs.lemmas.Bool.{cases_eq, cases_lt, both_ways, eq-eqb, ne_eqb, eqb-true, cond-true, cond-false, false_from_ne_true, lt-ltb}
use Rattle.std.proofs.lemmas.Bool.Decides.{nat_tests}
use Rattle.std.proofs.lemmas.List.{get_or-set_same, get_or-set_other, get_or_past, length-set}
use Rattle.call_sets.specs.Counting.{has}
use Rattle.call_sets.proofs.Bits.{has_zero, has_none_above}
use Rattle.search_model.specs.Nodes.{Node, set_of, allows, requires_of}
use Rattle.search_model.proofs.SetLemmas.{has-single}
use Rattle.search_model.proofs.SplitLemmas.{has-own}
use Rattle.search_model.proofs.NodeLemmas.{set_of-set, set_of-other}
use Rattle.assign_branch.specs.Demands.{KeepsDemands, Places}

-- ---- sets of one car

same_answer : (a b : Bool) → (a ≡ true → b ≡ true) → (b ≡ true → a ≡ true) → a ≡ b
same_answer true b to from = sym (to refl)
same_answer false b to from = sym (false_from_ne_true b (λ e. both_ways false refl (from e)))

pub single-has : (set car c : ℕ) → set ≡ 2 ^ car → has set c ≡ eqb set (2 ^ c)
single-has set car c single =
    same_answer (has set c) (eqb set (2 ^ c))
    (λ h. let same : c ≡ car = has-single car c (ap (λ (x : ℕ). has x c) (sym single) ∙ h) in eq-eqb set (2 ^ c) (single ∙ ap (λ (k : ℕ). 2 ^ k) (sym same)))
    (λ h. ap (λ (x : ℕ). has x c) (eqb-true set (2 ^ c) h) ∙ has-own c)

pub none-single : (set c none : ℕ) → none ≡ 0 → (set ≡ 2 ^ c → ⊥) → has none c ≡ eqb set (2 ^ c)
none-single set c none empty other =
    ap (λ (x : ℕ). has x c) empty ∙ has_zero c ∙ sym (ne_eqb set (2 ^ c) other)

pub empty-no_single : (set c : ℕ) → ((k : ℕ) → has set k ≡ false) → set ≡ 2 ^ c → ⊥
empty-no_single set c none e = both_ways (has set c) (none c) (ap (λ (x : ℕ). has x c) e ∙ has-own c)

pub other-no_single : (set car c : ℕ) → has set car ≡ true → (set ≡ 2 ^ car → ⊥) → set ≡ 2 ^ c → ⊥
other-no_single set car c member more e =
    let same : car ≡ c = has-single c car (ap (λ (x : ℕ). has x car) (sym e) ∙ member) in
    more (e ∙ ap (λ (k : ℕ). 2 ^ k) (sym same))

-- ---- a call put into sets

-- in the sets of the cars below n the call is placed, and the others are as before
pub record ArePlacedBelow (call cars : ℕ) (old new : List ℕ) (n : ℕ) : Type 0 where
  pub size : length new ≡ length old
  pub placed : (c j : ℕ) → c < n → has (get_or new c 0) j ≡ cond (eqb j call) (has cars c) (has (get_or old c 0) j)
  pub others : (c : ℕ) → n ≤ c → get_or new c 0 ≡ get_or old c 0

pub placed-none : (call cars : ℕ) (old : List ℕ) → ArePlacedBelow call cars old old 0
placed-none call cars old = record { size = refl; placed = λ c j lt. absurd (omega arith); others = λ c le. refl }

pub placed-next : (call cars : ℕ) (old new : List ℕ) (n x member : _) → n < length old
    → ((j : ℕ) → has x j ≡ cond (eqb j call) member (has (get_or new n 0) j)) → member ≡ has cars n → ArePlacedBelow call cars old new n
    → ArePlacedBelow call cars old (set new n x) (n + 1)
placed-next call cars old new n x member within here is before =
    record {
      size = length-set new n x ∙ before.size;
      placed = λ c j lt. elim (cases_eq c n) [
        | inl e ↦ subst (λ (k : ℕ). has (get_or (set new n x) k 0) j ≡ cond (eqb j call) (has cars k) (has (get_or old k 0) j)) (sym e)
            (ap (λ (y : ℕ). has y j) (get_or-set_same new n x 0 inside) ∙ here j ∙ ap (λ (b : Bool). cond (eqb j call) b (has (get_or new n 0) j)) is
            ∙ ap (λ (y : ℕ). cond (eqb j call) (has cars n) (has y j)) (before.others n (omega arith)))
        | inr ne ↦ ap (λ (y : ℕ). has y j) (get_or-set_other new n c x 0 ne) ∙ before.placed c j (omega arith)
      ];
      others = λ c le. get_or-set_other new n c x 0 (λ e. absurd (omega arith)) ∙ before.others c (omega arith);
    }
  where
    inside : n < length new
    inside = let e = before.size in omega (arith, e)

pub placed-all : (call cars : ℕ) (old new : List ℕ) (n : ℕ) → 16 ≤ n → ArePlacedBelow call cars old new n → Places call cars old new
placed-all call cars old new n all below c j lt = below.placed c j (omega arith)

-- ---- all calls

-- the calls below n are in the sets where they pass the test, and no others are
abbrev pub AreFilled : (test : ℕ → ℕ → Bool) → (sets : List ℕ) → (n : ℕ) → Type 0
AreFilled test sets n = (c j : ℕ) → c < 16 → has (get_or sets c 0) j ≡ (ltb j n && test c j)

filled_one : (h t : Bool) (j n : ℕ) → h ≡ (ltb j n && t) → (j ≡ n → ⊥) → h ≡ (ltb j (n + 1) && t)
filled_one h t j n e ne = grind (arith, nat_tests, e, ne)

pub filled-next : (test : ℕ → ℕ → Bool) (old new : List ℕ) (n cars : ℕ) → Places n cars old new → ((c : ℕ) → c < 16 → has cars c ≡ test c n)
    → AreFilled test old n → AreFilled test new (n + 1)
filled-next test old new n cars placed is before c j lt =
    elim (cases_eq j n) [
      | inl e ↦ subst (λ (k : ℕ). has (get_or new c 0) k ≡ (ltb k (n + 1) && test c k)) (sym e)
          (placed c n lt ∙ cond-true (eqb n n) (has cars c) (has (get_or old c 0) n) (eq-eqb n n refl) ∙ is c lt
          ∙ sym (ap (λ (b : Bool). b && test c n) (lt-ltb n (n + 1) (omega arith))))
      | inr ne ↦ filled_one (has (get_or new c 0) j) (test c j) j n
          (placed c j lt ∙ cond-false (eqb j n) (has cars c) (has (get_or old c 0) j) (ne_eqb j n ne) ∙ before c j lt) ne
    ]

filled_past : (h t : Bool) (j n : ℕ) → h ≡ (ltb j n && t) → (n ≤ j → t ≡ false) → h ≡ t
filled_past h t j n e past =
    elim (cases_lt j n) [ inl lt ↦ grind (arith, nat_tests, e, lt) | inr le ↦ (let none = past le in grind (arith, nat_tests, e, none)) ]

pub filled-all : (test : ℕ → ℕ → Bool) (sets : List ℕ) (n c j : ℕ) → c < 16 → (n ≤ j → test c j ≡ false) → AreFilled test sets n
    → has (get_or sets c 0) j ≡ test c j
filled-all test sets n c j lt past filled = filled_past (has (get_or sets c 0) j) (test c j) j n (filled c j lt) past

-- a call that the node lacks is of no car
pub allows_past : (node : Node) (c j : ℕ) → length node ≤ j → allows node c j ≡ false
allows_past node c j past = ap (λ (x : ℕ). has x c) (get_or_past node j 0 past) ∙ has_zero c

pub requires_past : (node : Node) (c j : ℕ) → length node ≤ j → requires_of node c j ≡ false
requires_past node c j past =
    ne_eqb (set_of node j) (2 ^ c) (λ e. both_ways (has (set_of node j) c) (allows_past node c j past) (ap (λ (x : ℕ). has x c) e ∙ has-own c))

-- ---- nodes

pub demands-all : (node : Node) (allowed required : List ℕ) (n : ℕ) → n ≡ length node → length node ≤ 128 → ((j : ℕ) → set_of node j < 2 ^ 16)
    → AreFilled (allows node) allowed n → AreFilled (requires_of node) required n → KeepsDemands node allowed required
demands-all node allowed required n all few small filled sole = record {
  calls = few;
  cars = small;
  allowed_are = λ c j lt. filled-all (allows node) allowed n c j lt (λ past. allows_past node c j (omega (arith, all, past))) filled;
  required_are = λ c j lt. filled-all (requires_of node) required n c j lt (λ past. requires_past node c j (omega (arith, all, past))) sole;
}

-- what a car of any number may board and has to
pub allowed_at : (node : Node) (allowed required : List ℕ) (c j : ℕ) → length allowed ≡ 16 → KeepsDemands node allowed required
    → has (get_or allowed c 0) j ≡ allows node c j
allowed_at node allowed required c j size keeps =
    elim (cases_lt c 16) [
      | inl lt ↦ keeps.allowed_are c j lt
      | inr past ↦ ap (λ (x : ℕ). has x j) (get_or_past allowed c 0 (omega (arith, size, past))) ∙ has_zero j
          ∙ sym (has_none_above 16 (set_of node j) c (keeps.cars j) past)
    ]

pub required_at : (node : Node) (allowed required : List ℕ) (c j : ℕ) → length required ≡ 16 → KeepsDemands node allowed required
    → has (get_or required c 0) j ≡ requires_of node c j
required_at node allowed required c j size keeps =
    elim (cases_lt c 16) [
      | inl lt ↦ keeps.required_are c j lt
      | inr past ↦ ap (λ (x : ℕ). has x j) (get_or_past required c 0 (omega (arith, size, past))) ∙ has_zero j
          ∙ sym (ne_eqb (set_of node j) (2 ^ c)
          (λ e. both_ways (has (set_of node j) c) (has_none_above 16 (set_of node j) c (keeps.cars j) past) (ap (λ (x : ℕ). has x c) e ∙ has-own c)))
    ]

-- one call's set is another one
placed_test : (node : Node) (call x c j : ℕ) (t : ℕ → Bool) (b : Bool) → call < length node → (j ≡ call → b ≡ t (set_of (set node call x) call))
    → cond (eqb j call) b (t (set_of node j)) ≡ t (set_of (set node call x) j)
placed_test node call x c j t b lt here =
    elim (cases_eq j call) [
      | inl e ↦ cond-true (eqb j call) b (t (set_of node j)) (eq-eqb j call e) ∙ here e ∙ ap (λ (k : ℕ). t (set_of (set node call x) k)) (sym e)
      | inr ne ↦ cond-false (eqb j call) b (t (set_of node j)) (ne_eqb j call ne) ∙ ap t (sym (set_of-other node call x j ne))
    ]

pub demands-given : (node : Node) (allowed required allowed' required' : List ℕ) (call x single : ℕ) → call < length node → x < 2 ^ 16
    → Places call x allowed allowed' → Places call single required required' → ((c : ℕ) → c < 16 → has single c ≡ eqb x (2 ^ c))
    → KeepsDemands node allowed required → KeepsDemands (set node call x) allowed' required'
demands-given node allowed required allowed' required' call x single lt small placed sole is keeps = record {
  calls = let size = length-set node call x in let few = keeps.calls in omega (arith, size, few);
  cars = λ j. elim (cases_eq j call) [
    | inl e ↦ subst (λ (k : ℕ). set_of (set node call x) k < 2 ^ 16) (sym e) (subst (λ (y : ℕ). y < 2 ^ 16) (sym at_call) small)
    | inr ne ↦ subst (λ (y : ℕ). y < 2 ^ 16) (sym (set_of-other node call x j ne)) (keeps.cars j)
  ];
  allowed_are = λ c j in'. placed c j in' ∙ ap (λ (b : Bool). cond (eqb j call) (has x c) b) (keeps.allowed_are c j in')
      ∙ placed_test node call x c j (λ y. has y c) (has x c) lt (λ e. ap (λ (y : ℕ). has y c) (sym at_call));
  required_are = λ c j in'. sole c j in' ∙ ap (λ (b : Bool). cond (eqb j call) (has single c) b) (keeps.required_are c j in')
      ∙ placed_test node call x c j (λ y. eqb y (2 ^ c)) (has single c) lt (λ e. is c in' ∙ ap (λ (y : ℕ). eqb y (2 ^ c)) (sym at_call));
}
  where
    at_call : set_of (set node call x) call ≡ x
    at_call = set_of-set node call x lt
