-- Prices and worths that are listed, one by one.
use Rattle.std.proofs.Common.{◌≡◌, ℕ, ◌+◌, ◌<◌, ◌≤◌, List, [], ◌∷◌, ◌++◌, ℤ, pos, Option, Some, None, length, drop, get_or, sym, ap, ◌∙◌, append_assoc}
use Rattle.std.proofs.Common.{append-nil}
use Rattle.std.proofs.lemmas.List.{at_drop_all, at_drop_more}
use Rattle.search_model.specs.declared.PriceOf.{PriceOf}
use Rattle.search_model.specs.declared.WorthOf.{WorthOf}
use Rattle.std.specs.Int.{int_min}
use Rattle.search_model.specs.Solving.{lesser_bound}
use Rattle.search_model.specs.Sums.{rounded_up}
use Rattle.search_tree.specs.declared.branches.SplitAt.{SplitAt}
use Rattle.search_tree.specs.Branches.{twig_at}
use Rattle.search_tree.specs.Sheets.{PriceSheet, prices_from, sum_of_sheet, worths_from}
use Rattle.search_tree.proofs.LeafFacts.{sum_of_leaf-sheet}

pub priced_more : (list : List PriceOf) (prices : List ℤ) (k : ℕ) (price d : ℤ) → k < length prices → price ≡ get_or prices k d
    → list ++ prices_from k (drop k prices) ≡ prices_from 0 prices
    → (list ++ record { call = k; price = price } ∷ []) ++ prices_from (k + 1) (drop (k + 1) prices) ≡ prices_from 0 prices
priced_more list prices k price d lt e so =
    append_assoc list _ _ ∙ ap (λ (x : ℤ). list ++ record { call = k; price = x } ∷ prices_from (k + 1) (drop (k + 1) prices)) e
    ∙ sym (ap (λ (xs : List PriceOf). list ++ xs) (at_drop_more (prices_from k) prices k d lt)) ∙ so

pub priced_all : (list : List PriceOf) (prices : List ℤ) (k : ℕ) → length prices ≤ k → list ++ prices_from k (drop k prices) ≡ prices_from 0 prices
    → list ≡ prices_from 0 prices
priced_all list prices k h so =
    sym (append-nil list) ∙ sym (ap (λ (xs : List PriceOf). list ++ xs) (at_drop_all (prices_from k) prices k h)) ∙ so

pub worth_listed : (claim : ℕ) (list : List WorthOf) (worths : List ℤ) (k : ℕ) (worth : ℤ) → k < length worths → worth ≡ get_or worths k (pos 0)
    → list ++ worths_from claim k (drop k worths) ≡ worths_from claim 0 worths
    → (list ++ record { car = k; worth = worth; claim = claim } ∷ []) ++ worths_from claim (k + 1) (drop (k + 1) worths) ≡ worths_from claim 0 worths
worth_listed claim list worths k worth lt e so =
    append_assoc list _ _ ∙ ap (λ (x : ℤ). list ++ record { car = k; worth = x; claim = claim } ∷ worths_from claim (k + 1) (drop (k + 1) worths)) e
    ∙ sym (ap (λ (xs : List WorthOf). list ++ xs) (at_drop_more (worths_from claim k) worths k (pos 0) lt)) ∙ so

pub worths_all : (claim : ℕ) (list : List WorthOf) (worths : List ℤ) (k : ℕ) → length worths ≤ k
    → list ++ worths_from claim k (drop k worths) ≡ worths_from claim 0 worths → list ≡ worths_from claim 0 worths
worths_all claim list worths k h so =
    sym (append-nil list) ∙ sym (ap (λ (xs : List WorthOf). list ++ xs) (at_drop_all (worths_from claim k) worths k h)) ∙ so

-- ---- bounds of leaves

-- the bound of a leaf beside another one
pub lesser_at_leaf : (split : Option SplitAt) (sheet : PriceSheet) (own bound : ℤ) → split ≡ None → own ≡ rounded_up (sum_of_sheet sheet)
    → int_min own bound ≡ lesser_bound bound (twig_at split sheet)
lesser_at_leaf None sheet own bound e is = ap (λ (z : ℤ). int_min z bound) (is ∙ sym (ap rounded_up (sum_of_leaf-sheet 0 sheet)))
lesser_at_leaf (Some at) sheet own bound e is = absurd cc
