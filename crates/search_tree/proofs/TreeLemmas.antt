-- Nodes one by one: bounds and twigs of a tree.
use Rattle.std.proofs.Common.{◌≡◌, ℕ, ◌+◌, ◌-◌, ◌<◌, ◌≤◌, List, [], ◌∷◌, ◌++◌, ℤ, pos, length, map, drop, take, get_or, sym, ap, ◌∙◌, arith}
use Rattle.std.proofs.lemmas.List.{at_drop_all, at_drop_more, map-append, take_all, take_more}
use Rattle.search_model.specs.declared.Twig.{Twig}
use Rattle.search_model.specs.Solving.{least_bound, lesser_bound}
use Rattle.search_tree.specs.declared.branches.Branch.{Branch}
use Rattle.search_tree.specs.Branches.{twig_of}

abbrev least_of : ℕ → List Branch → ℤ
least_of cost tree = least_bound cost (map twig_of tree)

pub least_none : (cost : ℕ) (tree : List Branch) (k : ℕ) → length tree ≤ k → pos cost ≡ least_bound cost (map twig_of (drop k tree))
least_none cost tree k h = sym (at_drop_all (least_of cost) tree k h)

-- one more branch, from the end
pub least_more : (cost : ℕ) (tree : List Branch) (k : ℕ) (b : Branch) (least : ℤ) → 0 < k → k ≤ length tree → b ≡ get_or tree (k - 1) b
    → least ≡ least_bound cost (map twig_of (drop k tree)) → lesser_bound least (twig_of b) ≡ least_bound cost (map twig_of (drop (k - 1) tree))
least_more cost tree k b least some lt is so =
    let back : k - 1 + 1 ≡ k = omega arith in
    let step = at_drop_more (least_of cost) tree (k - 1) b (omega (arith, some, lt)) in
    ap (λ (z : ℤ). lesser_bound z (twig_of b)) (so ∙ ap (λ (i : ℕ). least_of cost (drop i tree)) (sym back))
    ∙ ap (λ (x : Branch). lesser_bound (least_of cost (drop (k - 1 + 1) tree)) (twig_of x)) is ∙ sym step

-- one more twig
pub twigs_more : (twigs : List Twig) (twig : Twig) (tree : List Branch) (k : ℕ) (b : Branch) → k < length tree → b ≡ get_or tree k b → twig ≡ twig_of b
    → twigs ≡ map twig_of (take k tree) → twigs ++ twig ∷ [] ≡ map twig_of (take (k + 1) tree)
twigs_more twigs twig tree k b lt is twig_is so =
    ap (λ (ts : List Twig). ts ++ twig ∷ []) so ∙ ap (λ (t : Twig). map twig_of (take k tree) ++ t ∷ []) (twig_is ∙ ap twig_of is)
    ∙ sym (map-append twig_of (take k tree) (get_or tree k b ∷ [])) ∙ sym (ap (map twig_of) (take_more tree k b lt))

pub twigs_all : (twigs : List Twig) (tree : List Branch) (k : ℕ) → length tree ≤ k → twigs ≡ map twig_of (take k tree) → twigs ≡ map twig_of tree
twigs_all twigs tree k h so = so ∙ ap (map twig_of) (take_all k tree h)
