-- A tree with the claims that are due.
use Rattle.std.proofs.Common.{◌≡◌, ℕ, ◌+◌, Bool, true, cond, List, [], ◌∷◌, map, refl, sym, ap, ◌∙◌, subst, arith}
use Rattle.std.specs.Prelude.{ℤ, All, sum_by}
use Rattle.std.specs.Int.{int_min}
use Rattle.std.proofs.lemmas.List.{length-map}
use Rattle.std.proofs.lemmas.List.Elements.{All-nil, All-cons, All-head, All-tail}
use Rattle.std.proofs.lemmas.List.Sums.{sum_by-cons}
use Rattle.elevator_model.specs.Snapshot.{Snapshot}
use Rattle.search_model.specs.declared.WorthOf.{WorthOf}
use Rattle.search_model.specs.declared.Twig.{Twig}
use Rattle.search_model.specs.declared.Twig.TheVariants.{Split, Leaf as Tip}
use Rattle.search_model.specs.Sums.{rounded_up}
use Rattle.search_model.specs.Nodes.{Node, set_of, is_part, first_of_split, second_of_split}
use Rattle.search_model.specs.Certificates.{IsSound, TreePlace, Placed, is_filled, placed_from, places_after}
use Rattle.search_model.specs.Solving.{bound_of_leaf, least_bound}
use Rattle.cert_claims.specs.declared.leaves.Claims.{Claims}
use Rattle.cert_claims.specs.Due.{StatesDue, claims_of, claims_of_tree, due_at, worths_of, worths_of_tree}
use Rattle.cert_claims.specs.Leaves.{AreAllDue, LeafAt, claimed, extra_of, extra_of_all, leaf_of, leaves_from, with_claim, with_claims}
use Rattle.cert_claims.specs.Stating.{without_claim, without_claims}
use Rattle.cert_claims.proofs.LeafLemmas.{claim_with, due_is, due_with, sound_with, stated_is, sum_with}

abbrev pub nodes_of : List TreePlace → List Node
nodes_of places = map (λ (p : TreePlace). p.node) places

-- ---- what stays

pub filled-claimed : (places : List TreePlace) (twigs : List Twig) (all : List Claims) → is_filled places (claimed twigs all) ≡ is_filled places twigs
filled-claimed places [] all = refl
filled-claimed [] (twig ∷ twigs) all = refl
filled-claimed (place ∷ places) (Split j part ∷ twigs) all = filled-claimed (places_after place (Split j part) places) twigs all
filled-claimed (place ∷ places) (Tip leaf ∷ twigs) [] = filled-claimed places twigs []
filled-claimed (place ∷ places) (Tip leaf ∷ twigs) (claims ∷ all) = filled-claimed places twigs all

pub least-claimed : (cost : ℕ) (twigs : List Twig) (all : List Claims) → least_bound cost (claimed twigs all) ≡ least_bound cost twigs
least-claimed cost [] all = refl
least-claimed cost (Split j part ∷ twigs) all = least-claimed cost twigs all
least-claimed cost (Tip leaf ∷ twigs) [] = ap (λ (z : ℤ). int_min (bound_of_leaf leaf) z) (least-claimed cost twigs [])
least-claimed cost (Tip leaf ∷ twigs) (claims ∷ all) =
    ap (λ (z : ℤ). int_min (bound_of_leaf (with_claims claims.by_car leaf)) z) (least-claimed cost twigs all)
    ∙ ap (λ (z : ℤ). int_min (rounded_up z) (least_bound cost twigs)) (sum_with claims.by_car leaf)

without-with : (by : List ℕ) (worths : List WorthOf) → map without_claim (map (with_claim by) worths) ≡ map without_claim worths
without-with by [] = refl
without-with by (w ∷ worths) = ap (λ (l : List WorthOf). without_claim w ∷ l) (without-with by worths)

pub without-claimed : (twigs : List Twig) (all : List Claims) → map without_claims (claimed twigs all) ≡ map without_claims twigs
without-claimed [] all = refl
without-claimed (Split j part ∷ twigs) all = ap (λ (l : List Twig). Split j part ∷ l) (without-claimed twigs all)
without-claimed (Tip leaf ∷ twigs) [] = ap (λ (l : List Twig). without_claims (Tip leaf) ∷ l) (without-claimed twigs [])
without-claimed (Tip leaf ∷ twigs) (claims ∷ all) =
    ap (λ (l : List Twig). without_claims (Tip (with_claims claims.by_car leaf)) ∷ l) (without-claimed twigs all)
    ∙ ap (λ (l : List WorthOf). Tip (record { prices = leaf.prices; worths = l }) ∷ map without_claims twigs) (without-with claims.by_car leaf.worths)

pub worths-claimed : (twigs : List Twig) (all : List Claims) → worths_of_tree (claimed twigs all) ≡ worths_of_tree twigs
worths-claimed [] all = refl
worths-claimed (Split j part ∷ twigs) all =
    let rest = worths-claimed twigs all in
    let one = sum_by-cons worths_of (Split j part) (claimed twigs all) in
    let other = sum_by-cons worths_of (Split j part) twigs in
    omega (arith, rest, one, other)
worths-claimed (Tip leaf ∷ twigs) [] =
    let rest = worths-claimed twigs [] in
    let one = sum_by-cons worths_of (Tip leaf) (claimed twigs []) in
    let other = sum_by-cons worths_of (Tip leaf) twigs in
    omega (arith, rest, one, other)
worths-claimed (Tip leaf ∷ twigs) (claims ∷ all) =
    let rest = worths-claimed twigs all in
    let one = sum_by-cons worths_of (Tip (with_claims claims.by_car leaf)) (claimed twigs all) in
    let other = sum_by-cons worths_of (Tip leaf) twigs in
    let same = length-map leaf.worths (with_claim claims.by_car) in
    omega (arith, rest, one, other, same)

-- ---- what holds at the places

module _ (s : Snapshot) (bound : ℕ) where
  abbrev pub Sound : Placed → Type 0
  Sound p = IsSound s bound p.place p.twig

  -- the leaves after a split that divides
  pub split_leaves : (place : TreePlace) (j part : ℕ) (places : List TreePlace) (twigs : List Twig) → is_part (set_of place.node j) part ≡ true
      → leaves_from (nodes_of (place ∷ places)) (Split j part ∷ twigs) ≡ leaves_from (nodes_of (places_after place (Split j part) places)) twigs
  split_leaves place j part places twigs is =
      ap (λ (b : Bool). leaves_from (cond b (first_of_split place.node j part ∷ second_of_split place.node j part ∷ nodes_of places) (nodes_of places)) twigs)
      is

  pub sound-claimed : (places : List TreePlace) (twigs : List Twig) (all : List Claims) → All Sound (placed_from places twigs)
      → All Sound (placed_from places (claimed twigs all))
  sound-claimed places [] all sound = sound
  sound-claimed [] (twig ∷ twigs) all sound = All-nil Sound
  sound-claimed (place ∷ places) (Split j part ∷ twigs) all sound =
      let here : Placed = record { place = place; twig = Split j part } in
      let later = placed_from (places_after place (Split j part) places) twigs in
      All-cons Sound here (placed_from (places_after place (Split j part) places) (claimed twigs all)) (All-head Sound here later sound)
      (sound-claimed (places_after place (Split j part) places) twigs all (All-tail Sound here later sound))
  sound-claimed (place ∷ places) (Tip leaf ∷ twigs) [] sound =
      let here : Placed = record { place = place; twig = Tip leaf } in
      let later = placed_from places twigs in
      All-cons Sound here (placed_from places (claimed twigs [])) (All-head Sound here later sound)
      (sound-claimed places twigs [] (All-tail Sound here later sound))
  sound-claimed (place ∷ places) (Tip leaf ∷ twigs) (claims ∷ all) sound =
      let here : Placed = record { place = place; twig = Tip leaf } in
      let new : Placed = record { place = place; twig = Tip (with_claims claims.by_car leaf) } in
      let later = placed_from places twigs in
      let own = All-head Sound here later sound in
      All-cons Sound new (placed_from places (claimed twigs all)) (sound_with s (leaf_of place.node leaf) claims.by_car own.whole bound own)
      (sound-claimed places twigs all (All-tail Sound here later sound))

  abbrev pub IsDue : Placed → Type 0
  IsDue p = StatesDue s p.place p.twig

  pub due-claimed : (places : List TreePlace) (twigs : List Twig) (all : List Claims) → All Sound (placed_from places twigs)
      → AreAllDue s (leaves_from (nodes_of places) twigs) all → All IsDue (placed_from places (claimed twigs all))
  due-claimed places [] all sound due = All-nil IsDue
  due-claimed [] (twig ∷ twigs) all sound due = All-nil IsDue
  due-claimed (place ∷ places) (Split j part ∷ twigs) all sound due =
      let here : Placed = record { place = place; twig = Split j part } in
      let later = placed_from (places_after place (Split j part) places) twigs in
      let is = All-head Sound here later sound in
      All-cons IsDue here (placed_from (places_after place (Split j part) places) (claimed twigs all)) tt
      (due-claimed (places_after place (Split j part) places) twigs all (All-tail Sound here later sound)
      (subst (λ (l : List LeafAt). AreAllDue s l all) (split_leaves place j part places twigs is) due))
  due-claimed (place ∷ places) (Tip leaf ∷ twigs) [] sound due = absurd due
  due-claimed (place ∷ places) (Tip leaf ∷ twigs) (claims ∷ all) sound due =
      let here : Placed = record { place = place; twig = Tip leaf } in
      let new : Placed = record { place = place; twig = Tip (with_claims claims.by_car leaf) } in
      let later = placed_from places twigs in
      let own = All-head Sound here later sound in
      All-cons IsDue new (placed_from places (claimed twigs all))
      (λ c lt. claim_with s (leaf_of place.node leaf) claims.by_car own.whole c lt ∙ due.0 c lt ∙ sym (due_with claims.by_car leaf s place.node c))
      (due-claimed places twigs all (All-tail Sound here later sound) due.1)

  -- what is stated, added up
  pub stated-claimed : (places : List TreePlace) (twigs : List Twig) (all : List Claims) → is_filled places twigs ≡ true → All Sound (placed_from places twigs)
      → AreAllDue s (leaves_from (nodes_of places) twigs) all
      → claims_of_tree (claimed twigs all) ≡ extra_of_all s (leaves_from (nodes_of places) twigs) + worths_of_tree twigs
  stated-claimed places [] all filled sound due = refl
  stated-claimed [] (twig ∷ twigs) all filled sound due = absurd cc
  stated-claimed (place ∷ places) (Split j part ∷ twigs) all filled sound due =
      let here : Placed = record { place = place; twig = Split j part } in
      let later = placed_from (places_after place (Split j part) places) twigs in
      let same = split_leaves place j part places twigs (All-head Sound here later sound) in
      let rest = stated-claimed (places_after place (Split j part) places) twigs all filled (All-tail Sound here later sound)
      (subst (λ (l : List LeafAt). AreAllDue s l all) same due) in
      let extra = ap (extra_of_all s) same in
      let one = sum_by-cons claims_of (Split j part) (claimed twigs all) in
      let other = sum_by-cons worths_of (Split j part) twigs in
      omega (arith, rest, extra, one, other)
  stated-claimed (place ∷ places) (Tip leaf ∷ twigs) [] filled sound due = absurd due
  stated-claimed (place ∷ places) (Tip leaf ∷ twigs) (claims ∷ all) filled sound due =
      let here : Placed = record { place = place; twig = Tip leaf } in
      let later = placed_from places twigs in
      let own = All-head Sound here later sound in
      let at = leaf_of place.node leaf in
      let rest = stated-claimed places twigs all filled (All-tail Sound here later sound) due.1 in
      let mine = stated_is s at claims.by_car own.whole due.0 in
      let one = sum_by-cons claims_of (Tip (with_claims claims.by_car leaf)) (claimed twigs all) in
      let other = sum_by-cons worths_of (Tip leaf) twigs in
      let extra = sum_by-cons (extra_of s) at (leaves_from (nodes_of places) twigs) in
      omega (arith, rest, mine, one, other, extra)

  -- what is due, added up
  pub due-placed : (places : List TreePlace) (twigs : List Twig) → is_filled places twigs ≡ true → All Sound (placed_from places twigs)
      → sum_by (λ (p : Placed). due_at s p.place p.twig) (placed_from places twigs)
      ≡ extra_of_all s (leaves_from (nodes_of places) twigs) + worths_of_tree twigs
  due-placed places [] filled sound = refl
  due-placed [] (twig ∷ twigs) filled sound = absurd cc
  due-placed (place ∷ places) (Split j part ∷ twigs) filled sound =
      let here : Placed = record { place = place; twig = Split j part } in
      let later = placed_from (places_after place (Split j part) places) twigs in
      let same = split_leaves place j part places twigs (All-head Sound here later sound) in
      let rest = due-placed (places_after place (Split j part) places) twigs filled (All-tail Sound here later sound) in
      let extra = ap (extra_of_all s) same in
      let one = sum_by-cons (λ (p : Placed). due_at s p.place p.twig) here later in
      let other = sum_by-cons worths_of (Split j part) twigs in
      omega (arith, rest, extra, one, other)
  due-placed (place ∷ places) (Tip leaf ∷ twigs) filled sound =
      let here : Placed = record { place = place; twig = Tip leaf } in
      let later = placed_from places twigs in
      let own = All-head Sound here later sound in
      let at = leaf_of place.node leaf in
      let rest = due-placed places twigs filled (All-tail Sound here later sound) in
      let mine = due_is s at [] own.whole in
      let one = sum_by-cons (λ (p : Placed). due_at s p.place p.twig) here later in
      let other = sum_by-cons worths_of (Tip leaf) twigs in
      let extra = sum_by-cons (extra_of s) at (leaves_from (nodes_of places) twigs) in
      omega (arith, rest, mine, one, other, extra)
