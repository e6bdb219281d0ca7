-- What pricings and splits of its leaves make of a tree.
use Rattle.std.proofs.Common.{◌≡◌, ℕ, ◌^◌, ◌<◌, ◌≤◌, true, List, [], ◌∷◌, length, set, refl, sym, ap, ◌∙◌, subst, inl, inr, arith}
use Rattle.std.specs.Prelude.{ℤ, ◌≤ℤ◌, Option, Some, None}
use Rattle.std.proofs.lemmas.Int.{ints}
use Rattle.elevator_model.specs.declared.Stop.{Stop}
use Rattle.search_model.specs.declared.TurnOf.{TurnOf}
use Rattle.elevator_model.specs.Snapshot.{Snapshot, car_count, call_count}
use Rattle.search_model.specs.Nodes.{Node, IsNodeOf, IsTourIn, set_of, allows, is_part, first_of_split, second_of_split}
use Rattle.search_model.specs.Prices.{price_at}
use Rattle.search_model.specs.Certificates.{TreePlace, places_after, root_place}
use Rattle.elevator_model.specs.declared.Move.{Move}
use Rattle.elevator_model.specs.declared.Move.TheVariants.{Board, Leave, End}
use Rattle.elevator_model.specs.Partial.{boards_allowed}
use Rattle.search_model.specs.Orders.{IsPartialTour, AreAllowed}
use Rattle.search_model.specs.Solving.{HasPartialTours}
use Rattle.search_model.proofs.SplitLemmas.{first-narrows, second-narrows, worth_in_first, worth_in_second}
use Rattle.search_model.proofs.SnapshotNodes.{first_is_node, second_is_node}
use Rattle.search_model.proofs.TreeLemmas.{part-index}
use Rattle.search_model.proofs.OrderLemmas.{each_less}
use Rattle.search_tree.specs.declared.branches.SplitAt.{SplitAt}
use Rattle.search_tree.specs.declared.branches.Branch.{Branch}
use Rattle.search_tree.specs.Sheets.{PriceSheet, worth_of_car, sum_of_sheet}
use Rattle.search_tree.specs.Branches.{twig_of, twig_at, at_place, leaf_at, noted, split_at, first_part, second_part, split_tree}
use Rattle.search_tree.specs.Standing.{IsTighter, IsSheetIn, AreLeastIn, IsLeafIn, IsKindIn, IsBranchAt, IfLeaf, IsPricedAt, IsResting, IsRestingAt, IsAtLeast}
use Rattle.search_tree.specs.Standing.{IsTreeOf}
use Rattle.search_tree.specs.Answers.{AreAnswersIn, BeginsAt}
use Rattle.search_tree.proofs.StandingLemmas.{stand-more, stand-set, stand-split, stand-at, split_tree-noted, first_place, second_place}
use Rattle.search_tree.proofs.TurnLaws.{noted-sheet, noted-leaf}

-- ---- tighter nodes

pub tighter-same : (node : Node) → IsTighter node node
tighter-same node = record { fewer = λ c j lt h. h; more = λ c j lt h. h }

pub tighter-tour : (s : Snapshot) (node other : Node) (c : ℕ) (tour : List Stop) → IsTighter node other → c < 16 → IsTourIn s node c tour
    → IsTourIn s other c tour
tighter-tour s node other c tour tight lt t =
    record { feasible = t.feasible; serves = λ j h. t.serves j (tight.more c j lt h); keeps = λ j h. tight.fewer c j lt (t.keeps j h) }

allowed-more : (node other : Node) (c : ℕ) → IsTighter node other → c < 16 → (moves : List Move) → AreAllowed (allows node c) moves
    → AreAllowed (allows other c) moves
allowed-more node other c tight lt [] h = tt
allowed-more node other c tight lt (m ∷ moves) h = (one m h.0, allowed-more node other c tight lt moves h.1)
  where
    one : (m : Move) → boards_allowed (allows node c) m ≡ true → boards_allowed (allows other c) m ≡ true
    one (Board j) e = tight.fewer c j lt e
    one (Leave g) e = e
    one End e = e

pub tighter-tours : (s : Snapshot) (most_tours : ℕ) (node other : Node) (c : ℕ) → IsTighter node other → c < 16 → HasPartialTours s node c most_tours
    → HasPartialTours s other c most_tours
tighter-tours s most_tours node other c tight lt many =
    record {
      lists = many.lists;
      each = each_less (IsPartialTour s c (allows node c)) (IsPartialTour s c (allows other c)) many.lists
          (λ w p. record { lawful = p.lawful; allowed_boards = allowed-more node other c tight lt w p.allowed_boards }) many.each;
      order = many.order;
      many = many.many;
    }

pub least-above : (s : Snapshot) (most_tours : ℕ) (node other : Node) (sheet : PriceSheet) → car_count s ≤ 16 → IsTighter node other
    → AreLeastIn s most_tours node sheet → AreLeastIn s most_tours other sheet
least-above s most_tours node other sheet cars tight least c lt =
    let few : c < 16 = omega (arith, lt, cars) in
    elim (least c lt) [
      | inl r ↦ inl (record { tour = r.tour; within = tighter-tour s node other c r.tour tight few r.within; least = r.least })
      | inr many ↦ inr (tighter-tours s most_tours node other c tight few many)
    ]

pub first-tighter : (node : Node) (call part : ℕ) → is_part (set_of node call) part ≡ true → IsTighter (first_of_split node call part) node
first-tighter node call part is =
    record {
      fewer = λ c j lt h. (first-narrows node c call part lt (part-index node call part is) is).fewer j h;
      more = λ c j lt h. (first-narrows node c call part lt (part-index node call part is) is).more j h;
    }

pub second-tighter : (node : Node) (call part : ℕ) → is_part (set_of node call) part ≡ true → IsTighter (second_of_split node call part) node
second-tighter node call part is =
    record {
      fewer = λ c j lt h. (second-narrows node c call part lt (part-index node call part is) is).fewer j h;
      more = λ c j lt h. (second-narrows node c call part lt (part-index node call part is) is).more j h;
    }

-- ---- a leaf that was priced

pub leaf_of_kind : (s : Snapshot) (most_tours : ℕ) (node : Node) (b : Branch) → b.split ≡ None → IsKindIn s most_tours node b b.split
    → IsLeafIn s most_tours node b
leaf_of_kind s most_tours node b leaf kind = subst (IsKindIn s most_tours node b) leaf kind

pub if_leaf : (P : Type 0) (split : Option SplitAt) → split ≡ None → IfLeaf split P → P
if_leaf P split leaf h = subst (λ (x : Option SplitAt). IfLeaf x P) leaf h

pub of_leaf : (P : Type 0) (split : Option SplitAt) → P → IfLeaf split P
of_leaf P None h = h
of_leaf P (Some at) h = tt

module _ (s : Snapshot) (most_tours : ℕ) (cars : car_count s ≤ 16) where
  pub noted-branch : (place : TreePlace) (b : Branch) (prices : List ℤ) (turns : List TurnOf) → IsBranchAt s most_tours place b → b.split ≡ None
      → b.rounds < 20 → BeginsAt b prices → AreAnswersIn s most_tours b.node prices turns → IsBranchAt s most_tours place (noted b prices turns)
  noted-branch place b prices turns is leaf few begins answers =
      record {
        node = is.node;
        is_node = is.is_node;
        above = is.above;
        few = omega (arith, few);
        kind = subst (IsKindIn s most_tours b.node (noted b prices turns)) (sym leaf)
            (noted-leaf s most_tours b.node b prices turns (leaf_of_kind s most_tours b.node b leaf is.kind) begins answers);
      }

  -- once it was priced its worths are those of its node, so also those of the node above
  pub noted-priced : (place : TreePlace) (b : Branch) (prices : List ℤ) (turns : List TurnOf) → IsBranchAt s most_tours place b → b.split ≡ None
      → BeginsAt b prices → AreAnswersIn s most_tours b.node prices turns → IsPricedAt s most_tours place (noted b prices turns)
  noted-priced place b prices turns is leaf begins answers =
      of_leaf (AreLeastIn s most_tours place.above (noted b prices turns).sheet) b.split
      (least-above s most_tours b.node place.above (noted b prices turns).sheet cars is.above
      (noted-sheet s most_tours b.node b prices turns (leaf_of_kind s most_tours b.node b leaf is.kind) begins answers).least)

  -- a leaf that was priced, at its place
  pub priced-above : (place : TreePlace) (b : Branch) → IsBranchAt s most_tours place b → 0 < b.rounds → IsPricedAt s most_tours place b
  priced-above place b is was = by_kind b.split refl is.kind
    where
      by_kind : (x : Option SplitAt) → b.split ≡ x → IsKindIn s most_tours b.node b x → IfLeaf x (AreLeastIn s most_tours place.above b.sheet)
      by_kind None e kind = least-above s most_tours b.node place.above b.sheet cars is.above (kind.priced was)
      by_kind (Some at) e kind = tt

  -- ---- a leaf that was split

  module _ (b : Branch) (call part : ℕ) (small : part < 2 ^ 16) (part_is : is_part (set_of b.node call) part ≡ true) (is_node : IsNodeOf s b.node) where
    call_below : call < call_count s
    call_below = subst (λ (n : ℕ). call < n) is_node.calls (part-index b.node call part part_is)

    in_range : call < length b.node
    in_range = part-index b.node call part part_is

    first-sheet : IsSheetIn s b.node b.sheet → IsSheetIn s (first_of_split b.node call part) b.sheet
    first-sheet sheet =
        record {
          calls = sheet.calls;
          cars = sheet.cars;
          worths = λ c lt.
              worth_in_first s b.node c call part (price_at b.sheet.prices) (worth_of_car b.sheet c) (omega (arith, lt, cars)) in_range part_is
              (sheet.worths c lt);
        }

    second-sheet : IsSheetIn s b.node b.sheet → IsSheetIn s (second_of_split b.node call part) b.sheet
    second-sheet sheet =
        record {
          calls = sheet.calls;
          cars = sheet.cars;
          worths = λ c lt.
              worth_in_second s b.node c call part (price_at b.sheet.prices) (worth_of_car b.sheet c) (omega (arith, lt, cars)) in_range part_is
              (sheet.worths c lt);
        }

    new-leaf : (node : Node) (depth : ℕ) → IsSheetIn s node b.sheet → IsLeafIn s most_tours node (leaf_at node b.sheet depth)
    new-leaf node depth sheet = record { sheet = sheet; priced = λ lt. absurd (omega (arith, lt)); spent = tt }

    abbrev pub PartsAt : (P : TreePlace → Branch → Type 0) → TreePlace → Type 0
    PartsAt P place = P place (split_at b call part) × P (first_place place call part) (first_part b call part)
        × P (second_place place call part) (second_part b call part)

    pub split-branches : (place : TreePlace) → IsBranchAt s most_tours place b → b.split ≡ None → PartsAt (IsBranchAt s most_tours) place
    split-branches place is leaf =
        let in_leaf = leaf_of_kind s most_tours b.node b leaf is.kind in (
          record { node = is.node; is_node = is.is_node; above = is.above; few = is.few; kind = part_is },
          record {
            node = ap (λ (n : Node). first_of_split n call part) is.node;
            is_node =
                first_is_node s b.node call part small is_node call_below part_is;
            above =
                subst (IsTighter (first_of_split b.node call part)) is.node (first-tighter b.node call part part_is);
            few = omega arith;
            kind =
                new-leaf (first_of_split b.node call part) _ (first-sheet in_leaf.sheet);
          },
          record {
            node = ap (λ (n : Node). second_of_split n call part) is.node;
            is_node =
                second_is_node s b.node call part is_node call_below part_is;
            above =
                subst (IsTighter (second_of_split b.node call part)) is.node (second-tighter b.node call part part_is);
            few = omega arith;
            kind =
                new-leaf (second_of_split b.node call part) _ (second-sheet in_leaf.sheet);
          },
        )

    -- the parts begin with worths of the node that was split, once it was priced
    pub split-priced : (place : TreePlace) → IsBranchAt s most_tours place b → b.split ≡ None → 0 < b.rounds → PartsAt (IsPricedAt s most_tours) place
    split-priced place is leaf was =
        let least = (leaf_of_kind s most_tours b.node b leaf is.kind).priced was in
        (tt, subst (λ (n : Node). AreLeastIn s most_tours n b.sheet) is.node least, subst (λ (n : Node). AreLeastIn s most_tours n b.sheet) is.node least)

    pub split-resting : (cost : ℕ) (place : TreePlace) → PartsAt (IsRestingAt s cost) place
    split-resting cost place = (tt, fresh (first_of_split b.node call part) _, fresh (second_of_split b.node call part) _)
      where
        fresh : (node : Node) (depth : ℕ) → IsResting s cost (leaf_at node b.sheet depth)
        fresh node depth = record { single = λ _ lt _. absurd (omega (arith, lt)); many = λ _ lt. absurd (omega (arith, lt)) }

    pub split-at-least : (z : ℤ) (place : TreePlace) → b.split ≡ None → IsAtLeast z place b → PartsAt (IsAtLeast z) place
    split-at-least z place leaf h = let sum = if_leaf (z ≤ℤ sum_of_sheet b.sheet) b.split leaf h in (tt, sum, sum)

-- ---- the tree

resting-cheaper : (s : Snapshot) (cost cost' : ℕ) → cost' ≤ cost → (place : TreePlace) (b : Branch) → IsRestingAt s cost place b → IsRestingAt s cost' place b
resting-cheaper s cost cost' le place b h = by_kind b.split h
  where
    by_kind : (x : Option SplitAt) → IfLeaf x (IsResting s cost b) → IfLeaf x (IsResting s cost' b)
    by_kind None r = record {
      single = λ one was none. (let most = r.single one was none in omega (arith, ints, most, le));
      many =
          λ some many. (let most = r.many some many in omega (arith, ints, most, le));
    }
    by_kind (Some at) r = tt

pub tree-cheaper : (s : Snapshot) (most_tours cost cost' : ℕ) (tree : List Branch) → cost' ≤ cost → IsTreeOf s most_tours cost tree
    → IsTreeOf s most_tours cost' tree
tree-cheaper s most_tours cost cost' tree le h =
    record {
      branches = h.branches;
      priced = h.priced;
      resting =
          stand-more (IsRestingAt s cost) (IsRestingAt s cost') (resting-cheaper s cost cost' le) (root_place s ∷ []) tree h.resting;
    }

module _ (s : Snapshot) (most_tours cost cost' : ℕ) (cars : car_count s ≤ 16) (le : cost' ≤ cost) (tree : List Branch) (k : ℕ) (lt : k < length tree)
    (leaf : (at_place tree k).split ≡ None) (few : (at_place tree k).rounds < 20) (prices : List ℤ) (turns : List TurnOf)
    (begins : BeginsAt (at_place tree k) prices) (answers : AreAnswersIn s most_tours (at_place tree k).node prices turns)
    (h : IsTreeOf s most_tours cost tree) where
  abbrev b : Branch
  b = at_place tree k

  abbrev places : List TreePlace
  places = root_place s ∷ []

  abbrev pub At : TreePlace → Branch → Type 0
  At = IsBranchAt s most_tours

  -- the leaf is priced, and rests
  pub tree-noted : IsResting s cost' (noted b prices turns) → IsTreeOf s most_tours cost' (set tree k (noted b prices turns))
  tree-noted rests =
      record {
        branches = stand-set At At (noted b prices turns) k places tree lt
            (λ place p q. noted-branch s most_tours cars place b prices turns p leaf few begins answers) same h.branches h.branches;
        priced = stand-set At (IsPricedAt s most_tours) (noted b prices turns) k places tree lt
            (λ place p q. noted-priced s most_tours cars place b prices turns p leaf begins answers) same h.branches h.priced;
        resting = stand-set At (IsRestingAt s cost') (noted b prices turns) k places tree lt
            (λ place p q. of_leaf (IsResting s cost' (noted b prices turns)) b.split rests) same h.branches
            (stand-more (IsRestingAt s cost) (IsRestingAt s cost') (resting-cheaper s cost cost' le) places tree h.resting);
      }
    where
      -- a leaf before and after
      same : (place : TreePlace) (rest : List TreePlace)
          → places_after place (twig_of (noted (at_place tree k) prices turns)) rest ≡ places_after place (twig_of (at_place tree k)) rest
      same place rest = ap (λ (x : Option SplitAt). places_after place (twig_at x (noted (at_place tree k) prices turns).sheet) rest) leaf
          ∙ ap (λ (x : Option SplitAt). places_after place (twig_at x (at_place tree k).sheet) rest) (sym leaf)

  -- the leaf is priced and split
  module _ (call part : ℕ) (small : part < 2 ^ 16) (part_is : is_part (set_of (at_place tree k).node call) part ≡ true) where
    abbrev n : Branch → Branch
    n a = noted a prices turns

    node_is : IsNodeOf s b.node
    node_is = (stand-at At k places tree lt h.branches).1.is_node

    noted_at : (place : TreePlace) → IsBranchAt s most_tours place b → IsBranchAt s most_tours place (n b)
    noted_at place p = noted-branch s most_tours cars place b prices turns p leaf few begins answers

    pub tree-split : IsTreeOf s most_tours cost' (split_tree (set tree k (noted b prices turns)) k call part)
    tree-split =
        subst (IsTreeOf s most_tours cost') (sym (split_tree-noted n call part k tree lt)) (record {
          branches = stand-split At At n call part k places tree lt leaf
              (λ place p q. split-branches s most_tours cars (n b) call part small part_is node_is place (noted_at place p) leaf) h.branches h.branches;
          priced = stand-split At (IsPricedAt s most_tours) n call part k places tree lt leaf
              (λ place p q. split-priced s most_tours cars (n b) call part small part_is node_is place (noted_at place p) leaf (omega arith)) h.branches
              h.priced;
          resting = stand-split At (IsRestingAt s cost') n call part k places tree lt leaf
              (λ place p q. split-resting s most_tours cars (n b) call part small part_is node_is cost' place) h.branches
              (stand-more (IsRestingAt s cost) (IsRestingAt s cost') (resting-cheaper s cost cost' le) places tree h.resting);
        })
