-- A certificate read and checked piece by piece.
use Rattle.std.proofs.Common.{◌≡◌, ℕ, ◌+◌, ◌<◌, ◌≤◌, ◌^◌, Bool, true, false, List, [], ◌∷◌, ◌++◌, length, length-append, append_assoc, append-nil, Option, None}
use Rattle.std.proofs.Common.{Some, Ok, Err, sym, ap, ◌∙◌, subst, arith}
use Rattle.std.specs.Prelude.{All}
use Rattle.std.proofs.lemmas.List.Elements.{All-push}
use Rattle.elevator_model.specs.Snapshot.{Snapshot}
use Rattle.search_model.specs.declared.Stated.{Stated}
use Rattle.search_model.specs.declared.Twig.{Twig}
use Rattle.search_model.specs.declared.Twig.TheVariants.{Split, Leaf as Tip}
use Rattle.lift_text.specs.Reading.{TextState}
use Rattle.lift_text.specs.declared.faults.TextFault.{TextFault}
use Rattle.lift_text.specs.declared.faults.TextFault.TheVariants.{NoMemory}
use Rattle.cert_text.specs.Pieces.{Reader}
use Rattle.cert_text.specs.Readers.{HasRead, IsRefused, HandsOutFor}
use Rattle.cert_text.specs.Trees.{IsTwigWithin}
use Rattle.cert_checker.specs.declared.checker.Checker.{Checker}
use Rattle.cert_checker.specs.Judging.{HasSeen, HasWorthSizes}
use Rattle.check_text.specs.Layers.{ReadsPieceFor, HasHandedOut, HasSeenNone, StandsAt, FeedsPieceFor, FeedsTree}

no_sizes : All HasWorthSizes []
no_sizes k d below = absurd (omega arith)

twig_sizes : (s : Snapshot) (twig : Twig) → IsTwigWithin s twig → HasWorthSizes twig
twig_sizes s (Split j part) within = tt
twig_sizes s (Tip leaf) within = λ k d below. (let one = within.worths k d below in (one.worth_low, one.worth_high))

pub refused_memory : (s : Snapshot) (first : Option TextState) (fault : TextFault) → fault ≡ NoMemory → IsRefused s first fault
refused_memory s first fault e = subst (λ (f : TextFault). IsRefused s first f) (sym e) tt

-- ---- a twig

module _ (s : Snapshot) where
  pub piece_twig : (reader reader' : Reader) (piece piece' : List Twig) (twig : Twig) (before now : Option TextState)
      → HandsOutFor s reader before (Ok (Some twig)) reader' now → piece' ≡ piece ++ twig ∷ []
      → ReadsPieceFor s reader piece before (Ok false) reader' piece' now
  piece_twig reader reader' piece piece' twig before now told is = λ first fed h sizes.
      (let one = told first (fed ++ piece) h in
      let joined = append_assoc fed piece (twig ∷ []) ∙ ap (λ (ts : List Twig). fed ++ ts) (sym is) in (
        subst (λ (ts : List Twig). HasRead s first reader' ts now) joined one.0,
        subst (All HasWorthSizes) (sym is) (All-push HasWorthSizes piece twig sizes (twig_sizes s twig one.1)),
      ))

  pub piece_end : (reader reader' : Reader) (piece : List Twig) (before now : Option TextState) → HandsOutFor s reader before (Ok None) reader' now
      → ReadsPieceFor s reader piece before (Ok true) reader' piece now
  piece_end reader reader' piece before now told = λ first fed h sizes. (let one = told first (fed ++ piece) h in ((one.1, one.2), sizes))

  pub piece_fault : (reader reader' : Reader) (piece piece' : List Twig) (fault : TextFault) (before now : Option TextState)
      → HandsOutFor s reader before (Err fault) reader' now → ReadsPieceFor s reader piece before (Err fault) reader' piece' now
  piece_fault reader reader' piece piece' fault before now told = λ first fed h sizes. told first (fed ++ piece) h

  pub piece_memory : (reader reader' : Reader) (piece piece' : List Twig) (fault : TextFault) (before now : Option TextState) → fault ≡ NoMemory
      → ReadsPieceFor s reader piece before (Err fault) reader' piece' now
  piece_memory reader reader' piece piece' fault before now e = λ first fed h sizes. refused_memory s first fault e

  -- ---- a piece

  -- so far this piece was read: whatever had been handed out before
  abbrev pub HasPiece : (reader : Reader) → (before : Option TextState) → (reader' : Reader) → (piece : List Twig) → (now : Option TextState) → Type 0
  HasPiece reader before reader' piece now = (first : Option TextState) (fed : List Twig) → HasRead s first reader fed before
      → HasRead s first reader' (fed ++ piece) now × All HasWorthSizes piece

  pub piece_none : (reader : Reader) (piece : List Twig) (before : Option TextState) → piece ≡ [] → HasPiece reader before reader piece before
  piece_none reader piece before empty = λ first fed h.
      subst (λ (ts : List Twig). HasRead s first reader (fed ++ ts) before × All HasWorthSizes ts) (sym empty)
      (subst (λ (ts : List Twig). HasRead s first reader ts before) (sym (append-nil fed)) h, no_sizes)

  pub piece_more : (reader reader' reader'' : Reader) (piece piece' : List Twig) (before now later : Option TextState)
      → HasPiece reader before reader' piece now → ReadsPieceFor s reader' piece now (Ok false) reader'' piece' later
      → HasPiece reader before reader'' piece' later
  piece_more reader reader' reader'' piece piece' before now later gone reads = λ first fed h. (let at = gone first fed h in reads first fed at.0 at.1)

  from_none : (reader : Reader) (before : Option TextState) (first : Option TextState) (fed : List Twig) → HasRead s first reader (fed ++ []) before
      → HasRead s first reader fed before
  from_none reader before first fed h = subst (λ (ts : List Twig). HasRead s first reader ts before) (append-nil fed) h

  pub piece_whole : (reader reader' reader'' : Reader) (piece piece' : List Twig) (before now later : Option TextState)
      → HasPiece reader before reader' piece now → ReadsPieceFor s reader' piece now (Ok true) reader'' piece' later
      → ReadsPieceFor s reader [] before (Ok true) reader'' piece' later
  piece_whole reader reader' reader'' piece piece' before now later gone reads =
      λ first fed h sizes. (let at = gone first fed (from_none reader before first fed h) in reads first fed at.0 at.1)

  pub piece_broken : (reader reader' reader'' : Reader) (piece piece' : List Twig) (fault : TextFault) (before now later : Option TextState)
      → HasPiece reader before reader' piece now → ReadsPieceFor s reader' piece now (Err fault) reader'' piece' later
      → ReadsPieceFor s reader [] before (Err fault) reader'' piece' later
  piece_broken reader reader' reader'' piece piece' fault before now later gone reads =
      λ first fed h sizes. (let at = gone first fed (from_none reader before first fed h) in reads first fed at.0 at.1)

  pub piece_full : (reader reader' : Reader) (piece : List Twig) (before now : Option TextState) → HasPiece reader before reader' piece now
      → ReadsPieceFor s reader [] before (Ok false) reader' piece now
  piece_full reader reader' piece before now gone = λ first fed h sizes. gone first fed (from_none reader before first fed h)

  -- ---- a piece that is handed to the checker

  onto_none : (reader : Reader) (before : Option TextState) (first : Option TextState) (fed : List Twig) → HasRead s first reader fed before
      → HasRead s first reader (fed ++ []) before
  onto_none reader before first fed h = subst (λ (ts : List Twig). HasRead s first reader ts before) (sym (append-nil fed)) h

  pub piece_sizes : (reader reader' : Reader) (piece : List Twig) (before now : Option TextState) (is_whole : Bool) → HasHandedOut s reader before
      → ReadsPieceFor s reader [] before (Ok is_whole) reader' piece now → All HasWorthSizes piece
  piece_sizes reader reader' piece before now is_whole begun reads = (reads begun.0 begun.1 (onto_none reader before begun.0 begun.1 begun.2) no_sizes).1

  -- the checker has seen a piece more
  abbrev pub SeesMore : Checker → List Twig → Checker → Type 0
  SeesMore checker piece checker' = (claims : Stated) (fed : List Twig) → length fed + length piece < 2 ^ 32 → HasSeen s claims fed checker
      → HasSeen s claims (fed ++ piece) checker'

  pub fed_piece : (reader reader' : Reader) (piece : List Twig) (before now : Option TextState) (is_whole : Bool) (checker checker' : Checker)
      → ReadsPieceFor s reader [] before (Ok is_whole) reader' piece now → length piece ≤ 256 → SeesMore checker piece checker'
      → FeedsPieceFor s reader checker before (Ok is_whole) reader' checker' now
  fed_piece reader reader' piece before now true checker checker' reads few sees = λ claims first most room at.
      (let told = reads first at.fed (onto_none reader before first at.fed at.read) no_sizes in
      record { tree = at.fed ++ piece; said = told.0.0; within = told.0.1; seen = sees claims at.fed (omega (arith, room, few, at.few)) at.seen })
  fed_piece reader reader' piece before now false checker checker' reads few sees = λ claims first most room at.
      (let told = reads first at.fed (onto_none reader before first at.fed at.read) no_sizes in
      let size = length-append at.fed piece in
      record {
        fed = at.fed ++ piece;
        read = told.0;
        seen = sees claims at.fed (omega (arith, room, few, at.few)) at.seen;
        few =
            omega (arith, size, few, at.few);
      })

  pub fed_fault : (reader reader' : Reader) (piece : List Twig) (fault : TextFault) (before now : Option TextState) (checker checker' : Checker)
      → ReadsPieceFor s reader [] before (Err fault) reader' piece now → FeedsPieceFor s reader checker before (Err fault) reader' checker' now
  fed_fault reader reader' piece fault before now checker checker' reads =
      λ claims first most room at. reads first at.fed (onto_none reader before first at.fed at.read) no_sizes

  pub fed_memory : (reader reader' : Reader) (fault : TextFault) (before now : Option TextState) (checker checker' : Checker) → fault ≡ NoMemory
      → FeedsPieceFor s reader checker before (Err fault) reader' checker' now
  fed_memory reader reader' fault before now checker checker' e = λ claims first most room at. refused_memory s first fault e

  -- ---- a tree

  -- whatever is stated, the reader and the checker stand together
  abbrev pub StandTogether : (first : Option TextState) → (start : Checker) → Reader → Checker → (now : Option TextState) → (most : ℕ) → Type 0
  StandTogether first start reader checker now most = (claims : Stated) → HasSeen s claims [] start → StandsAt s claims first reader checker now most

  pub tree_none : (first : Option TextState) (reader : Reader) (checker : Checker) (now : Option TextState) → HasRead s first reader [] now
      → StandTogether first checker reader checker now 0
  tree_none first reader checker now read = λ claims seen. record { fed = []; read = read; seen = seen; few = omega arith }

  pub tree_more : (first : Option TextState) (start : Checker) (reader reader' : Reader) (checker checker' : Checker) (now later : Option TextState)
      (most next : ℕ) → next ≡ most + 256 → most + 256 < 2 ^ 32 → StandTogether first start reader checker now most
      → FeedsPieceFor s reader checker now (Ok false) reader' checker' later → StandTogether first start reader' checker' later next
  tree_more first start reader reader' checker checker' now later most next is room stands feeds = λ claims seen.
      subst (λ (n : ℕ). StandsAt s claims first reader' checker' later n) (sym is) (feeds claims first most room (stands claims seen))

  pub tree_whole : (first : Option TextState) (start : Checker) (reader reader' : Reader) (checker checker' : Checker) (now later : Option TextState)
      (most : ℕ) → most + 256 < 2 ^ 32 → StandTogether first start reader checker now most
      → FeedsPieceFor s reader checker now (Ok true) reader' checker' later → (claims : Stated) → HasSeen s claims [] start
      → FeedsTree s claims first (Ok tt) checker' later
  tree_whole first start reader reader' checker checker' now later most room stands feeds claims seen = feeds claims first most room (stands claims seen)

  pub tree_broken : (first : Option TextState) (start : Checker) (reader reader' : Reader) (checker checker' : Checker) (fault : TextFault)
      (now later : Option TextState) (most : ℕ) → most + 256 < 2 ^ 32 → StandTogether first start reader checker now most
      → FeedsPieceFor s reader checker now (Err fault) reader' checker' later → (claims : Stated) → HasSeen s claims [] start
      → FeedsTree s claims first (Err fault) checker' later
  tree_broken first start reader reader' checker checker' fault now later most room stands feeds claims seen = feeds claims first most room (stands claims seen)

  pub tree_handed : (first : Option TextState) (start : Checker) (reader : Reader) (checker : Checker) (now : Option TextState) (most : ℕ)
      → HasSeenNone s start → StandTogether first start reader checker now most → HasHandedOut s reader now
  tree_handed first start reader checker now most some stands = let at = stands some.0 some.1 in (first, at.fed, at.read)
