-- The lines that stand for a certificate.
use Rattle.std.specs.Prelude.{◌≡◌, ℕ, ◌≤◌, List, [], ◌∷◌, ◌++◌, Option, None, Some, IfSome, IsSomeAnd, Result, Ok, Err, codes, ◌⊎◌}
use Rattle.elevator_model.specs.Snapshot.{Snapshot}
use Rattle.search_model.specs.declared.PriceOf.{PriceOf}
use Rattle.search_model.specs.declared.WorthOf.{WorthOf}
use Rattle.search_model.specs.declared.Leaf.{Leaf}
use Rattle.search_model.specs.declared.Twig.{Twig}
use Rattle.search_model.specs.declared.Twig.TheVariants.{Split, Leaf as Tip}
use Rattle.lift_text.specs.Reading.{TextState, Reading, reading}
use Rattle.lift_text.specs.declared.faults.TextFault.{TextFault}
use Rattle.lift_text.specs.declared.faults.TextFault.TheVariants.{Read, TooLong, Bad, NoMemory}
use Rattle.text_sections.specs.Judging.{Judged, ◌>>=◌}
use Rattle.text_sections.specs.Words.{exactly, named, says_end}
use Rattle.text_sections.specs.Sections.{Line, ReadAs}
use Rattle.text_sections.specs.Canonical.{BeginsWith}
use Rattle.cert_text.specs.declared.kinds.Entry.{Entry}
use Rattle.cert_text.specs.declared.kinds.Entry.TheVariants.{Split as SplitEntry}
use Rattle.cert_text.specs.Words.{split_said, price_said, worth_said}
use Rattle.cert_text.specs.Trees.{places_left, sum_of_claims}
use Rattle.cert_text.specs.Drafts.{Draft, blank, judged_head, after}

-- ---- what a line of each kind says

abbrev pub says_head : Line → Judged ℕ
says_head words = judged_head words

-- a call and a set of cars
abbrev pub says_split : Snapshot → Line → Judged Entry
says_split s words = named (codes "split") words >>= λ _. split_said s words

abbrev pub says_leaf : Line → Judged Unit
says_leaf words = named (codes "leaf") words >>= λ _. exactly words 1

abbrev pub says_price : Snapshot → Line → Judged PriceOf
says_price s words = named (codes "price") words >>= λ _. price_said s words

abbrev pub says_worth : Snapshot → Line → Judged WorthOf
says_worth s words = named (codes "worth") words >>= λ _. worth_said s words

-- ---- a whole section

-- a line says a price, which is the first of these, and then those are left
abbrev pub SaysPrice : Snapshot → Line → List PriceOf → List PriceOf → Type 0
SaysPrice s line prices later = (price : PriceOf) × (says_price s line ≡ Ok price) × (prices ≡ price ∷ later)

abbrev pub SaysWorth : Snapshot → Line → List WorthOf → List WorthOf → Type 0
SaysWorth s line worths later = (worth : WorthOf) × (says_worth s line ≡ Ok worth) × (worths ≡ worth ∷ later)

-- each of these lines says a price or a worth, in any order: those of one kind in the order of their list
abbrev pub SayItems : Snapshot → List Line → List PriceOf → List WorthOf → Type 0
SayItems s [] prices worths = (prices ≡ []) × (worths ≡ [])
SayItems s (line ∷ lines) prices worths =
    ((later : List PriceOf) × SaysPrice s line prices later × SayItems s lines later worths)
    ⊎ ((later : List WorthOf) × SaysWorth s line worths later × SayItems s lines prices later)

-- these lines say a leaf: one that begins it, and one for each price and worth
pub record SaysLeaf (s : Snapshot) (lines : List Line) (leaf : Leaf) : Type 0 where
  pub first : Line
  pub items : List Line
  pub lines_are : lines ≡ first ∷ items
  pub leaf_is_said : says_leaf first ≡ Ok tt
  pub items_are_said : SayItems s items leaf.prices leaf.worths

-- this line says a split
pub record SaysSplit (s : Snapshot) (lines : List Line) (j part : ℕ) : Type 0 where
  pub line : Line
  pub lines_are : lines ≡ line ∷ []
  pub split_is_said : says_split s line ≡ Ok (SplitEntry j part)

abbrev pub SaysTwig : Snapshot → List Line → Twig → Type 0
SaysTwig s lines (Split j part) = SaysSplit s lines j part
SaysTwig s lines (Tip leaf) = SaysLeaf s lines leaf

-- these lines say the twigs one after the other
abbrev pub SayTwigs : Snapshot → List Line → List Twig → Type 0
SayTwigs s lines [] = lines ≡ []
SayTwigs s lines (twig ∷ twigs) = (own later : List Line) × (lines ≡ own ++ later) × SaysTwig s own twig × SayTwigs s later twigs

-- These lines stand for this tree: the head, the twigs in preorder, and the end. The twigs fill all places, and
-- the claims sum to 10^10 at most.
pub record StandsFor (s : Snapshot) (lines : List Line) (tree : List Twig) : Type 0 where
  pub head : Line
  pub twigs : List Line
  pub end : Line
  pub lines_are : lines ≡ head ∷ twigs ++ end ∷ []
  pub head_is_said : says_head head ≡ Ok 1
  pub twigs_are_said : SayTwigs s twigs tree
  pub end_is_said : says_end end ≡ Ok tt
  pub whole : places_left 1 tree ≡ Some 0
  pub claims : sum_of_claims tree ≤ 10000000000

-- ---- what is read

-- this tree is what was read, and this is left
abbrev pub IsReadCert : Option TextState → Snapshot → List Twig → Option TextState → Type 0
IsReadCert before s tree now = (end : Draft) × (end.twigs ≡ tree) × ReadAs after before (blank s) (Ok tt) end now

-- this fault is what was read
abbrev pub IsRefusedCert : Option TextState → Snapshot → TextFault → Option TextState → Type 0
IsRefusedCert before s fault now = (end : Draft) × ReadAs after before (blank s) (Err fault) end now

-- the text began with lines that stand for this tree, and the rest of it is left; where the source does not tell
-- what it has left, there are such lines
abbrev pub IsSaid : Option TextState → Snapshot → List Twig → Option TextState → Type 0
IsSaid (Some text) s tree (Some behind) = (lines : List Line) × BeginsWith lines (reading text) (reading behind) × StandsFor s lines tree
IsSaid (Some text) s tree None = ⊥
IsSaid None s tree now = (lines : List Line) × StandsFor s lines tree

-- this tree is what was read, and this is left: only a failed read and want of memory come in its place
abbrev pub IsAnswered : List Twig → Reading → Result (List Twig) TextFault → Option TextState → Type 0
IsAnswered tree rest (Ok found) now = (found ≡ tree) × IsSomeAnd now (λ behind. reading behind ≡ rest)
IsAnswered tree rest (Err Read) now = Unit {0}
IsAnswered tree rest (Err TooLong) now = ⊥
IsAnswered tree rest (Err (Bad line code)) now = ⊥
IsAnswered tree rest (Err NoMemory) now = Unit {0}

-- where the text begins with lines that stand for a tree, that one is read, whatever follows
abbrev pub ReadsLines : Option TextState → Snapshot → Result (List Twig) TextFault → Option TextState → Type 0
ReadsLines before s answer now = (lines : List Line) (tree : List Twig) (rest : Reading) → StandsFor s lines tree
    → IfSome before (λ text. BeginsWith lines (reading text) rest → IsAnswered tree rest answer now)
