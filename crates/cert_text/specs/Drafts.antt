-- What each line does to a certificate section, as far as it was read.
use Rattle.std.specs.Prelude.{ℕ, ◌+◌, ◌-◌, Bool, true, false, List, [], ◌∷◌, ◌++◌, Ok, codes}
use Rattle.elevator_model.specs.Snapshot.{Snapshot}
use Rattle.search_model.specs.declared.PriceOf.{PriceOf}
use Rattle.search_model.specs.declared.WorthOf.{WorthOf}
use Rattle.search_model.specs.declared.Leaf.{Leaf}
use Rattle.search_model.specs.declared.Twig.{Twig}
use Rattle.search_model.specs.declared.Twig.TheVariants.{Split, Leaf as Tip}
use Rattle.text_sections.specs.Judging.{Judged, ◌>>=◌}
use Rattle.text_sections.specs.Sections.{Line, Step, goes_on, is_whole, step_of}
use Rattle.text_sections.specs.Words.{named}
use Rattle.cert_text.specs.declared.kinds.Entry.{Entry}
use Rattle.cert_text.specs.declared.kinds.Entry.TheVariants.{Split as SplitEntry, Leaf as LeafEntry, Price as PriceEntry, Worth as WorthEntry, End as EndEntry}
use Rattle.cert_text.specs.Words.{head_said}
use Rattle.cert_text.specs.Entries.{Standing, entry_in}

-- What was read of a certificate section.
pub record Draft : Type 0 where
  pub snapshot : Snapshot
  -- the first line was read
  pub begun : Bool
  -- how many places of the tree are open
  pub places : ℕ
  -- the claims so far, added up
  pub claims : ℕ
  -- the twigs so far: prices and worths are added to the last of them, where it is a leaf
  pub twigs : List Twig

-- before the first line, and behind it
abbrev pub blank : Snapshot → Draft
blank s = record { snapshot = s; begun = false; places = 1; claims = 0; twigs = [] }

abbrev pub rooted : Snapshot → Draft
rooted s = record { snapshot = s; begun = true; places = 1; claims = 0; twigs = [] }

-- ---- the last leaf

abbrev pub empty_leaf : Leaf
empty_leaf = record { prices = []; worths = [] }

abbrev pub is_leaf : Twig → Bool
is_leaf (Split j part) = false
is_leaf (Tip leaf) = true

abbrev pub ends_with_leaf : List Twig → Bool
ends_with_leaf [] = false
ends_with_leaf (twig ∷ []) = is_leaf twig
ends_with_leaf (twig ∷ next ∷ twigs) = ends_with_leaf (next ∷ twigs)

abbrev pub leaf_with_price : Leaf → PriceOf → Leaf
leaf_with_price leaf price = record leaf { prices = leaf.prices ++ price ∷ [] }

abbrev pub leaf_with_worth : Leaf → WorthOf → Leaf
leaf_with_worth leaf worth = record leaf { worths = leaf.worths ++ worth ∷ [] }

-- a twig with a change of its leaf, if it is one
abbrev pub changed : (Leaf → Leaf) → Twig → Twig
changed f (Split j part) = Split j part
changed f (Tip leaf) = Tip (f leaf)

-- the twigs with a change in the last of them
abbrev pub last_changed : (Leaf → Leaf) → List Twig → List Twig
last_changed f [] = []
last_changed f (twig ∷ []) = changed f twig ∷ []
last_changed f (twig ∷ next ∷ twigs) = twig ∷ last_changed f (next ∷ twigs)

-- ---- what a line does

abbrev pub standing : Draft → Standing
standing d = record { snapshot = d.snapshot; in_leaf = ends_with_leaf d.twigs; places = d.places; claims = d.claims }

abbrev pub taken : Draft → Entry → Step Draft
taken d (SplitEntry j part) = goes_on (record d { places = d.places + 1; twigs = d.twigs ++ Split j part ∷ [] })
taken d LeafEntry = goes_on (record d { places = d.places - 1; twigs = d.twigs ++ Tip empty_leaf ∷ [] })
taken d (PriceEntry price) = goes_on (record d { twigs = last_changed (λ leaf. leaf_with_price leaf price) d.twigs })
taken d (WorthEntry worth) =
    goes_on (record d { claims = d.claims + worth.claim; twigs = last_changed (λ leaf. leaf_with_worth leaf worth) d.twigs })
taken d EndEntry = is_whole d

-- where the first line is due, its word is the only one
abbrev pub judged_head : Line → Judged ℕ
judged_head words = named (codes "certificate") words >>= λ _. head_said words

abbrev pub after_head : Draft → Line → Step Draft
after_head d words = step_of (judged_head words >>= λ _. Ok (goes_on (record d { begun = true })))

abbrev pub after_entry : Draft → Line → Step Draft
after_entry d words = step_of (entry_in (standing d) words >>= λ entry. Ok (taken d entry))

abbrev pub after_by : Bool → Draft → Line → Step Draft
after_by false d words = after_head d words
after_by true d words = after_entry d words

abbrev pub after : Draft → Line → Step Draft
after d words = after_by d.begun d words
