-- What each line does to the twig that is being read.
use Rattle.std.specs.Prelude.{ℕ, ◌+◌, ◌-◌, Bool, true, false, Option, None, Some, Ok}
use Rattle.elevator_model.specs.Snapshot.{Snapshot}
use Rattle.search_model.specs.declared.Leaf.{Leaf}
use Rattle.search_model.specs.declared.Twig.{Twig}
use Rattle.search_model.specs.declared.Twig.TheVariants.{Split, Leaf as Tip}
use Rattle.text_sections.specs.Judging.{◌>>=◌}
use Rattle.text_sections.specs.Sections.{Line, Step, goes_on, is_whole, step_of}
use Rattle.cert_text.specs.declared.kinds.Begun.{Begun}
use Rattle.cert_text.specs.declared.kinds.Begun.TheVariants.{Nothing, Split as SplitBegun, Leaf as LeafBegun, End as Ended}
use Rattle.cert_text.specs.declared.kinds.Entry.{Entry}
use Rattle.cert_text.specs.declared.kinds.Entry.TheVariants.{Split as SplitEntry, Leaf as LeafEntry, Price as PriceEntry, Worth as WorthEntry, End as EndEntry}
use Rattle.cert_text.specs.Entries.{Standing, entry_in}
use Rattle.cert_text.specs.Drafts.{empty_leaf, leaf_with_price, leaf_with_worth, judged_head}

-- What a reader of twigs keeps: the open places, the claims so far, and what the last lines began.
pub record Reader : Type 0 where
  pub places : ℕ
  pub claims : ℕ
  pub begun : Begun

-- A twig that is being read: the leaf that is open, if there is one; once it is whole, the twig, and what the
-- line behind it began.
pub record TwigDraft : Type 0 where
  pub snapshot : Snapshot
  pub places : ℕ
  pub claims : ℕ
  pub leaf : Option Leaf
  pub ready : Option Twig
  pub begun : Begun

abbrev pub has_leaf : Option Leaf → Bool
has_leaf None = false
has_leaf (Some leaf) = true

abbrev pub leaf_twig : Option Leaf → Option Twig
leaf_twig None = None
leaf_twig (Some leaf) = Some (Tip leaf)

abbrev pub leaf_changed : (Leaf → Leaf) → Option Leaf → Option Leaf
leaf_changed f None = None
leaf_changed f (Some leaf) = Some (f leaf)

abbrev pub piece_standing : TwigDraft → Standing
piece_standing p = record { snapshot = p.snapshot; in_leaf = has_leaf p.leaf; places = p.places; claims = p.claims }

-- a split is whole at once, where no leaf is open, and else it ends the leaf
abbrev pub split_taken : TwigDraft → ℕ → ℕ → Option Leaf → Step TwigDraft
split_taken p j part None = is_whole (record p { places = p.places + 1; leaf = None; ready = Some (Split j part); begun = Nothing })
split_taken p j part (Some leaf) = is_whole (record p { places = p.places + 1; leaf = None; ready = Some (Tip leaf); begun = SplitBegun j part })

-- a leaf begins, and ends the one that is open
abbrev pub leaf_taken : TwigDraft → Option Leaf → Step TwigDraft
leaf_taken p None = goes_on (record p { places = p.places - 1; leaf = Some empty_leaf })
leaf_taken p (Some leaf) = is_whole (record p { places = p.places - 1; leaf = None; ready = Some (Tip leaf); begun = LeafBegun empty_leaf })

abbrev pub piece_taken : TwigDraft → Entry → Step TwigDraft
piece_taken p (SplitEntry j part) = split_taken p j part p.leaf
piece_taken p LeafEntry = leaf_taken p p.leaf
piece_taken p (PriceEntry price) = goes_on (record p { leaf = leaf_changed (λ leaf. leaf_with_price leaf price) p.leaf })
piece_taken p (WorthEntry worth) =
    goes_on (record p { claims = p.claims + worth.claim; leaf = leaf_changed (λ leaf. leaf_with_worth leaf worth) p.leaf })
piece_taken p EndEntry = is_whole (record p { leaf = None; ready = leaf_twig p.leaf; begun = Ended })

abbrev pub after_piece : TwigDraft → Line → Step TwigDraft
after_piece p words = step_of (entry_in (piece_standing p) words >>= λ entry. Ok (piece_taken p entry))

-- ---- the first line

-- the first line is a section of its own, of which nothing is kept but that it was read
abbrev pub after_first : Bool → Line → Step Bool
after_first read words = step_of (judged_head words >>= λ _. Ok (is_whole true))

-- ---- what is begun where a leaf is being read, or none
abbrev pub leaf_begun : Option Leaf → Begun
leaf_begun None = Nothing
leaf_begun (Some leaf) = LeafBegun leaf

-- the reader behind a piece that is whole
abbrev pub reader_behind : TwigDraft → Reader
reader_behind p = record { places = p.places; claims = p.claims; begun = p.begun }
