-- What a line behind the first one says where the tree stands.
use Rattle.std.specs.Prelude.{ℕ, ◌+◌, ◌==◌, not, Bool, nat_lt, Ok, Err, codes, if◌then◌else◌}
use Rattle.elevator_model.specs.Snapshot.{Snapshot}
use Rattle.search_model.specs.declared.WorthOf.{WorthOf}
use Rattle.lift_text.specs.declared.codes.TextCode.TheVariants.{NoLineWord, OutOfOrder, ClaimsPast}
use Rattle.text_sections.specs.Judging.{Judged, ◌>>=◌, in_order}
use Rattle.text_sections.specs.Words.{is_word, exactly}
use Rattle.text_sections.specs.Sections.{Line}
use Rattle.cert_text.specs.declared.kinds.LineWord.{LineWord}
use Rattle.cert_text.specs.declared.kinds.LineWord.TheVariants.{Certificate, Split as SplitWord, Leaf as LeafWord, Price as PriceWord, Worth as WorthWord}
use Rattle.cert_text.specs.declared.kinds.LineWord.TheVariants.{End as EndWord}
use Rattle.cert_text.specs.declared.kinds.Entry.{Entry}
use Rattle.cert_text.specs.declared.kinds.Entry.TheVariants.{Leaf as LeafEntry, Price as PriceEntry, Worth as WorthEntry, End as EndEntry}
use Rattle.cert_text.specs.Words.{split_said, price_said, worth_said}

-- Where a tree stands before a line.
pub record Standing : Type 0 where
  pub snapshot : Snapshot
  -- the last twig is a leaf
  pub in_leaf : Bool
  -- how many places are open
  pub places : ℕ
  -- the claims so far, added up
  pub claims : ℕ

abbrev pub any_word : Line → Judged LineWord
any_word words =
    if is_word words 0 (codes "certificate") then Ok Certificate
    else (if is_word words 0 (codes "split") then Ok SplitWord
    else (if is_word words 0 (codes "leaf") then Ok LeafWord
    else (if is_word words 0 (codes "price") then Ok PriceWord
    else (if is_word words 0 (codes "worth") then Ok WorthWord
    else (if is_word words 0 (codes "end") then Ok EndWord
    else Err NoLineWord)))))

-- a twig more may come
abbrev pub in_place : Standing → Judged Unit
in_place at = in_order (not (at.places == 0))

-- the claims with one more do not sum past 10^10
abbrev pub claimed : Standing → WorthOf → Judged WorthOf
claimed at worth = if nat_lt 10000000000 (at.claims + worth.claim) then Err ClaimsPast else Ok worth

abbrev pub split_in : Standing → Line → Judged Entry
split_in at words = in_place at >>= λ _. split_said at.snapshot words

abbrev pub leaf_in : Standing → Line → Judged Entry
leaf_in at words = in_place at >>= λ _. (exactly words 1 >>= λ _. Ok LeafEntry)

abbrev pub price_in : Standing → Line → Judged Entry
price_in at words = in_order at.in_leaf >>= λ _. (price_said at.snapshot words >>= λ price. Ok (PriceEntry price))

-- whether the claims sum past their limit is judged last
abbrev pub worth_in : Standing → Line → Judged Entry
worth_in at words = in_order at.in_leaf >>= λ _. (worth_said at.snapshot words >>= λ worth. (claimed at worth >>= λ taken. Ok (WorthEntry taken)))

abbrev pub end_in : Standing → Line → Judged Entry
end_in at words = in_order (at.places == 0) >>= λ _. (exactly words 1 >>= λ _. Ok EndEntry)

abbrev pub judged_word : LineWord → Standing → Line → Judged Entry
judged_word Certificate at words = Err OutOfOrder
judged_word SplitWord at words = split_in at words
judged_word LeafWord at words = leaf_in at words
judged_word PriceWord at words = price_in at words
judged_word WorthWord at words = worth_in at words
judged_word EndWord at words = end_in at words

abbrev pub entry_in : Standing → Line → Judged Entry
entry_in at words = any_word words >>= λ word. judged_word word at words
