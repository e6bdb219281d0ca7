-- What a line says where it is an entry, and the other way round.
use Rattle.std.proofs.Common.{◌≡◌, ℕ, zero, suc, ◌+◌, ◌<◌, ◌≤◌, ◌==◌, not, ltb, Bool, true, false, List, Ok, Err, refl, sym, ap, ◌∙◌, subst, arith}
use Rattle.std.specs.Prelude.{codes, nat_lt, if◌then◌else◌}
use Rattle.std.specs.Str.{bytes_eq}
use Rattle.std.proofs.lemmas.Bool.{eqb-true, eq-eqb, ne_eqb, le-ltb}
use Rattle.std.proofs.lemmas.Slice.Eq.{bytes_eq-Decides}
use Rattle.elevator_model.specs.Snapshot.{Snapshot}
use Rattle.search_model.specs.declared.WorthOf.{WorthOf}
use Rattle.lift_text.specs.declared.codes.TextCode.{TextCode}
use Rattle.lift_text.specs.declared.codes.TextCode.TheVariants.{NoLineWord, ClaimsPast}
use Rattle.text_sections.specs.Judging.{Judged, ◌>>=◌, in_order}
use Rattle.text_sections.specs.Words.{is_word, word_at, exactly, at_least, short, named, says_end}
use Rattle.text_sections.specs.NumberLists.{numbers}
use Rattle.text_sections.specs.Sections.{Line, Step, goes_on, is_whole, is_bad, step_of}
use Rattle.text_sections.proofs.StepLemmas.{then-inv, then-ok, in_order-inv, in_order-ok, named-inv, named-ok, picked}
use Rattle.answer_text.specs.Words.{call_named}
use Rattle.cert_text.specs.declared.kinds.LineWord.{LineWord}
use Rattle.cert_text.specs.declared.kinds.LineWord.TheVariants.{Certificate, Split as SplitWord, Leaf as LeafWord, Price as PriceWord, Worth as WorthWord}
use Rattle.cert_text.specs.declared.kinds.LineWord.TheVariants.{End as EndWord}
use Rattle.cert_text.specs.declared.kinds.Entry.{Entry}
use Rattle.cert_text.specs.declared.kinds.Entry.TheVariants.{Split as SplitEntry, Leaf as LeafEntry, Price as PriceEntry, Worth as WorthEntry, End as EndEntry}
use Rattle.cert_text.specs.Words.{part_named, split_said, price_said, worth_said}
use Rattle.cert_text.specs.Entries.{Standing, any_word, in_place, claimed, judged_word, entry_in}
use Rattle.cert_text.specs.Certs.{says_split, says_leaf, says_price, says_worth}

-- ---- steps

pub step_goes : {A : Type 0} (judged : Judged Entry) (f : Entry → Step A) (next : A) → step_of (judged >>= λ e. Ok (f e)) ≡ goes_on next → (e : Entry)
    × (judged ≡ Ok e) × (f e ≡ goes_on next)
step_goes (Ok e) f next h = (e, refl, h)
step_goes (Err code) f next h = absurd cc

pub step_whole : {A : Type 0} (judged : Judged Entry) (f : Entry → Step A) (end : A) → step_of (judged >>= λ e. Ok (f e)) ≡ is_whole end → (e : Entry)
    × (judged ≡ Ok e) × (f e ≡ is_whole end)
step_whole (Ok e) f end h = (e, refl, h)
step_whole (Err code) f end h = absurd cc

pub step_bad : {A B : Type 0} (judged : Judged Entry) (f : Entry → Step A) (g : Entry → Step B) (code : TextCode) → ((e : Entry) → f e ≡ is_bad code → ⊥)
    → step_of (judged >>= λ e. Ok (f e)) ≡ is_bad code → step_of (judged >>= λ e. Ok (g e)) ≡ is_bad code
step_bad (Ok e) f g code never h = absurd (never e h)
step_bad {A} {B} (Err found) f g code never h = let same : found ≡ code = cc in ap is_bad same

-- ---- line words

abbrev pub text_of : LineWord → List ℕ
text_of Certificate = codes "certificate"
text_of SplitWord = codes "split"
text_of LeafWord = codes "leaf"
text_of PriceWord = codes "price"
text_of WorthWord = codes "worth"
text_of EndWord = codes "end"

any_word_is : (words : Line) (word : LineWord) → any_word words ≡ Ok word → is_word words 0 (text_of word) ≡ true
any_word_is words word e =
    picked text_of words _ Certificate word _ (λ is. is)
    (picked text_of words _ SplitWord word _ (λ is. is)
    (picked text_of words _ LeafWord word _ (λ is. is)
    (picked text_of words _ PriceWord word _ (λ is. is)
    (picked text_of words _ WorthWord word _ (λ is. is)
    (picked text_of words _ EndWord word _ (λ is. is) (λ none. absurd cc)))))) e

-- the line word that this text is
abbrev word_of : List ℕ → Judged LineWord
word_of text =
    if bytes_eq text (codes "certificate") then Ok Certificate
    else (if bytes_eq text (codes "split") then Ok SplitWord
    else (if bytes_eq text (codes "leaf") then Ok LeafWord
    else (if bytes_eq text (codes "price") then Ok PriceWord
    else (if bytes_eq text (codes "worth") then Ok WorthWord
    else (if bytes_eq text (codes "end") then Ok EndWord
    else Err NoLineWord)))))

word_is : (word : LineWord) → word_of (text_of word) ≡ Ok word
word_is Certificate = refl
word_is SplitWord = refl
word_is LeafWord = refl
word_is PriceWord = refl
word_is WorthWord = refl
word_is EndWord = refl

word_named : (words : Line) (word : LineWord) (u : Unit {0}) → named (text_of word) words ≡ Ok u → any_word words ≡ Ok word
word_named words word u e = ap word_of ((bytes_eq-Decides (word_at words 0) (text_of word)).0 (named-inv (is_word words 0 (text_of word)) u e)) ∙ word_is word

-- ---- numbers

some_of : (n : ℕ) → not (n == 0) ≡ true → 0 < n
some_of zero e = absurd cc
some_of (suc n) e = omega arith

of_some : (n : ℕ) → 0 < n → not (n == 0) ≡ true
of_some n some = ap not (ne_eqb n 0 (λ none. omega (arith, some, none)))

claimed_by : (past : Bool) (worth got : WorthOf) → (if past then Err ClaimsPast else Ok worth) ≡ Ok got → (past ≡ false) × (worth ≡ got)
claimed_by true worth got e = absurd cc
claimed_by false worth got e = (refl, cc)

not_past : (n m : ℕ) → ltb n m ≡ false → m ≤ n
not_past n m e = grind (arith, e)

-- ---- an entry and its line

-- what the line says, and where it may stand
abbrev pub Says : Standing → Line → Entry → Type 0
Says at words (SplitEntry j part) = (says_split at.snapshot words ≡ Ok (SplitEntry j part)) × (0 < at.places)
Says at words LeafEntry = (says_leaf words ≡ Ok tt) × (0 < at.places)
Says at words (PriceEntry price) = (says_price at.snapshot words ≡ Ok price) × (at.in_leaf ≡ true)
Says at words (WorthEntry worth) = (says_worth at.snapshot words ≡ Ok worth) × (at.in_leaf ≡ true) × (at.claims + worth.claim ≤ 10000000000)
Says at words EndEntry = (says_end words ≡ Ok tt) × (at.places ≡ 0)

abbrev ok_of : Entry → Judged Entry
ok_of e = Ok e

ok_is : (x y : Entry) → ok_of x ≡ ok_of y → x ≡ y
ok_is x y same = cc

split_form : (s : Snapshot) (words : Line) (e : Entry) → split_said s words ≡ Ok e → (j part : ℕ) × (SplitEntry j part ≡ e)
split_form s words e is =
    let one = then-inv (at_least words 2)
    (λ _. short words 1 >>= λ id.
    (numbers words 2 0 4294967295 >>= λ ids. (call_named s id >>= λ j. (part_named s.building ids >>= λ part. Ok (SplitEntry j part))))) e is in
    let two = then-inv (short words 1)
    (λ id. numbers words 2 0 4294967295 >>= λ ids. (call_named s id >>= λ j. (part_named s.building ids >>= λ part. Ok (SplitEntry j part)))) e one.2 in
    let three = then-inv (numbers words 2 0 4294967295)
    (λ ids. call_named s two.0 >>= λ j. (part_named s.building ids >>= λ part. Ok (SplitEntry j part))) e two.2 in
    let four = then-inv (call_named s two.0) (λ j. part_named s.building three.0 >>= λ part. Ok (SplitEntry j part)) e three.2 in
    let five = then-inv (part_named s.building three.0) (λ part. Ok (SplitEntry four.0 part)) e four.2 in
    (four.0, five.0, ok_is (SplitEntry four.0 five.0) e five.2)

entry_by_word : (at : Standing) (words : Line) (word : LineWord) (e : Entry) → is_word words 0 (text_of word) ≡ true → judged_word word at words ≡ Ok e
    → Says at words e
entry_by_word at words Certificate e is h = absurd cc
entry_by_word at words SplitWord e is h =
    let place = then-inv (in_place at) (λ _. split_said at.snapshot words) e h in
    let form = split_form at.snapshot words e place.2 in
    let said : says_split at.snapshot words ≡ Ok e =
    then-ok (named (codes "split") words) (λ _. split_said at.snapshot words) tt e (named-ok words (text_of SplitWord) is) place.2 in
    let this = subst (λ (x : Entry). says_split at.snapshot words ≡ Ok x) (sym form.2) said in
    subst (λ (x : Entry). Says at words x) form.2 (this, some_of at.places (in_order-inv (not (at.places == 0)) place.0 place.1))
entry_by_word at words LeafWord e is h =
    let place = then-inv (in_place at) (λ _. exactly words 1 >>= λ _. Ok LeafEntry) e h in
    let one = then-inv (exactly words 1) (λ _. Ok LeafEntry) e place.2 in
    let same : LeafEntry ≡ e = ok_is LeafEntry e one.2 in
    subst (λ (x : Entry). Says at words x) same (
      then-ok (named (codes "leaf") words) (λ _. exactly words 1) tt tt (named-ok words (text_of LeafWord) is) one.1,
      some_of at.places (in_order-inv (not (at.places == 0)) place.0 place.1),
    )
entry_by_word at words PriceWord e is h =
    let place = then-inv (in_order at.in_leaf) (λ _. price_said at.snapshot words >>= λ price. Ok (PriceEntry price)) e h in
    let one = then-inv (price_said at.snapshot words) (λ price. Ok (PriceEntry price)) e place.2 in
    let same : PriceEntry one.0 ≡ e = ok_is (PriceEntry one.0) e one.2 in
    subst (λ (x : Entry). Says at words x) same (
      then-ok (named (codes "price") words) (λ _. price_said at.snapshot words) tt one.0 (named-ok words (text_of PriceWord) is) one.1,
      in_order-inv at.in_leaf place.0 place.1,
    )
entry_by_word at words WorthWord e is h =
    let place = then-inv (in_order at.in_leaf) (λ _. worth_said at.snapshot words >>= λ worth. (claimed at worth >>= λ taken. Ok (WorthEntry taken))) e h in
    let one = then-inv (worth_said at.snapshot words) (λ worth. claimed at worth >>= λ taken. Ok (WorthEntry taken)) e place.2 in
    let two = then-inv (claimed at one.0) (λ taken. Ok (WorthEntry taken)) e one.2 in
    let room = claimed_by (nat_lt 10000000000 (at.claims + one.0.claim)) one.0 two.0 two.1 in
    let same : WorthEntry one.0 ≡ e = ap (λ (w : WorthOf). WorthEntry w) room.1 ∙ ok_is (WorthEntry two.0) e two.2 in
    subst (λ (x : Entry). Says at words x) same (
      then-ok (named (codes "worth") words) (λ _. worth_said at.snapshot words) tt one.0 (named-ok words (text_of WorthWord) is) one.1,
      in_order-inv at.in_leaf place.0 place.1,
      not_past 10000000000 (at.claims + one.0.claim) room.0,
    )
entry_by_word at words EndWord e is h =
    let place = then-inv (in_order (at.places == 0)) (λ _. exactly words 1 >>= λ _. Ok EndEntry) e h in
    let one = then-inv (exactly words 1) (λ _. Ok EndEntry) e place.2 in
    let same : EndEntry ≡ e = ok_is EndEntry e one.2 in
    subst (λ (x : Entry). Says at words x) same (
      then-ok (named (codes "end") words) (λ _. exactly words 1) tt tt (named-ok words (text_of EndWord) is) one.1,
      eqb-true at.places 0 (in_order-inv (at.places == 0) place.0 place.1),
    )

-- what a line says that is taken
pub entry_says : (at : Standing) (words : Line) (e : Entry) → entry_in at words ≡ Ok e → Says at words e
entry_says at words e h =
    let word = then-inv (any_word words) (λ w. judged_word w at words) e h in
    entry_by_word at words word.0 e (any_word_is words word.0 word.1) word.2

by_word : (at : Standing) (words : Line) (word : LineWord) (e : Entry) → any_word words ≡ Ok word → judged_word word at words ≡ Ok e → entry_in at words ≡ Ok e
by_word at words word e found judged = then-ok (any_word words) (λ w. judged_word w at words) word e found judged

-- a line that says so is taken
pub says_entry : (at : Standing) (words : Line) (e : Entry) → Says at words e → entry_in at words ≡ Ok e
says_entry at words (SplitEntry j part) says =
    let name = then-inv (named (codes "split") words) (λ _. split_said at.snapshot words) (SplitEntry j part) says.0 in
    by_word at words SplitWord (SplitEntry j part) (word_named words SplitWord name.0 name.1)
    (then-ok (in_place at) (λ _. split_said at.snapshot words) tt (SplitEntry j part) (in_order-ok (not (at.places == 0)) (of_some at.places says.1)) name.2)
says_entry at words LeafEntry says =
    let name = then-inv (named (codes "leaf") words) (λ _. exactly words 1) tt says.0 in
    by_word at words LeafWord LeafEntry (word_named words LeafWord name.0 name.1)
    (then-ok (in_place at) (λ _. exactly words 1 >>= λ _. Ok LeafEntry) tt LeafEntry (in_order-ok (not (at.places == 0)) (of_some at.places says.1))
    (then-ok (exactly words 1) (λ _. Ok LeafEntry) tt LeafEntry name.2 refl))
says_entry at words (PriceEntry price) says =
    let name = then-inv (named (codes "price") words) (λ _. price_said at.snapshot words) price says.0 in
    by_word at words PriceWord (PriceEntry price) (word_named words PriceWord name.0 name.1)
    (then-ok (in_order at.in_leaf) (λ _. price_said at.snapshot words >>= λ p. Ok (PriceEntry p)) tt (PriceEntry price) (in_order-ok at.in_leaf says.1)
    (then-ok (price_said at.snapshot words) (λ p. Ok (PriceEntry p)) price (PriceEntry price) name.2 refl))
says_entry at words (WorthEntry worth) says =
    let name = then-inv (named (codes "worth") words) (λ _. worth_said at.snapshot words) worth says.0 in
    let room : claimed at worth ≡ Ok worth =
    ap (λ (past : Bool). if past then Err ClaimsPast else Ok worth) (le-ltb 10000000000 (at.claims + worth.claim) says.2) in
    by_word at words WorthWord (WorthEntry worth) (word_named words WorthWord name.0 name.1)
    (then-ok (in_order at.in_leaf) (λ _. worth_said at.snapshot words >>= λ w. (claimed at w >>= λ taken. Ok (WorthEntry taken))) tt (WorthEntry worth)
    (in_order-ok at.in_leaf says.1)
    (then-ok (worth_said at.snapshot words) (λ w. claimed at w >>= λ taken. Ok (WorthEntry taken)) worth (WorthEntry worth) name.2
    (then-ok (claimed at worth) (λ taken. Ok (WorthEntry taken)) worth (WorthEntry worth) room refl)))
says_entry at words EndEntry says =
    let name = then-inv (named (codes "end") words) (λ _. exactly words 1) tt says.0 in
    by_word at words EndWord EndEntry (word_named words EndWord name.0 name.1)
    (then-ok (in_order (at.places == 0)) (λ _. exactly words 1 >>= λ _. Ok EndEntry) tt EndEntry (in_order-ok (at.places == 0) (eq-eqb at.places 0 says.1))
    (then-ok (exactly words 1) (λ _. Ok EndEntry) tt EndEntry name.2 refl))
