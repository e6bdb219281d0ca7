-- Rows that are brought to banks, one line after another.
use Rattle.std.proofs.Common.{◌≡◌, ℕ, zero, suc, ◌+◌, ◌<◌, ◌≤◌, ◌⊎◌, inl, inr, Bool, true, false, cond, ◌||◌, eqb, List, [], ◌∷◌, ◌++◌, map, length, get_or}
use Rattle.std.proofs.Common.{set, Option, None, Some, refl, sym, ap, subst, ◌∙◌, arith, append-nil, append_assoc}
use Rattle.std.specs.Prelude.{option_map, slice_get}
use Rattle.std.specs.List.{cons_option, list_any}
use Rattle.std.proofs.lemmas.Bool.{cases_lt, eq-eqb, ne_eqb}
use Rattle.std.proofs.lemmas.List.{length-map, map-set}
use Rattle.std.proofs.lemmas.List.Elements.{filter_map-append}
use Rattle.std.proofs.lemmas.Option.{none-some, same_Some, slice_get-get_or, slice_get-map, slice_get_within}
use Rattle.search_model.specs.Days.{Row}
use Rattle.bank_text.specs.declared.banks.Bank.{Bank}
use Rattle.bank_text.specs.BankRows.{Said, is_said_in, rows_of, said_in}
use Rattle.bank_text.specs.Banks.{AreDistinct, BankView, all_with, ids_of, view_of, views_of, with_rows, with_saids}

-- ---- ids

abbrev pub view_ids : List BankView → List ℕ
view_ids views = map (λ (view : BankView). view.id) views

pub ids_seen : (banks : List Bank) → view_ids (views_of banks) ≡ ids_of banks
ids_seen [] = refl
ids_seen (bank ∷ banks) = ap (λ (ids : List ℕ). bank.id ∷ ids) (ids_seen banks)

ids_kept : (saids : List (Option Said)) (views : List BankView) → view_ids (all_with saids views) ≡ view_ids views
ids_kept saids [] = refl
ids_kept saids (view ∷ views) = ap (λ (ids : List ℕ). view.id ∷ ids) (ids_kept saids views)

-- what lines bring leaves the ids as they were
pub same_ids : (old new : List Bank) (saids : List (Option Said)) → views_of new ≡ all_with saids (views_of old) → ids_of new ≡ ids_of old
same_ids old new saids is = sym (ids_seen new) ∙ ap view_ids is ∙ ids_kept saids (views_of old) ∙ ids_seen old

pub id_at : (banks : List Bank) (place : ℕ) (d : Bank) → place < length banks → slice_get (ids_of banks) place ≡ Some (get_or banks place d).id
id_at banks place d within = slice_get-map (λ (b : Bank). b.id) banks place ∙ ap (option_map (λ (b : Bank). b.id)) (slice_get-get_or banks place d within)

-- one place more that has another id
pub none_more : (ids : List ℕ) (place id other : ℕ) → slice_get ids place ≡ Some other → (other ≡ id → ⊥)
    → ((k : ℕ) → k < place → slice_get ids k ≡ Some id → ⊥) → (k : ℕ) → k < place + 1 → slice_get ids k ≡ Some id → ⊥
none_more ids place id other there differs before k below is = by_place (cases_lt k place)
  where
    by_place : (k < place) ⊎ (place ≤ k) → ⊥
    by_place (inl lower) = before k lower is
    by_place (inr here) =
        let same : k ≡ place = omega (arith, below, here) in
        differs (same_Some other id (sym there ∙ subst (λ (n : ℕ). slice_get ids n ≡ Some id) same is))

pub none_at_all : (banks : List Bank) (place id : ℕ) → length banks ≤ place → ((k : ℕ) → k < place → slice_get (ids_of banks) k ≡ Some id → ⊥) → (k : ℕ)
    → slice_get (ids_of banks) k ≡ Some id → ⊥
none_at_all banks place id past before k is =
    let within = slice_get_within (ids_of banks) k id is in
    let size = length-map banks (λ (bank : Bank). bank.id) in
    before k (omega (arith, within, size, past)) is

-- ---- one row

-- what is said for another bank brings nothing
other_bank : (view : BankView) (id : ℕ) (row : Option Row) → (view.id ≡ id → ⊥) → with_saids (Some (id, row) ∷ []) view ≡ view
other_bank view id row other =
    let nothing : said_in view.id (Some (id, row)) ≡ None = ap (λ (x : Bool). cond {A = Option (Option Row)} x (Some row) None) (ne_eqb view.id id other) in
    ap (λ (o : Option (Option Row)). with_rows view (cons_option o [])) nothing
    ∙ ap (λ (rows : List (Option Row)). record { id = view.id; opening = view.opening; rows = rows }) (append-nil view.rows)

this_bank : (view : BankView) (id : ℕ) (row : Option Row) → view.id ≡ id → with_saids (Some (id, row) ∷ []) view ≡ with_rows view (row ∷ [])
this_bank view id row same =
    let said : said_in view.id (Some (id, row)) ≡ Some row = ap (λ (x : Bool). cond {A = Option (Option Row)} x (Some row) None) (eq-eqb view.id id same) in
    ap (λ (o : Option (Option Row)). with_rows view (cons_option o [])) said

abbrev HaveNot : List BankView → ℕ → Type 0
HaveNot views id = (k : ℕ) → slice_get (view_ids views) k ≡ Some id → ⊥

no_bank : (views : List BankView) (id : ℕ) (row : Option Row) → HaveNot views id → all_with (Some (id, row) ∷ []) views ≡ views
no_bank [] id row none = refl
no_bank (view ∷ views) id row none =
    ap (λ (v : BankView). v ∷ all_with (Some (id, row) ∷ []) views) (other_bank view id row (λ same. none 0 (ap (λ (n : ℕ). Some n) same)))
    ∙ ap (λ (vs : List BankView). view ∷ vs) (no_bank views id row (λ k is. none (suc k) is))

one_bank : (views : List BankView) (place id : ℕ) (row : Option Row) (view : BankView) → slice_get views place ≡ Some view → view.id ≡ id
    → ((k : ℕ) → slice_get (view_ids views) k ≡ Some id → k ≡ place)
    → set views place (with_rows view (row ∷ [])) ≡ all_with (Some (id, row) ∷ []) views
one_bank [] place id row view there is only = absurd (none-some view there)
one_bank (first ∷ views) zero id row view there is only =
    let same : first ≡ view = same_Some first view there in
    let none : HaveNot views id = λ k at. (let e = only (suc k) at in omega (arith, e)) in
    ap (λ (v : BankView). with_rows v (row ∷ []) ∷ views) (sym same)
    ∙ ap (λ (v : BankView). v ∷ views) (sym (this_bank first id row (ap (λ (v : BankView). v.id) same ∙ is)))
    ∙ ap (λ (vs : List BankView). with_saids (Some (id, row) ∷ []) first ∷ vs) (sym (no_bank views id row none))
one_bank (first ∷ views) (suc place) id row view there is only =
    let other : first.id ≡ id → ⊥ = λ same. (let e = only 0 (ap (λ (n : ℕ). Some n) same) in omega (arith, e)) in
    let later = one_bank views place id row view there is (λ k at. (let e = only (suc k) at in omega (arith, e))) in
    ap (λ (vs : List BankView). first ∷ vs) later ∙ ap (λ (v : BankView). v ∷ all_with (Some (id, row) ∷ []) views) (sym (other_bank first id row other))

-- a row was put into the one bank that it names
pub row_added : (banks : List Bank) (place id : ℕ) (row : Option Row) (d after : Bank) → AreDistinct (ids_of banks) → slice_get (ids_of banks) place ≡ Some id
    → place < length banks
    → view_of after ≡ with_rows (view_of (get_or banks place d)) (row ∷ []) → views_of (set banks place after) ≡ all_with (Some (id, row) ∷ []) (views_of banks)
row_added banks place id row d after distinct there within added =
    let before = get_or banks place d in
    let seen = slice_get-map view_of banks place ∙ ap (option_map view_of) (slice_get-get_or banks place d within) in
    let same : before.id ≡ id = same_Some before.id id (sym (id_at banks place d within) ∙ there) in
    map-set view_of banks place after ∙ ap (λ (v : BankView). set (views_of banks) place v) added
    ∙ one_bank (views_of banks) place id row (view_of before) seen same
    (λ k at. distinct k place id (subst (λ (ids : List ℕ). slice_get ids k ≡ Some id) (ids_seen banks) at) there)

pub row_of_none : (banks : List Bank) (id : ℕ) (row : Option Row) → ((k : ℕ) → slice_get (ids_of banks) k ≡ Some id → ⊥)
    → views_of banks ≡ all_with (Some (id, row) ∷ []) (views_of banks)
row_of_none banks id row none = sym (no_bank (views_of banks) id row (λ k at. none k (subst (λ (ids : List ℕ). slice_get ids k ≡ Some id) (ids_seen banks) at)))

-- whether some bank is named
pub some_named : (ids : List ℕ) (place id : ℕ) (row : Option Row) → slice_get ids place ≡ Some id → true ≡ list_any (is_said_in (Some (id, row))) ids
some_named [] place id row there = absurd (none-some id there)
some_named (first ∷ ids) zero id row there =
    sym (ap (λ (x : Bool). x || list_any (is_said_in (Some (id, row))) ids) (eq-eqb first id (same_Some first id there)))
some_named (first ∷ ids) (suc place) id row there = either (eqb first id) (list_any (is_said_in (Some (id, row))) ids) (some_named ids place id row there)
  where
    either : (x y : Bool) → true ≡ y → true ≡ (x || y)
    either true y is = refl
    either false y is = is

pub none_named : (ids : List ℕ) (id : ℕ) (row : Option Row) → ((k : ℕ) → slice_get ids k ≡ Some id → ⊥) → false ≡ list_any (is_said_in (Some (id, row))) ids
none_named [] id row none = refl
none_named (first ∷ ids) id row none =
    none_named ids id row (λ k at. none (suc k) at)
    ∙ sym (ap (λ (x : Bool). x || list_any (is_said_in (Some (id, row))) ids) (ne_eqb first id (λ same. none 0 (ap (λ (n : ℕ). Some n) same))))

-- ---- lines one after another

-- nothing is said
pub nothing_more : (views : List BankView) → views ≡ all_with (None ∷ []) views
nothing_more [] = refl
nothing_more (view ∷ views) =
    ap (λ (rows : List (Option Row)). (record { id = view.id; opening = view.opening; rows = rows }) ∷ views) (sym (append-nil view.rows))
    ∙ ap (λ (vs : List BankView). with_saids (None ∷ []) view ∷ vs) (nothing_more views)

pub no_lines : (views : List BankView) → views ≡ all_with [] views
no_lines [] = refl
no_lines (view ∷ views) =
    ap (λ (rows : List (Option Row)). (record { id = view.id; opening = view.opening; rows = rows }) ∷ views) (sym (append-nil view.rows))
    ∙ ap (λ (vs : List BankView). with_saids [] view ∷ vs) (no_lines views)

one_more : (view : BankView) (saids : List (Option Said)) (said : Option Said)
    → with_saids (said ∷ []) (with_saids saids view) ≡ with_saids (saids ++ said ∷ []) view
one_more view saids said =
    ap (λ (rows : List (Option Row)). record { id = view.id; opening = view.opening; rows = rows })
    (append_assoc view.rows (rows_of view.id saids) (rows_of view.id (said ∷ []))
    ∙ ap (λ (rows : List (Option Row)). view.rows ++ rows) (sym (filter_map-append (said_in view.id) saids (said ∷ []))))

pub line_more : (views : List BankView) (saids : List (Option Said)) (said : Option Said)
    → all_with (said ∷ []) (all_with saids views) ≡ all_with (saids ++ said ∷ []) views
line_more [] saids said = refl
line_more (view ∷ views) saids said =
    ap (λ (v : BankView). v ∷ all_with (said ∷ []) (all_with saids views)) (one_more view saids said)
    ∙ ap (λ (vs : List BankView). with_saids (saids ++ said ∷ []) view ∷ vs) (line_more views saids said)
