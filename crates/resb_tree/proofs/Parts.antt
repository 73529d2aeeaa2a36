-- Items and entries by where they stand.
use Rattle.std.proofs.Common.{◌≡◌, ℕ, zero, suc, ◌+◌, ◌-◌, ◌*◌, ◌/◌, ◌%◌, ◌<◌, ◌≤◌, true, cond, List, [], ◌∷◌, Option, Some, None, refl, sym, ◌∙◌, inl, inr, arith}
use Rattle.std.specs.Prelude.{slice_index, map}
use Rattle.std.proofs.lemmas.Bool.{cases_eq}
use Rattle.std.proofs.lemmas.Bool.Decides.{nat_tests}
use Rattle.resb_tree.specs.declared.resource.Resource.{Resource}
use Rattle.resb_tree.specs.declared.resource.Resource.TheVariants as r
use Rattle.resb_tree.specs.declared.resource.Resource.TheVariants.{rolls-Array, rolls-Table}
use Rattle.resb_tree.specs.declared.forms.ArrayForm.{ArrayForm}
use Rattle.resb_tree.specs.declared.forms.ArrayForm.TheVariants as array
use Rattle.resb_tree.specs.declared.forms.TableForm.{TableForm}
use Rattle.resb_tree.specs.declared.forms.TableForm.TheVariants as table
use Rattle.resb_tree.specs.Words.{run, unit_in}
use Rattle.resb_tree.specs.Keys.{distinct}
use Rattle.resb_tree.specs.Contents.{items_in, entries_in}
use Rattle.resb_tree.specs.Options.{◌>>=◌}
use Rattle.resb_tree.specs.Bodies.{Body, area_len, area_unit}
use Rattle.resb_tree.specs.Arrays.{all_of, array_at, short_array_at}
use Rattle.resb_tree.specs.Tables.{entries_of, key_at, short_table_at}
use Rattle.resb_tree.specs.Tree.{by_type, tree_at}
use Rattle.resb_tree.specs.Inside.Forms.{item_in, items_end, entry_in, EntriesLie}
use Rattle.resb_tree.specs.Inside.Counts.{no_items, array_count, no_entries, table_count}
use Rattle.resb_tree.specs.Inside.Places.{the_tree, tree_there, IsTree, items_there, AreItems, entries_there, AreEntries}
use Rattle.resb_tree.specs.Inside.KeyPlaces.{the_list, key_there}
use Rattle.resb_tree.specs.Inside.Parts.{items_count, entries_end, entries_count, array_form, table_form}
use Rattle.resb_tree.proofs.Left.{array_by, table_by, narrow_table, wide_table}
use Rattle.resb_tree.proofs.Checks.{bind_some}
use Rattle.resb_tree.proofs.LeafParts.{out_of, parts_found, count_fits, count_here, tree_is, items_none, entries_none}

-- ---- what each of some values gives

abbrev each_of : {A B : Type 0} → (A → Option B) → List A → Option (List B)
each_of one [] = Some []
each_of one (x ∷ xs) = one x >>= λ y. each_of one xs >>= λ ys. Some (y ∷ ys)

all_is : (one : ℕ → Option Resource) (xs : List ℕ) → all_of one xs ≡ each_of one xs
all_is one [] = refl
all_is one (x ∷ xs) = rw (all_is one xs) refl

abbrev both : (ℕ → Option (List ℕ)) → (ℕ → Option Resource) → ℕ × ℕ → Option (List ℕ × Resource)
both key one e = key e.0 >>= λ n. one e.1 >>= λ x. Some (n, x)

entries_are : (key : ℕ → Option (List ℕ)) (one : ℕ → Option Resource) (es : List (ℕ × ℕ)) → entries_of key one es ≡ each_of (both key one) es
entries_are key one [] = refl
entries_are key one (e ∷ es) = rw (entries_are key one es) (by (key e.0) (one e.1) (each_of (both key one) es))
  where
    by : (name : Option (List ℕ)) (value : Option Resource) (others : Option (List (List ℕ × Resource)))
        → (name >>= λ n. value >>= λ x. others >>= λ es. Some ((n, x) ∷ es)) ≡ ((name >>= λ n. value >>= λ x. let e : List ℕ × Resource = (n, x) in Some e) >>= λ e. others >>= λ es. Some (e ∷ es))
    by None value others = refl
    by (Some n) None others = refl
    by (Some n) (Some x) others = refl

-- where each gave something, these are what they gave
each_found : {A B : Type 0} (one : A → Option B) (the : A → B) → ((x : A) (y : B) → one x ≡ Some y → the x ≡ y) → (at : ℕ → A) (from count : ℕ) (ys : List B) → each_of one (run at from count) ≡ Some ys
    → (run (λ k. the (at k)) from count ≡ ys) × ((k : ℕ) → from ≤ k → k < from + count → one (at k) ≡ Some (the (at k)))
each_found one the sure at from zero ys h = let e : [] ≡ ys = cc in (e, λ k low high. absurd (omega arith))
each_found one the sure at from (suc count) ys h =
    let y = bind_some (one (at from)) _ ys h in
    let others = bind_some (each_of one (run at (from + 1) count)) _ ys y.1.1 in
    let e : y.0 ∷ others.0 ≡ ys = let f : Some (y.0 ∷ others.0) ≡ Some ys = others.1.1 in cc in
    let more = each_found one the sure at (from + 1) count others.0 others.1.0 in
    let first : the (at from) ≡ y.0 = sure (at from) y.0 y.1.0 in (
      rw (first, more.0) e,
      λ k low high. elim (cases_eq k from) [
        | inl here ↦ rw (here, first) y.1.0
        | inr later ↦ more.1 k (omega arith) (omega arith)
      ],
    )

record BothFound (key : Option (List ℕ)) (tree : Option Resource) (y : List ℕ × Resource) : Type 0 where
  is_key : key ≡ Some (the_list key)
  is_tree : tree ≡ Some (the_tree tree)
  there : (the_list key, the_tree tree) ≡ y

both_found : (key : Option (List ℕ)) (tree : Option Resource) (y : List ℕ × Resource) → (key >>= λ n. tree >>= λ x. let e : List ℕ × Resource = (n, x) in Some e) ≡ Some y → BothFound key tree y
both_found None tree y h = cc
both_found (Some n) None y h = cc
both_found (Some n) (Some x) y h = let e : (n, x) ≡ y = cc in record { is_key = refl; is_tree = refl; there = e }

-- ---- items

items_counted : (form : ArrayForm) (b : Body) (v n : ℕ) → 0 < b.end → cond (no_items form v) (Some 0) (array_count form b v) ≡ Some n → (v < items_end form b) × (v + 1 + n ≤ items_end form b) × (items_count form b v ≡ n)
items_counted array.Long b v n pos h =
    let c = count_here v b.end (λ n. v + 1 + (n + 1 - 1) / 1) (slice_index b.words v) n (λ z. omega (arith, z)) pos h in
    let fit = c.1 in
    (c.0, omega arith, c.2)
items_counted array.Short b v n pos h =
    let c = count_fits v (area_len b) (λ n. v + 1 + 1 * n) (area_unit b v) n h in
    let fit = c.1 in
    (c.0, omega arith, c.2)

-- an array stands behind the count of its items
pub record ArrayHere (b : Body) (form : ArrayForm) (levels : ℕ) (t : Resource) (v : ℕ) : Type 0 where
  pub low : v < items_end form b
  pub are : AreItems b form levels (v + 1) (items_count form b v)
  pub is : r.Array (items_there b form levels (v + 1) (items_count form b v)) ≡ t

pub array_items : (v : List Resource) (t : Resource) → r.Array v ≡ t → Some v ≡ items_in t
array_items v t e = rw (← e, out_of _ _ (rolls-Array v)) refl

array_here : (b : Body) (form : ArrayForm) (levels : ℕ) (t : Resource) (v : ℕ) → 0 < b.end → array_by form (tree_at b levels) b v ≡ Some t → ArrayHere b form levels t v
array_here b form levels t v pos h =
    let f = parts_found (λ xs. r.Array xs) (λ xs. true) [] (no_items form v) (array_count form b v) (λ n. all_of (tree_at b levels) (run (item_in form b) (v + 1) n)) t refl h in
    let c = items_counted form b v f.n pos f.counted in
    let each = each_found (tree_at b levels) (tree_there b levels) (λ x y e. rw e refl) (item_in form b) (v + 1) f.n f.parts (sym (all_is (tree_at b levels) (run (item_in form b) (v + 1) f.n)) ∙ f.all) in
    record {
      low = c.0;
      are = rw c.2 (record { lie = c.1; each = λ k lt. each.1 (v + 1 + k) (omega arith) (omega arith) });
      is = rw (c.2, each.0) f.is;
    }

-- a type of arrays denotes what its form tells
typed_array : (one : ℕ → Option Resource) (b : Body) (t v : ℕ) (form : ArrayForm) → Some form ≡ array_form t → by_type one b t v ≡ array_by form one b v
unfolding by_type array_at short_array_at
typed_array one b t v array.Long h = let e : t ≡ 8 = grind (arith, nat_tests) in rw e refl
typed_array one b t v array.Short h = let e : t ≡ 9 = grind (arith, nat_tests) in rw e refl

pub array_there : (b : Body) (levels item : ℕ) (form : ArrayForm) → IsTree b levels item → 0 < b.end → Some form ≡ array_form (item / 268435456) → ArrayHere b form (levels - 1) (tree_there b levels item) (item % 268435456)
array_there b levels item form h pos e =
    array_here b form (levels - 1) (tree_there b levels item) (item % 268435456) pos (sym (typed_array (tree_at b (levels - 1)) b (item / 268435456) (item % 268435456) form e) ∙ (tree_is b levels item h).typed)

-- ---- entries

entries_counted : (form : TableForm) (b : Body) (v n : ℕ) → 0 < b.end → cond (no_entries form v) (Some 0) (table_count form b v) ≡ Some n → (v < entries_end form b) × EntriesLie form b v n × (entries_count form b v ≡ n)
entries_counted table.Narrow b v n pos h = count_here v b.end (λ n. v + (n + 2) / 2 + n) (unit_in b.words (2 * v)) n (λ z. omega (arith, z)) pos h
entries_counted table.Wide b v n pos h = count_here v b.end (λ n. v + 1 + 2 * n) (slice_index b.words v) n (λ z. omega (arith, z)) pos h
entries_counted table.Brief b v n pos h = count_fits v (area_len b) (λ n. v + 1 + 2 * n) (area_unit b v) n h

-- a table stands behind the count of its entries
pub record TableHere (b : Body) (form : TableForm) (levels : ℕ) (t : Resource) (v : ℕ) : Type 0 where
  pub low : v < entries_end form b
  pub are : AreEntries b form levels v (entries_count form b v)
  pub is : r.Table (entries_there b form levels v (entries_count form b v)) ≡ t

pub table_entries : (v : List (List ℕ × Resource)) (t : Resource) → r.Table v ≡ t → Some v ≡ entries_in t
table_entries v t e = rw (← e, out_of _ _ (rolls-Table v)) refl

table_here : (b : Body) (form : TableForm) (levels : ℕ) (t : Resource) (v : ℕ) → 0 < b.end → table_by form (tree_at b levels) b v ≡ Some t → TableHere b form levels t v
table_here b form levels t v pos h =
    let f = parts_found (λ es. r.Table es) (λ es. distinct (map (λ e. e.0) es)) [] (no_entries form v) (table_count form b v) (λ n. entries_of (key_at b) (tree_at b levels) (run (entry_in form b v n) 0 n)) t refl h in
    let c = entries_counted form b v f.n pos f.counted in
    let key = key_at b in
    let one = tree_at b levels in
    let at = entry_in form b v f.n in
    let each = each_found (both key one) (λ e. (key_there b e.0, tree_there b levels e.1)) (λ e y h. (both_found (key e.0) (one e.1) y h).there) at 0 f.n f.parts (sym (entries_are key one (run at 0 f.n)) ∙ f.all) in
    let here = λ (k : ℕ) (lt : k < f.n). both_found (key (at k).0) (one (at k).1) _ (each.1 k (omega arith) (omega arith)) in
    record {
      low = c.0;
      are = rw c.2 (record { lie = c.1; keys = λ k lt. (here k lt).is_key; trees = λ k lt. (here k lt).is_tree });
      is = rw (c.2, each.0) f.is;
    }

-- a type of tables denotes what its form tells
typed_table : (one : ℕ → Option Resource) (b : Body) (t v : ℕ) (form : TableForm) → Some form ≡ table_form t → by_type one b t v ≡ table_by form one b v
unfolding by_type short_table_at
typed_table one b t v table.Narrow h = let e : t ≡ 2 = grind (arith, nat_tests) in rw e (sym (narrow_table one b v))
typed_table one b t v table.Wide h = let e : t ≡ 4 = grind (arith, nat_tests) in rw e (sym (wide_table one b v))
typed_table one b t v table.Brief h = let e : t ≡ 5 = grind (arith, nat_tests) in rw e refl

pub table_there : (b : Body) (levels item : ℕ) (form : TableForm) → IsTree b levels item → 0 < b.end → Some form ≡ table_form (item / 268435456) → TableHere b form (levels - 1) (tree_there b levels item) (item % 268435456)
table_there b levels item form h pos e =
    table_here b form (levels - 1) (tree_there b levels item) (item % 268435456) pos (sym (typed_table (tree_at b (levels - 1)) b (item / 268435456) (item % 268435456) form e) ∙ (tree_is b levels item h).typed)

-- what shows arrays and tables in place
pub ruleset seen_items = (tree_is, items_none, array_there, array_items)

pub ruleset seen_entries = (tree_is, entries_none, table_there, table_entries)
