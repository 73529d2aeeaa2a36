-- What the walk leaves of a limit is the limit without the weight of the tree.
use Rattle.std.proofs.Common.{◌≡◌, ℕ, zero, suc, ◌+◌, ◌-◌, ◌*◌, ◌/◌, ◌%◌, ◌≤◌, Bool, true, false, cond, leb, eqb, List, [], ◌∷◌, length, Option, Some, None, refl, ap, sym, ◌∙◌, inl, inr, arith}
use Rattle.std.specs.Prelude.{slice_index, map, sum_by}
use Rattle.std.proofs.lemmas.Bool.{le-leb, lt-leb}
use Rattle.std.proofs.lemmas.Bool.Decides.{leb_tells, nat_tests}
use Rattle.std.proofs.lemmas.List.Sums.{sum_by-cons}
use Rattle.resb_tree.specs.declared.resource.Resource.{Resource}
use Rattle.resb_tree.specs.declared.resource.Resource.TheVariants as r
use Rattle.resb_tree.specs.declared.forms.ArrayForm.{ArrayForm}
use Rattle.resb_tree.specs.declared.forms.ArrayForm.TheVariants as array
use Rattle.resb_tree.specs.declared.forms.TableForm.{TableForm}
use Rattle.resb_tree.specs.declared.forms.TableForm.TheVariants as table
use Rattle.resb_tree.specs.Words.{run, unit_in, byte_in}
use Rattle.resb_tree.specs.Weight.{weight}
use Rattle.resb_tree.specs.Keys.{distinct}
use Rattle.resb_tree.specs.Options.{◌>>=◌, when}
use Rattle.resb_tree.specs.Bodies.{Body, area_unit, counted}
use Rattle.resb_tree.specs.Arrays.{all_of, array_at, short_array_at}
use Rattle.resb_tree.specs.Leaves.{integers_at, text_at, bytes_at, short_text_at}
use Rattle.resb_tree.specs.Tables.{key_at, entries_of, table_of, table16_at, table32_at, short_table_at}
use Rattle.resb_tree.specs.Tree.{by_type, tree_at, denoted}
use Rattle.resb_tree.specs.Inside.Forms.{item_in, entry_in}
use Rattle.resb_tree.specs.Inside.Counts.{no_items, array_count, no_entries, table_count}
use Rattle.resb_tree.specs.Inside.Left.{spent, counted_left, short_text_left, items_left, array_left, key_left, entries_left, table_left}
use Rattle.resb_tree.specs.Inside.Spans.{short_span}
use Rattle.resb_tree.specs.Inside.Places.{the_tree, root_there}
use Rattle.resb_tree.specs.Inside.KeyPlaces.{keys_there}
use Rattle.resb_tree.specs.Inside.Walk.{nested_left, typed_left, left_behind}
use Rattle.resb_tree.proofs.Weights.{entry_weight, weight-Integer, weight-Integers, weight-Array, weight-Text, weight-Bytes, weight-Table}
use Rattle.resb_tree.proofs.Runs.{length_run}
use Rattle.resb_tree.proofs.Spans.{short_text_span}

-- what the weight of what was found leaves of a limit
abbrev pub left_of : {A : Type 0} → (A → ℕ) → ℕ → Option A → Option ℕ
left_of w limit found = found >>= λ x. spent limit (w x)

bind_none : {A B : Type 0} (x : Option A) → (x >>= λ a. let none : Option B = None in none) ≡ None
bind_none (Some a) = refl
bind_none None = refl

bind_all : {A : Type 0} (x : Option A) → (x >>= λ a. Some a) ≡ x
bind_all (Some a) = refl
bind_all None = refl

bind_twice : {A B C : Type 0} (x : Option A) (f : A → Option B) (g : B → Option C) → ((x >>= f) >>= g) ≡ (x >>= λ a. f a >>= g)
bind_twice (Some a) f g = refl
bind_twice None f g = refl

bind_same : {A B : Type 0} (x : Option A) (f g : A → Option B) → ((a : A) → f a ≡ g a) → (x >>= f) ≡ (x >>= g)
bind_same (Some a) f g h = h a
bind_same None f g h = refl

spent_next : (limit m n : ℕ) → m ≤ limit → spent (limit - m) n ≡ spent limit (m + n)
spent_next limit m n le = grind (arith, nat_tests)

spent_more : (limit m n : ℕ) → (spent limit m >>= λ left. spent left n) ≡ spent limit (m + n)
spent_more limit m n = elim (leb_tells m limit) [
  | inl one ↦ rw one.0 (spent_next limit m n one.1)
  | inr heavy ↦ let both : leb (m + n) limit ≡ false = lt-leb _ _ (omega (arith, heavy.1)) in rw (heavy.0, both) refl
]

-- one part, and those behind it
then_left : {A B C : Type 0} (w : A → ℕ) (v : B → ℕ) (u : C → ℕ) (join : A → B → C) → ((a : A) (b : B) → u (join a b) ≡ w a + v b) → (limit : ℕ) (x : Option A) (y : Option B)
    → (left_of w limit x >>= λ left. left_of v left y) ≡ left_of u limit (x >>= λ a. y >>= λ b. Some (join a b))
then_left w v u join same limit None y = refl
then_left w v u join same limit (Some a) None = bind_none (spent limit (w a))
then_left w v u join same limit (Some a) (Some b) = rw (same a b) (spent_more limit (w a) (v b))

-- what is made of parts weighs 1 more
made_left : {A : Type 0} (w : A → ℕ) (make : A → Resource) → ((a : A) → weight (make a) ≡ 1 + w a) → (limit : ℕ) (x : Option A)
    → (spent limit 1 >>= λ left. left_of w left x) ≡ left_of weight limit (x >>= λ a. Some (make a))
made_left w make same limit None = bind_none (spent limit 1)
made_left w make same limit (Some a) = rw (same a) (spent_more limit 1 (w a))

-- ---- numbers, bytes and texts

values_left : (make : List ℕ → Resource) → ((xs : List ℕ) → weight (make xs) ≡ 1 + length xs) → (at : ℕ → ℕ) (from : ℕ) (is_empty : Bool) (count : Option ℕ) (limit : ℕ)
    → cond is_empty (spent limit 1) (count >>= λ n. spent limit (n + 1)) ≡ left_of weight limit (cond is_empty (Some (make [])) (count >>= λ n. Some (make (run at from n))))
values_left make same at from true count limit = rw (same []) refl
values_left make same at from false None limit = refl
values_left make same at from false (Some n) limit =
    let e : weight (make (run at from n)) ≡ n + 1 = same (run at from n) ∙ omega (arith, length_run at from n) in rw e refl

short_left : (b : Body) (v limit : ℕ) → short_text_left b v limit ≡ left_of weight limit (short_text_at b v)
unfolding short_text_left
short_left b v limit = rw (short_text_span b v) (by (short_span b v))
  where
    by : (span : Option (ℕ × ℕ)) → (span >>= λ s. spent limit (s.1 + 1)) ≡ left_of weight limit (span >>= λ s. Some (r.Text (run (area_unit b) s.0 s.1)))
    by None = refl
    by (Some s) =
        let e : weight (r.Text (run (area_unit b) s.0 s.1)) ≡ s.1 + 1 = weight-Text (run (area_unit b) s.0 s.1) ∙ omega (arith, length_run (area_unit b) s.0 s.1) in rw e refl

-- ---- arrays

-- a walk leaves what the tree of an item leaves
abbrev Leaves : (ℕ → ℕ → Option ℕ) → (ℕ → Option Resource) → Type 0
Leaves one tree = (item limit : ℕ) → one item limit ≡ left_of weight limit (tree item)

items_are : (one : ℕ → ℕ → Option ℕ) (tree : ℕ → Option Resource) → Leaves one tree → (items : List ℕ) (limit : ℕ) → items_left one items limit ≡ left_of (sum_by weight) limit (all_of tree items)
items_are one tree h [] limit = rw (le-leb 0 limit (omega arith)) (ap (λ (n : ℕ). Some n) (omega arith))
items_are one tree h (item ∷ items) limit =
    rw (h item limit) (bind_same (left_of weight limit (tree item)) _ _ (items_are one tree h items))
    ∙ then_left weight (sum_by weight) (sum_by weight) (λ x xs. x ∷ xs) (sum_by-cons weight) limit (tree item) (all_of tree items)

-- an array of either form
abbrev pub array_by : ArrayForm → (ℕ → Option Resource) → Body → ℕ → Option Resource
array_by form tree b v = cond (no_items form v) (Some (r.Array [])) (array_count form b v >>= λ n. all_of tree (run (item_in form b) (v + 1) n) >>= λ xs. Some (r.Array xs))

-- what stands behind a count, where there are some
parts_left : {A : Type 0} (w : A → ℕ) (make : A → Resource) → ((a : A) → weight (make a) ≡ 1 + w a) → (none : A) → w none ≡ 0 → (is_empty : Bool) (count : Option ℕ) (left : ℕ → ℕ → Option ℕ) (found : ℕ → Option A)
    → ((n limit : ℕ) → left n limit ≡ left_of w limit (found n)) → (limit : ℕ)
    → (spent limit 1 >>= λ rest. cond is_empty (Some rest) (count >>= λ n. left n rest)) ≡ left_of weight limit (cond is_empty (Some (make none)) (count >>= λ n. found n >>= λ a. Some (make a)))
parts_left w make same none light true count left found h limit =
    let e : weight (make none) ≡ 1 = same none ∙ omega (arith, light) in rw e (bind_all (spent limit 1))
parts_left w make same none light false None left found h limit = bind_none (spent limit 1)
parts_left w make same none light false (Some n) left found h limit = bind_same (spent limit 1) _ _ (h n) ∙ made_left w make same limit (found n)

array_is : (form : ArrayForm) (one : ℕ → ℕ → Option ℕ) (tree : ℕ → Option Resource) → Leaves one tree → (b : Body) (v limit : ℕ) → array_left form one b v limit ≡ left_of weight limit (array_by form tree b v)
unfolding array_left
array_is form one tree h b v limit =
    parts_left (sum_by weight) (λ xs. r.Array xs) weight-Array [] refl (no_items form v) (array_count form b v) (λ n. items_left one (run (item_in form b) (v + 1) n)) (λ n. all_of tree (run (item_in form b) (v + 1) n))
    (λ n. items_are one tree h (run (item_in form b) (v + 1) n)) limit

-- ---- tables

abbrev Entries : Type 0
Entries = List (List ℕ × Resource)

key_is : (b : Body) (place limit : ℕ) → key_left b place limit ≡ left_of length limit (key_at b place)
unfolding key_left
key_is b place limit = bind_twice (key_at b place) (λ key. Some (length key)) (λ n. spent limit n)

entry_left : (limit : ℕ) (name : Option (List ℕ)) (value : Option Resource) (others : Option Entries)
    → (left_of length limit name >>= λ n. left_of weight n value >>= λ p. left_of (sum_by entry_weight) p others) ≡ left_of (sum_by entry_weight) limit (name >>= λ n. value >>= λ x. others >>= λ es. Some ((n, x) ∷ es))
entry_left limit None value others = refl
entry_left limit (Some n) None others = bind_none (spent limit (length n))
entry_left limit (Some n) (Some x) others =
    sym (bind_twice (spent limit (length n)) (λ left. spent left (weight x)) (λ left. left_of (sum_by entry_weight) left others))
    ∙ ap (λ (s : Option ℕ). s >>= λ left. left_of (sum_by entry_weight) left others) (spent_more limit (length n) (weight x)) ∙ by others
  where
    by : (others : Option Entries) → (spent limit (length n + weight x) >>= λ left. left_of (sum_by entry_weight) left others) ≡ left_of (sum_by entry_weight) limit (others >>= λ es. Some ((n, x) ∷ es))
    by None = bind_none (spent limit (length n + weight x))
    by (Some es) = rw (sum_by-cons entry_weight (n, x) es) (spent_more limit (length n + weight x) (sum_by entry_weight es))

entries_are : (b : Body) (one : ℕ → ℕ → Option ℕ) (tree : ℕ → Option Resource) → Leaves one tree → (places : List (ℕ × ℕ)) (limit : ℕ) → entries_left (key_left b) one places limit ≡ left_of (sum_by entry_weight) limit (entries_of (key_at b) tree places)
entries_are b one tree h [] limit = rw (le-leb 0 limit (omega arith)) (ap (λ (n : ℕ). Some n) (omega arith))
entries_are b one tree h (e ∷ es) limit =
    rw (key_is b e.0 limit) (bind_same (left_of length limit (key_at b e.0)) _ _ (λ n. rw (h e.1 n) (bind_same (left_of weight n (tree e.1)) _ _ (entries_are b one tree h es))))
    ∙ entry_left limit (key_at b e.0) (tree e.1) (entries_of (key_at b) tree es)

-- the keys of what was found
abbrev KeysAre : List (List ℕ) → Option Entries → Type 0
KeysAre ks None = Unit {0}
KeysAre ks (Some es) = map (λ e. e.0) es ≡ ks

keys_are : (b : Body) (tree : ℕ → Option Resource) (places : List (ℕ × ℕ)) → KeysAre (keys_there b places) (entries_of (key_at b) tree places)
keys_are b tree [] = refl
keys_are b tree (e ∷ es) = by (key_at b e.0) refl (tree e.1) (entries_of (key_at b) tree es) (keys_are b tree es)
  where
    by : (key : Option (List ℕ)) → key_at b e.0 ≡ key → (value : Option Resource) (others : Option Entries) → KeysAre (keys_there b es) others
        → KeysAre (keys_there b (e ∷ es)) (key >>= λ n. value >>= λ x. others >>= λ os. Some ((n, x) ∷ os))
    by None h value others before = tt
    by (Some n) h None others before = tt
    by (Some n) h (Some x) None before = tt
    by (Some n) h (Some x) (Some os) before = rw (h, before) refl

apart_left : (ks : List (List ℕ)) (found : Option Entries) → KeysAre ks found → (limit : ℕ)
    → (left_of (sum_by entry_weight) limit found >>= λ rest. when (distinct ks) rest) ≡ left_of (sum_by entry_weight) limit (found >>= λ es. when (distinct (map (λ e. e.0) es)) es)
apart_left ks None h limit = refl
apart_left ks (Some es) h limit = rw h (by (distinct ks))
  where
    by : (apart : Bool) → (spent limit (sum_by entry_weight es) >>= λ rest. when apart rest) ≡ left_of (sum_by entry_weight) limit (when apart es)
    by true = bind_all (spent limit (sum_by entry_weight es))
    by false = bind_none (spent limit (sum_by entry_weight es))

-- a table of each form
abbrev pub table_by : TableForm → (ℕ → Option Resource) → Body → ℕ → Option Resource
table_by form tree b v = cond (no_entries form v) (Some (r.Table [])) (table_count form b v >>= λ n. table_of tree b (run (entry_in form b v n) 0 n))

table_made : (found : Option Entries) → ((found >>= λ es. when (distinct (map (λ e. e.0) es)) es) >>= λ es. Some (r.Table es)) ≡ (found >>= λ es. when (distinct (map (λ e. e.0) es)) (r.Table es))
table_made None = refl
table_made (Some es) = by (distinct (map (λ e. e.0) es))
  where
    by : (apart : Bool) → (when apart es >>= λ es. Some (r.Table es)) ≡ when apart (r.Table es)
    by true = refl
    by false = refl

table_is : (form : TableForm) (one : ℕ → ℕ → Option ℕ) (tree : ℕ → Option Resource) → Leaves one tree → (b : Body) (v limit : ℕ) → table_left form one b v limit ≡ left_of weight limit (table_by form tree b v)
unfolding table_left
table_is form one tree h b v limit =
    let places = λ (n : ℕ). run (entry_in form b v n) 0 n in
    let found = λ (n : ℕ). entries_of (key_at b) tree (places n) in
    parts_left (sum_by entry_weight) (λ es. r.Table es) weight-Table [] refl (no_entries form v) (table_count form b v) (λ n left. entries_left (key_left b) one (places n) left >>= λ rest. when (distinct (keys_there b (places n))) rest)
    (λ n. found n >>= λ es. when (distinct (map (λ e. e.0) es)) es)
    (λ n left. rw (entries_are b one tree h (places n) left) (apart_left (keys_there b (places n)) (found n) (keys_are b tree (places n)) left)) limit
    ∙ ap (λ (t : Option Resource). left_of weight limit (cond (no_entries form v) (Some (r.Table [])) t)) (bind_same (table_count form b v) _ _ (λ n. table_made (found n)))

tested : {A B : Type 0} (test : Bool) (x : A) (f : A → Option B) → (cond test (Some x) None >>= f) ≡ cond test (f x) None
tested true x f = refl
tested false x f = refl

pub narrow_table : (one : ℕ → Option Resource) (b : Body) (v : ℕ) → table_by table.Narrow one b v ≡ table16_at one b v
unfolding table16_at
narrow_table one b v = ap (λ t. cond (eqb v 0) (Some (r.Table [])) t) (tested _ (unit_in b.words (2 * v)) (λ n. table_of one b (run (entry_in table.Narrow b v n) 0 n)))

pub wide_table : (one : ℕ → Option Resource) (b : Body) (v : ℕ) → table_by table.Wide one b v ≡ table32_at one b v
unfolding table32_at
wide_table one b v = ap (λ t. cond (eqb v 0) (Some (r.Table [])) t) (tested _ (slice_index b.words v) (λ n. table_of one b (run (entry_in table.Wide b v n) 0 n)))

-- ---- items

-- choices by number, with tables and arrays last
reordered : {A : Type 0} (t : ℕ) (x0 x1 x2 x4 x5 x6 x7 x8 x9 x14 other : A)
    → cond (eqb t 0) x0 (cond (eqb t 1) x1 (cond (eqb t 6) x6 (cond (eqb t 7) x7 (cond (eqb t 14) x14 (cond (eqb t 2) x2 (cond (eqb t 4) x4 (cond (eqb t 5) x5 (cond (eqb t 8) x8 (cond (eqb t 9) x9 other)))))))))
    ≡ cond (eqb t 0) x0 (cond (eqb t 1) x1 (cond (eqb t 2) x2 (cond (eqb t 4) x4 (cond (eqb t 5) x5 (cond (eqb t 6) x6 (cond (eqb t 7) x7 (cond (eqb t 8) x8 (cond (eqb t 9) x9 (cond (eqb t 14) x14 other)))))))))
reordered t x0 x1 x2 x4 x5 x6 x7 x8 x9 x14 other = grind (arith, nat_tests)

choice : (is_this : Bool) (limit : ℕ) (x y : Option ℕ) (x' y' : Option Resource) → x ≡ left_of weight limit x' → y ≡ left_of weight limit y' → cond is_this x y ≡ left_of weight limit (cond is_this x' y')
choice true limit x y x' y' p q = p
choice false limit x y x' y' p q = q

-- what is left behind an item
pub left_is : (b : Body) (levels item limit : ℕ) → left_behind b levels item limit ≡ left_of weight limit (tree_at b levels item)
unfolding left_behind tree_at typed_left nested_left by_type counted_left text_at bytes_at integers_at array_at short_array_at short_table_at
left_is b zero item limit = refl
left_is b (suc levels) item limit =
    let v = item % 268435456 in
    let t = item / 268435456 in
    let one = left_behind b levels in
    let tree = tree_at b levels in
    let h = left_is b levels in
    reordered t _ _ _ _ _ _ _ _ _ _ _ ∙
    choice (eqb t 0) limit _ _ _ _ (values_left (λ xs. r.Text xs) weight-Text (unit_in b.words) (2 * (v + 1)) (eqb v 0) (counted b v 2) limit) (
    choice (eqb t 1) limit _ _ _ _ (values_left (λ xs. r.Bytes xs) weight-Bytes (byte_in b.words) (4 * (v + 1)) (eqb v 0) (counted b v 4) limit) (
    choice (eqb t 2) limit _ _ _ _ (table_is table.Narrow one tree h b v limit ∙ ap (left_of weight limit) (narrow_table tree b v)) (
    choice (eqb t 4) limit _ _ _ _ (table_is table.Wide one tree h b v limit ∙ ap (left_of weight limit) (wide_table tree b v)) (
    choice (eqb t 5) limit _ _ _ _ (table_is table.Brief one tree h b v limit) (
    choice (eqb t 6) limit _ _ _ _ (short_left b v limit) (
    choice (eqb t 7) limit _ _ _ _ (rw weight-Integer refl) (
    choice (eqb t 8) limit _ _ _ _ (array_is array.Long one tree h b v limit) (
    choice (eqb t 9) limit _ _ _ _ (array_is array.Short one tree h b v limit) (
    choice (eqb t 14) limit _ _ _ _ (values_left (λ xs. r.Integers xs) weight-Integers (slice_index b.words) (v + 1) (eqb v 0) (counted b v 1) limit) refl)))))))))

-- ---- the root

tree_left : (limit : ℕ) (found : Option Resource) (rest : ℕ) → left_of weight limit found ≡ Some rest → (found ≡ Some (the_tree found)) × ((found >>= λ t. when (leb (weight t) limit) t) ≡ Some (the_tree found))
tree_left limit None rest h = cc
tree_left limit (Some t) rest h = by (leb (weight t) limit) h
  where
    by : (light : Bool) → cond light (Some (limit - weight t)) None ≡ Some rest → (Some t ≡ Some t) × (when light t ≡ Some t)
    by true h = (refl, refl)
    by false h = cc

tree_none : (limit : ℕ) (found : Option Resource) → left_of weight limit found ≡ None → (found >>= λ t. when (leb (weight t) limit) t) ≡ None
tree_none limit None h = refl
tree_none limit (Some t) h = by (leb (weight t) limit) h
  where
    by : (light : Bool) → cond light (Some (limit - weight t)) None ≡ None → when light t ≡ None
    by true h = cc
    by false h = refl

-- what is left behind the root item tells of its tree
pub root_found : (b : Body) (limit rest : ℕ) → left_behind b 8 (slice_index b.words 0) limit ≡ Some rest
    → (tree_at b 8 (slice_index b.words 0) ≡ Some (root_there b)) × (denoted b limit ≡ Some (root_there b))
unfolding denoted
root_found b limit rest h = tree_left limit (tree_at b 8 (slice_index b.words 0)) rest (sym (left_is b 8 (slice_index b.words 0) limit) ∙ h)

-- none is left where there is no tree
pub root_none : (b : Body) (limit : ℕ) → left_behind b 8 (slice_index b.words 0) limit ≡ None → denoted b limit ≡ None
unfolding denoted
root_none b limit h = tree_none limit (tree_at b 8 (slice_index b.words 0)) (sym (left_is b 8 (slice_index b.words 0) limit) ∙ h)
