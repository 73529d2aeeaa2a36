-- A resource's kind, and texts, bytes and numbers by where they stand.
use Rattle.std.proofs.Common.{◌≡◌, ◌≢◌, ℕ, zero, suc, ◌+◌, ◌-◌, ◌*◌, ◌/◌, ◌%◌, ◌<◌, ◌≤◌, Bool, true, false, cond, leb, ltb, eqb, List, [], Option, Some, None, refl, ap, sym, ◌∙◌, inl, inr, arith}
use Rattle.std.specs.Prelude.{slice_index, map, ◌&&◌}
use Rattle.std.proofs.lemmas.Bool.{and_parts, ltb-true, leb-true}
use Rattle.std.proofs.lemmas.Bool.Decides.{eqb_tells, nat_tests}
use Rattle.resb_tree.specs.declared.resource.Resource.{Resource, out-Resource, roll-Resource}
use Rattle.resb_tree.specs.declared.resource.Resource.TheOpen.{Resource-F}
use Rattle.resb_tree.specs.declared.resource.Resource.TheVariants as r
use Rattle.resb_tree.specs.declared.resource.Resource.TheVariants.{rolls-Integer, rolls-Text, rolls-Bytes, rolls-Integers, rolls-Array, rolls-Table}
use Rattle.resb_tree.specs.declared.resource.Resource.TheViews.{out-roll-Resource}
use Rattle.resb_tree.specs.declared.forms.TableForm.TheVariants as table
use Rattle.resb_tree.specs.Words.{run, unit_in, byte_in}
use Rattle.resb_tree.specs.Keys.{distinct}
use Rattle.resb_tree.specs.Contents.{text_in, text_layer, bytes_in, bytes_layer, integers_in, integers_layer, items_in, items_layer, entries_in, entries_layer, index_in, index_layer}
use Rattle.resb_tree.specs.Options.{◌>>=◌, when}
use Rattle.resb_tree.specs.Bodies.{Body, area_unit, counted}
use Rattle.resb_tree.specs.declared.forms.ArrayForm.{ArrayForm}
use Rattle.resb_tree.specs.declared.forms.ArrayForm.TheVariants as array
use Rattle.resb_tree.specs.declared.forms.TableForm.{TableForm}
use Rattle.resb_tree.specs.Arrays.{all_of, array_at, short_array_at}
use Rattle.resb_tree.specs.Tables.{entries_of, key_at, short_table_at}
use Rattle.resb_tree.specs.Leaves.{integers_at, text_at, bytes_at, short_text_at}
use Rattle.resb_tree.specs.Tree.{by_type, tree_at}
use Rattle.resb_tree.specs.Inside.Forms.{item_in, entry_in}
use Rattle.resb_tree.specs.Inside.Counts.{no_items, array_count, no_entries, table_count}
use Rattle.resb_tree.specs.Inside.Spans.{short_span}
use Rattle.resb_tree.specs.Inside.Places.{tree_there, IsTree}
use Rattle.resb_tree.specs.Inside.Parts.{count_there, array_form, table_form}
use Rattle.resb_tree.proofs.Runs.{run_shift}
use Rattle.resb_tree.proofs.Spans.{short_text_span}
use Rattle.resb_tree.proofs.Checks.{bind_some}
use Rattle.resb_tree.proofs.Left.{array_by, table_by, narrow_table, wide_table}

-- ---- parts that were found

when_some : {A : Type 0} (test : Bool) (x y : A) → when test x ≡ Some y → (test ≡ true) × (x ≡ y)
when_some true x y h = let e : x ≡ y = cc in (refl, e)
when_some false x y h = cc

-- how many parts there were, and which, where a tree was made of them
pub record Found {A : Type 0} (make : A → Resource) (is_empty : Bool) (count : Option ℕ) (found : ℕ → Option A) (t : Resource) : Type 0 where
  pub n : ℕ
  pub parts : A
  pub counted : cond is_empty (Some 0) count ≡ Some n
  pub all : found n ≡ Some parts
  pub is : make parts ≡ t

pub parts_found : {A : Type 0} (make : A → Resource) (test : A → Bool) (none : A) (is_empty : Bool) (count : Option ℕ) (found : ℕ → Option A) (t : Resource) → found 0 ≡ Some none
    → cond is_empty (Some (make none)) (count >>= λ n. found n >>= λ a. when (test a) (make a)) ≡ Some t → Found make is_empty count found t
parts_found make test none true count found t nothing h = let e : make none ≡ t = cc in record { n = 0; parts = none; counted = refl; all = nothing; is = e }
parts_found make test none false None found t nothing h = cc
parts_found make test none false (Some n) found t nothing h =
    let a = bind_some (found n) (λ a. when (test a) (make a)) t h in
    record { n = n; parts = a.0; counted = refl; all = a.1.0; is = (when_some (test a.0) (make a.0) t a.1.1).1 }

-- ---- the outermost layer

-- the outermost layer of what a layer was made
pub out_of : (f : Resource-F Resource) (t : Resource) → roll-Resource f ≡ t → out-Resource t ≡ f
out_of f t e = ap out-Resource (sym e) ∙ out-roll-Resource f

-- ---- kinds

-- a layer's kind: texts 0, bytes 1, tables 2, integers 3, arrays 4, lists of integers 5
abbrev layer_kind : Resource-F Resource → ℕ
layer_kind (Resource-F.Text v) = 0
layer_kind (Resource-F.Bytes v) = 1
layer_kind (Resource-F.Table v) = 2
layer_kind (Resource-F.Integer v) = 3
layer_kind (Resource-F.Array v) = 4
layer_kind (Resource-F.Integers v) = 5

abbrev kind : Resource → ℕ
kind t = layer_kind (out-Resource t)

-- what there is has a kind
abbrev KindIs : ℕ → Option Resource → Type 0
KindIs k None = Unit {0}
KindIs k (Some t) = kind t ≡ k

kind_of_bind : {A : Type 0} (k : ℕ) (x : Option A) (f : A → Option Resource) → ((a : A) → KindIs k (f a)) → KindIs k (x >>= f)
kind_of_bind k None f h = tt
kind_of_bind k (Some a) f h = h a

kind_of_choice : (k : ℕ) (test : Bool) (x y : Option Resource) → KindIs k x → KindIs k y → KindIs k (cond test x y)
kind_of_choice k true x y p q = p
kind_of_choice k false x y p q = q

kind_of : (f : Resource-F Resource) (t : Resource) → roll-Resource f ≡ t → kind t ≡ layer_kind f
kind_of f t e = ap layer_kind (out_of f t e)

parts_kind : {A : Type 0} (k : ℕ) (make : A → Resource) → ((a : A) → kind (make a) ≡ k) → (test : A → Bool) (none : A) (is_empty : Bool) (count : Option ℕ) (found : ℕ → Option A)
    → KindIs k (cond is_empty (Some (make none)) (count >>= λ n. found n >>= λ a. when (test a) (make a)))
parts_kind k make same test none is_empty count found =
    kind_of_choice k is_empty _ _ (same none) (kind_of_bind k count _ (λ n. kind_of_bind k (found n) _ (λ a. kind_of_choice k (test a) _ _ (same a) tt)))

values_kind : (k : ℕ) (make : List ℕ → Resource) → ((xs : List ℕ) → kind (make xs) ≡ k) → (at : ℕ → ℕ) (from : ℕ) (is_empty : Bool) (count : Option ℕ)
    → KindIs k (cond is_empty (Some (make [])) (count >>= λ n. Some (make (run at from n))))
values_kind k make same at from is_empty count = parts_kind k make same (λ xs. true) [] is_empty count (λ n. Some (run at from n))

arrays : (form : ArrayForm) (one : ℕ → Option Resource) (b : Body) (v : ℕ) → KindIs 4 (array_by form one b v)
arrays form one b v = parts_kind 4 (λ xs. r.Array xs) (λ xs. kind_of _ _ (rolls-Array xs)) (λ xs. true) [] (no_items form v) (array_count form b v) (λ n. all_of one (run (item_in form b) (v + 1) n))

tables : (form : TableForm) (one : ℕ → Option Resource) (b : Body) (v : ℕ) → KindIs 2 (table_by form one b v)
tables form one b v =
    parts_kind 2 (λ es. r.Table es) (λ es. kind_of _ _ (rolls-Table es)) (λ es. distinct (map (λ e. e.0) es)) [] (no_entries form v) (table_count form b v) (λ n. entries_of (key_at b) one (run (entry_in form b v n) 0 n))

-- the kind of a type of items
abbrev type_kind : ℕ → ℕ
type_kind t =
    cond (eqb t 0) 0 (cond (eqb t 1) 1 (cond (eqb t 2) 2 (cond (eqb t 4) 2 (cond (eqb t 5) 2 (cond (eqb t 6) 0 (cond (eqb t 7) 3 (cond (eqb t 8) 4 (cond (eqb t 9) 4 (cond (eqb t 14) 5 6)))))))))

either_kind : (test : Bool) (k n : ℕ) (x y : Option Resource) → KindIs k x → KindIs n y → KindIs (cond test k n) (cond test x y)
either_kind true k n x y p q = p
either_kind false k n x y p q = q

kind_by_type : (one : ℕ → Option Resource) (b : Body) (t v : ℕ) → KindIs (type_kind t) (by_type one b t v)
unfolding by_type text_at bytes_at integers_at array_at short_array_at short_table_at
kind_by_type one b t v =
    either_kind (eqb t 0) _ _ _ _ (values_kind 0 (λ xs. r.Text xs) (λ xs. kind_of _ _ (rolls-Text xs)) (unit_in b.words) (2 * (v + 1)) (eqb v 0) (counted b v 2)) (
    either_kind (eqb t 1) _ _ _ _ (values_kind 1 (λ xs. r.Bytes xs) (λ xs. kind_of _ _ (rolls-Bytes xs)) (byte_in b.words) (4 * (v + 1)) (eqb v 0) (counted b v 4)) (
    either_kind (eqb t 2) _ _ _ _ (rw (← narrow_table one b v) (tables table.Narrow one b v)) (
    either_kind (eqb t 4) _ _ _ _ (rw (← wide_table one b v) (tables table.Wide one b v)) (
    either_kind (eqb t 5) _ _ _ _ (tables table.Brief one b v) (
    either_kind (eqb t 6) _ _ _ _ (rw (short_text_span b v) (kind_of_bind 0 (short_span b v) _ (λ s. kind_of _ _ (rolls-Text (run (area_unit b) s.0 s.1))))) (
    either_kind (eqb t 7) _ _ _ _ (kind_of _ _ (rolls-Integer v)) (
    either_kind (eqb t 8) _ _ _ _ (arrays array.Long one b v) (
    either_kind (eqb t 9) _ _ _ _ (arrays array.Short one b v) (
    either_kind (eqb t 14) 5 6 _ _ (values_kind 5 (λ xs. r.Integers xs) (λ xs. kind_of _ _ (rolls-Integers xs)) (slice_index b.words) (v + 1) (eqb v 0) (counted b v 1)) tt)))))))))

-- ---- an item

-- a tree has a level, and is what its type and value denote
pub record TreeIs (b : Body) (levels item : ℕ) : Type 0 where
  pub low : 0 < levels
  pub typed : by_type (tree_at b (levels - 1)) b (item / 268435456) (item % 268435456) ≡ Some (tree_there b levels item)

pub tree_is : (b : Body) (levels item : ℕ) → IsTree b levels item → TreeIs b levels item
unfolding tree_at
tree_is b zero item h = absurd (by h)
  where
    by : None ≡ Some (r.Array []) → ⊥
    by e = cc
tree_is b (suc levels) item h = let e : suc levels - 1 ≡ levels = omega arith in record { low = omega arith; typed = rw e h }

kind_there : (b : Body) (levels item : ℕ) → IsTree b levels item → kind (tree_there b levels item) ≡ type_kind (item / 268435456)
kind_there b levels item h =
    let typed = (tree_is b levels item h).typed in
    let P : Option Resource → Type 0 = KindIs (type_kind (item / 268435456)) in
    rw typed at (kind_by_type (tree_at b (levels - 1)) b (item / 268435456) (item % 268435456))

-- a layer of another kind has no such part
record OtherKinds (f : Resource-F Resource) : Type 0 where
  text : layer_kind f ≢ 0 → text_layer f ≡ None
  bytes : layer_kind f ≢ 1 → bytes_layer f ≡ None
  entries : layer_kind f ≢ 2 → entries_layer f ≡ None
  index : layer_kind f ≢ 3 → index_layer f ≡ None
  items : layer_kind f ≢ 4 → items_layer f ≡ None
  integers : layer_kind f ≢ 5 → integers_layer f ≡ None

other_kinds : (f : Resource-F Resource) → OtherKinds f
other_kinds (Resource-F.Text v) = record { text = λ ne. absurd (ne refl); bytes = λ ne. refl; entries = λ ne. refl; index = λ ne. refl; items = λ ne. refl; integers = λ ne. refl }
other_kinds (Resource-F.Bytes v) = record { text = λ ne. refl; bytes = λ ne. absurd (ne refl); entries = λ ne. refl; index = λ ne. refl; items = λ ne. refl; integers = λ ne. refl }
other_kinds (Resource-F.Table v) = record { text = λ ne. refl; bytes = λ ne. refl; entries = λ ne. absurd (ne refl); index = λ ne. refl; items = λ ne. refl; integers = λ ne. refl }
other_kinds (Resource-F.Integer v) = record { text = λ ne. refl; bytes = λ ne. refl; entries = λ ne. refl; index = λ ne. absurd (ne refl); items = λ ne. refl; integers = λ ne. refl }
other_kinds (Resource-F.Array v) = record { text = λ ne. refl; bytes = λ ne. refl; entries = λ ne. refl; index = λ ne. refl; items = λ ne. absurd (ne refl); integers = λ ne. refl }
other_kinds (Resource-F.Integers v) = record { text = λ ne. refl; bytes = λ ne. refl; entries = λ ne. refl; index = λ ne. refl; items = λ ne. refl; integers = λ ne. absurd (ne refl) }

-- a tree of another type has no such part
pub text_none : (b : Body) (levels item : ℕ) → IsTree b levels item → item / 268435456 ≢ 0 → item / 268435456 ≢ 6 → text_in (tree_there b levels item) ≡ None
text_none b levels item h a c = (other_kinds (out-Resource (tree_there b levels item))).text (rw (kind_there b levels item h) (grind (arith, nat_tests)))

pub bytes_none : (b : Body) (levels item : ℕ) → IsTree b levels item → item / 268435456 ≢ 1 → bytes_in (tree_there b levels item) ≡ None
bytes_none b levels item h a = (other_kinds (out-Resource (tree_there b levels item))).bytes (rw (kind_there b levels item h) (grind (arith, nat_tests)))

pub entries_none : (b : Body) (levels item : ℕ) → IsTree b levels item → None ≡ table_form (item / 268435456) → entries_in (tree_there b levels item) ≡ None
entries_none b levels item h a = (other_kinds (out-Resource (tree_there b levels item))).entries (rw (kind_there b levels item h) (grind (arith, nat_tests)))

pub index_none : (b : Body) (levels item : ℕ) → IsTree b levels item → item / 268435456 ≢ 7 → index_in (tree_there b levels item) ≡ None
index_none b levels item h a = (other_kinds (out-Resource (tree_there b levels item))).index (rw (kind_there b levels item h) (grind (arith, nat_tests)))

pub items_none : (b : Body) (levels item : ℕ) → IsTree b levels item → None ≡ array_form (item / 268435456) → items_in (tree_there b levels item) ≡ None
items_none b levels item h a = (other_kinds (out-Resource (tree_there b levels item))).items (rw (kind_there b levels item h) (grind (arith, nat_tests)))

pub integers_none : (b : Body) (levels item : ℕ) → IsTree b levels item → item / 268435456 ≢ 14 → integers_in (tree_there b levels item) ≡ None
integers_none b levels item h a = (other_kinds (out-Resource (tree_there b levels item))).integers (rw (kind_there b levels item h) (grind (arith, nat_tests)))

-- ---- counts

-- a count stands below an end, and so does what is behind it
pub count_fits : (v end : ℕ) (next : ℕ → ℕ) (count n : ℕ) → when (ltb v end && leb (next count) end) count ≡ Some n → (v < end) × (next n ≤ end) × (count ≡ n)
count_fits v end next count n h =
    let f = when_some (ltb v end && leb (next count) end) count n h in
    let low = and_parts (ltb v end) (leb (next count) end) f.0 in
    (ltb-true _ _ low.0, rw (← f.1) (leb-true _ _ low.1), f.1)

-- or there is none where the place is 0
pub count_here : (v end : ℕ) (next : ℕ → ℕ) (count n : ℕ) → (v ≡ 0 → next 0 ≤ end) → 0 < end → cond (eqb v 0) (Some 0) (when (ltb v end && leb (next count) end) count) ≡ Some n
    → (v < end) × (next n ≤ end) × (cond (eqb v 0) 0 count ≡ n)
count_here v end next count n none pos h = elim (eqb_tells v 0) [
  | inl z ↦ let e : 0 ≡ n = let f : Some 0 ≡ Some n = rw z.0 at h in cc in (omega (arith, z.1), rw (← e) (none z.1), rw z.0 e)
  | inr nz ↦ let f = count_fits v end next count n (rw nz.0 at h) in (f.0, f.1, rw nz.0 f.2)
]

-- ---- texts, bytes and numbers

typed_as : (b : Body) (levels item n : ℕ) → IsTree b levels item → item / 268435456 ≡ n → by_type (tree_at b (levels - 1)) b n (item % 268435456) ≡ Some (tree_there b levels item)
typed_as b levels item n h e = rw (← e) (tree_is b levels item h).typed

-- values stand behind their count
pub record ValuesHere (b : Body) (v per from : ℕ) (at : ℕ → ℕ) (found : Option (List ℕ)) : Type 0 where
  pub low : v < b.end
  pub fit : from + count_there b v ≤ per * b.end
  pub is : Some (run at from (count_there b v)) ≡ found

values_here : (b : Body) (v per from : ℕ) (at : ℕ → ℕ) (make : List ℕ → Resource) (layer : Resource-F Resource → Option (List ℕ)) → ((xs : List ℕ) → layer (out-Resource (make xs)) ≡ Some xs)
    → (v ≡ 0 → v + 1 + (0 + per - 1) / per ≤ b.end) → ((n : ℕ) → v + 1 + (n + per - 1) / per ≤ b.end → from + n ≤ per * b.end) → (t : Resource) → 0 < b.end
    → cond (eqb v 0) (Some (make [])) (counted b v per >>= λ n. Some (make (run at from n))) ≡ Some t → ValuesHere b v per from at (layer (out-Resource t))
values_here b v per from at make layer same none fits t pos h =
    let f = parts_found make (λ xs. true) [] (eqb v 0) (counted b v per) (λ n. Some (run at from n)) t refl h in
    let c = count_here v b.end (λ n. v + 1 + (n + per - 1) / per) (slice_index b.words v) f.n none pos f.counted in
    record { low = c.0; fit = rw c.2 (fits f.n c.1); is = rw c.2 (f.all ∙ sym (same f.parts) ∙ ap (λ (t : Resource). layer (out-Resource t)) f.is) }

pub text_here : (b : Body) (levels item : ℕ) → IsTree b levels item → 0 < b.end → item / 268435456 ≡ 0 → let v = item % 268435456 in ValuesHere b v 2 (2 * (v + 1)) (unit_in b.words) (text_in (tree_there b levels item))
unfolding by_type text_at
text_here b levels item h pos e =
    values_here b _ 2 _ (unit_in b.words) (λ xs. r.Text xs) text_layer (λ xs. ap text_layer (out_of _ _ (rolls-Text xs))) (λ z. omega (arith, z)) (λ n h. omega arith) (tree_there b levels item) pos (typed_as b levels item 0 h e)

pub bytes_here : (b : Body) (levels item : ℕ) → IsTree b levels item → 0 < b.end → item / 268435456 ≡ 1 → let v = item % 268435456 in ValuesHere b v 4 (4 * (v + 1)) (byte_in b.words) (bytes_in (tree_there b levels item))
unfolding by_type bytes_at
bytes_here b levels item h pos e =
    values_here b _ 4 _ (byte_in b.words) (λ xs. r.Bytes xs) bytes_layer (λ xs. ap bytes_layer (out_of _ _ (rolls-Bytes xs))) (λ z. omega (arith, z)) (λ n h. omega arith) (tree_there b levels item) pos (typed_as b levels item 1 h e)

pub integers_here : (b : Body) (levels item : ℕ) → IsTree b levels item → 0 < b.end → item / 268435456 ≡ 14 → let v = item % 268435456 in ValuesHere b v 1 (v + 1) (slice_index b.words) (integers_in (tree_there b levels item))
unfolding by_type integers_at
integers_here b levels item h pos e =
    values_here b _ 1 _ (slice_index b.words) (λ xs. r.Integers xs) integers_layer (λ xs. ap integers_layer (out_of _ _ (rolls-Integers xs))) (λ z. omega (arith, z)) (λ n h. omega arith) (tree_there b levels item) pos (typed_as b levels item 14 h e)

-- a text of the area stands where its span tells
pub short_here : (b : Body) (levels item : ℕ) (span : ℕ × ℕ) → IsTree b levels item → item / 268435456 ≡ 6 → short_span b (item % 268435456) ≡ Some span
    → Some (run (unit_in b.words) (2 * b.keys_end + span.0) span.1) ≡ text_in (tree_there b levels item)
unfolding by_type
short_here b levels item span h e there =
    let typed : short_text_at b (item % 268435456) ≡ Some (tree_there b levels item) = typed_as b levels item 6 h e in
    let found : Some (r.Text (run (area_unit b) span.0 span.1)) ≡ Some (tree_there b levels item) = sym (short_text_span b (item % 268435456) ∙ rw there refl) ∙ typed in
    let same : r.Text (run (area_unit b) span.0 span.1) ≡ tree_there b levels item = cc in
    rw (← same, out_of _ _ (rolls-Text (run (area_unit b) span.0 span.1)), run_shift (unit_in b.words) (2 * b.keys_end) span.0 span.1) refl

pub short_never : (b : Body) (levels item : ℕ) → IsTree b levels item → item / 268435456 ≡ 6 → short_span b (item % 268435456) ≡ None → ⊥
unfolding by_type
short_never b levels item h e there =
    let typed : short_text_at b (item % 268435456) ≡ Some (tree_there b levels item) = typed_as b levels item 6 h e in
    let none : short_text_at b (item % 268435456) ≡ None = short_text_span b (item % 268435456) ∙ rw there refl in
    cc

-- ---- a tree by its part

-- an integer is one by its type
pub integer_whole : (b : Body) (levels item : ℕ) → IsTree b levels item → item / 268435456 ≡ 7 → r.Integer (item % 268435456) ≡ tree_there b levels item
unfolding by_type
integer_whole b levels item h e =
    let typed : Some (r.Integer (item % 268435456)) ≡ Some (tree_there b levels item) = typed_as b levels item 7 h e in cc

-- what is nothing else is an integer
kind_left : (f : Resource-F Resource) → None ≡ text_layer f → None ≡ bytes_layer f → None ≡ integers_layer f → items_layer f ≡ None → entries_layer f ≡ None → layer_kind f ≡ 3
kind_left (Resource-F.Text v) a b c d e = cc
kind_left (Resource-F.Bytes v) a b c d e = cc
kind_left (Resource-F.Table v) a b c d e = cc
kind_left (Resource-F.Integer v) a b c d e = refl
kind_left (Resource-F.Array v) a b c d e = cc
kind_left (Resource-F.Integers v) a b c d e = cc

type_left : (t : ℕ) → type_kind t ≡ 3 → t ≡ 7
type_left t h = grind (arith, nat_tests)

pub integer_left : (b : Body) (levels item : ℕ) (t : Resource) → IsTree b levels item → tree_there b levels item ≡ t → None ≡ text_in t → None ≡ bytes_in t → None ≡ integers_in t → items_in t ≡ None → entries_in t ≡ None → r.Integer (item % 268435456) ≡ t
integer_left b levels item t h same x y z items entries =
    let is : type_kind (item / 268435456) ≡ 3 = sym (kind_there b levels item h) ∙ rw same (kind_left (out-Resource t) x y z items entries) in
    integer_whole b levels item h (type_left (item / 268435456) is) ∙ same

pub index_here : (b : Body) (levels item : ℕ) → IsTree b levels item → item / 268435456 ≡ 7 → Some (item % 268435456) ≡ index_in (tree_there b levels item)
index_here b levels item h e = rw (← integer_whole b levels item h e, out_of _ _ (rolls-Integer (item % 268435456))) (ap (λ (n : ℕ). Some n) (omega arith))

-- what shows a text in place
pub ruleset seen_text = (text_here, text_none, short_here, short_never)
