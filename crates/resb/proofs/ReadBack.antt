-- The words that are written for one resource are read back.
use Rattle.std.proofs.Common.{◌≡◌, ℕ, suc, ◌+◌, ◌-◌, ◌*◌, ◌/◌, ◌%◌, ◌<◌, ◌≤◌, true, false, ltb, leb, eqb, List, [], ◌∷◌, ◌++◌, length, length-append, Option, Some, refl, ◌∙◌, subst, lit<, arith}
use Rattle.std.specs.Prelude.{slice_index, map}
use Rattle.std.proofs.lemmas.Bool.{and_parts, ltb-true, lt-ltb, le-leb, ne_eqb}
use Rattle.resb_tree.specs.declared.resource.Resource.{Resource}
use Rattle.resb_tree.specs.declared.resource.Resource.TheVariants as r
use Rattle.resb_tree.specs.Keys.{distinct, keys_in}
use Rattle.resb_tree.specs.Words.{run, byte_in, unit_in, value_count}
use Rattle.resb_tree.specs.Bodies.{Body, counted}
use Rattle.resb_tree.specs.Leaves.{text_at, bytes_at, integers_at}
use Rattle.resb_tree.specs.Arrays.{all_of, array_at}
use Rattle.resb_tree.specs.Tables.{key_at, entries_of, table16_at}
use Rattle.resb_tree.specs.Tree.{by_type, tree_at}
use Rattle.resb.specs.Packing.{pack_units}
use Rattle.resb.specs.LaidTrees.{item, Laid, text_laid, bytes_laid, integers_laid}
use Rattle.std.specs.Simd.Lanes.{all_below}
use Rattle.resb.proofs.PackedWords.{Stand, StandIn, Below, below_append, stand_front, stand_run, bytes_stand, units_stand, length-pack_units, length-pack_bytes}
use Rattle.resb.specs.Entries.{values_in}
use Rattle.resb.proofs.PoolReads.{Each, Placed}

-- ---- items

-- words and an item, at a place, are read back to a tree
abbrev pub Read : Body → ℕ → ℕ → List ℕ × ℕ → Resource → Type 0
Read b levels at words t = 0 < at → StandIn b.words at words.0 → at + length words.0 ≤ b.end → tree_at b levels words.1 ≡ Some t

abbrev pub Reads : Body → ℕ → (List ℕ → ℕ) → ℕ → Laid → Resource → Type 0
Reads b levels places at l t = Read b levels at (l places at) t

pub at_type : (b : Body) (levels type v : ℕ) → v < value_count → tree_at b (suc levels) (item type v) ≡ by_type (tree_at b levels) b type v
unfolding tree_at
at_type b levels type v lt =
    let q : (value_count * type + v) / value_count ≡ type = omega (arith, lt) in
    let k : (value_count * type + v) % value_count ≡ v = omega (arith, lt) in
    rw (q, k) refl

below : (n : ℕ) (xs : List ℕ) → all_below n xs ≡ true → Below n xs
below n [] h = tt
below n (x ∷ xs) h =
    let both = and_parts _ _ h in
    (ltb-true x n both.0, below n xs both.1)

not_zero : (v : ℕ) → 0 < v → eqb v 0 ≡ false
not_zero v lt = ne_eqb v 0 (λ e. omega (arith, e, lt))

counted_is : (b : Body) (v per count : ℕ) → slice_index b.words v ≡ count → v < b.end → v + 1 + (count + per - 1) / per ≤ b.end → counted b v per ≡ Some count
counted_is b v per count e lt le =
    let t : ltb v b.end ≡ true = lt-ltb _ _ lt in
    let s : leb (v + 1 + (count + per - 1) / per) b.end ≡ true = le-leb _ _ le in
    rw (e, t, s) refl

-- ---- texts, bytes and integers

pub text_reads : (b : Body) (levels : ℕ) (places : List ℕ → ℕ) (at : ℕ) (units : List ℕ) → b.end ≤ value_count → all_below 65536 units ≡ true → Reads b (suc levels) places at (text_laid units) (r.Text units)
unfolding by_type text_at
text_reads b levels places at [] fits low pos h le = at_type b levels 0 0 (lit< tt)
text_reads b levels places at (u ∷ units) fits low pos h le =
    let all = u ∷ units in
    let len = length-append all (0 ∷ []) in
    let packed = length-pack_units (all ++ 0 ∷ []) in
    let count = counted_is b at 2 (length all) h.0 (omega (arith, le)) (omega (arith, le, len, packed)) in
    let stand = units_stand b.words (at + 1) (all ++ 0 ∷ []) h.1 (below_append 65536 all (0 ∷ []) (below 65536 all low) (lit< tt, tt)) in
    let e = stand_run (unit_in b.words) (2 * (at + 1)) all (stand_front (unit_in b.words) (2 * (at + 1)) all (0 ∷ []) stand) in
    at_type b levels 0 at (omega (arith, fits, le)) ∙ rw (not_zero at pos, count, e) refl

pub bytes_reads : (b : Body) (levels : ℕ) (places : List ℕ → ℕ) (at : ℕ) (bytes : List ℕ) → b.end ≤ value_count → all_below 256 bytes ≡ true → Reads b (suc levels) places at (bytes_laid bytes) (r.Bytes bytes)
unfolding by_type bytes_at
bytes_reads b levels places at [] fits low pos h le = at_type b levels 1 0 (lit< tt)
bytes_reads b levels places at (x ∷ bytes) fits low pos h le =
    let all = x ∷ bytes in
    let packed = length-pack_bytes all in
    let count = counted_is b at 4 (length all) h.0 (omega (arith, le)) (omega (arith, le, packed)) in
    let e = stand_run (byte_in b.words) (4 * (at + 1)) all (bytes_stand b.words (at + 1) all h.1 (below 256 all low)) in
    at_type b levels 1 at (omega (arith, fits, le)) ∙ rw (not_zero at pos, count, e) refl

pub integers_reads : (b : Body) (levels : ℕ) (places : List ℕ → ℕ) (at : ℕ) (values : List ℕ) → b.end ≤ value_count → Reads b (suc levels) places at (integers_laid values) (r.Integers values)
unfolding by_type integers_at
integers_reads b levels places at [] fits pos h le = at_type b levels 14 0 (lit< tt)
integers_reads b levels places at (x ∷ values) fits pos h le =
    let all = x ∷ values in
    let count = counted_is b at 1 (length all) h.0 (omega (arith, le)) (omega (arith, le)) in
    let e = stand_run (slice_index b.words) (at + 1) all h.1 in
    at_type b levels 14 at (omega (arith, fits, le)) ∙ rw (not_zero at pos, count, e) refl

-- ---- arrays

-- each item denotes its resource
abbrev pub Denote : (ℕ → Option Resource) → List ℕ → List Resource → Type 0
Denote one [] [] = Unit {0}
Denote one (i ∷ items) (x ∷ xs) = (one i ≡ Some x) × Denote one items xs
Denote one [] (x ∷ xs) = ⊥
Denote one (i ∷ items) [] = ⊥

all_read : (one : ℕ → Option Resource) (items : List ℕ) (xs : List Resource) → Denote one items xs → all_of one items ≡ Some xs
all_read one [] [] h = refl
all_read one (i ∷ items) (x ∷ xs) h = rw (h.0, all_read one items xs h.1) refl
all_read one [] (x ∷ xs) h = absurd h
all_read one (i ∷ items) [] h = absurd h

pub array_read : (one : ℕ → Option Resource) (b : Body) (v : ℕ) (items : List ℕ) (xs : List Resource) → 0 < v → StandIn b.words v (length items ∷ items) → v + 1 + length items ≤ b.end → Denote one items xs → array_at one b v ≡ Some (r.Array xs)
unfolding array_at
array_read one b v items xs pos h le d =
    let z = not_zero v pos in
    let count = counted_is b v 1 (length items) h.0 (omega (arith, le)) (omega (arith, le)) in
    let e = stand_run (slice_index b.words) (v + 1) items h.1 in
    rw (z, count, e, all_read one items xs d) refl

-- ---- tables

entries_read : (one : ℕ → Option Resource) (b : Body) (places : List ℕ → ℕ) (p q i : ℕ) (items : List ℕ) (es : List (List ℕ × Resource)) → Stand (unit_in b.words) (p + i) (map places (keys_in es)) → Stand (slice_index b.words) (q + i) items
    → Each (Placed b places) (keys_in es) → Denote one items (values_in es) → entries_of (key_at b) one (run (λ k. (unit_in b.words (p + k), slice_index b.words (q + k))) i (length es)) ≡ Some es
entries_read one b places p q i [] [] s u k d = refl
entries_read one b places p q i [] (e ∷ es) s u k d = absurd d
entries_read one b places p q i (x ∷ items) [] s u k d = absurd d
entries_read one b places p q i (x ∷ items) (e ∷ es) s u k d =
    let m : p + i + 1 ≡ p + (i + 1) = omega arith in
    let n : q + i + 1 ≡ q + (i + 1) = omega arith in
    let rest = entries_read one b places p q (i + 1) items es (subst (λ j. Stand (unit_in b.words) j (map places (keys_in es))) m s.1) (subst (λ j. Stand (slice_index b.words) j items) n u.1) k.1 d.1 in
    rw (s.0, u.0, k.0.0, d.0, rest) refl

pub table_read : (one : ℕ → Option Resource) (b : Body) (places : List ℕ → ℕ) (v : ℕ) (items : List ℕ) (es : List (List ℕ × Resource)) → 0 < v → StandIn b.words v (pack_units (length es ∷ map places (keys_in es)))
    → StandIn b.words (v + (length es + 2) / 2) items → v + (length es + 2) / 2 + length es ≤ b.end → length es < 65536 → Below 65536 (map places (keys_in es)) → Each (Placed b places) (keys_in es) → distinct (keys_in es) ≡ true → Denote one items (values_in es)
    → table16_at one b v ≡ Some (r.Table es)
unfolding table16_at
table_read one b places v items es pos h g le few low k apart d =
    let z = not_zero v pos in
    let units = units_stand b.words v (length es ∷ map places (keys_in es)) h (few, low) in
    let lt : ltb v b.end ≡ true = lt-ltb _ _ (omega (arith, le)) in
    let inside : leb (v + (length es + 2) / 2 + length es) b.end ≡ true = le-leb _ _ le in
    let m : 2 * v + 1 ≡ 2 * v + 1 + 0 = omega arith in
    let n : v + (length es + 2) / 2 ≡ v + (length es + 2) / 2 + 0 = omega arith in
    let e = entries_read one b places (2 * v + 1) (v + (length es + 2) / 2) 0 items es (subst (λ j. Stand (unit_in b.words) j (map places (keys_in es))) m units.1) (subst (λ j. Stand (slice_index b.words) j items) n g) k d in
    rw (z, units.0, lt, inside, e, apart) refl
