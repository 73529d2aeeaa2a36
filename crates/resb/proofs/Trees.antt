-- The words that are written for a tree are read back to it.
use Rattle.std.proofs.Common.{◌≡◌, ℕ, zero, suc, ◌+◌, ◌<◌, ◌≤◌, true, false, List, [], ◌∷◌, ◌++◌, length, length-append, sym, ◌∙◌, subst, lit<, arith, leb-false}
use Rattle.std.specs.Prelude.{slice_index, map}
use Rattle.std.specs.List.{list_any, list_all}
use Rattle.std.proofs.lemmas.Bool.{and_parts, or_parts, not-false}
use Rattle.resb_tree.specs.Words.{value_count}
use Rattle.resb_tree.specs.declared.resource.Resource.{Resource}
use Rattle.resb_tree.specs.declared.resource.Resource.TheVariants as r
use Rattle.resb_tree.specs.Keys.{distinct, keys_in}
use Rattle.resb_tree.specs.Bodies.{Body}
use Rattle.resb_tree.specs.Tree.{by_type, tree_at}
use Rattle.resb_tree.specs.Arrays.{array_at}
use Rattle.resb_tree.specs.Tables.{table16_at}
use Rattle.resb.specs.Packing.{pack_units, most_unit}
use Rattle.resb.specs.LaidTrees.{item, lay_all, laid}
use Rattle.resb.specs.WrittenFiles.{most_of, most_entries}
use Rattle.resb.specs.BadKeys.{has_bad_key}
use Rattle.resb.specs.Writing.{depth, has_wide_integer}
use Rattle.resb.specs.Laws.{has_typed_parts}
use Rattle.resb.proofs.Cases.{by_variant}
use Rattle.resb.proofs.PackedWords.{StandIn, Below, stand_front, stand_back}
use Rattle.resb.proofs.PoolReads.{Each, each_append, Placed}
use Rattle.resb.proofs.ReadBack.{Read, Reads, at_type, text_reads, bytes_reads, integers_reads, Denote, array_read, table_read}
use Rattle.resb.proofs.LaidSteps.{length-values}
use Rattle.std.proofs.lemmas.List.{length-map}
use Rattle.resb.specs.TreeKeys.{item_keys, keys_met}
use Rattle.resb.proofs.TreeKinds.{IsParent, leaf-Text, leaf-Bytes, leaf-Integer, parent-Array, parent-Table, at_place, array_over, table_over, length-lay_all, length-own, deep}
use Rattle.resb.proofs.Folds.{laid-Text, laid-Bytes, laid-Integers, laid-Integer, laid-Array, laid-Table}
use Rattle.resb.specs.Entries.{values_in}

-- ---- a tree that the words have room for

abbrev pub Sound : Body → (List ℕ → ℕ) → ℕ → Resource → Type 0
Sound b places levels t = (depth t ≤ levels) × (has_bad_key t ≡ false) × (has_wide_integer t ≡ false) × (most_entries t ≤ most_unit) × (has_typed_parts t ≡ true) × Each (Placed b places) (keys_met t)

items_sound : (b : Body) (places : List ℕ → ℕ) (levels : ℕ) (xs : List Resource) → most_of (map depth xs) ≤ levels → list_any has_bad_key xs ≡ false → list_any has_wide_integer xs ≡ false → most_of (map most_entries xs) ≤ most_unit
    → list_all has_typed_parts xs ≡ true → Each (Placed b places) (item_keys (map keys_met xs)) → Each (Sound b places levels) xs
items_sound b places levels [] d k w m p e = tt
items_sound b places levels (x ∷ xs) d k w m p e =
    let bad = or_parts _ _ k in
    let wide = or_parts _ _ w in
    let typed = and_parts _ _ p in
    let keys = each_append (Placed b places) (keys_met x) (item_keys (map keys_met xs)) e in
    ((omega (arith, d), bad.0, wide.0, omega (arith, m), typed.0, keys.0), items_sound b places levels xs (omega (arith, d)) bad.1 wide.1 (omega (arith, m)) typed.1 keys.1)

places_low : (b : Body) (places : List ℕ → ℕ) (ks : List (List ℕ)) → Each (Placed b places) ks → Below 65536 (map places ks)
places_low b places [] h = tt
places_low b places (k ∷ ks) h = (h.0.1, places_low b places ks h.1)

-- ---- children

abbrev pub Child : Body → ℕ → (List ℕ → ℕ) → Type 0
Child b levels places = (x : Resource) (at : ℕ) → Sound b places levels x → Reads b levels places at (laid x) x

children : (b : Body) (levels : ℕ) (places : List ℕ → ℕ) → Child b levels places → (xs : List Resource) (at : ℕ) → Each (Sound b places levels) xs → 0 < at → StandIn b.words at (lay_all (map laid xs) places at).0
    → at + length (lay_all (map laid xs) places at).0 ≤ b.end → Denote (tree_at b levels) (lay_all (map laid xs) places at).1 xs
children b levels places child [] at s pos h le = tt
children b levels places child (x ∷ xs) at s pos h le =
    let first = laid x places at in
    let others = lay_all (map laid xs) places (at + length first.0) in
    let len = length-append first.0 others.0 in (
      child x at s.0 pos (stand_front (slice_index b.words) at first.0 others.0 h) (omega (arith, le, len)),
      children b levels places child xs (at + length first.0) s.1 (omega (arith, pos)) (stand_back (slice_index b.words) at first.0 others.0 h) (omega (arith, le, len)),
    )

-- what stands of a parent: its parts' words, its own, its parts' items
record Standing (b : Body) (levels : ℕ) (xs : List Resource) (own : List ℕ) (at : ℕ) (inner : List ℕ × List ℕ) : Type 0 where
  denoted : Denote (tree_at b levels) inner.1 xs
  own_words : StandIn b.words (at + length inner.0) own
  items : StandIn b.words (at + length inner.0 + length own) inner.1
  room : at + length inner.0 + (length own + length inner.1) ≤ b.end

parts_stand : (b : Body) (levels : ℕ) (places : List ℕ → ℕ) → Child b levels places → (xs : List Resource) (own : List ℕ) (at : ℕ) → Each (Sound b places levels) xs → 0 < at
    → (let inner = lay_all (map laid xs) places at in StandIn b.words at (inner.0 ++ (own ++ inner.1)) → at + length (inner.0 ++ (own ++ inner.1)) ≤ b.end → Standing b levels xs own at inner)
parts_stand b levels places child xs own at s pos h le =
    let inner = lay_all (map laid xs) places at in
    let len1 = length-append inner.0 (own ++ inner.1) in
    let len2 = length-append own inner.1 in
    let back = stand_back (slice_index b.words) at inner.0 (own ++ inner.1) h in
    record {
      denoted = children b levels places child xs at s pos (stand_front (slice_index b.words) at inner.0 (own ++ inner.1) h) (omega (arith, le, len1));
      own_words = stand_front (slice_index b.words) (at + length inner.0) own inner.1 back;
      items = stand_back (slice_index b.words) (at + length inner.0) own inner.1 back;
      room = omega (arith, le, len1, len2);
    }

array_reads : (b : Body) (levels : ℕ) (places : List ℕ → ℕ) (at : ℕ) → b.end ≤ value_count → Child b levels places → (xs : List Resource) → Each (Sound b places levels) xs → Reads b (suc levels) places at (laid (r.Array xs)) (r.Array xs)
unfolding by_type array_at
array_reads b levels places at fits child [] s = subst (λ w. Read b (suc levels) at w (r.Array [])) (sym (at_place (laid-Array []) places at)) (λ pos h le. at_type b levels 8 0 (lit< tt))
array_reads b levels places at fits child (x ∷ xs) s = subst (λ w. Read b (suc levels) at w (r.Array (x ∷ xs))) (sym (array_over (x ∷ xs) places (omega arith) at)) (λ pos h le.
    let inner = lay_all (map laid (x ∷ xs)) places at in
    let p = parts_stand b levels places child (x ∷ xs) (length (x ∷ xs) ∷ []) at s pos h le in
    let len = length-lay_all (x ∷ xs) places at in
    at_type b levels 8 (at + length inner.0) (omega (arith, fits, p.room)) ∙ array_read (tree_at b levels) b (at + length inner.0) inner.1 (x ∷ xs) (omega (arith, pos)) (p.own_words.0 ∙ sym len, p.items) (omega (arith, p.room)) p.denoted)

table_reads : (b : Body) (levels : ℕ) (places : List ℕ → ℕ) (at : ℕ) → b.end ≤ value_count → Child b levels places → (es : List (List ℕ × Resource)) → length (keys_in es) ≤ most_unit → distinct (keys_in es) ≡ true → Each (Placed b places) (keys_in es)
    → Each (Sound b places levels) (values_in es) → Reads b (suc levels) places at (laid (r.Table es)) (r.Table es)
unfolding by_type table16_at
table_reads b levels places at fits child [] few apart k s = subst (λ w. Read b (suc levels) at w (r.Table [])) (sym (at_place (laid-Table []) places at)) (λ pos h le. at_type b levels 2 0 (lit< tt))
table_reads b levels places at fits child (e ∷ es) few apart k s = subst (λ w. Read b (suc levels) at w (r.Table (e ∷ es))) (sym (table_over (e ∷ es) places (omega arith) at)) (λ pos h le.
    let all = e ∷ es in
    let inner = lay_all (map laid (values_in all)) places at in
    let own = pack_units (length all ∷ map places (keys_in all)) in
    let p = parts_stand b levels places child (values_in all) own at s pos h le in
    let len = length-own all places in
    let items : length inner.1 ≡ length all = length-lay_all (values_in all) places at ∙ length-values all in
    let count : length all ≡ length (keys_in all) = sym (length-map all (λ (e : List ℕ × Resource). e.0)) in
    at_type b levels 2 (at + length inner.0) (omega (arith, fits, p.room, len))
    ∙ table_read (tree_at b levels) b places (at + length inner.0) inner.1 all (omega (arith, pos)) p.own_words (rw len at p.items) (omega (arith, p.room, len, items)) (omega (arith, count, few)) (places_low b places (keys_in all) k) k apart p.denoted)

integer_reads : (b : Body) (levels : ℕ) (places : List ℕ → ℕ) (at v : ℕ) → v < value_count → Reads b (suc levels) places at (λ places at. ([], item 7 v)) (r.Integer v)
unfolding by_type
integer_reads b levels places at v lt pos h le = at_type b levels 7 v lt

-- ---- all levels

-- a parent's names, and its parts
parts_sound : (b : Body) (places : List ℕ → ℕ) (levels : ℕ) (t : Resource) (xs : List Resource) (names : List (List ℕ)) → IsParent t xs names → Sound b places (suc levels) t → (length names ≤ most_unit) × (distinct names ≡ true) × Each (Placed b places) names × Each (Sound b places levels) xs
parts_sound b places levels t xs names p s =
    let bad = or_parts _ _ (sym p.bad ∙ s.1) in
    let good = and_parts _ _ (not-false _ bad.0) in
    let keys = p.placed b places s.5 in
    (omega (arith, p.entries, s.3), good.1, keys.0, items_sound b places levels xs (omega (arith, p.deep, s.0)) bad.1 (sym p.wide ∙ s.2) (omega (arith, p.entries, s.3)) (sym p.typed ∙ s.4) keys.1)

pub laid_reads : (levels : ℕ) (b : Body) (places : List ℕ → ℕ) → b.end ≤ value_count → Child b levels places
laid_reads zero b places fits x at = λ s. absurd (let d = deep x in omega (arith, d, s.0))
laid_reads (suc levels) b places fits x at = by_variant (λ t. Sound b places (suc levels) t → Reads b (suc levels) places at (laid t) t)
    (λ v s. subst (λ l. Reads b (suc levels) places at l (r.Text v)) (sym (laid-Text v)) (text_reads b levels places at v fits (sym (leaf-Text v).typed_is ∙ s.4)))
    (λ v s. subst (λ l. Reads b (suc levels) places at l (r.Bytes v)) (sym (laid-Bytes v)) (bytes_reads b levels places at v fits (sym (leaf-Bytes v).typed_is ∙ s.4)))
    (λ v s. let parts = parts_sound b places levels (r.Table v) (values_in v) (keys_in v) (parent-Table v) s in
    table_reads b levels places at fits (laid_reads levels b places fits) v parts.0 parts.1 parts.2 parts.3)
    (λ v s. subst (λ l. Reads b (suc levels) places at l (r.Integer v)) (sym (laid-Integer v)) (integer_reads b levels places at v (leb-false value_count v (sym (leaf-Integer v).wide_is ∙ s.2))))
    (λ v s. array_reads b levels places at fits (laid_reads levels b places fits) v (parts_sound b places levels (r.Array v) v [] (parent-Array v) s).3)
    (λ v s. subst (λ l. Reads b (suc levels) places at l (r.Integers v)) (sym (laid-Integers v)) (integers_reads b levels places at v fits))
    x
