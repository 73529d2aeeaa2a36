-- The words that are written for a tree denote it.
use Rattle.std.proofs.Common.{◌≡◌, ℕ, ◌+◌, ◌*◌, ◌≤◌, true, false, leb, List, [], ◌∷◌, ◌++◌, length, length-append, Some, refl, ap, sym, ◌∙◌, append_assoc, subst, arith}
use Rattle.std.specs.Prelude.{slice_index}
use Rattle.std.proofs.lemmas.Bool.{le-leb}
use Rattle.std.proofs.lemmas.List.{get_or_at}
use Rattle.resb_tree.specs.Words.{value_count}
use Rattle.resb_tree.specs.declared.resource.Resource.{Resource}
use Rattle.resb_tree.specs.Keys.{stands_in}
use Rattle.resb_tree.specs.Weight.{weight}
use Rattle.resb_tree.specs.Bodies.{Body, body}
use Rattle.resb_tree.specs.Tree.{tree_at, denoted}
use Rattle.resb_tree.specs.Header.{body_of, tree_of}
use Rattle.resb.specs.TreeKeys.{keys_met, key_pool, pool_bytes, key_place}
use Rattle.resb.specs.Packing.{pack_bytes, most_unit}
use Rattle.resb.specs.LaidTrees.{laid}
use Rattle.resb.specs.WrittenFiles.{most_of, most_entries, header, written_body, written}
use Rattle.resb.specs.BadKeys.{all_keys, has_bad_key}
use Rattle.resb.specs.Writing.{places_of, is_too_large}
use Rattle.resb.specs.Laws.{has_typed_parts}
use Rattle.resb.proofs.PackedWords.{StandIn, stand_front, stand_back, bytes_stand, length-pack_bytes}
use Rattle.resb.proofs.PoolReads.{met_in_pool, pool_keys, pool_below, pool_read, place_low, Each, each_met, Placed}
use Rattle.resb.proofs.Trees.{Sound, laid_reads}
use Rattle.resb.proofs.GoodKeys.{keys_good}
use Rattle.resb.proofs.WrittenWords.{Kept, kept}

-- a list stands behind its front
stand_behind : (words front xs : List ℕ) → words ≡ front ++ xs → StandIn words (length front) xs
stand_behind words front [] e = tt
stand_behind words front (x ∷ xs) e =
    let all : words ≡ (front ++ x ∷ []) ++ xs = e ∙ sym (append_assoc front (x ∷ []) xs) in
    let len : length (front ++ x ∷ []) ≡ length front + 1 = length-append front (x ∷ []) in
    (ap (λ ws. slice_index ws (length front)) e ∙ get_or_at front x xs 0 (length front) refl, subst (λ n. StandIn words n xs) len (stand_behind words (front ++ x ∷ []) xs all))

-- ---- the header

header_read : (root keys_end end most : ℕ) (rest : List ℕ) → 8 ≤ keys_end → keys_end ≤ end → end ≤ 8 + length rest → 14 + length rest ≤ 1048576
    → body_of (header ++ (root ∷ 7 ∷ keys_end ∷ end ∷ end ∷ most ∷ 0 ∷ keys_end ∷ rest)) ≡ Some (body (root ∷ 7 ∷ keys_end ∷ end ∷ end ∷ most ∷ 0 ∷ keys_end ∷ rest) keys_end keys_end end)
unfolding body_of
header_read root keys_end end most rest low mid high all =
    let words : List ℕ = root ∷ 7 ∷ keys_end ∷ end ∷ end ∷ most ∷ 0 ∷ keys_end ∷ rest in
    let file : List ℕ = header ++ words in
    let few : leb (length file) 1048576 ≡ true = le-leb _ _ (omega (arith, all)) in
    let room : leb 24 (4 * length file) ≡ true = le-leb _ _ (omega arith) in
    let a : leb 8 keys_end ≡ true = le-leb _ _ low in
    let b : leb keys_end keys_end ≡ true = le-leb _ _ (omega arith) in
    let c : leb keys_end end ≡ true = le-leb _ _ mid in
    let d : leb end end ≡ true = le-leb _ _ (omega arith) in
    let e : leb end (length words) ≡ true = le-leb _ _ (omega (arith, high)) in
    rw (few, room, a, b, c, d, e) refl

-- every key that is met is read at its place
all_placed : (t : Resource) (b : Body) → all_keys (keys_met t) ≡ true → StandIn b.words 8 (pack_bytes (pool_bytes (key_pool t))) → 8 + length (pack_bytes (pool_bytes (key_pool t))) ≤ b.keys_end → most_of (places_of (key_pool t) 32) ≤ most_unit
    → Each (Placed b (key_place (key_pool t) 32)) (keys_met t)
all_placed t b good h le few =
    let pool = key_pool t in
    let fine = pool_keys [] (keys_met t) good in
    let bytes = bytes_stand b.words 8 (pool_bytes pool) h (pool_below pool fine) in
    let inside : 32 + length (pool_bytes pool) ≤ 4 * b.keys_end = omega (arith, le, length-pack_bytes (pool_bytes pool)) in
    each_met (Placed b (key_place pool 32)) (keys_met t) (λ key there.
    let member : stands_in key pool ≡ true = met_in_pool key [] (keys_met t) there refl in
    let low = place_low pool 32 key member in
    (pool_read b pool 32 key fine bytes inside member, omega (arith, low, few)))

-- ---- the parts of the file

abbrev key_words : Resource → List ℕ
key_words t = pack_bytes (pool_bytes (key_pool t))

abbrev keys_stop : Resource → ℕ
keys_stop t = 8 + length (key_words t)

abbrev root_laid : Resource → List ℕ × ℕ
root_laid t = laid t (key_place (key_pool t) 32) (keys_stop t)

abbrev stop : Resource → ℕ
stop t = keys_stop t + length (root_laid t).0

body_read : (t : Resource) → has_typed_parts t ≡ true → has_bad_key t ≡ false → Kept t → stop t ≤ value_count → denoted (body (written_body t) (keys_stop t) (keys_stop t) (stop t)) (8 * length (written t)) ≡ Some t
unfolding denoted written_body
body_read t typed good room fits =
    let root = root_laid t in
    let keys = key_words t in
    let places = key_place (key_pool t) 32 in
    let b : Body = body (written_body t) (keys_stop t) (keys_stop t) (stop t) in
    let eight : List ℕ = root.1 ∷ 7 ∷ keys_stop t ∷ stop t ∷ stop t ∷ most_entries t ∷ 0 ∷ keys_stop t ∷ [] in
    let behind : StandIn (written_body t) 8 (keys ++ root.0) = stand_behind (written_body t) eight (keys ++ root.0) refl in
    let key_part = stand_front (slice_index (written_body t)) 8 keys root.0 behind in
    let root_part = stand_back (slice_index (written_body t)) 8 keys root.0 behind in
    let placed = all_placed t b (keys_good 8 t room.shallow good) key_part (omega arith) room.near in
    let sound : Sound b places 8 t = (room.shallow, good, room.small, room.counts, typed, placed) in
    let read : tree_at b 8 root.1 ≡ Some t = laid_reads 8 b places fits t (keys_stop t) sound (omega arith) root_part (omega arith) in
    let light : leb (weight t) (8 * length (written t)) ≡ true = le-leb _ _ room.light in
    rw (read, light) refl

header_is : (t : Resource) → Kept t → body_of (written t) ≡ Some (body (written_body t) (keys_stop t) (keys_stop t) (stop t))
unfolding written written_body
header_is t room =
    let root = root_laid t in
    let keys = key_words t in
    let len = length-append keys root.0 in
    header_read root.1 (keys_stop t) (stop t) (most_entries t) (keys ++ root.0) (omega arith) (omega arith) (omega (arith, len)) (omega (arith, room.words))

of_body : (words : List ℕ) (b : Body) → body_of words ≡ Some b → tree_of words ≡ denoted b (8 * length words)
unfolding tree_of
of_body words b h = rw h refl

stop_low : (t : Resource) → Kept t → stop t ≤ value_count
unfolding written written_body
stop_low t room = omega (arith, room.words, length-append (key_words t) (root_laid t).0)

pub denotes : (t : Resource) → has_typed_parts t ≡ true → has_bad_key t ≡ false → is_too_large t ≡ false → tree_of (written t) ≡ Some t
denotes t typed good fits =
    let has_room = kept t fits in
    of_body (written t) _ (header_is t has_room) ∙ body_read t typed good has_room (stop_low t has_room)
