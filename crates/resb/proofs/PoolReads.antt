-- The keys of the pool are read back at their places.
use Rattle.std.proofs.Common.{◌≡◌, ℕ, zero, suc, ◌+◌, ◌-◌, ◌*◌, ◌<◌, ◌≤◌, true, false, ltb, eqb, List, [], ◌∷◌, ◌++◌, length, length-append, Some, refl, ap, sym, ◌∙◌, append_assoc, subst, inl, inr, lit<, arith}
use Rattle.std.specs.Str.{bytes_eq}
use Rattle.std.proofs.lemmas.Bool.{cases_Bool, and_parts, and_from, ltb-true, ne_eqb, false≢true}
use Rattle.std.proofs.lemmas.Cmp.{nat_list_eq_equiv}
use Rattle.std.proofs.lemmas.Slice.Eq.{bytes_eq-Decides}
use Rattle.resb_tree.specs.Keys.{stands_in}
use Rattle.resb_tree.specs.Words.{byte_in}
use Rattle.resb_tree.specs.Bodies.{Body}
use Rattle.resb_tree.specs.Tables.{key_from, key_at}
use Rattle.resb.specs.TreeKeys.{first_keys, pool_bytes, key_place}
use Rattle.resb.specs.Writing.{places_of}
use Rattle.resb.specs.WrittenFiles.{most_of}
use Rattle.resb.specs.BadKeys.{is_key, all_keys}
use Rattle.resb.proofs.Pools.{if_parts, if_right}
use Rattle.resb.proofs.PackedWords.{Stand, Below, below_append, stand_front, stand_back}

-- ---- one key

key_read : (byte : ℕ → ℕ) (at more : ℕ) (key : List ℕ) → is_key key ≡ true → Stand byte at (key ++ 0 ∷ []) → length key < more → key_from byte at more ≡ Some key
unfolding key_from
key_read byte at zero key k h lt = absurd (omega (arith, lt))
key_read byte at (suc more) [] k h lt = rw h.0 refl
key_read byte at (suc more) (b ∷ bytes) k h lt =
    let both = and_parts _ _ k in
    let front = and_parts _ _ both.0 in
    let nz : eqb b 0 ≡ false = ne_eqb b 0 (λ e. let p = ltb-true 0 b front.0 in omega (arith, p, e)) in
    let low : ltb b 128 ≡ true = front.1 in
    let rest : key_from byte (at + 1) more ≡ Some bytes = key_read byte (at + 1) more bytes both.1 h.1 (omega (arith, lt)) in
    rw (h.0, nz, low, rest) refl

-- ---- the pool has each key that is met

seen_none : (key : List ℕ) (seen : List (List ℕ)) (k : List ℕ) → stands_in key seen ≡ false → bytes_eq key k ≡ false → stands_in key (seen ++ k ∷ []) ≡ false
seen_none key [] k h e = rw e refl
seen_none key (s ∷ seen) k h e = let both = if_parts (bytes_eq key s) (stands_in key seen) h in rw both.0 (seen_none key seen k both.1 e)

pub met_in_pool : (key : List ℕ) (seen ks : List (List ℕ)) → stands_in key ks ≡ true → stands_in key seen ≡ false → stands_in key (first_keys seen ks) ≡ true
met_in_pool key seen [] h none = h
met_in_pool key seen (k ∷ ks) h none = elim (cases_Bool (bytes_eq key k)) [
  | inl t ↦
      let new : stands_in k seen ≡ false = subst (λ x. stands_in x seen ≡ false) ((bytes_eq-Decides key k).0 t) none in
      rw new (rw t refl)
  | inr f ↦
      let later : stands_in key ks ≡ true = (rw f at h) in
      elim (cases_Bool (stands_in k seen)) [
        | inl old ↦ rw old (met_in_pool key seen ks later none)
        | inr new ↦ rw new (rw f (met_in_pool key (seen ++ k ∷ []) ks later (seen_none key seen k none f)))
      ]
]

pub pool_keys : (seen ks : List (List ℕ)) → all_keys ks ≡ true → all_keys (first_keys seen ks) ≡ true
pool_keys seen [] h = refl
pool_keys seen (k ∷ ks) h =
    let both = and_parts _ _ h in
    elim (cases_Bool (stands_in k seen)) [
      | inl old ↦ rw old (pool_keys seen ks both.1)
      | inr new ↦ rw new (and_from _ _ both.0 (pool_keys (seen ++ k ∷ []) ks both.1))
    ]

-- ---- the pool's bytes

key_bytes : (key : List ℕ) → is_key key ≡ true → Below 256 key
key_bytes [] h = tt
key_bytes (b ∷ bytes) h =
    let both = and_parts _ _ h in
    let front = and_parts _ _ both.0 in
    ((let low = ltb-true b 128 front.1 in omega (arith, low)), key_bytes bytes both.1)

pub pool_below : (pool : List (List ℕ)) → all_keys pool ≡ true → Below 256 (pool_bytes pool)
pool_below [] h = tt
pool_below (k ∷ ks) h =
    let both = and_parts _ _ h in
    below_append 256 k (0 ∷ pool_bytes ks) (key_bytes k both.0) (lit< tt, pool_below ks both.1)

-- a key of the pool is read at its place
pub pool_read : (b : Body) (pool : List (List ℕ)) (at : ℕ) (key : List ℕ) → all_keys pool ≡ true → Stand (byte_in b.words) at (pool_bytes pool) → at + length (pool_bytes pool) ≤ 4 * b.keys_end → stands_in key pool ≡ true
    → key_at b (key_place pool at key) ≡ Some key
unfolding key_at
pool_read b [] at key k h le there = absurd (false≢true there)
pool_read b (p ∷ ps) at key k h le there =
    let both = and_parts _ _ k in
    let len = length-append p (0 ∷ pool_bytes ps) in
    elim (cases_Bool (bytes_eq p key)) [
      | inl t ↦
          let g : Stand (byte_in b.words) at ((p ++ 0 ∷ []) ++ pool_bytes ps) = subst (Stand (byte_in b.words) at) (sym (append_assoc p (0 ∷ []) (pool_bytes ps))) h in
          let front = stand_front (byte_in b.words) at (p ++ 0 ∷ []) (pool_bytes ps) g in
          let e = key_read (byte_in b.words) at (4 * b.keys_end - at) p both.0 front (omega (arith, le, len)) in
          rw (t) (e ∙ ap (λ (x : List ℕ). Some x) ((bytes_eq-Decides p key).0 t))
      | inr f ↦
          let back = stand_back (byte_in b.words) at p (0 ∷ pool_bytes ps) h in
          let later : stands_in key ps ≡ true = (rw (nat_list_eq_equiv.symm key p ∙ f) at there) in
          rw f (pool_read b ps (at + length p + 1) key both.1 back.1 (omega (arith, le, len)) later)
    ]

pub place_low : (pool : List (List ℕ)) (at : ℕ) (key : List ℕ) → stands_in key pool ≡ true → key_place pool at key ≤ most_of (places_of pool at)
place_low [] at key there = absurd (false≢true there)
place_low (p ∷ ps) at key there = elim (cases_Bool (bytes_eq p key)) [
  | inl t ↦ rw t (omega arith)
  | inr f ↦
      let later : stands_in key ps ≡ true = (rw (nat_list_eq_equiv.symm key p ∙ f) at there) in
      let low = place_low ps (at + length p + 1) key later in
      rw f (omega (arith, low))
]

-- ---- what holds of each key

abbrev pub Each : {A : Type 0} → (A → Type 0) → List A → Type 0
Each P [] = Unit {0}
Each P (x ∷ xs) = P x × Each P xs

pub each_append : {A : Type 0} (P : A → Type 0) (xs ys : List A) → Each P (xs ++ ys) → Each P xs × Each P ys
each_append P [] ys h = (tt, h)
each_append P (x ∷ xs) ys h = let rest = each_append P xs ys h.1 in ((h.0, rest.0), rest.1)

pub both_each : {A : Type 0} (P : A → Type 0) (xs ys : List A) → Each P xs → Each P ys → Each P (xs ++ ys)
both_each P [] ys h g = g
both_each P (x ∷ xs) ys h g = (h.0, both_each P xs ys h.1 g)

pub each_met : (P : List ℕ → Type 0) (ks : List (List ℕ)) → ((key : List ℕ) → stands_in key ks ≡ true → P key) → Each P ks
each_met P [] h = tt
each_met P (k ∷ ks) h = (h k (rw ((bytes_eq-Decides k k).1 refl) refl), each_met P ks (λ key there. h key (if_right (bytes_eq key k) (stands_in key ks) there)))

-- a key that is met is read at its place in the pool, which has 16 bits
abbrev pub Placed : Body → (List ℕ → ℕ) → List ℕ → Type 0
Placed b places key = (key_at b (places key) ≡ Some key) × (places key < 65536)
