-- Trees that are told to a draft one after the other.
use Rattle.std.proofs.Common.{◌≡◌, ℕ, zero, suc, ◌+◌, ◌<◌, ◌≤◌, true, false, List, [], ◌∷◌, ◌++◌, length, drop, take, get_or, refl, sym, ap, ◌∙◌, subst, append_assoc, Bor, arith}
use Rattle.std.proofs.lemmas.Bool.{and_parts, or_parts, not-false}
use Rattle.std.proofs.lemmas.List.{take-append-drop, take_more, take_all, map-append}
use Rattle.std.specs.Prelude.{Result, Ok, Err}
use Rattle.std.specs.List.{list_any}
use Rattle.resb_tree.specs.Keys.{distinct, keys_in}
use Rattle.resb_tree.specs.declared.error.ResbError.{ResbError}
use Rattle.resb_tree.specs.declared.resource.Resource.{Resource}
use Rattle.resb_tree.specs.declared.resource.Resource.TheVariants as r
use Rattle.resb.specs.DraftRows.{Holds, HasRoom, Puts}
use Rattle.resb.specs.DraftParents.{MakesArray}
use Rattle.resb.specs.Inside.Telling.{Tells, Names}
use Rattle.resb.specs.Plan.{Refuses}
use Rattle.resb.specs.Entries.{values_in}
use Rattle.resb.specs.Pool.{bare}
use Rattle.resb.specs.BadKeys.{all_keys, has_bad_key}
use Rattle.resb.specs.declared.draft.Draft.{Draft}
use Rattle.resb.proofs.LaidSteps.{item_cons}
use Rattle.resb.proofs.LaidWords.{refused_still}
use Rattle.resb.proofs.Rooms.{room_front, parts_room}
use Rattle.resb.proofs.Rows.{none_parts}
use Rattle.resb.proofs.TreeKinds.{IsParent, parent-Array, parent-Table}

abbrev Good : List Resource → Type 0
Good xs = list_any has_bad_key xs ≡ false

-- ---- one after the other

-- so many of the first trees were told
abbrev pub Begun : Draft → Draft → List Resource → ℕ → Type 0
Begun old new trees i = (keys : List (List ℕ)) (row : List Resource) → Good trees → Holds old keys row → Holds new keys (row ++ take i trees)

parts_at : (trees : List Resource) (i : ℕ) (x : Resource) → i < length trees → x ≡ get_or trees i x → trees ≡ take i trees ++ (x ∷ []) ++ drop (i + 1) trees
parts_at trees i x lt is =
    sym (take-append-drop i trees) ∙ rw (item_cons trees i x lt is) (sym (append_assoc (take i trees) (x ∷ []) (drop (i + 1) trees)))

one_good : (trees : List Resource) (i : ℕ) (x : Resource) → i < length trees → x ≡ get_or trees i x → Good trees → Good (x ∷ [])
one_good trees i x lt is good =
    let all : Good (take i trees ++ (x ∷ []) ++ drop (i + 1) trees) = subst Good (parts_at trees i x lt is) good in
    (none_parts has_bad_key (take i trees) (x ∷ []) (none_parts has_bad_key (take i trees ++ x ∷ []) (drop (i + 1) trees) all).0).1

pub told_next : (old mid new : Draft) (trees : List Resource) (i : ℕ) (x : Resource) → i < length trees → x ≡ get_or trees i x → Begun old mid trees i
    → ((keys : List (List ℕ)) (row : List Resource) → Good (x ∷ []) → Holds mid keys row → Holds new keys (row ++ x ∷ [])) → Begun old new trees (i + 1)
told_next old mid new trees i x lt is begun step = λ keys row good h.
    let next : take (i + 1) trees ≡ take i trees ++ x ∷ [] = take_more trees i x lt ∙ rw (← is) refl in
    rw next (subst (λ (ts : List Resource). Holds new keys ts) (append_assoc row (take i trees) (x ∷ [])) (step keys (row ++ take i trees) (one_good trees i x lt is good) (begun keys row good h)))

pub told_all : (old new : Draft) (trees : List Resource) (i : ℕ) → length trees ≤ i → Begun old new trees i → (keys : List (List ℕ)) (row : List Resource) → Good trees → Holds old keys row → Holds new keys (row ++ trees)
told_all old new trees i le begun keys row good h = subst (λ (ts : List Resource). Holds new keys (row ++ ts)) (take_all i trees le) (begun keys row good h)

pub told_stop : (old mid : Draft) (trees : List Resource) (i : ℕ) (x : Resource) (e : ResbError) → i < length trees → x ≡ get_or trees i x → Begun old mid trees i
    → ((keys : List (List ℕ)) (row : List Resource) → Good (x ∷ []) → Holds mid keys row → Refuses (HasRoom keys (row ++ x ∷ [])) e) → (keys : List (List ℕ)) (row : List Resource) → Good trees → Holds old keys row → Refuses (HasRoom keys (row ++ trees)) e
told_stop old mid trees i x e lt is begun step keys row good h =
    let front = take i trees in
    let whole : row ++ trees ≡ ((row ++ front) ++ x ∷ []) ++ drop (i + 1) trees = ap (λ (ts : List Resource). row ++ ts) (parts_at trees i x lt is) ∙ simp append_assoc in
    refused_still e _ _ (λ (room : HasRoom keys (row ++ trees)). room_front keys ((row ++ front) ++ x ∷ []) (drop (i + 1) trees) (subst (λ (ts : List Resource). HasRoom keys ts) whole room))
    (step keys (row ++ front) (one_good trees i x lt is good) (begun keys row good h))

-- ---- a tree of its parts

pub puts_tells : {X : Type 0} (old new : Draft) (t : Resource) (x : Result X ResbError) → Puts old new t x → Tells old new (t ∷ []) x
puts_tells old new t (Ok v) f = λ keys row good h. f keys row h
puts_tells old new t (Err e) f = λ keys row good h. f keys row h

-- a parent without bad keys has good names, and parts without bad keys
parent_good : (t : Resource) (xs : List Resource) (names : List (List ℕ)) → IsParent t xs names → Good (t ∷ []) → (all_keys names ≡ true) × (distinct names ≡ true) × Good xs
parent_good t xs names p good =
    let parts = or_parts _ _ (sym p.bad ∙ (or_parts _ _ good).0) in
    let own = and_parts _ _ (not-false _ parts.0) in
    (own.0, own.1, parts.1)

pub array_told : {X : Type 0} (old mid new : Draft) (xs : List Resource) (x : Result X ResbError) → ((keys : List (List ℕ)) (row : List Resource) → Good xs → Holds old keys row → Holds mid keys (row ++ xs)) → MakesArray mid new (length xs) x → Tells old new (r.Array xs ∷ []) x
array_told old mid new xs (Ok v) told f = λ keys row good h. f keys row xs refl (told keys row (parent_good (r.Array xs) xs [] (parent-Array xs) good).2 h)
array_told old mid new xs (Err e) told f = λ keys row good h. f.large keys row xs refl (told keys row (parent_good (r.Array xs) xs [] (parent-Array xs) good).2 h)

pub table_told : {X : Type 0} (old mid new : Draft) (es : List (List ℕ × Resource)) (x : Result X ResbError) → ((keys : List (List ℕ)) (row : List Resource) → Good (values_in es) → Holds old keys row → Holds mid keys (row ++ values_in es)) → Names mid new (keys_in es) x → Tells old new (r.Table es ∷ []) x
table_told old mid new es (Ok v) told f = λ keys row good h.
    let fine = parent_good (r.Table es) (values_in es) (keys_in es) (parent-Table es) good in
    f keys row es refl fine.0 fine.1 (told keys row fine.2 h)
table_told old mid new es (Err y) told f = λ keys row good h. f.large keys row es refl (told keys row (parent_good (r.Table es) (values_in es) (keys_in es) (parent-Table es) good).2 h)

-- where the parts of a parent have no room, it has none
pub parent_stop : (old : Draft) (t : Resource) (xs : List Resource) (names : List (List ℕ)) (e : ResbError) → IsParent t xs names → ((keys : List (List ℕ)) (row : List Resource) → Good xs → Holds old keys row → Refuses (HasRoom keys (row ++ xs)) e)
    → (keys : List (List ℕ)) (row : List Resource) → Good (t ∷ []) → Holds old keys row → Refuses (HasRoom keys (row ++ t ∷ [])) e
parent_stop old t xs names e p f keys row good h = refused_still e _ _ (parts_room keys row xs t names p) (f keys row (parent_good t xs names p good).2 h)

-- a value of entries, by its entry
pub value_at : (es : List (List ℕ × Resource)) (i : ℕ) (e : List ℕ × Resource) → i < length es → e ≡ get_or es i e → (i < length (values_in es)) × (e.1 ≡ get_or (values_in es) i e.1)
value_at [] i e lt is = absurd (omega (arith, lt))
value_at (x ∷ es) zero e lt is = (omega arith, ap (λ (y : List ℕ × Resource). y.1) is)
value_at (x ∷ es) (suc i) e lt is = let rest = value_at es i e (omega (arith, lt)) is in (omega (arith, rest.0), rest.1)

-- the keys of entries, as slices
pub keys_more : (es : List (List ℕ × Resource)) (i : ℕ) (e : List ℕ × Resource) (keys new : List (Bor (List ℕ))) (k : Bor (List ℕ)) (all : List (List ℕ)) → i < length es → e ≡ get_or es i e → k.now ≡ e.0 → new ≡ keys ++ k ∷ []
    → bare keys ++ keys_in (drop i es) ≡ all → bare new ++ keys_in (drop (i + 1) es) ≡ all
keys_more es i e keys new k all lt is own n h =
    let g : bare keys ++ (e.0 ∷ keys_in (drop (i + 1) es)) ≡ all = rw (item_cons es i e lt is) at h in
    let both : bare new ≡ bare keys ++ e.0 ∷ [] = rw (n, map-append, own) refl in
    rw both (append_assoc (bare keys) (e.0 ∷ []) (keys_in (drop (i + 1) es)) ∙ g)
