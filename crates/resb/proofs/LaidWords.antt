-- Equations of the words, and how trees fit that stand in another.
use Rattle.std.proofs.Common.{◌≡◌, ℕ, ◌+◌, ◌<◌, ◌≤◌, false, Bool, List, [], ◌∷◌, ◌++◌, length, refl, sym, ap, ◌∙◌, arith}
use Rattle.std.proofs.lemmas.List.{length-append, append-nil}
use Rattle.std.proofs.lemmas.Bool.{or_parts, or_from}
use Rattle.std.specs.Prelude.{map, Result, Ok, Err, IsErrAnd, MatchResult}
use Rattle.resb_tree.specs.declared.error.ResbError.{ResbError}
use Rattle.resb_tree.specs.declared.error.ResbError.TheVariants.{Memory, NoTree, TooLarge, BadKey}
use Rattle.resb_tree.specs.declared.resource.Resource.{Resource}
use Rattle.resb_tree.specs.declared.resource.Resource.TheVariants as r
use Rattle.resb.specs.Inside.Laying.{no_places, IsLaid, Fits}
use Rattle.resb.specs.Plan.{most_words, FitsAll, Refuses}
use Rattle.resb.specs.LaidTrees.{laid, lay_all, item}
use Rattle.resb.specs.Packing.{pack_units, pack_bytes}
use Rattle.resb.specs.WrittenFiles.{most_of}
use Rattle.resb.specs.TreeKeys.{keys_met, item_keys}
use Rattle.resb.proofs.Folds.{laid-Text, laid-Bytes, laid-Integers}
use Rattle.resb.proofs.PackedWords.{length-pack_units, length-pack_bytes}
use Rattle.resb.proofs.TreeKinds.{IsLeaf, IsParent, most_both, at_place}

-- ---- leaves

pub text_none : (v : List ℕ) (places : List ℕ → ℕ) (at : ℕ) → length v ≡ 0 → laid (r.Text v) places at ≡ ([], 0)
text_none [] places at h = at_place (laid-Text []) places at
text_none (u ∷ v) places at h = absurd (omega arith)

pub text_some : (v : List ℕ) (places : List ℕ → ℕ) (at : ℕ) → 0 < length v → laid (r.Text v) places at ≡ (length v ∷ pack_units (v ++ 0 ∷ []), at)
text_some [] places at h = absurd (omega arith)
text_some (u ∷ v) places at h =
    let e : item 0 at ≡ at = omega arith in
    at_place (laid-Text (u ∷ v)) places at ∙ ap (λ (n : ℕ). (length (u ∷ v) ∷ pack_units ((u ∷ v) ++ 0 ∷ []), n)) e

pub bytes_none : (v : List ℕ) (places : List ℕ → ℕ) (at : ℕ) → length v ≡ 0 → laid (r.Bytes v) places at ≡ ([], 268435456)
bytes_none [] places at h = at_place (laid-Bytes []) places at
bytes_none (u ∷ v) places at h = absurd (omega arith)

pub bytes_some : (v : List ℕ) (places : List ℕ → ℕ) (at : ℕ) → 0 < length v → laid (r.Bytes v) places at ≡ (length v ∷ pack_bytes v, 268435456 + at)
bytes_some [] places at h = absurd (omega arith)
bytes_some (u ∷ v) places at h = at_place (laid-Bytes (u ∷ v)) places at

pub integers_none : (v : List ℕ) (places : List ℕ → ℕ) (at : ℕ) → length v ≡ 0 → laid (r.Integers v) places at ≡ ([], 3758096384)
integers_none [] places at h = at_place (laid-Integers []) places at
integers_none (u ∷ v) places at h = absurd (omega arith)

pub integers_some : (v : List ℕ) (places : List ℕ → ℕ) (at : ℕ) → 0 < length v → laid (r.Integers v) places at ≡ (length v ∷ v, 3758096384 + at)
integers_some [] places at h = absurd (omega arith)
integers_some (u ∷ v) places at h = at_place (laid-Integers (u ∷ v)) places at

pub ruleset leaves = (text_none, text_some, bytes_none, bytes_some, integers_none, integers_some, length-pack_units, length-pack_bytes, length-append, append-nil)

-- a leaf fits where there is room for its words
pub leaf_fits : (t : Resource) (parts : ℕ) (typed : Bool) → IsLeaf t parts false typed → (places : List ℕ → ℕ) (at : ℕ) → at + length (laid t places at).0 ≤ most_words → Fits t places at
leaf_fits t parts typed l places at h = record { room = h; near = rw l.keys (omega arith); counts = omega (arith, l.entries); small = l.wide_is }

-- a leaf is laid wherever the keys are
pub leaf_laid : (t : Resource) (parts : ℕ) (typed : Bool) → IsLeaf t parts false typed → (base : ℕ) (old new : List ℕ) (told : ℕ) → new ≡ old ++ (laid t no_places (base + length old)).0 → told ≡ (laid t no_places (base + length old)).1
    → base + length old + length (laid t no_places (base + length old)).0 ≤ most_words → (places : List ℕ → ℕ) → IsLaid t places base old new told
leaf_laid t parts typed l base old new told words item room places =
    let same = l.same places (base + length old) in
    record { words = rw same words; item = rw same item; fits = leaf_fits t parts typed l places (base + length old) (rw same room) }

-- ---- trees one after the other

pub fits-first : (x : Resource) (xs : List Resource) (places : List ℕ → ℕ) (at : ℕ) → FitsAll (x ∷ xs) places at → Fits x places at
fits-first x xs places at f = record {
  room = omega (arith, f.room, length-append (laid x places at).0 (lay_all (map laid xs) places (at + length (laid x places at).0)).0);
  near = omega (arith, f.near, most_both places (keys_met x) (item_keys (map keys_met xs)));
  counts = omega (arith, f.counts);
  small = (or_parts _ _ f.small).0;
}

pub fits-rest : (x : Resource) (xs : List Resource) (places : List ℕ → ℕ) (at : ℕ) → FitsAll (x ∷ xs) places at → FitsAll xs places (at + length (laid x places at).0)
fits-rest x xs places at f = record {
  room = omega (arith, f.room, length-append (laid x places at).0 (lay_all (map laid xs) places (at + length (laid x places at).0)).0);
  near = omega (arith, f.near, most_both places (keys_met x) (item_keys (map keys_met xs)));
  counts = omega (arith, f.counts);
  small = (or_parts _ _ f.small).1;
}

pub fits_none : (places : List ℕ → ℕ) (at : ℕ) → at ≤ most_words → FitsAll [] places at
fits_none places at h = record { room = omega arith; near = omega arith; counts = omega arith; small = refl }

pub fits_cons : (x : Resource) (xs : List Resource) (places : List ℕ → ℕ) (at : ℕ) → Fits x places at → FitsAll xs places (at + length (laid x places at).0) → FitsAll (x ∷ xs) places at
fits_cons x xs places at f g = record {
  room = omega (arith, g.room, length-append (laid x places at).0 (lay_all (map laid xs) places (at + length (laid x places at).0)).0);
  near = omega (arith, f.near, g.near, most_both places (keys_met x) (item_keys (map keys_met xs)));
  counts = omega (arith, f.counts, g.counts);
  small = or_from _ _ f.small g.small;
}

-- ---- parents

-- where a parent fits, its parts do
pub parts_fit : (t : Resource) (xs : List Resource) (names : List (List ℕ)) → IsParent t xs names → (places : List ℕ → ℕ) (at : ℕ) → Fits t places at → FitsAll xs places at
parts_fit t xs names p places at f = record { room = omega (arith, f.room, p.inner places at); near = omega (arith, f.near, p.near places); counts = omega (arith, f.counts, p.entries); small = sym p.wide ∙ f.small }

pub parent_fits : (t : Resource) (xs : List Resource) (names : List (List ℕ)) → IsParent t xs names → (places : List ℕ → ℕ) (at : ℕ) → at + length (laid t places at).0 ≤ most_words → length names ≤ 65535 → most_of (map places names) ≤ 65535 → FitsAll xs places at → Fits t places at
parent_fits t xs names p places at room few low f = record { room = room; near = omega (arith, f.near, low, p.near places); counts = omega (arith, f.counts, few, p.entries); small = p.wide ∙ f.small }

pub refused_still : (e : ResbError) (P Q : Type 0) → (Q → P) → Refuses P e → Refuses Q e
refused_still Memory P Q f h = h
refused_still NoTree P Q f h = h
refused_still TooLarge P Q f h = λ q. h (f q)
refused_still BadKey P Q f h = h

-- a refusal that is handed on
pub err_on : {X : Type 0} (x : Result X ResbError) (P : X → Type 0) (Q : ResbError → Type 0) (e : ResbError) → IsErrAnd x (λ y. y ≡ e) → Q e → MatchResult x P Q
err_on (Ok v) P Q e h f = absurd h
err_on (Err y) P Q e h f = rw h f
