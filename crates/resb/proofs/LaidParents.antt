-- Arrays and tables that are laid behind their parts.
use Rattle.std.proofs.Common.{◌≡◌, ℕ, ◌+◌, ◌-◌, ◌≤◌, List, [], ◌∷◌, ◌++◌, length, drop, length-drop, append_assoc, refl, ap, arith}
use Rattle.std.proofs.lemmas.List.{length-append}
use Rattle.std.specs.Prelude.{map}
use Rattle.resb_tree.specs.declared.resource.Resource.{Resource}
use Rattle.resb_tree.specs.declared.resource.Resource.TheVariants as r
use Rattle.resb.specs.Entries.{values_in}
use Rattle.resb.specs.LaidTrees.{laid, lay_all}
use Rattle.resb.specs.Packing.{most_unit}
use Rattle.resb.specs.Plan.{most_words}
use Rattle.resb.specs.WrittenFiles.{most_of}
use Rattle.resb.specs.Inside.Laying.{IsLaid, Stands, Fits}
use Rattle.resb.proofs.Folds.{laid-Array, laid-Table}
use Rattle.resb.proofs.LaidWords.{parent_fits}
use Rattle.resb.proofs.TreeKinds.{IsParent, LaidOver, parent-Array, parent-Table, at_place, length-lay_all, over_length}

pub count_is : (xs : List Resource) (places : List ℕ → ℕ) (base : ℕ) (old words items : List ℕ) (kept count : ℕ) → Stands xs places base old words (drop kept items) → count ≡ length items - kept → length xs ≡ count
count_is xs places base old words items kept count s c =
    omega (arith, ap length s.items, length-lay_all xs places (base + length old), length-drop kept items)

-- a parent of no parts has no words
empty_laid : (t : Resource) (first base : ℕ) (places : List ℕ → ℕ) (old words told : List ℕ) → IsParent t [] [] → ((at : ℕ) → laid t places at ≡ ([], first)) → Stands [] places base old words told → IsLaid t places base old words first
empty_laid t first base places old words told p l s =
    let e = l (base + length old) in
    record { words = rw e s.words; item = rw e refl; fits = parent_fits t [] [] p places (base + length old) (rw e s.fits.room) (omega arith) (omega arith) s.fits }

pub empty_array : (xs : List Resource) (places : List ℕ → ℕ) (base : ℕ) (old words told : List ℕ) → length xs ≡ 0 → Stands xs places base old words told → IsLaid (r.Array xs) places base old words 2147483648
empty_array [] places base old words told n s = empty_laid (r.Array []) 2147483648 base places old words told (parent-Array []) (at_place (laid-Array []) places) s
empty_array (x ∷ xs) places base old words told n s = absurd (omega arith)

pub empty_table : (es : List (List ℕ × Resource)) (places : List ℕ → ℕ) (base : ℕ) (old words told : List ℕ) → length es ≡ 0 → Stands (values_in es) places base old words told → IsLaid (r.Table es) places base old words 536870912
empty_table [] places base old words told n s = empty_laid (r.Table []) 536870912 base places old words told (parent-Table []) (at_place (laid-Table []) places) s
empty_table (e ∷ es) places base old words told n s = absurd (omega arith)

-- a parent is laid behind its parts
pub behind : (t : Resource) (xs : List Resource) (names : List (List ℕ)) (places : List ℕ → ℕ) (own : List ℕ) (first base : ℕ) (old words told pushed new : List ℕ) (item : ℕ) → IsParent t xs names → LaidOver t xs places own first → length names ≤ most_unit → most_of (map places names) ≤ most_unit
    → Stands xs places base old words told → pushed ≡ words ++ own → new ≡ pushed ++ told → item ≡ first + (base + length words) → base + length words + (length own + length xs) ≤ most_words → IsLaid t places base old new item
behind t xs names places own first base old words told pushed new item p l few low s u n i room =
    let at = base + length old in
    let inner = lay_all (map laid xs) places at in
    let len : base + length words ≡ at + length inner.0 = omega (arith, ap length s.words, length-append old inner.0) in
    record {
      words = rw (n, u, s.words, s.items, l at) (simp append_assoc);
      item = rw (l at) (omega (arith, i, len));
      fits = parent_fits t xs names p places at (omega (arith, len, room, over_length t xs places own first at l)) few low s.fits;
    }

-- where it fits, there is room for it behind its parts
pub room_behind : (t : Resource) (xs : List Resource) (places : List ℕ → ℕ) (own : List ℕ) (first base : ℕ) (old words told : List ℕ) → LaidOver t xs places own first → Stands xs places base old words told → Fits t places (base + length old) → base + length words + (length own + length xs) ≤ most_words
room_behind t xs places own first base old words told l s fits =
    let at = base + length old in
    omega (arith, fits.room, over_length t xs places own first at l, ap length s.words, length-append old (lay_all (map laid xs) places at).0)
