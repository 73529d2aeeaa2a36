-- The fields of a zone, as one pass over its entries finds them.
use Rattle.std.proofs.Common.{◌≡◌, ℕ, suc, ◌+◌, Bool, true, false, cond, List, [], ◌∷◌, ◌++◌, take, drop, Option, Some, None, refl, sym, ap, ◌∙◌, subst, drop-cons, arith}
use Rattle.std.specs.List.{slice_get}
use Rattle.std.specs.Str.{bytes_eq}
use Rattle.std.proofs.lemmas.List.{take_more}
use Rattle.std.proofs.lemmas.Option.{slice_get_within, get_or_from_slice_get}
use Rattle.std.proofs.lemmas.Slice.Eq.{bytes_eq-Decides}
use Rattle.resb_tree.specs.Fields.{field_in, field_layer, first_with}
use Rattle.resb_tree.specs.Contents.{entries_in, entries_layer}
use Rattle.resb_tree.specs.declared.resource.Resource.{Resource, out-Resource}
use Rattle.resb_tree.specs.declared.resource.Resource.TheOpen.{Resource-F}
use Rattle.zoneinfo64.specs.declared.parts.Field.{Field}
use Rattle.zoneinfo64.specs.declared.parts.Field.TheVariants as field
use Rattle.zoneinfo64.specs.declared.parts.ZoneParts.{ZoneParts}
use Rattle.zoneinfo64.specs.Inside.FieldKeys.{key_of, field_named}
use Rattle.zoneinfo64.specs.Inside.ZoneParts.{first_or, with_field, parts_in, parts_of}

abbrev Entries : Type 0
Entries = List (List ℕ × Resource)

-- ---- one element more

pub take_one : {A : Type 0} (xs : List A) (n : ℕ) (x : A) → slice_get xs n ≡ Some x → take (n + 1) xs ≡ take n xs ++ x ∷ []
take_one xs n x at = rw (take_more xs n x (slice_get_within xs n x at), get_or_from_slice_get xs n x x at) refl

pub drop_one : {A : Type 0} (xs : List A) (n : ℕ) (x : A) → slice_get xs n ≡ Some x → drop n xs ≡ x ∷ drop (n + 1) xs
drop_one xs n x at =
    let e : n + 1 ≡ suc n = omega arith in
    rw (drop-cons xs n x (slice_get_within xs n x at), get_or_from_slice_get xs n x x at, e) refl

-- ---- a key

pub same_key : (xs ys : List ℕ) → bytes_eq xs ys ≡ true → xs ≡ ys
same_key xs ys h = (bytes_eq-Decides xs ys).0 h

-- a key of a field names that field
own_name : (f : Field) → field_named (key_of f) ≡ Some f
own_name field.FinalRaw = refl
own_name field.FinalRule = refl
own_name field.FinalYear = refl
own_name field.Links = refl
own_name field.Trans = refl
own_name field.TransPost32 = refl
own_name field.TransPre32 = refl
own_name field.TypeMap = refl
own_name field.TypeOffsets = refl

pub guessed : (key : List ℕ) (f : Field) → bytes_eq key (key_of f) ≡ true → field_named key ≡ Some f
guessed key f h = ap field_named (same_key key (key_of f) h) ∙ own_name f

-- a key that names no field is none of theirs
unnamed : (key : List ℕ) (f : Field) → field_named key ≡ None → bytes_eq key (key_of f) ≡ false
unnamed key f none = by (bytes_eq key (key_of f)) refl
  where
    by : (b : Bool) → bytes_eq key (key_of f) ≡ b → b ≡ false
    by true h = let found = guessed key f h in cc
    by false h = refl

peel : (key : List ℕ) (f g : Field) (rest : Option Field) → (rest ≡ Some g → key ≡ key_of g) → cond (bytes_eq key (key_of f)) (Some f) rest ≡ Some g → key ≡ key_of g
peel key f g rest others named = by (bytes_eq key (key_of f)) refl named
  where
    by : (b : Bool) → bytes_eq key (key_of f) ≡ b → cond b (Some f) rest ≡ Some g → key ≡ key_of g
    by true h e = let same : f ≡ g = cc in subst (λ (x : Field). key ≡ key_of x) same (same_key key (key_of f) h)
    by false h e = others e

-- a key that names a field is that of the field
named_key : (key : List ℕ) (g : Field) → field_named key ≡ Some g → key ≡ key_of g
named_key key g h =
    peel key field.FinalRaw g _ (λ h. peel key field.Links g _ (λ h. peel key field.Trans g _ (λ h. peel key field.TransPre32 g _ (λ h. peel key field.TransPost32 g _
    (λ h. peel key field.TypeMap g _ (λ h. peel key field.TypeOffsets g _ (λ h. peel key field.FinalRule g _ (λ h. peel key field.FinalYear g None (λ h. cc) h) h) h) h) h) h) h) h) h

-- ---- an entry

first_more : (key : List ℕ) (es : Entries) (e : List ℕ × Resource) → first_with key (es ++ e ∷ []) ≡ first_or (first_with key es) (cond (bytes_eq e.0 key) (Some e.1) None)
first_more key [] e = refl
first_more key (d ∷ es) e = by (bytes_eq d.0 key) refl (first_more key es e)
  where
    by : (b : Bool) → bytes_eq d.0 key ≡ b → first_with key (es ++ e ∷ []) ≡ first_or (first_with key es) (cond (bytes_eq e.0 key) (Some e.1) None)
        → first_with key (d ∷ es ++ e ∷ []) ≡ first_or (first_with key (d ∷ es)) (cond (bytes_eq e.0 key) (Some e.1) None)
    by true h rest = rw h refl
    by false h rest = rw h rest

no_later : (o : Option Resource) → first_or o None ≡ o
no_later None = refl
no_later (Some x) = refl

put_here : (f : Field) (es : Entries) (value : Resource) → parts_in (es ++ (key_of f, value) ∷ []) ≡ with_field f value (parts_in es)
put_here field.FinalRaw es value = simp (first_more, no_later)
put_here field.FinalRule es value = simp (first_more, no_later)
put_here field.FinalYear es value = simp (first_more, no_later)
put_here field.Links es value = simp (first_more, no_later)
put_here field.Trans es value = simp (first_more, no_later)
put_here field.TransPost32 es value = simp (first_more, no_later)
put_here field.TransPre32 es value = simp (first_more, no_later)
put_here field.TypeMap es value = simp (first_more, no_later)
put_here field.TypeOffsets es value = simp (first_more, no_later)

-- one more entry, whose key names a field
pub put_more : (es : Entries) (n : ℕ) (key : List ℕ) (value : Resource) (f : Field) (old new : ZoneParts) → slice_get es n ≡ Some (key, value) → Some f ≡ field_named key
    → old ≡ parts_in (take n es) → new ≡ with_field f value old → new ≡ parts_in (take (n + 1) es)
put_more es n key value f old new at named so_far put =
    rw (take_one es n (key, value) at, named_key key f (sym named), put_here f (take n es) value) (put ∙ ap (with_field f value) so_far)

-- one more entry, whose key names none
pub skip_more : (es : Entries) (n : ℕ) (key : List ℕ) (value : Resource) (old : ZoneParts) → slice_get es n ≡ Some (key, value) → None ≡ field_named key
    → old ≡ parts_in (take n es) → old ≡ parts_in (take (n + 1) es)
skip_more es n key value old at none so_far =
    let other = λ (f : Field). unnamed key f (sym none) in
    rw (take_one es n (key, value) at) (so_far ∙ sym (simp (first_more, other field.FinalRaw, other field.FinalRule, other field.FinalYear, other field.Links, other field.Trans, other field.TransPost32, other field.TransPre32, other field.TypeMap, other field.TypeOffsets, no_later)))

-- ---- a zone

table_field : (key : List ℕ) (t : Resource-F Resource) (es : Entries) → Some es ≡ entries_layer t → field_layer key t ≡ first_with key es
table_field key (Resource-F.Table xs) es h = let e : es ≡ xs = cc in rw e refl
table_field key (Resource-F.Text units) es h = cc
table_field key (Resource-F.Bytes bytes) es h = cc
table_field key (Resource-F.Integer v) es h = cc
table_field key (Resource-F.Array items) es h = cc
table_field key (Resource-F.Integers values) es h = cc

other_field : (key : List ℕ) (t : Resource-F Resource) → None ≡ entries_layer t → field_layer key t ≡ None
other_field key (Resource-F.Table xs) h = cc
other_field key (Resource-F.Text units) h = refl
other_field key (Resource-F.Bytes bytes) h = refl
other_field key (Resource-F.Integer v) h = refl
other_field key (Resource-F.Array items) h = refl
other_field key (Resource-F.Integers values) h = refl

-- the fields of a table
pub table_parts : (zone : Resource) (es : Entries) → Some es ≡ entries_in zone → parts_of zone ≡ parts_in es
table_parts zone es h = let each : (key : List ℕ) → field_in key zone ≡ first_with key es = λ key. table_field key (out-Resource zone) es h in simp each

-- another kind has no fields
pub no_fields : (zone : Resource) → None ≡ entries_in zone → parts_of zone ≡ parts_in []
no_fields zone h = let each : (key : List ℕ) → field_in key zone ≡ None = λ key. other_field key (out-Resource zone) h in simp each
