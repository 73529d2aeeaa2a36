-- The encoder of texts is std's.
use Rattle.std.proofs.Common.{◌≡◌, ℕ, List, [], ◌∷◌, refl, codes}
use lib.Utf8.{encode, encodes}
use Prim.Native.String.{String}
use Rattle.tongues.specs.Text.{utf8, utf8_all, text}

utf8_is : (c : ℕ) → utf8 c ≡ encode c
unfolding encode
utf8_is c = refl

pub utf8_all_is : (cs : List ℕ) → utf8_all cs ≡ encodes cs
utf8_all_is [] = refl
utf8_all_is (c ∷ cs) = rw (utf8_is c, utf8_all_is cs) refl

pub text_is : (s : String) → text s ≡ encodes (codes s)
text_is s = utf8_all_is (codes s)
