-- How a run ends, and what stands after it.
use Rattle.std.proofs.Common.{◌≡◌, ℕ, ◌<◌, ◌≤◌, List, [], ◌∷◌, length, map, get_or, Option, Some, None, IfSome, refl, append-nil, arith}
use Rattle.std.proofs.lemmas.Bool.{lt-ltb}
use Rattle.std.specs.Io.KnownBytes.{Consumes, IsAtEnd}
use Rattle.tongues.specs.Speech.{Speech}
use Rattle.zoneinfo64.specs.NamedZone.{NamedZone}
use Rattle.streams.specs.Whole.{TookMore}
use Rattle.streams.specs.Stands.{Stands}
use Rattle.streams.specs.Ends.{EndsBy}
use Rattle.streams.specs.declared.status.Status.{Status}
use Rattle.streams.specs.declared.status.Status.TheVariants.{Bundle}
use Rattle.tongues.specs.declared.any.AnyLanguage.{AnyLanguage}
use Rattle.tell.specs.ReplyTexts.{IsReply}
use Rattle.tell.specs.Commands.{two_words, three_words, command_of}
use Rattle.tell.specs.BundleZones.{bundle_words, bundle_zones}
use Rattle.tell.specs.Run.{planned}
use Rattle.tell.specs.Reports.{IsReplyWith}
use Rattle.tell.specs.declared.program.Command.TheVariants.{At}

-- a bundle over the limit gives no zones
pub bundle_over : (bundle : Option (List ℕ)) → TookMore bundle 4194304 → IfSome bundle (λ b. bundle_zones b ≡ None)
unfolding bundle_zones bundle_words
bundle_over None long = tt
bundle_over (Some b) long = rw (lt-ltb 4194304 (length b) long) refl

pub ends_by_bundle : (l : AnyLanguage) (bundle input : Option (List ℕ)) → IfSome bundle (λ b. bundle_zones b ≡ None) → EndsBy (planned (Some (At l)) bundle input) Bundle
ends_by_bundle l None input none = tt
ends_by_bundle l (Some b) input none = rw none refl

-- the zones that were read are those of the bundle, where it is told
pub zones_there : (bundle bundle' : Option (List ℕ)) (bytes : List ℕ) (zones : List NamedZone) → Consumes bundle bundle' bytes → IsAtEnd bundle' → bundle_zones bytes ≡ Some zones
    → IfSome bundle (λ b. bundle_zones b ≡ Some zones)
zones_there None bundle' bytes zones took end is = tt
zones_there (Some all) None bytes zones took end is = absurd took
zones_there (Some all) (Some rest) bytes zones took end is = rw (took, end, append-nil) is

-- what stands after a run over the input stands after the command, in the zones of the bundle that was read
pub stands_in_zones : (speech : Speech) (bundle : Option (List ℕ)) (zones : List NamedZone) (status : Status) (a b u v : Option (List ℕ))
    → IfSome bundle (λ all. bundle_zones all ≡ Some zones) → Stands (IsReply speech zones) status a b u v
    → IfSome bundle (λ all. Stands (IsReplyWith speech (bundle_zones all)) status a b u v)
stands_in_zones speech None zones status a b u v is stands = tt
stands_in_zones speech (Some all) zones status a b u v is stands = rw is stands

-- ---- the words of a command, by how many they are

module _ {T : Type 0} (bytes : T → List ℕ) where
  pub three_are : (args : List T) (name lang : T) → 3 ≤ length args → length args < 4
      → name ≡ get_or args 0 name → lang ≡ get_or args 1 lang → command_of (map bytes args) ≡ three_words (bytes name) (bytes lang)
  three_are (a ∷ b ∷ d ∷ []) name lang few many p q = rw (p, q) refl
  three_are args name lang few many p q = absurd (omega arith)

  pub two_are : (args : List T) (name word : T) → 2 ≤ length args → length args < 3
      → name ≡ get_or args 0 name → word ≡ get_or args 1 word → command_of (map bytes args) ≡ two_words (bytes name) (bytes word)
  two_are (a ∷ b ∷ []) name word few many p q = rw (p, q) refl
  two_are args name word few many p q = absurd (omega arith)

  pub none_are : (args : List T) → (length args ≡ 2 → ⊥) → (length args ≡ 3 → ⊥) → command_of (map bytes args) ≡ None
  none_are (a ∷ b ∷ []) two three = absurd (two refl)
  none_are (a ∷ b ∷ d ∷ []) two three = absurd (three refl)
  none_are args two three = refl
