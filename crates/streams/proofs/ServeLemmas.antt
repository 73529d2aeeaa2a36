-- The replies to the lines of an input that comes in pieces.
use Rattle.std.proofs.Common.{◌≡◌, inl, inr, ℕ, suc, nat_eq, true, false, Result, Ok, Err, Some, None, ◌+◌, nat_lt, ◌<◌, ◌≤◌, List, [], ◌∷◌, ◌++◌, length, take, refl, sym, ap, ◌∙◌, subst, arith, append_assoc, append-nil}
use Rattle.std.proofs.lemmas.List.{take_all}
use Rattle.std.proofs.lemmas.Bool.{cases_lt}
use Rattle.std.proofs.lemmas.Bool.Decides.{nat_tests}
use Rattle.std.proofs.lemmas.Bool.{lt-ltb}
use Rattle.std.proofs.lemmas.List.{length-append}
use Rattle.std.specs.Result.{OnErr}
use Rattle.std.specs.Io.KnownBytes.{Appends, Consumes}
use Rattle.std.proofs.KnownBytes.{Appends-trans, Consumes-trans}
use Rattle.std.specs.declared.option.Option.{Option}
use Rattle.streams.specs.Lines.{lines, ended, last_line, ended_after}
use Rattle.streams.specs.Report.{IsReport, CutsLongLines, OneReply, OneReport}
use Rattle.streams.specs.Inside.Serving.{begun, begun_after, Between, RepliesToEnd, LeadsOn, LeadsPartly, LeadsToEnd, LeadsPartlyToEnd, Gains}
use Rattle.streams.specs.Whole.{TookAtMost, TookMore}
use Rattle.streams.specs.Stands.{Stands}
use Rattle.streams.specs.Ends.{EndsBy, served}
use Rattle.streams.specs.declared.status.Status.TheVariants.{TooLong}
use Rattle.streams.proofs.LineCuts.{HasNoLf, ended_after-append, begun_after-append, lines_after-ended, ended_after-none, begun_after-none, take_front}

-- what was gained is told of an error too
pub gained_on_err : {T E : Type 0} (r : Result T E) (P : List ℕ → Type 0) (old new : Option (List ℕ)) (gained : List ℕ) → P gained → Appends old new gained → OnErr r (Gains P old new)
gained_on_err (Ok x) P old new gained fact wrote = tt
gained_on_err (Err e) P old new gained fact wrote = (gained, fact, wrote)

-- ---- reports

pub one_report : (reply : List ℕ → List ℕ → Type 0) → OneReply reply → OneReport reply
one_report reply once [] a b p q = p ∙ sym q
one_report reply once (line ∷ lines) a b (text, others, is, told, e) (text', others', is', told', e') =
    let first = once line text text' is is' in
    let later = one_report reply once lines others others' told told' in
    e ∙ rw (first, later) refl ∙ sym e'

pub IsReport-append : (reply : List ℕ → List ℕ → Type 0) (first others : List (List ℕ)) (a b : List ℕ) → IsReport reply first a → IsReport reply others b → IsReport reply (first ++ others) (a ++ b)
IsReport-append reply [] others a b p q = subst (λ (l : List ℕ). IsReport reply others (l ++ b)) (sym p) q
IsReport-append reply (line ∷ first) others a b (text, more, is, told, e) q =
    (text, more ++ b, is, IsReport-append reply first others more b told q, rw e (append_assoc text more b))

pub one_line : (reply : List ℕ → List ℕ → Type 0) (line text : List ℕ) → reply line text → IsReport reply (line ∷ []) text
one_line reply line text is = (text, [], is, refl, sym (append-nil text))

-- ---- the line that has begun

-- what replies to the first 1,025 bytes of a line replies to it
whole_line : (reply : List ℕ → List ℕ → Type 0) (line text : List ℕ) → CutsLongLines reply → reply (take 1025 line) text → reply line text
whole_line reply line text cuts is = elim (cases_lt 1024 (length line)) [
  | inl long ↦ (cuts line text long).1 is
  | inr short ↦ subst (λ (l : List ℕ). reply l text) (take_all 1025 line (omega arith)) is
]

no_front : (n : ℕ) (line : List ℕ) → [] ≡ take (suc n) line → line ≡ []
no_front n [] e = refl
no_front n (b ∷ line) e = cc

nothing_kept : (line : List ℕ) → [] ≡ take 1025 line → line ≡ []
nothing_kept line e = no_front 1024 line e

zero_len : (n : ℕ) → true ≡ nat_eq n 0 → n ≡ 0
zero_len n e = grind (arith, nat_tests)

some_len : (n : ℕ) → false ≡ nat_eq n 0 → 0 < n
some_len n e = grind (arith, nat_tests)

no_bytes : (kept : List ℕ) → length kept ≡ 0 → kept ≡ []
no_bytes [] e = refl
no_bytes (b ∷ kept) e = absurd (omega arith)

pub none_kept : (kept : List ℕ) → true ≡ nat_eq (length kept) 0 → kept ≡ []
none_kept kept e = no_bytes kept (zero_len (length kept) e)

pub some_kept : (kept : List ℕ) → false ≡ nat_eq (length kept) 0 → 0 < length kept
some_kept kept e = some_len (length kept) e

-- a line that goes on behind what is kept
pub replies_kept : (reply : List ℕ → List ℕ → Type 0) (kept bytes text : List ℕ) → CutsLongLines reply → reply (take 1025 (kept ++ bytes)) text → RepliesToEnd reply kept bytes text
replies_kept reply kept bytes text cuts is line e =
    let front : take 1025 (kept ++ bytes) ≡ take 1025 (line ++ bytes) = rw e (take_front 1025 line bytes) in
    whole_line reply (line ++ bytes) text cuts (subst (λ (l : List ℕ). reply l text) front is)

-- ---- pieces

module _ (reply : List ℕ → List ℕ → Type 0) where
  -- no piece leads nowhere
  pub leads_nowhere : (kept : List ℕ) → LeadsOn reply kept kept [] []
  leads_nowhere kept taken gained h = rw (append-nil taken, append-nil gained) h

  -- one piece behind another
  pub leads_further : (kept kept' kept'' piece piece' added added' : List ℕ) → LeadsOn reply kept kept' piece added → LeadsOn reply kept' kept'' piece' added'
      → LeadsOn reply kept kept'' (piece ++ piece') (added ++ added')
  leads_further kept kept' kept'' piece piece' added added' p q taken gained h =
      let there = q (taken ++ piece) (gained ++ added) (p taken gained h) in
      rw (append_assoc taken piece piece', append_assoc gained added added') at there

  -- the front of what is left goes over to what was gone through
  pub goes_over : (piece gone rest front later : List ℕ) → piece ≡ gone ++ rest → rest ≡ front ++ 10 ∷ later → piece ≡ (gone ++ (front ++ 10 ∷ [])) ++ later
  goes_over piece gone rest front later e f = e ∙ rw f (simp append_assoc)

  -- bytes that end a line
  pub leads_behind_line : (kept bytes text : List ℕ) → HasNoLf bytes → RepliesToEnd reply kept bytes text → LeadsOn reply kept [] (bytes ++ 10 ∷ []) text
  leads_behind_line kept bytes text none replies taken gained h =
      let line = begun taken in
      let goes_on : begun_after line bytes ≡ line ++ bytes = begun_after-none bytes line none in
      let ends : ended_after line (bytes ++ 10 ∷ []) ≡ (line ++ bytes) ∷ [] = ended_after-append line bytes (10 ∷ []) ∙ rw (ended_after-none bytes line none, goes_on) refl in
      let all : ended (taken ++ (bytes ++ 10 ∷ [])) ≡ ended taken ++ (line ++ bytes) ∷ [] = ended_after-append [] taken (bytes ++ 10 ∷ []) ∙ ap (λ (l : List (List ℕ)). ended taken ++ l) ends in
      let over : begun (taken ++ (bytes ++ 10 ∷ [])) ≡ [] = begun_after-append [] taken (bytes ++ 10 ∷ []) ∙ begun_after-append line bytes (10 ∷ []) in
      record {
        told = rw all (IsReport-append reply (ended taken) ((line ++ bytes) ∷ []) gained text h.told (one_line reply (line ++ bytes) text (replies line h.kept_first)));
        kept_first = rw over refl;
      }

  -- bytes with which the next line goes on
  pub leads_into_line : (kept bytes : List ℕ) → HasNoLf bytes → LeadsOn reply kept (take 1025 (kept ++ bytes)) bytes []
  leads_into_line kept bytes none taken gained h =
      let line = begun taken in
      let same : ended (taken ++ bytes) ≡ ended taken = ended_after-append [] taken bytes ∙ rw (ended_after-none bytes line none) (append-nil (ended taken)) in
      let goes_on : begun (taken ++ bytes) ≡ line ++ bytes = begun_after-append [] taken bytes ∙ begun_after-none bytes line none in
      record {
        told = rw (same, append-nil gained) h.told;
        kept_first = rw (goes_on, h.kept_first) (take_front 1025 line bytes);
      }

  -- a front part of the replies
  pub leads_partly : (kept kept' piece added rest : List ℕ) → LeadsOn reply kept kept' piece (added ++ rest) → LeadsPartly reply kept piece added
  leads_partly kept kept' piece added rest p taken gained h = record {
    first = ended (taken ++ piece);
    others = [];
    split = sym (append-nil (ended (taken ++ piece)));
    report = gained ++ (added ++ rest);
    told = (p taken gained h).told;
    rest = rest;
    front = sym (append_assoc gained added rest);
  }

  -- or none of them
  pub leads_silently : (kept piece : List ℕ) → LeadsPartly reply kept piece []
  leads_silently kept piece taken gained h = record {
    first = ended taken;
    others = ended_after (begun taken) piece;
    split = ended_after-append [] taken piece;
    report = gained;
    told = h.told;
    rest = [];
    front = sym (append-nil (gained ++ []) ∙ append-nil gained);
  }

  -- the end, where no line has begun
  pub ends_without_line : (kept : List ℕ) → kept ≡ [] → LeadsToEnd reply kept []
  ends_without_line kept none taken gained h =
      let empty : begun taken ≡ [] = nothing_kept (begun taken) (sym none ∙ h.kept_first) in
      let all : lines taken ≡ ended taken = lines_after-ended [] taken ∙ rw empty (append-nil (ended taken)) in
      rw (all, append-nil gained) h.told

  -- and where one has
  pub ends_with_line : (kept text : List ℕ) → CutsLongLines reply → 0 < length kept → reply kept text → LeadsToEnd reply kept text
  ends_with_line kept text cuts some is taken gained h =
      let line = begun taken in
      let here : last_line line ≡ line ∷ [] = one_last line (rw h.kept_first at some) in
      let all : lines taken ≡ ended taken ++ line ∷ [] = lines_after-ended [] taken ∙ rw here refl in
      let replies : reply line text = whole_line reply line text cuts (rw h.kept_first at is) in
      rw all (IsReport-append reply (ended taken) (line ∷ []) gained text h.told (one_line reply line text replies))
    where
      one_last : (line : List ℕ) → 0 < length (take 1025 line) → last_line line ≡ line ∷ []
      one_last [] lt = absurd (omega arith)
      one_last (b ∷ line) lt = refl

  pub ends_partly : (kept added rest : List ℕ) → LeadsToEnd reply kept (added ++ rest) → LeadsPartlyToEnd reply kept added
  ends_partly kept added rest p taken gained h = record {
    first = lines taken;
    others = [];
    split = sym (append-nil (lines taken));
    report = gained ++ (added ++ rest);
    told = p taken gained h;
    rest = rest;
    front = sym (append_assoc gained added rest);
  }

  pub ends_silently : (kept : List ℕ) → LeadsPartlyToEnd reply kept []
  ends_silently kept taken gained h = record {
    first = ended taken;
    others = last_line (begun taken);
    split = lines_after-ended [] taken;
    report = gained;
    told = h.told;
    rest = [];
    front = sym (append-nil (gained ++ []) ∙ append-nil gained);
  }

-- ---- runs

-- so many bytes were taken, and the replies to the lines that ended in them gained
abbrev pub HasServed : (List ℕ → List ℕ → Type 0) → Option (List ℕ) → Option (List ℕ) → Option (List ℕ) → Option (List ℕ) → List ℕ → ℕ → Type 0
HasServed reply left left' written written' start taken =
    (bytes : List ℕ) × (gained : List ℕ) × Consumes left left' bytes × Appends written written' gained
    × Between reply bytes start gained × (length bytes ≡ taken)

-- one piece further
pub serves_piece : (reply : List ℕ → List ℕ → Type 0) (a b c u v w : Option (List ℕ)) (start start' piece read : List ℕ) (taken count : ℕ)
    → HasServed reply a b u v start taken → Consumes b c read → piece ≡ read → Gains (LeadsOn reply start start' piece) v w → count ≡ length read
    → HasServed reply a c u w start' (taken + count)
serves_piece reply a b c u v w start start' piece read taken count (bytes, gained, took, wrote, between, len) took' same (added, leads, wrote') n = (
  bytes ++ piece,
  gained ++ added,
  Consumes-trans a b c bytes piece took (subst (λ (l : List ℕ). Consumes b c l) (sym same) took'),
  Appends-trans u v w gained added wrote wrote',
  leads bytes gained between,
  omega (arith, length-append bytes piece, ap length same),
)

-- it ends past the limit
pub stands_too_long : (reply : List ℕ → List ℕ → Type 0) (a b u v : Option (List ℕ)) (start : List ℕ) (taken : ℕ) → HasServed reply a b u v start taken → Stands reply TooLong a b u v
stands_too_long reply a b u v start taken (bytes, gained, took, wrote, between, len) =
    record { taken = bytes; took = took; gained = gained; wrote = wrote; is = between.told }

pub took_long : (reply : List ℕ → List ℕ → Type 0) (a b u v : Option (List ℕ)) (start : List ℕ) (taken n : ℕ) → HasServed reply a b u v start taken → n < taken → TookMore a n
took_long reply None b u v start taken n h long = tt
took_long reply (Some i) None u v start taken n (bytes, gained, took, wrote, between, len) long = absurd took
took_long reply (Some i) (Some rest) u v start taken n (bytes, gained, took, wrote, between, len) long =
    omega (arith, ap length took, length-append bytes rest)

pub ends_too_long : (a : Option (List ℕ)) → TookMore a 16777216 → EndsBy (served a) TooLong
ends_too_long None long = tt
ends_too_long (Some i) long =
    let over : nat_lt 16777216 (length i) ≡ true = lt-ltb 16777216 (length i) long in
    rw over refl

pub took_few : (reply : List ℕ → List ℕ → Type 0) (a b u v : Option (List ℕ)) (start : List ℕ) (taken n : ℕ) → HasServed reply a b u v start taken → taken ≤ n → TookAtMost a b n
took_few reply a b u v start taken n (bytes, gained, took, wrote, between, len) few = (bytes, took, omega arith)
