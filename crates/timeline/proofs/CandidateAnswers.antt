-- A few entries in a row decide what a look-up by wall second answers, where those before them are behind it and those after ahead.
use Rattle.std.proofs.Common.{◌≡◌, ℕ, suc, ◌+◌, ◌<◌, ◌≤◌, List, [], ◌∷◌, length, get_or, drop, drop-cons, Some, None, ℤ, refl, sym, ap, ◌∙◌, arith}
use Rattle.std.proofs.lemmas.List.{drop_all}
use Rattle.timeline.specs.declared.offset.Offset.{Offset}
use Rattle.timeline.specs.declared.offset.Transition.{Transition}
use Rattle.timeline.specs.declared.offset.PossibleOffset.{PossibleOffset}
use Rattle.timeline.specs.declared.offset.PossibleOffset.TheVariants as possible
use Rattle.timeline.specs.Zone.{PlainZone}
use Rattle.timeline.specs.Timeline.{entry_at, before_entry, offset_of}
use Rattle.timeline.specs.Laws.{IsLawful}
use Rattle.timeline.specs.Neighbours.{step}
use Rattle.timeline.specs.Lookups.{AnswersWall}
use Rattle.timeline.specs.Inside.AnswerSteps.{answer_by, answer_from}
use Rattle.timeline.proofs.Entries.{int_lt-true, int_lt-false}
use Rattle.timeline.proofs.ChainWalls.{IsBehind, IsAhead, Skips, Repeats, Side, is_behind, is_ahead, does_skip, does_repeat, side_of, lies_between}
use Rattle.timeline.proofs.TimelineEntries.{entry_count, entry_within, entry_there, before_next}
use Rattle.timeline.proofs.TimelineRises.{step_of, step_is, lawful_chain}
use Rattle.timeline.proofs.WallSeconds.{IsClear}
use Rattle.timeline.proofs.WallAnswers.{answers_single, answers_gap, answers_fold}

-- ---- what they say

pub says_single : (w : ℤ) (before : Offset) (e : Transition) (later : List Transition) → IsAhead w (step before e) → answer_from w before (e ∷ later) ≡ possible.Single before
unfolding answer_from
says_single w before e later h = rw (int_lt-true _ _ h.old, int_lt-true _ _ h.new) refl

pub says_gap : (w : ℤ) (before : Offset) (e : Transition) (later : List Transition) → Skips w (step before e) → answer_from w before (e ∷ later) ≡ possible.None before (offset_of e) e.since
unfolding answer_from
says_gap w before e later h = rw (int_lt-false _ _ h.old, int_lt-true _ _ h.new) refl

pub says_fold : (w : ℤ) (before : Offset) (e : Transition) (later : List Transition) → Repeats w (step before e) → answer_from w before (e ∷ later) ≡ possible.Ambiguous before (offset_of e) e.since
unfolding answer_from
says_fold w before e later h = rw (int_lt-true _ _ h.old, int_lt-false _ _ h.new) refl

pub says_later : (w : ℤ) (before : Offset) (e : Transition) (later : List Transition) → IsBehind w (step before e) → answer_from w before (e ∷ later) ≡ answer_from w (offset_of e) later
unfolding answer_from
says_later w before e later h = rw (int_lt-false _ _ h.old, int_lt-false _ _ h.new) refl

pub says_last : (w : ℤ) (before : Offset) → answer_from w before [] ≡ possible.Single before
unfolding answer_from
says_last w before = refl

-- a list that is read from its start: what is said at a place, at the places after it, and at the end
here : (es : List Transition) (i : ℕ) (e : Transition) → i < length es → e ≡ get_or es i e → drop i es ≡ e ∷ drop (suc i) es
here es i e lt is = drop-cons es i e lt ∙ ap (λ x. x ∷ drop (suc i) es) (sym is)

pub said_at : (w : ℤ) (first before : Offset) (es : List Transition) (i : ℕ) (e : Transition) (answer : PossibleOffset) → answer_from w first es ≡ answer_from w before (drop i es)
    → i < length es → e ≡ get_or es i e → Some answer ≡ answer_by w before e → answer ≡ answer_from w first es
unfolding answer_from
said_at w first before es i e answer so_far lt is said = sym (so_far ∙ rw (here es i e lt is, ← said) refl)

pub said_later : (w : ℤ) (first before : Offset) (es : List Transition) (i : ℕ) (e : Transition) → answer_from w first es ≡ answer_from w before (drop i es)
    → i < length es → e ≡ get_or es i e → None ≡ answer_by w before e → answer_from w first es ≡ answer_from w (offset_of e) (drop (i + 1) es)
unfolding answer_from
said_later w first before es i e so_far lt is said = let next : i + 1 ≡ suc i = omega arith in rw next (so_far ∙ rw (here es i e lt is, ← said) refl)

pub said_last : (w : ℤ) (first before : Offset) (es : List Transition) (i : ℕ) → answer_from w first es ≡ answer_from w before (drop i es) → length es ≤ i
    → possible.Single before ≡ answer_from w first es
said_last w first before es i so_far past = sym (so_far ∙ rw (drop_all i es past) (says_last w before))

-- ---- entries in a row

-- the list holds the entries from the ith up to, and not with, the mth
abbrev pub IsRun : PlainZone → ℕ → ℕ → List Transition → Type 0
IsRun z i m [] = i ≡ m
IsRun z i m (e ∷ later) = (entry_at z i ≡ Some e) × IsRun z (suc i) m later

-- the entry before the ith, if there is one, is behind w; the mth, if there is one, is ahead of it
abbrev pub EndsBehind : PlainZone → ℤ → ℕ → Type 0
EndsBehind z w i = (j : ℕ) (e : Transition) → suc j ≡ i → entry_at z j ≡ Some e → IsBehind w (step_of z j e)

abbrev pub StartsAhead : PlainZone → ℤ → ℕ → Type 0
StartsAhead z w m = (e : Transition) → entry_at z m ≡ Some e → IsAhead w (step_of z m e)

pub clear_at : (z : PlainZone) (w : ℤ) (k : ℕ) → IsLawful z → k ≤ entry_count z → EndsBehind z w k → StartsAhead z w k → IsClear z w k
clear_at z w k lawful within last next = lies_between (lawful_chain z lawful) w k within
    (λ j same. let e = entry_there z j (omega arith) in rw (step_is z j e.0 e.1) (last j e.0 same e.1))
    (λ lt. let e = entry_there z k lt in rw (step_is z k e.0 e.1) (next e.0 e.1))

pub run_answers : (z : PlainZone) (w : ℤ) (es : List Transition) (i m : ℕ) → IsLawful z → i ≤ entry_count z → IsRun z i m es → EndsBehind z w i → StartsAhead z w m
    → AnswersWall z w (answer_from w (before_entry z i) es)
run_answers z w [] i m lawful within same last next =
    let ahead : StartsAhead z w i = rw same next in
    rw (says_last w (before_entry z i)) (answers_single z w i lawful (clear_at z w i lawful within last ahead))
run_answers z w (e ∷ es) i m lawful within run last next = by (side_of w (step_of z i e)) (λ behind. run_answers z w es (suc i) m lawful (entry_within z i e run.0) run.1 behind next)
  where
    behind_next : IsBehind w (step_of z i e) → EndsBehind z w (suc i)
    behind_next h j f same at =
        let j_is : j ≡ i = omega arith in
        let f_is : f ≡ e = cc run.0 in
        rw (j_is, f_is) h

    by : Side w (step_of z i e) → (EndsBehind z w (suc i) → AnswersWall z w (answer_from w (before_entry z (suc i)) es)) → AnswersWall z w (answer_from w (before_entry z i) (e ∷ es))
    by (is_behind h) rest = rw (says_later w (before_entry z i) e es h, ← before_next z i e run.0) (rest (behind_next h))
    by (is_ahead h) rest =
        let ahead : StartsAhead z w i = λ f at. let f_is : f ≡ e = cc (at, run.0) in rw f_is h in
        rw (says_single w (before_entry z i) e es h) (answers_single z w i lawful (clear_at z w i lawful within last ahead))
    by (does_skip h) rest = rw (says_gap w (before_entry z i) e es h) (answers_gap z w i e lawful run.0 h.old h.new)
    by (does_repeat h) rest = rw (says_fold w (before_entry z i) e es h) (answers_fold z w i e lawful run.0 h.new h.old)
