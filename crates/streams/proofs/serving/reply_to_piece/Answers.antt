use Rattle.std.proofs.Common.{ℕ, [], ◌∷◌, ◌++◌, ◌+◌, take, drop, Option, subst, append_assoc, append-nil, ◌∙◌}
use Rattle.std.proofs.lemmas.List.{take_rest}
use Rattle.memchr.specs.Find.{IsFirstByte, is_byte}
use Rattle.streams.specs.Inside.Serving.{LeadsOn}
use Rattle.streams.proofs.LineCuts.{first_cut, none_cut}
use Rattle.streams.proofs.ServeLemmas.{leads_behind_line, leads_into_line, leads_further, goes_over}
use Rattle.streams.proofs.serving.reply_to_piece.Goals as goal

pub ending-preserved : goal.ending-preserved
ending-preserved g c =
    let reply = g.A.Answer.reply c.args.engine.now in
    let rest = c.ending.rest.now in
    let len = c.in-Some.len in
    let (gone, split, (added, leads, added_is)) = c.ending.invariant in
    let (text, replies, text_is) = c.in_ok-reply_to_line.ensures.reply in
    let (cut, none) = first_cut rest len (subst (λ (r : Option ℕ). IsFirstByte (is_byte 10) rest r) c.in-Some.is c.memchr.ensures) in
    let ended : LeadsOn reply c.ending.start c.reply_to_line.new.start (take len rest ++ 10 ∷ []) text =
    rw c.in_ok-reply_to_line.ensures.ended (leads_behind_line reply c.ending.start (take len rest) text none replies) in (
      gone ++ (take len rest ++ 10 ∷ []),
      rw take_rest (goes_over reply c.args.piece.now gone rest (take len rest) (drop (len + 1) rest) split cut),
      (
        added ++ text,
        leads_further reply c.args.start.now c.ending.start c.reply_to_line.new.start gone (take len rest ++ 10 ∷ []) added text leads ended,
        text_is ∙ rw added_is (append_assoc _ added text),
      ),
    )

pub returns : goal.returns
returns g c =
    let reply = g.A.Answer.reply c.args.engine.now in
    let rest = c.ending.rest.now in
    let (gone, split, (added, leads, added_is)) = c.ending.invariant in
    let none = none_cut rest (subst (λ (r : Option ℕ). IsFirstByte (is_byte 10) rest r) c.in_default.is c.memchr.ensures) in
    let begun : LeadsOn reply c.ending.start c.keep.new.self rest [] = rw c.in_ok-keep.ensures (leads_into_line reply c.ending.start rest none) in
    let all : LeadsOn reply c.args.start.now c.keep.new.self c.args.piece.now (added ++ []) =
    rw split (leads_further reply c.args.start.now c.ending.start c.keep.new.self gone rest added [] leads begun) in
    (added ++ [], all, rw (append-nil added) added_is)
