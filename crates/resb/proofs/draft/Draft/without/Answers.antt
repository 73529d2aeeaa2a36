use Rattle.resb.proofs.LaidWords.{err_on, refused_still}
use Rattle.resb.proofs.draft.Draft.without.Goals as goal

pub returns-in_err-check_room-clause-err : goal.returns-in_err-check_room-clause-err
returns-in_err-check_room-clause-err c = err_on _ _ _ _ c.from_residual.ensures.1 (refused_still _ _ _ (λ both. both.0) c.in_err-check_room.ensures.err)
