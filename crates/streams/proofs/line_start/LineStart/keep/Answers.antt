use Rattle.std.proofs.Common.{◌≡◌, ℕ, List, ◌++◌, take, arith, ap, length, vec_len, ◌∙◌}
use Rattle.streams.proofs.LineCuts.{take_room}
use Rattle.streams.proofs.line_start.LineStart.keep.Goals as goal

pub returns : goal.returns
returns c =
    let len : vec_len c.self.inside.bytes ≡ length c.args.self.now = c.self.inside.bytes.ok.0 ∙ ap length c.self.view_is in
    let room = take_room 1025 c.min.result c.args.self.now c.args.bytes.now (omega arith) (omega (arith, c.min.ensures)) in
    c.in_ok-extend_from_slice.ensures.items ∙ (ap (λ (l : List ℕ). l ++ take c.min.result c.args.bytes.now) c.self.view_is ∙ room)
