-- `gtpu::walk_elements` meets its contract: each element is a step of the walk (proofs/Firsts.antt).
use Rattle.std.proofs.Common.{◌<◌, ◌-◌, ℕ, ◌∙◌, List, length, arith}
use Rattle.gtpu.specs.Firsts.{firsts_seen, Advanced}
use Rattle.gtpu.proofs.Rows.{sound, size_positive}
use Rattle.gtpu.proofs.Firsts.{follows}
use Rattle.gtpu.proofs.+walk_elements.Goals as goal

-- One call more, for an element more.
advances : (calls : ℕ) (list rest left : List ℕ) → 0 < calls → length rest < length list → Advanced (calls - 1) rest left → Advanced calls list left
advances calls list rest left some less a =
    record {
      taken = λ size e h k. omega (arith, a.shorter);
      stopped = λ size e h. omega (arith, a.stopped size e h);
      shorter = omega (arith, a.shorter);
    }

pub split_at-requires : goal.split_at-requires
split_at-requires t c = (sound c.args.seen.now.rest.now _ c.in-Ok.ensures).fits

pub note-requires : goal.note-requires
note-requires t c =
    let s = sound c.args.seen.now.rest.now _ c.in-Ok.ensures in
    omega (arith, size_positive c.args.seen.now.rest.now)

pub returns-clause-list_after : goal.returns-clause-list_after
returns-clause-list_after t c =
    c.walk_elements.ensures.list_after
    ∙ rw (c.note.ensures.firsts, c.split_at.ensures.front, c.split_at.ensures.back) (follows (firsts_seen c.args.seen.now) c.args.seen.now.rest.now _ c.in-Ok.ensures)

pub returns-clause-advanced : goal.returns-clause-advanced
returns-clause-advanced t c =
    let s = sound c.args.seen.now.rest.now _ c.in-Ok.ensures in
    advances _ _ _ _ (omega arith) (omega (arith, size_positive c.args.seen.now.rest.now)) c.walk_elements.ensures.advanced

pub walk_elements-requires : goal.walk_elements-requires
walk_elements-requires t c =
    let s = sound c.args.seen.now.rest.now _ c.in-Ok.ensures in
    omega (arith, size_positive c.args.seen.now.rest.now, c.split_at.ensures.back_len)
