use Rattle.std.proofs.Common.{sym, ap, refl, ◌∙◌, arith, position, length-take-le}
use Rattle.reflector_sessions.specs.Table.{table_read}
use Rattle.reflector_sessions.proofs.Judging.{judged_sound}
use Rattle.reflector_sessions.proofs.Search.{of_teid, searched_as, searched_unsound}
use Rattle.reflector_sessions.proofs.Sessions.place.Goals as goal

pub returns-in_default : goal.returns-in_default
returns-in_default c = rw (searched_unsound (table_read c.args.self) c.in_default.ensures) refl

pub slice_bounds-place_in-end : goal.slice_bounds-place_in-end
slice_bounds-place_in-end c =
    let s = judged_sound _ _ _ c.in-Ok.ensures in
    sym (length-take-le c.in-Ok.used c.args.self.rows.now (omega (arith, s.0.enough, s.0.room, s.1)))

pub returns : goal.returns
returns c = c.place_in.ensures ∙ ap (position (of_teid c.args.local_teid)) (sym (searched_as (table_read c.args.self) c.in-Ok.ensures))
