use native.Mathlib.Omega.{arith}
use native.Mathlib.Nat.{suc-mul}
use borrow.Author.Rules.{rules}
use Rattle.plan.specs.Plan.{packets_from}
use Rattle.traffic.specs.Generate.{end_to_end}
use Rattle.traffic.proofs.Packets.{time_is, part_fits, turn, all_written}
use Rattle.traffic.proofs.write_packets.Goals as goal

pub loop-k-init : goal.loop-k-init
unfolding end_to_end packets_from
loop-k-init c = search rules

pub overflow_add-at : goal.overflow_add-at
overflow_add-at c =
    let a = c.args in
    let l = c.loop-k in
    omega (arith, part_fits a.plan a.next_sequence a.flow a.interval l.k l.at c.packet_length-size.result a.out.now c.requires c.packet_length-size.ensures l.invariant.0 c.loop-k-test.true)

pub loop-k-preserved : goal.loop-k-preserved
loop-k-preserved c =
    let a = c.args in
    let l = c.loop-k in
    let s = c.packet_length-size in
    let b = c.build_measurement_tpdu in (
      omega (arith, suc-mul l.k s.result),
      turn a.plan a.next_sequence a.flow l.k l.at s.result _ a.out.now l.out b.new.out b.result
          (time_is a.plan a.next_sequence a.flow a.interval l.k a.out.now c.requires) s.ensures l.invariant.0
          (part_fits a.plan a.next_sequence a.flow a.interval l.k l.at s.result a.out.now c.requires s.ensures l.invariant.0 c.loop-k-test.true)
          l.invariant.1 b.ensures,
    )

pub returns : goal.returns
returns c =
    let a = c.args in
    let l = c.loop-k in
    all_written a.plan a.next_sequence a.flow l.k l.at c.packet_length-size.result a.out.now l.out c.packet_length-size.ensures l.invariant.0
    (omega (arith, c.loop-k-test.false)) l.invariant.1
