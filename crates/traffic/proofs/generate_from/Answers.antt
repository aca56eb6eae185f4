use native.Mathlib.Omega.{arith}
use Rattle.traffic.proofs.Answers.{answer_refuses, length_fits, answer_short, answer_fits, answer_written}
use Rattle.traffic.proofs.generate_from.Goals as goal

pub overflow_mul-length : goal.overflow_mul-length
overflow_mul-length c =
    let a = c.args in
    omega (arith, length_fits a.flow a.plan a.next_sequence.now a.out.now _ c.judge_plan-judged.ensures _ c.in-Ok.is c.packet_length.result c.packet_length.ensures)

pub returns-in-Err : goal.returns-in-Err
returns-in-Err c = answer_refuses c.args.flow _ _ c.args.out.now _ c.judge_plan-judged.ensures _ c.in-Err.is

pub returns-then-out-length : goal.returns-then-out-length
returns-then-out-length c =
    answer_short c.args.flow _ _ _ _ c.judge_plan-judged.ensures _ c.in-Ok.is _ c.packet_length.ensures c.if-out-length.true

pub write_packets-requires : goal.write_packets-requires
write_packets-requires c =
    answer_fits _ _ _ _ _ c.judge_plan-judged.ensures _ c.in-Ok.is _ c.packet_length.ensures (omega arith) c.if-out-length.false

pub returns : goal.returns
returns c =
    answer_written _ _ _ _ _ c.judge_plan-judged.ensures _ c.in-Ok.is _ _ c.packet_length.ensures c.if-out-length.false c.write_packets.ensures
