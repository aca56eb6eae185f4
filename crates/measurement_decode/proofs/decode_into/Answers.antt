use Prim.Native.Nat.{ℕ}
use mathlib.Core.Path.{sym, ap, ◌∙◌}
use mathlib.Core.List.{List}
use Rattle.error.specs.Outcome.{Outcome, gives}
use Rattle.field.specs.Field.{bytes_at}
use Rattle.measurement.specs.declared.DecodedTpdu.{DecodedTpdu}
use Rattle.measurement.specs.declared.IpVersion.TheVariants.{V4, V6}
use Rattle.measurement_reading.specs.Read.{tpdu_of, ihl}
use Rattle.measurement_decode.specs.Numbers.{values_of, tpdu_numbers, source_left, destination_left}
use Rattle.measurement_decode.proofs.Laws.{has_probe, as_ipv4, as_ipv6, ipv4_part, ipv6_part}
use Rattle.measurement_decode.proofs.decode_into.Goals as goal

pub values-requires : goal.values-requires
unfolding ihl
values-requires c =
    let p = c.args.tpdu.now in
    let r = as_ipv4 p c.in_ok-judge.ensures c.if-tpdu-eq4.true in
    has_probe (ipv4_part p c.read_u16-end.ensures c.low_half-start.ensures.0) r.part

pub returns-then-tpdu-eq4 : goal.returns-then-tpdu-eq4
unfolding ihl tpdu_numbers source_left destination_left
returns-then-tpdu-eq4 c =
    let a = c.args in
    let p = a.tpdu.now in
    let r = as_ipv4 p c.in_ok-judge.ensures c.if-tpdu-eq4.true in
    let e = sym r.is in record {
      answer = ap gives (
          c.values.ensures (bytes_at 4 12 p) (bytes_at 4 16 p)
          ∙ ap (λ (u : List ℕ). values_of (tpdu_of V4 (bytes_at 4 12 p) (bytes_at 4 16 p) u)) (ipv4_part p c.read_u16-end.ensures c.low_half-start.ensures.0)
          )
          ∙ ap tpdu_numbers e;
      source = c.padded_address.ensures ∙ ap (λ (o : Outcome DecodedTpdu). source_left o a.src.now) e;
      destination = c.padded_address-then-tpdu-eq4.ensures ∙ ap (λ (o : Outcome DecodedTpdu). destination_left o a.dst.now) e;
    }

pub values-requires-2 : goal.values-requires-2
values-requires-2 c =
    let p = c.args.tpdu.now in
    let r = as_ipv6 p c.in_ok-judge.ensures c.if-tpdu-eq4.false in
    has_probe (ipv6_part p c.read_u16.ensures) r.part

pub returns : goal.returns
unfolding tpdu_numbers source_left destination_left
returns c =
    let a = c.args in
    let p = a.tpdu.now in
    let r = as_ipv6 p c.in_ok-judge.ensures c.if-tpdu-eq4.false in
    let e = sym r.is in record {
      answer = ap gives (
          c.values-2.ensures (bytes_at 16 8 p) (bytes_at 16 24 p)
          ∙ ap (λ (u : List ℕ). values_of (tpdu_of V6 (bytes_at 16 8 p) (bytes_at 16 24 p) u)) (ipv6_part p c.read_u16.ensures)
          )
          ∙ ap tpdu_numbers e;
      source = c.padded_address-2.ensures ∙ ap (λ (o : Outcome DecodedTpdu). source_left o a.src.now) e;
      destination = c.padded_address-3.ensures ∙ ap (λ (o : Outcome DecodedTpdu). destination_left o a.dst.now) e;
    }
