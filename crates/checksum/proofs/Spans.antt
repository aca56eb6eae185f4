-- Damage by the place of its span: `SpanTurned` and `Turned` say the same.
use Prim.Native.Nat.{ℕ, ◌+◌}
use native.Mathlib.Omega.{arith}
use native.Mathlib.Nat.{min-le_left}
use mathlib.Core.Path.{◌≡◌, refl, sym, ap, ap₂, ◌∙◌}
use mathlib.Core.List.{List, ◌++◌}
use mathlib.Core.Bool.{Bool}
use lib.ListN.{length, take, drop, take-append-drop, length-take, length-drop}
use lib.Seq.{take_at, drop_at, drop-drop, drop-append-add}
use Rattle.checksum.specs.Damage.{bits, bits_in, Turned}
use Rattle.checksum.specs.Claims.{SpanTurned}
use Rattle.checksum.proofs.Bits.{length_bits}

-- bits in front of a span, in it and behind it
parts : (from width : ℕ) (l : List ℕ) → bits l ≡ take from (bits l) ++ (bits_in from width l ++ drop (from + width) (bits l))
parts from width l =
    sym (take-append-drop from (bits l))
    ∙ ap (λ (x : List Bool). take from (bits l) ++ x) (sym (take-append-drop width (drop from (bits l))) ∙ ap (λ (x : List Bool). bits_in from width l ++ x) (drop-drop width from (bits l)))

pub every_span : {sent arrived : List ℕ} → SpanTurned sent arrived → Turned sent arrived
every_span {sent} {arrived} g =
    let t = g.within in
    let same_bits : length (bits arrived) ≡ length (bits sent) = omega (arith, length_bits arrived, length_bits sent, t.same_length) in
    record {
      same_length = t.same_length;
      bytes = t.bytes;
      before = take g.from (bits sent);
      span = bits_in g.from g.width sent;
      turned = bits_in g.from g.width arrived;
      after = drop (g.from + g.width) (bits sent);
      sent_bits = parts g.from g.width sent;
      arrived_bits = parts g.from g.width arrived
          ∙ ap₂ (λ (x y : List Bool). x ++ (bits_in g.from g.width arrived ++ y)) t.kept_before t.kept_behind;
      same_span = simp (length-take, length-drop, same_bits);
      short = omega (arith, length-take g.width (drop g.from (bits sent)), min-le_left g.width (length (drop g.from (bits sent))), g.short);
      not_all = g.not_all;
    }

pub only_spans : {sent arrived : List ℕ} → Turned sent arrived → SpanTurned sent arrived
only_spans {sent} {arrived} t =
    let from = length t.before in
    let width = length t.span in
    let sent_in : bits_in from width sent ≡ t.span =
    rw (t.sent_bits, drop_at t.before (t.span ++ t.after) from refl) (take_at t.span t.after width refl) in
    let arrived_in : bits_in from width arrived ≡ t.turned =
    rw (t.arrived_bits, drop_at t.before (t.turned ++ t.after) from refl) (take_at t.turned t.after width t.same_span) in
    record {
      from = from;
      width = width;
      within = record {
        same_length = t.same_length;
        bytes = t.bytes;
        kept_before = rw (t.sent_bits, t.arrived_bits) (take_at t.before (t.turned ++ t.after) from refl ∙ sym (take_at t.before (t.span ++ t.after) from refl));
        kept_behind = rw (t.sent_bits, t.arrived_bits)
            (drop-append-add t.before (t.turned ++ t.after) width ∙ drop_at t.turned t.after width t.same_span
            ∙ sym (drop-append-add t.before (t.span ++ t.after) width ∙ drop_at t.span t.after width refl));
      };
      short = omega (arith, t.short);
      not_all = λ b e f. t.not_all b (sym sent_in ∙ e) (sym arrived_in ∙ f);
    }
