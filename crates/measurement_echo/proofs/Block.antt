-- What the block holds after building, and what the echo answers.
use Prim.Native.Nat.{ℕ, ◌<◌, ◌≤◌}
use native.Mathlib.Omega.{arith}
use mathlib.Core.Path.{◌≡◌, refl, sym, ap, ap₂, ◌∙◌}
use mathlib.Core.List.{List, ◌++◌}
use lib.ListN.{length, take, drop, replicate}
use lib.Seq.{take_at}
use borrow.Author.Tests.{lt-ltb}
use Rattle.std.proofs.lemmas.Result.{err_from_is_err_and}
use Rattle.error.specs.Outcome.{Outcome, refused, gives}
use Rattle.error.proofs.Causes.{refused_gives}
use Rattle.measurement.specs.Answer.{Writing, writing, writing_of}
use Rattle.measurement.specs.declared.DecodedTpdu.{DecodedTpdu}
use Rattle.measurement.specs.declared.InnerIpFlow.{InnerIpFlow}
use Rattle.measurement.specs.declared.IpVersion.{IpVersion}
use Rattle.measurement.specs.declared.IpVersion.TheVariants.{V4, V6}
use Rattle.measurement_packet.specs.Packet.{ip_header_length, build_of}
use Rattle.measurement_reading.specs.Read.{read_of}
use Rattle.measurement_damage.specs.Echo.{echo_of}
use Rattle.measurement_build.proofs.Whole.{build_length, writing_fits}
use Rattle.measurement_decode.specs.Numbers.{values_of, tpdu_numbers, source_left, destination_left}
use Rattle.measurement_decode.specs.declared.TpduNumbers.{TpduNumbers}
use Rattle.measurement_decode.proofs.Callers.{read_refused, read_given}

module _ (f : InnerIpFlow) (s t : ℕ) where
  pub built_fits : length (build_of f s t) ≤ 72
  unfolding ip_header_length
  built_fits = go f.version refl
    where
      go : (v : IpVersion) → f.version ≡ v → length (build_of f s t) ≤ 72
      go V4 e = omega (arith, build_length f s t V4 e)
      go V6 e = omega (arith, build_length f s t V6 e)

  module _ (block : List ℕ) {o : Outcome ℕ} (e : record { outcome = o; buffer = block } ≡ writing (build_of f s t) (replicate 72 0)) where
    in_block : ◌≡◌ {A = Writing} (record { outcome = o; buffer = block }) (record { outcome = gives (length (build_of f s t)); buffer = build_of f s t ++ drop (length (build_of f s t)) (replicate 72 0) })
    in_block = e ∙ sym (writing_fits (build_of f s t) (replicate 72 0) built_fits)

    outcome_is : o ≡ gives (length (build_of f s t))
    outcome_is = ap (λ (w : Writing). w.outcome) in_block

    -- building into the block is not refused
    pub not_refused : {n : ℕ} {C : Type 0} → o ≡ refused n → C
    not_refused q = absurd (refused_gives (sym q ∙ outcome_is))

    module _ {n : ℕ} (q : o ≡ gives n) where
      pub count_is : n ≡ length (build_of f s t)
      count_is = let p : gives n ≡ gives (length (build_of f s t)) = sym q ∙ outcome_is in cc

      pub front_is : take n block ≡ build_of f s t
      front_is =
          ap₂ take count_is (ap (λ (w : Writing). w.buffer) in_block)
          ∙ take_at (build_of f s t) (drop (length (build_of f s t)) (replicate 72 0)) (length (build_of f s t)) refl

      pub out_short : (out : List ℕ) → length out < n → record { outcome = refused 15; buffer = out } ≡ writing (build_of f s t) out
      unfolding writing
      out_short out h = rw (lt-ltb (length out) (length (build_of f s t)) (omega (arith, count_is)), writing)

      pub out_copied : (out x : List ℕ) → n ≤ length out → x ≡ take n block → record { outcome = gives n; buffer = x ++ drop n out } ≡ writing (build_of f s t) out
      out_copied out x h ex =
          let b = build_of f s t in
          let p : x ++ drop n out ≡ b ++ drop (length b) out =
          ap (λ (y : List ℕ). y ++ drop n out) (ex ∙ front_is) ∙ ap (λ (m : ℕ). b ++ drop m out) count_is in
          ap₂ (λ (m : ℕ) (y : List ℕ). record { outcome = gives m; buffer = y }) count_is p ∙ writing_fits b out (omega (arith, count_is))

-- the echo's answer to what was read
module _ (tpdu out : List ℕ) where
  pub echo_refused : {n : ℕ} → read_of tpdu ≡ refused n → record { outcome = refused n; buffer = out } ≡ writing_of (echo_of tpdu) out
  unfolding echo_of writing_of
  echo_refused e = rw (e, echo_of)

  module _ {t : DecodedTpdu} (e : read_of tpdu ≡ gives t) {x : TpduNumbers} (ex : x ≡ values_of t) where
    pub echo_given : {v : IpVersion} {src dst : List ℕ} → x.version ≡ v → src ≡ source_left (read_of tpdu) (replicate 16 0)
        → dst ≡ destination_left (read_of tpdu) (replicate 16 0)
        → writing (build_of (record { version = v; src = dst; dst = src; src_port = x.dst_port; dst_port = x.src_port }) x.sequence x.send_timestamp_ns) out
        ≡ writing_of (echo_of tpdu) out
    unfolding echo_of writing_of source_left destination_left
    echo_given {v} {src} {dst} ev es ed =
        ap (λ (v : IpVersion). built x v src dst) (sym ev ∙ ap (λ (x : TpduNumbers). x.version) ex)
        ∙ ap (λ (x : TpduNumbers). built x t.flow.version src dst) ex
        ∙ ap₂ (λ (src dst : List ℕ). built (values_of t) t.flow.version src dst) (es ∙ left source_left) (ed ∙ left destination_left)
        ∙ rw (e, echo_of)
      where
        left : (f : Outcome DecodedTpdu → List ℕ → List ℕ) → f (read_of tpdu) (replicate 16 0) ≡ f (gives t) (replicate 16 0)
        left f = ap (λ (o : Outcome DecodedTpdu). f o (replicate 16 0)) e

        built : TpduNumbers → IpVersion → List ℕ → List ℕ → Writing
        built x v src dst =
            writing (build_of (record { version = v; src = dst; dst = src; src_port = x.dst_port; dst_port = x.src_port }) x.sequence x.send_timestamp_ns) out

  -- by the reader's answer
  pub echo_not_read : {n : ℕ} → refused n ≡ tpdu_numbers (read_of tpdu) → record { outcome = refused n; buffer = out } ≡ writing_of (echo_of tpdu) out
  echo_not_read e = echo_refused (read_refused tpdu e)

  pub echo_read : {x : TpduNumbers} {v : IpVersion} {src dst : List ℕ} → gives x ≡ tpdu_numbers (read_of tpdu) → x.version ≡ v
      → src ≡ source_left (read_of tpdu) (replicate 16 0) → dst ≡ destination_left (read_of tpdu) (replicate 16 0)
      → writing (build_of (record { version = v; src = dst; dst = src; src_port = x.dst_port; dst_port = x.src_port }) x.sequence x.send_timestamp_ns) out
      ≡ writing_of (echo_of tpdu) out
  echo_read e ev es ed = let r = read_given tpdu e in echo_given r.is r.values ev es ed

pub ruleset echoing = (echo_not_read, echo_read, err_from_is_err_and)
