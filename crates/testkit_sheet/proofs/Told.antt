-- What C is told, read back; and what its PASS says of the figures.
use Prim.Native.Nat.{ℕ, zero, suc, ◌<◌}
use native.Mathlib.Omega.{arith}
use mathlib.Core.Path.{◌≡◌, refl, sym, ap, ◌∙◌}
use mathlib.Core.Bool.{Bool, true, false, ◌&&◌}
use lib.Dec.{eqb, leb, ltb}
use borrow.Author.Tests.{eqb-true, eq-eqb, leb-true, le-leb, ltb-true, lt-ltb}
use Rattle.error.specs.Outcome.{Outcome, refused, gives}
use Rattle.error.proofs.Tests.{and_both, both}
use Rattle.evidence.specs.declared.PacketContinuityBudget.{PacketContinuityBudget}
use Rattle.evidence.specs.declared.PacketContinuityReport.{PacketContinuityReport}
use Rattle.gtpu.specs.declared.RefusedTunnel.{RefusedTunnel}
use Rattle.measurement.specs.Flow.{version_numbered}
use Rattle.measurement.specs.declared.IpVersion.{IpVersion}
use Rattle.measurement.proofs.Versions.{versions_numbered}
use Rattle.observer.specs.declared.ObserverCounts.{ObserverCounts}
use Rattle.return_calls.specs.Kinds.{Kind, MeasurementTpdu, ErrorIndication, EchoResponse, Ignored}
use Rattle.verdict.specs.Verdict.{verdict_of}
use Rattle.verdict.specs.declared.Verdict.{Verdict}
use Rattle.verdict.specs.declared.Verdict.TheVariants.{Pass, NothingReturned, TooManyLost, TooManyInARow, OutageTooLong, ErrorIndicated}
use Rattle.verdict.proofs.Claims.{passes_if_kept}
use Rattle.testkit_sheet.specs.Claims.{Kept, PassesByFigures, VerdictsTold, DatagramsTold}
use Rattle.testkit_sheet.specs.Interface.{outcome_code, datagram_numbers}
use Rattle.testkit_sheet.specs.Verdict.{held_to, verdict_numbers, no_report, judging}
use Rattle.testkit_sheet.specs.declared.TestkitContinuityReport.{TestkitContinuityReport}
use Rattle.testkit_sheet.specs.declared.TestkitDatagramRecorded.{TestkitDatagramRecorded}
use Rattle.testkit_sheet.specs.declared.TestkitVerdict.{TestkitVerdict}
use Rattle.testkit_sheet.proofs.Verdict.{without, with_report}

-- ---- the verdict in numbers

only_pass : (v : Verdict) → (verdict_numbers v).reason ≡ 0 → v ≡ Pass
only_pass Pass e = refl
only_pass NothingReturned e = absurd (omega arith)
only_pass (TooManyLost n m) e = absurd (omega arith)
only_pass (TooManyInARow n m) e = absurd (omega arith)
only_pass (OutageTooLong n m) e = absurd (omega arith)
only_pass (ErrorIndicated n) e = absurd (omega arith)

not_none : (v : Verdict) → (verdict_numbers v).reason ≡ no_report.reason → ⊥
not_none Pass e = omega arith
not_none NothingReturned e = omega arith
not_none (TooManyLost n m) e = omega arith
not_none (TooManyInARow n m) e = omega arith
not_none (OutageTooLong n m) e = omega arith
not_none (ErrorIndicated n) e = omega arith

-- a verdict is read back from its numbers
abbrev verdict_back : ℕ → ℕ → ℕ → Verdict
verdict_back zero n m = Pass
verdict_back (suc zero) n m = NothingReturned
verdict_back (suc (suc zero)) n m = TooManyLost n m
verdict_back (suc (suc (suc zero))) n m = TooManyInARow n m
verdict_back (suc (suc (suc (suc zero)))) n m = OutageTooLong n m
verdict_back (suc (suc (suc (suc (suc k))))) n m = ErrorIndicated n

abbrev verdict_told : TestkitVerdict → Verdict
verdict_told t = verdict_back t.reason t.measured t.allowed

told : (v : Verdict) → verdict_told (verdict_numbers v) ≡ v
told Pass = refl
told NothingReturned = refl
told (TooManyLost n m) = refl
told (TooManyInARow n m) = refl
told (OutageTooLong n m) = refl
told (ErrorIndicated n) = refl

pub verdicts_told : VerdictsTold
verdicts_told = record {
  only_pass = only_pass;
  not_none = not_none;
  apart = λ v w e. sym (told v) ∙ ap verdict_told e ∙ told w;
}

-- ---- what a datagram was, in numbers

only_refused : (x : Outcome Kind) → outcome_code x ≡ 0 → (n : ℕ) × (x ≡ refused n)
only_refused (refused n) e = (n, refl)
only_refused (gives MeasurementTpdu) e = absurd (omega arith)
only_refused (gives ErrorIndication) e = absurd (omega arith)
only_refused (gives EchoResponse) e = absurd (omega arith)
only_refused (gives (Ignored t)) e = absurd (omega arith)

-- it is read back from its numbers
abbrev outcome_back : ℕ → ℕ → ℕ → Outcome Kind
outcome_back zero t n = refused n
outcome_back (suc zero) t n = gives MeasurementTpdu
outcome_back (suc (suc zero)) t n = gives ErrorIndication
outcome_back (suc (suc (suc zero))) t n = gives EchoResponse
outcome_back (suc (suc (suc (suc k)))) t n = gives (Ignored t)

abbrev outcome_told : TestkitDatagramRecorded → Outcome Kind
outcome_told d = outcome_back d.outcome d.message_type d.number

told_outcome : (x : Outcome Kind) (t : RefusedTunnel) (c : ObserverCounts) → outcome_told (datagram_numbers x t c) ≡ x
told_outcome (refused n) t c = refl
told_outcome (gives MeasurementTpdu) t c = refl
told_outcome (gives ErrorIndication) t c = refl
told_outcome (gives EchoResponse) t c = refl
told_outcome (gives (Ignored m)) t c = refl

-- and so is the tunnel beside it
abbrev tunnel_told : TestkitDatagramRecorded → RefusedTunnel
tunnel_told d = record { teid = d.refused_teid; version = version_numbered d.peer_version; peer_address = d.peer_address }

told_tunnel : (x : Outcome Kind) (t : RefusedTunnel) (c : ObserverCounts) → tunnel_told (datagram_numbers x t c) ≡ t
told_tunnel x t c = ap (λ (v : IpVersion). record { teid = t.teid; version = v; peer_address = t.peer_address }) (versions_numbered.read_back t.version)

pub datagrams_told : DatagramsTold
datagrams_told = record {
  only_refused = only_refused;
  apart = λ x y s t c d e. (
    sym (told_outcome x s c) ∙ ap outcome_told e ∙ told_outcome y t d,
    sym (told_tunnel x s c) ∙ ap tunnel_told e ∙ told_tunnel y t d,
    ap (λ (r : TestkitDatagramRecorded). r.counts) e,
  );
}

-- ---- PASS, and the figures

abbrev reason_of : TestkitVerdict → ℕ
reason_of t = t.reason

module _ (r : TestkitContinuityReport) (budget : PacketContinuityBudget) where
  abbrev held : PacketContinuityReport
  held = held_to r budget

  -- the four tests of continuity
  abbrev lost : Bool
  lost = leb r.lost_packets budget.max_lost_packets

  abbrev run : Bool
  run = leb r.max_consecutive_lost_packets budget.max_consecutive_lost_packets

  abbrev outage : Bool
  outage = leb r.max_gap_duration_ns budget.outage_budget_ns

  abbrev indicated : Bool
  indicated = eqb r.gtpu_error_indications 0

  passes : Kept r budget → (judging r budget).reason ≡ 0
  passes k =
      ap reason_of (sym (with_report r budget (eq-eqb r.number 0 k.a_report)))
      ∙ ap (λ (v : Verdict). (verdict_numbers v).reason)
      ((passes_if_kept held).kept (lt-ltb 0 r.received_packets k.some_returned)
      (and_both lost (run && (outage && indicated)) (le-leb _ _ k.lost_within)
      (and_both run (outage && indicated) (le-leb _ _ k.run_within)
      (and_both outage indicated (le-leb _ _ k.outage_within) (eq-eqb _ 0 k.none_indicated)))))

  -- PASS is said of a report only, and on its figures
  verdict_passes : (b : Bool) → eqb r.number 0 ≡ b → (judging r budget).reason ≡ 0 → (r.number ≡ 0) × (verdict_of held ≡ Pass)
  verdict_passes true e p =
      (eqb-true r.number 0 e, only_pass (verdict_of held) (ap reason_of (with_report r budget e) ∙ p))
  verdict_passes false e p = absurd (let none : no_report.reason ≡ 0 = ap reason_of (without r budget e) ∙ p in omega arith)

  forwarded : (b : Bool) → ltb 0 r.received_packets ≡ b → verdict_of held ≡ Pass → 0 < r.received_packets
  forwarded true e p = ltb-true 0 r.received_packets e
  forwarded false e p =
      absurd
      (let one : 1 ≡ 0 = ap (λ (v : Verdict). (verdict_numbers v).reason) (sym ((passes_if_kept held).nothing e) ∙ p) in omega arith)

  continuous : (b : Bool) → held.packet_continuity_proven ≡ b → verdict_of held ≡ Pass
      → lost && (run && (outage && indicated)) ≡ true
  continuous true e p = e
  continuous false e p = absurd ((passes_if_kept held).broken e p)

  only_kept : (judging r budget).reason ≡ 0 → Kept r budget
  only_kept p =
      let v = verdict_passes (eqb r.number 0) refl p in
      let all = continuous held.packet_continuity_proven refl v.1 in
      let first = both lost (run && (outage && indicated)) all in
      let second = both run (outage && indicated) first.1 in
      let third = both outage indicated second.1 in
      record {
        a_report = v.0;
        some_returned = forwarded (ltb 0 r.received_packets) refl v.1;
        lost_within = leb-true _ _ first.0;
        run_within = leb-true _ _ second.0;
        outage_within = leb-true _ _ third.0;
        none_indicated = eqb-true _ 0 third.1;
      }

pub passes_by_figures : PassesByFigures
passes_by_figures r budget = record { passes = passes r budget; only_kept = only_kept r budget }
