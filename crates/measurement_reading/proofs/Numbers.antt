-- By which numbers reading refuses.
use Prim.Native.Nat.{ℕ, ◌/◌}
use mathlib.Core.Path.{◌≡◌, refl, sym, ◌∙◌}
use mathlib.Core.List.{List, [], ◌∷◌}
use mathlib.Core.Bool.{Bool, true, false}
use lib.Dec.{eqb}
use lib.ListN.{get_or}
use Rattle.error.specs.Outcome.{Outcome, refused}
use Rattle.error.proofs.Among.{among, holds, of_each, within, by_one_of}
use Rattle.error.proofs.Causes.{from, refused_gives}
use Rattle.measurement.specs.declared.DecodedTpdu.{DecodedTpdu}
use Rattle.measurement.specs.declared.IpVersion.{IpVersion}
use Rattle.measurement.specs.declared.IpVersion.TheVariants.{V4, V6}
use Rattle.measurement_reading.specs.Read.{payload, probe_causes, udp_causes, read_probe, read_udp, ipv4_causes, read_ipv4, ipv6_causes, read_ipv6, tpdu_causes, read_of}
use Rattle.measurement_reading.proofs.Rows.{LeftIpv4, ipv4_rows}

-- those of the part that stands behind the IP header, and all
abbrev pub part_numbers : List ℕ
part_numbers = 10 ∷ 11 ∷ 12 ∷ 13 ∷ 14 ∷ []

abbrev pub reading_numbers : List ℕ
reading_numbers = 1 ∷ 2 ∷ 3 ∷ 4 ∷ 39 ∷ 5 ∷ 6 ∷ 7 ∷ 38 ∷ 8 ∷ 9 ∷ part_numbers

pub part_by : (v : IpVersion) (src dst u : List ℕ) (n : ℕ) → read_udp v src dst u ≡ refused n → among n part_numbers ≡ true
unfolding read_udp udp_causes read_probe probe_causes
part_by v src dst u =
    by_one_of part_numbers (udp_causes v src dst u) _ refl (by_one_of part_numbers (probe_causes (payload u)) _ refl (λ n e. absurd (refused_gives (sym e))))

-- of a list that has the part's numbers
part_among : (numbers : List ℕ) → holds (λ m. among m numbers) part_numbers ≡ true → (v : IpVersion) (src dst u : List ℕ) (n : ℕ)
    → read_udp v src dst u ≡ refused n → among n numbers ≡ true
part_among numbers h v src dst u n e = of_each (λ m. among m numbers) part_numbers h n (part_by v src dst u n e)

-- where rows of IPv4 were passed, by those that are left
pub left_by_lem : (p numbers : List ℕ) (first : ℕ) → LeftIpv4 p first → within numbers (from first (ipv4_causes p)) ≡ true → holds (λ m. among m numbers) part_numbers ≡ true
    → (n : ℕ) → read_ipv4 p ≡ refused n → among n numbers ≡ true
left_by_lem p numbers first left w h n e = by_one_of numbers (from first (ipv4_causes p)) _ w (part_among numbers h V4 _ _ _) n (left.is ∙ e)

pub ipv6_by : (p numbers : List ℕ) → within numbers (ipv6_causes p) ≡ true → holds (λ m. among m numbers) part_numbers ≡ true
    → (n : ℕ) → read_ipv6 p ≡ refused n → among n numbers ≡ true
unfolding read_ipv6
ipv6_by p numbers w h = by_one_of numbers (ipv6_causes p) _ w (part_among numbers h V6 _ _ _)

pub read_by : (p : List ℕ) (n : ℕ) → read_of p ≡ refused n → among n reading_numbers ≡ true
unfolding read_of tpdu_causes ipv4_causes ipv6_causes
read_by p = by_one_of reading_numbers (tpdu_causes p) _ refl (either (eqb (get_or p 0 0 / 16) 4))
  where
    either : (b : Bool) (n : ℕ) → ◌≡◌ {A = Outcome DecodedTpdu} (elim b [ true ↦ read_ipv4 p | false ↦ read_ipv6 p ]) (refused n) → among n reading_numbers ≡ true
    either true = left_by_lem p reading_numbers 3 (ipv4_rows p) refl refl
    either false = ipv6_by p reading_numbers refl refl
