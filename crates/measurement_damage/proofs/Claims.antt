-- The claims of specs/Claims.antt, proved.
use Prim.Native.Nat.{ℕ, zero, suc, ◌+◌, ◌-◌, ◌*◌, ◌/◌, ◌^◌, ◌<◌, ◌≤◌}
use native.Mathlib.Omega.{arith}
use mathlib.Core.Path.{◌≡◌, refl, sym, ap, ap₂, ◌∙◌}
use mathlib.Core.List.{List, [], ◌++◌, append-nil}
use mathlib.Core.Logic.{◌⊎◌, inl, inr}
use lib.ListN.{length, take, drop, get_or, replicate, length-append, length-replicate}
use Rattle.error.specs.Outcome.{Outcome, refused, gives}
use Rattle.error.proofs.Causes.{refused_gives}
use Rattle.field.specs.Field.{Bytes, bytes_at, field}
use Rattle.field.proofs.Fields.{value_below, bytes_at_lem, bytes_take, bytes_drop, bytes_append}
use Rattle.checksum.specs.Damage.{Turned}
use Rattle.measurement.specs.Flow.{address_length, address, padded, reversed_of, InRange}
use Rattle.measurement.specs.Pseudo.{pseudo_header}
use Rattle.measurement.specs.declared.DecodedTpdu.{DecodedTpdu}
use Rattle.measurement.specs.declared.InnerIpFlow.{InnerIpFlow}
use Rattle.measurement.specs.declared.IpVersion.{IpVersion}
use Rattle.measurement.specs.declared.IpVersion.TheVariants.{V4, V6}
use Rattle.measurement_packet.specs.Packet.{ip_header, udp, build_of}
use Rattle.measurement_reading.specs.Read.{payload, read_udp, ihl, read_of}
use Rattle.measurement_damage.specs.Echo.{echo_of_tpdu, echo_of}
use Rattle.measurement_damage.specs.Claims.{canonical, tpdu_built, ReadsBack, EchoIsReversed, EchoOfEcho, reversed_tpdu, Sent, built, echoed, RefusesOr, DamageOfOneLeg, DamageFound, SentIsRead, arrives, echoes, echoes_of, LegsChained}
use Rattle.measurement_reading.proofs.Accept.{part_accepted, Accepted4, Accepted6, accepted}
use Rattle.measurement_damage.proofs.ReadBack.{packet_reads_back}
use Rattle.measurement_damage.proofs.Leg.{leg}

pub reads_back : ReadsBack
unfolding build_of address
reads_back f s t g behind =
    packet_reads_back f.src f.dst f.src_port f.dst_port s t g.source_port g.destination_port g.sequence g.time behind f.version

pub reads_back_alone : (f : InnerIpFlow) (s t : ℕ) → InRange f s t → read_of (build_of f s t) ≡ gives (tpdu_built f s t)
reads_back_alone f s t g = ap read_of (sym (append-nil (build_of f s t))) ∙ reads_back f s t g []

-- building looks at no more of a flow than reading gives back
address_padded : (v : IpVersion) (l : List ℕ) → address v (padded (address v l)) ≡ address v l
unfolding address padded address_length
address_padded V4 l = refl
address_padded V6 l = refl

build_canonical : (f : InnerIpFlow) (s t : ℕ) → build_of (canonical f) s t ≡ build_of f s t
unfolding build_of
build_canonical f s t =
    ap₂ (λ (x y : List ℕ). ip_header f.version x y ++ udp (pseudo_header f.version x y 32) f.src_port f.dst_port s t)
    (address_padded f.version f.src) (address_padded f.version f.dst)

echo_given : (b : List ℕ) (d : DecodedTpdu) → read_of b ≡ gives d → echo_of b ≡ gives (echo_of_tpdu d)
unfolding echo_of
echo_given b d e = rw (e, echo_of)

-- what is read as a built packet is echoed as one
pub echo_of_read : (f : InnerIpFlow) (s t : ℕ) (b : List ℕ) → read_of b ≡ gives (tpdu_built f s t) → echo_of b ≡ gives (build_of (reversed_of f) s t)
echo_of_read f s t b e = echo_given b (tpdu_built f s t) e ∙ ap gives (build_canonical (reversed_of f) s t)

pub echo_is_reversed : EchoIsReversed
echo_is_reversed f s t g behind = echo_of_read f s t (build_of f s t ++ behind) (reads_back f s t g behind)

pub reversed_in_range : {f : InnerIpFlow} {s t : ℕ} → InRange f s t → InRange (reversed_of f) s t
reversed_in_range g = record {
  source = g.destination;
  destination = g.source;
  source_length = g.destination_length;
  destination_length = g.source_length;
  source_port = g.destination_port;
  destination_port = g.source_port;
  sequence = g.sequence;
  time = g.time;
}

pub echo_alone : (f : InnerIpFlow) (s t : ℕ) → InRange f s t → echo_of (build_of f s t) ≡ gives (build_of (reversed_of f) s t)
echo_alone f s t g = ap echo_of (sym (append-nil (build_of f s t))) ∙ echo_is_reversed f s t g []

pub echo_refused : (b : List ℕ) (n : ℕ) → read_of b ≡ refused n → echo_of b ≡ refused n
unfolding echo_of
echo_refused b n e = rw (e, echo_of)

given : {x y : List ℕ} → gives x ≡ gives y → x ≡ y
given e = cc

pub echo_of_echo : EchoOfEcho
echo_of_echo f s t g e p = ap echo_of (given (sym p ∙ echo_alone f s t g)) ∙ echo_alone (reversed_of f) s t (reversed_in_range g)

-- what is read is in range, so every T-PDU that was sent was built
field_16 : (at : ℕ) (u : List ℕ) → Bytes u → field 2 at u < 2 ^ 16
field_16 at u b = value_below (bytes_at 2 at u) (bytes_at_lem 2 at u b)

field_64 : (at : ℕ) (u : List ℕ) → Bytes u → field 8 at u < 2 ^ 64
field_64 at u b = value_below (bytes_at 8 at u) (bytes_at_lem 8 at u b)

pub zeros_are_bytes : (n : ℕ) → Bytes (replicate n 0)
zeros_are_bytes zero = tt
zeros_are_bytes (suc n) = (omega arith, zeros_are_bytes n)

padded_length : (l : List ℕ) → length l ≤ 16 → length (padded l) ≡ 16
unfolding padded
padded_length l h =
    let z : ℕ = 0 in
    length-append l (replicate (16 - length l) z) ∙ omega (arith, length-replicate (16 - length l) z)

part_in_range : (v : IpVersion) (src dst u : List ℕ) (r : DecodedTpdu) → Bytes src → Bytes dst → Bytes u → length src ≤ 16 → length dst ≤ 16
    → read_udp v src dst u ≡ gives r → InRange r.flow r.measurement.sequence r.measurement.send_timestamp_ns
unfolding padded payload
part_in_range v src dst u r bs bd bu hs hd e =
    let p = (part_accepted src dst u r v e).is in
    let body = bytes_take (field 2 4 u - 8) (drop 8 u) (bytes_drop 8 u bu) in
    rw p (record {
      source = bytes_append src (replicate (16 - length src) 0) bs (zeros_are_bytes (16 - length src));
      destination = bytes_append dst (replicate (16 - length dst) 0) bd (zeros_are_bytes (16 - length dst));
      source_length = padded_length src hs;
      destination_length = padded_length dst hd;
      source_port = field_16 0 u bu;
      destination_port = field_16 2 u bu;
      sequence = field_64 8 (take (field 2 4 u - 8) (drop 8 u)) body;
      time = field_64 16 (take (field 2 4 u - 8) (drop 8 u)) body;
    })

read_in_range : (b : List ℕ) (r : DecodedTpdu) → Bytes b → read_of b ≡ gives r → InRange r.flow r.measurement.sequence r.measurement.send_timestamp_ns
read_in_range b r bytes e = go (accepted b r e)
  where
    go : ((get_or b 0 0 / 16 ≡ 4) × Accepted4 b r) ⊎ ((get_or b 0 0 / 16 ≡ 6) × Accepted6 b r) → InRange r.flow r.measurement.sequence r.measurement.send_timestamp_ns
    go (inl x) =
        part_in_range V4 (bytes_at 4 12 b) (bytes_at 4 16 b) (take (field 2 2 b - ihl b * 4) (drop (ihl b * 4) b)) r (bytes_at_lem 4 12 b bytes) (bytes_at_lem 4 16 b bytes)
        (bytes_take (field 2 2 b - ihl b * 4) (drop (ihl b * 4) b) (bytes_drop (ihl b * 4) b bytes)) (omega arith) (omega arith) x.1.part
    go (inr x) =
        part_in_range V6 (bytes_at 16 8 b) (bytes_at 16 24 b) (take (field 2 4 b) (drop 40 b)) r (bytes_at_lem 16 8 b bytes) (bytes_at_lem 16 24 b bytes)
        (bytes_take (field 2 4 b) (drop 40 b) (bytes_drop 40 b bytes)) (omega arith) (omega arith) x.1.part

-- and its flow is canonical, so building and reading give it back
part_canonical : (v : IpVersion) (src dst u : List ℕ) (r : DecodedTpdu) → padded (address v (padded src)) ≡ padded src → padded (address v (padded dst)) ≡ padded dst
    → read_udp v src dst u ≡ gives r → canonical r.flow ≡ r.flow
unfolding address padded address_length
part_canonical v src dst u r hs hd e =
    rw (part_accepted src dst u r v e).is
    (ap₂ (λ (x y : List ℕ). record { version = v; src = x; dst = y; src_port = field 2 0 u; dst_port = field 2 2 u }) hs hd)

read_canonical : (b : List ℕ) (r : DecodedTpdu) → read_of b ≡ gives r → canonical r.flow ≡ r.flow
unfolding address padded address_length
read_canonical b r e = go (accepted b r e)
  where
    go : ((get_or b 0 0 / 16 ≡ 4) × Accepted4 b r) ⊎ ((get_or b 0 0 / 16 ≡ 6) × Accepted6 b r) → canonical r.flow ≡ r.flow
    go (inl x) = part_canonical V4 (bytes_at 4 12 b) (bytes_at 4 16 b) (take (field 2 2 b - ihl b * 4) (drop (ihl b * 4) b)) r refl refl x.1.part
    go (inr x) = part_canonical V6 (bytes_at 16 8 b) (bytes_at 16 24 b) (take (field 2 4 b) (drop 40 b)) r refl refl x.1.part

canonical_reversed : (d : DecodedTpdu) → canonical d.flow ≡ d.flow
    → tpdu_built (reversed_of d.flow) d.measurement.sequence d.measurement.send_timestamp_ns ≡ reversed_tpdu d
canonical_reversed d e = ap (λ (f : InnerIpFlow). record { flow = reversed_of f; measurement = d.measurement }) e

record Build (began : DecodedTpdu) (sent : List ℕ) : Type 0 where
  flow : InnerIpFlow
  sequence : ℕ
  time : ℕ
  in_range : InRange flow sequence time
  is : sent ≡ build_of flow sequence time
  begins : tpdu_built flow sequence time ≡ began

sent_is_built : (d : DecodedTpdu) (x : List ℕ) → Sent d x → Build d x
sent_is_built d x (built f s t g) = record { flow = f; sequence = s; time = t; in_range = g; is = refl; begins = refl }
sent_is_built d x (echoed b e r bytes q p) = record {
  flow = reversed_of r.flow;
  sequence = r.measurement.sequence;
  time = r.measurement.send_timestamp_ns;
  in_range = reversed_in_range (read_in_range b r bytes q);
  is = given (sym p ∙ echo_given b r q);
  begins = canonical_reversed r (read_canonical b r q);
}

-- one leg
module _ (d : DecodedTpdu) (x a : List ℕ) (w : Build d x) (q : Turned x a) where
  whole_read : read_of x ≡ gives d
  whole_read = ap read_of w.is ∙ reads_back_alone w.flow w.sequence w.time w.in_range ∙ ap gives w.begins

  -- what is read of the damaged T-PDU is what the leg began with
  gives_what_began : (r : DecodedTpdu) → read_of a ≡ gives r → r ≡ d
  unfolding build_of address
  gives_what_began r e =
      let f = w.flow in
      let g = w.in_range in
      leg f.src f.dst f.src_port f.dst_port w.sequence w.time g.source g.destination g.source_port g.destination_port g.sequence g.time
      a r f.version (rw w.is at q) e ∙ w.begins

  one_leg : DamageOfOneLeg d x a
  one_leg = go (read_of a) refl
    where
      go : (o : Outcome DecodedTpdu) → read_of a ≡ o → DamageOfOneLeg d x a
      go (refused n) e = record { reading = rw e tt; echoing = rw (echo_refused a n e) tt; undamaged_echo = echo_given x d whole_read }
      go (gives r) e = record {
        reading = rw e (ap gives (gives_what_began r e));
        echoing = rw (echo_given a r e) (ap (λ (c : DecodedTpdu). gives (echo_of_tpdu c)) (gives_what_began r e) ∙ sym (echo_given x d whole_read));
        undamaged_echo = echo_given x d whole_read;
      }

pub damage_found : DamageFound
damage_found d x a s q = one_leg d x a (sent_is_built d x s) q

pub sent_is_read : SentIsRead
sent_is_read d x s = let w = sent_is_built d x s in ap read_of w.is ∙ reads_back_alone w.flow w.sequence w.time w.in_range ∙ ap gives w.begins

-- legs one after the other
echo_was_read : (c e : List ℕ) → echo_of c ≡ gives e → (d : DecodedTpdu) → RefusesOr (read_of c) (gives d) → read_of c ≡ gives d
echo_was_read c e p d h = go (read_of c) refl h
  where
    go : (o : Outcome DecodedTpdu) → read_of c ≡ o → RefusesOr o (gives d) → read_of c ≡ gives d
    go (refused n) q h = absurd (refused_gives (sym (echo_refused c n q) ∙ p))
    go (gives r) q h = q ∙ h

pub legs_chained : LegsChained
unfolding echoes_of
legs_chained d x a zero s (arrives q) = record { whole = x; echoed = refl; is_sent = s; turned = q }
legs_chained d x a (suc n) s (echoes {at_echo = c} {echo = e} q p w) =
    let found = damage_found d x c s q in
    let same : echo_of x ≡ gives e = sym (rw p at found.echoing) in
    let rest = legs_chained (reversed_tpdu d) e a n (echoed c e d q.bytes (echo_was_read c e p d found.reading) p) w in
    record { whole = rest.whole; echoed = rw (same, echoes_of) rest.echoed; is_sent = rest.is_sent; turned = rest.turned }
