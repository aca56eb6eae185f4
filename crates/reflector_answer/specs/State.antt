-- The reflector's state: its counts, and the sequence number of the next Error Indication (document 01, leaf 9).
use Rattle.std.specs.Prelude.{ℕ, ◌+◌, true, false, ◌==◌}
use Rattle.counter.specs.Counter.{one_more}
use Rattle.reflector_answer.specs.declared.ReflectorState.{ReflectorState}
use Rattle.reflector_answer.specs.declared.ReflectorStats.{ReflectorStats}

-- "Fresh: .. all counts 0, error sequence 1."
abbrev pub fresh : ReflectorState
fresh = record {
  stats = record {
    gpdu_received = 0;
    gpdu_forwarded = 0;
    gpdu_sunk = 0;
    echo_requests_answered = 0;
    error_indications_sent = 0;
    malformed_rejected = 0;
  };
  next_error_sequence = 1;
}

-- One of the counts.
pub data ReflectorCounter : Type 0 where
  GpduReceived GpduForwarded GpduSunk EchoRequestsAnswered ErrorIndicationsSent MalformedRejected : ReflectorCounter

-- One more of one count: "The counts saturate."
abbrev pub counted : ReflectorCounter → ReflectorStats → ReflectorStats
counted GpduReceived s = record {
  gpdu_received = one_more s.gpdu_received;
  gpdu_forwarded = s.gpdu_forwarded;
  gpdu_sunk = s.gpdu_sunk;
  echo_requests_answered = s.echo_requests_answered;
  error_indications_sent = s.error_indications_sent;
  malformed_rejected = s.malformed_rejected;
}
counted GpduForwarded s = record {
  gpdu_received = s.gpdu_received;
  gpdu_forwarded = one_more s.gpdu_forwarded;
  gpdu_sunk = s.gpdu_sunk;
  echo_requests_answered = s.echo_requests_answered;
  error_indications_sent = s.error_indications_sent;
  malformed_rejected = s.malformed_rejected;
}
counted GpduSunk s = record {
  gpdu_received = s.gpdu_received;
  gpdu_forwarded = s.gpdu_forwarded;
  gpdu_sunk = one_more s.gpdu_sunk;
  echo_requests_answered = s.echo_requests_answered;
  error_indications_sent = s.error_indications_sent;
  malformed_rejected = s.malformed_rejected;
}
counted EchoRequestsAnswered s = record {
  gpdu_received = s.gpdu_received;
  gpdu_forwarded = s.gpdu_forwarded;
  gpdu_sunk = s.gpdu_sunk;
  echo_requests_answered = one_more s.echo_requests_answered;
  error_indications_sent = s.error_indications_sent;
  malformed_rejected = s.malformed_rejected;
}
counted ErrorIndicationsSent s = record {
  gpdu_received = s.gpdu_received;
  gpdu_forwarded = s.gpdu_forwarded;
  gpdu_sunk = s.gpdu_sunk;
  echo_requests_answered = s.echo_requests_answered;
  error_indications_sent = one_more s.error_indications_sent;
  malformed_rejected = s.malformed_rejected;
}
counted MalformedRejected s = record {
  gpdu_received = s.gpdu_received;
  gpdu_forwarded = s.gpdu_forwarded;
  gpdu_sunk = s.gpdu_sunk;
  echo_requests_answered = s.echo_requests_answered;
  error_indications_sent = s.error_indications_sent;
  malformed_rejected = one_more s.malformed_rejected;
}

abbrev pub state_counted : ReflectorCounter → ReflectorState → ReflectorState
state_counted counter s = record { stats = counted counter s.stats; next_error_sequence = s.next_error_sequence }

-- "The error sequence after 65,535 is 1."
unfoldable pub next_error_sequence : ℕ → ℕ
next_error_sequence sequence = elim (sequence == 65535) [ true ↦ 1 | false ↦ sequence + 1 ]

-- "its count rises and the sequence moves on"
abbrev pub error_indication_sent : ReflectorState → ReflectorState
error_indication_sent s = record {
  stats = counted ErrorIndicationsSent s.stats;
  next_error_sequence = next_error_sequence s.next_error_sequence;
}
