-- Document 01, leaf 6: "counters .., which saturate"; leaf 9: "The counts saturate."
use Rattle.std.specs.Prelude.{ℕ, ◌+◌, min}

-- One more, and no more than the top of a u64.
unfoldable pub one_more : ℕ → ℕ
one_more n = min (n + 1) 18446744073709551615
