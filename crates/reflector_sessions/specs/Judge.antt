-- The causes that every call of the reflector judges first: document 01, leaf 9.
use Rattle.std.specs.Prelude.{ℕ, List, [], ◌∷◌, ◌||◌, eqb, ltb}
use Rattle.error.specs.Number.{invalid_reflector_capacity, malformed_reflector_table}
use Rattle.error.specs.Outcome.{Outcome, gives, Cause, ◌⇒◌, first_cause}

-- The causes of a table, by how many rows it has, how many are used, and its maximum.
unfoldable pub table_causes : ℕ → ℕ → ℕ → List Cause
table_causes length used maximum =
    -- "maximum 0 or above 4,096"
    (eqb maximum 0 || ltb 4096 maximum ⇒ invalid_reflector_capacity)
    -- "used above maximum or slice shorter than maximum"
    ∷ (ltb maximum used || ltb length maximum ⇒ malformed_reflector_table)
    ∷ []

-- "30, 31": a table that neither refuses gives its used count.
unfoldable pub table_outcome : ℕ → ℕ → ℕ → Outcome ℕ
table_outcome length used maximum = first_cause (table_causes length used maximum) (gives used)
