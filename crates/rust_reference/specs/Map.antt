-- `Option`, and `BTreeMap<u64, u64>` and `BTreeSet<u64>` as far as the Rust uses them: a map is its entries in the
-- order of their keys.
use Rattle.std.specs.Prelude.{ℕ, Bool, true, false, ◌||◌, List, [], ◌∷◌, map, ◌==◌, nat_lt}

pub data Option (A : Type 0) : Type 0 where
  None : Option A
  Some : A → Option A

abbrev pub is_some_and : {A : Type 0} → Option A → (A → Bool) → Bool
is_some_and None test = false
is_some_and (Some x) test = test x

abbrev pub map_or : {A B : Type 0} → Option A → B → (A → B) → B
map_or None default f = default
map_or (Some x) default f = f x

pub record Entry : Type 0 where
  pub key : ℕ
  pub value : ℕ

abbrev pub get : ℕ → List Entry → Option ℕ
get key [] = None
get key (e ∷ entries) = elim (e.key == key) [ true ↦ Some e.value | false ↦ get key entries ]

abbrev pub contains_key : ℕ → List Entry → Bool
contains_key key entries = is_some_and (get key entries) (λ value. true)

-- A key that is there gets the new value; another is entered in order.
abbrev pub insert : ℕ → ℕ → List Entry → List Entry
insert key value [] = record { key = key; value = value } ∷ []
insert key value (e ∷ entries) =
    elim (nat_lt key e.key) [
      | true ↦ record { key = key; value = value } ∷ e ∷ entries
      | false ↦
          elim (key == e.key) [
            | true ↦ record { key = key; value = value } ∷ entries
            | false ↦ e ∷ insert key value entries
          ]
    ]

abbrev pub keys : List Entry → List ℕ
keys entries = map (λ e. e.key) entries

abbrev pub values : List Entry → List ℕ
values entries = map (λ e. e.value) entries

-- of a set, its elements in order
abbrev pub contains : ℕ → List ℕ → Bool
contains key [] = false
contains key (x ∷ xs) = x == key || contains key xs
