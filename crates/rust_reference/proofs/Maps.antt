-- Maps and rows: where a sequence stands among rows that rise, and what the operations of the Rust's maps do there.
use Rattle.std.proofs.Common.{◌≡◌, ℕ, suc, ◌-◌, ◌<◌, ◌≤◌, max, Bool, true, false, ◌&&◌, ◌||◌, eqb, ltb, List, [], ◌∷◌, ◌++◌, length, get_or, take, drop, set, sym, refl, ap, ◌∙◌, subst, ap₂, arith, take_at, drop_at, ltb-true, le-ltb, lt-ltb, eq-eqb, ne_eqb, eqb-true}
use native.Mathlib.Decide.{dec_lt, ℕ_discrete}
use lib.Dec.{leb-suc-suc}
use lib.Seq.{set_at, get_or_at}
use Rattle.observer.specs.Observer.{Row, sequences_of, sent_row, row_at}
use Rattle.columns.specs.Columns.{rising}
use Rattle.columns.specs.Place.{place, holds}
use Rattle.observer.specs.Place.{place_of, was_sent, row_of, highest_marked}
use Rattle.observer.specs.Sending.{resent}
use Rattle.observer.specs.Returning.{returned}
use Rattle.columns.proofs.Search.{both_left, rising_tail}
use Rattle.rust_reference.specs.Values.{u64_max}
use Rattle.rust_reference.specs.Map.{Option, None, Some, is_some_and, map_or, Entry, get, contains_key, insert, keys, contains}
use Rattle.rust_reference.specs.Sheet.{sent_of, received_of, highest_key, ValuesFit}

-- ---- where a sequence stands

-- every row stands below q, above q
abbrev pub Below : ℕ → List Row → Type 0
Below q [] = Unit {0}
Below q (r ∷ rs) = (r.sequence < q) × Below q rs

abbrev pub Above : ℕ → List Row → Type 0
Above q [] = Unit {0}
Above q (r ∷ rs) = (q < r.sequence) × Above q rs

-- rows that rise, cut where q stands or would stand
pub data Located (q : ℕ) (rs : List Row) : Type 0 where
  found : (before : List Row) (r : Row) (after : List Row) → rs ≡ before ++ r ∷ after → Below q before → r.sequence ≡ q → Above q after
      → place_of q rs ≡ length before → was_sent q rs ≡ true → Located q rs
  absent : (before after : List Row) → rs ≡ before ++ after → Below q before → Above q after
      → place_of q rs ≡ length before → was_sent q rs ≡ false → Located q rs

above_lower : (p q : ℕ) (rs : List Row) → p ≤ q → Above q rs → Above p rs
above_lower p q [] h a = tt
above_lower p q (r ∷ rs) h a = (omega (arith, a.0), above_lower p q rs h a.1)

pub rising_above : (x : ℕ) (rs : List Row) → rising (x ∷ sequences_of rs) ≡ true → Above x rs
rising_above x [] e = tt
rising_above x (r ∷ rs) e =
    let h : x < r.sequence = ltb-true x r.sequence (both_left (ltb x r.sequence) (rising (r.sequence ∷ sequences_of rs)) e) in
    (h, above_lower x r.sequence rs (omega arith) (rising_above r.sequence rs (rising_tail x (sequences_of (r ∷ rs)) e)))

-- the search steps over a row below q
place_past : (q : ℕ) (r : Row) (rs : List Row) → r.sequence < q → place_of q (r ∷ rs) ≡ suc (place_of q rs)
place_past q r rs h = rw (lt-ltb r.sequence q h, place)

sent_past : (q : ℕ) (r : Row) (rs : List Row) → r.sequence < q → was_sent q (r ∷ rs) ≡ was_sent q rs
unfolding holds
sent_past q r rs h =
    ap (λ (k : ℕ). holds q k (sequences_of (r ∷ rs))) (place_past q r rs h)
    ∙ ap (λ (t : Bool). t && eqb (get_or (sequences_of rs) (place_of q rs) 0) q) (leb-suc-suc (suc (place_of q rs)) (length (sequences_of rs)))

place_front : (q : ℕ) (r : Row) (rs : List Row) → q ≤ r.sequence → place_of q (r ∷ rs) ≡ 0
place_front q r rs h = rw (le-ltb r.sequence q h, place)

sent_front : (q : ℕ) (r : Row) (rs : List Row) → q ≤ r.sequence → was_sent q (r ∷ rs) ≡ eqb r.sequence q
unfolding holds
sent_front q r rs h =
    ap (λ (k : ℕ). holds q k (sequences_of (r ∷ rs))) (place_front q r rs h)
    ∙ ap (λ (t : Bool). t && eqb r.sequence q) (lt-ltb 0 (length (sequences_of (r ∷ rs))) (omega arith))

nothing_sent_lem : (q : ℕ) → was_sent q [] ≡ false
unfolding holds
nothing_sent_lem q = ap (λ (t : Bool). t && eqb 0 q) (le-ltb 0 0 (omega arith))

-- one row more in front
further : (q : ℕ) (r : Row) (rs : List Row) → r.sequence < q → Located q rs → Located q (r ∷ rs)
further q r rs h (found before x after e b s a p w) =
    found (r ∷ before) x after (ap (λ (l : List Row). r ∷ l) e) (h, b) s a (place_past q r rs h ∙ ap suc p) (sent_past q r rs h ∙ w)
further q r rs h (absent before after e b a p w) =
    absent (r ∷ before) after (ap (λ (l : List Row). r ∷ l) e) (h, b) a (place_past q r rs h ∙ ap suc p) (sent_past q r rs h ∙ w)

pub locate : (q : ℕ) (rs : List Row) → rising (sequences_of rs) ≡ true → Located q rs
locate q [] e = absent [] [] refl tt tt refl (nothing_sent_lem q)
locate q (r ∷ rs) e = by (dec_lt r.sequence q) (ℕ_discrete r.sequence q) (locate q rs (rising_tail r.sequence (sequences_of rs) e))
  where
    up : Above r.sequence rs
    up = rising_above r.sequence rs e

    by : Dec (r.sequence < q) → Dec (r.sequence ≡ q) → Located q rs → Located q (r ∷ rs)
    by (yes h) d l = further q r rs h l
    by (no h) (yes s) l =
        found [] r rs refl tt s (subst (λ (k : ℕ). Above k rs) s up) (place_front q r rs (omega arith)) (sent_front q r rs (omega arith) ∙ eq-eqb r.sequence q s)
    by (no h) (no s) l =
        let k : q < r.sequence = omega arith in
        absent [] (r ∷ rs) refl tt (k, above_lower q r.sequence rs (omega arith) up) (place_front q r rs (omega arith)) (sent_front q r rs (omega arith) ∙ ne_eqb r.sequence q s)

-- ---- maps

-- every key stands below q, above q
abbrev KeysBelow : ℕ → List Entry → Type 0
KeysBelow q [] = Unit {0}
KeysBelow q (e ∷ m) = (e.key < q) × KeysBelow q m

abbrev KeysAbove : ℕ → List Entry → Type 0
KeysAbove q [] = Unit {0}
KeysAbove q (e ∷ m) = (q < e.key) × KeysAbove q m

sent_append : (a b : List Row) → sent_of (a ++ b) ≡ sent_of a ++ sent_of b
sent_append [] b = refl
sent_append (r ∷ a) b = ap (λ (m : List Entry). record { key = r.sequence; value = r.send_timestamp_ns } ∷ m) (sent_append a b)

received_append : (a b : List Row) → received_of (a ++ b) ≡ received_of a ++ received_of b
received_append [] b = refl
received_append (r ∷ a) b = by (eqb r.mark 1) (received_append a b)
  where
    e : Entry
    e = record { key = r.sequence; value = r.latency }

    by : (t : Bool) → received_of (a ++ b) ≡ received_of a ++ received_of b
        → elim t [ true ↦ e ∷ received_of (a ++ b) | false ↦ received_of (a ++ b) ] ≡ elim t [ true ↦ e ∷ received_of a | false ↦ received_of a ] ++ received_of b
    by true ih = ap (λ (m : List Entry). e ∷ m) ih
    by false ih = ih

sent_below : (q : ℕ) (rs : List Row) → Below q rs → KeysBelow q (sent_of rs)
sent_below q [] b = tt
sent_below q (r ∷ rs) b = (b.0, sent_below q rs b.1)

sent_above : (q : ℕ) (rs : List Row) → Above q rs → KeysAbove q (sent_of rs)
sent_above q [] a = tt
sent_above q (r ∷ rs) a = (a.0, sent_above q rs a.1)

received_below : (q : ℕ) (rs : List Row) → Below q rs → KeysBelow q (received_of rs)
received_below q [] b = tt
received_below q (r ∷ rs) b = by (eqb r.mark 1) (received_below q rs b.1)
  where
    by : (t : Bool) → KeysBelow q (received_of rs) → KeysBelow q (elim t [ true ↦ record { key = r.sequence; value = r.latency } ∷ received_of rs | false ↦ received_of rs ])
    by true ih = (b.0, ih)
    by false ih = ih

received_above : (q : ℕ) (rs : List Row) → Above q rs → KeysAbove q (received_of rs)
received_above q [] a = tt
received_above q (r ∷ rs) a = by (eqb r.mark 1) (received_above q rs a.1)
  where
    by : (t : Bool) → KeysAbove q (received_of rs) → KeysAbove q (elim t [ true ↦ record { key = r.sequence; value = r.latency } ∷ received_of rs | false ↦ received_of rs ])
    by true ih = (a.0, ih)
    by false ih = ih

-- keys below q are stepped over
get_past : (q : ℕ) (a b : List Entry) → KeysBelow q a → get q (a ++ b) ≡ get q b
get_past q [] b h = refl
get_past q (e ∷ a) b h = rw (ne_eqb e.key q (λ k. omega (arith, h.0)), get) (get_past q a b h.1)

insert_past : (q v : ℕ) (a b : List Entry) → KeysBelow q a → insert q v (a ++ b) ≡ a ++ insert q v b
insert_past q v [] b h = refl
insert_past q v (e ∷ a) b h =
    rw (le-ltb q e.key (omega (arith, h.0)), ne_eqb q e.key (λ k. omega (arith, h.0)), insert)
    (ap (λ (m : List Entry). e ∷ m) (insert_past q v a b h.1))

-- keys above q end the search
get_above : (q : ℕ) (m : List Entry) → KeysAbove q m → get q m ≡ None
get_above q [] h = refl
get_above q (e ∷ m) h = rw (ne_eqb e.key q (λ k. omega (arith, h.0)), get) (get_above q m h.1)

insert_above : (q v : ℕ) (m : List Entry) → KeysAbove q m → insert q v m ≡ record { key = q; value = v } ∷ m
insert_above q v [] h = refl
insert_above q v (e ∷ m) h = rw (lt-ltb q e.key h.0, insert)

-- q itself
get_here : (q : ℕ) (e : Entry) (m : List Entry) → e.key ≡ q → get q (e ∷ m) ≡ Some e.value
get_here q e m h = rw (eq-eqb e.key q h, get)

insert_here : (q v : ℕ) (e : Entry) (m : List Entry) → e.key ≡ q → insert q v (e ∷ m) ≡ record { key = q; value = v } ∷ m
insert_here q v e m h = rw (le-ltb q e.key (omega arith), eq-eqb q e.key (sym h), insert)

-- a set of keys has a key where the map does
pub contains_keys : (q : ℕ) (m : List Entry) → contains q (keys m) ≡ contains_key q m
contains_keys q [] = refl
contains_keys q (e ∷ m) = by (eqb e.key q) (contains_keys q m)
  where
    by : (t : Bool) → contains q (keys m) ≡ contains_key q m
        → t || contains q (keys m) ≡ is_some_and {A = ℕ} (elim t [ true ↦ Some e.value | false ↦ get q m ]) (λ value. true)
    by true ih = refl
    by false ih = ih

-- a value that fits keeps a map's values
pub insert_fits : (q v : ℕ) (m : List Entry) → v ≤ u64_max → ValuesFit m → ValuesFit (insert q v m)
insert_fits q v [] h f = (h, tt)
insert_fits q v (e ∷ m) h f = by (ltb q e.key) (eqb q e.key) (insert_fits q v m h f.1)
  where
    by : (t u : Bool) → ValuesFit (insert q v m)
        → ValuesFit (elim t [
          | true ↦ record { key = q; value = v } ∷ e ∷ m
          | false ↦ elim u [ true ↦ record { key = q; value = v } ∷ m | false ↦ e ∷ insert q v m ]
        ])
    by true u ih = (h, f)
    by false true ih = (h, f.1)
    by false false ih = (f.0, ih)

-- the highest key behind an insertion
abbrev highest_cons : ℕ → Option ℕ → Option ℕ
highest_cons k o = Some (map_or o k (λ highest. max k highest))

pub highest_insert : (q v : ℕ) (m : List Entry) → highest_key (insert q v m) ≡ Some (map_or (highest_key m) q (λ highest. max highest q))
highest_insert q v [] = refl
highest_insert q v (e ∷ m) = by (ltb q e.key) (eqb q e.key) refl (highest_insert q v m)
  where
    goal : Option ℕ
    goal = Some (max (map_or (highest_key m) e.key (λ highest. max e.key highest)) q)

    fresh_top : (o : Option ℕ) → map_or (highest_cons e.key o) q (λ highest. max q highest) ≡ max (map_or o e.key (λ highest. max e.key highest)) q
    fresh_top None = omega arith
    fresh_top (Some h) = omega arith

    again_top : (o : Option ℕ) → q ≡ e.key → map_or o q (λ highest. max q highest) ≡ max (map_or o e.key (λ highest. max e.key highest)) q
    again_top None h = omega arith
    again_top (Some x) h = omega arith

    later_top : (o : Option ℕ) → max e.key (map_or o q (λ highest. max highest q)) ≡ max (map_or o e.key (λ highest. max e.key highest)) q
    later_top None = omega arith
    later_top (Some h) = omega arith

    by : (t u : Bool) → eqb q e.key ≡ u → highest_key (insert q v m) ≡ Some (map_or (highest_key m) q (λ highest. max highest q))
        → highest_key (elim t [
          | true ↦ record { key = q; value = v } ∷ e ∷ m
          | false ↦ elim u [ true ↦ record { key = q; value = v } ∷ m | false ↦ e ∷ insert q v m ]
        ]) ≡ goal
    by true u f ih = ap (λ (n : ℕ). Some n) (fresh_top (highest_key m))
    by false true f ih = ap (λ (n : ℕ). Some n) (again_top (highest_key m) (eqb-true q e.key f))
    by false false f ih = rw ih (ap (λ (n : ℕ). Some n) (later_top (highest_key m)))

-- ---- rows as maps, where a sequence was located

module _ (q : ℕ) (before : List Row) (r : Row) (after : List Row) (b : Below q before) (s : r.sequence ≡ q) (a : Above q after) where
  abbrev whole : List Row
  whole = before ++ r ∷ after

  pub get_found : get q (sent_of whole) ≡ Some r.send_timestamp_ns
  get_found =
      ap (get q) (sent_append before (r ∷ after)) ∙ get_past q (sent_of before) (sent_of (r ∷ after)) (sent_below q before b)
      ∙ get_here q (record { key = r.sequence; value = r.send_timestamp_ns }) (sent_of after) s

  -- a sequence sent again
  pub insert_found : (t : ℕ) → insert q t (sent_of whole) ≡ sent_of (before ++ resent t r ∷ after)
  insert_found t =
      ap (insert q t) (sent_append before (r ∷ after)) ∙ insert_past q t (sent_of before) (sent_of (r ∷ after)) (sent_below q before b)
      ∙ ap (λ (m : List Entry). sent_of before ++ m)
      (insert_here q t (record { key = r.sequence; value = r.send_timestamp_ns }) (sent_of after) s ∙ ap (λ (k : ℕ). record { key = k; value = t } ∷ sent_of after) (sym s))
      ∙ sym (sent_append before (resent t r ∷ after))

  pub received_resent : (t : ℕ) → received_of (before ++ resent t r ∷ after) ≡ received_of whole
  received_resent t = received_append before (resent t r ∷ after) ∙ sym (received_append before (r ∷ after))

  -- a return
  pub contains_found : contains_key q (received_of whole) ≡ eqb r.mark 1
  contains_found =
      ap (λ (m : List Entry). contains_key q m) (received_append before (r ∷ after))
      ∙ ap (λ (o : Option ℕ). is_some_and o (λ value. true)) (get_past q (received_of before) (received_of (r ∷ after)) (received_below q before b))
      ∙ by (eqb r.mark 1)
    where
      e : Entry
      e = record { key = r.sequence; value = r.latency }

      by : (t : Bool) → is_some_and (get q (elim t [ true ↦ e ∷ received_of after | false ↦ received_of after ])) (λ value. true) ≡ t
      by true = ap (λ (o : Option ℕ). is_some_and o (λ value. true)) (get_here q e (received_of after) s)
      by false = ap (λ (o : Option ℕ). is_some_and o (λ value. true)) (get_above q (received_of after) (received_above q after a))

  pub insert_received : (t : ℕ) → eqb r.mark 1 ≡ false → insert q (t - r.send_timestamp_ns) (received_of whole) ≡ received_of (before ++ returned t r ∷ after)
  insert_received t m =
      ap (insert q (t - r.send_timestamp_ns)) (received_append before (r ∷ after))
      ∙ insert_past q (t - r.send_timestamp_ns) (received_of before) (received_of (r ∷ after)) (received_below q before b)
      ∙ ap (λ (m : List Entry). received_of before ++ insert q (t - r.send_timestamp_ns) m) unmarked
      ∙ ap (λ (m : List Entry). received_of before ++ m)
      (insert_above q (t - r.send_timestamp_ns) (received_of after) (received_above q after a) ∙ ap (λ (k : ℕ). record { key = k; value = t - r.send_timestamp_ns } ∷ received_of after) (sym s))
      ∙ sym (received_append before (returned t r ∷ after))
    where
      unmarked : received_of (r ∷ after) ≡ received_of after
      unmarked = rw (m, received_of)

  pub sent_returned : (t : ℕ) → sent_of (before ++ returned t r ∷ after) ≡ sent_of whole
  sent_returned t = sent_append before (returned t r ∷ after) ∙ sym (sent_append before (r ∷ after))

module _ (q : ℕ) (before after : List Row) (b : Below q before) (a : Above q after) where
  pub get_absent : get q (sent_of (before ++ after)) ≡ None
  get_absent =
      ap (get q) (sent_append before after) ∙ get_past q (sent_of before) (sent_of after) (sent_below q before b)
      ∙ get_above q (sent_of after) (sent_above q after a)

  pub insert_absent : (t : ℕ) → insert q t (sent_of (before ++ after)) ≡ sent_of (before ++ sent_row q t ∷ after)
  insert_absent t =
      ap (insert q t) (sent_append before after) ∙ insert_past q t (sent_of before) (sent_of after) (sent_below q before b)
      ∙ ap (λ (m : List Entry). sent_of before ++ m) (insert_above q t (sent_of after) (sent_above q after a))
      ∙ sym (sent_append before (sent_row q t ∷ after))

  pub received_entered : (t : ℕ) → received_of (before ++ sent_row q t ∷ after) ≡ received_of (before ++ after)
  received_entered t = received_append before (sent_row q t ∷ after) ∙ sym (received_append before after)

-- ---- what the sheet's definitions are there

module _ (q : ℕ) (rs before : List Row) (p : place_of q rs ≡ length before) where
  pub row_found : (r : Row) (after : List Row) → rs ≡ before ++ r ∷ after → row_of q rs ≡ r
  row_found r after e = ap₂ (λ (k : ℕ) (l : List Row). row_at k l) p e ∙ get_or_at before r after (sent_row 0 0) (length before) refl

  pub set_found : (x : Row) (r : Row) (after : List Row) → rs ≡ before ++ r ∷ after → set rs (place_of q rs) x ≡ before ++ x ∷ after
  set_found x r after e = ap₂ (λ (l : List Row) (k : ℕ). set l k x) e p ∙ set_at before r after x (length before) refl

  pub put_absent : (x : Row) (after : List Row) → rs ≡ before ++ after → take (place_of q rs) rs ++ x ∷ drop (place_of q rs) rs ≡ before ++ x ∷ after
  put_absent x after e =
      ap₂ (λ (k : ℕ) (l : List Row). take k l ++ x ∷ drop k l) p e
      ∙ ap₂ (λ (f g : List Row). f ++ x ∷ g) (take_at before after (length before) refl) (drop_at before after (length before) refl)

-- below the highest received sequence is below the highest marked
highest_marked_lem : (rs : List Row) → highest_marked rs ≡ map_or (highest_key (received_of rs)) 0 (λ highest. highest)
highest_marked_lem [] = refl
highest_marked_lem (r ∷ rs) = by (eqb r.mark 1) (highest_marked_lem rs)
  where
    top : (o : Option ℕ) (n : ℕ) → n ≡ map_or o 0 (λ highest. highest) → max r.sequence n ≡ map_or o r.sequence (λ highest. max r.sequence highest)
    top None n e = omega arith
    top (Some h) n e = omega arith

    by : (t : Bool) → highest_marked rs ≡ map_or (highest_key (received_of rs)) 0 (λ highest. highest)
        → elim t [ true ↦ max r.sequence (highest_marked rs) | false ↦ highest_marked rs ]
        ≡ map_or (highest_key (elim t [ true ↦ record { key = r.sequence; value = r.latency } ∷ received_of rs | false ↦ received_of rs ])) 0 (λ highest. highest)
    by true ih = top (highest_key (received_of rs)) (highest_marked rs) ih
    by false ih = ih

pub late_is : (q : ℕ) (rs : List Row) → is_some_and (highest_key (received_of rs)) (λ highest. ltb q highest) ≡ ltb q (highest_marked rs)
late_is q rs = by (highest_key (received_of rs)) ∙ ap (λ (n : ℕ). ltb q n) (sym (highest_marked_lem rs))
  where
    by : (o : Option ℕ) → is_some_and o (λ highest. ltb q highest) ≡ ltb q (map_or o 0 (λ highest. highest))
    by None = sym (le-ltb q 0 (omega arith))
    by (Some h) = refl
