-- Two sheets side by side, joined and numbered. The tables that are numbered hold the places and slots of the two sheets; what
-- stands for the kinds may have changed meanwhile.
use Rattle.std.specs.Prelude.{◌≡◌, ℕ, ◌+◌, ◌<◌}
use Rattle.records.specs.Tables.{first_at, count_at, kind_at}
use Rattle.records.specs.Sheets.{Sheet, size, Slot, Formed}
use Rattle.records.specs.Beside.{Side, Joined, Beside}
use Rattle.numbering.specs.Quotient.{Work, Quotient}

-- v has the places and slots of w, whatever stands for their kinds
pub record Alike {K F : Type 0} (w : Sheet K) (v : Sheet F) : Type 0 where
  pub places : size v ≡ size w
  pub slots : v.slots ≡ w.slots
  pub first : (x : ℕ) → first_at v.places x ≡ first_at w.places x
  pub count : (x : ℕ) → count_at v.places x ≡ count_at w.places x

-- c x is a place joined with x, the same for all places that are joined with x and for no other
pub record Classes {K : Type 0} (s t : Sheet K) (c : ℕ → ℕ) : Type 0 where
  pub inside : (x : ℕ) → x < size s + size t → c x < size s + size t
  pub member : (x : ℕ) → x < size s + size t → Joined s t x (c x)
  pub one : (x y : ℕ) → x < size s + size t → y < size s + size t → Joined s t x y → c x ≡ c y
  pub apart : (x y : ℕ) → x < size s + size t → y < size s + size t → c x ≡ c y → Joined s t x y

-- m is the merge of s and t but for the kinds: its places are the classes of joined places, with all their slots, and it is well
-- formed; each place has what stands in v for the kind of the class
pub record Shaped {K F : Type 0} (s t : Sheet K) (v : Sheet F) (c : ℕ → ℕ) (m : Sheet F) : Type 0 where
  pub formed : Formed m
  pub class : ℕ → ℕ
  pub root_left : class 0 ≡ 0
  pub root_right : class (size s) ≡ 0
  pub within : (x : ℕ) → x < size s + size t → class x < size m
  pub onto : (p : ℕ) → p < size m → (x : ℕ) × (x < size s + size t) × (class x ≡ p)
  pub edges : (x f y : ℕ) → Side s t x f y → Slot m (class x) f (class y)
  pub only : (p f q : ℕ) → Slot m p f q → (x : ℕ) × (y : ℕ) × (class x ≡ p) × (class y ≡ q) × Side s t x f y
  pub one : (x y : ℕ) → x < size s + size t → y < size s + size t → Joined s t x y → class x ≡ class y
  pub apart : (x y : ℕ) → x < size s + size t → y < size s + size t → class x ≡ class y → Joined s t x y
  pub kinds : (d : F) (x : ℕ) → x < size s + size t → kind_at d m.places (class x) ≡ kind_at d v.places (c x)

-- Two well formed sheets side by side, with the classes of joined places, are what a quotient can be taken of.
abbrev pub Ready : Type 0 → Type 0 → Type 0
Ready K F =
    (s t w : Sheet K) (v : Sheet F) (c : ℕ → ℕ) → Formed s → Formed t → Beside s t w → Alike w v → Classes s t c
    → Work v.places v.slots c

-- And the quotient is the merge of the two sheets but for the kinds.
abbrev pub Assembled : Type 0 → Type 0 → Type 0
Assembled K F =
    (s t w : Sheet K) (v : Sheet F) (c : ℕ → ℕ) → Formed s → Formed t → Beside s t w → Alike w v → Classes s t c
    → (m : Sheet F) → Quotient v.places v.slots c m.places m.slots → Shaped s t v c m
