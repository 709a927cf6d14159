-- Two sheets side by side, and which of their places have to be one. The place p of s is p, and the place p of t is size s + p.
use Rattle.std.specs.Prelude.{◌≡◌, ℕ, ◌+◌, ◌<◌}
use Rattle.records.specs.Tables.{first_at, count_at, kind_at, name_at, target_at}
use Rattle.records.specs.Sheets.{Sheet, size, width, Slot}

module _ {K : Type 0} where
  -- one of the two sheets has a slot of the name f from x to y
  pub data Side (s t : Sheet K) (x f y : ℕ) : Type 0 where
    left : Slot s x f y → Side s t x f y
    right : (p q : ℕ) → x ≡ size s + p → y ≡ size s + q → Slot t p f q → Side s t x f y

  -- Joined places: the roots, and with two joined places the targets of their slots of one name, until no more follows. (The field
  -- says coreference closure.)
  pub data Joined (s t : Sheet K) : ℕ → ℕ → Type 0 where
    roots : Joined s t 0 (size s)
    same : {x : ℕ} → Joined s t x x
    back : {x y : ℕ} → Joined s t x y → Joined s t y x
    trans : {x y z : ℕ} → Joined s t x y → Joined s t y z → Joined s t x z
    follow : {x y x' y' : ℕ} (f : ℕ) → Joined s t x y → Side s t x f x' → Side s t y f y' → Joined s t x' y'

  -- the tables w hold the records of s, and after them those of t with their numbers moved on
  pub record Beside (s t w : Sheet K) : Type 0 where
    pub places : size w ≡ size s + size t
    pub slots : width w ≡ width s + width t
    pub kind_left : (d : K) (x : ℕ) → x < size s → kind_at d w.places x ≡ kind_at d s.places x
    pub first_left : (x : ℕ) → x < size s → first_at w.places x ≡ first_at s.places x
    pub count_left : (x : ℕ) → x < size s → count_at w.places x ≡ count_at s.places x
    pub name_left : (i : ℕ) → i < width s → name_at w.slots i ≡ name_at s.slots i
    pub target_left : (i : ℕ) → i < width s → target_at w.slots i ≡ target_at s.slots i
    pub kind_right : (d : K) (x : ℕ) → x < size t → kind_at d w.places (size s + x) ≡ kind_at d t.places x
    pub first_right : (x : ℕ) → x < size t → first_at w.places (size s + x) ≡ width s + first_at t.places x
    pub count_right : (x : ℕ) → x < size t → count_at w.places (size s + x) ≡ count_at t.places x
    pub name_right : (i : ℕ) → i < width t → name_at w.slots (width s + i) ≡ name_at t.slots i
    pub target_right : (i : ℕ) → i < width t → target_at w.slots (width s + i) ≡ size s + target_at t.slots i
