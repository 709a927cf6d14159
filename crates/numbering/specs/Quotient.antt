-- The quotient of a graph by a closed equivalence: what the graph has to be, and what is written of it.
use Rattle.std.specs.Prelude.{◌≡◌, ℕ, ◌+◌, ◌<◌, ◌≤◌, List, length, drop, slice_index}
use Rattle.records.specs.declared.PlaceRecord.{PlaceRecord}
use Rattle.records.specs.declared.SlotRecord.{SlotRecord}
use Rattle.records.specs.Tables.{first_at, count_at, kind_at, name_at, target_at, Owns, Edge, WellFormed}

-- the number that a table of numbers has at j, and 0 past it
abbrev pub at : List ℕ → ℕ → ℕ
at table j = slice_index table j

-- x is reached from the place 0 by edges and by steps within a class
pub data Reached {F : Type 0} (wp : List (PlaceRecord F)) (ws : List SlotRecord) (c : ℕ → ℕ) : ℕ → Type 0 where
  start : Reached wp ws c 0
  along : {x y : ℕ} (f : ℕ) → Reached wp ws c x → Edge wp ws x f y → Reached wp ws c y
  across : {x y : ℕ} → Reached wp ws c x → y < length wp → c x ≡ c y → Reached wp ws c y

-- wp and ws are a graph of places, each with a block of slots of its own by rising name, and every place is reached from the first;
-- c x is a place of the class of x, the same for the whole class; and the classes are closed: the slots of one name of one class lead
-- to one class
pub record Work {F : Type 0} (wp : List (PlaceRecord F)) (ws : List SlotRecord) (c : ℕ → ℕ) : Type 0 where
  pub rooted : 0 < length wp
  pub inside : (x : ℕ) → x < length wp → c x < length wp
  pub rests : (x : ℕ) → x < length wp → c (c x) ≡ c x
  pub blocks : (x : ℕ) → first_at wp x + count_at wp x ≤ length ws
  pub aimed : (i : ℕ) → i < length ws → target_at ws i < length wp
  pub own : (x y i : ℕ) → Owns wp x i → Owns wp y i → x ≡ y
  pub rising : (x i j : ℕ) → i < j → Owns wp x i → Owns wp x j → name_at ws i < name_at ws j
  pub closed : (x y f p q : ℕ) → Edge wp ws x f p → Edge wp ws y f q → c x ≡ c y → c p ≡ c q
  pub reached : (x : ℕ) → x < length wp → Reached wp ws c x

-- the same without the way to each place: what the writing of one class rests on
pub record Graph {F : Type 0} (wp : List (PlaceRecord F)) (ws : List SlotRecord) (c : ℕ → ℕ) : Type 0 where
  pub rooted : 0 < length wp
  pub inside : (x : ℕ) → x < length wp → c x < length wp
  pub rests : (x : ℕ) → x < length wp → c (c x) ≡ c x
  pub blocks : (x : ℕ) → first_at wp x + count_at wp x ≤ length ws
  pub aimed : (i : ℕ) → i < length ws → target_at ws i < length wp
  pub own : (x y i : ℕ) → Owns wp x i → Owns wp y i → x ≡ y
  pub rising : (x i j : ℕ) → i < j → Owns wp x i → Owns wp x j → name_at ws i < name_at ws j
  pub closed : (x y f p q : ℕ) → Edge wp ws x f p → Edge wp ws y f q → c x ≡ c y → c p ≡ c q

-- ps and ss are the sheet of the classes, numbered as the slots meet them
pub record Quotient {F : Type 0} (wp : List (PlaceRecord F)) (ws : List SlotRecord) (c : ℕ → ℕ) (ps : List (PlaceRecord F)) (ss : List SlotRecord) : Type 0 where
  pub formed : WellFormed ps ss
  pub class : ℕ → ℕ
  pub root : class 0 ≡ 0
  pub within : (x : ℕ) → x < length wp → class x < length ps
  pub onto : (p : ℕ) → p < length ps → (x : ℕ) × (x < length wp) × (class x ≡ p)
  pub one : (x y : ℕ) → x < length wp → y < length wp → c x ≡ c y → class x ≡ class y
  pub apart : (x y : ℕ) → x < length wp → y < length wp → class x ≡ class y → c x ≡ c y
  pub kinds : (d : F) (x : ℕ) → x < length wp → kind_at d ps (class x) ≡ kind_at d wp (c x)
  pub edges : (x f y : ℕ) → Edge wp ws x f y → Edge ps ss (class x) f (class y)
  pub only : (p f q : ℕ) → Edge ps ss p f q → (x : ℕ) × (y : ℕ) × (class x ≡ p) × (class y ≡ q) × Edge wp ws x f y

-- from n on a table is as it was
abbrev pub Kept : {X : Type 0} → ℕ → List X → List X → Type 0
Kept n old new = drop n new ≡ drop n old
