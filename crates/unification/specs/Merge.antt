-- The merge of two sheets, and when two sheets clash. (The field says unification.)
use Rattle.std.specs.Prelude.{◌≡◌, ℕ, ◌+◌, ◌<◌, List, [], ◌∷◌, Option}
use mathlib.Core.List.{Memᴰ as On}
use Rattle.kinds.specs.Laws.{KindLaws}
use Rattle.records.specs.Sheets.{Sheet, size, Slot, Formed, kind_of, blank_sheet}
use Rattle.records.specs.Satisfaction.{Satisfies}
use Rattle.records.specs.Beside.{Side, Joined}

module _ {K F : Type 0} {below : K → K → Type 0} {top : K} {form : K → F} {kind : F → Option K} (laws : KindLaws below top form kind) where
  -- the kind k is at or below the kind that the place x has, side by side
  pub record Under (s t : Sheet K) (k : K) (x : ℕ) : Type 0 where
    pub if_left : x < size s → below k (kind_of laws s x)
    pub if_right : (p : ℕ) → x ≡ size s + p → p < size t → below k (kind_of laws t p)

  -- m is the merge of s and t: its places are the classes of joined places
  pub record IsMerge (s t m : Sheet K) : Type 0 where
    -- it is numbered as every sheet is
    pub formed : Formed m
    -- each place of either sheet has its class, a place of m; the class of the roots is the root
    pub class : ℕ → ℕ
    pub root : class 0 ≡ 0
    pub within : (x : ℕ) → x < size s + size t → class x < size m
    pub onto : (p : ℕ) → p < size m → (x : ℕ) × (x < size s + size t) × (class x ≡ p)
    -- joined places have one class, and only joined places have
    pub one : (x y : ℕ) → x < size s + size t → y < size s + size t → Joined s t x y → class x ≡ class y
    pub apart : (x y : ℕ) → x < size s + size t → y < size s + size t → class x ≡ class y → Joined s t x y
    -- the kind of a class is the meet of its members' kinds: at or below each of them, and the greatest that is
    pub under : (x : ℕ) → x < size s + size t → Under s t (kind_of laws m (class x)) x
    pub greatest : (p : ℕ) (k : K) → p < size m → ((x : ℕ) → x < size s + size t → class x ≡ p → Under s t k x) → below k (kind_of laws m p)
    -- a class has the slots of all its members, and no others
    pub all : (x f y : ℕ) → Side s t x f y → Slot m (class x) f (class y)
    pub only : (p f q : ℕ) → Slot m p f q → (x : ℕ) × (y : ℕ) × (class x ≡ p) × (class y ≡ q) × Side s t x f y

  -- the sheets clash: the members of some class have no kind in common
  pub record Clash (s t : Sheet K) : Type 0 where
    pub place : ℕ
    pub inside : place < size s + size t
    pub none : (k : K) → ((x : ℕ) → x < size s + size t → Joined s t place x → Under s t k x) → ⊥

  -- What a program that merges has to show of its result: the rest of `IsMerge` follows.
  pub record Made (s t m : Sheet K) : Type 0 where
    pub formed : Formed m
    pub class : ℕ → ℕ
    pub root_left : class 0 ≡ 0
    pub root_right : class (size s) ≡ 0
    pub apart : (x y : ℕ) → x < size s + size t → y < size s + size t → class x ≡ class y → Joined s t x y
    pub under : (x : ℕ) → x < size s + size t → Under s t (kind_of laws m (class x)) x
    pub greatest : (p : ℕ) (k : K) → p < size m → ((x : ℕ) → x < size s + size t → class x ≡ p → Under s t k x) → below k (kind_of laws m p)
    pub all : (x f y : ℕ) → Side s t x f y → Slot m (class x) f (class y)
    pub only : (p f q : ℕ) → Slot m p f q → (x : ℕ) × (y : ℕ) × (class x ≡ p) × (class y ≡ q) × Side s t x f y

  -- ---- lists of asks, each a sheet

  -- m stands for the asks of a list: it satisfies each of them, and every sheet that satisfies each of them satisfies m
  pub record Standing (asks : List (Sheet K)) (m : Sheet K) : Type 0 where
    pub formed : Formed m
    pub each : (a : Sheet K) → On a asks → Satisfies laws m a
    pub most : (u : Sheet K) → Formed u → ((a : Sheet K) → On a asks → Satisfies laws u a) → Satisfies laws u m

  -- m is what merging the asks one after the other comes to, from the blank sheet; the newest ask is the head of the list
  pub data Merged : List (Sheet K) → Sheet K → Type 0 where
    none : Merged [] (blank_sheet laws)
    more : {asks : List (Sheet K)} {m m' : Sheet K} (a : Sheet K) → Merged asks m → Formed a → IsMerge m a m' → Merged (a ∷ asks) m'

  -- merging the asks one after the other comes to a clash, with the newest ask or with an older one
  pub data Clashing : List (Sheet K) → Type 0 where
    newest : {asks : List (Sheet K)} {m : Sheet K} (a : Sheet K) → Merged asks m → Formed a → Clash m a → Clashing (a ∷ asks)
    older : {asks : List (Sheet K)} (a : Sheet K) → Clashing asks → Clashing (a ∷ asks)
