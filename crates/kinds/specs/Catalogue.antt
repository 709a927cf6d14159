-- The catalogue: the sixteen kinds with word and code, their order, and what two of them have in common.
use Rattle.std.specs.Prelude.{◌≡◌, ℕ, cond, List, [], ◌∷◌, Some, None, codes, Option, ◌==◌, bit_and, nat_lt, slice_get, slice_index_or}
use Rattle.kinds.specs.declared.catalogue.Catalogue.{Catalogue}
use Rattle.kinds.specs.declared.catalogue.Catalogue.TheVariants.{Thing, Ware, Electrical, Mover, Striking, Outdoor, OutdoorMover, OutdoorStriker, SwingMotor, InsideStriker, OutsideStriker, ChimeHammer, Controller, Bell, Headstock, Tune}

-- the kinds in order
abbrev pub listed : List Catalogue
listed = Thing ∷ Ware ∷ Electrical ∷ Mover ∷ Striking ∷ Outdoor ∷ OutdoorMover ∷ OutdoorStriker ∷ SwingMotor ∷ InsideStriker ∷ OutsideStriker ∷ ChimeHammer ∷ Controller ∷ Bell ∷ Headstock ∷ Tune ∷ []

-- the code of each kind: a bit for each least kind at or below it
abbrev pub code : Catalogue → ℕ
code Thing = 0xFF
code Ware = 0x7F
code Electrical = 0x1F
code Mover = 0x0F
code Striking = 0x0E
code Outdoor = 0x67
code OutdoorMover = 0x07
code OutdoorStriker = 0x06
code SwingMotor = 0x01
code InsideStriker = 0x02
code OutsideStriker = 0x04
code ChimeHammer = 0x08
code Controller = 0x10
code Bell = 0x20
code Headstock = 0x40
code Tune = 0x80

-- the word of each kind
abbrev pub word : Catalogue → List ℕ
word Thing = codes "thing"
word Ware = codes "ware"
word Electrical = codes "electrical"
word Mover = codes "mover"
word Striking = codes "striking"
word Outdoor = codes "outdoor"
word OutdoorMover = codes "outdoor_mover"
word OutdoorStriker = codes "outdoor_striker"
word SwingMotor = codes "swing_motor"
word InsideStriker = codes "inside_striker"
word OutsideStriker = codes "outside_striker"
word ChimeHammer = codes "chime_hammer"
word Controller = codes "controller"
word Bell = codes "bell"
word Headstock = codes "headstock"
word Tune = codes "tune"

-- the number of each kind in the order above, which is its stored form
abbrev pub index : Catalogue → ℕ
index Thing = 0
index Ware = 1
index Electrical = 2
index Mover = 3
index Striking = 4
index Outdoor = 5
index OutdoorMover = 6
index OutdoorStriker = 7
index SwingMotor = 8
index InsideStriker = 9
index OutsideStriker = 10
index ChimeHammer = 11
index Controller = 12
index Bell = 13
index Headstock = 14
index Tune = 15

-- the kind with this number, and none past the last
abbrev pub kind_at : ℕ → Option Catalogue
kind_at n = cond (nat_lt n 16) (Some (slice_index_or listed n Thing)) None

-- a is at or below b: the bits of a are among those of b
abbrev pub Within : Catalogue → Catalogue → Type 0
Within a b = bit_and (code a) (code b) ≡ code a

-- the rule of the meet: the code of the answer is the bitwise and of both codes, and the answer is none where that is 0
abbrev pub MeetRule : Catalogue → Catalogue → Option Catalogue → Type 0
MeetRule a b (Some m) = code m ≡ bit_and (code a) (code b)
MeetRule a b None = bit_and (code a) (code b) ≡ 0

-- the first kind of a list that has this code
abbrev pub coded : ℕ → List Catalogue → Option Catalogue
coded n [] = None
coded n (k ∷ ks) = cond (code k == n) (Some k) (coded n ks)

-- the meet of a and b: the kind whose bits are those that both have
abbrev pub shared : Catalogue → Catalogue → Option Catalogue
shared a b = coded (bit_and (code a) (code b)) listed

-- the meet of each two kinds stands in the row of the first and the column of the second, which are there
pub record MeetTable (table : List (List (Option Catalogue))) : Type 0 where
  pub right : (a b : Catalogue) → slice_get (slice_index_or table (index a) []) (index b) ≡ Some (shared a b)
