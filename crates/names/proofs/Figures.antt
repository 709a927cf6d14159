-- Figures and bytes: one is the other again.
use Rattle.std.proofs.Common.{◌≡◌, ℕ, ◌<◌, ◌≤◌, inl, inr, arith}
use Rattle.std.proofs.lemmas.Bool.Decides.{nat_tests}
use Rattle.names.specs.Names.{Letter, NameByte, figure}
use Rattle.names.specs.Spellings.{byte}

pub figure_some : (b : ℕ) → NameByte b → 0 < figure b
figure_some b (inl l) = grind (arith, nat_tests)
figure_some b (inr (inl d)) = grind (arith, nat_tests)
figure_some b (inr (inr e)) = grind (arith, nat_tests)

pub figure_few : (b : ℕ) → NameByte b → figure b ≤ 37
figure_few b (inl l) = grind (arith, nat_tests)
figure_few b (inr (inl d)) = grind (arith, nat_tests)
figure_few b (inr (inr e)) = grind (arith, nat_tests)

pub figure_letter : (b : ℕ) → Letter b → figure b ≤ 26
figure_letter b l = grind (arith, nat_tests)

-- of the bytes of names only the letters have figures up to 26
pub letter_figure : (b : ℕ) → NameByte b → figure b ≤ 26 → Letter b
letter_figure b (inl l) h = l
letter_figure b (inr (inl d)) h = absurd (grind (arith, nat_tests))
letter_figure b (inr (inr e)) h = absurd (grind (arith, nat_tests))

pub byte_figure : (b : ℕ) → NameByte b → byte (figure b) ≡ b
byte_figure b (inl l) = grind (arith, nat_tests)
byte_figure b (inr (inl d)) = grind (arith, nat_tests)
byte_figure b (inr (inr e)) = grind (arith, nat_tests)

pub figure_byte : (f : ℕ) → 0 < f → f ≤ 37 → figure (byte f) ≡ f
figure_byte f some few = grind (arith, nat_tests)

pub name_byte : (f : ℕ) → 0 < f → f ≤ 37 → NameByte (byte f)
name_byte f some few = grind (arith, nat_tests)

pub byte_ascii : (f : ℕ) → f ≤ 37 → byte f < 128
byte_ascii f few = grind (arith, nat_tests)
