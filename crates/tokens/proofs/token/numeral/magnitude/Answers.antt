use Rattle.std.proofs.Common.{◌≡◌, ℕ, ◌<◌, ◌^◌, true, length, Some, None, Ok, Err, Result, MatchResult, IsUtf8, subst, sym}
use Rattle.std.specs.Option.{SomeIff}
use Rattle.std.specs.Result.{OkIff, result_ok}
use Rattle.std.specs.Str.{all_ascii_digits}
use Rattle.std.proofs.lemmas.Str.{IsUtf8-from_ascii}
use Rattle.std.proofs.lemmas.Str.Parse.{parse_digits}
use Rattle.std.proofs.lemmas.Fmt.{IsAscii-from_digits}
use Rattle.tokens.specs.Tokens.{value}
use Rattle.tokens.proofs.Back.{own}
use Rattle.tokens.proofs.token.numeral.magnitude.Goals as goal

-- what holds of a result, where it is one or the other
found : {A E : Type 0} (P : A → Type 0) (Q : E → Type 0) (r : Result A E) (x : A) → MatchResult r P Q → Some x ≡ result_ok r → P x
found P Q (Ok y) x h e = let same : y ≡ x = cc in subst P same h
found P Q (Err y) x h e = absurd (cc)

missed : {A E F : Type 0} (P : A → Type 0) (Q : E → Type 0) (r : Result A E) → MatchResult r P Q → None ≡ result_ok r → ((e : E) → Q e → F) → F
missed P Q (Ok y) h e f = absurd (cc)
missed P Q (Err y) h e f = f y h

ok_iff : {E : Type 0} (P : Type 0) (v : ℕ) (r : Result ℕ E) → OkIff r P v → SomeIff (result_ok r) P v
ok_iff P v (Ok x) h = h
ok_iff P v (Err e) h = h

pub returns-in_err-ok : goal.returns-in_err-ok
returns-in_err-ok c =
    let u : IsUtf8 c.args.digits.now = IsUtf8-from_ascii _ (IsAscii-from_digits _ (own.to _ c.requires)) in
    missed _ _ c.from_utf8.result c.from_utf8.ensures.cases c.in_err-ok.ensures.value (λ e no. absurd (no.0 u))

pub returns : goal.returns
returns c =
    let text = (found _ _ c.from_utf8.result c.in_ok-ok.field-0 c.from_utf8.ensures.cases c.in_ok-ok.ensures.value).0 in
    let parsed = parse_digits own 32 c.in_ok-ok.field-0.now _ c.parse.ensures.value.0 (subst (λ ds. all_ascii_digits ds ≡ true) (sym text) c.requires) in
    subst (λ o. SomeIff o ((0 < length c.args.digits.now) × (value c.args.digits.now < 2 ^ 32)) (value c.args.digits.now)) (sym c.ok-2.ensures.value)
    (ok_iff _ _ c.parse.result (subst (λ ds. OkIff c.parse.result ((0 < length ds) × (value ds < 2 ^ 32)) (value ds)) text parsed))
