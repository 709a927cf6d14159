use Rattle.std.proofs.Common.{◌≡◌, ℕ, [], ◌∷◌, ◌++◌, length, set, sym, subst, arith, rules}
use Rattle.std.specs.Prelude.{Some}
use Rattle.numbering.specs.Numbers.{Known, Only}
use Rattle.numbering.proofs.Given.{extended_found, room, known_more, only_more}
use Rattle.numbering.proofs.numbers.Numbers.number_of.Goals as goal

pub returns-in-Some : goal.returns-in-Some
returns-in-Some c =
    let self = c.args.self.now in
    let there = self.only c.args.v c.in-Some.j c.in-Some.is in
    extended_found self.order.items self.number self.known c.args.v c.in-Some.j there.0 there.1

pub push-requires : goal.push-requires
push-requires c =
    let self = c.args.self.now in
    (omega arith, room self.order.items self.number self.known c.args.v c.in_default.is 1000 (search rules) c.requires)

pub invariant_of-self : goal.invariant_of-self
invariant_of-self c =
    let self = c.args.self.now in
    let o = self.order.items in
    let v : ℕ = c.args.v in
    let wide : length self.number ≡ 1000 = search rules in
    record {
      known = subst (λ l. Known l (set self.number v (Some c.len-j.result))) (sym c.push.ensures.items)
          (subst (λ n. Known (o ++ v ∷ []) (set self.number v (Some n))) (sym c.len-j.ensures.value) (known_more o self.number self.known v c.in_default.is (omega arith)));
      only = subst (λ l. Only l (set self.number v (Some c.len-j.result))) (sym c.push.ensures.items)
          (subst (λ n. Only (o ++ v ∷ []) (set self.number v (Some n))) (sym c.len-j.ensures.value) (only_more o self.number self.known v c.in_default.is (omega arith) self.only));
    }
