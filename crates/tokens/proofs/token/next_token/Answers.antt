use Rattle.std.proofs.Common.{◌+◌, length, arith}
use Rattle.std.proofs.lemmas.Result.{err_from_is_err_and}
use Rattle.tokens.specs.Answers.{meant, refused}
use Rattle.tokens.specs.Tokens.{token, Ahead}
use Rattle.tokens.proofs.Ahead.{weaker, at_ahead}
use Rattle.tokens.proofs.token.next_token.Goals as goal

pub returns-in_err-token-clause-ahead : goal.returns-in_err-token-clause-ahead
returns-in_err-token-clause-ahead c =
    let p = err_from_is_err_and c.from_residual.result c.from_residual.ensures.1 in
    let line = c.args.line.now in
    let look = c.in-Some.ensures.lookup in
    let start = c.args.from + c.run.result in
    let ahead = at_ahead line start (refused c.in_err-token.field-0.0) (omega arith) c.in_err-token.ensures in
    rw (p.1, p.2) (weaker start (length line) c.args.from (length line) (refused c.in_err-token.field-0.0) (omega arith) (omega arith) ahead)

stands : (c : goal.After-token-1) → Ahead (c.args.from + c.run.result) (length c.args.line.now) (token (meant c.in_ok-token.token) (c.args.from + c.run.result) c.in_ok-token.end)
stands c = let look = c.in-Some.ensures.lookup in at_ahead c.args.line.now (c.args.from + c.run.result) _ (omega arith) c.in_ok-token.ensures

pub slice_bounds-result-start : goal.slice_bounds-result-start
slice_bounds-result-start c = let a = stands c in omega arith

pub slice_bounds-result-end : goal.slice_bounds-result-end
slice_bounds-result-end c = let a = stands c in omega arith

pub slice_bounds-result-count : goal.slice_bounds-result-count
slice_bounds-result-count c = let a = stands c in omega arith

pub returns-clause-ahead : goal.returns-clause-ahead
returns-clause-ahead c =
    let look = c.in-Some.ensures.lookup in
    let a = at_ahead c.args.line.now (c.args.from + c.run.result) _ (omega arith) c.in_ok-token.ensures in
    omega arith
