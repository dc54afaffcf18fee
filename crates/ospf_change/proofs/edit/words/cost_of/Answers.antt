use Rattle.std.proofs.Common.{◌≡◌, ◌<◌, ◌≤◌, ◌^◌, ℕ, Ok, arith, decimal, subst, sym, ap, ◌∙◌}
use Rattle.std.proofs.lemmas.Fmt.{parse-decimal}
use Rattle.ospf_change.proofs.edit.words.cost_of.Goals as goal
use Rattle.ospf_change.proofs.edit.words.cost_of.Goals.{else-cost-gt0-via-then-cost-gt0+in_ok-is_decimal+else-branch, else-cost-gt0-via-else-cost-gt0}

small : (n : ℕ) → n < 2 ^ 16 → n < 2 ^ 64
small n below = omega (arith, below)

pub returns-in_default-clause-none : goal.returns-in_default-clause-none
returns-in_default-clause-none c = λ n cost is.
    let e : c.parse.result ≡ Ok n = parse-decimal 16 n c.args.digits.now c.parse.result cost.1 (small n cost.1) is c.parse.ensures.value.0 in
    cc

pub returns-else-cost-gt0-clause-none : goal.returns-else-cost-gt0-clause-none
returns-else-cost-gt0-clause-none c = λ n cost is.
    let e : c.parse.result ≡ Ok n = parse-decimal 16 n c.args.digits.now c.parse.result cost.1 (small n cost.1) is c.parse.ensures.value.0 in
    let same : n ≡ c.in-Ok.cost = cc in
    elim c.else-cost-gt0.branch [
      | else-cost-gt0-via-then-cost-gt0+in_ok-is_decimal+else-branch w ↦ let t = w.in_ok-is_decimal.ensures.1 (is ∙ ap decimal same) in let f = w.if-branch.false in cc
      | else-cost-gt0-via-else-cost-gt0 w ↦ (let low = cost.0 in let none = w.if-cost-gt0.false in omega (arith, low, none, same))
    ]
