use Rattle.std.proofs.Common.{sym, arith}
use Rattle.std.proofs.lemmas.Bool.{ne_eqb}
use Rattle.std.proofs.lemmas.List.Sums.{prefix_len_is}
use Rattle.ospf_script.specs.Words.{is_space}
use Rattle.ospf_script.proofs.words.leading_spaces.Goals as goal

pub returns-then-text-place-ne32 : goal.returns-then-text-place-ne32
returns-then-text-place-ne32 c =
    sym (prefix_len_is is_space c.args.text.now c.loop-place.place 0 (omega (arith, c.loop-place-test.true)) c.loop-place.invariant (λ l. ne_eqb _ 32 c.if-text-place-ne32.true))

pub returns : goal.returns
returns c =
    sym (prefix_len_is is_space c.args.text.now _ 0 (omega arith) (λ k l. c.loop-place.invariant k (omega (arith, c.loop-place-test.false))) (λ l. absurd (omega arith)))
