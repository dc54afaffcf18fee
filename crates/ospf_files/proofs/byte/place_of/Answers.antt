use Rattle.std.proofs.Common.{◌==◌, sym, arith}
use Rattle.std.proofs.lemmas.Bool.{eq-eqb}
use Rattle.std.proofs.lemmas.List.Sums.{position_or_len_is}
use Rattle.ospf_files.proofs.byte.place_of.Goals as goal

pub returns-then-text-place : goal.returns-then-text-place
returns-then-text-place c =
    sym (position_or_len_is (λ b. b == c.args.byte) c.args.text.now c.loop-place.place 0 (omega (arith, c.loop-place-test.true)) c.loop-place.invariant (λ l. eq-eqb _ c.args.byte c.if-text-place.true))

pub returns : goal.returns
returns c =
    sym (position_or_len_is (λ b. b == c.args.byte) c.args.text.now _ 0 (omega arith) (λ k l. c.loop-place.invariant k (omega (arith, c.loop-place-test.false))) (λ l. absurd (omega arith)))
