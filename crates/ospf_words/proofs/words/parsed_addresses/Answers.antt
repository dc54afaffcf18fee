use Rattle.std.proofs.Common.{rules, ◌≡◌, ◌++◌, ◌∷◌, [], subst, sym}
use Rattle.ospf_words.specs.Job.{IsFaultOfValue}
use Rattle.ospf_words.specs.Unasked.{IsFirstWrong}
use Rattle.ospf_words.proofs.WordLemmas.{err_kept, first_wrong, spell_more, texts_of, value_weaker}
use Rattle.ospf_words.proofs.words.parsed_addresses.Goals as goal

pub loop-word-preserved : goal.loop-word-preserved
loop-word-preserved c =
    let items : c.push.new.self.items ≡ c.loop-word.addresses.items ++ c.in_ok-parsed.field-0 ∷ [] = search rules in
    rw items (spell_more c.args.words.now c.loop-word.word-index _ c.loop-word.addresses.items c.in_ok-parsed.field-0 c.loop-word-test.true c.loop-word.invariant
    c.in_ok-parsed.ensures.value)

pub returns-in_err-parsed-clause-fault : goal.returns-in_err-parsed-clause-fault
returns-in_err-parsed-clause-fault c =
    let wrong = IsFaultOfValue (IsFirstWrong (texts_of c.args.words.now)) in
    err_kept c.from_residual-in_err-parsed.result (λ f. f ≡ c.in_err-parsed.field-0.0) wrong c.from_residual-in_err-parsed.ensures.1
    (λ f is. subst wrong (sym is) (value_weaker _ _ c.in_err-parsed.field-0.0
    (first_wrong c.args.words.now c.loop-word.word-index _ c.loop-word.addresses.items c.loop-word-test.true c.loop-word.invariant)
    c.in_err-parsed.ensures.fault))
