use Rattle.std.proofs.Common.{rules, ◌≡◌, ◌++◌, ◌∷◌, [], ap, ◌∙◌, string_bytes}
use Rattle.std.proofs.lemmas.List.{take_all}
use Rattle.ospf_words.proofs.WordLemmas.{more_texts, texts_of}
use Rattle.ospf_words.proofs.words.owned.Goals as goal

pub loop-word-preserved : goal.loop-word-preserved
loop-word-preserved c =
    let items : c.push.new.self.items ≡ c.loop-word.texts.items ++ c.in_ok-from_str.field-0 ∷ [] = search rules in
    rw items (more_texts string_bytes c.args.words.now c.loop-word.word-index _ c.loop-word.texts.items c.in_ok-from_str.field-0 c.loop-word-test.true
    c.loop-word.invariant c.in_ok-from_str.ensures.ok)

pub returns : goal.returns
returns c = c.loop-word.invariant ∙ ap texts_of (take_all c.loop-word.word-index c.args.words.now c.loop-word-test.false)
